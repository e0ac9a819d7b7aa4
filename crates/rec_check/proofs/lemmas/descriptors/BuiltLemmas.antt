-- The patterns that are built so far, and one more.
use Rattle.std.proofs.Common.{◌≡◌, ◌∙◌, inl, inr, ℕ, true, cond, List, [], ◌∷◌, Some, ap, map, sym, subst}
use Rattle.std.proofs.lemmas.Bool.{cases_Bool, or_left, or_right}
use Rattle.std.proofs.lemmas.Map.Text.{hash_map_updates_text}
use Rattle.std.proofs.lemmas.Option.{none-some, same_Some}
use Rattle.std.specs.HashMap.{HashMap, UpdatesBy, get_by_text}
use Rattle.std.specs.Map.{keys_of, lookup}
use Rattle.std.specs.Prelude.{String}
use Rattle.std.specs.Str.{bytes_eq}
use Rattle.std.specs.String.{string_bytes, string_eq}
use Rattle.std.specs.declared.rc.Rc.{Rc}
use Rattle.regex.specs.declared.string.regex.Regex.{Regex}
use Rattle.rec_text.proofs.lemmas.ListLemmas.{same_bytes, bytes_eq-self}
use Rattle.rec_sex.specs.Patterns.{IsBuiltFrom}
use Rattle.rec_check.specs.proving.Patterns.{ArePatterns, texts_of}
use Rattle.rec_text.specs.Bytes.{is_among}

-- a text that finds a value is among the texts
found_among : {X Y : Type 0} (text : List ℕ) (value : X) (entries : List (String Y × X)) → lookup (λ key. bytes_eq text (string_bytes key)) entries ≡ Some value
    → is_among (map string_bytes (keys_of entries)) text ≡ true
found_among text value [] found = absurd (none-some value found)
found_among text value (entry ∷ entries) found = elim (cases_Bool (bytes_eq text (string_bytes entry.0))) [
  | inl same ↦ or_left (bytes_eq text (string_bytes entry.0)) (is_among (map string_bytes (keys_of entries)) text) same
  | inr other ↦ or_right (bytes_eq text (string_bytes entry.0)) (is_among (map string_bytes (keys_of entries)) text)
      (found_among text value entries (sym (ap (λ b. cond b (Some entry.1) (lookup (λ key. bytes_eq text (string_bytes key)) entries)) other) ∙ found))
]

module _ {Y Z S : Type 0} (built : HashMap (String Y) (Rc Regex Z) S) (text : List ℕ) where
  pub texts_of-found : (pattern : Rc Regex Z) → get_by_text built text ≡ Some pattern → is_among (texts_of built) text ≡ true
  texts_of-found pattern found = found_among text pattern built.entries found

  pub found_pattern : (pattern copy : Rc Regex Z) → ArePatterns built → get_by_text built text ≡ Some pattern → copy.value ≡ pattern.value → IsBuiltFrom text copy.value
  found_pattern pattern copy are found same = subst (IsBuiltFrom text) (sym same) (are text pattern found)

  module _ (key : String Y) (kept pattern : Rc Regex Z) (more : HashMap (String Y) (Rc Regex Z) S) (key_is : string_bytes key ≡ text)
      (put : UpdatesBy string_eq (λ k. bytes_eq (string_bytes key) (string_bytes k)) built more (Some kept)) where
    found_in_more : (other : List ℕ) → get_by_text more other ≡ cond (bytes_eq text other) (Some kept) (get_by_text built other)
    found_in_more other = hash_map_updates_text (string_bytes key) built more (Some kept) put other ∙ ap (λ t. cond (bytes_eq t other) (Some kept) (get_by_text built other)) key_is

    pub texts_of-more : is_among (texts_of more) text ≡ true
    texts_of-more = found_among text kept more.entries (found_in_more text ∙ ap (λ b. cond b (Some kept) (get_by_text built text)) (bytes_eq-self text))

    pub ArePatterns-more : ArePatterns built → kept.value ≡ pattern.value → IsBuiltFrom text pattern.value → ArePatterns more
    ArePatterns-more are same is = λ other found finds. elim (cases_Bool (bytes_eq text other)) [
      | inl equal ↦
          let one : kept ≡ found = same_Some kept found (sym (found_in_more other ∙ ap (λ b. cond b (Some kept) (get_by_text built other)) equal) ∙ finds) in
          subst (λ t. IsBuiltFrom t found.value) (same_bytes text other equal) (subst (λ (rc : Rc Regex Z). IsBuiltFrom text rc.value) one (subst (IsBuiltFrom text) (sym same) is))
      | inr apart ↦ are other found (sym (found_in_more other ∙ ap (λ b. cond b (Some kept) (get_by_text built other)) apart) ∙ finds)
    ]

pub ArePatterns-unchanged : {Y Z S : Type 0} (built same : HashMap (String Y) (Rc Regex Z) S) → same.entries ≡ built.entries → ArePatterns built → ArePatterns same
ArePatterns-unchanged built same are_same are = λ text pattern found. are text pattern (ap (lookup (λ key. bytes_eq text (string_bytes key))) (sym are_same) ∙ found)
