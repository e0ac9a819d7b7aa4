-- A text's descriptors decide alone whether one of them is faulty, and which rules they give.
use Rattle.std.proofs.Common.{◌≡◌, ◌∙◌, ℕ, true, false, cond, not, ◌||◌, List, [], ◌∷◌, ◌++◌, map, take, Option, Some, None, refl, ap, ap₂, sym, subst, inl, inr, suc, zero, arith}
use Rattle.std.proofs.lemmas.Bool.{and_from, and_parts, cases_Bool, false≢true}
use Rattle.std.proofs.lemmas.List.{append_assoc, append-nil, take-map}
use Rattle.std.proofs.lemmas.Bool.Decides.{nat_tests}
use Rattle.std.proofs.lemmas.List.Splits.{slice_split-cons_no}
use Rattle.std.proofs.lemmas.Option.{slice_get_past, slice_get-map}
use Rattle.std.specs.Prelude.{codes, filter}
use Rattle.std.specs.List.{AllZip, cons_option, filter_map, flat_map, list_all, list_any, onto_first, slice_get, slice_split}
use Rattle.std.specs.Option.{is_some, option_map, option_and_then}
use Rattle.std.specs.Str.{bytes_eq}
use Rattle.rec_text.specs.Bytes.{continues_name, is_letter, is_nil, is_space, is_among}
use Rattle.rec_text.specs.Canonical.{is_plain_name}
use Rattle.rec_text.specs.Elements.{Piece, name_of, has_name}
use Rattle.rec_text.specs.Values.{value_of}
use Rattle.rec_sex.specs.Expressions.{IsExpression}
use Rattle.rec_sex.specs.Meaning.{values_of}
use Rattle.rec_check.specs.proving.Flaws.{element_flaw, field_flaw}
use Rattle.rec_check.specs.Descriptors.{Flaw, bad, bound_in, first_word, rec_flaw, rec_name, special_flaw, special_of, type_of}
use Rattle.rec_check.specs.Rules.{Rules, no_rules, AreRules}
use Rattle.rec_check.specs.Soundness.{says}
use Rattle.rec_check.specs.Types.{IsDefinition, IsTyping}
use Rattle.rec_check.specs.Words.{words}
use Rattle.rec_check.proofs.lemmas.descriptors.DescriptorLemmas.{is_met, list_any-values_of, type_in, type_in-values_of}
use Rattle.rec_check.proofs.lemmas.descriptors.FlawLemmas.{own_flaw}
use Rattle.rec_sex.proofs.lemmas.meaning.PlaceLemmas.{list_any-map}

-- what an element says
abbrev pub Saying : Type 0
Saying = List ℕ × List ℕ

-- ---- of elements nothing else counts than what they say

abbrev values_said : List ℕ → List Saying → List (List ℕ)
values_said name [] = []
values_said name (s ∷ ss) = cond (bytes_eq s.0 name) (s.1 ∷ values_said name ss) (values_said name ss)

values_of-says : (name : List ℕ) (own : List Piece) → values_of name own ≡ values_said name (map says own)
values_of-says name [] = refl
values_of-says name (piece ∷ own) = ap (λ vs. cond (has_name name piece) (value_of piece ∷ vs) vs) (values_of-says name own)

abbrev flaw_said : List (List ℕ) → List Saying → Saying → Option Flaw
flaw_said named before s = option_and_then (λ special. special_flaw special (list_any (λ t. bytes_eq t.0 s.0) before) named s.1) (special_of s.0)

abbrev flaw_among : List (List ℕ) → List Saying → ℕ → Option Flaw
flaw_among named ss k = option_and_then (flaw_said named (take k ss)) (slice_get ss k)

flaw_said-says : (named : List (List ℕ)) (before : List Piece) (o : Option Piece)
    → option_and_then (element_flaw named before) o ≡ option_and_then (flaw_said named (map says before)) (option_map says o)
flaw_said-says named before None = refl
flaw_said-says named before (Some piece) =
    ap (λ b. option_and_then (λ special. special_flaw special b named (value_of piece)) (special_of (name_of piece))) (sym (list_any-map (λ t. bytes_eq t.0 (name_of piece)) says before))

field_flaw-says : (named : List (List ℕ)) (own : List Piece) (k : ℕ) → field_flaw named own k ≡ flaw_among named (map says own) k
field_flaw-says named own k =
    flaw_said-says named (take k own) (slice_get own k)
    ∙ ap₂ (λ before o. option_and_then (flaw_said named before) o) (sym (take-map says k own)) (sym (slice_get-map says own k))

module _ (own other : List Piece) (alike : map says own ≡ map says other) where
  same_values : (name : List ℕ) → values_of name own ≡ values_of name other
  same_values name = values_of-says name own ∙ ap (values_said name) alike ∙ sym (values_of-says name other)

  same_any : (name : List ℕ) → list_any (has_name name) own ≡ list_any (has_name name) other
  same_any name = list_any-values_of name own ∙ ap is_met (same_values name) ∙ sym (list_any-values_of name other)

  pub same_type : type_of own ≡ type_of other
  same_type = sym (type_in-values_of own) ∙ ap type_in (same_values rec_name) ∙ type_in-values_of other

  pub same_own_flaw : (named : List (List ℕ)) (k : ℕ) → own_flaw named own k ≡ own_flaw named other k
  same_own_flaw named k =
      ap₂ (λ b f. cond b f None) (ap is_some same_type) (field_flaw-says named own k ∙ ap (λ ss. flaw_among named ss k) alike ∙ sym (field_flaw-says named other k))

  pub same_asked : (rules : Rules) → AreRules own rules → AreRules other rules
  same_asked rules are = record {
    key = are.key ∙ ap (λ vs. slice_get (flat_map words vs) 0) (same_values (codes "%key"));
    mandatory = are.mandatory ∙ ap (flat_map words) (same_values (codes "%mandatory"));
    prohibited = are.prohibited ∙ ap (flat_map words) (same_values (codes "%prohibit"));
    unique = are.unique ∙ ap (flat_map words) (same_values (codes "%unique"));
    singular = are.singular ∙ ap (flat_map words) (same_values (codes "%singular"));
    allowed = are.allowed ∙ ap₂ (λ b vs. cond b (Some (flat_map words vs)) None) (same_any (codes "%allowed")) (same_values (codes "%allowed"));
    automatic = are.automatic ∙ ap (flat_map words) (same_values (codes "%auto"));
    types = subst (λ vs. AllZip IsTyping vs rules.types) (same_values (codes "%type")) are.types;
    definitions = subst (λ vs. AllZip IsDefinition vs rules.definitions) (same_values (codes "%typedef")) are.definitions;
    size = are.size ∙ ap (λ vs. option_and_then bound_in (slice_get vs 0)) (same_values (codes "%size"));
    constraints = subst (λ vs. AllZip IsExpression vs rules.constraints) (same_values (codes "%constraint")) are.constraints;
  }

-- ---- sound descriptors

-- none of these is faulty, after descriptors of these types
abbrev pub AreSound : List (List ℕ) → List (List Piece) → Type 0
AreSound named [] = Unit {0}
AreSound named (own ∷ owns) = ((k : ℕ) → own_flaw named own k ≡ None) × AreSound (named ++ cons_option (type_of own) []) owns

-- the descriptors among some records
abbrev pub heads : List (List Piece) → List (List Piece)
heads owns = filter (λ own. is_some (type_of own)) owns

-- the types that they name
abbrev pub types_in : List (List Piece) → List (List ℕ)
types_in owns = filter_map type_of owns

pub heads_yes : (own : List Piece) (owns : List (List Piece)) → is_some (type_of own) ≡ true → heads (own ∷ owns) ≡ own ∷ heads owns
heads_yes own owns here = ap (λ b. cond b (own ∷ heads owns) (heads owns)) here

pub heads_no : (own : List Piece) (owns : List (List Piece)) → is_some (type_of own) ≡ false → heads (own ∷ owns) ≡ heads owns
heads_no own owns past = ap (λ b. cond b (own ∷ heads owns) (heads owns)) past

none_is : {X : Type 0} (o : Option X) → is_some o ≡ false → o ≡ None
none_is None none = refl
none_is (Some x) none = absurd (false≢true (sym none))

no_more : (named : List (List ℕ)) (own : List Piece) → is_some (type_of own) ≡ false → named ++ cons_option (type_of own) [] ≡ named
no_more named own past = ap (λ t. named ++ cons_option t []) (none_is (type_of own) past) ∙ append-nil named

pub AreSound-heads : (named : List (List ℕ)) (owns : List (List Piece)) → AreSound named owns → AreSound named (heads owns)
AreSound-heads named [] sound = tt
AreSound-heads named (own ∷ owns) sound = elim (cases_Bool (is_some (type_of own))) [
  | inl here ↦ subst (AreSound named) (sym (heads_yes own owns here)) (sound.0, AreSound-heads (named ++ cons_option (type_of own) []) owns sound.1)
  | inr past ↦
      let rest : AreSound named (heads owns) = subst (λ ns. AreSound ns (heads owns)) (no_more named own past) (AreSound-heads (named ++ cons_option (type_of own) []) owns sound.1) in
      subst (AreSound named) (sym (heads_no own owns past)) rest
]

pub AreSound-all : (named : List (List ℕ)) (owns : List (List Piece)) → AreSound named (heads owns) → AreSound named owns
AreSound-all named [] sound = tt
AreSound-all named (own ∷ owns) sound = elim (cases_Bool (is_some (type_of own))) [
  | inl here ↦ let both : AreSound named (own ∷ heads owns) = subst (AreSound named) (heads_yes own owns here) sound in (both.0, AreSound-all (named ++ cons_option (type_of own) []) owns both.1)
  | inr past ↦
      let rest : AreSound named (heads owns) = subst (AreSound named) (heads_no own owns past) sound in
      let none : (k : ℕ) → own_flaw named own k ≡ None = λ k. ap (λ b. cond b (field_flaw named own k) None) past in
      (none, AreSound-all (named ++ cons_option (type_of own) []) owns (subst (λ ns. AreSound ns (heads owns)) (sym (no_more named own past)) rest))
]

pub types_in-heads : (owns : List (List Piece)) → types_in (heads owns) ≡ types_in owns
types_in-heads [] = refl
types_in-heads (own ∷ owns) = elim (cases_Bool (is_some (type_of own))) [
  | inl here ↦ ap types_in (heads_yes own owns here) ∙ ap (cons_option (type_of own)) (types_in-heads owns)
  | inr past ↦ ap types_in (heads_no own owns past) ∙ types_in-heads owns ∙ sym (ap (λ t. cons_option t (types_in owns)) (none_is (type_of own) past))
]

-- those that say the same
pub AreSound-alike : (named : List (List ℕ)) (ds es : List (List Piece)) → map (map says) ds ≡ map (map says) es → AreSound named ds → AreSound named es
AreSound-alike named [] [] alike sound = tt
AreSound-alike named [] (e ∷ es) alike sound = let no : ⊥ = cc in absurd no
AreSound-alike named (d ∷ ds) [] alike sound = let no : ⊥ = cc in absurd no
AreSound-alike named (d ∷ ds) (e ∷ es) alike sound =
    let first : map says d ≡ map says e = cc in
    let rest : map (map says) ds ≡ map (map says) es = cc in
    let following : AreSound (named ++ cons_option (type_of e) []) ds = subst (λ t. AreSound (named ++ cons_option t []) ds) (same_type d e first) sound.1 in
    (λ k. sym (same_own_flaw d e first named k) ∙ sound.0 k, AreSound-alike (named ++ cons_option (type_of e) []) ds es rest following)

pub types_in-alike : (ds es : List (List Piece)) → map (map says) ds ≡ map (map says) es → types_in ds ≡ types_in es
types_in-alike [] [] alike = refl
types_in-alike [] (e ∷ es) alike = let no : ⊥ = cc in absurd no
types_in-alike (d ∷ ds) [] alike = let no : ⊥ = cc in absurd no
types_in-alike (d ∷ ds) (e ∷ es) alike =
    let first : map says d ≡ map says e = cc in
    let rest : map (map says) ds ≡ map (map says) es = cc in
    ap₂ cons_option (same_type d e first) (types_in-alike ds es rest)

pub AreRules-alike : (ds es : List (List Piece)) (rules : List Rules) → map (map says) ds ≡ map (map says) es → AllZip AreRules ds rules → AllZip AreRules es rules
AreRules-alike [] [] rules alike are = are
AreRules-alike [] (e ∷ es) rules alike are = let no : ⊥ = cc in absurd no
AreRules-alike (d ∷ ds) [] rules alike are = let no : ⊥ = cc in absurd no
AreRules-alike (d ∷ ds) (e ∷ es) [] alike are = absurd are
AreRules-alike (d ∷ ds) (e ∷ es) (asked ∷ rules) alike are =
    let first : map says d ≡ map says e = cc in
    let rest : map (map says) ds ≡ map (map says) es = cc in
    (same_asked d e first asked are.0, AreRules-alike ds es rules rest are.1)

-- one more
types_more : (named : List (List ℕ)) (record_type : Option (List ℕ)) (more : List (List ℕ)) → (named ++ cons_option record_type []) ++ more ≡ named ++ cons_option record_type more
types_more named None more = ap (λ ns. ns ++ more) (append-nil named)
types_more named (Some record_type) more = append_assoc named (record_type ∷ []) more

pub AreSound-push : (named : List (List ℕ)) (ds : List (List Piece)) (d : List Piece) → AreSound named ds → ((k : ℕ) → own_flaw (named ++ types_in ds) d k ≡ None) → AreSound named (ds ++ d ∷ [])
AreSound-push named [] d sound last = (λ k. ap (λ ns. own_flaw ns d k) (sym (append-nil named)) ∙ last k, tt)
AreSound-push named (first ∷ ds) d sound last =
    (sound.0, AreSound-push (named ++ cons_option (type_of first) []) ds d sound.1 (λ k. ap (λ ns. own_flaw ns d k) (types_more named (type_of first) (types_in ds)) ∙ last k))

-- ---- a new descriptor of a type alone

separates_no_name : (b : ℕ) → continues_name b ≡ true → is_space b ≡ false
separates_no_name b continues = grind (arith, nat_tests)

split_name : (name : List ℕ) → list_all continues_name name ≡ true → slice_split is_space name ≡ name ∷ []
split_name [] are = refl
split_name (b ∷ bs) are =
    let parts = and_parts (continues_name b) (list_all continues_name bs) are in
    slice_split-cons_no is_space b bs (separates_no_name b parts.0) ∙ ap (onto_first b) (split_name bs parts.1)

letter_continues : (b : ℕ) → is_letter b ≡ true → continues_name b ≡ true
letter_continues b letter = grind (arith, nat_tests)

-- a name is one word
name_words : (name : List ℕ) → is_plain_name name ≡ true → words name ≡ name ∷ []
name_words [] plain = absurd (false≢true plain)
name_words (b ∷ bs) plain =
    let parts = and_parts (is_letter b) (list_all continues_name bs) plain in
    ap (filter (λ word. not (is_nil word))) (split_name (b ∷ bs) (and_from (continues_name b) (list_all continues_name bs) (letter_continues b parts.0) parts.1))

module _ (record_type : List ℕ) (own : List Piece) (alike : map says own ≡ (rec_name, record_type) ∷ []) where
  one_value : (name : List ℕ) → values_of name own ≡ values_said name ((rec_name, record_type) ∷ [])
  one_value name = values_of-says name own ∙ ap (values_said name) alike

  pub new_rules : AreRules own no_rules
  new_rules = record {
    key = ap (λ vs. slice_get (flat_map words vs) 0) (sym (one_value (codes "%key")));
    mandatory = ap (flat_map words) (sym (one_value (codes "%mandatory")));
    prohibited = ap (flat_map words) (sym (one_value (codes "%prohibit")));
    unique = ap (flat_map words) (sym (one_value (codes "%unique")));
    singular = ap (flat_map words) (sym (one_value (codes "%singular")));
    allowed = ap₂ (λ b vs. cond b (Some (flat_map words vs)) None) (sym (list_any-values_of (codes "%allowed") own ∙ ap is_met (one_value (codes "%allowed")))) (sym (one_value (codes "%allowed")));
    automatic = ap (flat_map words) (sym (one_value (codes "%auto")));
    types = subst (λ vs. AllZip IsTyping vs []) (sym (one_value (codes "%type"))) tt;
    definitions = subst (λ vs. AllZip IsDefinition vs []) (sym (one_value (codes "%typedef"))) tt;
    size = ap (λ vs. option_and_then bound_in (slice_get vs 0)) (sym (one_value (codes "%size")));
    constraints = subst (λ vs. AllZip IsExpression vs []) (sym (one_value (codes "%constraint"))) tt;
  }

  module _ (plain : is_plain_name record_type ≡ true) where
    pub new_type : type_of own ≡ Some record_type
    new_type = sym (type_in-values_of own) ∙ ap type_in (one_value rec_name) ∙ ap (λ ws. Some (first_word ws)) (name_words record_type plain)

    one_flaw : (named : List (List ℕ)) → is_among named record_type ≡ false → (k : ℕ) → flaw_among named ((rec_name, record_type) ∷ []) k ≡ None
    one_flaw named fresh zero = ap (rec_flaw false named) (name_words record_type plain) ∙ ap₂ (λ p a. cond (not p || a) (Some bad) None) plain fresh
    one_flaw named fresh (suc k) = ap (option_and_then (flaw_said named (take (suc k) ((rec_name, record_type) ∷ [])))) (slice_get_past ((rec_name, record_type) ∷ []) (suc k) (omega arith))

    pub new_flaw : (named : List (List ℕ)) → is_among named record_type ≡ false → (k : ℕ) → own_flaw named own k ≡ None
    new_flaw named fresh k =
        ap (λ t. cond (is_some t) (field_flaw named own k) None) new_type ∙ field_flaw-says named own k ∙ ap (λ ss. flaw_among named ss k) alike ∙ one_flaw named fresh k
