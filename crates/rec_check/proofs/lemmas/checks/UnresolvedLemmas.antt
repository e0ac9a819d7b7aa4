-- The kinds that mean nothing, field by field.
use Rattle.std.proofs.Common.{◌≡◌, ◌∙◌, ℕ, ◌+◌, ◌<◌, Bool, false, List, [], ◌∷◌, ◌++◌, Option, Some, None, length, take, get_or, option_map, refl, ap, ap₂, sym, arith, append_assoc}
use Rattle.std.proofs.lemmas.List.{length-map, length-take-le, map_more}
use Rattle.std.proofs.lemmas.List.Elements.{filter_map-append}
use Rattle.std.proofs.lemmas.Option.{slice_get-get_or}
use Rattle.std.specs.Prelude.{if◌then◌else◌, option_to_list, unwrap_or}
use Rattle.std.specs.List.{cons_option, enumerate_from, filter_map, slice_get}
use Rattle.std.specs.Option.{option_and_then, option_map_or}
use Rattle.std.specs.declared.ops.Range.{Range}
use Rattle.rec_text.specs.declared.element.Element.{Element}
use Rattle.rec_text.specs.declared.violations.Rule.TheVariants.{Size, Typedef}
use Rattle.rec_text.specs.declared.violations.Violation.{Violation}
use Rattle.rec_text.specs.Elements.{Piece}
use Rattle.rec_text.specs.Places.{piece_of, pieces_of}
use Rattle.rec_text.specs.Records.{elements_in}
use Rattle.rec_check.specs.declared.set.Set_.{Set_}
use Rattle.rec_check.specs.declared.descriptors.special.Bound.{Bound}
use Rattle.rec_check.specs.Rules.{Rules}
use Rattle.rec_check.specs.Violations.{breaks_size, head_violations, line_at, resolves, unresolved_of, unresolved_violations, violation}
use Rattle.rec_check.proofs.lemmas.field_types.FittingLemmas.{enumerate_from-append}

-- ---- one field after another

cons_option-list : {X : Type 0} (o : Option X) → cons_option o [] ≡ option_to_list o
cons_option-list None = refl
cons_option-list (Some x) = refl

module _ (pieces : List Piece) (resolved : List ℕ → Bool) (start : ℕ) where
  abbrev unresolved_at : ℕ × Piece → Option Violation
  unresolved_at (i, piece) = option_map (violation (line_at pieces i) Typedef) (unresolved_of resolved piece)

  push : (fields : List Piece) (field : Piece)
      → unresolved_violations pieces resolved start (fields ++ field ∷ []) ≡ unresolved_violations pieces resolved start fields ++ option_to_list (unresolved_at (start + length fields, field))
  push fields field =
      ap (filter_map unresolved_at) (enumerate_from-append start fields (field ∷ []))
      ∙ filter_map-append unresolved_at (enumerate_from start fields) (enumerate_from (start + length fields) (field ∷ []))
      ∙ ap (λ l. unresolved_violations pieces resolved start fields ++ l) (cons_option-list (unresolved_at (start + length fields, field)))

  pub unresolved_more : (fields : List Element) (i : ℕ) (d : Element) (old found more : List Violation) → i < length fields
      → found ≡ old ++ unresolved_violations pieces resolved start (pieces_of (take i fields))
      → more ≡ found ++ option_to_list (unresolved_at (start + i, piece_of (get_or fields i d)))
      → more ≡ old ++ unresolved_violations pieces resolved start (pieces_of (take (i + 1) fields))
  unresolved_more fields i d old found more within so_far added =
      let field : Piece = piece_of (get_or fields i d) in
      let before : List Violation = unresolved_violations pieces resolved start (pieces_of (take i fields)) in
      let own : List Violation = option_to_list (unresolved_at (start + i, field)) in
      let size : length (pieces_of (take i fields)) ≡ i = omega (arith, length-map (take i fields) piece_of, length-take-le i fields (omega arith)) in
      let grown : unresolved_violations pieces resolved start (pieces_of (take (i + 1) fields)) ≡ before ++ own =
      ap (unresolved_violations pieces resolved start) (map_more piece_of fields i d within) ∙ push (pieces_of (take i fields)) field
      ∙ ap (λ n. before ++ option_to_list (unresolved_at (start + n, field))) size in
      added ∙ ap (λ l. l ++ own) so_far ∙ append_assoc old before own ∙ ap (λ l. old ++ l) (sym grown)

-- ---- the descriptor of a set

module _ (pieces : List Piece) (records : List (Range ℕ)) (rules : Rules) (s : Set_) where
  pub head_violations-none : s.head ≡ None → rules.size ≡ None → head_violations pieces records rules s ≡ []
  head_violations-none none unbound =
      let unbroken : breaks_size rules s ≡ false = ap (λ (size : Option Bound). breaks_size (record rules { size = size }) s) unbound in
      let own : List Violation = violation (option_map_or (λ own_range. line_at pieces own_range.start) (option_and_then (slice_get records) s.head) 0) Size (unwrap_or s.kind []) ∷ [] in
      ap₂ ◌++◌ (ap (λ b. if b then own else []) unbroken)
      (ap (λ head. option_map_or (λ own_range. unresolved_violations pieces (resolves rules.definitions) own_range.start (elements_in pieces own_range)) (option_and_then (slice_get records) head) [])
      none)

  pub head_violations-at : (head : ℕ) (own_range d : Range ℕ) → s.head ≡ Some head → head < length records → own_range ≡ get_or records head d
      → head_violations pieces records rules s
      ≡ (if breaks_size rules s then violation (line_at pieces own_range.start) Size (unwrap_or s.kind []) ∷ [] else [])
      ++ unresolved_violations pieces (resolves rules.definitions) own_range.start (elements_in pieces own_range)
  head_violations-at head own_range d is_head within is =
      let at : option_and_then (slice_get records) s.head ≡ Some own_range = ap (option_and_then (slice_get records)) is_head ∙ slice_get-get_or records head d within ∙ ap Some (sym is) in
      ap₂ ◌++◌ (ap (λ o. if breaks_size rules s then violation (option_map_or (λ (r : Range ℕ). line_at pieces r.start) o 0) Size (unwrap_or s.kind []) ∷ [] else []) at)
      (ap (λ o. option_map_or (λ (r : Range ℕ). unresolved_violations pieces (resolves rules.definitions) r.start (elements_in pieces r)) o []) at)
