-- A text has one report: what breaks a rule breaks each rule that is the same.
use Rattle.std.proofs.Common.{◌≡◌, ◌≢◌, ◌∙◌, ℕ, ◌+◌, ◌-◌, Bool, true, false, List, [], ◌∷◌, ◌++◌, Option, Some, None, Result, Ok, Err, refl, sym, ap, ap₂, subst, inl, inr}
use Rattle.std.specs.Prelude.{◌&&◌, nat_le, ◌==◌, not, filter, filter_map, decimal, option_to_list, unwrap_or, if◌then◌else◌}
use Rattle.std.specs.List.{AllZip, enumerate_from, slice_get}
use Rattle.std.specs.Option.{option_and_then, option_map_or}
use Rattle.std.specs.declared.ops.Range.{Range}
use mathlib.Core.Path.{fun_ext}
use Rattle.regex.specs.Patterns.{Re}
use Rattle.rec_text.specs.declared.fault.Fault.{Fault}
use Rattle.rec_text.specs.declared.fault.Fault.TheVariants.{BadPattern}
use Rattle.rec_text.specs.declared.violations.Rule.TheVariants.{Size, Key, Mandatory, Prohibit, Unique, Singular, Allowed, Fit, Constraint}
use Rattle.rec_text.specs.declared.violations.Violation.{Violation}
use Rattle.rec_text.specs.Elements.{Piece, name_of}
use Rattle.rec_text.specs.Records.{is_field_piece, elements_in}
use Rattle.rec_text.specs.Values.{value_of}
use Rattle.rec_text.proofs.lemmas.records.RecordLemmas.{OneListOfRecords-holds}
use Rattle.rec_sex.specs.Expressions.{AreSame}
use Rattle.rec_sex.specs.Grammar.{Term}
use Rattle.rec_sex.specs.Meaning.{Assignment, Selects, sem, is_true}
use Rattle.rec_sex.proofs.lemmas.syntax.UniqueLemmas.{same_is_found, same_sem}
use Rattle.rec_check.specs.declared.set.Set_.{Set_}
use Rattle.rec_check.specs.declared.descriptors.special.Bound.{Bound}
use Rattle.rec_check.specs.Descriptors.{meets}
use Rattle.rec_check.specs.Rules.{Rules, AreSameRules, AreSameTypes, field_type}
use Rattle.rec_check.specs.Schemas.{Described}
use Rattle.rec_check.specs.Types.{FieldType, matching, fits}
use Rattle.rec_check.specs.Violations.{line_at, violation, violations_of, occurrences, breaks_key, breaks_singular, names_of, key_violations, mandatory_violations, prohibit_violations}
use Rattle.rec_check.specs.Violations.{unique_violations, singular_violations, allowed_violations, type_violations, misfits, size_violations, head_line, members, resolves, unresolved_violations}
use Rattle.rec_check.specs.Violations.{typedef_violations, head_violations, AreUnselected, AreOfRecord, AreOfRecords, AreOfSet, AreOfSets, OneReport}
use Rattle.rec_check.specs.Words.{distinct}
use Rattle.rec_text.specs.Bytes.{is_among}
use Rattle.rec_check.proofs.lemmas.laws.SameLemmas.{one_schema}
use Rattle.rec_check.proofs.lemmas.laws.SameTypeLemmas.{AreSameIfAny, same_field_type, same_resolves}

-- ---- what the same expressions mean

-- expressions that mean the same select the same records
selects_too : (one other : Term) (pieces : List Piece) → ((c : Assignment) → sem one pieces c ≡ sem other pieces c) → Selects one pieces → Selects other pieces
selects_too one other pieces means selects = record {
  chosen = selects.chosen;
  is_choice = selects.is_choice;
  holds = ap is_true (sym (means selects.chosen)) ∙ selects.holds;
}

one_unselected : (line number : ℕ) (terms others : List Term) (fields : List Piece) (one other : List Violation) → AllZip AreSame terms others
    → AreUnselected line number terms fields one → AreUnselected line number others fields other → one ≡ other
one_unselected line number [] [] fields one other same are too = are ∙ sym too
one_unselected line number [] (b ∷ others) fields one other same are too = absurd same
one_unselected line number (a ∷ terms) [] fields one other same are too = absurd same
one_unselected line number (a ∷ terms) (b ∷ others) fields one other same (inl (selects, are)) (inl (selects_b, too)) =
    one_unselected line (number + 1) terms others fields one other same.1 are too
one_unselected line number (a ∷ terms) (b ∷ others) fields one other same (inl (selects, are)) (inr (unselected, too)) =
    absurd (unselected (selects_too a b fields (λ c. same_sem fields c a b same.0) selects))
one_unselected line number (a ∷ terms) (b ∷ others) fields one other same (inr (unselected, are)) (inl (selects, too)) =
    absurd (unselected (selects_too b a fields (λ c. sym (same_sem fields c a b same.0)) selects))
one_unselected line number (a ∷ terms) (b ∷ others) fields one other same (inr (unselected, (rest, is, are))) (inr (unselected_b, (more, is_too, too))) =
    is ∙ ap (λ vs. violation line Constraint (decimal number) ∷ vs) (one_unselected line (number + 1) terms others fields rest more same.1 are too) ∙ sym is_too

-- ---- types

same_fits : (one other : FieldType Re) (value : List ℕ) → AreSameTypes one other → fits one value ≡ fits other value
same_fits (matching pattern) (matching second) value same = same_is_found pattern second value same
same_fits one other value same = ap (λ t. fits t value) same

same_misfit : (one other : Option (FieldType Re)) (value : List ℕ) → AreSameIfAny one other
    → option_map_or (λ t. not (fits t value)) one false ≡ option_map_or (λ t. not (fits t value)) other false
same_misfit None None value same = refl
same_misfit None (Some other) value same = absurd same
same_misfit (Some one) None value same = absurd same
same_misfit (Some one) (Some other) value same = ap not (same_fits one other value same)

-- ---- one record

module _ (one other : Rules) (same : AreSameRules one other) where
  same_key : (line : ℕ) (earlier : List (List Piece)) (fields : List Piece) → key_violations one line earlier fields ≡ key_violations other line earlier fields
  same_key line earlier fields = ap (λ key. violations_of line Key (filter (breaks_key earlier fields) (option_to_list key))) same.key

  same_mandatory : (line : ℕ) (fields : List Piece) → mandatory_violations one line fields ≡ mandatory_violations other line fields
  same_mandatory line fields = ap (λ names. violations_of line Mandatory (filter (λ name. occurrences fields name == 0) (distinct names))) same.mandatory

  same_prohibited : (line : ℕ) (fields : List Piece) → prohibit_violations one line fields ≡ prohibit_violations other line fields
  same_prohibited line fields = ap (λ names. violations_of line Prohibit (filter (λ name. nat_le 1 (occurrences fields name)) (distinct names))) same.prohibited

  same_unique : (line : ℕ) (fields : List Piece) → unique_violations one line fields ≡ unique_violations other line fields
  same_unique line fields = ap (λ names. violations_of line Unique (filter (λ name. nat_le 2 (occurrences fields name)) (distinct names))) same.unique

  same_singular : (line : ℕ) (earlier : List (List Piece)) (fields : List Piece) → singular_violations one line earlier fields ≡ singular_violations other line earlier fields
  same_singular line earlier fields = ap (λ names. violations_of line Singular (filter (breaks_singular earlier fields) (distinct names))) same.singular

  abbrev unlisted : ℕ → List Piece → Option (List ℕ) → List (List ℕ) → Option (List (List ℕ)) → List Violation
  unlisted line fields key mandatory allowed = violations_of line Allowed
      (filter (λ name. not (option_map_or (λ names. is_among (names ++ (mandatory ++ option_to_list key)) name) allowed true)) (distinct (names_of fields)))

  same_allowed : (line : ℕ) (fields : List Piece) → allowed_violations one line fields ≡ allowed_violations other line fields
  same_allowed line fields =
      ap (λ key. unlisted line fields key one.mandatory one.allowed) same.key
      ∙ ap (λ mandatory. unlisted line fields other.key mandatory one.allowed) same.mandatory
      ∙ ap (λ allowed. unlisted line fields other.key other.mandatory allowed) same.allowed

  same_misfits : (piece : Piece) → misfits (field_type one) piece ≡ misfits (field_type other) piece
  same_misfits piece =
      ap (λ breaks. is_field_piece piece && breaks) (same_misfit (field_type one (name_of piece)) (field_type other (name_of piece)) (value_of piece) (same_field_type one other (name_of piece) same))

  same_type_violations : (pieces : List Piece) (start : ℕ) (fields : List Piece) → type_violations pieces (field_type one) start fields ≡ type_violations pieces (field_type other) start fields
  same_type_violations pieces start fields =
      ap (λ (breaks : Piece → Bool). filter_map (λ (i, piece). if breaks piece then Some (violation (line_at pieces i) Fit (name_of piece)) else None)
      (enumerate_from start fields)) (fun_ext same_misfits)

  one_of_record : (pieces : List Piece) (earlier : List (List Piece)) (own_range : Range ℕ) (here there : List Violation)
      → AreOfRecord pieces one earlier own_range here → AreOfRecord pieces other earlier own_range there → here ≡ there
  one_of_record pieces earlier own_range here there are too =
      let fields : List Piece = elements_in pieces own_range in
      let line : ℕ = line_at pieces own_range.start in
      let unselected : are.unselected ≡ too.unselected =
      one_unselected line 1 one.constraints other.constraints fields are.unselected too.unselected same.constraints are.are too.are in
      are.joined ∙ ap₂ ◌++◌ (same_key line earlier fields) (ap₂ ◌++◌ (same_mandatory line fields) (ap₂ ◌++◌ (same_prohibited line fields)
      (ap₂ ◌++◌ (same_unique line fields) (ap₂ ◌++◌ (same_singular line earlier fields) (ap₂ ◌++◌ (same_allowed line fields)
      (ap₂ ◌++◌ (same_type_violations pieces own_range.start fields) unselected)))))) ∙ sym too.joined

  -- ---- one record set

  one_of_records : (pieces : List Piece) (earlier : List (List Piece)) (records : List (Range ℕ)) (here there : List Violation)
      → AreOfRecords pieces one earlier records here → AreOfRecords pieces other earlier records there → here ≡ there
  one_of_records pieces earlier [] here there are too = are ∙ sym too
  one_of_records pieces earlier (own_range ∷ records) here there (own, rest, is, are, joined) (second, more, is_too, too, joined_too) =
      joined ∙ ap₂ ◌++◌ (one_of_record pieces earlier own_range own second is is_too)
      (one_of_records pieces (earlier ++ elements_in pieces own_range ∷ []) records rest more are too) ∙ sym joined_too

  same_size : (pieces : List Piece) (records : List (Range ℕ)) (s : Set_) → size_violations pieces records one s ≡ size_violations pieces records other s
  same_size pieces records s =
      ap (λ (size : Option Bound). if option_map_or (λ bound. not (meets bound (s.members.end - s.members.start))) size false
      then violation (head_line pieces records s) Size (unwrap_or s.kind []) ∷ [] else []) same.size

  same_typedefs : (pieces : List Piece) (records : List (Range ℕ)) (s : Set_) → typedef_violations pieces records one s ≡ typedef_violations pieces records other s
  same_typedefs pieces records s =
      let same_all : resolves one.definitions ≡ resolves other.definitions = fun_ext (same_resolves one.definitions other.definitions same.definitions) in
      ap (λ (resolved : List ℕ → Bool). option_map_or (λ own_range. unresolved_violations pieces resolved own_range.start (elements_in pieces own_range))
      (option_and_then (slice_get records) s.head) []) same_all

  same_head : (pieces : List Piece) (records : List (Range ℕ)) (s : Set_) → head_violations pieces records one s ≡ head_violations pieces records other s
  same_head pieces records s = ap₂ ◌++◌ (same_size pieces records s) (same_typedefs pieces records s)

  one_of_set : (pieces : List Piece) (records : List (Range ℕ)) (s : Set_) (here there : List Violation)
      → AreOfSet pieces records s one here → AreOfSet pieces records s other there → here ≡ there
  one_of_set pieces records s here there (rest, are, joined) (more, too, joined_too) =
      joined ∙ ap₂ ◌++◌ (same_head pieces records s) (one_of_records pieces [] (members records s) rest more are too) ∙ sym joined_too

-- ---- one report

one_of_sets : (pieces : List Piece) (records : List (Range ℕ)) (sets : List Set_) (rules others : List Rules) (here there : List Violation) → AllZip AreSameRules rules others
    → AreOfSets pieces records sets rules here → AreOfSets pieces records sets others there → here ≡ there
one_of_sets pieces records [] [] [] here there same are too = are ∙ sym too
one_of_sets pieces records [] [] (b ∷ others) here there same are too = absurd same
one_of_sets pieces records [] (a ∷ rules) others here there same are too = absurd are
one_of_sets pieces records (s ∷ sets) [] others here there same are too = absurd are
one_of_sets pieces records (s ∷ sets) (a ∷ rules) [] here there same are too = absurd same
one_of_sets pieces records (s ∷ sets) (a ∷ rules) (b ∷ others) here there same (own, rest, is, are, joined) (second, more, is_too, too, joined_too) =
    joined ∙ ap₂ ◌++◌ (one_of_set a b same.0 pieces records s own second is is_too) (one_of_sets pieces records sets rules others rest more same.1 are too) ∙ sym joined_too

pub not_refused : (answer : Result Described Fault) (described : Described) → answer ≡ Ok described → answer ≢ Err BadPattern
not_refused answer described is refused = cc

pub one_report : OneReport
one_report pieces schema same one other is too (records, are, found_by) (others, are_too, found_too) =
    let alike = one_schema pieces (Ok schema) (Ok same) is too (not_refused (Ok schema) schema refl) (not_refused (Ok same) same refl) in
    let one_list : records ≡ others = OneListOfRecords-holds.records pieces records others are are_too in
    let of_others : AreOfSets pieces others schema.sets schema.rules one = subst (λ rs. AreOfSets pieces rs schema.sets schema.rules one) one_list found_by in
    let of_same : AreOfSets pieces others same.sets schema.rules one = subst (λ ss. AreOfSets pieces others ss schema.rules one) alike.0 of_others in
    one_of_sets pieces others same.sets schema.rules same.rules one other alike.1 of_same found_too
