-- Violations, joined record by record and set by set.
use Rattle.std.proofs.Common.{◌≡◌, ◌∙◌, ℕ, ◌+◌, ◌<◌, ◌≤◌, Bool, not, List, [], ◌∷◌, ◌++◌, Option, Some, None, filter, length, map, take, get_or, refl, ap, sym, subst, arith, append_assoc}
use Rattle.std.proofs.lemmas.List.{append-nil, length-drop, length-map, length-take, take_all, take_more}
use Rattle.std.proofs.lemmas.List.Elements.{filter_agree}
use Rattle.std.specs.Prelude.{if◌then◌else◌, option_to_list}
use Rattle.std.specs.List.{enumerate_from, filter_map, cons_option}
use Rattle.std.specs.declared.ops.Range.{Range}
use Rattle.regex.specs.Patterns.{Re}
use Rattle.rec_text.specs.declared.element.Element.{Element}
use Rattle.rec_text.specs.declared.violations.Rule.TheVariants.{Key, Allowed, Fit}
use Rattle.rec_text.specs.declared.violations.Violation.{Violation}
use Rattle.rec_text.specs.Elements.{Piece, name_of}
use Rattle.rec_text.specs.Places.{piece_of, pieces_of}
use Rattle.rec_sex.specs.Grammar.{Term}
use Rattle.rec_check.specs.declared.set.Set_.{Set_}
use Rattle.rec_check.specs.declared.checks.occurrence_rule.OccurrenceRule.{OccurrenceRule}
use Rattle.rec_check.specs.declared.checks.occurrence_rule.OccurrenceRule.TheVariants.{Present, Absent, Single}
use Rattle.rec_check.specs.Checks.{AddsOfRecord, AddsOfRecords, AddsOfSet, AddsUnselected, occurrence_violations}
use Rattle.rec_text.specs.Records.{elements_in}
use Rattle.rec_check.specs.Rules.{Rules, field_type}
use Rattle.rec_check.specs.Types.{FieldType}
use Rattle.rec_check.specs.Violations.{AreOfRecord, AreOfRecords, AreUnselected, allowed_violations, breaks_key, head_violations, is_allowed, key_violations, line_at, mandatory_violations, members}
use Rattle.rec_check.specs.Violations.{names_of, prohibit_violations, singular_violations, type_violations, unique_violations, violation, violations_of}
use Rattle.rec_check.specs.Words.{distinct}
use Rattle.rec_check.proofs.lemmas.field_types.FittingLemmas.{misfits-same}

-- ---- one record

-- eight parts, one after another
regroup : (old a b c d e f g h : List Violation) → (((((((old ++ a) ++ b) ++ c) ++ d) ++ e) ++ f) ++ g) ++ h ≡ old ++ (a ++ (b ++ (c ++ (d ++ (e ++ (f ++ (g ++ h)))))))
regroup old a b c d e f g h = simp append_assoc

filter_map-same : {X Y : Type 0} (f g : X → Option Y) → ((x : X) → f x ≡ g x) → (xs : List X) → filter_map f xs ≡ filter_map g xs
filter_map-same f g same [] = refl
filter_map-same f g same (x ∷ xs) = ap (λ o. cons_option o (filter_map f xs)) (same x) ∙ ap (cons_option (g x)) (filter_map-same f g same xs)

type_violations-same : (pieces : List Piece) (types same : List ℕ → Option (FieldType Re)) (start : ℕ) (fields : List Piece) → ((name : List ℕ) → same name ≡ types name)
    → type_violations pieces same start fields ≡ type_violations pieces types start fields
type_violations-same pieces types same start fields are =
    filter_map-same _ _ (λ (i, piece). ap (λ b. if b then Some (violation (line_at pieces i) Fit (name_of piece)) else None) (misfits-same types same piece are)) (enumerate_from start fields)

occurrence_violations-same : (rule asked : OccurrenceRule) (names wanted : List (List ℕ)) (line : ℕ) (fields : List Piece) → rule ≡ asked → names ≡ wanted
    → occurrence_violations rule names line fields ≡ occurrence_violations asked wanted line fields
occurrence_violations-same rule asked names wanted line fields same are = ap (λ l. occurrence_violations l names line fields) same ∙ ap (λ n. occurrence_violations asked n line fields) are

-- what was added for one rule after another
module _ (pieces : List Piece) (rules : Rules) (earlier : List (List Piece)) (own_range : Range ℕ) (line : ℕ) (fields : List Piece) (line_is : line ≡ line_at pieces own_range.start)
    (fields_are : fields ≡ elements_in pieces own_range)
    (old after_key after_mandatory after_prohibited after_unique after_singular after_allowed after_types new : List Violation) where
  own_of : ℕ → List Piece → List Violation → List Violation
  own_of line fields unselected =
      key_violations rules line earlier fields ++ (mandatory_violations rules line fields ++ (prohibit_violations rules line fields
      ++ (unique_violations rules line fields ++ (singular_violations rules line earlier fields ++ (allowed_violations rules line fields
      ++ (type_violations pieces (field_type rules) own_range.start (elements_in pieces own_range) ++ unselected))))))

  pub AddsOfRecord-joined : (name : Option (List ℕ)) (mandatory prohibited unique : OccurrenceRule) (mandatory_names prohibited_names unique_names : List (List ℕ)) (allows : List ℕ
      → Bool) (types : List ℕ → Option (FieldType Re)) (terms : List Term)
      → name ≡ rules.key → mandatory ≡ Present → mandatory_names ≡ distinct rules.mandatory → prohibited ≡ Absent → prohibited_names ≡ distinct rules.prohibited → unique ≡ Single
      → unique_names ≡ distinct rules.unique
      → ((name : List ℕ) → allows name ≡ is_allowed rules name) → ((name : List ℕ) → types name ≡ field_type rules name) → terms ≡ rules.constraints
      → after_key ≡ old ++ violations_of line Key (filter (breaks_key earlier fields) (option_to_list name))
      → after_mandatory ≡ after_key ++ occurrence_violations mandatory mandatory_names line fields
      → after_prohibited ≡ after_mandatory ++ occurrence_violations prohibited prohibited_names line fields
      → after_unique ≡ after_prohibited ++ occurrence_violations unique unique_names line fields
      → after_singular ≡ after_unique ++ singular_violations rules line earlier fields
      → after_allowed ≡ after_singular ++ violations_of line Allowed (filter (λ name. not (allows name)) (distinct (names_of fields)))
      → after_types ≡ after_allowed ++ type_violations pieces types own_range.start fields
      → AddsUnselected line terms fields after_types new
      → AddsOfRecord pieces rules earlier own_range old new
  unfolding own_of
  AddsOfRecord-joined name mandatory prohibited unique mandatory_names prohibited_names unique_names allows types terms key_is mandatory_is mandatory_are prohibited_is prohibited_are unique_is
      unique_are allows_is types_are terms_are
      key_added mandatory_added prohibited_added unique_added singular_added allowed_added types_added unselected =
      let unselected_are : AreUnselected (line_at pieces own_range.start) 1 rules.constraints (elements_in pieces own_range) unselected.own =
      (let P : ℕ → Type 0 = λ n. AreUnselected n 1 rules.constraints (elements_in pieces own_range) unselected.own in
      let Q : List Piece → Type 0 = λ f. AreUnselected line 1 rules.constraints f unselected.own in
      let R : List Term → Type 0 = λ t. AreUnselected line 1 t fields unselected.own in
      subst P line_is (subst Q fields_are (subst R terms_are unselected.are))) in
      let names : List (List ℕ) = distinct (names_of fields) in
      let key = key_added ∙ ap (λ n. old ++ violations_of line Key (filter (breaks_key earlier fields) (option_to_list n))) key_is in
      let mandatory = mandatory_added ∙ ap (λ l. after_key ++ l) (occurrence_violations-same mandatory Present mandatory_names (distinct rules.mandatory) line fields mandatory_is mandatory_are) in
      let prohibited = prohibited_added ∙ ap (λ l. after_mandatory ++ l)
      (occurrence_violations-same prohibited Absent prohibited_names (distinct rules.prohibited) line fields prohibited_is prohibited_are) in
      let unique = unique_added ∙ ap (λ l. after_prohibited ++ l) (occurrence_violations-same unique Single unique_names (distinct rules.unique) line fields unique_is unique_are) in
      let allowed = allowed_added ∙ ap (λ l. after_singular ++ violations_of line Allowed l)
      (filter_agree (λ name. not (allows name)) (λ name. not (is_allowed rules name)) (λ name. ap not (allows_is name)) names) in
      let types_same = type_violations-same pieces (field_type rules) types own_range.start fields types_are ∙ ap (type_violations pieces (field_type rules) own_range.start) fields_are in
      record {
        own = own_of (line_at pieces own_range.start) (elements_in pieces own_range) unselected.own;
        are = record { unselected = unselected.own; are = unselected_are; joined = refl };
        joined =
            unselected.joined
            ∙ ap (λ l. l ++ unselected.own) (types_added ∙ ap (λ l. after_allowed ++ l) types_same
            ∙ ap (λ l. l ++ type_violations pieces (field_type rules) own_range.start (elements_in pieces own_range)) (allowed
            ∙ ap (λ l. l ++ allowed_violations rules line fields) (singular_added ∙ ap (λ l. l ++ singular_violations rules line earlier fields)
            (unique ∙ ap (λ l. l ++ unique_violations rules line fields) (prohibited
            ∙ ap (λ l. l ++ prohibit_violations rules line fields) (mandatory ∙ ap (λ l. l ++ mandatory_violations rules line fields) key))))))
            ∙ regroup old (key_violations rules line earlier fields) (mandatory_violations rules line fields) (prohibit_violations rules line fields) (unique_violations rules line fields)
            (singular_violations rules line earlier fields)
            (allowed_violations rules line fields) (type_violations pieces (field_type rules) own_range.start (elements_in pieces own_range)) unselected.own
            ∙ ap (λ n. old ++ own_of n fields unselected.own) line_is ∙ ap (λ f. old ++ own_of (line_at pieces own_range.start) f unselected.own) fields_are;
      }

-- the elements of a record end where the record does
pub elements_in-end : (fields : List Element) (pieces : List Piece) (own_range : Range ℕ) → own_range.start ≤ own_range.end → pieces_of fields ≡ elements_in pieces own_range
    → own_range.start + length fields ≤ own_range.end
elements_in-end fields pieces own_range ordered are =
    omega (arith, length-map fields piece_of, ap length are, length-drop own_range.start (take own_range.end pieces), length-take own_range.end pieces)

-- ---- one record more

module _ (pieces : List Piece) (rules : Rules) where
  AreOfRecords-push : (earlier : List (List Piece)) (records : List (Range ℕ)) (own_range : Range ℕ) (own one : List Violation) → AreOfRecords pieces rules earlier records own
      → AreOfRecord pieces rules (earlier ++ map (elements_in pieces) records) own_range one → AreOfRecords pieces rules earlier (records ++ own_range ∷ []) (own ++ one)
  AreOfRecords-push earlier [] own_range own one are last =
      let P : List (List Piece) → Type 0 = λ l. AreOfRecord pieces rules l own_range one in
      (one, [], subst P (append-nil earlier) last, refl, ap (λ l. l ++ one) are ∙ sym (append-nil one))
  AreOfRecords-push earlier (first ∷ records) own_range own one (own_first, rest, is, are, joined) last =
      let P : List (List Piece) → Type 0 = λ l. AreOfRecord pieces rules l own_range one in (
        own_first,
        rest ++ one,
        is,
        AreOfRecords-push (earlier ++ elements_in pieces first ∷ []) records own_range rest one are
            (subst P (sym (append_assoc earlier (elements_in pieces first ∷ []) (map (elements_in pieces) records))) last),
        ap (λ l. l ++ one) joined ∙ append_assoc own_first rest one,
      )

  -- as a loop takes the records
  pub AddsOfRecords-none : (records : List (Range ℕ)) (old new : List Violation) → new ≡ old → AddsOfRecords pieces rules (take 0 records) old new
  AddsOfRecords-none records old new same = record { own = []; are = refl; joined = same ∙ sym (append-nil old) }

  pub AddsOfRecords-more : (records : List (Range ℕ)) (i : ℕ) (own_range : Range ℕ) (old found new : List Violation) → i < length records → own_range ≡ get_or records i own_range
      → AddsOfRecords pieces rules (take i records) old found
      → AddsOfRecord pieces rules (map (elements_in pieces) (take i records)) own_range found new → AddsOfRecords pieces rules (take (i + 1) records) old new
  AddsOfRecords-more records i own_range old found new within at so_far one =
      let more_is : take (i + 1) records ≡ take i records ++ own_range ∷ [] = take_more records i own_range within ∙ ap (λ r. take i records ++ r ∷ []) (sym at) in
      let P : List (Range ℕ) → Type 0 = λ l. AreOfRecords pieces rules [] l (so_far.own ++ one.own) in
      record {
        own = so_far.own ++ one.own;
        are = subst P (sym more_is) (AreOfRecords-push [] (take i records) own_range so_far.own one.own so_far.are one.are);
        joined = one.joined ∙ ap (λ l. l ++ one.own) so_far.joined ∙ append_assoc old so_far.own one.own;
      }

  pub AddsOfRecords-all : (records : List (Range ℕ)) (i : ℕ) (old new : List Violation) → length records ≤ i → AddsOfRecords pieces rules (take i records) old new
      → AddsOfRecords pieces rules records old new
  AddsOfRecords-all records i old new past so_far = let P : List (Range ℕ) → Type 0 = λ l. AddsOfRecords pieces rules l old new in subst P (take_all i records past) so_far

-- ---- a set

pub AddsOfSet-joined : (pieces : List Piece) (records : List (Range ℕ)) (s : Set_) (rules : Rules) (old found new : List Violation) → found ≡ old ++ head_violations pieces records rules s
    → AddsOfRecords pieces rules (members records s) found new → AddsOfSet pieces records s rules old new
AddsOfSet-joined pieces records s rules old found new head_added added = record {
  own = head_violations pieces records rules s ++ added.own;
  are = (added.own, added.are, refl);
  joined = added.joined ∙ ap (λ l. l ++ added.own) head_added ∙ append_assoc old (head_violations pieces records rules s) added.own;
}
