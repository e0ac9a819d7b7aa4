-- What an edit means for the records of a text.
use Rattle.std.proofs.Common.{◌≡◌, ◌∙◌, ℕ, Bool, true, false, List, [], ◌∷◌, Some, None, Ok, map, take, drop, refl, ap, ap₂, sym, subst, inl, inr}
use Rattle.std.specs.Prelude.{filter, find, is_some, option_map, if◌then◌else◌}
use Rattle.std.specs.Str.{bytes_eq}
use Rattle.std.specs.List.{AllByRecursion}
use Rattle.std.proofs.lemmas.Bool.{cases_Bool}
use Rattle.std.specs.declared.ops.Range.{Range}
use Rattle.std.proofs.lemmas.List.{take-append-drop}
use Rattle.rec_text.specs.Elements.{Piece, AreElementsOf, IsElement, text_of, has_name}
use Rattle.rec_text.specs.Records.{AreRecords, elements_in}
use Rattle.rec_text.proofs.lemmas.ListLemmas.{AllByRecursion-prefix, AllByRecursion-following}
use Rattle.rec_text.specs.Values.{value_of}
use Rattle.rec_check.specs.Words.{words}
use Rattle.rec_check.specs.Soundness.{descriptors, says}
use Rattle.rec_check.proofs.lemmas.laws.SameDescriptorLemmas.{same_descriptors as schemas_of_same}
use Rattle.rec_check.specs.Descriptors.{first_word, rec_name, type_of}
use Rattle.rec_edit.specs.Effect.{TypedRecord, HasEffect, AreRecordsAfter, typed_records, remade}
use Rattle.rec_check.specs.Schemas.{Described, IsSchema}
use Rattle.rec_edit.specs.Task.{Task}
use Rattle.rec_edit.specs.Script.{Part, closed, new_pieces, edited_text}
use Rattle.rec_edit.proofs.lemmas.records.TypedRecordLemmas.{described}
use Rattle.rec_edit.proofs.lemmas.records.ClosedLemmas.{value_of-closed}
use Rattle.rec_edit.proofs.lemmas.scripts.WellFormedLemmas.{name_of-closed}

pub map-map : {X Y Z : Type 0} (f : Y → Z) (g : X → Y) (xs : List X) → map (λ x. f (g x)) xs ≡ map f (map g xs)
map-map f g [] = refl
map-map f g (x ∷ xs) = ap (λ l. f (g x) ∷ l) (map-map f g xs)

pub elements_part : (pieces : List Piece) (r : Range ℕ) → AllByRecursion IsElement pieces → AllByRecursion IsElement (elements_in pieces r)
elements_part pieces r all =
    let prefix : AllByRecursion IsElement (take r.end pieces) =
    AllByRecursion-prefix IsElement (take r.end pieces) (drop r.end pieces) (subst (AllByRecursion IsElement) (sym (take-append-drop r.end pieces)) all) in
    AllByRecursion-following IsElement (take r.start (take r.end pieces)) (drop r.start (take r.end pieces))
    (subst (AllByRecursion IsElement) (sym (take-append-drop r.start (take r.end pieces))) prefix)

-- ---- each record is replaced by what is laid in its place

-- the own elements of the records, with the newline at the end
abbrev pub closed_owns : List Piece → List (Range ℕ) → List (List Piece)
closed_owns pieces records = map (λ r. map closed (elements_in pieces r)) records

-- the records of the edited elements, and what came of those before
pub record GivesWay (pieces new : List Piece) (selected : List ℕ) (made : List Piece → List Piece) (records : List (Range ℕ)) : Type 0 where
  pub ranges : List (Range ℕ)
  pub are : AreRecords new ranges
  pub remade_are : typed_records None (closed_owns new ranges) ≡ remade selected made (typed_records None (closed_owns pieces records))
  pub same : described selected made (closed_owns new ranges) ≡ described selected made (closed_owns pieces records)

-- ---- the effect of a step

-- what a task makes of the records, and the ones that are replaced
pub record IsDone (pieces : List Piece) (schema : Described) (task : Task) (script : List Part) : Type 0 where
  pub records : List (Range ℕ)
  pub are : AreRecords pieces records
  pub selected : List ℕ
  pub made : List Piece → List Piece
  pub gives : GivesWay pieces (new_pieces script) selected made records
  pub leads : (before after : List TypedRecord) → after ≡ remade selected made before → AreRecordsAfter pieces schema task before after

pub effect_of_done : (pieces : List Piece) (schema : Described) (task : Task) (script : List Part) → IsDone pieces schema task script → AreElementsOf (new_pieces script) (edited_text script)
    → HasEffect pieces schema task (edited_text script)
effect_of_done pieces schema task script done are = record {
  before = typed_records None (closed_owns pieces done.records);
  are_before = (done.records, done.are, refl);
  edited = new_pieces script;
  are_edited = are;
  after = typed_records None (closed_owns (new_pieces script) done.gives.ranges);
  are_after = (done.gives.ranges, done.gives.are, refl);
  leads = done.leads (typed_records None (closed_owns pieces done.records)) (typed_records None (closed_owns (new_pieces script) done.gives.ranges)) done.gives.remade_are;
}

-- ---- the descriptors say the same

says_closed : (piece : Piece) → IsElement piece → says (closed piece) ≡ says piece
says_closed piece is = ap₂ (λ name value. (name, value)) (name_of-closed piece is) (value_of-closed piece is)

map_says : (own : List Piece) → AllByRecursion IsElement own → map says (map closed own) ≡ map says own
map_says [] all = refl
map_says (piece ∷ own) all = ap₂ (λ x xs. x ∷ xs) (says_closed piece all.0) (map_says own all.1)

pub type_of-closed : (own : List Piece) → AllByRecursion IsElement own → type_of (map closed own) ≡ type_of own
type_of-closed [] all = refl
type_of-closed (piece ∷ own) all =
    let names : Piece → List ℕ = λ piece. first_word (words (value_of piece)) in
    let same : has_name rec_name (closed piece) ≡ has_name rec_name piece = ap (λ name. bytes_eq name rec_name) (name_of-closed piece all.0) in
    elim (cases_Bool (has_name rec_name piece)) [
      | inl named ↦
          ap (λ b. option_map names (if b then Some (closed piece) else find (has_name rec_name) (map closed own))) (same ∙ named)
          ∙ ap (λ v. Some (first_word (words v))) (value_of-closed piece all.0)
          ∙ sym (ap (λ b. option_map names (if b then Some piece else find (has_name rec_name) own)) named)
      | inr other ↦
          ap (λ b. option_map names (if b then Some (closed piece) else find (has_name rec_name) (map closed own))) (same ∙ other)
          ∙ type_of-closed own all.1
          ∙ sym (ap (λ b. option_map names (if b then Some piece else find (has_name rec_name) own)) other)
    ]

said_if : (b : Bool) (x y : List Piece) (xs ys : List (List Piece)) → map says x ≡ map says y → map (map says) xs ≡ map (map says) ys
    → map (map says) (if b then x ∷ xs else xs) ≡ map (map says) (if b then y ∷ ys else ys)
said_if true x y xs ys first rest = ap₂ (λ a b. a ∷ b) first rest
said_if false x y xs ys first rest = rest

-- what the descriptors among these say
abbrev pub said : List (List Piece) → List (List (List ℕ × List ℕ))
said owns = map (map says) (filter (λ own. is_some (type_of own)) owns)

said-closed : (owns : List (List Piece)) → AllByRecursion (AllByRecursion IsElement) owns → said (map (map closed) owns) ≡ said owns
said-closed [] all = refl
said-closed (own ∷ owns) all =
    let rest : List (List Piece) = filter (λ own. is_some (type_of own)) (map (map closed) owns) in
    ap (λ o. map (map says) (if is_some o then map closed own ∷ rest else rest)) (type_of-closed own all.0)
    ∙ said_if (is_some (type_of own)) (map closed own) own rest (filter (λ own. is_some (type_of own)) owns) (map_says own all.0) (said-closed owns all.1)

all_parts : (pieces : List Piece) (records : List (Range ℕ)) → AllByRecursion IsElement pieces → AllByRecursion (AllByRecursion IsElement) (map (elements_in pieces) records)
all_parts pieces [] all = tt
all_parts pieces (r ∷ records) all = (elements_part pieces r all, all_parts pieces records all)

pub said-records : (pieces : List Piece) (records : List (Range ℕ)) → AllByRecursion IsElement pieces → said (closed_owns pieces records) ≡ descriptors pieces records
said-records pieces records all =
    ap said (map-map (map closed) (elements_in pieces) records) ∙ said-closed (map (elements_in pieces) records) (all_parts pieces records all)

-- no descriptor of the edited text is faulty, and its sets have the same types
pub done_keeps_sets : (pieces : List Piece) (schema : Described) (task : Task) (script : List Part) → IsDone pieces schema task script → AreElementsOf (new_pieces script) (edited_text script)
    → IsSchema pieces (Ok schema) → AreElementsOf pieces (text_of pieces)
    → (same : Described) × IsSchema (new_pieces script) (Ok same) × (map (λ s. s.kind) same.sets ≡ map (λ s. s.kind) schema.sets)
done_keeps_sets pieces schema task script done edited is elements =
    let new : List Piece = new_pieces script in
    let same : descriptors pieces done.records ≡ descriptors new done.gives.ranges =
    sym (said-records pieces done.records elements.well_formed) ∙ ap (map (map says)) (sym done.gives.same) ∙ said-records new done.gives.ranges edited.well_formed in
    let answer = schemas_of_same pieces new done.records done.gives.ranges schema done.are done.gives.are same is in
    (answer.0, answer.1, answer.3)
