-- A record that is put in: what is laid, its typed record and descriptors, and that it is the last of its set.
use Rattle.std.proofs.Common.{◌≡◌, ◌∙◌, ℕ, ◌+◌, List, [], ◌∷◌, ◌++◌, length, map, refl, ap, ap₂, sym, inl, inr, arith, suc, true, Some, None, Bool, cond, Option, Ok, take, subst, drop}
use Rattle.std.specs.List.{AllByRecursion, position_or_len}
use Rattle.std.proofs.lemmas.Bool.{cases_Bool, le-ltb}
use Rattle.std.proofs.lemmas.List.{map-append, append-nil, drop_at, take_at, length-append, length-map, nil_from_length}
use Rattle.std.specs.Prelude.{filter, is_some, if◌then◌else◌, find, position}
use Rattle.std.specs.declared.ops.Range.{Range}
use Rattle.std.proofs.lemmas.List.Folds.{find_at}
use Rattle.std.proofs.lemmas.Option.{slice_get_cases}
use Rattle.rec_text.specs.Elements.{Piece, IsElement, AreElementsOf, text_of}
use Rattle.rec_text.proofs.lemmas.FaultLemmas.{same_value}
use Rattle.rec_edit.specs.Script.{closed, new_pieces, edited_text, Part}
use Rattle.rec_edit.specs.proving.Changes.{hunks_of}
use Rattle.rec_edit.specs.Insertions.{Insertion, Numbered, insertion_for, numbered_fields}
use Rattle.rec_text.specs.Canonical.{is_plain_name}
use Rattle.rec_check.specs.Descriptors.{rec_name, type_of, types_of}
use Rattle.rec_check.specs.Soundness.{says, descriptors}
use Rattle.rec_edit.specs.Effect.{TypedRecord, typed_records, type_after, put_at, with_new}
use Rattle.rec_text.specs.Records.{AreRecords, elements_in}
use Rattle.rec_check.specs.Schemas.{Described, IsSchema}
use Rattle.rec_check.specs.Sets.{is_of_type, AreSets}
use Rattle.rec_edit.specs.Task.{Pair, NewRecord, insert}
use Rattle.rec_edit.specs.Rules.{fields_of}
use Rattle.rec_edit.specs.Wording.{IsNewRecord}
use Rattle.rec_edit.specs.Automatic.{AreAutomatic}
use Rattle.rec_edit.specs.Outcome.{IsEditScript, EditScript, put_in}
use Rattle.rec_text.proofs.lemmas.ListLemmas.{AllByRecursion-weaker}
use Rattle.rec_edit.proofs.lemmas.records.FitLemmas.{own_of-records, records_there}
use Rattle.rec_edit.proofs.lemmas.scripts.LaidLemmas.{Ends, closed-blank, closed-field, map-closed}
use Rattle.rec_edit.proofs.lemmas.outcomes.OutcomeLemmas.{one_list_of_elements}
use Rattle.rec_edit.proofs.lemmas.scripts.WellFormedLemmas.{IsClosed}
use Rattle.rec_edit.proofs.lemmas.outcomes.EffectLemmas.{said, closed_owns, elements_part, map-map, said-records, type_of-closed}
use Rattle.rec_edit.proofs.lemmas.records.TypedRecordLemmas.{type_after-none, own_of-map, own_of}
use Rattle.rec_edit.proofs.lemmas.records.MemberLemmas.{Named, last_type}
use Rattle.rec_edit.proofs.lemmas.insertions.NewRecordLemmas.{descriptor, descriptor_says, type_of-descriptor, CanBePutIn, IsOwn-writable, descriptor_is_line, new_record_can_be_put_in}
use Rattle.rec_edit.proofs.lemmas.insertions.NewRecordLemmas.{type_of-writable, writable_lines}
use Rattle.rec_text.proofs.lemmas.records.RecordLemmas.{one_list_of_records}
use Rattle.rec_check.proofs.lemmas.laws.SameDescriptorLemmas.{new_descriptor, same_descriptors}
use Rattle.rec_edit.proofs.lemmas.outcomes.AnswerLemmas.{IsFaithful}
use Rattle.rec_edit.proofs.lemmas.insertions.PlacedLemmas.{IsPutIn, JoinsSet, OpensSet, typed_placed, untyped_placed}
use Rattle.rec_edit.proofs.lemmas.blocks.InsertionLemmas.{inserted_is_read, closed-inserted, inserted_quiet, old_pieces-inserted, some-inserted}

-- ---- the old elements up to the place, the new ones, and the other old ones

pub lines_end : (pieces : List Piece) → AllByRecursion IsClosed pieces → AllByRecursion Ends pieces
lines_end pieces all = AllByRecursion-weaker IsClosed Ends (λ piece is. is.ends) pieces all

-- ---- records one by one, where one is put among them or a new set stands after them: the typed records, and what the descriptors say

-- ---- typed records

typed_records-append : (record_type : Named) (prefix following : List (List Piece))
    → typed_records record_type (prefix ++ following) ≡ typed_records record_type prefix ++ typed_records (last_type record_type (map type_of prefix)) following
typed_records-append record_type [] following = refl
typed_records-append record_type (own ∷ prefix) following = ap (λ all_typed. record { record_type = type_after record_type own; own = own } ∷ all_typed)
    (typed_records-append (type_after record_type own) prefix following)

length-typed_records : (record_type : Named) (owns : List (List Piece)) → length (typed_records record_type owns) ≡ length owns
length-typed_records record_type [] = refl
length-typed_records record_type (own ∷ owns) = ap suc (length-typed_records (type_after record_type own) owns)

put_between : (prefix new following : List TypedRecord) (count : ℕ) → length prefix ≡ count → put_at count new (prefix ++ following) ≡ prefix ++ (new ++ following)
put_between prefix new following count size = ap₂ (λ some more. some ++ (new ++ more)) (take_at prefix following count size) (drop_at prefix following count size)

-- a record that names no type has that of the records before it
pub all_typed-put : (record_type : Named) (prefix following : List (List Piece)) (own : List Piece) (count : ℕ) → length prefix ≡ count → last_type None (map type_of prefix) ≡ record_type
    → type_of own ≡ None
    → typed_records None (prefix ++ (own ∷ following)) ≡ put_at count (record { record_type = record_type; own = own } ∷ []) (typed_records None (prefix ++ following))
all_typed-put record_type prefix following own count size ends plain =
    let before : List TypedRecord = typed_records None prefix in
    let later : List TypedRecord = typed_records record_type following in
    let new : List TypedRecord = record { record_type = record_type; own = own } ∷ [] in
    let old : typed_records None (prefix ++ following) ≡ before ++ later = typed_records-append None prefix following ∙ ap (λ k. before ++ typed_records k following) ends in
    typed_records-append None prefix (own ∷ following) ∙ ap (λ k. before ++ typed_records k (own ∷ following)) ends
    ∙ ap (λ k. before ++ (record { record_type = k; own = own } ∷ typed_records k following)) (type_after-none record_type own plain)
    ∙ sym (ap (put_at count new) old ∙ put_between before new later count (length-typed_records None prefix ∙ size))

pub all_typed-opened : (record_type : List ℕ) (owns : List (List Piece)) (own : List Piece) → is_plain_name record_type ≡ true → type_of own ≡ None
    → typed_records None (owns ++ ((descriptor record_type ∷ []) ∷ own ∷ [])) ≡ typed_records None owns
    ++ (record { record_type = Some record_type; own = descriptor record_type ∷ [] } ∷ record { record_type = Some record_type; own = own } ∷ [])
all_typed-opened record_type owns own named plain =
    let before : Named = last_type None (map type_of owns) in
    let first : type_after before (descriptor record_type ∷ []) ≡ Some record_type =
    ap (λ o. elim o as (λ x. Named) [ None ↦ before | Some named ↦ Some named ]) (type_of-descriptor record_type named) in
    let both : Named → List TypedRecord = λ k. record { record_type = k; own = descriptor record_type ∷ [] } ∷ record { record_type = type_after k own; own = own } ∷ [] in
    typed_records-append None owns ((descriptor record_type ∷ []) ∷ own ∷ []) ∙ ap (λ k. typed_records None owns ++ both k) first
    ∙ ap (λ k. typed_records None owns ++ (record { record_type = Some record_type; own = descriptor record_type ∷ [] } ∷ record { record_type = k; own = own } ∷ []))
    (type_after-none (Some record_type) own plain)

-- ---- what the descriptors say

said-cons : (own : List Piece) (some more : List (List Piece)) (rest : List (List (List ℕ × List ℕ))) → said some ≡ said more ++ rest → said (own ∷ some) ≡ said (own ∷ more) ++ rest
said-cons own some more rest same = elim (cases_Bool (is_some (type_of own))) [
  | inl typed ↦ rw typed (ap (λ l. map says own ∷ l) same)
  | inr plain ↦ rw plain same
]

said-none : (own : List Piece) (owns : List (List Piece)) → type_of own ≡ None → said (own ∷ owns) ≡ said owns
said-none own owns plain =
    let rest : List (List Piece) = filter (λ own. is_some (type_of own)) owns in
    ap (λ o. map (map says) (if is_some o then own ∷ rest else rest)) plain

said-descriptor : (record_type : List ℕ) (owns : List (List Piece)) → is_plain_name record_type ≡ true → said ((descriptor record_type ∷ []) ∷ owns) ≡ ((rec_name, record_type) ∷ []) ∷ said owns
said-descriptor record_type owns named =
    let rest : List (List Piece) = filter (λ own. is_some (type_of own)) owns in
    ap (λ o. map (map says) (if is_some o then (descriptor record_type ∷ []) ∷ rest else rest)) (type_of-descriptor record_type named)
    ∙ ap (λ first. first ∷ said owns) (descriptor_says record_type named)

said-following : (prefix some more : List (List Piece)) (rest : List (List (List ℕ × List ℕ))) → said some ≡ said more ++ rest → said (prefix ++ some) ≡ said (prefix ++ more) ++ rest
said-following [] some more rest same = same
said-following (own ∷ prefix) some more rest same = said-cons own (prefix ++ some) (prefix ++ more) rest (said-following prefix some more rest same)

-- a record that names no type says nothing
pub said-put : (prefix following : List (List Piece)) (own : List Piece) → type_of own ≡ None → said (prefix ++ (own ∷ following)) ≡ said (prefix ++ following)
said-put prefix following own plain =
    said-following prefix (own ∷ following) following [] (said-none own following plain ∙ sym (append-nil (said following))) ∙ append-nil (said (prefix ++ following))

pub said-opened : (record_type : List ℕ) (owns : List (List Piece)) (own : List Piece) → is_plain_name record_type ≡ true → type_of own ≡ None
    → said (owns ++ ((descriptor record_type ∷ []) ∷ own ∷ [])) ≡ said owns ++ ((rec_name, record_type) ∷ []) ∷ []
said-opened record_type owns own named plain =
    said-following owns ((descriptor record_type ∷ []) ∷ own ∷ []) [] (((rec_name, record_type) ∷ []) ∷ []) (said-descriptor record_type (own ∷ []) named
    ∙ ap (λ ds. ((rec_name, record_type) ∷ []) ∷ ds) (said-none own [] plain))
    ∙ ap (λ l. said l ++ ((rec_name, record_type) ∷ []) ∷ []) (append-nil owns)

-- ---- a record that is put in: the new elements are those of the edited text, its descriptors are sound, and it is the last of its set

type_of-owns : (pieces : List Piece) (records : List (Range ℕ)) → AllByRecursion IsElement pieces → map type_of (closed_owns pieces records) ≡ types_of pieces records
type_of-owns pieces [] all = refl
type_of-owns pieces (r ∷ records) all = ap₂ (λ t ts. t ∷ ts) (type_of-closed (elements_in pieces r) (elements_part pieces r all)) (type_of-owns pieces records all)

-- the elements of the edited text, and their records
abbrev script_by : List Piece → Insertion → List Part
script_by pieces insertion = (put_in insertion pieces).script

abbrev edited : List Piece → Insertion → List Piece
edited pieces insertion = new_pieces (script_by pieces insertion)

abbrev ranges : List Piece → List (Range ℕ)
ranges pieces = (records_there pieces).0

-- The records of the edited text are those that are made, and the old ones before and after them. This many stand before.
record AreAround (pieces : List Piece) (records : List (Range ℕ)) (insertion : Insertion) (count : ℕ) (made : List (List Piece)) : Type 0 where
  prefix : List (List Piece)
  following : List (List Piece)
  before : closed_owns pieces records ≡ prefix ++ following
  after : closed_owns (edited pieces insertion) (ranges (edited pieces insertion)) ≡ prefix ++ (map (map closed) made ++ following)
  counts : length prefix ≡ count
  types : map type_of prefix ≡ take count (types_of pieces records)

-- no place of one that isn't found
position-none : {X : Type 0} (test : X → Bool) (xs : List X) → find test xs ≡ None → position test xs ≡ None
position-none test xs none = elim (slice_get_cases xs (position_or_len test xs)).1 [
  | inl (x, within, at, same) ↦ absurd (let clash = sym none ∙ find_at test xs ∙ at in cc)
  | inr (past, at) ↦ ap (λ b. cond b (Some (position_or_len test xs)) None) (le-ltb (position_or_len test xs) (length xs) past)
]

module _ (pieces : List Piece) (schema : Described) (elements : AreElementsOf pieces (text_of pieces)) (is : IsSchema pieces (Ok schema)) (records : List (Range ℕ))
    (are : AreRecords pieces records) where
  -- ---- elements that are put in

  module _ (insertion : Insertion) (lines : AllByRecursion IsClosed insertion.new) where
    is_read : AreElementsOf (edited pieces insertion) (edited_text (script_by pieces insertion))
    is_read = inserted_is_read insertion.place insertion.new pieces lines elements

    is_quiet : edited_text (script_by pieces insertion) ≡ text_of pieces → hunks_of (script_by pieces insertion) ≡ []
    is_quiet same =
        let new : List Piece = edited pieces insertion in
        inserted_quiet insertion.place insertion.new pieces lines elements
        (old_pieces-inserted insertion.place insertion.new pieces lines elements ∙ sym (one_list_of_elements (text_of pieces) new pieces (subst (AreElementsOf new) same is_read) elements))

    -- the records before those that are put in and the ones after, with their newlines
    around : (count : ℕ) (made : List (List Piece)) → IsPutIn pieces insertion.new insertion.place count made → AreAround pieces records insertion count made
    around count made put =
        let new : List Piece = edited pieces insertion in
        let prefix : List (List Piece) = map (map closed) (own_of put.prefix) in
        let following : List (List Piece) = map (map closed) (own_of put.following) in
        let ends : map closed insertion.new ≡ insertion.new = map-closed insertion.new (lines_end insertion.new lines) in
        let parts : map closed new ≡ map closed (put.prefix ++ (insertion.new ++ put.following)) =
        closed-inserted insertion.place insertion.new pieces lines elements
        ∙ ap₂ (λ some more. map closed some ++ (insertion.new ++ map closed more))
        (ap (take insertion.place) put.parts ∙ take_at put.prefix put.following insertion.place (sym put.here))
        (ap (drop insertion.place) put.parts ∙ drop_at put.prefix put.following insertion.place (sym put.here))
        ∙ ap (λ l. map closed put.prefix ++ (l ++ map closed put.following)) (sym ends)
        ∙ ap (λ l. map closed put.prefix ++ l) (sym (map-append closed insertion.new put.following)) ∙ sym (map-append closed put.prefix (insertion.new ++ put.following)) in
        let before : closed_owns pieces records ≡ prefix ++ following =
        map-map (map closed) (elements_in pieces) records ∙ ap (map (map closed)) (own_of-records pieces records are ∙ put.before)
        ∙ map-append (map closed) (own_of put.prefix) (own_of put.following) in
        let counts : length prefix ≡ count = length-map (own_of put.prefix) (map closed) ∙ put.counts in
        record {
          prefix = prefix;
          following = following;
          before = before;
          after = map-map (map closed) (elements_in new) (ranges new) ∙ ap (map (map closed)) (own_of-records new (ranges new) (records_there new).1)
              ∙ sym (own_of-map closed closed-blank closed-field new) ∙ ap own_of parts ∙ own_of-map closed closed-blank closed-field (put.prefix ++ (insertion.new ++ put.following))
              ∙ ap (map (map closed)) put.after ∙ map-append (map closed) (own_of put.prefix) (made ++ own_of put.following)
              ∙ ap (λ l. prefix ++ l) (map-append (map closed) made (own_of put.following));
          counts = counts;
          types = sym (ap (take count) (sym (type_of-owns pieces records elements.well_formed) ∙ ap (map type_of) before ∙ map-append type_of prefix following)
              ∙ take_at (map type_of prefix) (map type_of following) count (length-map prefix type_of ∙ counts));
        }

  -- ---- a new record

  are_sets : AreSets (types_of pieces records) schema.sets
  are_sets = subst (λ rs. AreSets (types_of pieces rs) schema.sets) (one_list_of_records pieces is.records records is.are are) is.sets

  said_before : descriptors pieces records ≡ said (closed_owns pieces records)
  said_before = sym (said-records pieces records elements.well_formed)

  said_after : (insertion : Insertion) → AllByRecursion IsClosed insertion.new
      → descriptors (edited pieces insertion) (ranges (edited pieces insertion)) ≡ said (closed_owns (edited pieces insertion) (ranges (edited pieces insertion)))
  said_after insertion lines = sym (said-records (edited pieces insertion) (ranges (edited pieces insertion)) (is_read insertion lines).well_formed)

  -- the descriptors of the edited text are sound, and the new record is the last of its set
  record Inserts (record_type : Option (List ℕ)) (fields : List Piece) (insertion : Insertion) : Type 0 where
    lines : AllByRecursion IsClosed insertion.new
    sound : (more : Described) × IsSchema (edited pieces insertion) (Ok more)
    leads : typed_records None (closed_owns (edited pieces insertion) (ranges (edited pieces insertion))) ≡ with_new schema.sets record_type fields (typed_records None (closed_owns pieces records))

  joins : (record_type : Option (List ℕ)) (fields : List Piece) → CanBePutIn record_type fields → (insertion : Insertion) → JoinsSet pieces records are schema.sets fields record_type insertion
      → Inserts record_type fields insertion
  joins record_type fields can insertion to =
      let new : List Piece = edited pieces insertion in
      let plain : type_of fields ≡ None = type_of-writable fields can.writable in
      let owns : AreAround pieces records insertion to.count (fields ∷ []) = around insertion to.lines to.count (fields ∷ []) to.put in
      let after : closed_owns new (ranges new) ≡ owns.prefix ++ (fields ∷ owns.following) =
      owns.after ∙ ap (λ own. owns.prefix ++ (own ∷ owns.following)) (map-closed fields (lines_end fields (writable_lines fields can.writable))) in
      let alike : descriptors pieces records ≡ descriptors new (ranges new) =
      said_before ∙ ap said owns.before ∙ sym (said_after insertion to.lines ∙ ap said after ∙ said-put owns.prefix owns.following fields plain) in
      let answer = same_descriptors pieces new records (ranges new) schema are (records_there new).1 alike is in
      record {
        lines = to.lines;
        sound = (answer.0, answer.1);
        leads = ap (typed_records None) after ∙ all_typed-put record_type owns.prefix owns.following fields to.count owns.counts (ap (last_type None) owns.types ∙ to.following) plain
            ∙ sym (to.puts (typed_records None (owns.prefix ++ owns.following))) ∙ ap (λ l. with_new schema.sets record_type fields (typed_records None l)) (sym owns.before);
      }

  opens : (record_type : List ℕ) (fields : List Piece) → CanBePutIn (Some record_type) fields → (insertion : Insertion) → OpensSet pieces records are schema.sets fields record_type insertion
      → Inserts (Some record_type) fields insertion
  opens record_type fields can insertion to =
      let new : List Piece = edited pieces insertion in
      let made : List (List Piece) = (descriptor record_type ∷ []) ∷ fields ∷ [] in
      let lines : AllByRecursion IsClosed fields = writable_lines fields can.writable in
      let plain : type_of fields ≡ None = type_of-writable fields can.writable in
      let owns : AreAround pieces records insertion (length (own_of pieces)) made = around insertion to.lines (length (own_of pieces)) made to.put in
      let before : closed_owns pieces records ≡ owns.prefix = owns.before ∙ ap (λ l. owns.prefix ++ l) (none_after insertion made owns) ∙ append-nil owns.prefix in
      let after : closed_owns new (ranges new) ≡ owns.prefix ++ made =
      owns.after ∙ ap (λ l. owns.prefix ++ (map (map closed) made ++ l)) (none_after insertion made owns)
      ∙ ap₂ (λ first own. owns.prefix ++ (first ∷ own ∷ [])) (map-closed (descriptor record_type ∷ []) (lines_end (descriptor record_type ∷ []) (descriptor_is_line record_type can.plain, tt)))
      (map-closed fields (lines_end fields lines)) in
      let more : descriptors new (ranges new) ≡ descriptors pieces records ++ ((rec_name, record_type) ∷ []) ∷ [] =
      said_after insertion to.lines ∙ ap said after ∙ said-opened record_type owns.prefix fields can.plain plain
      ∙ ap (λ l. l ++ ((rec_name, record_type) ∷ []) ∷ []) (sym (said_before ∙ ap said before)) in
      let answer = new_descriptor pieces new records (ranges new) schema record_type are (records_there new).1 more can.plain (position-none (is_of_type record_type) schema.sets to.absent) is in
      record {
        lines = to.lines;
        sound = (answer.0, answer.1);
        leads = ap (typed_records None) after ∙ all_typed-opened record_type owns.prefix fields can.plain plain
            ∙ ap (λ l. typed_records None l ++ (record { record_type = Some record_type; own = descriptor record_type ∷ [] } ∷ record { record_type = Some record_type; own = fields } ∷ []))
            (sym before)
            ∙ rw to.absent refl;
      }
    where
      -- no record stands after all of them
      none_after : (insertion : Insertion) (made : List (List Piece)) (owns : AreAround pieces records insertion (length (own_of pieces)) made) → owns.following ≡ []
      none_after insertion made owns =
          let sizes : length (closed_owns pieces records) ≡ length owns.prefix + length owns.following = ap length owns.before ∙ length-append owns.prefix owns.following in
          let total : length (closed_owns pieces records) ≡ length records = length-map records (λ r. map closed (elements_in pieces r)) in
          let all : length (own_of pieces) ≡ length records = ap length (sym (own_of-records pieces records are)) ∙ length-map records (elements_in pieces) in
          nil_from_length owns.following (omega (arith, sizes, total, all, owns.counts))

  inserts : (record_type : Option (List ℕ)) (fields : List Piece) → CanBePutIn record_type fields → Inserts record_type fields (insertion_for pieces records schema.sets record_type fields)
  inserts None fields can =
      joins None fields can (insertion_for pieces records schema.sets None fields)
      (untyped_placed pieces records are fields (IsOwn-writable fields can.some can.writable) (writable_lines fields can.writable) schema.sets are_sets)
  inserts (Some record_type) fields can =
      elim (typed_placed pieces records are schema.sets fields (IsOwn-writable fields can.some can.writable) (writable_lines fields can.writable) are_sets record_type can.plain) [
        | inl to ↦ joins (Some record_type) fields can (insertion_for pieces records schema.sets (Some record_type) fields) to
        | inr to ↦ opens record_type fields can (insertion_for pieces records schema.sets (Some record_type) fields) to
      ]

  -- ---- the edit

  module _ (record_type : Option (List ℕ)) (fresh : NewRecord) (auto : Bool) (pairs : List Pair) (automatic : List Numbered)
      (new : IsNewRecord record_type fresh (Ok pairs)) (numbered : AreAutomatic pieces schema record_type auto (map (λ pair. pair.name) pairs) (Ok automatic)) where
    abbrev fields_put : List Piece
    fields_put = numbered_fields automatic ++ fields_of pairs

    insertion_is_faithful : (insertion : Insertion) → Inserts record_type fields_put insertion
        → IsFaithful pieces schema (insert record_type fresh auto) (put_in insertion pieces)
    insertion_is_faithful insertion done = record {
      old = old_pieces-inserted insertion.place insertion.new pieces done.lines elements;
      some = some-inserted insertion.place insertion.new pieces done.lines elements;
      read = is_read insertion done.lines;
      unchanged = is_quiet insertion done.lines;
      sound = done.sound;
      effect = record {
        before = typed_records None (closed_owns pieces records);
        are_before = (records, are, refl);
        edited = edited pieces insertion;
        are_edited = is_read insertion done.lines;
        after = typed_records None (closed_owns (edited pieces insertion) (ranges (edited pieces insertion)));
        are_after = (ranges (edited pieces insertion), (records_there (edited pieces insertion)).1, refl);
        leads = (pairs, automatic, new, numbered, done.leads);
      };
    }

    insert_is_faithful : IsFaithful pieces schema (insert record_type fresh auto) (put_in (insertion_for pieces records schema.sets record_type fields_put) pieces)
    insert_is_faithful =
        insertion_is_faithful (insertion_for pieces records schema.sets record_type fields_put)
        (inserts record_type fields_put (new_record_can_be_put_in pieces schema record_type fresh auto pairs automatic is new numbered))

-- a record that is put in
pub faithful_insert : (pieces : List Piece) (schema : Described) (force : Bool) (record_type : Option (List ℕ)) (fresh : NewRecord) (auto : Bool) (edit : EditScript)
    → AreElementsOf pieces (text_of pieces) → IsSchema pieces (Ok schema) → IsEditScript pieces schema force (insert record_type fresh auto) (Ok edit)
    → IsFaithful pieces schema (insert record_type fresh auto) edit
faithful_insert pieces schema force record_type fresh auto edit elements is (inl (fault, refused, e)) = absurd (cc)
faithful_insert pieces schema force record_type fresh auto edit elements is (inr (pairs, new, inl (fault, refused, e))) = absurd (cc)
faithful_insert pieces schema force record_type fresh auto edit elements is (inr (pairs, new, inr (automatic, numbered, (records, are, same)))) =
    subst (IsFaithful pieces schema (insert record_type fresh auto))
    (sym (same_value edit (put_in (insertion_for pieces records schema.sets record_type (numbered_fields automatic ++ fields_of pairs)) pieces) same))
    (insert_is_faithful pieces schema elements is records are record_type fresh auto pairs automatic new numbered)
