-- Lemmas on the text of a batch.
use Rattle.std.proofs.Common.{◌≡◌, ℕ, Bool, true, false, List, [], ◌∷◌, ◌++◌, Option, Some, None, map, take, codes, length, drop, get_or, zero, suc, ◌+◌, ◌<◌, inl, inr, arith, add-one}
use Rattle.std.proofs.Common.{if◌then◌else◌, ◌∙◌, refl, sym, ap, subst}
use Rattle.std.specs.Prelude.{Result, Ok, Err, IfOk, IfErr, option_to_list}
use Rattle.std.specs.List.{AllByRecursion, AllZip}
use Rattle.std.specs.declared.ops.Range.{Range}
use Rattle.rec_text.specs.declared.fault.Fault.{Fault}
use Rattle.rec_text.specs.declared.fault.Fault.TheVariants.{BadLine, OpenLine, BadBatch}
use Rattle.rec_text.specs.Bytes.{is_among}
use Rattle.rec_text.specs.Elements.{Piece, AreElementsOf, name_of, text_of}
use Rattle.rec_text.specs.Reading.{IsReading, line_after}
use Rattle.rec_text.proofs.lemmas.ListLemmas.{AllByRecursion-following}
use Rattle.rec_text.proofs.lemmas.elements.ElementLemmas.{text_of-take}
use Rattle.rec_text.proofs.lemmas.reading.ReadingLemmas.{one_reading}
use Rattle.rec_text.proofs.lemmas.records.RecordLemmas.{OneListOfRecords-holds}
use Rattle.std.proofs.lemmas.List.{map-append}
use Rattle.std.proofs.lemmas.Slice.Zip.{all_zipped_more}
use Rattle.rec_text.specs.Records.{AreRecords, elements_in, is_field_piece}
use Rattle.rec_journal.specs.declared.event.Tool.{Tool}
use Rattle.rec_journal.specs.declared.event.Tool.TheVariants.{RecIns, RecDel, RecSet}
use Rattle.rec_journal.specs.Event.{tool_name}
use Rattle.rec_edit.specs.declared.request.Action.{Action}
use Rattle.rec_edit.specs.declared.request.NewRecord.{NewRecord}
use Rattle.rec_edit.specs.Options.{new_record_for}
use Rattle.rec_text.proofs.lemmas.FaultLemmas.{no_both, same_fault, same_value}
use Rattle.rec_journal.proofs.lemmas.events.PartLemmas.{tool-same}
use Rattle.rec_text.specs.declared.or_memory.OrMemory.{OrMemory}
use Rattle.rec_text.specs.declared.or_memory.OrMemory.TheVariants.{Refused, OutOfMemory}
use Rattle.rec_tools.specs.declared.batches.NotAnEdit.{NotAnEdit}
use Rattle.rec_tools.specs.declared.request.Ask.TheVariants.{All}
use Rattle.rec_tools.specs.declared.request.Pick.{Pick}
use Rattle.rec_tools.specs.declared.request.EditRequest.{EditRequest}
use Rattle.rec_tools.specs.declared.request.EditRequest.TheVariants.{Insert, Replace, Delete, CommentOut, Set}
use Rattle.rec_tools.specs.proving.Finding.{FindsPart, AreEditsIn, unread_by}
use Rattle.rec_tools.specs.Batches.{EditsRecords, is_known, AsksFor, AsksTool, IsBy, IsEdit, HasOnly, HasWord, IsPickOf, IsFreshOf, IsAutoOf, IsActionOf, HasNoEditAt, IsUnreadAt, AreEditsOf, AreEdits}

-- ---- one value of a name

pub one_option : {X : Type 0} (a b : Option X) → option_to_list a ≡ option_to_list b → a ≡ b
one_option None None same = refl
one_option None (Some y) same = absurd (cc)
one_option (Some x) None same = absurd (cc)
one_option (Some x) (Some y) same = cc

one_item : {X : Type 0} (a b : X) → a ∷ [] ≡ b ∷ [] → a ≡ b
one_item a b same = cc

-- a record names one tool
pub one_tool : (own : List Piece) (a b : Tool) → IsBy a own → IsBy b own → a ≡ b
one_tool own a b by_a by_b = tool-same a b (one_item (tool_name a) (tool_name b) (sym by_a.named ∙ by_b.named))

-- ---- the first record that is no edit

-- two cuts of a list before its first element without the fact are one
pub one_first : {X : Type 0} (P : X → Type 0) (earlier others : List X) (bad worse : X) (rest more : List X)
    → earlier ++ bad ∷ rest ≡ others ++ worse ∷ more → AllByRecursion P earlier → AllByRecursion P others
    → (P bad → ⊥) → (P worse → ⊥) → bad ≡ worse
one_first P [] [] bad worse rest more same all others_all not_bad not_worse = cc
one_first P [] (x ∷ xs) bad worse rest more same all others_all not_bad not_worse =
    let e : bad ≡ x = cc in absurd (not_bad (subst P (sym e) others_all.0))
one_first P (x ∷ xs) [] bad worse rest more same all others_all not_bad not_worse =
    let e : x ≡ worse = cc in absurd (not_worse (subst P e all.0))
one_first P (x ∷ xs) (y ∷ ys) bad worse rest more same all others_all not_bad not_worse =
    one_first P xs ys bad worse rest more (let e : xs ++ bad ∷ rest ≡ ys ++ worse ∷ more = cc in e) all.1 others_all.1 not_bad not_worse

-- where each of a list's elements has its other, all before an element have one, and so has it
pub AllZip-part : {X Y : Type 0} (R : X → Y → Type 0) (P : X → Type 0) (earlier : List X) (bad : X) (rest : List X) (others : List Y)
    → ((x : X) (y : Y) → R x y → P x) → AllZip R (earlier ++ bad ∷ rest) others → P bad
AllZip-part R P [] bad rest [] of zipped = absurd zipped
AllZip-part R P [] bad rest (y ∷ ys) of zipped = of bad y zipped.0
AllZip-part R P (x ∷ xs) bad rest [] of zipped = absurd zipped
AllZip-part R P (x ∷ xs) bad rest (y ∷ ys) of zipped = AllZip-part R P xs bad rest ys of zipped.1

-- edits of the same records, pair by pair
pub AllZip-pairs : {X Y : Type 0} (R : X → Y → Type 0) (xs : List X) (ys zs : List Y) → AllZip R xs ys → AllZip R xs zs
    → AllZip (λ y z. (x : X) × R x y × R x z) ys zs
AllZip-pairs R [] [] [] one other = tt
AllZip-pairs R [] [] (z ∷ zs) one other = absurd other
AllZip-pairs R [] (y ∷ ys) zs one other = absurd one
AllZip-pairs R (x ∷ xs) [] zs one other = absurd one
AllZip-pairs R (x ∷ xs) (y ∷ ys) [] one other = absurd other
AllZip-pairs R (x ∷ xs) (y ∷ ys) (z ∷ zs) one other = ((x, one.0, other.0), AllZip-pairs R xs ys zs one.1 other.1)

-- what pairs of a list's images with others say of the list itself
pub AllZip-from-map : {X Y Z : Type 0} (R : Y → Z → Type 0) (f : X → Y) (xs : List X) (zs : List Z) → AllZip R (map f xs) zs
    → AllByRecursion (λ x. (z : Z) × R (f x) z) xs
AllZip-from-map R f [] zs zipped = tt
AllZip-from-map R f (x ∷ xs) [] zipped = absurd zipped
AllZip-from-map R f (x ∷ xs) (z ∷ zs) zipped = ((z, zipped.0), AllZip-from-map R f xs zs zipped.1)

-- ---- what a record asks its tool for has all its parts

pub insertion_parts : (own : List Piece) (edit : EditRequest) → AsksTool RecIns own edit
    → ((pick : Pick) × IsPickOf own pick) × ((fresh : NewRecord) × IsFreshOf own fresh) × ((auto : Bool) × IsAutoOf own auto)
insertion_parts own (Insert record_type fresh auto) asks = ((record { kind = record_type; by = All }, asks.0), (fresh, asks.1), (auto, asks.2))
insertion_parts own (Replace pick fresh) asks = ((pick, asks.1), (fresh, asks.2), asks.3)
insertion_parts own _ asks = absurd asks

pub deletion_parts : (own : List Piece) (edit : EditRequest) → AsksTool RecDel own edit
    → ((pick : Pick) × IsPickOf own pick) × ((comments : Bool) × HasWord (codes "Comment") (codes "yes") own comments)
deletion_parts own (Delete pick) asks = ((pick, asks.1), (false, asks.0))
deletion_parts own (CommentOut pick) asks = ((pick, asks.1), (true, asks.0))
deletion_parts own _ asks = absurd asks

pub setting_parts : (own : List Piece) (edit : EditRequest) → AsksTool RecSet own edit
    → ((pick : Pick) × IsPickOf own pick) × ((list : List ℕ) × HasOnly (codes "Fields") own (Some list))
    × ((action : Action) × IsActionOf own action)
setting_parts own (Set pick list action) asks = ((pick, asks.0), (list, asks.1), (action, asks.2))
setting_parts own _ asks = absurd asks

pub word_part : (name word : List ℕ) (own : List Piece) (is_there : Bool) → HasWord name word own is_there
    → (value : Option (List ℕ)) × HasOnly name own value
word_part name word own true has = (Some word, has)
word_part name word own false has = (None, has)

pub record_part : (own : List Piece) (fresh : NewRecord) → IsFreshOf own fresh
    → (value : Option (List ℕ)) × HasOnly (codes "Record") own value
record_part own fresh is = ((new_record_for fresh).2, is.text)

pub tool_part : (own : List Piece) (tool : Tool) → IsBy tool own × EditsRecords tool
    → (value : Option (List ℕ)) × HasOnly (codes "Tool") own value
tool_part own tool by = (Some (tool_name tool), sym by.0.named)

-- ---- refusals

-- where a part isn't found, the whole isn't
pub refused_too : {X Y : Type 0} (P : X → Type 0) (Q : Y → Type 0) (refusal : OrMemory NotAnEdit) → ((y : Y) → Q y → (x : X) × P x)
    → FindsPart P (Err refusal) → FindsPart Q (Err refusal)
refused_too P Q (Refused no_edit) has none = λ y q. let p = has y q in none p.0 p.1
refused_too P Q OutOfMemory has none = tt

-- what is found of a record's tool is what the record asks for
pub by_tool : (own : List Piece) (tool : Tool) (answer : Result EditRequest (OrMemory NotAnEdit)) → IsBy tool own
    → FindsPart (AsksTool tool own) answer → FindsPart (AsksFor own) answer
by_tool own tool (Ok edit) by asks = (tool, by, asks)
by_tool own tool (Err (Refused no_edit)) by none = λ edit asked.
    let same : asked.0 ≡ tool = one_tool own asked.0 tool asked.1 by in
    none edit (subst (λ tool. AsksTool tool own edit) same asked.2)
by_tool own tool (Err OutOfMemory) by none = tt

-- ---- the walk over the records

cut_at : {X : Type 0} (xs : List X) (i : ℕ) (d : X) → i < length xs → xs ≡ take i xs ++ get_or xs i d ∷ drop (suc i) xs
cut_at [] i d within = absurd (omega arith)
cut_at (x ∷ xs) zero d within = refl
cut_at (x ∷ xs) (suc i) d within = ap (λ rest. x ∷ rest) (cut_at xs i d (omega arith))

take_one_more : {X : Type 0} (xs : List X) (i : ℕ) (d : X) → i < length xs → take (suc i) xs ≡ take i xs ++ get_or xs i d ∷ []
take_one_more [] i d within = absurd (omega arith)
take_one_more (x ∷ xs) zero d within = refl
take_one_more (x ∷ xs) (suc i) d within = ap (λ rest. x ∷ rest) (take_one_more xs i d (omega arith))

AllZip-next : {X Y Z : Type 0} (R : Y → Z → Type 0) (f : X → Y) (xs : List X) (zs : List Z) (i : ℕ) (x : X) (z : Z)
    → i < length xs → AllZip R (map f (take i xs)) zs → R (f (get_or xs i x)) z
    → AllZip R (map f (take (i + 1) xs)) (zs ++ z ∷ [])
AllZip-next R f xs zs i x z within zipped last =
    rw (add-one, take_one_more xs i x within, map-append f (take i xs) (get_or xs i x ∷ []))
    (all_zipped_more R (map f (take i xs)) zs (f (get_or xs i x)) z zipped last)

pub no_edit_at : (pieces : List Piece) (records : List (Range ℕ)) (edits : List EditRequest) (i line place : ℕ) (d : Range ℕ)
    → i < length records → AllZip AsksFor (map (elements_in pieces) (take i records)) edits
    → ((edit : EditRequest) → AsksFor (elements_in pieces (get_or records i d)) edit → ⊥)
    → place ≡ length (text_of (take (get_or records i d).start pieces)) → line ≡ line_after (take place (text_of pieces))
    → HasNoEditAt pieces records line
no_edit_at pieces records edits i line place d within zipped none at numbered = record {
  earlier = take i records;
  bad = get_or records i d;
  rest = drop (suc i) records;
  parts = cut_at records i d within;
  sound = AllZip-from-map AsksFor (elements_in pieces) (take i records) edits zipped;
  none = λ edit. none edit.0 edit.1;
  number = numbered ∙ ap line_after (ap (λ place. take place (text_of pieces)) at ∙ text_of-take (get_or records i d).start pieces);
}

-- ---- one answer

one_line : (pieces : List Piece) (records : List (Range ℕ)) (line other : ℕ) → HasNoEditAt pieces records line
    → HasNoEditAt pieces records other → line ≡ other
one_line pieces records line other one two =
    let same = one_first (λ own. IsEdit (elements_in pieces own)) one.earlier two.earlier one.bad two.bad one.rest two.rest
    (sym one.parts ∙ two.parts) one.sound two.sound one.none two.none in
    one.number ∙ (ap (λ (bad : Range ℕ). line_after (text_of (take bad.start pieces))) same ∙ sym two.number)

edits_or_line : (pieces : List Piece) (records : List (Range ℕ)) (edits : List EditRequest) (line : ℕ)
    → AllZip AsksFor (map (elements_in pieces) records) edits → HasNoEditAt pieces records line → ⊥
edits_or_line pieces records edits line zipped no_edit =
    let all = AllZip-from-map AsksFor (elements_in pieces) records edits zipped in
    let parts = subst (AllByRecursion (λ own. IsEdit (elements_in pieces own))) no_edit.parts all in
    no_edit.none (AllByRecursion-following (λ own. IsEdit (elements_in pieces own)) no_edit.earlier (no_edit.bad ∷ no_edit.rest) parts).0

-- at each place some record asks for both edits, or the faults are one
abbrev pub AskAlike : Result (List EditRequest) Fault → Result (List EditRequest) Fault → Type 0
AskAlike (Ok edits) (Ok others) = AllZip (λ one other. (own : List Piece) × AsksFor own one × AsksFor own other) edits others
AskAlike (Err fault) (Err other) = fault ≡ other
AskAlike _ _ = ⊥

agree_edits : (one other : Result (List EditRequest) Fault) (edits others : List EditRequest) → one ≡ Ok edits → other ≡ Ok others
    → AllZip (λ one other. (own : List Piece) × AsksFor own one × AsksFor own other) edits others → AskAlike one other
agree_edits one other edits others is_one is_other all = rw (is_one, is_other) all

agree_lines : (one other : Result (List EditRequest) Fault) (line number : ℕ) → one ≡ Err (BadBatch line)
    → other ≡ Err (BadBatch number) → line ≡ number → AskAlike one other
agree_lines one other line number is_one is_other same = rw (is_one, is_other) (ap BadBatch same)

agree_records : (pieces : List Piece) (records : List (Range ℕ)) (one other : Result (List EditRequest) Fault)
    → AreEditsOf pieces records one → AreEditsOf pieces records other → AskAlike one other
agree_records pieces records one other (inl a) (inl b) =
    agree_edits one other a.0 b.0 a.2 b.2 (AllZip-pairs AsksFor (map (elements_in pieces) records) a.0 b.0 a.1 b.1)
agree_records pieces records one other (inl a) (inr b) = absurd (edits_or_line pieces records a.0 b.0 a.1 b.1)
agree_records pieces records one other (inr a) (inl b) = absurd (edits_or_line pieces records b.0 a.0 b.1 a.1)
agree_records pieces records one other (inr a) (inr b) = agree_lines one other a.0 b.0 a.2 b.2 (one_line pieces records a.0 b.0 a.1 b.1)

unread_fault : (text : List ℕ) (line : ℕ) → IsUnreadAt text line
    → (fault : Fault) × IsReading text (Err fault) × (unread_by fault ≡ BadBatch line)
unread_fault text line (inl bad) = (BadLine line, bad, refl)
unread_fault text line (inr bad) = (OpenLine line, bad, refl)

one_bad_line : (line number : ℕ) → BadBatch line ≡ BadBatch number → line ≡ number
one_bad_line line number same = cc

one_unread : (text : List ℕ) (line number : ℕ) → IsUnreadAt text line → IsUnreadAt text number → line ≡ number
one_unread text line number a b =
    let one = unread_fault text line a in
    let other = unread_fault text number b in
    let same = same_fault one.0 other.0 (one_reading text (Err one.0) (Err other.0) one.1 other.1) in
    one_bad_line line number (sym one.2 ∙ (ap unread_by same ∙ other.2))

unread_or_read : (text : List ℕ) (line : ℕ) (pieces : List Piece) → IsUnreadAt text line → AreElementsOf pieces text → ⊥
unread_or_read text line pieces unread read =
    let one = unread_fault text line unread in
    no_both pieces one.0 (one_reading text (Ok pieces) (Err one.0) read one.1)

-- all answers of a text come of the same records
pub one_source : (text : List ℕ) (one other : Result (List EditRequest) Fault) → AreEdits text one → AreEdits text other → AskAlike one other
one_source text one other (inl a) (inl b) = agree_lines one other a.0 b.0 a.2 b.2 (one_unread text a.0 b.0 a.1 b.1)
one_source text one other (inl a) (inr b) = absurd (unread_or_read text a.0 b.0 a.1 b.2)
one_source text one other (inr a) (inl b) = absurd (unread_or_read text b.0 a.0 b.1 a.2)
one_source text one other (inr a) (inr b) =
    let pieces = same_value a.0 b.0 (one_reading text (Ok a.0) (Ok b.0) a.2 b.2) in
    let b_records : AreRecords a.0 b.1 = subst (λ pieces. AreRecords pieces b.1) (sym pieces) b.3 in
    let records = OneListOfRecords-holds.records a.0 a.1 b.1 a.3 b_records in
    let b_edits : AreEditsOf a.0 a.1 other =
    subst (λ records. AreEditsOf a.0 records other) (sym records) (subst (λ pieces. AreEditsOf pieces b.1 other) (sym pieces) b.4) in
    agree_records a.0 a.1 one other a.4 b_edits

-- ---- names that are known

pub is_known-field : (names : List (List ℕ)) (piece : Piece) (name : List ℕ) (known : Bool) → is_field_piece piece ≡ true
    → name ≡ name_of piece → known ≡ is_among names name → known ≡ is_known names piece
is_known-field names piece name known field named told =
    told ∙ (ap (is_among names) named
    ∙ ap (λ field. if field then is_among names (name_of piece) else true) (sym field))

-- ---- the answer for a text

pub read_edits : (text : List ℕ) (pieces : List Piece) (answer : Result (List EditRequest) Fault) → AreElementsOf pieces text
    → AreEditsIn pieces answer → AreEdits text answer
read_edits text pieces answer read edits = inr (pieces, edits.0, read, edits.1, edits.2)

pub IfOk-weaker : {X E : Type 0} (P Q : X → Type 0) → ((x : X) → P x → Q x) → (result : Result X E) → IfOk result P → IfOk result Q
IfOk-weaker P Q weaker (Ok x) found = weaker x found
IfOk-weaker P Q weaker (Err error) found = tt

pub IfErr-weaker : {X E : Type 0} (P Q : E → Type 0) → ((error : E) → P error → Q error) → (result : Result X E) → IfErr result P
    → IfErr result Q
IfErr-weaker P Q weaker (Ok x) refused = tt
IfErr-weaker P Q weaker (Err error) refused = weaker error refused

-- ---- a record that is refused

not_an_edit : (own other : List Piece) (no_edit : NotAnEdit) → own ≡ other → FindsPart (AsksFor own) (Err (Refused no_edit))
    → (edit : EditRequest) → AsksFor other edit → ⊥
not_an_edit own other no_edit same none edit asks = none edit (subst (λ own. AsksFor own edit) (sym same) asks)

module _ (held pieces own : List Piece) (records listed : List (Range ℕ)) (edits : List EditRequest) (i : ℕ) (d : Range ℕ)
    (held_are : held ≡ pieces) (records_are : records ≡ listed) (are : AreRecords pieces listed) (within : i < length records)
    (own_is : own ≡ elements_in held (get_or records i d))
    (zipped : AllZip AsksFor (map (elements_in held) (take i records)) edits) where
  pub refused_record : (line place : ℕ) (no_edit : NotAnEdit) → FindsPart (AsksFor own) (Err (Refused no_edit))
      → place ≡ length (text_of (take (get_or records i d).start pieces)) → line ≡ line_after (take place (text_of pieces))
      → AreEditsIn pieces (Err (BadBatch line))
  refused_record line place no_edit none at numbered =
      let own_here = own_is ∙ ap (λ pieces. elements_in pieces (get_or records i d)) held_are in
      let zipped_here = subst (λ pieces. AllZip AsksFor (map (elements_in pieces) (take i records)) edits) held_are zipped in (
        records,
        subst (AreRecords pieces) (sym records_are) are,
        inr (
          line,
          no_edit_at pieces records edits i line place d within zipped_here
              (not_an_edit own (elements_in pieces (get_or records i d)) no_edit own_here none) at numbered,
          refl,
        ),
      )

  pub next_record : (edit : EditRequest) (more : List EditRequest) → AsksFor own edit → more ≡ edits ++ edit ∷ []
      → AllZip AsksFor (map (elements_in held) (take (i + 1) records)) more
  next_record edit more asks pushed =
      rw pushed (AllZip-next AsksFor (elements_in held) records edits i d edit within zipped
      (subst (λ own. AsksFor own edit) own_is asks))
