-- The sets of a small text, and what is printed of them: each example computes.
use Rattle.std.proofs.Common.{◌≡◌, ℕ, List, [], ◌∷◌, ◌++◌, Some, None, Ok, Err, refl}
use Rattle.std.specs.Prelude.{codes}
use Rattle.std.specs.Fmt.{digits}
use Rattle.std.specs.declared.ops.Range.{Range}
use Rattle.rec_text.specs.declared.element.Kind.TheVariants.{Blank, Field}
use Rattle.rec_text.specs.declared.fault.Fault.TheVariants.{NoSuchType}
use Rattle.rec_text.specs.Elements.{Piece}
use Rattle.rec_text.specs.Records.{AreParagraphs, AreRecords, is_full_at}
use Rattle.rec_text.specs.proving.Scanned.{narrowed_from, range, runs_from}
use Rattle.rec_text.proofs.lemmas.records.RecordLemmas.{AreRecords-all_narrowed}
use Rattle.rec_text.proofs.lemmas.records.RunLemmas.{AreRuns-runs_to}
use Rattle.rec_check.specs.declared.set.Set_.{Set_}
use Rattle.rec_select.specs.declared.info.InfoForm.TheVariants.{Counts, Names, Descriptors}
use Rattle.rec_select.specs.Info.{IsInfo, info, sets_for}

abbrev line : List ℕ → Piece
line bytes = record { kind = Field; bytes = bytes ++ 10 ∷ [] }

abbrev blank : Piece
blank = record { kind = Blank; bytes = 10 ∷ [] }

-- one record without a type, and two of the type P; the last one has no newline
abbrev text : List Piece
text = line (codes "X: 1") ∷ blank ∷ line (codes "%rec: P") ∷ blank ∷ line (codes "N: 1") ∷ blank ∷ record { kind = Field; bytes = codes "N: 2" } ∷ []

abbrev records : List (Range ℕ)
records = range 0 1 ∷ range 2 3 ∷ range 4 5 ∷ range 6 7 ∷ []

abbrev untyped : Set_
untyped = record { kind = None; head = None; members = range 0 1 }

abbrev typed : Set_
typed = record { kind = Some (codes "P"); head = Some 1; members = range 2 4 }

abbrev sets : List Set_
sets = untyped ∷ typed ∷ []

paragraphs : AreParagraphs text records
unfolding runs_from
paragraphs = AreRuns-runs_to (is_full_at text) 7

are_records : AreRecords text records
unfolding narrowed_from
are_records = AreRecords-all_narrowed text records paragraphs

-- ---- which sets

of_all : sets_for None sets ≡ Ok sets
of_all = refl

of_p : sets_for (Some (codes "P")) sets ≡ Ok (typed ∷ [])
of_p = refl

of_q : sets_for (Some (codes "Q")) sets ≡ Err NoSuchType
of_q = refl

-- ---- what is printed of them

counts : IsInfo text sets None Counts (Ok (codes "1" ++ 10 ∷ (codes "2 P" ++ 10 ∷ [])))
unfolding digits
counts = (sets, records, are_records, refl, refl)

names : IsInfo text sets None Names (Ok (codes "P" ++ 10 ∷ []))
names = (sets, records, are_records, refl, refl)

descriptors : IsInfo text sets None Descriptors (Ok (codes "%rec: P" ++ 10 ∷ []))
descriptors = (sets, records, are_records, refl, refl)

count_of_p : IsInfo text sets (Some (codes "P")) Counts (Ok (codes "2 P" ++ 10 ∷ []))
unfolding digits
count_of_p = (typed ∷ [], records, are_records, refl, refl)

no_q : IsInfo text sets (Some (codes "Q")) Counts (Err NoSuchType)
no_q = refl

-- an untyped set without a record is not counted; a type without one is
no_records : info Counts [] [] (record { kind = None; head = None; members = range 0 0 } ∷ record { kind = Some (codes "T"); head = Some 0; members = range 1 1 } ∷ []) ≡ codes "0 T" ++ 10 ∷ []
unfolding digits
no_records = refl

-- an empty line stands between descriptors, and the last one gets its newline
two_descriptors : info Descriptors text (range 2 3 ∷ range 6 7 ∷ [])
    (record { kind = None; head = None; members = range 0 0 } ∷ record { kind = Some (codes "P"); head = Some 0; members = range 1 1 } ∷ record {
      kind = Some (codes "Q");
      head = Some 1;
      members = range 2 2;
    } ∷ [])
    ≡ (codes "%rec: P" ++ 10 ∷ []) ++ 10 ∷ (codes "N: 2" ++ 10 ∷ [])
two_descriptors = refl
