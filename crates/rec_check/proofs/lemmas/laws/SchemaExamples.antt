-- The definitions at small texts: each example computes.
use Rattle.std.proofs.Common.{◌≡◌, ◌∙◌, ℕ, ◌<◌, ◌≤◌, inl, inr, true, false, List, [], ◌∷◌, ◌++◌, map, Some, None, Ok, Err, suc, zero, refl, lit≤, sym, arith}
use Rattle.std.specs.Prelude.{codes, position}
use Rattle.std.specs.List.{AllByRecursion}
use Rattle.std.specs.declared.ops.Range.{Range}
use Rattle.rec_text.specs.declared.element.Kind.TheVariants.{Blank, Comment, Field}
use Rattle.rec_text.specs.declared.fault.Fault.TheVariants.{BadDescriptor}
use Rattle.rec_text.specs.declared.violations.Rule.TheVariants.{Key}
use Rattle.rec_text.specs.declared.violations.Violation.{Violation}
use Rattle.rec_text.specs.Elements.{Piece, text_of}
use Rattle.rec_text.specs.Records.{AreRecords, LiesIn, is_full_at, elements_in}
use Rattle.rec_text.specs.proving.Scanned.{range, runs_from, narrowed_from}
use Rattle.rec_text.proofs.lemmas.records.RangeLemmas.{LiesIn-cases, LiesIn-nil}
use Rattle.rec_text.proofs.lemmas.records.RunLemmas.{AreRuns-runs_to}
use Rattle.rec_text.proofs.lemmas.records.RecordLemmas.{AreRecords-all_narrowed}
use Rattle.rec_check.specs.declared.set.Set_.{Set_}
use Rattle.rec_check.specs.declared.descriptors.special.Comparison.TheVariants.{Exactly, AtMost, AtLeast}
use Rattle.rec_check.specs.Automatic.{automatic_names, automatic_of}
use Rattle.rec_check.specs.Descriptors.{bad, unsupported, bound_in, type_of, types_of, rec_flaw}
use Rattle.rec_check.specs.proving.Flaws.{ElementIsRead, field_flaw, flaw_at}
use Rattle.rec_check.specs.Meanings.{meaning_in}
use Rattle.rec_check.specs.Resolving.{is_known_kind}
use Rattle.rec_check.specs.Rules.{Rules, no_rules, AreRules, field_type}
use Rattle.rec_check.specs.Schemas.{IsSchema}
use Rattle.rec_check.specs.Sets.{AreSets, is_of_type}
use Rattle.rec_check.specs.Soundness.{descriptors, says}
use Rattle.rec_check.specs.Types.{integer, unchecked}
use Rattle.rec_check.specs.Violations.{AreViolationsOf, violation}
use Rattle.rec_check.proofs.lemmas.descriptors.FlawLemmas.{flaw_at-outside}
use Rattle.rec_check.proofs.lemmas.descriptors.StandsLemmas.{flaw_at-stands, read-stands}
use Rattle.rec_check.proofs.lemmas.SetLemmas.{set_of}

-- ---- descriptors

abbrev blank : Piece
blank = record { kind = Blank; bytes = 10 ∷ [] }

abbrev field : List ℕ → Piece
field bytes = record { kind = Field; bytes = bytes ++ 10 ∷ [] }

-- the first field of the name counts, and a comment is none
types : map type_of
    ([]
    ∷ (field (codes "rec: P") ∷ [])
    ∷ (record { kind = Comment; bytes = codes "%rec: P" } ∷ [])
    ∷ (field (codes "A: 1") ∷ field (codes "%rec:  P x") ∷ field (codes "%rec: Q") ∷ [])
    ∷ (field (codes "%rec:") ∷ [])
    ∷ [])
    ≡ None ∷ None ∷ None ∷ Some (codes "P") ∷ Some [] ∷ []
types = refl

-- no type, a type that begins with a digit, more words, a type that is named before, a second field; and a sound one
rec_flaws : rec_flaw false [] [] ∷ rec_flaw false [] (codes "1P" ∷ codes "x" ∷ []) ∷ rec_flaw false [] (codes "P" ∷ codes "x" ∷ [])
    ∷ rec_flaw false (codes "Q" ∷ codes "P" ∷ []) (codes "P" ∷ codes "x" ∷ []) ∷ rec_flaw true [] (codes "P" ∷ []) ∷ rec_flaw false (codes "Q" ∷ []) (codes "P" ∷ []) ∷ []
    ≡ Some bad ∷ Some bad ∷ Some unsupported ∷ Some bad ∷ Some bad ∷ None ∷ []
rec_flaws = refl

-- an operator stands first, and a blank before it is none
bounds : map bound_in (codes ">= 2" ∷ codes "<=0x10" ∷ codes " 3 " ∷ codes "-0" ∷ codes " >= 2" ∷ codes "-1" ∷ [] ∷ (codes ">=" ++ 10 ∷ codes "0") ∷ [])
    ≡ Some (record { comparison = AtLeast; number = 2 }) ∷ Some (record { comparison = AtMost; number = 16 }) ∷ Some (record { comparison = Exactly; number = 3 })
    ∷ Some (record { comparison = Exactly; number = 0 }) ∷ None ∷ None ∷ None ∷ None ∷ []
bounds = refl

-- fields before the type are tested too, a second key is bad even where the first is, and others say nothing
faulty : List Piece
faulty = field (codes "%key: A B") ∷ field (codes "%rec: P") ∷ field (codes "%key: A") ∷ field (codes "%unique: A,B") ∷ field (codes "%size: 3 4")
    ∷ field (codes "%confidential: K") ∷ field (codes "%doc: 1") ∷ field (codes "%allowed:") ∷ field (codes "%type: A int") ∷ field (codes "%type: A") ∷ field (codes "%constraint: A =") ∷ []

faults : map (field_flaw [] faulty) (0 ∷ 1 ∷ 2 ∷ 3 ∷ 4 ∷ 5 ∷ 6 ∷ 7 ∷ 8 ∷ 9 ∷ 10 ∷ 11 ∷ [])
    ≡ Some bad ∷ None ∷ Some bad ∷ Some bad ∷ Some bad ∷ Some unsupported ∷ None ∷ None ∷ None ∷ Some bad ∷ Some bad ∷ None ∷ []
unfolding faulty
faults = refl

-- without a type they are no fields of a descriptor
no_faults : map (flaw_at (field (codes "%key:") ∷ field (codes "%confidential: K") ∷ []) (range 0 2 ∷ [])) (0 ∷ 1 ∷ 2 ∷ []) ≡ None ∷ None ∷ None ∷ []
no_faults = refl

-- lists add up
abbrev listing : List Piece
listing = field (codes "%allowed: A") ∷ field (codes "%rec: P") ∷ field (codes "%mandatory: B  C") ∷ field (codes "%key: N") ∷ field (codes "%allowed: D") ∷ field (codes "%mandatory: B")
    ∷ field (codes "%size: <= 2") ∷ []

abbrev listed : Rules
listed = record no_rules {
  key = Some (codes "N");
  mandatory = codes "B" ∷ codes "C" ∷ codes "B" ∷ [];
  allowed = Some (codes "A" ∷ codes "D" ∷ []);
  size = Some (record { comparison = AtMost; number = 2 });
}

listed_are : AreRules listing listed
listed_are = record { key = refl; mandatory = refl; prohibited = refl; unique = refl; singular = refl; allowed = refl; automatic = refl; types = tt; definitions = tt; size = refl; constraints = tt }

-- each `%type` field keeps the word of its kind, also one that is unchecked
abbrev typing : List Piece
typing = field (codes "%rec: P") ∷ field (codes "%auto: A B") ∷ record { kind = Comment; bytes = codes "# c" ++ 10 ∷ [] } ∷ field (codes "%type: A,B int")
    ∷ field (codes "%auto: C A") ∷ field (codes "%type: A  real x") ∷ []

abbrev typed : Rules
typed = record no_rules {
  automatic = codes "A" ∷ codes "B" ∷ codes "C" ∷ codes "A" ∷ [];
  types = record { names = codes "A" ∷ codes "B" ∷ []; kind = codes "int"; value_type = integer }
      ∷ record { names = codes "A" ∷ []; kind = codes "real"; value_type = unchecked } ∷ [];
}

typed_are : AreRules typing typed
typed_are = record {
  key = refl;
  mandatory = refl;
  prohibited = refl;
  unique = refl;
  singular = refl;
  allowed = refl;
  automatic = refl;
  types = ((integer, refl, refl), ((unchecked, refl, refl), tt));
  definitions = tt;
  size = refl;
  constraints = tt;
}

-- of two types the later holds, and a counter is named once
types_of_fields : map (field_type typed) (codes "A" ∷ codes "B" ∷ codes "C" ∷ []) ≡ Some unchecked ∷ Some integer ∷ None ∷ []
unfolding meaning_in is_known_kind
types_of_fields = refl

counters : automatic_names typed ≡ codes "A" ∷ codes "B" ∷ codes "C" ∷ []
counters = refl

counters_of_sets : map (automatic_of (record { sets = []; rules = no_rules ∷ typed ∷ [] })) (0 ∷ 1 ∷ 2 ∷ []) ≡ [] ∷ (codes "A" ∷ codes "B" ∷ codes "C" ∷ []) ∷ [] ∷ []
counters_of_sets = refl

-- ---- sets

-- a record without a type, and a descriptor with two records
abbrev text : List Piece
text = field (codes "X: 1") ∷ blank ∷ field (codes "%rec: P") ∷ field (codes "%key: N") ∷ blank ∷ field (codes "N: 1") ∷ blank ∷ field (codes "N: 2") ∷ []

abbrev records : List (Range ℕ)
records = range 0 1 ∷ range 2 4 ∷ range 5 6 ∷ range 7 8 ∷ []

records_are : AreRecords text records
unfolding runs_from narrowed_from
records_are = AreRecords-all_narrowed text records (AreRuns-runs_to (is_full_at text) 8)

abbrev sets : List Set_
sets = set_of None None 0 1 ∷ set_of (Some (codes "P")) (Some 1) 2 4 ∷ []

sets_are : AreSets (types_of text records) sets
sets_are = record { joined = refl; untyped_first = (refl, (refl, tt)); places = ((lit≤ tt, (refl, refl)), ((lit≤ tt, (refl, refl)), tt)) }

abbrev keyed : Rules
keyed = record no_rules { key = Some (codes "N") }

keyed_are : AreRules (field (codes "%rec: P") ∷ field (codes "%key: N") ∷ []) keyed
keyed_are = record { key = refl; mandatory = refl; prohibited = refl; unique = refl; singular = refl; allowed = refl; automatic = refl; types = tt; definitions = tt; size = refl; constraints = tt }

-- no range holds what stands after all
after_all : (ranges : List (Range ℕ)) (end i : ℕ) → AllByRecursion (λ r. r.end ≤ end) ranges → end ≤ i → LiesIn ranges i → ⊥
after_all [] end i all past lies = LiesIn-nil i lies
after_all (r ∷ ranges) end i all past lies = elim (LiesIn-cases r ranges i lies) [ inl here ↦ absurd (omega (arith, here.1, all.0)) | inr there ↦ after_all ranges end i all.1 past there ]

sound : (i : ℕ) → flaw_at text records i ≡ None
sound zero = refl
sound (suc zero) = refl
sound (suc (suc zero)) = refl
sound (suc (suc (suc zero))) = refl
sound (suc (suc (suc (suc zero)))) = refl
sound (suc (suc (suc (suc (suc zero))))) = refl
sound (suc (suc (suc (suc (suc (suc zero)))))) = refl
sound (suc (suc (suc (suc (suc (suc (suc zero))))))) = refl
sound (suc (suc (suc (suc (suc (suc (suc (suc i)))))))) =
    let at : ℕ = suc (suc (suc (suc (suc (suc (suc (suc i))))))) in
    flaw_at-outside text records at (after_all records 8 at (lit≤ tt, (lit≤ tt, (lit≤ tt, (lit≤ tt, tt)))) (omega arith))

described : IsSchema text (Ok (record { sets = sets; rules = no_rules ∷ keyed ∷ [] }))
described = record {
  records = records;
  are = records_are;
  sound = λ i element stands. sym (flaw_at-stands text records i element records_are stands) ∙ sound i;
  sets = sets_are;
  rules = (refl, (keyed_are, tt));
}

-- a newline at the end and what stands before the descriptor are no matter
abbrev moved : List Piece
moved = record { kind = Comment; bytes = 35 ∷ 10 ∷ [] } ∷ field (codes "%rec:  P") ∷ record { kind = Field; bytes = codes "%key: N" } ∷ []

said : descriptors text records ≡ ((codes "%rec", codes "P") ∷ (codes "%key", codes "N") ∷ []) ∷ []
said = refl

said_elsewhere : map says (elements_in moved (range 1 3)) ≡ (codes "%rec", codes " P") ∷ (codes "%key", codes "N") ∷ []
said_elsewhere = refl

found : map (λ record_type. position (is_of_type record_type) sets) (codes "P" ∷ codes "Q" ∷ [] ∷ []) ≡ Some 1 ∷ None ∷ None ∷ []
found = refl

-- no record is no set
none_are : AreSets [] (set_of None None 0 0 ∷ [])
none_are = record { joined = refl; untyped_first = (refl, tt); places = ((lit≤ tt, (refl, refl)), tt) }

-- ---- faults

-- a type that is named before, in a record that names its own twice; its first line is the third
abbrev twice : List Piece
twice = field (codes "%rec: P") ∷ blank ∷ field (codes "%rec: P x") ∷ field (codes "%rec: Q x") ∷ []

abbrev twice_records : List (Range ℕ)
twice_records = range 0 1 ∷ range 2 4 ∷ []

twice_records_are : AreRecords twice twice_records
unfolding runs_from narrowed_from
twice_records_are = AreRecords-all_narrowed twice twice_records (AreRuns-runs_to (is_full_at twice) 4)

twice_flaws : map (flaw_at twice twice_records) (0 ∷ 1 ∷ 2 ∷ 3 ∷ 4 ∷ []) ≡ None ∷ None ∷ Some bad ∷ Some bad ∷ None ∷ []
twice_flaws = refl

read_before : (i : ℕ) → i < 2 → ElementIsRead twice twice_records i
read_before zero less = record {
  sound = refl;
  built = (
    no_rules,
    record {
      key = refl;
      mandatory = refl;
      prohibited = refl;
      unique = refl;
      singular = refl;
      allowed = refl;
      automatic = refl;
      types = tt;
      definitions = tt;
      size = refl;
      constraints = tt;
    },
  );
}
read_before (suc zero) less = tt
read_before (suc (suc i)) less = absurd (omega arith)

refused : IsSchema twice (Err (BadDescriptor 3))
refused = (
  2,
  record { named = codes "P" ∷ []; before = []; piece = field (codes "%rec: P x") },
  record {
    records = twice_records;
    are = twice_records_are;
    stands = record {
      earlier = range 0 1 ∷ [];
      own_range = range 2 4;
      later = [];
      following = field (codes "%rec: Q x") ∷ [];
      cut = refl;
      named = refl;
      own = refl;
      is_descriptor = refl;
      place = refl;
    };
    first = λ i other less stands. read-stands twice twice_records i other twice_records_are stands (read_before i less);
  },
  refl,
  refl,
)

-- ---- the violations of a text

-- its elements are read, and their descriptors are refused
none_of_twice : AreViolationsOf (text_of twice) (Err (BadDescriptor 3))
none_of_twice = inr (twice, record { joined = refl; well_formed = (refl, (refl, (refl, (refl, tt)))); lines_end = (refl, (refl, (refl, tt))) }, refused)

-- a record of the set has no key
abbrev keyless : List Piece
keyless = field (codes "%rec: P") ∷ field (codes "%key: N") ∷ blank ∷ field (codes "A: 1") ∷ []

abbrev keyless_records : List (Range ℕ)
keyless_records = range 0 2 ∷ range 3 4 ∷ []

keyless_records_are : AreRecords keyless keyless_records
unfolding runs_from narrowed_from
keyless_records_are = AreRecords-all_narrowed keyless keyless_records (AreRuns-runs_to (is_full_at keyless) 4)

keyless_sound : (i : ℕ) → flaw_at keyless keyless_records i ≡ None
keyless_sound zero = refl
keyless_sound (suc zero) = refl
keyless_sound (suc (suc zero)) = refl
keyless_sound (suc (suc (suc zero))) = refl
keyless_sound (suc (suc (suc (suc i)))) =
    let at : ℕ = suc (suc (suc (suc i))) in
    flaw_at-outside keyless keyless_records at (after_all keyless_records 4 at (lit≤ tt, (lit≤ tt, tt)) (omega arith))

abbrev keyless_sets : List Set_
keyless_sets = set_of None None 0 0 ∷ set_of (Some (codes "P")) (Some 0) 1 2 ∷ []

keyless_described : IsSchema keyless (Ok (record { sets = keyless_sets; rules = no_rules ∷ keyed ∷ [] }))
keyless_described = record {
  records = keyless_records;
  are = keyless_records_are;
  sound = λ i element stands. sym (flaw_at-stands keyless keyless_records i element keyless_records_are stands) ∙ keyless_sound i;
  sets = record { joined = refl; untyped_first = (refl, (refl, tt)); places = ((lit≤ tt, (refl, refl)), ((lit≤ tt, (refl, refl)), tt)) };
  rules = (refl, (keyed_are, tt));
}

abbrev no_key : List Violation
no_key = violation 4 Key (codes "N") ∷ []

key_is_missing : AreViolationsOf (text_of keyless) (Ok no_key)
key_is_missing = (
  keyless,
  record { sets = keyless_sets; rules = no_rules ∷ keyed ∷ [] },
  record { joined = refl; well_formed = (refl, (refl, (refl, (refl, tt)))); lines_end = (refl, (refl, (refl, tt))) },
  keyless_described,
  (
    keyless_records,
    keyless_records_are,
    (
      [],
      no_key,
      ([], refl, refl),
      (no_key, [], (no_key, (no_key, [], record { unselected = []; are = refl; joined = refl }, refl, refl), refl), refl, refl),
      refl,
    ),
  ),
)
