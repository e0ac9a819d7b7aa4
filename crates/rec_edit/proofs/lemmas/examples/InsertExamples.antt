-- New records and automatic fields at small texts: each example computes, or has its witness.
use Rattle.std.proofs.Common.{◌≡◌, ℕ, pos, negsuc, true, false, inl, inr, List, [], ◌∷◌, ◌++◌, Option, Some, None, Ok, Err, refl}
use Rattle.std.specs.Fmt.{digits}
use Rattle.std.specs.Prelude.{codes}
use Rattle.rec_text.specs.declared.fault.Fault.TheVariants.{AutoImpossible}
use Rattle.rec_text.specs.Elements.{Piece}
use Rattle.rec_text.specs.proving.Scanned.{range, runs_from, narrowed_from}
use Rattle.rec_check.specs.Automatic.{IsAutomatic, last_integer}
use Rattle.rec_check.specs.Rules.{Rules, no_rules}
use Rattle.rec_check.specs.Schemas.{Described}
use Rattle.rec_check.specs.Types.{integer, truth}
use Rattle.rec_check.specs.Meanings.{meaning_in}
use Rattle.rec_check.specs.Resolving.{is_known_kind}
use Rattle.rec_check.proofs.lemmas.automatic.CounterLemmas.{greatest_is}
use Rattle.rec_check.proofs.lemmas.SetLemmas.{set_of}
use Rattle.rec_edit.specs.proving.Changes.{hunks_of}
use Rattle.rec_edit.specs.Rules.{fields_of}
use Rattle.rec_edit.specs.Insertions.{insertion_for, Numbered, numbered_fields, fields_at, filled}
use Rattle.rec_edit.specs.Automatic.{AreAutomatic, AreFilled, AreFilledSets, lacking}
use Rattle.rec_edit.specs.Outcome.{EditScript, made_of, put_in}
use Rattle.rec_edit.proofs.lemmas.examples.WordingExamples.{elements, records_of, AreRecords-records_of, sets_of, shown, expected, hunk, pair}

-- ---- the place of a new record

abbrev insert_pieces : Option (List ℕ) → List Piece → List ℕ → EditScript
insert_pieces record_type fields text = put_in (insertion_for (elements text) (records_of (elements text)) (sets_of (elements text)) record_type fields) (elements text)

abbrev insert : Option (List ℕ) → List ℕ → List ℕ → List ℕ → EditScript
insert record_type name value = insert_pieces record_type (fields_of (pair name value ∷ []))

-- a record of this type, with one field, that is put into a text makes this of it
abbrev gives : Option (List ℕ) → List ℕ → List ℕ → List ℕ → List ℕ → Type 0
gives record_type name value text after = shown text (insert record_type name value text) ≡ expected after 1

-- into an empty text, and after a last line without newline
first_record : gives None (codes "Name") (codes "A") [] (codes "Name: A\n")
unfolding runs_from narrowed_from
first_record = refl

first_record_hunks : hunks_of (insert None (codes "Name") (codes "A") []).script ≡ hunk 0 [] (codes "Name: A\n") ∷ []
unfolding runs_from narrowed_from
first_record_hunks = refl

after_unended : gives None (codes "Name") (codes "B") (codes "Name: A") (codes "Name: A\n\nName: B\n")
unfolding runs_from narrowed_from
after_unended = refl

after_unended_hunks : hunks_of (insert None (codes "Name") (codes "B") (codes "Name: A")).script ≡ hunk 0 (codes "Name: A") (codes "Name: A\n\nName: B\n") ∷ []
unfolding runs_from narrowed_from
after_unended_hunks = refl

-- after the comments of the last record, and before the blank lines
after_comments : gives None (codes "A") (codes "3") (codes "A: 1\n\nA: 2\n# t\n\n\n# c\n") (codes "A: 1\n\nA: 2\n# t\n\nA: 3\n\n\n# c\n")
unfolding runs_from narrowed_from
after_comments = refl

after_comments_hunks : hunks_of (insert None (codes "A") (codes "3") (codes "A: 1\n\nA: 2\n# t\n\n\n# c\n")).script ≡ hunk 15 [] (codes "\nA: 3\n") ∷ []
unfolding runs_from narrowed_from
after_comments_hunks = refl

-- a last blank line stays as it is, after the new record
before_unended_blank : gives None (codes "A") (codes "2") (codes "A: 1\n  ") (codes "A: 1\n\nA: 2\n  ")
unfolding runs_from narrowed_from
before_unended_blank = refl

-- an untyped record before a descriptor and the comments above it, after other paragraphs
before_descriptor : gives None (codes "A") (codes "1") (codes "%rec: P\n") (codes "A: 1\n\n%rec: P\n")
unfolding runs_from narrowed_from
before_descriptor = refl

before_comments_of_descriptor : gives None (codes "A") (codes "1") (codes "# head\n\n# P\n%rec: P\n\nN: 1\n") (codes "# head\n\nA: 1\n\n# P\n%rec: P\n\nN: 1\n")
unfolding runs_from narrowed_from
before_comments_of_descriptor = refl

after_untyped : gives None (codes "A") (codes "1") (codes "X: 1\n\n%rec: P\n\nN: 1\n") (codes "X: 1\n\nA: 1\n\n%rec: P\n\nN: 1\n")
unfolding runs_from narrowed_from
after_untyped = refl

-- with neither record nor descriptor at the end, after an empty line only where the last element isn't blank
after_lone_comment : gives None (codes "A") (codes "1") (codes "# c") (codes "# c\n\nA: 1\n")
unfolding runs_from narrowed_from
after_lone_comment = refl

after_blank : gives None (codes "A") (codes "1") (codes "# c\n\n") (codes "# c\n\nA: 1\n")
unfolding runs_from narrowed_from
after_blank = refl

after_unended_blank : gives None (codes "A") (codes "1") (codes "  ") (codes "  \nA: 1\n")
unfolding runs_from narrowed_from
after_unended_blank = refl

-- of a type: after its last record and that one's comments, or after its descriptor
abbrev two_sets : List ℕ
two_sets = codes "%rec: P\n\nN: 1\n# t\n\n%rec: Q\n"

into_first_set : gives (Some (codes "P")) (codes "N") (codes "2") two_sets (codes "%rec: P\n\nN: 1\n# t\n\nN: 2\n\n%rec: Q\n")
unfolding runs_from narrowed_from
into_first_set = refl

into_empty_set : gives (Some (codes "Q")) (codes "N") (codes "2") two_sets (codes "%rec: P\n\nN: 1\n# t\n\n%rec: Q\n\nN: 2\n")
unfolding runs_from narrowed_from
into_empty_set = refl

into_unended_set : gives (Some (codes "P")) (codes "N") (codes "1") (codes "%rec: P\n# c") (codes "%rec: P\n# c\n\nN: 1\n")
unfolding runs_from narrowed_from
into_unended_set = refl

-- of a type that no descriptor names
new_type : gives (Some (codes "Q")) (codes "B") (codes "2") (codes "A: 1\n") (codes "A: 1\n\n%rec: Q\n\nB: 2\n")
unfolding runs_from narrowed_from
new_type = refl

new_type_after_blank : gives (Some (codes "Q")) (codes "B") (codes "2") (codes "A: 1\n  ") (codes "A: 1\n  \n%rec: Q\n\nB: 2\n")
unfolding runs_from narrowed_from
new_type_after_blank = refl

new_type_in_empty : gives (Some (codes "Q")) (codes "B") (codes "2") [] (codes "%rec: Q\n\nB: 2\n")
unfolding runs_from narrowed_from
new_type_in_empty = refl

-- ---- automatic fields of a new record

abbrev id : List ℕ
id = codes "Id"

abbrev numbered : ℕ → Numbered
numbered n = record { name = id; number = pos n }

-- Id counts and is an integer
abbrev counting : Rules
counting = record no_rules {
  automatic = id ∷ id ∷ [];
  types = record { names = id ∷ []; kind = codes "int"; value_type = integer } ∷ [];
}

abbrev described : List Piece → Rules → Described
described pieces rules = record { sets = sets_of pieces; rules = no_rules ∷ rules ∷ [] }

abbrev at_four : List ℕ
at_four = codes "%rec: P\n%auto: Id\n%type: Id int\n\nId: 4\n\nId: -7\nId: x\n"

-- one more than the greatest, whichever record has it, and texts that are no integers don't count
next_of_four : IsAutomatic (elements at_four) (described (elements at_four) counting) 1 id (Ok (pos 5))
unfolding runs_from narrowed_from meaning_in is_known_kind
next_of_four = record {
  records = records_of (elements at_four);
  are = AreRecords-records_of (elements at_four);
  s = set_of (Some (codes "P")) (Some 0) 1 3;
  rules = counting;
  is_set = refl;
  are_rules = refl;
  next = (refl, inr (pos 4, greatest_is (pos 4 ∷ negsuc 6 ∷ []) (pos 4) refl, refl, refl));
}

new_record_counts : AreAutomatic (elements at_four) (described (elements at_four) counting) (Some (codes "P")) true (codes "N" ∷ []) (Ok (numbered 5 ∷ []))
unfolding runs_from narrowed_from
new_record_counts = inr (pos 5, next_of_four, inr ([], refl, refl))

-- none is given to a record that has it, without automatic fields, without a type, and of a type that is new
has_its_own : AreAutomatic (elements at_four) (described (elements at_four) counting) (Some (codes "P")) true (id ∷ codes "N" ∷ []) (Ok [])
unfolding runs_from narrowed_from
has_its_own = refl

not_asked_for : AreAutomatic (elements at_four) (described (elements at_four) counting) (Some (codes "P")) false [] (Ok [])
unfolding runs_from narrowed_from
not_asked_for = refl

without_type : AreAutomatic (elements at_four) (described (elements at_four) counting) None true [] (Ok [])
unfolding runs_from narrowed_from
without_type = refl

of_new_type : AreAutomatic (elements at_four) (described (elements at_four) counting) (Some (codes "Q")) true [] (Ok [])
unfolding runs_from narrowed_from
of_new_type = refl

counted_record : shown at_four (insert_pieces (Some (codes "P")) (numbered_fields (numbered 5 ∷ []) ++ fields_of (pair (codes "N") (codes "x") ∷ [])) at_four)
    ≡ expected (at_four ++ codes "\nId: 5\nN: x\n") 1
unfolding runs_from narrowed_from digits
counted_record = refl

-- after the last integer there is none
abbrev at_last : List ℕ
at_last = codes "%rec: P\n%auto: Id\n%type: Id int\n\nId: 9223372036854775807\n"

none_after_last : AreAutomatic (elements at_last) (described (elements at_last) counting) (Some (codes "P")) true (codes "N" ∷ []) (Err AutoImpossible)
unfolding runs_from narrowed_from
none_after_last = inl (
  AutoImpossible,
  record {
    records = records_of (elements at_last);
    are = AreRecords-records_of (elements at_last);
    s = set_of (Some (codes "P")) (Some 0) 1 2;
    rules = counting;
    is_set = refl;
    are_rules = refl;
    next = inr (greatest_is (last_integer ∷ []) last_integer refl);
  },
  refl,
)

own_at_last : shown at_last (insert_pieces (Some (codes "P")) (fields_of (pair id (codes "3") ∷ pair (codes "N") (codes "x") ∷ [])) at_last) ≡ expected (at_last ++ codes "\nId: 3\nN: x\n") 1
unfolding runs_from narrowed_from
own_at_last = refl

-- ---- automatic fields of all records

abbrev some_lack : List ℕ
some_lack = codes "%rec: P\n%auto: Id\n\nN: a\n\nId: 4\n\nN: b\n"

abbrev untyped_counting : Rules
untyped_counting = record no_rules { automatic = id ∷ [] }

-- from the third record of the set on, from the second on, all its records, and all records
abbrev given_last : List (List Numbered)
given_last = (numbered 6 ∷ []) ∷ []

abbrev given_later : List (List Numbered)
given_later = [] ∷ given_last

abbrev given_to_set : List (List Numbered)
given_to_set = (numbered 5 ∷ []) ∷ given_later

abbrev given_to_all : List (List Numbered)
given_to_all = [] ∷ given_to_set

-- The descriptor gets none. The first record gets one more than the greatest of all, the second has its own, and the third gets one
-- more than the first.
all_are_filled : AreFilledSets (elements some_lack) (records_of (elements some_lack)) (sets_of (elements some_lack)) (no_rules ∷ untyped_counting ∷ []) (Ok given_to_all)
unfolding runs_from narrowed_from
all_are_filled =
    inr (
      [],
      inr ([], refl, refl),
      inr (
        given_to_all,
        inr (
          given_to_all,
          inr (
            given_to_set,
            inr (
              numbered 5 ∷ [],
              inr (pos 5, (refl, inr (pos 4, greatest_is (pos 4 ∷ []) (pos 4) refl, refl, refl)), inr ([], refl, refl)),
              inr (
                given_later,
                inr (
                  [],
                  refl,
                  inr (
                    given_last,
                    inr (
                      numbered 6 ∷ [],
                      inr (pos 6, (refl, inr (pos 5, greatest_is (pos 5 ∷ pos 4 ∷ []) (pos 5) refl, refl, refl)), inr ([], refl, refl)),
                      inr ([], refl, refl),
                    ),
                    refl,
                  ),
                ),
                refl,
              ),
            ),
            refl,
          ),
          inr ([], refl, refl),
        ),
        refl,
      ),
    )

abbrev fill : List (List Numbered) → List ℕ → EditScript
fill given text = made_of None (λ k. true) (λ k. filled (fields_at given k)) (elements text) (records_of (elements text))

filled_text : shown some_lack (fill given_to_all some_lack) ≡ expected (codes "%rec: P\n%auto: Id\n\nId: 5\nN: a\n\nId: 4\n\nId: 6\nN: b\n") 2
unfolding runs_from narrowed_from digits
filled_text = refl

filled_hunks : hunks_of (fill given_to_all some_lack).script ≡ hunk 19 [] (codes "Id: 5\n") ∷ hunk 32 [] (codes "Id: 6\n") ∷ []
unfolding runs_from narrowed_from digits
filled_hunks = refl

-- a name twice counts once, and a record lacks none that it has
lacked : lacking (id ∷ codes "No" ∷ []) (codes "N" ∷ id ∷ []) ≡ codes "No" ∷ []
lacked = refl

-- a field of another type is no counter
no_counter : AreFilled (elements some_lack) (record untyped_counting { types = record { names = id ∷ []; kind = codes "bool"; value_type = truth } ∷ [] }) (λ name. []) (range 3 4 ∷ [])
    (Err AutoImpossible)
unfolding meaning_in is_known_kind
no_counter = inl (AutoImpossible, inl (AutoImpossible, inl refl, refl), refl)

-- a negative number counts, and a record that gets one is the last line without newline
abbrev negative : List ℕ
negative = codes "%rec: P\n%auto: Id\n\nId: -5\n\nN: a"

abbrev given_negative : List Numbered
given_negative = record { name = id; number = negsuc 3 } ∷ []

after_negative : AreFilled (elements negative) untyped_counting (λ name. negsuc 4 ∷ []) (range 5 6 ∷ []) (Ok (given_negative ∷ []))
unfolding runs_from narrowed_from
after_negative = inr (
  given_negative,
  inr (negsuc 3, (refl, inr (negsuc 4, greatest_is (negsuc 4 ∷ []) (negsuc 4) refl, refl, refl)), inr ([], refl, refl)),
  inr ([], refl, refl),
)

negative_text : shown negative (fill ([] ∷ [] ∷ given_negative ∷ []) negative) ≡ expected (codes "%rec: P\n%auto: Id\n\nId: -5\n\nId: -4\nN: a") 1
unfolding runs_from narrowed_from digits
negative_text = refl
