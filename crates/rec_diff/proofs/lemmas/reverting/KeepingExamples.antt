-- What is left of small texts keeps its places: worked examples of the definitions.
use Rattle.std.specs.Prelude.{codes}
use Rattle.std.specs.declared.ops.Range.{Range}
use Rattle.std.proofs.Common.{◌≡◌, ℕ, List, [], ◌∷◌, length, None, inl, inr, refl, arith}
use Rattle.rec_text.specs.declared.element.Kind.TheVariants.{Blank, Field}
use Rattle.rec_text.specs.Elements.{Piece, AreElementsOf}
use Rattle.rec_text.specs.Records.{is_full_at, is_field_at}
use Rattle.rec_text.specs.proving.Scanned.{runs_to, all_narrowed, runs_from, narrowed_from}
use Rattle.rec_text.proofs.lemmas.records.RunLemmas.{AreRuns-runs_to}
use Rattle.rec_text.proofs.lemmas.records.RecordLemmas.{AreRecords-all_narrowed}
use Rattle.rec_journal.specs.declared.event.Tool.TheVariants.{RecSet}
use Rattle.rec_journal.specs.declared.event.EditStep.{EditStep}
use Rattle.rec_diff.specs.Changes.{Stretch, stays, turns}
use Rattle.rec_diff.specs.Keeping.{IsPutTogether, KeepsPlaces}
use Rattle.rec_diff.specs.Making.{IsInPlace, IsSame, IsTakenOut}
use Rattle.rec_diff.specs.Placed.{Placed, PlacedRecord, PlacedText, IsPlaced, placed_text}

-- ---- texts that are read by hand

abbrev field : List ℕ → Piece
field bytes = record { kind = Field; bytes = bytes }

abbrev blank : Piece
blank = record { kind = Blank; bytes = codes "\n" }

abbrev pub ranges : List Piece → List (Range ℕ)
ranges pieces = all_narrowed (is_field_at pieces) (runs_to (is_full_at pieces) (length pieces) 0)

abbrev pub placed : List Piece → PlacedText
placed pieces = placed_text pieces (ranges pieces)

are_placed : (text : List ℕ) (pieces : List Piece) → AreElementsOf pieces text → IsPlaced text (placed pieces)
are_placed text pieces read = record {
  pieces = pieces;
  read = read;
  ranges = ranges pieces;
  are_records = AreRecords-all_narrowed pieces (runs_to (is_full_at pieces) (length pieces) 0) (AreRuns-runs_to (is_full_at pieces) (length pieces));
  is = refl;
}

abbrev at : ℕ → Piece → Placed
at place piece = record { at = place; piece = piece }

abbrev step : ℕ → List ℕ → List ℕ → EditStep
step place old new = record { tool = RecSet; patch = record { at = place; old = old; new = new } ∷ [] }

-- ---- elements

-- `A` is set, and `B` stays
a_field_that_stays : IsSame (turns (codes "A: 1\n") (codes "A: 22\n") ∷ stays (codes "B: 1\n") ∷ []) (at 5 (field (codes "B: 1\n"))) (at 6 (field (codes "B: 1\n")))
a_field_that_stays = record { piece = refl; first = turns (codes "A: 1\n") (codes "A: 22\n") ∷ []; last = []; cut = record { turns = refl; text = refl }; old_at = refl; new_at = refl }

-- the bytes that stay are more than the element's
a_field_among_others : IsSame (stays (codes "A: 1\nB: 1\n\n") ∷ turns [] (codes "C: 1\n") ∷ []) (at 5 (field (codes "B: 1\n"))) (at 5 (field (codes "B: 1\n")))
a_field_among_others = record {
  piece = refl;
  first = stays (codes "A: 1\n") ∷ [];
  last = stays (codes "\n") ∷ turns [] (codes "C: 1\n") ∷ [];
  cut = record { turns = refl; text = refl };
  old_at = refl;
  new_at = refl;
}

-- the second record goes, with the blank line after it
a_field_that_goes : IsTakenOut (stays (codes "A: 1\n\n") ∷ turns (codes "B: 2\n\n") [] ∷ stays (codes "C: 3\n") ∷ []) (at 6 (field (codes "B: 2\n")))
a_field_that_goes = record {
  first = stays (codes "A: 1\n\n") ∷ [];
  old = codes "B: 2\n\n";
  last = stays (codes "C: 3\n") ∷ [];
  cut = record { turns = refl; text = refl };
  begins = omega arith;
  ends = omega arith;
}

-- ---- records

-- the only field is set: the new one stands in its place
the_only_field_is_set : IsInPlace (turns (codes "A: 1\n") (codes "A: 2\n") ∷ []) (placed (field (codes "A: 1\n") ∷ [])) (placed (field (codes "A: 2\n") ∷ []))
    (record { fields = at 0 (field (codes "A: 1\n")) ∷ []; record_type = None }) (record { fields = at 0 (field (codes "A: 2\n")) ∷ []; record_type = None })
unfolding runs_from narrowed_from
the_only_field_is_set = record {
  first = [];
  old = codes "A: 1\n";
  new = codes "A: 2\n";
  last = [];
  cut = refl;
  old_lines = (refl, tt);
  new_lines = (refl, tt);
  old_fields = λ none. cc;
  new_fields = λ none. cc;
}

-- ---- the whole

-- Two records were put into an empty file, one after the other: without the first, the second is left as it is. The
-- blank line before it stays, since the later edit put that in.
abbrev two : List Piece
two = field (codes "A: 1\n") ∷ blank ∷ field (codes "A: 2\n") ∷ []

abbrev first_goes : List Stretch
first_goes = turns (codes "A: 1\n") [] ∷ stays (codes "\nA: 2\n") ∷ []

first_of_two_records_goes : KeepsPlaces (step 0 [] (codes "A: 1\n") ∷ []) (step 5 [] (codes "\nA: 2\n") ∷ [])
    (turns [] (codes "A: 1\n") ∷ []) (stays (codes "A: 1\n") ∷ turns [] (codes "\nA: 2\n") ∷ []) (turns [] (codes "\nA: 2\n") ∷ []) first_goes
unfolding runs_from narrowed_from
first_of_two_records_goes =
    let line : IsSame first_goes (at 5 blank) (at 0 blank) =
    record { piece = refl; first = turns (codes "A: 1\n") [] ∷ []; last = stays (codes "A: 2\n") ∷ []; cut = record { turns = refl; text = refl }; old_at = refl; new_at = refl } in
    let own : IsSame first_goes (at 6 (field (codes "A: 2\n"))) (at 1 (field (codes "A: 2\n"))) =
    record {
      piece = refl;
      first = turns (codes "A: 1\n") [] ∷ stays (codes "\n") ∷ [];
      last = [];
      cut = record { turns = refl; text = refl };
      old_at = refl;
      new_at = refl;
    } in
    let kept : IsSame (stays (codes "A: 1\n") ∷ turns [] (codes "\nA: 2\n") ∷ []) (at 0 (field (codes "A: 1\n"))) (at 0 (field (codes "A: 1\n"))) =
    record { piece = refl; first = []; last = turns [] (codes "\nA: 2\n") ∷ []; cut = record { turns = refl; text = refl }; old_at = refl; new_at = refl } in
    record {
      before = placed [];
      is_before = are_placed [] [] (record { joined = refl; well_formed = tt; lines_end = tt });
      after = placed (field (codes "A: 1\n") ∷ []);
      is_after = are_placed (codes "A: 1\n") (field (codes "A: 1\n") ∷ []) (record { joined = refl; well_formed = (refl, tt); lines_end = tt });
      here = placed two;
      is_here = are_placed (codes "A: 1\n\nA: 2\n") two (record { joined = refl; well_formed = (refl, (refl, (refl, tt))); lines_end = (refl, (refl, tt)) });
      left = placed (blank ∷ field (codes "A: 2\n") ∷ []);
      is_left = are_placed (codes "\nA: 2\n") (blank ∷ field (codes "A: 2\n") ∷ []) (record { joined = refl; well_formed = (refl, (refl, tt)); lines_end = (refl, tt) });
      keeps = record {
        back_again = tt;
        still_there = (
          inl (0, at 0 (field (codes "A: 1\n")), omega arith, refl, kept),
          (inr (0, at 0 blank, omega arith, refl, line), (inr (1, at 1 (field (codes "A: 2\n")), omega arith, refl, own), tt)),
        );
        no_other = (inl (1, at 5 blank, omega arith, refl, line), (inl (2, at 6 (field (codes "A: 2\n")), omega arith, refl, own), tt));
        records = (
          inl (1, record { fields = at 6 (field (codes "A: 2\n")) ∷ []; record_type = None }, omega arith, refl, record { fields = (own, tt); types = refl }),
          tt,
        );
        all = turns [] (codes "A: 1\n\nA: 2\n") ∷ [];
        all_is = record {
          patch = record { at = 0; old = []; new = codes "A: 1\n\nA: 2\n" } ∷ [];
          composed = refl;
          change = record { cut = turns [] (codes "A: 1\n\nA: 2\n") ∷ []; by_patch = refl; from = refl; to = refl; lined = refl };
        };
        still_out = tt;
      };
    }

-- `A` was set, and then `B`: what is left without the first is put together of the record before and of the one here
abbrev fields : List ℕ → List ℕ → List Placed
fields a b = at 0 (field a) ∷ at 5 (field b) ∷ []

abbrev untyped : List ℕ → List ℕ → PlacedRecord
untyped a b = record { fields = fields a b; record_type = None }

abbrev both : List ℕ → List ℕ → PlacedText
both a b = record { elements = fields a b; records = untyped a b ∷ [] }

abbrev change : List Stretch
change = turns (codes "A: 1\n") (codes "A: 2\n") ∷ stays (codes "B: 1\n") ∷ []

abbrev later : List Stretch
later = stays (codes "A: 2\n") ∷ turns (codes "B: 1\n") (codes "B: 2\n") ∷ []

abbrev ahead : List Stretch
ahead = stays (codes "A: 1\n") ∷ turns (codes "B: 1\n") (codes "B: 2\n") ∷ []

abbrev back : List Stretch
back = turns (codes "A: 2\n") (codes "A: 1\n") ∷ stays (codes "B: 2\n") ∷ []

is_both : (a b text : List ℕ) → AreElementsOf (field a ∷ field b ∷ []) text → both a b ≡ placed (field a ∷ field b ∷ []) → IsPlaced text (both a b)
is_both a b text read is = record {
  pieces = field a ∷ field b ∷ [];
  read = read;
  ranges = ranges (field a ∷ field b ∷ []);
  are_records = AreRecords-all_narrowed (field a ∷ field b ∷ []) (runs_to (is_full_at (field a ∷ field b ∷ [])) 2 0)
      (AreRuns-runs_to (is_full_at (field a ∷ field b ∷ [])) 2);
  is = is;
}

a_field_comes_back_to_its_record : IsPutTogether (step 0 (codes "A: 1\n") (codes "A: 2\n") ∷ []) (step 5 (codes "B: 1\n") (codes "B: 2\n") ∷ []) change later ahead back
    (both (codes "A: 1\n") (codes "B: 1\n")) (both (codes "A: 2\n") (codes "B: 1\n")) (both (codes "A: 2\n") (codes "B: 2\n")) (both (codes "A: 1\n") (codes "B: 2\n"))
    (untyped (codes "A: 1\n") (codes "B: 2\n"))
unfolding runs_from narrowed_from
a_field_comes_back_to_its_record =
    let kept : IsSame change (at 5 (field (codes "B: 1\n"))) (at 5 (field (codes "B: 1\n"))) =
    record { piece = refl; first = turns (codes "A: 1\n") (codes "A: 2\n") ∷ []; last = []; cut = record { turns = refl; text = refl }; old_at = refl; new_at = refl } in
    let untouched : IsSame later (at 0 (field (codes "A: 2\n"))) (at 0 (field (codes "A: 2\n"))) =
    record { piece = refl; first = []; last = turns (codes "B: 1\n") (codes "B: 2\n") ∷ []; cut = record { turns = refl; text = refl }; old_at = refl; new_at = refl } in
    record {
      old = untyped (codes "A: 1\n") (codes "B: 1\n");
      is_old = (0, untyped (codes "A: 1\n") (codes "B: 1\n"), omega arith, refl, refl);
      between = untyped (codes "A: 2\n") (codes "B: 1\n");
      is_between = (0, untyped (codes "A: 2\n") (codes "B: 1\n"), omega arith, refl, refl);
      new = untyped (codes "A: 2\n") (codes "B: 2\n");
      is_new = (0, untyped (codes "A: 2\n") (codes "B: 2\n"), omega arith, refl, refl);
      made = (
        codes "A: 2\nB: 1\n",
        untyped (codes "A: 2\n") (codes "B: 1\n"),
        record {
          parts = change;
          change = record { cut = change; by_patch = refl; from = refl; to = refl; lined = refl };
          old = both (codes "A: 1\n") (codes "B: 1\n");
          is_old = is_both (codes "A: 1\n") (codes "B: 1\n") (codes "A: 1\nB: 1\n") (record { joined = refl; well_formed = (refl, (refl, tt)); lines_end = (refl, tt) }) refl;
          new = both (codes "A: 2\n") (codes "B: 1\n");
          is_new = is_both (codes "A: 2\n") (codes "B: 1\n") (codes "A: 2\nB: 1\n") (record { joined = refl; well_formed = (refl, (refl, tt)); lines_end = (refl, tt) }) refl;
          makes = record {
            before = [];
            rest = [];
            cut = refl;
            others = tt;
            is = inl (1, at 5 (field (codes "B: 1\n")), omega arith, refl, (1, at 5 (field (codes "B: 1\n")), omega arith, refl, kept));
          };
        },
        (refl, refl),
      );
      kept = inl (
        later,
        record { patch = record { at = 5; old = codes "B: 1\n"; new = codes "B: 2\n" } ∷ []; composed = refl; by_patch = refl; from = refl; to = refl },
        record { before = []; rest = []; cut = refl; others = tt; is = (0, at 0 (field (codes "A: 2\n")), omega arith, refl, (0, at 0 (field (codes "A: 2\n")), omega arith, refl, untouched)) },
      );
      of_old = record { all = (λ left. left, (λ left. left, tt)); nothing_else = (λ was. was, (λ was. was, tt)) };
      of_new = record { all = (λ left. left, (λ left. left, tt)); nothing_else = (λ was. was, (λ was. was, tt)) };
      old_type = refl;
      new_type = refl;
    }
