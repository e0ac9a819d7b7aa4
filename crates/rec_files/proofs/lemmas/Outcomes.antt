-- What a request puts can be told to be left over, where a stop comes within the put.
use Rattle.std.proofs.Common.{◌≡◌, ◌⊎◌, inl, inr, refl, sym, ap, subst, ◌∙◌, arith, ℕ, ◌+◌, ◌-◌, ◌<◌, ◌≤◌, ◌==◌, ◌&&◌, Bool, false, if◌then◌else◌, List, [], ◌++◌, length, length-append}
use Rattle.std.proofs.Common.{Option, Some, None, IfSome, Ok}
use Rattle.std.specs.Prelude.{codes, nat_le}
use Rattle.std.proofs.lemmas.Bool.{ne_eqb, cases_eq, cases_Bool}
use Rattle.std.proofs.lemmas.List.{take_all}
use Rattle.rec_journal.specs.declared.event.Event.{Event}
use Rattle.rec_journal.specs.declared.event.Event.TheVariants.{Edited, Moved}
use Rattle.rec_journal.specs.declared.plan.Plan.{Plan}
use Rattle.rec_journal.specs.Revisions.{is_batch}
use Rattle.rec_journal.specs.Event.{number, edit_kind, move_kind, move_rest, edited, moved, spelling}
use Rattle.rec_journal.specs.History.{Opened, newest_header, spelled, Opens, IsRegular}
use Rattle.rec_journal.specs.Plans.{kept, planned, edit_to, move_of}
use Rattle.rec_journal.specs.Stops.{keep_in, IsSafe}
use Rattle.rec_journal.specs.Forgetting.{forgotten_journal}
use Rattle.rec_journal.proofs.lemmas.plans.KeptLemmas.{kept-zero, length-kept, keep_within}
use Rattle.rec_tools.specs.Home.{Contents, Write, writes_by}
use Rattle.rec_tools.specs.Asked.{Reading, AskedChange, editing, moving, reverting, forgetting, adopting, writing, Asked, looking, listing, showing, listing_changes, changing, previewing}
use Rattle.rec_tools.specs.Reverting.{IsRevertOf}
use Rattle.rec_tools.specs.Outcomes.{Outcome, IsChangeOutcome, IsRequestOutcome, IsPutBy, IsPutOn, edit_reply, revert_reply, write_reply}
use Rattle.rec_tools.proofs.lemmas.runs.RunLemmas.{writes_nothing}
use Rattle.rec_files.specs.Leftovers.{BeginsAsJournal, IsStopBetween}

-- ---- what is put

-- A journal that begins as one, alone or with a new file. Where a stop comes between the two, the file in place is the
-- text before the journal's last event, and the new one is the text after it.
pub record Puts (c : Contents) (writes : List Write) : Type 0 where
  pub journal : List ℕ
  pub file : Option (List ℕ)
  pub are : writes ≡ writes_by journal file
  pub begins : BeginsAsJournal journal
  pub between : IfSome file (λ f. IsStopBetween c.file f journal)

-- nothing is put, or such a journal is
abbrev pub ArePuts : Contents → List Write → Type 0
ArePuts c writes = (writes ≡ []) ⊎ Puts c writes

-- what opens begins as a journal does
begins : (file journal : List ℕ) (o : Opened) → Opens file journal o → BeginsAsJournal journal
begins file journal o (inl whole) = (whole.header, spelled whole.events ++ whole.tail, whole.holds.is_header, inl whole.holds.whole)
begins file journal o (inr torn) = (torn.header, torn.rest, torn.is_header, inr torn.prefix)

-- ---- with the old file the event of a plan doesn't count

length-spelling : (e : Event) → 0 < length (spelling e)
unfolding edited moved
length-spelling (Edited e) = omega (arith, length-append (codes "Number: ") (number e.number ++ edit_kind (is_batch e.tool) e))
length-spelling (Moved direction m) = omega (arith, length-append (codes "Number: ") (number m.number ++ (move_kind direction ++ move_rest m)))

module _ (journal : List ℕ) (o : Opened) (e : Event) (n : ℕ) (within : o.keep ≤ length journal) where
  abbrev keep_for : Bool → ℕ
  keep_for whole = if whole then length newest_header else o.keep

  -- no more counts than the bytes before the event
  keep_in-kept : keep_in o n ≤ length (kept journal o.keep)
  keep_in-kept =
      elim (cases_eq o.keep 0) [
        | inl none ↦ (
            let newest : length (kept journal o.keep) ≡ length newest_header = ap length (kept-zero journal o.keep none) in
            elim (cases_Bool (o.keep == 0 && nat_le (length newest_header) n)) [
              | inl whole ↦ (let is : keep_in o n ≡ length newest_header = ap keep_for whole in omega arith)
              | inr torn ↦ (let is : keep_in o n ≡ o.keep = ap keep_for torn in omega arith)
            ]
            )
        | inr some ↦ (
            let is : keep_in o n ≡ o.keep = ap (λ (b : Bool). keep_for (b && nat_le (length newest_header) n)) (ne_eqb o.keep 0 some) in
            omega (arith, is, length-kept journal o.keep some within)
            )
      ]

  drops : keep_in o n < length (planned journal o e)
  drops = omega (arith, keep_in-kept, length-append (kept journal o.keep) (spelling e), length-spelling e)

module _ (c : Contents) (regular : IsRegular c.journal) where
  -- ---- a plan

  module _ (o after : Opened) (opens : Opens c.file c.journal o) (plan : Plan) (safe : IsSafe c.file c.journal o after plan) (e : Event)
      (journal_is : plan.journal ≡ planned c.journal o e) where
    -- a number of bytes that is enough for all of the plan's journal
    abbrev enough : ℕ
    enough = o.keep + length plan.journal

    left_opens : Opens c.file plan.journal (record o { keep = keep_in o enough })
    left_opens =
        subst (λ j. Opens c.file j (record o { keep = keep_in o enough })) (take_all enough plan.journal (omega arith)) ((safe.stops regular).opens enough (omega arith))

    plan_between : after.keep ≡ length (planned c.journal o e) → after.drifted ≡ false → IsStopBetween c.file plan.file plan.journal
    plan_between keep undrifted = record {
      before = record o { keep = keep_in o enough };
      opens_before = left_opens;
      dropped = subst (λ j. keep_in o enough < length j) (sym journal_is) (drops c.journal o e enough (keep_within c.file c.journal o o.keep opens refl));
      after = after;
      opens_after = safe.next;
      whole = keep ∙ ap length (sym journal_is);
      undrifted = undrifted;
    }

    plan_puts : after.keep ≡ length (planned c.journal o e) → after.drifted ≡ false → ArePuts c (writes_by plan.journal (Some plan.file))
    plan_puts keep undrifted = inr (record {
      journal = plan.journal;
      file = Some plan.file;
      are = refl;
      begins = begins plan.file plan.journal after safe.next;
      between = plan_between keep undrifted;
    })

  -- ---- an outcome

  by_writes : (o : Outcome) (writes : List Write) → o.writes ≡ writes → ArePuts c writes → ArePuts c o.writes
  by_writes o writes are puts = subst (ArePuts c) (sym are) puts

  puts-put_on : (MakesOf : _) (reply_for : _) (outcome : Outcome) → IsPutOn MakesOf reply_for c (Ok outcome) → ArePuts c outcome.writes
  puts-put_on MakesOf reply_for outcome (inl refused) = let e = refused.2 in cc
  puts-put_on MakesOf reply_for outcome (inr (o, opens, inl refused)) = let e = refused.2 in cc
  puts-put_on MakesOf reply_for outcome (inr (o, opens, inr (made, done, inl (same, e)))) = inl (ap (λ (x : Outcome). x.writes) e)
  puts-put_on MakesOf reply_for outcome (inr (o, opens, inr (made, done, inr (differs, (plan, planned_so, e))))) =
      by_writes outcome (writes_by plan.journal (Some plan.file)) (ap (λ (x : Outcome). x.writes) e)
      (plan_puts o _ opens plan planned_so.safe (Edited (edit_to o made.0 made.1.text made.1.steps)) planned_so.planned.2 refl refl)

  puts-put : {X : Type 0} (Reads : Reading X) (MakesOf : _) (reply_for : _) (outcome : Outcome) → IsPutBy Reads MakesOf reply_for c (Ok outcome)
      → ArePuts c outcome.writes
  puts-put Reads MakesOf reply_for outcome (inl refused) = let e = refused.2 in cc
  puts-put Reads MakesOf reply_for outcome (inr (text, is, put)) = puts-put_on MakesOf reply_for outcome put

  puts-change : (change : AskedChange) (o : Outcome) → IsChangeOutcome c change (Ok o) → ArePuts c o.writes
  puts-change (editing Reads Makes) outcome is = puts-put Reads (λ _. Makes c.file) (λ o. edit_reply o.next o.dropped) outcome is
  puts-change (reverting Reads number Reverts) outcome is =
      puts-put Reads (λ o. IsRevertOf number Reverts o c.file) (λ o. revert_reply number o.next) outcome is
  puts-change (moving direction through) outcome (inl refused) = let e = refused.2 in cc
  puts-change (moving direction through) outcome (inr (o, opens, (settled, here, m))) =
      by_writes outcome (writes_by m.plan.journal (Some m.plan.file)) (ap (λ (x : Outcome). x.writes) m.is)
      (plan_puts o _ opens m.plan m.safe (Moved direction (move_of direction o m.moves.nearest)) m.moves.recorded refl refl)
  puts-change (forgetting n dropping) outcome (inl refused) = let e = refused.2 in cc
  puts-change (forgetting n dropping) outcome (inr (o, opens, (settled, inl (few, e)))) = inl (ap (λ (x : Outcome). x.writes) e)
  puts-change (forgetting n dropping) outcome (inr (o, opens, (settled, inr (more, f)))) = inr (record {
    journal = forgotten_journal (length o.past - (length o.past - n)) o;
    file = None;
    are = ap (λ (x : Outcome). x.writes) f.is;
    begins = begins c.file (forgotten_journal (length o.past - (length o.past - n)) o) _ f.opens;
    between = tt;
  })
  puts-change (adopting old) outcome (inl refused) = let e = refused.2 in cc
  puts-change (adopting old) outcome (inr (o, opens, inl (settled, e))) = inl (ap (λ (x : Outcome). x.writes) e)
  puts-change (adopting old) outcome (inr (o, opens, inr (drifted, (found, is, adopts)))) = inr (record {
    journal = adopts.plan.journal;
    file = None;
    are = ap (λ (x : Outcome). x.writes) adopts.is;
    begins = begins adopts.plan.file adopts.plan.journal _ adopts.planned.safe.next;
    between = tt;
  })
  puts-change (writing Makes) outcome is =
      puts-put_on (λ _. Makes c.file) (λ o. write_reply o.next o.dropped) outcome is

  puts : (asked : Asked) (o : Outcome) → IsRequestOutcome c asked (Ok o) → ArePuts c o.writes
  puts (looking IsText) outcome is = inl (writes_nothing c (looking IsText) outcome tt is)
  puts listing outcome is = inl (writes_nothing c listing outcome tt is)
  puts (showing number name) outcome is = inl (writes_nothing c (showing number name) outcome tt is)
  puts (listing_changes name) outcome is = inl (writes_nothing c (listing_changes name) outcome tt is)
  puts (previewing name change) outcome is = inl (writes_nothing c (previewing name change) outcome tt is)
  puts (changing change) outcome is = puts-change change outcome is

-- what a request puts can be told to be left over, where a stop comes within the put
pub puts_left : (c : Contents) (asked : Asked) (o : Outcome) → IsRegular c.journal → IsRequestOutcome c asked (Ok o) → ArePuts c o.writes
puts_left c asked o regular is = puts c regular asked o is
