-- What a request does at each of its exits, from the calls that were made and what went out.
use Rattle.std.proofs.Common.{◌≡◌, ◌⊎◌, inl, inr, ℕ, List, [], ◌∷◌, ◌++◌, take, Option, Result, Ok, Err, ap, sym, subst, refl, ◌∙◌, append-nil}
use Rattle.std.specs.Prelude.{IsErrOf}
use Rattle.std.specs.Io.KnownBytes.{Appends}
use Rattle.std.proofs.KnownBytes.{Appends-nil, Appends-kept}
use Rattle.rec_text.specs.declared.fault.Fault.{Fault}
use Rattle.rec_text.specs.declared.fault.Fault.TheVariants.{OutOfMemory, StoreFailed}
use Rattle.rec_text.specs.Faults.{IsMemoryOr}
use Rattle.rec_text.specs.Sink.{HasRisen}
use Rattle.rec_journal.specs.History.{Opened}
use Rattle.rec_select.specs.Taken.{PrintsAndCounts}
use Rattle.rec_tools.specs.declared.decision.Decision.{Decision}
use Rattle.rec_tools.specs.declared.decision.Decision.TheVariants.{Stay, Put, Adopt}
use Rattle.rec_tools.specs.declared.home.Which.TheVariants.{Base as TheFile, Journal as TheJournal}
use Rattle.rec_tools.specs.Home.{Contents, Write, Call, got, TellAll, Went}
use Rattle.rec_tools.specs.Printouts.{Printed, PutsPrintout, WentOut, IsSilence, IsHistory, printed_history, history_reply}
use Rattle.rec_tools.specs.Asked.{Printout, Asked, looking, listing, showing, listing_changes, changing, previewing, reads_of}
use Rattle.rec_tools.specs.Outcomes.{Outcome, printing, outcome_of, IsPrinting, IsRequestOutcome}
use Rattle.rec_tools.specs.proving.Silently.{ByCalls, DoesSilently}
use Rattle.rec_tools.specs.Attempts.{Answer, gots, puts, IsPrefix, StopsReading, StopsWriting, IsAnswered, Does, Attempts}
use Rattle.rec_text.proofs.lemmas.FaultLemmas.{ok_is_no_err, same_fault, same_value}
use Rattle.rec_tools.proofs.lemmas.calls.CallLemmas.{one_call, went_on}

-- this was done by some calls of the home, and this went out of the sink
abbrev pub Attempted : {H S : Type 0} → (H → Call → H → Type 0) → (S → Option (List ℕ)) → (S → ℕ) → H → H → S → S → Asked → Answer → Type 0
Attempted goes told failures old new out out_new asked answer =
    (calls : List Call) × (p : Printed) × WentOut told failures out out_new p × Attempts goes old new asked answer calls p

-- nothing went out to a sink that failed so often
abbrev pub silence : ℕ → Printed
silence k = record { text = []; before = k; after = k }

pub went_silently : {S : Type 0} (told : S → Option (List ℕ)) (failures : S → ℕ) (out : S) → WentOut told failures out out (silence (failures out))
went_silently told failures out = (Appends-nil (told out), refl, refl)

-- ---- the contents weren't read

-- reads of the file, or of the file and the journal, tell of some contents
stopped-tells_one : (calls : List Call) (fault : Fault) → StopsReading (TheFile ∷ []) calls fault → (c : Contents) × TellAll c calls
stopped-tells_one [] fault stops = absurd stops
stopped-tells_one (call ∷ []) fault (inl stops) = (record { file = []; journal = [] }, rw stops.0 (tt, tt))
stopped-tells_one (call ∷ []) fault (inr (inl stops)) = (record { file = []; journal = [] }, rw stops.0 (tt, tt))
stopped-tells_one (call ∷ []) fault (inr (inr stops)) = absurd stops.2
stopped-tells_one (call ∷ more ∷ calls) fault (inl stops) = cc
stopped-tells_one (call ∷ more ∷ calls) fault (inr (inl stops)) = cc
stopped-tells_one (call ∷ more ∷ calls) fault (inr (inr stops)) = absurd stops.2

-- the contents of which the first read tells
abbrev file_alone : List ℕ → Contents
file_alone bytes = record { file = bytes; journal = [] }

stops_at_journal : (bytes : List ℕ) (calls : List Call) (fault : Fault) → StopsReading (TheJournal ∷ []) calls fault → TellAll (file_alone bytes) calls
stops_at_journal bytes [] fault stops = absurd stops
stops_at_journal bytes (call ∷ []) fault (inl stops) = rw stops.0 (tt, tt)
stops_at_journal bytes (call ∷ []) fault (inr (inl stops)) = rw stops.0 (tt, tt)
stops_at_journal bytes (call ∷ []) fault (inr (inr stops)) = absurd stops.2
stops_at_journal bytes (call ∷ more ∷ calls) fault (inl stops) = cc
stops_at_journal bytes (call ∷ more ∷ calls) fault (inr (inl stops)) = cc
stops_at_journal bytes (call ∷ more ∷ calls) fault (inr (inr stops)) = absurd stops.2

stopped-tells_both : (calls : List Call) (fault : Fault) → StopsReading (TheFile ∷ TheJournal ∷ []) calls fault → (c : Contents) × TellAll c calls
stopped-tells_both [] fault stops = absurd stops
stopped-tells_both (call ∷ calls) fault (inl stops) = (file_alone [], rw (stops.0, stops.1) (tt, tt))
stopped-tells_both (call ∷ calls) fault (inr (inl stops)) = (file_alone [], rw (stops.0, stops.1) (tt, tt))
stopped-tells_both (call ∷ calls) fault (inr (inr stops)) = (file_alone stops.0, rw stops.1 (refl, stops_at_journal stops.0 calls fault stops.2))

stopped-tells : (asked : Asked) (calls : List Call) (fault : Fault) → StopsReading (reads_of asked) calls fault → (c : Contents) × TellAll c calls
stopped-tells (looking IsText) calls fault stops = stopped-tells_one calls fault stops
stopped-tells listing calls fault stops = stopped-tells_both calls fault stops
stopped-tells (changing change) calls fault stops = stopped-tells_both calls fault stops
stopped-tells (showing number style) calls fault stops = stopped-tells_both calls fault stops
stopped-tells (listing_changes style) calls fault stops = stopped-tells_both calls fault stops
stopped-tells (previewing style change) calls fault stops = stopped-tells_both calls fault stops

module _ {H : Type 0} (goes : H → Call → H → Type 0) where
  pub silently-unread : (old new : H) (asked : Asked) (fault : Fault) → ByCalls goes old new (λ calls. StopsReading (reads_of asked) calls fault)
      → DoesSilently goes old new asked (Err fault)
  silently-unread old new asked fault read =
      (read.0, λ p silent. (read.1, stopped-tells asked read.0 fault read.2, λ c tells. inl (record { fault = fault; stops = read.2; answered = refl; silent = silent })))

module _ {H S : Type 0} (goes : H → Call → H → Type 0) (told : S → Option (List ℕ)) (failures : S → ℕ) where
  -- the sink was left alone
  pub attempted-silently : (old new : H) (out : S) (asked : Asked) (answer : Answer) → DoesSilently goes old new asked answer
      → Attempted goes told failures old new out out asked answer
  attempted-silently old new out asked answer done =
      (done.0, silence (failures out), went_silently told failures out, done.1 (silence (failures out)) (refl, refl))

  pub attempted-unread : (old new : H) (out : S) (asked : Asked) (fault : Fault) → ByCalls goes old new (λ calls. StopsReading (reads_of asked) calls fault)
      → Attempted goes told failures old new out out asked (Err fault)
  attempted-unread old new out asked fault read = attempted-silently old new out asked (Err fault) (silently-unread goes old new asked fault read)

-- ---- a request that prints

no_failure : {A : Type 0} {answer : A} {n m : ℕ} {failed : A} → (answer ≡ failed) ⊎ (m ≡ n) → (answer ≡ failed → ⊥) → m ≡ n
no_failure (inl e) never = absurd (never e)
no_failure (inr kept) never = kept

file_got : (bytes : List ℕ) (c : Contents) → bytes ≡ c.file → ◌≡◌ {A = List Call} (got TheFile bytes ∷ []) (got TheFile c.file ∷ [])
file_got bytes c e = ap (λ b. got TheFile b ∷ []) e

-- after calls that tell of some contents, a text was printed that is asked for on these
module _ (asked : Asked) (calls : List Call) (Tells : Contents → Type 0) (IsText : Result Printout Fault → Type 0)
    (read : (c : Contents) → Tells c → calls ≡ gots c (reads_of asked))
    (is : (c : Contents) → Tells c → (r : Result Outcome Fault) → IsPrinting IsText r → IsRequestOutcome c asked r) where
  prefix_of : (x : Printout) (n : ℕ) → IsText (Ok x) → (c : Contents) → Tells c → IsPrefix c asked (take n x.text)
  prefix_of x n text c tells = (printing x.text x.reply, n, is c tells (Ok (printing x.text x.reply)) (x, text, refl), refl)

  -- what went out of a printing call, and what was done
  printed_of : (old new : Option (List ℕ)) (n m : ℕ) (answer : Answer) → PutsPrintout IsText old new answer → IsErrOf answer StoreFailed ⊎ (m ≡ n) → (IsErrOf answer StoreFailed → HasRisen n m)
      → (text : List ℕ) × Appends old new text × ((c : Contents) → Tells c → Does c asked answer calls (record { text = text; before = n; after = m }))
  printed_of old new n m (Ok reply) put says risen = (
    put.0,
    put.2,
    λ c tells. inr (inr (inr (inr (record {
      o = printing put.0 reply;
      outcome = is c tells (Ok (printing put.0 reply)) (record { text = put.0; reply = reply }, put.1, refl);
      following = [];
      calls_are = read c tells ∙ sym (append-nil (gots c (reads_of asked)));
      answered = inl (refl, refl);
      printed = refl;
      kept = no_failure says (λ e. cc);
    })))),
  )
  printed_of old new n m (Err OutOfMemory) (inl same) says risen = (
    [],
    Appends-kept old old new [] (Appends-nil old) same,
    λ c tells. inr (inl (record { read = read c tells; answered = refl; printed = inl refl; kept = no_failure says (λ e. cc) })),
  )
  printed_of old new n m (Err OutOfMemory) (inr prefix) says risen = (
    take prefix.2.0 prefix.0.text,
    prefix.2.2,
    λ c tells.
        inr (inl (record { read = read c tells; answered = refl; printed = inr (prefix_of prefix.0 prefix.2.0 prefix.1 c tells); kept = no_failure says (λ e. cc) })),
  )
  printed_of old new n m (Err StoreFailed) prefix says risen = (
    take prefix.2.0 prefix.0.text,
    prefix.2.2,
    λ c tells. inr (inr (inr (inl (record {
      read = read c tells;
      answered = refl;
      printed = prefix_of prefix.0 prefix.2.0 prefix.1 c tells;
      risen = risen refl;
    })))),
  )
  printed_of old new n m (Err fault) put says risen = (
    [],
    Appends-kept old old new [] (Appends-nil old) put.1,
    λ c tells.
        inr (inr (inl (record {
          read = read c tells;
          fault = fault;
          outcome = is c tells (Err fault) put.0;
          answered = refl;
          silent = (refl, no_failure says (λ e. cc));
        }))),
  )

abbrev listed : Opened → Printout
listed o = record { text = printed_history o; reply = history_reply o }

-- the history that is printed of a file and its journal is the outcome that is asked for
pub listed-outcome : (file journal : List ℕ) (r : Result Outcome Fault) → IsPrinting (IsHistory file journal) r
    → IsRequestOutcome (record { file = file; journal = journal }) listing r
listed-outcome file journal (Ok outcome) (p, inl (fault, refused, e), is) = ok_is_no_err p fault _ (sym e)
listed-outcome file journal (Ok outcome) (p, inr (o, opens, e), is) =
    inr (o, opens, ap Ok (is ∙ ap (λ (x : Printout). printing x.text x.reply) (same_value p (listed o) e)))
listed-outcome file journal (Err fault) (inl (other, refused, e)) = inl (other, refused, ap Err (same_fault fault other e))
listed-outcome file journal (Err fault) (inr (o, opens, e)) = ok_is_no_err (listed o) fault _ e

-- ---- a decision on both contents

-- the reads of both contents tell of these alone
pub both_got : (file journal : List ℕ) (later : List Call) (c : Contents) → TellAll c (got TheFile file ∷ got TheJournal journal ∷ later)
    → record { file = file; journal = journal } ≡ c
both_got file journal later c tells =
    ap (λ f. record { file = f; journal = journal }) tells.0 ∙ ap (λ j. record { file = c.file; journal = j }) tells.1.0

-- both contents are read for it
abbrev pub ReadsBoth : Asked → Type 0
ReadsBoth asked = reads_of asked ≡ TheFile ∷ TheJournal ∷ []

does-refused : (asked : Asked) (c : Contents) (fault : Fault) (p : Printed) → ReadsBoth asked → IsMemoryOr fault (IsRequestOutcome c asked (Err fault)) → IsSilence p
    → Does c asked (Err fault) (got TheFile c.file ∷ got TheJournal c.journal ∷ []) p
does-refused asked c OutOfMemory p both found silent =
    inr (inl (record { read = sym (ap (gots c) both); answered = refl; printed = inl silent.0; kept = silent.1 }))
does-refused asked c fault p both found silent =
    inr (inr (inl (record { read = sym (ap (gots c) both); fault = fault; outcome = found; answered = refl; silent = silent })))

does-carried : (asked : Asked) (c : Contents) (o : Outcome) (answer : Answer) (later : List Call) (p : Printed) → ReadsBoth asked → IsRequestOutcome c asked (Ok o)
    → IsAnswered o answer later → p.text ≡ o.text → p.after ≡ p.before → Does c asked answer (got TheFile c.file ∷ got TheJournal c.journal ∷ later) p
does-carried asked c o answer later p both found answered printed kept = inr (inr (inr (inr (record {
  o = o;
  outcome = found;
  following = later;
  calls_are = ap (λ whiches. gots c whiches ++ later) (sym both);
  answered = answered;
  printed = printed;
  kept = kept;
}))))

outcome_of-silent : (decision : Decision) → (outcome_of decision).text ≡ []
outcome_of-silent (Stay reply) = refl
outcome_of-silent (Put journal file reply) = refl
outcome_of-silent (Adopt journal from steps reply) = refl

-- what holds of the contents that were read holds of those of which the reads tell
of_told : (file journal : List ℕ) (later : List Call) (P : Contents → List Call → Type 0)
    → P (record { file = file; journal = journal }) (got TheFile file ∷ got TheJournal journal ∷ later)
    → (c : Contents) → TellAll c (got TheFile file ∷ got TheJournal journal ∷ later) → P c (got TheFile file ∷ got TheJournal journal ∷ later)
of_told file journal later P h c tells = subst (λ d. P d (got TheFile file ∷ got TheJournal journal ∷ later)) (both_got file journal later c tells) h

-- writes read nothing
TellAll-puts : (c : Contents) (writes : List Write) → TellAll c (puts writes)
TellAll-puts c [] = tt
TellAll-puts c (w ∷ writes) = (tt, tt)

TellAll-stopped : (c : Contents) (writes : List Write) (calls : List Call) → StopsWriting writes calls → TellAll c calls
TellAll-stopped c [] calls stops = absurd stops
TellAll-stopped c (w ∷ writes) calls (k, le, e) = subst (TellAll c) (sym e) (tt, tt)

TellAll-answered : (c : Contents) (o : Outcome) (answer : Answer) (calls : List Call) → IsAnswered o answer calls → TellAll c calls
TellAll-answered c o answer calls (inl done) = rw done.1 (TellAll-puts c o.writes)
TellAll-answered c o answer calls (inr stopped) = TellAll-stopped c o.writes calls stopped.1

-- a text was printed of both contents
module _ {S : Type 0} (told : S → Option (List ℕ)) (failures : S → ℕ) (asked : Asked) (IsText : List ℕ → List ℕ → Result Printout Fault → Type 0) (both : ReadsBoth asked)
    (is : (file journal : List ℕ) (r : Result Outcome Fault) → IsPrinting (IsText file journal) r → IsRequestOutcome (record { file = file; journal = journal }) asked r) where
  pub does-both : (out out_new : S) (file journal f j : List ℕ) (answer : Answer) → f ≡ file → j ≡ journal
      → PrintsAndCounts told failures out out_new (PutsPrintout (IsText f j)) answer
      → (p : Printed) × WentOut told failures out out_new p
      × Does (record { file = file; journal = journal }) asked answer (got TheFile file ∷ got TheJournal journal ∷ []) p
  does-both out out_new file journal f j answer e h written =
      let here : Contents = record { file = file; journal = journal } in
      let on : PutsPrintout (IsText file journal) (told out) (told out_new) answer =
      subst (λ b. PutsPrintout (IsText file b) (told out) (told out_new) answer) h
      (subst (λ b. PutsPrintout (IsText b j) (told out) (told out_new) answer) e written.printed) in
      let done = printed_of asked (got TheFile file ∷ got TheJournal journal ∷ []) (λ c. here ≡ c) (IsText file journal)
      (λ c same. ap (λ (d : Contents). got TheFile d.file ∷ got TheJournal d.journal ∷ []) same ∙ ap (gots c) (sym both))
      (λ c same r text. subst (λ d. IsRequestOutcome d asked r) same (is file journal r text))
      (told out) (told out_new) (failures out) (failures out_new) answer on written.told written.store_failed in (
        record { text = done.0; before = failures out; after = failures out_new },
        (done.1, refl, refl),
        done.2 here refl,
      )

module _ {H S : Type 0} (goes : H → Call → H → Type 0) (told : S → Option (List ℕ)) (failures : S → ℕ) where
  pub attempted-printed : (old new : H) (out out_new : S) (IsText : List ℕ → Result Printout Fault → Type 0) (bytes file : List ℕ) (answer : Answer)
      → goes old (got TheFile bytes) new → file ≡ bytes → PrintsAndCounts told failures out out_new (PutsPrintout (IsText file)) answer
      → Attempted goes told failures old new out out_new (looking IsText) answer
  attempted-printed old new out out_new IsText bytes file answer step same written =
      let on : PutsPrintout (IsText bytes) (told out) (told out_new) answer = subst (λ f. PutsPrintout (IsText f) (told out) (told out_new) answer) same written.printed in
      let done = printed_of (looking IsText) (got TheFile bytes ∷ []) (λ c. bytes ≡ c.file) (IsText bytes) (λ c e. file_got bytes c e)
      (λ c e r h. subst (λ b. IsPrinting (IsText b) r) e h) (told out) (told out_new) (failures out) (failures out_new) answer on written.told written.store_failed in (
        got TheFile bytes ∷ [],
        record { text = done.0; before = failures out; after = failures out_new },
        (done.1, refl, refl),
        (one_call goes old new _ step, (file_alone bytes, (refl, tt)), λ c tells. done.2 c tells.0),
      )

  -- a text was printed of both contents
  module _ (asked : Asked) (IsText : List ℕ → List ℕ → Result Printout Fault → Type 0) (both : ReadsBoth asked)
      (is : (file journal : List ℕ) (r : Result Outcome Fault) → IsPrinting (IsText file journal) r → IsRequestOutcome (record { file = file; journal = journal }) asked r) where
    pub attempted-both : (old new : H) (out out_new : S) (file journal f j : List ℕ) (answer : Answer)
        → ByCalls goes old new (λ calls. calls ≡ got TheFile file ∷ got TheJournal journal ∷ []) → f ≡ file → j ≡ journal
        → PrintsAndCounts told failures out out_new (PutsPrintout (IsText f j)) answer
        → Attempted goes told failures old new out out_new asked answer
    attempted-both old new out out_new file journal f j answer read e h written =
        let (p, went_out, done) = does-both told failures asked IsText both is out out_new file journal f j answer e h written in (
          got TheFile file ∷ got TheJournal journal ∷ [],
          p,
          went_out,
          (
            subst (λ calls. Went goes old calls new) read.2 read.1,
            (record { file = file; journal = journal }, (refl, (refl, tt))),
            of_told file journal [] (λ c calls. Does c asked answer calls p) done,
          ),
        )

  -- the two contents weren't read for it
  pub attempted-unread_both : (old new : H) (out : S) (asked : Asked) (fault : Fault) → ReadsBoth asked
      → ByCalls goes old new (λ calls. StopsReading (TheFile ∷ TheJournal ∷ []) calls fault) → Attempted goes told failures old new out out asked (Err fault)
  attempted-unread_both old new out asked fault both read =
      attempted-unread goes told failures old new out asked fault (read.0, read.1, subst (λ whiches. StopsReading whiches read.0 fault) (sym both) read.2)

module _ {H : Type 0} (goes : H → Call → H → Type 0) where
  -- the two contents weren't read
  pub silently-unread_both : (old new : H) (asked : Asked) (fault : Fault) → ReadsBoth asked
      → ByCalls goes old new (λ calls. StopsReading (TheFile ∷ TheJournal ∷ []) calls fault) → DoesSilently goes old new asked (Err fault)
  silently-unread_both old new asked fault both read =
      silently-unread goes old new asked fault (read.0, read.1, subst (λ whiches. StopsReading whiches read.0 fault) (sym both) read.2)

  -- a decision on the bytes that were read was refused
  pub silently-refused : (old new : H) (asked : Asked) (file journal f j : List ℕ) (fault : Fault) → ReadsBoth asked
      → ByCalls goes old new (λ calls. calls ≡ got TheFile file ∷ got TheJournal journal ∷ []) → f ≡ file → j ≡ journal
      → IsMemoryOr fault (IsRequestOutcome (record { file = f; journal = j }) asked (Err fault))
      → DoesSilently goes old new asked (Err fault)
  silently-refused old new asked file journal f j fault both read e h found =
      let on : IsMemoryOr fault (IsRequestOutcome (record { file = file; journal = journal }) asked (Err fault)) =
      subst (λ b. IsMemoryOr fault (IsRequestOutcome (record { file = file; journal = b }) asked (Err fault))) h
      (subst (λ b. IsMemoryOr fault (IsRequestOutcome (record { file = b; journal = j }) asked (Err fault))) e found) in (
        got TheFile file ∷ got TheJournal journal ∷ [],
        λ p silent. (
          subst (λ calls. Went goes old calls new) read.2 read.1,
          (record { file = file; journal = journal }, (refl, (refl, tt))),
          of_told file journal [] (λ c calls. Does c asked (Err fault) calls p) (does-refused asked (record { file = file; journal = journal }) fault p both on silent),
        ),
      )

  -- a decision on the bytes that were read was carried out
  pub silently-carried : (old mid new : H) (asked : Asked) (file journal f j : List ℕ) (decision : Decision) (answer : Answer) → ReadsBoth asked
      → ByCalls goes old mid (λ calls. calls ≡ got TheFile file ∷ got TheJournal journal ∷ []) → f ≡ file → j ≡ journal
      → IsRequestOutcome (record { file = f; journal = j }) asked (Ok (outcome_of decision))
      → ByCalls goes mid new (IsAnswered (outcome_of decision) answer)
      → DoesSilently goes old new asked answer
  silently-carried old mid new asked file journal f j decision answer both read e h found carried =
      let o = outcome_of decision in
      let on : IsRequestOutcome (record { file = file; journal = journal }) asked (Ok o) =
      subst (λ b. IsRequestOutcome (record { file = file; journal = b }) asked (Ok o)) h
      (subst (λ b. IsRequestOutcome (record { file = b; journal = j }) asked (Ok o)) e found) in
      let went : Went goes old (got TheFile file ∷ got TheJournal journal ∷ []) mid = subst (λ calls. Went goes old calls mid) read.2 read.1 in (
        got TheFile file ∷ got TheJournal journal ∷ carried.0,
        λ p silent. (
          went_on goes old mid new (got TheFile file ∷ got TheJournal journal ∷ []) carried.0 went carried.1,
          (record { file = file; journal = journal }, (refl, (refl, TellAll-answered _ o answer carried.0 carried.2))),
          of_told file journal carried.0 (λ c calls. Does c asked answer calls p)
              (does-carried asked (record { file = file; journal = journal }) o answer carried.0 p both on carried.2 (silent.0 ∙ sym (outcome_of-silent decision)) silent.1),
        ),
      )
