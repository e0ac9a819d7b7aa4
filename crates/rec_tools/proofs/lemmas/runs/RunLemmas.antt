-- What `run` ensures besides, from what the request did.
use Rattle.std.proofs.Common.{◌≡◌, ◌⊎◌, inl, inr, ℕ, take, List, [], ◌∷◌, ◌++◌, Option, Some, None, Ok, Err, ap, sym, subst, refl, ◌∙◌}
use Rattle.std.specs.Prelude.{IfSome, IfErr}
use Rattle.rec_text.specs.declared.fault.Fault.{Fault}
use Rattle.rec_text.specs.declared.fault.Fault.TheVariants.{OutOfMemory, StoreFailed}
use Rattle.rec_text.specs.Sink.{HasRisen}
use Rattle.rec_tools.specs.declared.home.Which.{Which}
use Rattle.rec_tools.specs.declared.request.Look.{Look}
use Rattle.rec_tools.specs.declared.request.Look.TheVariants.{Show, Info, Check, History, Diff, Log}
use Rattle.rec_tools.specs.declared.request.Request.{Request}
use Rattle.rec_tools.specs.declared.request.Request.TheVariants.{Look as Looks, Change as Changes, Preview as Previews}
use Rattle.rec_tools.specs.Home.{Contents, Write, written, Call, got, lacked, left_by, left_by_all, TellsOf, TellAll, HasFailed, CountsFailure}
use Rattle.rec_tools.specs.Printouts.{Printed}
use Rattle.rec_tools.specs.Requests.{look_of, asked_of, IsChange}
use Rattle.rec_tools.specs.Asked.{Asked, looking, listing, showing, listing_changes, changing, previewing, reads_of}
use Rattle.rec_tools.specs.Outcomes.{Outcome, IsRequestOutcome}
use Rattle.rec_tools.specs.Attempts.{Answer, gots, puts, StopsReading, StopsWriting, IsAnswered, IsCutShort, IsUnread, IsCarriedOut, Does}
use Rattle.rec_tools.proofs.lemmas.calls.CallLemmas.{Follows, HasFailed-rest, HasFailed-parts, left_by_all-append, failures_stay, failures_rise, contents_follow}
use Rattle.rec_tools.proofs.lemmas.calls.ExitLemmas.{Attempted}
use Rattle.rec_text.proofs.lemmas.FaultLemmas.{same_fault, same_value}
use Rattle.rec_tools.proofs.lemmas.outcomes.StoreLemmas.{never_store}

-- ---- reads and writes

pub no_failure-gots : (c : Contents) (whiches : List Which) → HasFailed (gots c whiches) → ⊥
no_failure-gots c [] failed = failed
no_failure-gots c (which ∷ whiches) (inl failed) = failed
no_failure-gots c (which ∷ whiches) (inr failed) = no_failure-gots c whiches failed

no_failure-puts : (writes : List Write) → HasFailed (puts writes) → ⊥
no_failure-puts [] failed = failed
no_failure-puts (w ∷ writes) (inl failed) = failed
no_failure-puts (w ∷ writes) (inr failed) = failed

pub left-puts : (c : Contents) (writes : List Write) → left_by_all c (puts writes) ≡ written c writes
left-puts c [] = refl
left-puts c (w ∷ writes) = refl

left-reads : (c d : Contents) (whiches : List Which) → left_by_all d (gots c whiches) ≡ d
left-reads c d [] = refl
left-reads c d (which ∷ whiches) = left-reads c d whiches

pub left-gots : (c : Contents) (whiches : List Which) → left_by_all c (gots c whiches) ≡ c
left-gots c whiches = left-reads c c whiches

-- a read that stops found no memory, or it failed
pub stopped-failed : (whiches : List Which) (calls : List Call) (fault : Fault) → StopsReading whiches calls fault
    → (fault ≡ OutOfMemory) ⊎ ((fault ≡ StoreFailed) × HasFailed calls)
stopped-failed [] [] fault stops = absurd stops
stopped-failed [] (call ∷ calls) fault stops = absurd stops
stopped-failed (which ∷ rest) [] fault stops = absurd stops
stopped-failed (which ∷ rest) (call ∷ calls) fault (inl stops) = inl stops.2
stopped-failed (which ∷ rest) (call ∷ calls) fault (inr (inl stops)) = inr (stops.2, rw stops.0 (inl tt))
stopped-failed (which ∷ rest) (call ∷ calls) fault (inr (inr stops)) =
    elim (stopped-failed rest calls fault stops.2) [ inl short ↦ inl short | inr failed ↦ inr (failed.0, inr failed.1) ]

held-lacked : (which : Which) → HasFailed (lacked which ∷ []) → ⊥
held-lacked which (inl failed) = failed
held-lacked which (inr failed) = failed

held-got : (which : Which) (bytes : List ℕ) (calls : List Call) → (HasFailed calls → ⊥) → HasFailed (got which bytes ∷ calls) → ⊥
held-got which bytes calls held (inl failed) = failed
held-got which bytes calls held (inr failed) = held failed

-- reads that stop for another fault than a failed store's didn't fail
stopped-held : (whiches : List Which) (calls : List Call) (fault : Fault) → StopsReading whiches calls fault → (fault ≡ StoreFailed) ⊎ (HasFailed calls → ⊥)
stopped-held [] [] fault stops = absurd stops
stopped-held [] (call ∷ calls) fault stops = absurd stops
stopped-held (which ∷ rest) [] fault stops = absurd stops
stopped-held (which ∷ rest) (call ∷ calls) fault (inl stops) = inr (rw (stops.0, stops.1) (held-lacked which))
stopped-held (which ∷ rest) (call ∷ calls) fault (inr (inl stops)) = inl stops.2
stopped-held (which ∷ rest) (call ∷ calls) fault (inr (inr stops)) =
    elim (stopped-held rest calls fault stops.2) [ inl failed ↦ inl failed | inr held ↦ inr (rw stops.1 (held-got which stops.0 calls held)) ]

pub left-stopped : (c : Contents) (whiches : List Which) (calls : List Call) (fault : Fault) → StopsReading whiches calls fault → left_by_all c calls ≡ c
left-stopped c [] [] fault stops = refl
left-stopped c [] (call ∷ calls) fault stops = absurd stops
left-stopped c (which ∷ rest) [] fault stops = refl
left-stopped c (which ∷ rest) (call ∷ calls) fault (inl stops) = rw (stops.0, stops.1) refl
left-stopped c (which ∷ rest) (call ∷ calls) fault (inr (inl stops)) = rw (stops.0, stops.1) refl
left-stopped c (which ∷ rest) (call ∷ calls) fault (inr (inr stops)) = rw stops.1 (left-stopped c rest calls fault stops.2)

pub cut-failed : (writes : List Write) (calls : List Call) → StopsWriting writes calls → HasFailed calls
cut-failed [] calls stops = absurd stops
cut-failed (w ∷ writes) calls (k, le, e) = subst HasFailed (sym e) (inl tt)

-- where their call fails, the first of the writes are there and the others are not
pub cut_left : (c : Contents) (writes : List Write) (calls : List Call) → StopsWriting writes calls → (k : ℕ) × (left_by_all c calls ≡ written c (take k writes))
cut_left c [] calls stops = absurd stops
cut_left c (w ∷ writes) calls (k, le, e) = (k, ap (left_by_all c) e)

-- what is asked for is no change
abbrev pub IsNoChange : Asked → Type 0
IsNoChange (changing change) = ⊥
IsNoChange _ = Unit {0}

look-no_change : (look : Look) → IsNoChange (look_of look)
look-no_change (Show pick form collapse) = tt
look-no_change (Info record_type form) = tt
look-no_change Check = tt
look-no_change History = tt
look-no_change (Diff number style) = tt
look-no_change (Log style) = tt

request-no_change : (request : Request) → (IsChange request → ⊥) → IsNoChange (asked_of request)
request-no_change (Looks look) none = look-no_change look
request-no_change (Changes change) none = absurd (none tt)
request-no_change (Previews change style) none = tt

-- so it has no writes
pub writes_nothing : (c : Contents) (asked : Asked) (o : Outcome) → IsNoChange asked → IsRequestOutcome c asked (Ok o) → o.writes ≡ []
writes_nothing c (looking IsText) o nothing is = ap (λ (x : Outcome). x.writes) is.2
writes_nothing c listing o nothing (inl refused) = let e = refused.2 in cc
writes_nothing c listing o nothing (inr listed) = ap (λ (x : Outcome). x.writes) (same_value o _ listed.2)
writes_nothing c (changing change) o nothing is = absurd nothing
writes_nothing c (showing number style) o nothing is = ap (λ (x : Outcome). x.writes) is.2
writes_nothing c (listing_changes style) o nothing is = ap (λ (x : Outcome). x.writes) is.2
writes_nothing c (previewing style change) o nothing is = is.2.writes

none-written : (o : Outcome) (answer : Answer) (calls : List Call) → o.writes ≡ [] → IsAnswered o answer calls → calls ≡ []
none-written o answer calls none (inl put) = put.1 ∙ ap puts none
none-written o answer calls none (inr stopped) = absurd (subst (λ writes. StopsWriting writes calls) none stopped.1)

-- ---- from what was done on contents

module _ (c : Contents) (asked : Asked) (calls : List Call) (p : Printed) where
  -- the answer is that a store failed, or no failure was met
  abbrev pub Kept : Answer → Type 0
  Kept answer = (answer ≡ Err StoreFailed) ⊎ ((HasFailed calls → ⊥) × (p.after ≡ p.before))

  gots-held : calls ≡ gots c (reads_of asked) → HasFailed calls → ⊥
  gots-held read failed = no_failure-gots c (reads_of asked) (subst HasFailed read failed)

  unread-kept : (answer : Answer) → IsUnread c asked answer calls p → Kept answer
  unread-kept answer done =
      elim (stopped-held (reads_of asked) calls done.fault done.stops) [
        | inl failed ↦ inl (done.answered ∙ ap Err failed)
        | inr held ↦ inr (held, done.silent.1)
      ]

  carried-kept : (answer : Answer) → (done : IsCarriedOut c asked answer calls p) → IsAnswered done.o answer done.following → Kept answer
  carried-kept answer done (inl put) = inr (
    λ failed.
        elim (HasFailed-parts (gots c (reads_of asked)) done.following (subst HasFailed done.calls_are failed)) [
          | inl first ↦ no_failure-gots c (reads_of asked) first
          | inr rest ↦ no_failure-puts done.o.writes (subst HasFailed put.1 rest)
        ],
    done.kept,
  )
  carried-kept answer done (inr stopped) = inl stopped.0

  pub does-kept : (answer : Answer) → Does c asked answer calls p → Kept answer
  does-kept answer (inl done) = unread-kept answer done
  does-kept answer (inr (inl done)) = inr (gots-held done.read, done.kept)
  does-kept answer (inr (inr (inl done))) = inr (gots-held done.read, done.silent.1)
  does-kept answer (inr (inr (inr (inl done)))) = inl done.answered
  does-kept answer (inr (inr (inr (inr done)))) = carried-kept answer done done.answered

  failed-answered : (o : Outcome) (fault : Fault) (later : List Call) → IsAnswered o (Err fault) later → (fault ≡ StoreFailed) × HasFailed later
  failed-answered o fault later (inl put) = let e = put.0 in cc
  failed-answered o fault later (inr stopped) = (same_fault _ _ stopped.0, cut-failed o.writes later stopped.1)

  carried-failed : (fault : Fault) → IsCarriedOut c asked (Err fault) calls p → (fault ≡ StoreFailed) × HasFailed calls
  carried-failed fault done =
      let failed = failed-answered done.o fault done.following done.answered in
      (failed.0, subst HasFailed (sym done.calls_are) (HasFailed-rest (gots c (reads_of asked)) done.following failed.1))

  unread-failed : IsUnread c asked (Err StoreFailed) calls p → HasFailed calls
  unread-failed done =
      elim (stopped-failed (reads_of asked) calls done.fault done.stops) [ inl short ↦ (let e = done.answered in cc) | inr failed ↦ failed.1 ]

  -- a store failed in a call, or the sink did
  pub does-store_failed : (IsRequestOutcome c asked (Err StoreFailed) → ⊥) → Does c asked (Err StoreFailed) calls p → HasFailed calls ⊎ HasRisen p.before p.after
  does-store_failed never (inl done) = inl (unread-failed done)
  does-store_failed never (inr (inl done)) = let e = done.answered in cc
  does-store_failed never (inr (inr (inl done))) = absurd (never (subst (λ f. IsRequestOutcome c asked (Err f)) (sym (same_fault _ _ done.answered)) done.outcome))
  does-store_failed never (inr (inr (inr (inl done)))) = inr done.risen
  does-store_failed never (inr (inr (inr (inr done)))) = inl (carried-failed StoreFailed done).1

  pub gots-left : calls ≡ gots c (reads_of asked) → left_by_all c calls ≡ c
  gots-left read = ap (left_by_all c) read ∙ left-gots c (reads_of asked)

  -- after any other refusal the contents are as before
  pub does-unchanged : (fault : Fault) → Does c asked (Err fault) calls p → (fault ≡ StoreFailed) ⊎ (left_by_all c calls ≡ c)
  does-unchanged fault (inl done) = inr (left-stopped c (reads_of asked) calls done.fault done.stops)
  does-unchanged fault (inr (inl done)) = inr (gots-left done.read)
  does-unchanged fault (inr (inr (inl done))) = inr (gots-left done.read)
  does-unchanged fault (inr (inr (inr (inl done)))) = inr (gots-left done.read)
  does-unchanged fault (inr (inr (inr (inr done)))) = inl (carried-failed fault done).0

  -- what is left after an outcome's calls
  pub left-carried : (later : List Call) → calls ≡ gots c (reads_of asked) ++ later → left_by_all c calls ≡ left_by_all c later
  left-carried later e =
      ap (left_by_all c) e ∙ left_by_all-append c (gots c (reads_of asked)) later ∙ ap (λ d. left_by_all d later) (left-gots c (reads_of asked))

  -- where a store failed they are, or a write was cut short
  pub does-stopped : Does c asked (Err StoreFailed) calls p → (left_by_all c calls ≡ c) ⊎ IsCutShort c asked (Some (left_by_all c calls))
  does-stopped (inl done) = inl (left-stopped c (reads_of asked) calls done.fault done.stops)
  does-stopped (inr (inl done)) = inl (gots-left done.read)
  does-stopped (inr (inr (inl done))) = inl (gots-left done.read)
  does-stopped (inr (inr (inr (inl done)))) = inl (gots-left done.read)
  does-stopped (inr (inr (inr (inr done)))) =
      elim done.answered [
        | inl put ↦ (let e = put.0 in cc)
        | inr stopped ↦
            let cut = cut_left c done.o.writes done.following stopped.1 in
            inr (done.o, cut.0, done.outcome, ap Some (left-carried done.following done.calls_are ∙ cut.1))
      ]

  -- so they are after what is no change
  pub does-looks : (answer : Answer) → IsNoChange asked → Does c asked answer calls p → left_by_all c calls ≡ c
  does-looks answer nothing (inl done) = left-stopped c (reads_of asked) calls done.fault done.stops
  does-looks answer nothing (inr (inl done)) = gots-left done.read
  does-looks answer nothing (inr (inr (inl done))) = gots-left done.read
  does-looks answer nothing (inr (inr (inr (inl done)))) = gots-left done.read
  does-looks answer nothing (inr (inr (inr (inr done)))) =
      left-carried done.following done.calls_are
      ∙ ap (left_by_all c) (none-written done.o answer done.following (writes_nothing c asked done.o nothing done.outcome) done.answered)

-- ---- on contents that may be told

unchanged-told : (old new : Option Contents) (asked : Asked) (answer : Answer) (calls : List Call) (p : Printed) → Follows old calls new
    → ((c : Contents) → TellAll c calls → Does c asked answer calls p)
    → IfSome old (λ c. IfErr answer (λ fault. (fault ≡ StoreFailed) ⊎ (new ≡ Some c)))
unchanged-told None new asked answer calls p follow does = tt
unchanged-told (Some c) new asked (Ok reply) calls p follow does = tt
unchanged-told (Some c) new asked (Err fault) calls p follow does =
    elim (does-unchanged c asked calls p fault (does c follow.0)) [ inl e ↦ inl e | inr same ↦ inr (follow.1 ∙ ap Some same) ]

stopped-told : (old new : Option Contents) (asked : Asked) (answer : Answer) (calls : List Call) (p : Printed) → Follows old calls new
    → ((c : Contents) → TellAll c calls → Does c asked answer calls p)
    → IfSome old (λ c. answer ≡ Err StoreFailed → (new ≡ Some c) ⊎ IsCutShort c asked new)
stopped-told None new asked answer calls p follow does = tt
stopped-told (Some c) new asked answer calls p follow does = λ e.
    elim (does-stopped c asked calls p (subst (λ a. Does c asked a calls p) e (does c follow.0))) [
      | inl same ↦ inl (follow.1 ∙ ap Some same)
      | inr cut ↦ inr (subst (IsCutShort c asked) (sym follow.1) cut)
    ]

looks-told : (old new : Option Contents) (request : Request) (answer : Answer) (calls : List Call) (p : Printed) → Follows old calls new
    → ((c : Contents) → TellAll c calls → Does c (asked_of request) answer calls p)
    → IfSome old (λ c. (IsChange request → ⊥) → new ≡ Some c)
looks-told None new request answer calls p follow does = tt
looks-told (Some c) new request answer calls p follow does =
    λ none. follow.1 ∙ ap Some (does-looks c (asked_of request) calls p answer (request-no_change request none) (does c follow.0))

-- ---- from what was attempted

module _ {H S : Type 0} (goes : H → Call → H → Type 0) (told : S → Option (List ℕ)) (sink_failures : S → ℕ) where
  module _ (failures : H → ℕ) (counts : (old new : H) (call : Call) → goes old call new → CountsFailure (failures old) call (failures new)) where
    pub attempted-kept : (old new : H) (out out_new : S) (asked : Asked) (answer : Answer) → Attempted goes told sink_failures old new out out_new asked answer
        → (answer ≡ Err StoreFailed) ⊎ ((failures new ≡ failures old) × (sink_failures out_new ≡ sink_failures out))
    attempted-kept old new out out_new asked answer (calls, p, went_out, (went, tells, does)) =
        elim (does-kept tells.0 asked calls p answer (does tells.0 tells.1)) [
          | inl failed ↦ inl failed
          | inr kept ↦ inr (failures_stay goes failures counts old new calls went kept.0, sym went_out.2 ∙ kept.1 ∙ went_out.1)
        ]

    pub attempted-store_failed : (old new : H) (out out_new : S) (request : Request) (answer : Answer)
        → Attempted goes told sink_failures old new out out_new (asked_of request) answer → answer ≡ Err StoreFailed
        → HasRisen (failures old) (failures new) ⊎ HasRisen (sink_failures out) (sink_failures out_new)
    attempted-store_failed old new out out_new request answer (calls, p, went_out, (went, tells, does)) e =
        let failed : Does tells.0 (asked_of request) (Err StoreFailed) calls p =
        subst (λ a. Does tells.0 (asked_of request) a calls p) e (does tells.0 tells.1) in
        elim (does-store_failed tells.0 (asked_of request) calls p (never_store request tells.0) failed) [
          | inl home ↦ inl (failures_rise goes failures counts old new calls went home)
          | inr sink ↦ inr (subst (λ n. HasRisen n (sink_failures out_new)) went_out.1 (subst (λ m. HasRisen p.before m) went_out.2 sink))
        ]

  module _ (contents : H → Option Contents)
      (follows : (old new : H) (call : Call) → goes old call new → IfSome (contents old) (λ c. TellsOf c call × (contents new ≡ Some (left_by c call)))) where
    pub attempted-unchanged : (old new : H) (out out_new : S) (asked : Asked) (answer : Answer) → Attempted goes told sink_failures old new out out_new asked answer
        → IfSome (contents old) (λ c. IfErr answer (λ fault. (fault ≡ StoreFailed) ⊎ (contents new ≡ Some c)))
    attempted-unchanged old new out out_new asked answer (calls, p, went_out, (went, tells, does)) =
        unchanged-told (contents old) (contents new) asked answer calls p (contents_follow goes contents follows old new calls went) does

    pub attempted-looks : (old new : H) (out out_new : S) (request : Request) (answer : Answer) → Attempted goes told sink_failures old new out out_new (asked_of request) answer
        → IfSome (contents old) (λ c. (IsChange request → ⊥) → contents new ≡ Some c)
    attempted-looks old new out out_new request answer (calls, p, went_out, (went, tells, does)) =
        looks-told (contents old) (contents new) request answer calls p (contents_follow goes contents follows old new calls went) does

    pub attempted-stopped : (old new : H) (out out_new : S) (asked : Asked) (answer : Answer) → Attempted goes told sink_failures old new out out_new asked answer
        → IfSome (contents old) (λ c. answer ≡ Err StoreFailed → (contents new ≡ Some c) ⊎ IsCutShort c asked (contents new))
    attempted-stopped old new out out_new asked answer (calls, p, went_out, (went, tells, does)) =
        stopped-told (contents old) (contents new) asked answer calls p (contents_follow goes contents follows old new calls went) does
