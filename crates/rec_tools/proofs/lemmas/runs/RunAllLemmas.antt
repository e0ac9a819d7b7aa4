-- Requests one after another: what was done so far goes on by one request.
use Rattle.std.proofs.Common.{◌≡◌, ℕ, ◌+◌, ◌<◌, ◌≤◌, List, [], ◌∷◌, ◌++◌, length, take, get_or, Option, Some, None, append_assoc, append-nil, sym, ap, subst, refl, ◌∙◌, arith}
use Rattle.std.specs.Prelude.{IfSome}
use Rattle.std.specs.List.{AllByRecursion}
use Rattle.std.proofs.KnownBytes.{Appends-trans}
use Rattle.std.proofs.lemmas.List.{take_more, take_all}
use Rattle.std.proofs.lemmas.List.Elements.{All-from_recursion}
use Rattle.rec_journal.specs.History.{IsRegular}
use Rattle.rec_tools.specs.declared.request.Request.{Request}
use Rattle.rec_tools.specs.Home.{Contents, Call, left_by, left_by_all, TellsOf, HasFailed, Went, WentOn}
use Rattle.rec_tools.specs.Printouts.{Printed, WentOut, IsBoth, IsSilence}
use Rattle.rec_tools.specs.Requests.{asked_of, IsChange}
use Rattle.rec_tools.specs.Attempts.{Answer, Attempts, AttemptsAll}
use Rattle.rec_tools.specs.Stands.{Stands}
use Rattle.rec_tools.specs.States.{State}
use Rattle.rec_tools.specs.Guarantee.{RunsAsMachine}
use Rattle.rec_tools.proofs.lemmas.calls.CallLemmas.{Follows, went_on, contents_follow}
use Rattle.rec_tools.proofs.lemmas.calls.ExitLemmas.{Attempted, silence, went_silently}
use Rattle.rec_tools.proofs.lemmas.runs.GuaranteeLemmas.{attempts_all-runs, attempts_all-fails}

-- ---- what went out, one after another

-- the one, and then the other
abbrev pub both : Printed → Printed → Printed
both first rest = record { text = first.text ++ rest.text; before = first.before; after = rest.after }

pub IsBoth-silence_first : (p none next : Printed) → IsBoth p none next → IsSilence none → next.before ≤ next.after → IsBoth p next (silence next.after)
IsBoth-silence_first p none next h nothing le =
    (h.0 ∙ ap (λ t. t ++ next.text) nothing.0 ∙ sym (append-nil next.text), h.2 ∙ nothing.1 ∙ h.1, refl, h.3, le)

pub both-is : (first rest : Printed) → first.before ≤ first.after → rest.before ≡ first.after → IsBoth (both first rest) first rest
both-is first rest le e = (refl, refl, e, refl, le)

-- `some` and `most` are what went out so far, and then `next`
pub IsBoth-regrouped : (p so_far next some most : Printed) → IsBoth p so_far next → IsBoth so_far some most → IsBoth p some (both most next)
IsBoth-regrouped p so_far next some most h parts =
    (h.0 ∙ ap (λ t. t ++ next.text) parts.0 ∙ append_assoc some.text most.text next.text, parts.1 ∙ h.1, parts.2, h.3, parts.4)

module _ {H : Type 0} (goes : H → Call → H → Type 0) where
  AttemptsAll-counted : (old new : H) (requests : List Request) (answers : List Answer) (calls : List Call) (p : Printed) → AttemptsAll goes old new requests answers calls p → p.before ≤ p.after
  AttemptsAll-counted old new [] [] calls p done = omega (arith, done.2.1)
  AttemptsAll-counted old new (request ∷ requests) (answer ∷ answers) calls p (mid, now, later, first, rest, are, parts, tried, tried_later) =
      let le = AttemptsAll-counted mid new requests answers later rest tried_later in
      omega (arith, le, parts.1, parts.2, parts.3, parts.4)
  AttemptsAll-counted old new [] (answer ∷ answers) calls p done = absurd done
  AttemptsAll-counted old new (request ∷ requests) [] calls p done = absurd done

  -- the calls of all
  pub AttemptsAll-went : (old new : H) (requests : List Request) (answers : List Answer) (calls : List Call) (p : Printed) → AttemptsAll goes old new requests answers calls p → Went goes old calls new
  AttemptsAll-went old new [] [] calls p done = subst (λ made. Went goes old made new) (sym done.1) done.0
  AttemptsAll-went old new (request ∷ requests) (answer ∷ answers) calls p (mid, now, later, first, rest, are, parts, tried, tried_later) =
      subst (λ made. Went goes old made new) (sym are) (went_on goes old mid new now later tried.0 (AttemptsAll-went mid new requests answers later rest tried_later))
  AttemptsAll-went old new [] (answer ∷ answers) calls p done = absurd done
  AttemptsAll-went old new (request ∷ requests) [] calls p done = absurd done

  -- ---- one more request

  pub AttemptsAll-more : (old home new : H) (requests : List Request) (answers : List Answer) (calls : List Call) (request : Request) (answer : Answer) (now : List Call) (p so_far next : Printed)
      → IsBoth p so_far next → next.before ≤ next.after → AttemptsAll goes old home requests answers calls so_far → Attempts goes home new (asked_of request) answer now next
      → AttemptsAll goes old new (requests ++ request ∷ []) (answers ++ answer ∷ []) (calls ++ now) p
  AttemptsAll-more old home new [] [] calls request answer now p so_far next parts le done tried =
      let here : Attempts goes old new (asked_of request) answer now next = subst (λ h. Attempts goes h new (asked_of request) answer now next) done.0 tried in
      let whole : calls ++ now ≡ now ++ [] = ap (λ made. made ++ now) done.1 ∙ sym (append-nil now) in
      (new, now, [], next, silence next.after, whole, IsBoth-silence_first p so_far next parts done.2 le, here, (refl, refl, (refl, refl)))
  AttemptsAll-more old home new (r ∷ requests) (a ∷ answers) calls request answer now p so_far next parts le (mid, made, later, first, rest, are, first_parts, tried_first, tried_later) tried =
      let counted : rest.before ≤ rest.after = AttemptsAll-counted mid home requests answers later rest tried_later in
      let meet : next.before ≡ rest.after = parts.2 ∙ sym first_parts.3 in
      let whole : calls ++ now ≡ made ++ (later ++ now) = ap (λ all. all ++ now) are ∙ append_assoc made later now in (
        mid,
        made,
        later ++ now,
        first,
        both rest next,
        whole,
        IsBoth-regrouped p so_far next first rest parts first_parts,
        tried_first,
        AttemptsAll-more mid home new requests answers later request answer now (both rest next) rest next (both-is rest next counted meet) le tried_later tried,
      )
  AttemptsAll-more old home new [] (a ∷ answers) calls request answer now p so_far next parts le done tried = absurd done
  AttemptsAll-more old home new (r ∷ requests) [] calls request answer now p so_far next parts le done tried = absurd done

-- ---- on a home and a sink

-- by some calls of the home the requests were done, each with its answer, and this went out of the sink
abbrev pub AttemptedAll : {H S : Type 0} → (H → Call → H → Type 0) → (S → Option (List ℕ)) → (S → ℕ) → H → H → S → S → List Request → List Answer → Type 0
AttemptedAll goes told failures old new out out_new requests answers =
    (calls : List Call) × (p : Printed) × WentOut told failures out out_new p × AttemptsAll goes old new requests answers calls p

-- the counts of a sink never fell
module _ {S : Type 0} (told : S → Option (List ℕ)) (sink_failures : S → ℕ) (out mid out_new : S) (first_counted : sink_failures out ≤ sink_failures mid)
    (then_counted : sink_failures mid ≤ sink_failures out_new) where
  pub went_out-both : (first rest : Printed) → WentOut told sink_failures out mid first → WentOut told sink_failures mid out_new rest → WentOut told sink_failures out out_new (both first rest)
  went_out-both first rest h then = (Appends-trans (told out) (told mid) (told out_new) first.text rest.text h.0 then.0, h.1, then.2)

  pub are_both : (first rest : Printed) → WentOut told sink_failures out mid first → WentOut told sink_failures mid out_new rest → IsBoth (both first rest) first rest
  are_both first rest h then = both-is first rest (omega (arith, first_counted, h.1, h.2)) (then.1 ∙ sym h.2)

  pub rest_counted : (rest : Printed) → WentOut told sink_failures mid out_new rest → rest.before ≤ rest.after
  rest_counted rest then = omega (arith, then_counted, then.1, then.2)

module _ {H S : Type 0} (goes : H → Call → H → Type 0) (told : S → Option (List ℕ)) (sink_failures : S → ℕ) where
  pub attempted_all-none : (home : H) (out : S) → AttemptedAll goes told sink_failures home home out out [] []
  attempted_all-none home out = ([], silence (sink_failures out), went_silently told sink_failures out, (refl, refl, (refl, refl)))

  -- the counts of the sink never fell
  module _ (out mid out_new : S) (first_counted : sink_failures out ≤ sink_failures mid) (then_counted : sink_failures mid ≤ sink_failures out_new) where
    pub attempted_all-more : (old home new : H) (requests : List Request) (answers : List Answer) (request : Request) (answer : Answer)
        → AttemptedAll goes told sink_failures old home out mid requests answers → Attempted goes told sink_failures home new mid out_new (asked_of request) answer
        → AttemptedAll goes told sink_failures old new out out_new (requests ++ request ∷ []) (answers ++ answer ∷ [])
    attempted_all-more old home new requests answers request answer (calls, p, went_out, done) (now, next, next_out, tried) = (
      calls ++ now,
      both p next,
      went_out-both told sink_failures out mid out_new first_counted then_counted p next went_out next_out,
      AttemptsAll-more goes old home new requests answers calls request answer now (both p next) p next
          (are_both told sink_failures out mid out_new first_counted then_counted p next went_out next_out)
          (rest_counted told sink_failures out mid out_new first_counted then_counted next next_out) done tried,
    )

  -- ---- the machine

  -- from contents that stand for a state, while the home tells them, the requests ran as the machine where none of their calls failed
  abbrev pub RanAsMachine : (H → Option Contents) → Option Contents → H → H → S → S → List Request → List Answer → Type 0
  RanAsMachine contents known old new out out_new requests answers = IfSome known (λ c. (s : State) → Stands c s →
      (calls : List Call) × (p : Printed) × WentOut told sink_failures out out_new p × WentOn goes contents c old calls new
      × ((HasFailed calls → ⊥) → (t : State) × RunsAsMachine asked_of c s requests answers calls p t))

  ran_told : (contents : H → Option Contents) (known : Option Contents) (old new : H) (out out_new : S) (requests : List Request) (answers : List Answer)
      → (done : AttemptedAll goes told sink_failures old new out out_new requests answers) → Follows known done.0 (contents new)
      → RanAsMachine contents known old new out out_new requests answers
  ran_told contents None old new out out_new requests answers done follow = tt
  ran_told contents (Some c) old new out out_new requests answers (calls, p, went_out, done) follow = λ s stands.
      (calls, p, went_out, (AttemptsAll-went goes old new requests answers calls p done, follow.1), λ held. attempts_all-runs goes old new c s requests answers calls p stands held follow.0 done)

  -- the same whatever fails, from a regular journal, which stays so
  abbrev pub RanWithFailures : (H → Option Contents) → Option Contents → H → H → S → S → List Request → List Answer → Type 0
  RanWithFailures contents known old new out out_new requests answers = IfSome known (λ c. (s : State) → Stands c s → IsRegular c.journal →
      (calls : List Call) × (p : Printed) × (t : State) × WentOut told sink_failures out out_new p × WentOn goes contents c old calls new
      × RunsAsMachine asked_of c s requests answers calls p t × IsRegular (left_by_all c calls).journal)

  failed_told : (contents : H → Option Contents) (known : Option Contents) (old new : H) (out out_new : S) (requests : List Request) (answers : List Answer)
      → (done : AttemptedAll goes told sink_failures old new out out_new requests answers) → Follows known done.0 (contents new)
      → RanWithFailures contents known old new out out_new requests answers
  failed_told contents None old new out out_new requests answers done follow = tt
  failed_told contents (Some c) old new out out_new requests answers (calls, p, went_out, done) follow = λ s stands regular.
      let ran = attempts_all-fails goes old new c s requests answers calls p stands regular follow.0 done in
      (calls, p, ran.0, went_out, (AttemptsAll-went goes old new requests answers calls p done, follow.1), ran.1, ran.2)

  module _ (contents : H → Option Contents)
      (follows : (old new : H) (call : Call) → goes old call new → IfSome (contents old) (λ c. TellsOf c call × (contents new ≡ Some (left_by c call)))) where
    pub attempted_all-fails : (old new : H) (out out_new : S) (requests : List Request) (answers : List Answer)
        → AttemptedAll goes told sink_failures old new out out_new requests answers → RanWithFailures contents (contents old) old new out out_new requests answers
    attempted_all-fails old new out out_new requests answers done =
        failed_told contents (contents old) old new out out_new requests answers done
        (contents_follow goes contents follows old new done.0 (AttemptsAll-went goes old new requests answers done.0 done.1 done.3))

  pub attempted_all-runs : (contents : H → Option Contents)
      → ((old new : H) (call : Call) → goes old call new → IfSome (contents old) (λ c. TellsOf c call × (contents new ≡ Some (left_by c call))))
      → (old new : H) (out out_new : S) (requests : List Request) (answers : List Answer)
      → AttemptedAll goes told sink_failures old new out out_new requests answers → RanAsMachine contents (contents old) old new out out_new requests answers
  attempted_all-runs contents follows old new out out_new requests answers done =
      ran_told contents (contents old) old new out out_new requests answers done
      (contents_follow goes contents follows old new done.0 (AttemptsAll-went goes old new requests answers done.0 done.1 done.3))

-- ---- each request is a change

pub change_at : (requests : List Request) (i : ℕ) (request : Request) → i < length requests → request ≡ get_or requests i request → AllByRecursion IsChange requests → IsChange request
change_at requests i request lt is all = subst IsChange (sym is) (All-from_recursion IsChange requests all i request lt)

-- ---- the requests so far, and all of them

pub take_one_more : (requests : List Request) (i : ℕ) (request : Request) → i < length requests → request ≡ get_or requests i request
    → take (i + 1) requests ≡ take i requests ++ request ∷ []
take_one_more requests i request lt is = take_more requests i request lt ∙ ap (λ r. take i requests ++ r ∷ []) (sym is)

pub take_them_all : (requests : List Request) (i : ℕ) (P : List Request → Type 0) → length requests ≤ i → P (take i requests) → P requests
take_them_all requests i P le h = subst P (take_all i requests le) h
