-- Moves through the edit of a number, one after another: the answers so far, and what is told of them at the end.
use Rattle.std.proofs.Common.{◌≡◌, ◌∙◌, ℕ, ◌-◌, ◌<◌, ◌^◌, true, false, Option, Some, None, List, [], ◌∷◌, ◌++◌, length, length-append, replicate, reverse, append-nil, ap, sym, subst, refl}
use Rattle.std.proofs.Common.{arith}
use Rattle.std.specs.Prelude.{IfSome, slice_get, nat_lt}
use Rattle.std.specs.List.{cons_option}
use Rattle.std.specs.Option.{option_or}
use Rattle.std.proofs.lemmas.Bool.{false≢true, ltb-true, and_parts}
use Rattle.std.proofs.lemmas.List.{replicate_more, reverse-append}
use Rattle.std.proofs.lemmas.List.Elements.{filter_map-append}
use Rattle.rec_journal.specs.declared.patch.Direction.{Direction}
use Rattle.rec_journal.specs.declared.patch.Direction.TheVariants.{Forward, Backward}
use Rattle.rec_journal.specs.History.{IsRegular}
use Rattle.rec_tools.specs.declared.request.Request.{Request}
use Rattle.rec_tools.specs.declared.request.Request.TheVariants.{Change as Changes}
use Rattle.rec_tools.specs.declared.through.Through.{Through}
use Rattle.rec_tools.specs.Home.{Contents, Call, left_by, left_by_all, TellsOf, HasFailed, Went, WentOn}
use Rattle.rec_tools.specs.Printouts.{Printed, IsSilence}
use Rattle.rec_tools.specs.Requests.{change_of, asked_of}
use Rattle.rec_tools.specs.Asked.{changing}
use Rattle.rec_tools.specs.Attempts.{Answer, AttemptsAll}
use Rattle.rec_tools.specs.Stands.{Stands}
use Rattle.rec_tools.specs.States.{State}
use Rattle.rec_tools.specs.Guarantee.{RunsAsMachine}
use Rattle.rec_tools.specs.Through.{move_through, moves_through, moved_by, leads_on, LeadThrough, all_moved, EndsThrough}
use Rattle.rec_tools.specs.proving.Moving.{GoesThrough}
use Rattle.rec_tools.specs.proving.Silently.{DoesSilently}
use Rattle.rec_tools.proofs.lemmas.calls.CallLemmas.{Follows, contents_follow}
use Rattle.rec_tools.proofs.lemmas.calls.ExitLemmas.{silence}
use Rattle.rec_tools.proofs.lemmas.runs.GuaranteeLemmas.{attempts_all-runs, attempts_all-fails}
use Rattle.rec_tools.proofs.lemmas.runs.RunAllLemmas.{AttemptsAll-went, AttemptsAll-more}

-- ---- answers that lead on

-- the last edit that was moved, after these answers
abbrev pub led_to : Option ℕ → List Answer → Option ℕ
led_to last [] = last
led_to last (answer ∷ answers) = led_to (moved_by answer) answers

led_to-more : (last : Option ℕ) (answers : List Answer) (answer : Answer) → led_to last (answers ++ answer ∷ []) ≡ moved_by answer
led_to-more last [] answer = refl
led_to-more last (a ∷ answers) answer = led_to-more (moved_by a) answers answer

module _ (direction : Direction) (number : ℕ) where
  -- each of them does
  abbrev pub AllLeadOn : Option ℕ → List Answer → Type 0
  AllLeadOn last [] = Unit {0}
  AllLeadOn last (answer ∷ answers) = (leads_on direction number last (moved_by answer) ≡ true) × AllLeadOn (moved_by answer) answers

  AllLeadOn-more : (last : Option ℕ) (answers : List Answer) (answer : Answer) → AllLeadOn last answers
      → leads_on direction number (led_to last answers) (moved_by answer) ≡ true → AllLeadOn last (answers ++ answer ∷ [])
  AllLeadOn-more last [] answer led leads = (leads, tt)
  AllLeadOn-more last (a ∷ answers) answer led leads = (led.0, AllLeadOn-more (moved_by a) answers answer led.1 leads)

  LeadThrough-end : (last : Option ℕ) (answers : List Answer) (answer : Answer) → AllLeadOn last answers
      → leads_on direction number (led_to last answers) (moved_by answer) ≡ false → LeadThrough direction number last (answers ++ answer ∷ [])
  LeadThrough-end last [] answer led ends = ends
  LeadThrough-end last (a ∷ []) answer led ends = (led.0, ends)
  LeadThrough-end last (a ∷ (b ∷ answers)) answer led ends = (led.0, LeadThrough-end (moved_by a) (b ∷ answers) answer led.1 ends)

-- ---- the first and the last edit that was moved

first_of_more : (numbers : List ℕ) (moved : Option ℕ) → option_or (slice_get numbers 0) moved ≡ slice_get (numbers ++ cons_option moved []) 0
first_of_more [] None = refl
first_of_more [] (Some n) = refl
first_of_more (m ∷ numbers) moved = refl

last_of_more : (numbers : List ℕ) (moved : Option ℕ) → option_or moved (slice_get (reverse numbers) 0) ≡ slice_get (reverse (numbers ++ cons_option moved [])) 0
last_of_more numbers None = ap (λ ns. slice_get (reverse ns) 0) (sym (append-nil numbers))
last_of_more numbers (Some n) = ap (λ ns. slice_get ns 0) (sym (reverse-append numbers (n ∷ [])))

module _ (answers : List Answer) (answer : Answer) where
  all_moved-more : all_moved (answers ++ answer ∷ []) ≡ all_moved answers ++ cons_option (moved_by answer) []
  all_moved-more = filter_map-append moved_by answers (answer ∷ [])

  first_more : option_or (slice_get (all_moved answers) 0) (moved_by answer) ≡ slice_get (all_moved (answers ++ answer ∷ [])) 0
  first_more = first_of_more (all_moved answers) (moved_by answer) ∙ ap (λ ns. slice_get ns 0) (sym all_moved-more)

  last_more : option_or (moved_by answer) (slice_get (reverse (all_moved answers)) 0) ≡ slice_get (reverse (all_moved (answers ++ answer ∷ []))) 0
  last_more = last_of_more (all_moved answers) (moved_by answer) ∙ ap (λ ns. slice_get (reverse ns) 0) (sym all_moved-more)

  last_answer : Some answer ≡ slice_get (reverse (answers ++ answer ∷ [])) 0
  last_answer = ap (λ (all : List Answer). slice_get all 0) (sym (reverse-append answers (answer ∷ [])))

  replicate_one_more : (request : Request) → replicate (length answers) request ++ request ∷ [] ≡ replicate (length (answers ++ answer ∷ [])) request
  replicate_one_more request = replicate_more (length answers) request ∙ ap (λ n. replicate n request) (sym (length-append answers (answer ∷ [])))

-- the last edit that was moved is that of the last answer, where it leads on
led-last : (direction : Direction) (number : ℕ) (last moved : Option ℕ) → leads_on direction number last moved ≡ true → option_or moved last ≡ moved
led-last direction number last None leads = absurd (false≢true leads)
led-last direction number last (Some n) leads = refl

-- ---- answers that led on so far, and one more

-- each led on, and this is the first and the last edit that was moved
pub record HaveLed (direction : Direction) (number : ℕ) (answers : List Answer) (first last : Option ℕ) : Type 0 where
  pub led : AllLeadOn direction number None answers
  pub to : last ≡ led_to None answers
  pub first_is : first ≡ slice_get (all_moved answers) 0
  pub last_is : last ≡ slice_get (reverse (all_moved answers)) 0

pub none_led : (direction : Direction) (number : ℕ) → HaveLed direction number [] None None
none_led direction number = record { led = tt; to = refl; first_is = refl; last_is = refl }

module _ (direction : Direction) (number : ℕ) (answers : List Answer) (first last moved : Option ℕ) (answer : Answer)
    (so_far : HaveLed direction number answers first last) (is : moved ≡ moved_by answer) where
  the_first : option_or first moved ≡ slice_get (all_moved (answers ++ answer ∷ [])) 0
  the_first = ap (λ f. option_or f moved) so_far.first_is ∙ ap (option_or (slice_get (all_moved answers) 0)) is ∙ first_more answers answer

  the_last : option_or moved last ≡ slice_get (reverse (all_moved (answers ++ answer ∷ []))) 0
  the_last = ap (option_or moved) so_far.last_is ∙ ap (λ m. option_or m (slice_get (reverse (all_moved answers)) 0)) is ∙ last_more answers answer

  leads_here : leads_on direction number last moved ≡ leads_on direction number (led_to None answers) (moved_by answer)
  leads_here = ap (λ l. leads_on direction number l moved) so_far.to ∙ ap (leads_on direction number (led_to None answers)) is

  pub led_more : leads_on direction number last moved ≡ true → HaveLed direction number (answers ++ answer ∷ []) (option_or first moved) (option_or moved last)
  led_more leads = record {
    led = AllLeadOn-more direction number None answers answer so_far.led (sym leads_here ∙ leads);
    to = led-last direction number last moved leads ∙ is ∙ sym (led_to-more None answers answer);
    first_is = the_first;
    last_is = the_last;
  }

  pub led_ended : leads_on direction number last moved ≡ false
      → EndsThrough direction number (answers ++ answer ∷ []) (record { first = option_or first moved; last = option_or moved last; answer = answer })
  led_ended ends = record {
    lead = LeadThrough-end direction number None answers answer so_far.led (sym leads_here ∙ ends);
    first = the_first;
    last = the_last;
    answer = last_answer answers answer;
  }

-- ---- on a home

module _ {H : Type 0} (goes : H → Call → H → Type 0) (direction : Direction) (number : ℕ) where
  -- moves through the edit of a number were asked for, and each led on
  pub record SoFar (old home : H) (first last : Option ℕ) : Type 0 where
    pub answers : List Answer
    pub led : HaveLed direction number answers first last
    pub calls : List Call
    pub done : AttemptsAll goes old home (moves_through direction number answers) answers calls (silence 0)

  pub none_so_far : (home : H) → SoFar home home None None
  none_so_far home = record { answers = []; led = none_led direction number; calls = []; done = (refl, refl, (refl, refl)) }

  module _ (old home new : H) (first last moved : Option ℕ) (answer : Answer) (so_far : SoFar old home first last) (is : moved ≡ moved_by answer)
      (tried : DoesSilently goes home new (changing (change_of (move_through direction number))) answer) where
    abbrev all_answers : List Answer
    all_answers = so_far.answers ++ answer ∷ []

    abbrev the_move : Request
    the_move = Changes (move_through direction number)

    done_more : AttemptsAll goes old new (moves_through direction number all_answers) all_answers (so_far.calls ++ tried.0) (silence 0)
    done_more =
        subst (λ requests. AttemptsAll goes old new requests all_answers (so_far.calls ++ tried.0) (silence 0)) (replicate_one_more so_far.answers answer the_move)
        (AttemptsAll-more goes old home new (moves_through direction number so_far.answers) so_far.answers so_far.calls the_move answer tried.0 (silence 0) (silence 0) (silence 0)
        (refl, refl, refl, refl, omega arith) (omega arith) so_far.done (tried.1 (silence 0) (refl, refl)))

    pub one_led : leads_on direction number last moved ≡ true → SoFar old new (option_or first moved) (option_or moved last)
    one_led leads = record {
      answers = all_answers;
      led = led_more direction number so_far.answers first last moved answer so_far.led is leads;
      calls = so_far.calls ++ tried.0;
      done = done_more;
    }

    pub one_ended : leads_on direction number last moved ≡ false
        → GoesThrough goes direction number old new (record { first = option_or first moved; last = option_or moved last; answer = answer })
    one_ended ends = (
      all_answers,
      led_ended direction number so_far.answers first last moved answer so_far.led is ends,
      so_far.calls ++ tried.0,
      silence 0,
      (refl, refl),
      done_more,
    )

  -- ---- the machine

  module _ (old new : H) (ended : Through) (contents : H → Option Contents) where
    -- from contents that stand for a state the moves ran as the machine, where no call failed
    abbrev pub RanThrough : Option Contents → Type 0
    RanThrough known = IfSome known (λ c. (s : State) → Stands c s → (answers : List Answer) × EndsThrough direction number answers ended
        × (calls : List Call) × (p : Printed) × IsSilence p × WentOn goes contents c old calls new
        × ((HasFailed calls → ⊥) → (t : State) × RunsAsMachine asked_of c s (moves_through direction number answers) answers calls p t))

    -- the same whatever fails, from a regular journal, which stays so
    abbrev pub FailedThrough : Option Contents → Type 0
    FailedThrough known =
        IfSome known (λ c. (s : State) → Stands c s → IsRegular c.journal → (answers : List Answer) × EndsThrough direction number answers ended
        × (calls : List Call) × (p : Printed) × (t : State) × IsSilence p × WentOn goes contents c old calls new
        × RunsAsMachine asked_of c s (moves_through direction number answers) answers calls p t × IsRegular (left_by_all c calls).journal)

    went : (through : GoesThrough goes direction number old new ended) → Went goes old through.2 new
    went (answers, ends, calls, p, silent, done) = AttemptsAll-went goes old new (moves_through direction number answers) answers calls p done

    ran_through : (known : Option Contents) (through : GoesThrough goes direction number old new ended) → Follows known through.2 (contents new) → RanThrough known
    ran_through None through follow = tt
    ran_through (Some c) (answers, ends, calls, p, silent, done) follow = λ s stands. (
      answers,
      ends,
      calls,
      p,
      silent,
      (went (answers, ends, calls, p, silent, done), follow.1),
      λ held. attempts_all-runs goes old new c s (moves_through direction number answers) answers calls p stands held follow.0 done,
    )

    failed_through : (known : Option Contents) (through : GoesThrough goes direction number old new ended) → Follows known through.2 (contents new) → FailedThrough known
    failed_through None through follow = tt
    failed_through (Some c) (answers, ends, calls, p, silent, done) follow = λ s stands regular.
        let ran = attempts_all-fails goes old new c s (moves_through direction number answers) answers calls p stands regular follow.0 done in
        (answers, ends, calls, p, ran.0, silent, (went (answers, ends, calls, p, silent, done), follow.1), ran.1, ran.2)

    module _ (follows : (one other : H) (call : Call) → goes one call other → IfSome (contents one) (λ c. TellsOf c call × (contents other ≡ Some (left_by c call)))) where
      pub ended-runs : GoesThrough goes direction number old new ended → RanThrough (contents old)
      ended-runs through = ran_through (contents old) through (contents_follow goes contents follows old new through.2 (went through))

      pub ended-fails : GoesThrough goes direction number old new ended → FailedThrough (contents old)
      ended-fails through = failed_through (contents old) through (contents_follow goes contents follows old new through.2 (went through))

-- ---- the moves end

-- how far it is from the last edit that was moved
abbrev pub left_to_go : Direction → ℕ → Option ℕ → ℕ
left_to_go direction number None = 2 ^ 64
left_to_go Backward number (Some last) = last - number
left_to_go Forward number (Some last) = number - last

pub less_to_go : (direction : Direction) (number : ℕ) (last moved : Option ℕ) → number < 2 ^ 64 → IfSome moved (λ n. n < 2 ^ 64)
    → leads_on direction number last moved ≡ true → left_to_go direction number (option_or moved last) < left_to_go direction number last
less_to_go direction number last None small within leads = absurd (false≢true leads)
less_to_go Backward number None (Some n) small within leads =
    let bounded : n < 2 ^ 64 = within in
    let less : n - number < 2 ^ 64 = omega (arith, bounded) in
    less
less_to_go Forward number None (Some n) small within leads =
    let less : number - n < 2 ^ 64 = omega (arith, small) in
    less
less_to_go Backward number (Some last) (Some n) small within leads =
    let both = and_parts (nat_lt n last) (nat_lt number n) leads in
    let less : n - number < last - number = omega (arith, ltb-true n last both.0, ltb-true number n both.1) in
    less
less_to_go Forward number (Some last) (Some n) small within leads =
    let both = and_parts (nat_lt last n) (nat_lt n number) leads in
    let less : number - n < number - last = omega (arith, ltb-true last n both.0, ltb-true n number both.1) in
    less
