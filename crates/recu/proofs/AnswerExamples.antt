-- Answers at small lines: what was printed is let out, a move falls short, and words are refused.
use Rattle.std.proofs.Common.{◌≡◌, ℕ, List, [], ◌∷◌, length, Some, None, Ok, Err, inl, inr, ap, subst, refl, arith}
use Rattle.std.specs.Prelude.{MatchResult, unwrap_or}
use Rattle.rec_text.specs.declared.fault.Fault.{Fault}
use Rattle.rec_text.specs.declared.fault.Fault.TheVariants.{OutOfMemory, NothingToUndo, StoreFailed}
use Rattle.rec_tools.specs.declared.request.Reply.{Reply}
use Rattle.rec_tools.specs.declared.through.Through.{Through}
use Rattle.rec_command.specs.declared.args.refusal.Refusal.TheVariants.{OutOfMemory as NoMemory}
use Rattle.recu.specs.Answers.{Out, IsLetOut, IsMovedTo, IsAnswerToRefused}

-- standard output that holds these bytes, and failed so often
abbrev out : List ℕ → ℕ → Out
out held failed = record { taken = None; held = held; failed = failed }

-- ---- what was printed

is_no_refusal : {reply : Reply} {fault : Fault} → Ok reply ≡ Err fault → ⊥
is_no_refusal is = subst (λ answer. MatchResult answer (λ _. Unit {0}) (λ _. ⊥)) is tt

reply_stays : (reply : Reply) → IsLetOut (Ok reply) 0 (out [] 0) (Ok reply)
reply_stays reply = inl (refl, refl, refl)

-- no reply where something was not let out
held_back : (reply : Reply) → IsLetOut (Ok reply) 0 (out (7 ∷ []) 1) (Ok reply) → ⊥
held_back reply (inl (_, held, _)) = omega (arith, ap length held)
held_back reply (inr (is, _)) = is_no_refusal is

-- nor where a try failed before one that didn't
failed_before : (reply : Reply) → IsLetOut (Ok reply) 0 (out [] 1) (Ok reply) → ⊥
failed_before reply (inl (_, _, failed)) = omega (arith, failed)
failed_before reply (inr (is, _)) = is_no_refusal is

-- a refusal stays, and what was printed before it is let out too
refusal_stays : IsLetOut (Err NothingToUndo) 0 (out [] 0) (Err NothingToUndo)
refusal_stays = inl (refl, refl, refl)

refusal_holds_back : IsLetOut (Err NothingToUndo) 0 (out (7 ∷ []) 0) (Err NothingToUndo) → ⊥
refusal_holds_back (inl (_, held, _)) = omega (arith, ap length held)
refusal_holds_back (inr (_, inl risen)) = omega (arith, risen)
refusal_holds_back (inr (_, inr most)) = omega (arith, most)

failed_once : (reply : Reply) → IsLetOut (Ok reply) 0 (out [] 1) (Err StoreFailed)
failed_once reply = inr (refl, inl (omega arith))

-- ---- moves as far as an edit

-- the moves went from edit 5 to this one
abbrev moved : ℕ → Reply → Through
moved last reply = record { first = Some 5; last = Some last; answer = Ok reply }

arrived : (reply : Reply) → IsMovedTo 3 (moved 3 reply) (Ok reply)
arrived reply = (refl, refl)

fell_short : (reply : Reply) → IsMovedTo 3 (moved 4 reply) (Err StoreFailed)
fell_short reply = inr (refl, λ is. omega (arith, ap (λ last. unwrap_or last 0) is), (reply, refl))

-- one that arrived is not refused
not_short : (reply : Reply) → IsMovedTo 3 (moved 3 reply) (Err StoreFailed) → ⊥
not_short reply (inl is) = is_no_refusal is
not_short reply (inr (_, ne, _)) = ne refl

-- ---- words that are refused

-- only those that ask for help end well
no_memory : IsAnswerToRefused NoMemory (Err OutOfMemory)
no_memory = inl (λ none. none, refl)

no_memory_ends_well : IsAnswerToRefused NoMemory (Ok None) → ⊥
no_memory_ends_well none = none
