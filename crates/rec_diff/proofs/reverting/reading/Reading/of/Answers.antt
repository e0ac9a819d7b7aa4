use Rattle.std.proofs.Common.{◌≡◌, ◌≢◌, Option, None, Ok, Err, inl, inr, subst, sym}
use Rattle.std.specs.Option.{MatchOption}
use Rattle.std.proofs.lemmas.Result.{IfOk-weaker}
use Rattle.rec_text.specs.declared.fault.Fault.TheVariants.{OutOfMemory}
use Rattle.rec_text.specs.Reading.{IsReading as IsOneReading}
use Rattle.rec_text.proofs.lemmas.FaultLemmas.{memory_or, no_both}
use Rattle.rec_text.proofs.lemmas.reading.ReadingLemmas.{one_reading}
use Rattle.rec_diff.specs.declared.reverting.reading.Reading.{Reading}
use Rattle.rec_diff.specs.Placed.{IsPlaced, PlacedText}
use Rattle.rec_diff.specs.proving.Reading.{IsReading, text_of_reading}
use Rattle.rec_diff.proofs.reverting.reading.Reading.of.Goals as goal

pub returns-in-Err : goal.returns-in-Err
returns-in-Err c =
    let text = c.args.text.now in
    let fault = c.in-Err.fault in
    record {
      read =
          IfOk-weaker c.none_unless_memory.result (λ (answer : Option Reading). (answer ≡ None) × (fault ≢ OutOfMemory))
          (λ (answer : Option Reading). MatchOption answer ((p : PlacedText) → IsPlaced text p → ⊥) (λ (r : Reading). IsReading r × (text_of_reading r ≡ text)))
          (λ answer none. subst (λ (a : Option Reading). MatchOption a ((p : PlacedText) → IsPlaced text p → ⊥) (λ (r : Reading). IsReading r × (text_of_reading r ≡ text))) (sym none.0)
          (λ p is. elim (memory_or fault (IsOneReading text (Err fault)) c.in-Err.ensures.found) [
            | inl memory ↦ none.1 memory
            | inr other ↦ no_both is.pieces fault (one_reading text (Ok is.pieces) (Err fault) is.read other)
          ]))
          c.none_unless_memory.ensures.none;
      refusals = c.none_unless_memory.ensures.refusals;
    }
