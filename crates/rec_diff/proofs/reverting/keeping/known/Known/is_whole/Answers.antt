use Rattle.std.proofs.Common.{inl, inr, refl}
use Rattle.std.proofs.Common.{Any}
use Rattle.rec_diff.specs.Keeping.{IsWhole}
use Rattle.rec_diff.specs.proving.Reading.{placed_of}
use Rattle.rec_diff.proofs.lemmas.reverting.KeepingLemmas.{is_not}
use Rattle.rec_diff.proofs.reverting.keeping.known.Known.is_whole.Goals as goal

pub returns-then-is_whole : goal.returns-then-is_whole
returns-then-is_whole c = λ ahead back own beside at.
    let (us, are_too) = beside.back_turns in
    (λ e. inl ((c.is_whole.ensures back us own are_too beside.of_here at).0 c.if-is_whole.true), λ s. refl)

pub returns : goal.returns
returns c = λ ahead back own beside at.
    let (ts, are) = beside.ahead_turns in
    let (us, are_too) = beside.back_turns in
    let is = c.is_whole-2.ensures ahead ts own are beside.of_before at in (
      λ e. inr (is.0 e),
      λ s. elim s [
        | inl p ↦ absurd (is_not c.is_whole.result (Any (λ new. IsWhole back new own) (placed_of c.args.self.readings.now.here).records)
            (c.is_whole.ensures back us own are_too beside.of_here at) c.if-is_whole.false p)
        | inr q ↦ is.1 q
      ],
    )
