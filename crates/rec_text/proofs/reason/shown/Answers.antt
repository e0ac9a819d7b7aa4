use Rattle.std.proofs.Common.{◌≡◌, ◌≤◌, ℕ, List, take, length, Bor, Option, Some, None, Result, Ok, Err, IfSome, OnOk, sym, ap, subst, ◌∙◌, arith}
use Rattle.std.specs.Slice.{IsGetRangeResult}
use Rattle.std.specs.Option.{unwrap_or}
use Rattle.std.specs.Result.{result_ok}
use Rattle.std.proofs.lemmas.List.{take_all}
use Rattle.rec_text.proofs.reason.shown.Goals as goal

-- what a part at the start is, or the whole where it is shorter
start_of : (word : Bor (List ℕ)) (part : Option (Bor (List ℕ))) → IsGetRangeResult word.now 0 1001 part → (unwrap_or part word).now ≡ take 1001 word.now
start_of word None got = let few : length word.now ≤ 1001 = grind (arith, got.0) in sym (take_all 1001 word.now few)
start_of word (Some part) got = got.0.2

copied : {E : Type 0} (bytes : List ℕ) (copy : Result (List ℕ) E) → OnOk copy (copy ≡ Ok bytes) → IfSome (result_ok copy) (λ made. made ≡ bytes)
copied bytes (Err e) made = tt
copied bytes (Ok x) made = grind (arith, made)

pub returns : goal.returns
returns c =
    let start = ap (λ part. part.now) c.unwrap_or-start.ensures ∙ start_of c.args.word c.get.result c.get.ensures.lookup in
    rw c.ok.ensures.value (subst (λ bytes. IfSome (result_ok c.copy_of.result) (λ made. made ≡ bytes)) start (copied _ c.copy_of.result c.copy_of.ensures))
