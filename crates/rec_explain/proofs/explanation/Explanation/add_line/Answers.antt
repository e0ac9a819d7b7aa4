use Rattle.std.proofs.Common.{subst, sym, ◌∙◌, ap, inr, ◌++◌, ◌∷◌, []}
use Rattle.std.specs.List.{All, list_all}
use Rattle.rec_explain.specs.Lines.{IsShown, is_shown}
use Rattle.rec_explain.proofs.LineLemmas.{line_is_shown}
use Rattle.rec_explain.proofs.explanation.Explanation.add_line.Goals as goal

pub invariant_of-self-in-Continue-branch-3 : goal.invariant_of-self-in-Continue-branch-3
invariant_of-self-in-Continue-branch-3 c =
    let ended = c.in_ok-push.ensures.items in
    let extended = c.in_ok-extend_from_slice.ensures.items in
    let held = c.reserve.ensures.items in
    let line_before_newline = extended ∙ ap (λ lines. lines ++ c.as_bytes-then-can_be_shown.result.now) held ∙ ap (λ line. c.self.inside.lines.items ++ line) c.as_bytes-then-can_be_shown.ensures.value
    in
    let whole = ended ∙ ap (λ lines. lines ++ 10 ∷ []) line_before_newline in
    let shown = ap (list_all is_shown) (sym c.as_bytes.ensures.value) ∙ sym c.can_be_shown.ensures ∙ c.if-can_be_shown.true in (
      subst (All IsShown) (sym whole) (line_is_shown c.self.inside.lines.items c.args.line.now c.self.invariant.0 shown),
      inr (c.self.inside.lines.items ++ c.args.line.now, whole),
    )
