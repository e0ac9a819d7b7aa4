use Rattle.std.proofs.Common.{◌≡◌, ◌∙◌, ◌++◌, ◌∷◌, [], ℕ, Bool, false, true, List, None, get_or, ap, sym, subst, arith, rules, w64}
use Rattle.std.proofs.lemmas.Int.{to_z-of_z}
use Rattle.std.proofs.lemmas.List.{get_or_default, map_push}
use mir.Val.{SFits}
use Rattle.rec_check.specs.declared.automatic.counter.Counter.{Counter}
use Rattle.rec_sex.specs.proving.Choices.{has_name}
use Rattle.rec_text.proofs.lemmas.ErrorLemmas.{kept_error}
use Rattle.rec_text.proofs.lemmas.FaultLemmas.{from_fact}
use Rattle.rec_edit.specs.declared.automatic.numbered.NumberedField.{NumberedField}
use Rattle.rec_edit.specs.proving.Filling.{numbered, AreNamesOf, IsRefused}
use Rattle.rec_edit.specs.Insertions.{Numbered}
use Rattle.rec_edit.proofs.lemmas.automatic.NumberLemmas.{IsGivenUpTo, none_lacking, counter_here, refused_here, one_given, all_asked}
use Rattle.rec_edit.proofs.automatic.numbered.give.Goals as goal
use Rattle.rec_edit.proofs.automatic.numbered.give.Goals.{After-contains}

-- what a proof reads past the end of counters
abbrev no_counter : Counter
no_counter = record { name = record { ref_ptr = (0, 0); now = [] }; counts = false; greatest = None; kind = None }

abbrev own_counter : After-contains → Counter
own_counter c = get_or c.loop-i.counters c.loop-i.i no_counter

here : (c : After-contains) → own_counter c ≡ get_or c.loop-i.counters c.loop-i.i (own_counter c)
here c = get_or_default c.loop-i.counters c.loop-i.i no_counter (own_counter c) (omega arith)

among : (c : After-contains) (b : Bool) (own : List (List ℕ)) → AreNamesOf c.args.names.now own → c.contains.result ≡ b → has_name c.args.names.now (own_counter c).name.now ≡ b
among c b own named is = ap (has_name c.args.names.now) (sym c.name-name.ensures) ∙ sym c.contains.ensures ∙ is

pub loop-i-preserved-then-contains : goal.loop-i-preserved-then-contains
loop-i-preserved-then-contains c = λ rules numbers own are named.
    let at = (goal.at.loop-i-preserved-then-contains c).After-contains in
    none_lacking rules numbers own c.args.counters.now c.loop-i.counters c.loop-i.i (numbered c.loop-i.given.items) (omega arith) (c.loop-i.invariant rules numbers own are named) (own_counter at)
    (here at)
    (sym (named (own_counter at).name.now) ∙ among at true own named c.if-contains.true)

pub returns-in_err-number-clause-refused : goal.returns-in_err-number-clause-refused
returns-in_err-number-clause-refused c = λ rules numbers own are named.
    let at = (goal.at.returns-in_err-number-clause-refused c).After-contains in
    let so_far = c.loop-i.invariant rules numbers own are named in
    let counted = counter_here rules numbers own c.args.counters.now c.loop-i.counters c.loop-i.i (numbered c.loop-i.given.items) (omega arith) so_far (own_counter at) (here at) in
    rw (kept_error c.from_residual.ensures.1) (from_fact c.in_err-number.field-0.0 (IsRefused rules numbers own c.in_err-number.field-0.0)
    (refused_here rules numbers own c.args.counters.now c.loop-i.counters c.loop-i.i (numbered c.loop-i.given.items) (omega arith) so_far (own_counter at) (here at) c.in_err-number.field-0.0
    (sym (named (own_counter at).name.now) ∙ among at false own named c.if-contains.false) (c.in_err-number.ensures.next rules (numbers (own_counter at).name.now) counted)))

pub loop-i-preserved : goal.loop-i-preserved
loop-i-preserved c = λ asked numbers own are named.
    let at = (goal.at.loop-i-preserved c).After-contains in
    let so_far = c.loop-i.invariant asked numbers own are named in
    let given = c.loop-i.given.items in
    let number = c.in_ok-number.number in
    let counted = counter_here asked numbers own c.args.counters.now c.loop-i.counters c.loop-i.i (numbered given) (omega arith) so_far (own_counter at) (here at) in
    let fits : SFits w64 number = search rules in
    let typed : NumberedField → Numbered = λ field. record { name = field.name.now; number = field.number } in
    let one : NumberedField = record { name = c.name-name.result; number = number } in
    let more : numbered c.push.new.self.items ≡ numbered given ++ record { name = (own_counter at).name.now; number = number } ∷ [] =
    ap numbered c.in_ok-push.ensures.items ∙ ap (λ z. numbered (given ++ record { name = c.name-name.result; number = z } ∷ [])) (to_z-of_z w64 number fits) ∙ map_push typed given one
    ∙ ap (λ n. numbered given ++ record { name = n; number = number } ∷ []) c.name-name.ensures in
    subst (IsGivenUpTo asked numbers own c.args.counters.now _ _) (sym more)
    (one_given asked numbers own c.args.counters.now c.loop-i.counters c.loop-i.i (numbered given) (omega arith) so_far (own_counter at) (here at) c.next_number.new.self number
    (sym (named (own_counter at).name.now) ∙ among at false own named c.if-contains.false) (c.in_ok-number.ensures.next asked (numbers (own_counter at).name.now) counted)
    c.in_ok-number.ensures.name (c.in_ok-number.ensures.counted asked (numbers (own_counter at).name.now) counted))

pub returns-clause-given : goal.returns-clause-given
returns-clause-given c = λ rules numbers own are named.
    all_asked rules numbers own c.args.counters.now c.loop-i.counters c.loop-i.i (numbered c.loop-i.given.items) (omega arith) (c.loop-i.invariant rules numbers own are named)
