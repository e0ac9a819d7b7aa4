use Rattle.std.proofs.Common.{◌≡◌, ◌∙◌, ◌||◌, ℕ, false, true, List, None, Option, Some, ap, option_map, subst, sym}
use Rattle.std.proofs.Math.Bool.{or-false}
use Rattle.std.specs.Borrow.{Bor}
use Rattle.std.specs.Option.{option_map_or}
use Rattle.std.specs.Prelude.{IfOk, OnOk}
use Rattle.std.specs.Str.{bytes_eq}
use Rattle.rec_text.specs.declared.element.Element.{Element}
use Rattle.rec_text.specs.Places.{piece_of, pieces_of}
use Rattle.rec_text.specs.Values.{bytes_of, value_of}
use Rattle.rec_check.specs.proving.Keys.{has_taken}
use Rattle.rec_check.specs.Violations.{key_of}
use Rattle.rec_check.proofs.checks.key.Key.breaks.Goals as goal
use Rattle.rec_check.proofs.checks.key.Key.breaks.Goals.{After-take, In-None}

some_key : (c : After-take) → ◌≡◌ {A = Option (List ℕ)} (Some (bytes_of c.in_ok-value-in-Some.field-0)) (key_of c.args.name.now (pieces_of c.args.fields.now))
some_key c = ap Some c.in_ok-value-in-Some.ensures.value ∙ sym (ap (option_map (λ (field : Bor Element). value_of (piece_of field.now))) c.in-Some.is) ∙ c.only_field.ensures

no_key : (c : In-None) → ◌≡◌ {A = Option (List ℕ)} None (key_of c.args.name.now (pieces_of c.args.fields.now))
no_key c = sym (ap (option_map (λ (field : Bor Element). value_of (piece_of field.now))) c.in-None.is) ∙ c.only_field.ensures

pub returns-in_ok-value-in-Some-clause-breaks : goal.returns-in_ok-value-in-Some-clause-breaks
returns-in_ok-value-in-Some-clause-breaks c =
    subst (λ key. IfOk c.take.result (λ answer. answer ≡ option_map_or (has_taken c.args.self.now) key true)) (some_key c) c.take.ensures.was_taken

pub returns-in_ok-value-in-Some-clause-taken : goal.returns-in_ok-value-in-Some-clause-taken
returns-in_ok-value-in-Some-clause-taken c =
    subst (λ key. OnOk c.take.result ((other : List ℕ) → has_taken c.take.new.self other ≡ (has_taken c.args.self.now other || option_map_or (bytes_eq other) key false)))
    (some_key c) c.take.ensures.taken

pub returns-in-None-clause-breaks : goal.returns-in-None-clause-breaks
returns-in-None-clause-breaks c = ap (λ key. option_map_or (has_taken c.args.self.now) key true) (no_key c)

pub returns-in-None-clause-taken : goal.returns-in-None-clause-taken
returns-in-None-clause-taken c = λ other.
    sym (or-false (has_taken c.args.self.now other)) ∙ ap (λ key. has_taken c.args.self.now other || option_map_or (bytes_eq other) key false) (no_key c)
