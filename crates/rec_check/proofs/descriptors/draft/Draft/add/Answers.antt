use Rattle.std.proofs.Common.{List, sym, subst}
use Rattle.rec_check.specs.declared.set.Set_.{Set_}
use Rattle.rec_check.specs.proving.Steps.{HaveTypes}
use Rattle.rec_check.proofs.lemmas.TypeLemmas.{HaveTypes-none}
use Rattle.rec_check.proofs.descriptors.draft.Draft.add.Goals as goal

pub returns-then-not-is_descriptor-clause-typed : goal.returns-then-not-is_descriptor-clause-typed
returns-then-not-is_descriptor-clause-typed c =
    let typed : List Set_ → Type 0 = λ sets. HaveTypes sets c.args.self.now.types in
    subst typed (sym c.in_ok-add_record.ensures) (HaveTypes-none c.args.self.now.sets.items c.args.self.now.types c.requires.typed c.args.index)
