use Rattle.std.proofs.Common.{refl, rules}
use Rattle.rec_check.specs.Types.{integer, line, truth, unchecked}
use Rattle.rec_check.proofs.field_types.kind.type_of_known.Goals as goal

pub returns-in-Integer : goal.returns-in-Integer
returns-in-Integer c = let alone = c.alone.ensures integer refl in search rules

pub returns-in-Line : goal.returns-in-Line
returns-in-Line c = let alone = c.alone-in-Line.ensures line refl in search rules

pub returns-in-Truth : goal.returns-in-Truth
returns-in-Truth c = let alone = c.alone-in-Truth.ensures truth refl in search rules

pub returns-in-Unchecked : goal.returns-in-Unchecked
returns-in-Unchecked c = (unchecked, search rules, refl)
