use Rattle.std.proofs.Common.{rules}
use Rattle.std.proofs.lemmas.Int.{to_z-of_z, ints}
use Rattle.rec_sex.proofs.lemmas.syntax.ParsingLemmas.{IsTree-integer, IsTree-literal, IsTree-name, IsTree-occurrence, IsTree-count, minus_begins}
use Rattle.rec_sex.proofs.syntax.parser.take_start.Goals as goal

pub returns-in-Some-Integer : goal.returns-in-Some-Integer
returns-in-Some-Integer c = λ texts. IsTree-integer _ _ texts c.in-Some-Integer.n _ (search (rules, ints, to_z-of_z)) (cc)

pub returns-in-Some-Literal : goal.returns-in-Some-Literal
returns-in-Some-Literal c = λ texts. IsTree-literal _ _ texts c.in-Some-Literal.text (cc)

pub returns-in-Some-Name : goal.returns-in-Some-Name
returns-in-Some-Name c = λ texts. IsTree-name _ _ texts c.in-Some-Name.name (cc)

pub returns-in-Some-Occurrence : goal.returns-in-Some-Occurrence
returns-in-Some-Occurrence c = λ texts. IsTree-occurrence _ _ texts c.in-Some-Occurrence.name c.in-Some-Occurrence.i (cc)

pub returns-in-Some-Count : goal.returns-in-Some-Count
returns-in-Some-Count c = λ texts. IsTree-count _ _ texts c.in-Some-Count.name (cc)

pub returns-in-Some-Binary : goal.returns-in-Some-Binary
returns-in-Some-Binary c = minus_begins _ _ c.in-Some-Binary.field-0-0 c.requires (cc)
