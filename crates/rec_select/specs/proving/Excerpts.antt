-- Elements that stand in a text one after another.
use Rattle.std.specs.Prelude.{◌≡◌, ℕ, List, ◌++◌, length}
use Rattle.rec_text.specs.declared.element.Element.{Element}
use Rattle.rec_text.specs.Elements.{AreElementsOf}
use Rattle.rec_text.specs.Places.{pieces_of, AreFrom}

-- these are the elements of a part of the text, each at its place
pub record IsExcerpt (text : List ℕ) (elements : List Element) : Type 0 where
  pub prefix : List ℕ
  pub part : List ℕ
  pub following : List ℕ
  pub parts : text ≡ prefix ++ (part ++ following)
  pub whole : AreElementsOf (pieces_of elements) part
  pub places : AreFrom (length prefix) elements
