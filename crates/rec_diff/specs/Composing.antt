-- What several patches do, one after another, as one patch.
use Rattle.std.specs.Prelude.{◌≡◌, ℕ, ◌+◌, ◌-◌, List, [], ◌∷◌, ◌++◌, length, map, replicate}
use Rattle.rec_journal.specs.declared.patch.Hunk.{Hunk}
use Rattle.rec_journal.specs.declared.event.EditStep.{EditStep}
use Rattle.rec_journal.specs.Patch.{Splices, IsPatch}
use Rattle.rec_journal.specs.Revisions.{LeadsBy}

-- what a patch does at a byte: it keeps the one that stands there, removes this one, or adds this one
pub data Deed : Type 0 where
  keeps : Deed
  removes : ℕ → Deed
  adds : ℕ → Deed

-- what hunks do from a place of the text on: all is kept up to a hunk, then its old bytes are removed and its new ones
-- added
abbrev pub deeds_from : ℕ → List Hunk → List Deed
deeds_from place [] = []
deeds_from place (h ∷ hunks) =
    replicate (h.at - place) keeps ++ (map removes h.old ++ (map adds h.new ++ deeds_from (h.at + length h.old) hunks))

-- what a patch does; what follows is kept
abbrev pub deeds_of : List Hunk → List Deed
deeds_of patch = deeds_from 0 patch

-- ---- one after the other

-- a byte is kept, and others act on the text that has it: they keep it, remove it, or add a byte before it
abbrev pub after_keeping : (List Deed → List Deed) → List Deed → List Deed
after_keeping rest [] = keeps ∷ rest []
after_keeping rest (keeps ∷ others) = keeps ∷ rest others
after_keeping rest (removes b ∷ others) = removes b ∷ rest others
after_keeping rest (adds b ∷ others) = adds b ∷ after_keeping rest others

-- a byte is added, and others act on the text that has it: removed again, it was never there
abbrev pub after_adding : ℕ → (List Deed → List Deed) → List Deed → List Deed
after_adding b rest [] = adds b ∷ rest []
after_adding b rest (keeps ∷ others) = adds b ∷ rest others
after_adding b rest (removes c ∷ others) = rest others
after_adding b rest (adds c ∷ others) = adds c ∷ after_adding b rest others

-- deeds, and then others on the text that they give; what was removed is not there for these
abbrev pub then_others : List Deed → List Deed → List Deed
then_others [] others = others
then_others (keeps ∷ deeds) others = after_keeping (then_others deeds) others
then_others (removes b ∷ deeds) others = removes b ∷ then_others deeds others
then_others (adds b ∷ deeds) others = after_adding b (then_others deeds) others

-- what patches do, one after another
abbrev pub all_deeds : List (List Hunk) → List Deed
all_deeds [] = []
all_deeds (patch ∷ patches) = then_others (deeds_of patch) (all_deeds patches)

-- ---- as hunks

-- a hunk before others, unless it is empty
abbrev pub put_hunk : ℕ → List ℕ → List ℕ → List Hunk → List Hunk
put_hunk at [] [] hunks = hunks
put_hunk at old new hunks = record { at = at; old = old; new = new } ∷ hunks

-- the hunks of deeds, after some that at this place removed these bytes and added these: what is done between two kept
-- bytes is one hunk
abbrev pub hunks_after : ℕ → List ℕ → List ℕ → List Deed → List Hunk
hunks_after at old new [] = put_hunk at old new []
hunks_after at old new (keeps ∷ deeds) = put_hunk at old new (hunks_after (at + length old + 1) [] [] deeds)
hunks_after at old new (removes b ∷ deeds) = hunks_after at (old ++ b ∷ []) new deeds
hunks_after at old new (adds b ∷ deeds) = hunks_after at old (new ++ b ∷ []) deeds

abbrev pub deed_hunks : List Deed → List Hunk
deed_hunks deeds = hunks_after 0 [] [] deeds

-- one patch does what these do, one after another
abbrev pub ComposesAll : List (List Hunk) → List Hunk → Type 0
ComposesAll patches all = all ≡ deed_hunks (all_deeds patches)

-- ---- laws

-- the patch of each step
abbrev pub patches_of : List EditStep → List (List Hunk)
patches_of steps = map (λ (step : EditStep). step.patch) steps

-- patches have one composition
abbrev pub OneComposition : Type 0
OneComposition = (patches : List (List Hunk)) (one other : List Hunk)
    → ComposesAll patches one → ComposesAll patches other → one ≡ other

-- where steps lead from one text to another, so does their composition
abbrev pub ComposesSplices : Type 0
ComposesSplices = (steps : List EditStep) (all : List Hunk) (before after : List ℕ)
    → LeadsBy steps before after → ComposesAll (patches_of steps) all → Splices all before after

-- a patch alone is its composition
abbrev pub ComposesItself : Type 0
ComposesItself = (patch : List Hunk) → IsPatch patch → ComposesAll (patch ∷ []) patch
