-- Changes of a text: what stays of it, and what another text takes the place of.
use Rattle.std.specs.Prelude.{ℕ, ◌+◌, ◌-◌, List, [], ◌∷◌, ◌++◌, length, take, drop}
use Rattle.std.specs.List.{flat_map}
use Rattle.rec_journal.specs.declared.patch.Hunk.{Hunk}
use Rattle.rec_journal.specs.Patch.{Splices}

-- a part of both texts, or a part of the old text and what the new one has in its place
pub data Stretch : Type 0 where
  stays : List ℕ → Stretch
  turns : List ℕ → List ℕ → Stretch

abbrev pub old_of : Stretch → List ℕ
old_of (stays t) = t
old_of (turns old new) = old

abbrev pub new_of : Stretch → List ℕ
new_of (stays t) = t
new_of (turns old new) = new

abbrev pub before_of : List Stretch → List ℕ
before_of parts = flat_map old_of parts

abbrev pub after_of : List Stretch → List ℕ
after_of parts = flat_map new_of parts

-- the same change, the other way
abbrev pub turned : Stretch → Stretch
turned (stays t) = stays t
turned (turns old new) = turns new old

-- a hunk for each turn, at the length of the text before it
abbrev pub hunks_at : ℕ → List Stretch → List Hunk
hunks_at at [] = []
hunks_at at (stays t ∷ parts) = hunks_at (at + length t) parts
hunks_at at (turns old new ∷ parts) = record { at = at; old = old; new = new } ∷ hunks_at (at + length old) parts

-- the hunks of a patch, and what stays of a text before, between and after them
abbrev pub cut_from : ℕ → List Hunk → List ℕ → List Stretch
cut_from place [] text = stays text ∷ []
cut_from place (h ∷ hunks) text =
    stays (take (h.at - place) text) ∷ turns h.old h.new
    ∷ cut_from (h.at + length h.old) hunks (drop (h.at - place + length h.old) text)

-- a part before others, one with the next where both are of a kind; an empty one is none
abbrev pub put_stays : List ℕ → List Stretch → List Stretch
put_stays [] parts = parts
put_stays (b ∷ bs) [] = stays (b ∷ bs) ∷ []
put_stays (b ∷ bs) (stays u ∷ parts) = stays (b ∷ bs ++ u) ∷ parts
put_stays (b ∷ bs) (turns old new ∷ parts) = stays (b ∷ bs) ∷ turns old new ∷ parts

abbrev pub put_turns : List ℕ → List ℕ → List Stretch → List Stretch
put_turns [] [] parts = parts
put_turns old new [] = turns old new ∷ []
put_turns old new (stays u ∷ parts) = turns old new ∷ stays u ∷ parts
put_turns old new (turns o n ∷ parts) = turns (old ++ o) (new ++ n) ∷ parts

abbrev pub joined : List Stretch → List Stretch
joined [] = []
joined (stays t ∷ parts) = put_stays t (joined parts)
joined (turns old new ∷ parts) = put_turns old new (joined parts)

-- the hunks of parts lead from the text before to the text after
abbrev pub HunksSplice : Type 0
HunksSplice = (parts : List Stretch) → Splices (hunks_at 0 parts) (before_of parts) (after_of parts)
