-- The changes of a script, found part by part.
use Rattle.std.specs.Prelude.{◌+◌, ◌==◌, not, List, [], ◌∷◌, ◌++◌, length, filter, if◌then◌else◌}
use Rattle.std.specs.Str.{bytes_eq}
use Rattle.rec_journal.specs.declared.patch.Hunk.{Hunk}
use Rattle.rec_edit.specs.Script.{Part, changes_from}

-- a hunk before others: one with the first of these where that begins at its end
abbrev pub joining : Hunk → List Hunk → List Hunk
joining hunk [] = hunk ∷ []
joining hunk (next ∷ hunks) =
    if hunk.at + length hunk.old == next.at
    then record { at = hunk.at; old = hunk.old ++ next.old; new = hunk.new ++ next.new } ∷ hunks
    else hunk ∷ next ∷ hunks

-- changes next to each other are one
abbrev pub merged : List Hunk → List Hunk
merged [] = []
merged (hunk ∷ hunks) = joining hunk (merged hunks)

-- a change of a text to the same text is none
abbrev pub real_changes : List Hunk → List Hunk
real_changes hunks = filter (λ hunk. not (bytes_eq hunk.old hunk.new)) hunks

-- a hunk for each run of changes
abbrev pub hunks_of : List Part → List Hunk
hunks_of script = real_changes (merged (changes_from 0 script))
