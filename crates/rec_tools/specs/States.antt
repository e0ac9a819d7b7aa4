-- The states of the history machine: it keeps whole texts.
use Rattle.std.specs.Prelude.{ℕ, ◌+◌, ◌-◌, ◌*◌, ◌==◌, true, false, List, [], ◌∷◌, ◌++◌, length, map, find, reverse}
use Rattle.std.specs.Prelude.{slice_get, take, bytes_eq, if◌then◌else◌, Option, Some, None}
use Rattle.rec_journal.specs.declared.patch.Direction.{Direction}
use Rattle.rec_journal.specs.declared.patch.Direction.TheVariants.{Forward, Backward}
use Rattle.rec_journal.specs.declared.event.EditStep.{EditStep}
use Rattle.rec_journal.specs.declared.event.Tool.{Tool}
use Rattle.rec_journal.specs.Forgetting.{numbered_from}
use Rattle.rec_tools.specs.Printouts.{history_text, Told}
use Rattle.rec_tools.specs.Asked.{Standing}

-- an edit that was made, with its number, its tool, its steps, and the whole text that taking it back or making it
-- again brings
pub record Entry : Type 0 where
  pub number : ℕ
  pub tool : Tool
  pub steps : List EditStep
  pub text : List ℕ

-- the edits to take back, each with the text before it, the newest first; the text; the edits to make again, each with
-- the text after it, the nearest first; the number of the next event; and how many edits were made, some of which may
-- be neither to take back nor to make again any more
pub record State : Type 0 where
  pub past : List Entry
  pub present : List ℕ
  pub future : List Entry
  pub next : ℕ
  pub made : ℕ

abbrev pub first_state : List ℕ → State
first_state file = record { past = []; present = file; future = []; next = 1; made = 0 }

-- the numbers of entries
abbrev pub numbers_in : List Entry → List ℕ
numbers_in entries = map (λ entry. entry.number) entries

-- an edit was made by this tool, in these steps
abbrev pub state_after_edit : State → Tool → List EditStep → List ℕ → State
state_after_edit s tool steps text = record {
  past = record { number = s.next; tool = tool; steps = steps; text = s.present } ∷ s.past;
  present = text;
  future = [];
  next = s.next + 1;
  made = s.made + 1;
}

-- the entries that way, the nearest first
abbrev pub entries_on : Direction → State → List Entry
entries_on Backward s = s.past
entries_on Forward s = s.future

-- the entry of a move, with the text that it leads back to
abbrev pub entry_back : State → Entry → Entry
entry_back s entry = record entry { text = s.present }

-- the machine moved by the nearest entry that way, before these others
abbrev pub state_after_move : Direction → State → Entry → List Entry → State
state_after_move Backward s nearest others = record {
  past = others;
  present = nearest.text;
  future = entry_back s nearest ∷ s.future;
  next = s.next + 1;
  made = s.made;
}
state_after_move Forward s nearest others = record {
  past = entry_back s nearest ∷ s.past;
  present = nearest.text;
  future = others;
  next = s.next + 1;
  made = s.made;
}

-- how many edits can be neither taken back nor made again any more
abbrev pub lost_entries : State → ℕ
lost_entries s = s.made - (length s.past + length s.future)

abbrev pub numbered_entry : ℕ → Entry → Entry
numbered_entry n entry = record entry { number = n }

-- the newest n edits to take back are left, and all to make again, numbered anew
abbrev pub state_after_forgetting : ℕ → State → State
state_after_forgetting n s = record {
  past = reverse (numbered_from numbered_entry 1 (reverse (take n s.past)));
  present = s.present;
  future = numbered_from numbered_entry (n + 1) s.future;
  next = n + 2 * length s.future + 1;
  made = n + length s.future;
}

-- the history that the machine prints
abbrev pub state_history : State → List ℕ
state_history s =
    history_text (map (λ entry. (entry.number, entry.tool)) s.past) (map (λ entry. (entry.number, entry.tool)) s.future)

-- the edits to take back with their texts, from this text on
abbrev pub told_back : List Entry → List ℕ → List Told
told_back [] here = []
told_back (entry ∷ entries) here = record {
  done = true;
  number = entry.number;
  tool = entry.tool;
  steps = entry.steps;
  before = entry.text;
  after = here;
} ∷ told_back entries entry.text

-- those to make again
abbrev pub told_on : List Entry → List ℕ → List Told
told_on [] here = []
told_on (entry ∷ entries) here = record {
  done = false;
  number = entry.number;
  tool = entry.tool;
  steps = entry.steps;
  before = here;
  after = entry.text;
} ∷ told_on entries entry.text

-- all of them, in the order of the history
abbrev pub told_in : State → List Told
told_in s = reverse (told_back s.past s.present) ++ told_on s.future s.present

-- the one of a number, or the newest of those to take back
abbrev pub told_edit : Option ℕ → State → Option Told
told_edit None s = slice_get (told_back s.past s.present) 0
told_edit (Some number) s = find (λ e. e.number == number) (told_in s)

-- The edit of a number among these, the newest first, which come before these steps of later ones. Where the text after
-- the edit is the present one, what was made later came to nothing.
abbrev pub standing_in : ℕ → List ℕ → List EditStep → List Told → Option Standing
standing_in number present later [] = None
standing_in number present later (e ∷ edits) =
    if e.number == number
    then Some (record {
      tool = e.tool;
      steps = e.steps;
      before = e.before;
      after = e.after;
      later = if bytes_eq e.after present then [] else later;
    })
    else standing_in number present (e.steps ++ later) edits

-- the edit of a number among those to take back
abbrev pub standing_at : ℕ → State → Option Standing
standing_at number s = standing_in number s.present [] (told_back s.past s.present)
