-- Where links lead, what can be read and put, and which calls are careful, on a small disk.
use Rattle.std.proofs.Common.{◌≡◌, inl, ℕ, zero, suc, Bool, true, false, List, [], ◌∷◌, length, if◌then◌else◌, Option, Some, None, ap, sym, refl, arith}
use Rattle.std.specs.Prelude.{bytes_eq, is_some}
use Rattle.std.proofs.lemmas.Bool.{false≢true}
use Rattle.rec_disk.specs.declared.log.Rights.{Rights}
use Rattle.rec_disk.specs.declared.disk.Disk.{Ghosts as Disk}
use Rattle.rec_disk.specs.Disk.{State, Look, put, wrote}
use Rattle.rec_disk.specs.Lasting.{Spares}
use Rattle.rec_tools.specs.Home.{Write, content_of, writes_by, got, put_all, put_some}
use Rattle.rec_tools.specs.declared.home.Which.TheVariants.{Base, Journal}
use Rattle.rec_files.specs.declared.access.Access.TheVariants.{Change as Changes}
use Rattle.rec_files.specs.declared.last_put.LastPut.TheVariants.{Nothing}
use Rattle.rec_files.specs.Paths.{end_of}
use Rattle.rec_files.specs.Succeeding.{Kept, IsReadable, IsReadFree, NotesRead, AreAsNoted, ReplacesNoted, CanPut}
use Rattle.rec_files.proofs.lemmas.Steps.{some_none}

-- ---- links

-- 1 leads to 2, 2 to 3, and 4 to itself
abbrev links : List ℕ → Option (List ℕ)
links path =
    if bytes_eq path (1 ∷ []) then Some (2 ∷ [])
    else if bytes_eq path (2 ∷ []) then Some (3 ∷ [])
    else if bytes_eq path (4 ∷ []) then Some (4 ∷ []) else None

no_link : end_of links 1 (3 ∷ []) ≡ Some (3 ∷ [])
no_link = refl

two_links : end_of links 3 (1 ∷ []) ≡ Some (3 ∷ [])
two_links = refl

too_many : end_of links 2 (1 ∷ []) ≡ None
too_many = refl

round : (n : ℕ) → end_of links n (4 ∷ []) ≡ None
round zero = refl
round (suc n) = round n

-- ---- a file without a journal

abbrev file : List ℕ
file = 70 ∷ []

abbrev journal : List ℕ
journal = 74 ∷ 74 ∷ []

abbrev rights : Rights
rights = record { owner = 0; group = 0; mode = 0 }

-- file 0 stands at its path
abbrev disk : State
disk = record {
  at = put (λ p. None) file (Some 0);
  olds = [];
  bytes = λ n. 65 ∷ [];
  safe = λ n. true;
  version = λ n. 0;
  held = λ n. false;
  rights = λ n. rights;
  lets = record { owner = λ o. true; group = λ g. true };
}

-- a path is its place, and no path is a link
abbrev small : Disk State ℕ (Option Look)
small = record {
  story = λ s. Some (record { now = s; past = [] });
  place = λ path. path;
  leads = λ path. path;
  folder = λ place. [];
  syncs = λ folder. true;
  link = λ path. None;
  number = λ n. n;
  regular = λ n. true;
  tells = λ look. look;
  works = λ s. Unit {0};
}

abbrev Readable : State → Type 0
Readable = IsReadable small Changes (Some file) journal None Base

readable : Readable disk
readable = record {
  given = λ _. refl;
  there = (omega arith, refl);
  apart = λ _ is. absurd (omega (arith, ap (λ which. length (content_of (record { file = []; journal = journal }) which)) is));
  free = λ _. (record { free = refl; another = tt }, refl);
}

-- but not where another program has locked the file
locked : Readable (record disk { held = λ n. true }) → ⊥
locked can = false≢true (sym (can.free refl).0.free)

-- what was read: the file, and no journal
abbrev read : Kept
read = record {
  access = Changes;
  file = Some file;
  journal = journal;
  last = Nothing;
  old_file = Some (record {
    given = file;
    path = file;
    number = Some 0;
    look = Some (Some (record { number = 0; version = 0; length = 1; rights = rights; is_link = false }));
  });
  old_journal = Some (record { given = journal; path = journal; number = None; look = None });
}

abbrev Puts : State → Type 0
Puts = CanPut small read (writes_by (74 ∷ []) (Some (66 ∷ [])))

puts : Puts disk
puts = record {
  short = (omega arith, (omega arith, tt));
  begins = record {
    unchanged = record {
      file_stands = record { at = refl; seen = record { number = refl; version = refl; rights = refl }; led = refl };
      journal_stands = record { at = refl; seen = refl; led = refl };
      is_regular = tt;
    };
    is_regular = refl;
    file_end = refl;
    journal_end = refl;
    clear = record {
      apart = record {
        file_new_file = λ is. omega (arith, ap length is);
        journal_new_journal = λ is. omega (arith, ap length is);
        pair = λ is. omega (arith, ap length is);
        file_new_journal = λ is. omega (arith, ap length is);
        journal_new_file = λ is. omega (arith, ap length is);
        new_pair = λ is. omega (arith, ap length is);
      };
      left = record { journal = tt; file = tt };
      new_journal = tt;
      new_file = tt;
    };
  };
}

-- but not where the file was written since it was read
written : Puts (wrote disk 0 (65 ∷ [])) → ⊥
written can = omega (arith, can.begins.unchanged.file_stands.seen.version)

-- ---- what is noted of both

abbrev Noted : State → Type 0
Noted = AreAsNoted small read

noted : Noted disk
noted = (record { number = refl; version = refl; rights = refl }, refl)

-- the file was written since, or a journal came to be
rewritten : Noted (wrote disk 0 (65 ∷ [])) → ⊥
rewritten seen = omega (arith, seen.0.version)

came : Noted (record disk { at = put disk.at journal (Some 1) }) → ⊥
came seen = some_none 1 seen.1

-- the file is read, and noted so; not where another program has locked it
abbrev Free : State → Type 0
Free = IsReadFree small file (Some (Some (record { number = 0; version = 0; length = 1; rights = rights; is_link = false })))

free : Free disk
free = record { seen = record { number = refl; version = refl; rights = refl }; free = λ _. refl }

held : Free (record disk { held = λ n. true }) → ⊥
held read = false≢true (sym (read.free refl))

-- ---- calls of the home

-- nothing is noted before the first read
abbrev unread : Kept
unread = record read { old_file = None; old_journal = None }

notes : NotesRead small unread read (small.story disk) (got Base (65 ∷ []))
notes = free

notes_nothing : NotesRead small unread unread (small.story disk) (got Base (65 ∷ [])) → ⊥
notes_nothing none = none

-- a read of the journal doesn't forget what is noted of the file
forgets : NotesRead small read (record read { old_file = None }) (small.story disk) (got Journal []) → ⊥
forgets notes = false≢true (ap is_some notes.0)

abbrev both : List Write
both = writes_by (74 ∷ []) (Some (66 ∷ []))

replaces : ReplacesNoted small read (small.story disk) (put_all both) (small.story disk)
replaces = noted

-- where the file was written since it was read, it isn't replaced; a put that fails then changes nothing
overwrites : ReplacesNoted small read (small.story (wrote disk 0 (65 ∷ []))) (put_all both) (small.story disk) → ⊥
overwrites = rewritten

gives_up : ReplacesNoted small read (small.story (wrote disk 0 (65 ∷ []))) (put_some both 0) (small.story (wrote disk 0 (65 ∷ [])))
gives_up = inl refl

-- a put of the journal alone doesn't put the bytes of the file in its place again
touched : Spares file disk (wrote disk 0 (65 ∷ [])) → ⊥
touched spares = omega (arith, spares.version 0 (inl refl))
