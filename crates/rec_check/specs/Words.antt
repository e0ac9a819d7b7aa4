-- Words of a value, and lists of names.
use Rattle.std.specs.Prelude.{ℕ, Bool, not, List, [], ◌∷◌, filter, Option, Some, None, if◌then◌else◌}
use Rattle.std.specs.List.{slice_split}
use Rattle.std.specs.Str.{bytes_eq}
use Rattle.rec_text.specs.Bytes.{is_space, is_nil}
use Rattle.rec_text.specs.Spaces.{without_prefix, without_ends}

-- the words of a text: what stands between blanks and newlines and isn't empty
abbrev pub words : List ℕ → List (List ℕ)
words text = filter (λ word. not (is_nil word)) (slice_split is_space text)

-- without the blanks and newlines at both ends
abbrev pub stripped : List ℕ → List ℕ
stripped text = without_ends is_space text

-- what stands after the first word
abbrev pub after_word : List ℕ → List ℕ
after_word [] = []
after_word (b ∷ bs) = if is_space b then b ∷ bs else after_word bs

abbrev pub after_first_word : List ℕ → List ℕ
after_first_word text = after_word (without_prefix is_space text)

-- ---- names and lists

-- the last element that passes a test
abbrev pub last_that : {X : Type 0} → (X → Bool) → List X → Option X
last_that test [] = None
last_that test (x ∷ xs) = elim (last_that test xs) [
  | Some later ↦ Some later
  | None ↦ if test x then Some x else None
]

-- each once, where it stands first
abbrev pub distinct : List (List ℕ) → List (List ℕ)
distinct [] = []
distinct (name ∷ names) = name ∷ filter (λ other. not (bytes_eq name other)) (distinct names)
