-- The words of a text: the first one, and those after it.
use Rattle.std.proofs.Common.{◌≡◌, ◌∙◌, ℕ, ◌<◌, ◌≤◌, false, not, cond, List, [], ◌∷◌, filter, length, take, drop, Option, Some, None, unwrap_or, suc, ltb, refl, ap, sym, inl, inr, arith}
use Rattle.std.proofs.Math.Numerals.{one-add}
use Rattle.std.proofs.lemmas.Bool.{cases_Bool, cases_lt, lt-ltb, le-ltb}
use Rattle.std.proofs.lemmas.List.{nil_from_length}
use Rattle.std.proofs.lemmas.List.Sums.{prefix_len-le-length}
use Rattle.std.specs.List.{position_or_len, slice_split}
use Rattle.rec_text.specs.Bytes.{is_nil, is_space}
use Rattle.rec_text.specs.Spaces.{without_prefix}
use Rattle.rec_check.specs.Words.{words, after_word, after_first_word}

-- ---- where a word begins

pub words-without_prefix : (text : List ℕ) → words text ≡ words (without_prefix is_space text)
words-without_prefix [] = refl
words-without_prefix (b ∷ bs) = elim (cases_Bool (is_space b)) [
  | inl separates ↦ rw separates (words-without_prefix bs)
  | inr begins ↦ rw begins (rw begins refl)
]

-- a byte of a word comes first
abbrev pub BeginsWord : List ℕ → Type 0
BeginsWord [] = ⊥
BeginsWord (b ∷ bs) = is_space b ≡ false

begins_word : (text : List ℕ) → 0 < length (without_prefix is_space text) → BeginsWord (without_prefix is_space text)
begins_word [] some = absurd (omega arith)
begins_word (b ∷ bs) some = elim (cases_Bool (is_space b)) [
  | inl separates ↦ rw separates (begins_word bs (rw separates at some))
  | inr begins ↦ rw begins begins
]

-- ---- where it ends

-- how many bytes come before the first separator
abbrev pub len_of : List ℕ → ℕ
len_of bytes = position_or_len is_space bytes

after_word-drop : (bytes : List ℕ) → after_word bytes ≡ drop (len_of bytes) bytes
after_word-drop [] = refl
after_word-drop (b ∷ bs) = elim (cases_Bool (is_space b)) [
  | inl separates ↦ rw separates refl
  | inr continues ↦ rw (continues, one-add) (after_word-drop bs)
]

-- the parts of a text are the prefix up to the first separator, and others that hold the words after it
record AreParts (bytes : List ℕ) : Type 0 where
  pub others : List (List ℕ)
  pub parts : slice_split is_space bytes ≡ take (len_of bytes) bytes ∷ others
  pub words_after : filter (λ word. not (is_nil word)) others ≡ words (drop (len_of bytes) bytes)

are_parts : (bytes : List ℕ) → AreParts bytes
are_parts [] = record { others = []; parts = refl; words_after = refl }
are_parts (b ∷ bs) = elim (cases_Bool (is_space b)) [
  | inl separates ↦ record { others = slice_split is_space bs; parts = rw separates refl; words_after = rw separates (rw separates refl) }
  | inr continues ↦
      let more = are_parts bs in
      record {
        others = more.others;
        parts = rw (continues, one-add) (rw more.parts refl);
        words_after = rw (continues, one-add) more.words_after;
      }
]

-- a text that begins with a word is that word and what follows it
words-begun : (bytes : List ℕ) → BeginsWord bytes → words bytes ≡ take (len_of bytes) bytes ∷ words (drop (len_of bytes) bytes)
words-begun [] begun = absurd begun
words-begun (b ∷ bs) begun =
    let more = are_parts bs in
    let size : len_of (b ∷ bs) ≡ suc (len_of bs) = rw begun (one-add _) in
    rw (size, begun, more.parts) (ap (λ ws. (b ∷ take (len_of bs) bs) ∷ ws) more.words_after)

-- ---- as a search finds it

-- the place of a size, if there is one
abbrev place_in : ℕ → ℕ → Option ℕ
place_in size place = cond (ltb place size) (Some place) None

unwrap_or-place_in : (size place : ℕ) → place ≤ size → unwrap_or (place_in size place) size ≡ place
unwrap_or-place_in size place within = elim (cases_lt place size) [
  | inl less ↦ ap (λ b. unwrap_or (cond b (Some place) None) size) (lt-ltb place size less)
  | inr past ↦ ap (λ b. unwrap_or (cond b (Some place) None) size) (le-ltb place size past) ∙ omega arith
]

module _ (text found : List ℕ) (found_is : found ≡ without_prefix is_space text) where
  pub words-none : length found ≡ 0 → words text ≡ []
  words-none none = words-without_prefix text ∙ ap words (sym found_is) ∙ ap words (nil_from_length found none)

  pub words-some : (place : Option ℕ) (len : ℕ) (word following : List ℕ) → 0 < length found → place ≡ place_in (length found) (len_of found)
      → len ≡ unwrap_or place (length found) → word ≡ take len found → following ≡ drop len found
      → (words text ≡ word ∷ words following) × (following ≡ after_first_word text)
  words-some place len word following some place_is len_is word_is following_is =
      let begun : BeginsWord found = rw found_is (begins_word text (rw (← found_is) some)) in
      let size : len ≡ len_of found = len_is ∙ ap (λ o. unwrap_or o (length found)) place_is ∙ unwrap_or-place_in (length found) (len_of found) (prefix_len-le-length (λ b. not (is_space b)) found) in
      let after_len : following ≡ drop (len_of found) found = following_is ∙ ap (λ n. drop n found) size in
      let first : words found ≡ word ∷ words following = words-begun found begun ∙ cc in
      (words-without_prefix text ∙ ap words (sym found_is) ∙ first, after_len ∙ sym (after_word-drop found) ∙ ap after_word found_is)
