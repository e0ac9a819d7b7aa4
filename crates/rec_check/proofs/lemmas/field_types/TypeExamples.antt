-- Types at examples, which compute.
use Rattle.std.specs.Prelude.{codes}
use Rattle.std.proofs.Common.{◌≡◌, ℕ, pos, negsuc, true, false, List, [], ◌∷◌, Option, Some, None, refl}
use Rattle.rec_check.specs.Types.{FieldType, integer, range, size, truth, one_of, unchecked, fits, pattern_in, Written, typing_of}

-- ---- how a type is written

abbrev only_n : List ℕ → FieldType (List ℕ) → Option Written
only_n kind value_type = Some (record { names = codes "N" ∷ []; kind = kind; value_type = value_type })

pub commas_join_names : typing_of (codes "N,M int") ≡ Some (record { names = codes "N" ∷ codes "M" ∷ []; kind = codes "int"; value_type = integer })
commas_join_names = refl

pub blank_after_a_comma_ends_the_names : typing_of (codes "N, M int") ≡ None
blank_after_a_comma_ends_the_names = refl

pub integers_have_no_words : typing_of (codes "N int 5") ≡ None
integers_have_no_words = refl

pub least_may_be_left_out : typing_of (codes "N range -5") ≡ only_n (codes "range") (range (pos 0) (negsuc 4))
least_may_be_left_out = refl

pub comments_are_blanks : typing_of (codes "N enum a(b)c") ≡ only_n (codes "enum") (one_of (codes "a" ∷ codes "c" ∷ []))
comments_are_blanks = refl

pub comments_are_no_words : typing_of (codes "N enum (a)") ≡ None
comments_are_no_words = refl

pub delimiter_may_stand_inside : pattern_in (codes "|a|b|") ≡ Some (codes "a|b")
delimiter_may_stand_inside = refl

pub other_kinds_are_unchecked : typing_of (codes "N real") ≡ only_n (codes "real") unchecked
other_kinds_are_unchecked = refl

-- ---- values that fit

pub ends_of_a_range_fit : fits (range (pos 1) (pos 10)) (codes "0xA") ≡ true
ends_of_a_range_fit = refl

pub nothing_fits_an_empty_range : fits (range (pos 10) (pos 1)) (codes "5") ≡ false
nothing_fits_an_empty_range = refl

-- two letters of two bytes
pub size_is_in_characters : fits (size 2) (195 ∷ 164 ∷ 195 ∷ 182 ∷ []) ≡ true
size_is_in_characters = refl

pub blanks_around_a_truth_are_dropped : fits truth (codes " yes") ≡ true
blanks_around_a_truth_are_dropped = refl
