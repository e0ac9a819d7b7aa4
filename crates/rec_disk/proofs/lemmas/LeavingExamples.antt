-- What is left of a disk, at small ones: of two files that were made, and of one that was written.
use Rattle.std.proofs.Common.{◌≡◌, ◌≢◌, inl, inr, ℕ, zero, suc, true, false, List, [], ◌∷◌, take, length, if◌then◌else◌, Option, Some, None, refl, sym, ap, ◌∙◌, subst, arith}
use Rattle.std.specs.Prelude.{IsSome, bytes_eq}
use Rattle.std.proofs.lemmas.Bool.{false≢true, cond_both}
use Rattle.rec_disk.specs.Disk.{State, put, made, wrote, synced}
use Rattle.rec_disk.specs.Lasting.{Left, Leaves, MayStand, IsMoment, MayHold, LeavesInOrder}
use Rattle.std.proofs.lemmas.Slice.Eq.{bytes_eq-Decides}
use Rattle.rec_disk.proofs.lemmas.Points.{set_kept, put_same, put_other, eq_bytes}

-- the folder of a place is its first byte, the name the second
abbrev folder : List ℕ → List ℕ
folder place = take 1 place

abbrev first : List ℕ
first = 1 ∷ 7 ∷ []

abbrev second : List ℕ
second = 1 ∷ 8 ∷ []

abbrev elsewhere : List ℕ
elsewhere = 2 ∷ 8 ∷ []

abbrev nothing : List ℕ → Option ℕ
nothing place = None

abbrev empty : State
empty = record {
  at = nothing;
  olds = [];
  bytes = λ n. [];
  safe = λ n. true;
  version = λ n. 0;
  held = λ n. false;
  rights = λ n. record { owner = 0; group = 0; mode = 0 };
  lets = record { owner = λ o. true; group = λ g. true };
}

-- file 0 is made, and then file 1, in the same folder or in another one
abbrev one : State
one = made empty first 0

abbrev same_folder : State
same_folder = made one second 1

abbrev two_folders : State
two_folders = made one elsewhere 1

abbrev left : (List ℕ → Option ℕ) → Left
left at = record { at = at; bytes = λ n. [] }

-- the files are empty, so nothing of them is lost
nothing_lost : (s : State) → ((n : ℕ) → s.bytes n ≡ []) → (n : ℕ) → MayHold true s n []
nothing_lost s empty n = (inl (0, refl), λ _. sym (empty n))

are_empty : (n : ℕ) → same_folder.bytes n ≡ []
are_empty n = set_kept one.bytes 1 n [] refl (set_kept empty.bytes 0 n [] refl refl)

-- ---- in one folder

-- a crash may take both, or the second
both_go : LeavesInOrder true folder same_folder (left nothing)
both_go = record { at = λ _. (nothing, inr (inr (inl refl)), λ p _. refl); bytes = nothing_lost same_folder are_empty }

second_goes : LeavesInOrder true folder same_folder (left one.at)
second_goes = record { at = λ _. (one.at, inr (inl refl), λ p _. refl); bytes = nothing_lost same_folder are_empty }

-- but not the first alone
first_stays : LeavesInOrder true folder same_folder (left (put nothing second (Some 1))) → ⊥
first_stays leaves =
    let (m, moment, same) = leaves.at (1 ∷ []) in
    let none : m first ≡ None = sym (same first refl) in
    let some : m second ≡ Some 1 = sym (same second refl) in
    elim moment [
      | inl now ↦ false≢true (subst IsSome (sym (ap (λ (at : List ℕ → Option ℕ). at first) now) ∙ none) refl)
      | inr old ↦ elim old [
        | inl before ↦ false≢true (subst IsSome (sym some ∙ ap (λ (at : List ℕ → Option ℕ). at second) before) refl)
        | inr older ↦ elim older [
          | inl begin ↦ false≢true (subst IsSome (sym some ∙ ap (λ (at : List ℕ → Option ℕ). at second) begin) refl)
          | inr none ↦ absurd none
        ]
      ]
    ]

-- unless the disk keeps no order
first_goes : Leaves true same_folder (left (put nothing second (Some 1)))
first_goes p = record {
  at = cond_both (bytes_eq p second) (Some 1) None (MayStand true same_folder p)
      (λ is. inl (sym (put_same one.at second p (Some 1) ((bytes_eq-Decides p second).0 is)))) (λ _. inr (inr (inl refl)));
  bytes = λ n _ _. sym (are_empty n);
}

-- and a stop takes nothing
stop_takes_nothing : LeavesInOrder false folder same_folder (left nothing) → ⊥
stop_takes_nothing leaves =
    let (m, moment, same) = leaves.at (1 ∷ []) in
    elim moment [
      | inl now ↦ false≢true (subst IsSome (sym (same second refl ∙ ap (λ (at : List ℕ → Option ℕ). at second) now)) refl)
      | inr none ↦ absurd none
    ]

-- ---- in two folders

their_bytes : (n : ℕ) → two_folders.bytes n ≡ []
their_bytes = are_empty

abbrev second_alone : List ℕ → Option ℕ
second_alone = put nothing elsewhere (Some 1)

abbrev head : List ℕ → ℕ
head [] = 0
head (byte ∷ rest) = byte

-- each folder by itself: the file that was made first may go, and the other one stay
first_goes_elsewhere : LeavesInOrder true folder two_folders (left second_alone)
first_goes_elsewhere = record {
  at = λ d.
      let of_folder = cond_both (bytes_eq d (2 ∷ [])) two_folders.at nothing
      (λ m. IsMoment true two_folders m × ((p : List ℕ) → folder p ≡ d → second_alone p ≡ m p))
      (λ is. (
        inl refl,
        λ p of. ap (λ x. if bytes_eq p elsewhere then Some 1 else x) (sym (put_other nothing first p (Some 0)
            (λ e. omega (arith, ap head (sym (ap folder e) ∙ of ∙ (bytes_eq-Decides d (2 ∷ [])).0 is))))),
      ))
      (λ isnt. (
        inr (inr (inl refl)),
        λ p of. put_other nothing elsewhere p (Some 1)
            (λ e. false≢true (sym isnt ∙ eq_bytes d (2 ∷ []) (sym of ∙ ap folder e))),
      )) in
      (if bytes_eq d (2 ∷ []) then two_folders.at else nothing, of_folder.0, of_folder.1);
  bytes = nothing_lost two_folders their_bytes;
}

-- ---- in a file

abbrev bytes : List ℕ
bytes = 7 ∷ 8 ∷ []

abbrev written : State
written = wrote one 0 bytes

beginning : MayHold true written 0 (7 ∷ [])
beginning = (inl (1, refl), λ safe. absurd (false≢true safe))

zeros : MayHold true written 0 (0 ∷ 0 ∷ [])
zeros = (inr (refl, omega arith), λ safe. absurd (false≢true safe))

not_begun : (k : ℕ) → take k bytes ≡ 8 ∷ [] → ⊥
not_begun zero is = omega (arith, ap length is)
not_begun (suc k) is = omega (arith, ap head is)

end_alone : MayHold true written 0 (8 ∷ []) → ⊥
end_alone hold = elim hold.0 [
  | inl part ↦ absurd (not_begun part.0 (sym part.1))
  | inr none ↦ absurd (false≢true none.0)
]

-- after a sync, or a stop, all of it
all_after_sync : (found : List ℕ) → MayHold true (synced written 0) 0 found → found ≡ bytes
all_after_sync found hold = hold.1 refl

all_after_stop : (found : List ℕ) → MayHold false written 0 found → found ≡ bytes
all_after_stop found hold = hold.1 refl
