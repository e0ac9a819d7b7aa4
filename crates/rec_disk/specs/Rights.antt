-- The rights of a file: its owner, its group, and by its mode 4 to read, 2 to write, 1 to run, for each of owner, group
-- and others.
use Rattle.std.specs.Prelude.{◌≡◌, ℕ, ◌+◌, ◌*◌, ◌/◌, ◌%◌, ◌==◌, Bool, true, false, bit_and, if◌then◌else◌}
use Rattle.std.specs.Prelude.{Option, option_map, unwrap_or}
use Rattle.rec_disk.specs.declared.log.Rights.{Rights}

-- the octal digits of a mode
abbrev pub others_of : ℕ → ℕ
others_of mode = mode % 8

abbrev pub group_of : ℕ → ℕ
group_of mode = mode / 8 % 8

abbrev pub owner_of : ℕ → ℕ
owner_of mode = mode / 64 % 8

abbrev pub special_of : ℕ → ℕ
special_of mode = mode / 512 % 8

-- what group and others may at most: where the group is another one, what both of them might
abbrev pub most_by_group : ℕ → Bool → ℕ
most_by_group mode true = 7
most_by_group mode false = bit_and (group_of mode) (others_of mode)

-- and where the owner is another one, what the owner might
abbrev pub most_by_owner : ℕ → Bool → ℕ
most_by_owner mode true = 7
most_by_owner mode false = owner_of mode

-- by whether the owner was kept, and whether the group was
abbrev pub most : ℕ → Bool → Bool → ℕ
most mode owner_kept group_kept = bit_and (most_by_group mode group_kept) (most_by_owner mode owner_kept)

-- of the special bits, to run as the owner (4) goes with the owner, to run as the group (2) with the group
abbrev pub special_left : ℕ → Bool → Bool → ℕ
special_left bits owner_kept group_kept = (if owner_kept then bits / 4 else 0) * 4 + (if group_kept then bits / 2 % 2
    else 0) * 2 + bits % 2

-- all that is left of a mode
abbrev pub left_mode : ℕ → Bool → Bool → ℕ
left_mode mode owner_kept group_kept =
    special_left (special_of mode) owner_kept group_kept * 512 + owner_of mode * 64
    + bit_and (group_of mode) (most mode owner_kept group_kept) * 8
    + bit_and (others_of mode) (most mode owner_kept group_kept)

-- to read and to write, for all three
abbrev pub read_or_write : ℕ
read_or_write = (6 * 8 + 6) * 8 + 6

-- to read and to write, for the owner alone
abbrev pub own_mode : ℕ
own_mode = 6 * 64

-- the rights of a model to read and to write, and of these, where there is an older file, those that this had too
abbrev pub narrow : Rights → Option Rights → Rights
narrow model older = record model {
  mode = bit_and (bit_and model.mode read_or_write) (unwrap_or (option_map (λ one. one.mode) older) read_or_write);
}

-- the owners and the groups to which the system lets a file be given
pub record Lets : Type 0 where
  pub owner : ℕ → Bool
  pub group : ℕ → Bool

-- of the rights that were wanted these are the owner and the group, where the system lets them be given, and of the
-- mode what goes with those that the file has
pub record AreLet (lets : Lets) (wanted rights : Rights) : Type 0 where
  pub owner : lets.owner wanted.owner ≡ true → rights.owner ≡ wanted.owner
  pub group : lets.group wanted.group ≡ true → rights.group ≡ wanted.group
  pub mode : rights.mode ≡ left_mode wanted.mode (rights.owner == wanted.owner) (rights.group == wanted.group)
