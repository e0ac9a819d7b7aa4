-- Selected records are records.
use Rattle.std.proofs.Common.{ℕ, ◌<◌, List, length, Option, Ok, arith}
use Rattle.std.specs.List.{AllByRecursion, Contains}
use Rattle.std.proofs.lemmas.List.Elements.{recursion_from_All, All-contains_itself}
use Rattle.rec_text.specs.Elements.{Piece}
use Rattle.rec_check.specs.Schemas.{Described, IsDescribed}
use Rattle.rec_select.specs.Printing.{AreIndexes}
use Rattle.rec_select.specs.Selection.{Filter, IsSelection}
use Rattle.rec_select.proofs.lemmas.selection.SelectionLemmas.{members_within}

all_below : (n : ℕ) (xs : List ℕ) → ((i : ℕ) → Contains xs i → i < n) → AllByRecursion (λ i. i < n) xs
all_below n xs below = recursion_from_All (λ i. i < n) xs (λ k d lt. below _ (All-contains_itself xs k d lt))

pub selected_are_records : (pieces : List Piece) (described : Described) (record_type : Option (List ℕ)) (wanted : Filter) (selected : List ℕ) → IsDescribed pieces described
    → IsSelection pieces described.sets record_type wanted (Ok selected) → AreIndexes pieces selected
selected_are_records pieces described record_type wanted selected is (s, found, chosen) = (
  chosen.records,
  chosen.are,
  all_below (length chosen.records) selected (λ i contains.
      omega (arith, (chosen.members i).0 contains, members_within pieces described chosen.records record_type s is chosen.are found)),
)
