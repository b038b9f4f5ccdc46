-- The groups of the directory, as a walk along the chain meets them.
use Rattle.std.specs.Prelude.{◌≡◌, ◌≢◌, ℕ, ◌+◌, ◌⊎◌, List}
use Rattle.compact_record.specs.Header.{owned_by}
use Rattle.index_page.specs.declared.directory.Groups.{Groups}
use Rattle.index_page.specs.Header.{supremum, slot_count}
use Rattle.index_page.specs.Page.{Closes}

-- one more record: one that owns none stands in the open group, and an owner closes it
abbrev pub Grows : List ℕ → Groups → ℕ → Groups → Type 0
Grows page old origin new =
    ((owned_by page origin ≡ 0) × (new ≡ record { slot = old.slot; size = old.size + 1 }))
    ⊎ ((owned_by page origin ≢ 0) × Closes page old.slot (old.size + 1) origin
    × (new ≡ record { slot = old.slot + 1; size = 0 }))

-- the supremum closes the last group, that of the last slot
pub record AreWhole (page : List ℕ) (groups : Groups) : Type 0 where
  pub last : Groups
  pub grows : Grows page groups supremum last
  pub slots : last.slot ≡ slot_count page
  pub closed : last.size ≡ 0
