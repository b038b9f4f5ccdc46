-- The entries above the leaves: each is the key of a leaf entry and the number of a page.
use Rattle.std.specs.Prelude.{ℕ, ◌<◌, List, length, slice_index_or, All}
use Rattle.page_packer.specs.Entries.{Entry, entry_at}
use Rattle.tree_layout.specs.Division.{pointer_with}
use Rattle.space_builder.specs.declared.entries.Pointer.{Pointer}

-- the entry of a pointer, where these are the leaf entries
abbrev pub pointing : ℕ → List Entry → Pointer → Entry
pointing keys leaves pointer = pointer_with keys (entry_at leaves pointer.first) pointer.page

-- pointer k
abbrev pub pointer_at : List Pointer → ℕ → Pointer
pointer_at pointers k = slice_index_or pointers k (record { first = 0; page = 0 })

-- each pointer has the key of one of the leaf entries
abbrev pub PointInto : List Entry → List Pointer → Type 0
PointInto leaves pointers = All (λ (pointer : Pointer). pointer.first < length leaves) pointers
