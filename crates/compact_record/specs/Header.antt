-- The five bytes before the origin of a record (rem0rec).
use Rattle.std.specs.Prelude.{ℕ, ◌+◌, ◌-◌, ◌/◌, ◌%◌, ◌≤◌, Bool, ◌==◌, if◌then◌else◌, List, slice_index}
use Rattle.page_source.specs.Pages.{num}

-- the header before this origin lies on the page
abbrev pub HasHeaderBytes : ℕ → Type 0
HasHeaderBytes origin = (5 ≤ origin) × (origin ≤ 16384)

-- how far the next record's origin is ahead, 0 at the end
abbrev pub next_field : List ℕ → ℕ → ℕ
next_field page origin = num page (origin - 2) 2

-- the record that the next field leads to, 0 at the end
unfoldable pub next_origin : List ℕ → ℕ → ℕ
next_origin page origin = if next_field page origin == 0 then 0 else (origin + next_field page origin) % 16384

-- the number of a record in the heap
unfoldable pub heap_number : List ℕ → ℕ → ℕ
heap_number page origin = num page (origin - 4) 2 / 8

-- 0 ordinary, 1 node pointer, 2 infimum, 3 supremum
unfoldable pub status_of : List ℕ → ℕ → ℕ
status_of page origin = slice_index page (origin - 3) % 8

-- how many records a record owns, 0 if it owns none
unfoldable pub owned_by : List ℕ → ℕ → ℕ
owned_by page origin = slice_index page (origin - 5) % 16

-- the minimum mark, bit 4 of the first byte of the header
unfoldable pub is_minimum : List ℕ → ℕ → Bool
is_minimum page origin = slice_index page (origin - 5) / 16 % 2 == 1

-- the delete mark, bit 5 of the first byte of the header
unfoldable pub is_deleted : List ℕ → ℕ → Bool
is_deleted page origin = slice_index page (origin - 5) / 32 % 2 == 1
