-- Whether the pages of segments can be put into a store, and where those of long values then stand.
use Rattle.std.specs.Prelude.{◌≡◌, ℕ, ◌+◌, ◌≤◌, ◌<◌, ◌++◌, true, if◌then◌else◌, List, [], length, map, sum, take}
use Rattle.std.specs.Prelude.{IfSome}
use Rattle.std.specs.Prelude.{slice_index}
use Rattle.std.specs.List.{range_with_len}
use Rattle.page_source.specs.Objects.{Store}
use Rattle.schema_text.specs.declared.table.Format.{Format}
use Rattle.space_layout.specs.Numbers.{IsShape, size_at, space_pages, segment_page}
use Rattle.space_layout.specs.NumberedPages.{Numbered}
use Rattle.space_layout.specs.ValuePlaces.{pages_before_field, value_page_number, value_page_count}
use Rattle.row_layout.specs.StoredRow.{Stored, stored_at, off_bytes}
use Rattle.row_layout.specs.HoldsValues.{pages_of_stored, stored_in}
use Rattle.space_builder.specs.layout.ValuePage.{page_counts, pages_of_row, pages_of_values}
use Rattle.space_builder.specs.build.Puts.{HaveOnePage}
use Rattle.space_builder.specs.calls.Picked.{first_page_in}

-- pages of segments of these sizes lie below the size of the store
pub record TakesPages (store : Store) (sizes : List ℕ) : Type 0 where
  pub shape : IsShape sizes
  pub below : IfSome store.size (λ size. space_pages sizes ≤ size)

-- the leaf segment of the first index has so many pages
pub record HasLeafPages (sizes : List ℕ) (count : ℕ) : Type 0 where
  pub segment : 1 < length sizes
  pub pages : count ≤ size_at sizes 1

-- the bytes of a field that are off the page of its record
abbrev pub gone_bytes : Format → Stored → List ℕ
gone_bytes format field = if field.off then off_bytes format field else []

-- the pages of a row, field by field, from a place of the leaf segment of the first index on, and how many they are
abbrev pub row_counts : Format → List Stored → List ℕ
row_counts format row = map (pages_of_stored format) row

abbrev pub row_number : List ℕ → ℕ → List ℕ → ℕ → ℕ → ℕ
row_number sizes at counts i k = segment_page sizes 1 (at + pages_before_field counts i + k)

abbrev pub row_pages : Format → List ℕ → ℕ → List Stored → List Numbered
row_pages format sizes at row = pages_of_row format (row_number sizes at (row_counts format row)) row

-- the first of so many pages, 0 if there is none, and the first page of each field of a row
abbrev pub first_page : (ℕ → ℕ) → ℕ → ℕ
first_page number count = slice_index (map number (range_with_len 0 count)) 0

abbrev pub first_pages : Format → (ℕ → ℕ → ℕ) → List Stored → List ℕ
first_pages format number row =
    map (λ i. first_page (number i) (pages_of_stored format (stored_at row i))) (range_with_len 0 (length row))

abbrev pub row_first_pages : Format → List ℕ → ℕ → List Stored → List ℕ
row_first_pages format sizes at row = first_pages format (row_number sizes at (row_counts format row)) row

-- the pages of a row can be put
pub record TakesRow (store : Store) (format : Format) (sizes : List ℕ) (at : ℕ) (row : List Stored) : Type 0 where
  pub takes : TakesPages store sizes
  pub has : HasLeafPages sizes (at + sum (row_counts format row))
  pub one : HaveOnePage (row_pages format sizes at row)

-- the pages of all rows, behind so many leaves
abbrev pub number_behind : Format → List ℕ → ℕ → List (List Stored) → ℕ → ℕ → ℕ → ℕ
number_behind format sizes leaves rows = value_page_number sizes leaves (page_counts format rows)

abbrev pub pages_behind : Format → List ℕ → ℕ → List (List Stored) → List Numbered
pages_behind format sizes leaves rows = pages_of_values format (number_behind format sizes leaves rows) rows

-- the page on which each field begins that goes on off the page of its record
abbrev pub first_page_behind : Format → List ℕ → ℕ → List (List Stored) → ℕ → ℕ → ℕ
first_page_behind format sizes leaves rows r i =
    first_page (number_behind format sizes leaves rows r i) (pages_of_stored format (stored_at (stored_in rows r) i))

abbrev pub AreFirstPages : Format → List ℕ → ℕ → List (List Stored) → List ℕ → List ℕ → Type 0
AreFirstPages format sizes leaves rows starts pages =
    (r i : ℕ) → r < length rows → i < length (stored_in rows r) → (stored_at (stored_in rows r) i).off ≡ true
    → first_page_in starts pages r i 0 ≡ first_page_behind format sizes leaves rows r i

pub record TakesValues (store : Store) (format : Format) (sizes : List ℕ) (leaves : ℕ) (rows : List (List Stored))
    : Type 0 where
  pub takes : TakesPages store sizes
  pub has : HasLeafPages sizes (leaves + value_page_count (page_counts format rows))
  pub one : HaveOnePage (pages_behind format sizes leaves rows)

-- the first pages of the fields of the first so many rows are kept
pub record AreKept (format : Format) (sizes : List ℕ) (leaves : ℕ) (rows : List (List Stored)) (count : ℕ)
    (starts pages : List ℕ) : Type 0 where
  pub few : length starts ≤ count
  pub inside : (r i : ℕ) → r < count → i < length (stored_in rows r) → (stored_at (stored_in rows r) i).off ≡ true
      → slice_index starts r + i < length pages
  pub each : (r i : ℕ) → r < count → i < length (stored_in rows r) → (stored_at (stored_in rows r) i).off ≡ true
      → first_page_in starts pages r i 0 ≡ first_page_behind format sizes leaves rows r i

-- this list of the first pages of the fields of row r stands behind the others, if one of these goes off the page
pub record KeepsRow (row : List Stored) (r : ℕ) (list starts starts_now pages pages_now : List ℕ) : Type 0 where
  pub few : length starts_now ≤ r + 1
  pub same : (q : ℕ) → q < r → slice_index starts_now q ≡ slice_index starts q
  pub begins : take (length pages) pages_now ≡ pages
  pub start : (i : ℕ) → i < length row → (stored_at row i).off ≡ true → slice_index starts_now r ≡ length pages
  pub all : (i : ℕ) → i < length row → (stored_at row i).off ≡ true → pages_now ≡ pages ++ list
