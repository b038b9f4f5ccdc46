-- The pages of values that go on off the pages of their records.
use Rattle.std.specs.Prelude.{◌≡◌, ℕ, ◌<◌, List, length, map, flat_map}
use Rattle.std.specs.List.{range_with_len}
use Rattle.offpage_chain.specs.ValuePage.{pages_for, blob_part, part_page, value_page}
use Rattle.schema_text.specs.declared.table.Format.{Format}
use Rattle.space_layout.specs.NumberedPages.{Numbered}
use Rattle.row_layout.specs.StoredRow.{Stored, stored_at, off_bytes}
use Rattle.row_layout.specs.HoldsValues.{next_number, pages_of_stored, stored_in}

-- the page of part k of some bytes, where part i has the page `number i`
unfoldable pub value_page_bytes : (ℕ → ℕ) → List ℕ → ℕ → List ℕ
value_page_bytes number bytes k =
    part_page 1 (number k) (next_number number (pages_for (length bytes)) k) (blob_part bytes k)

-- the pages of a chain that is written to pages of these numbers are those of the layout
abbrev pub PagesAreOfChains : Type 0
PagesAreOfChains =
    (number : ℕ → ℕ) (bytes : List ℕ) (k : ℕ) → k < pages_for (length bytes)
    → value_page 1 (map number (range_with_len 0 (pages_for (length bytes)))) bytes k ≡ value_page_bytes number bytes k

-- the pages of some bytes
abbrev pub pages_of_bytes : (ℕ → ℕ) → List ℕ → List Numbered
pages_of_bytes number bytes =
    map (λ k. (number k, value_page_bytes number bytes k)) (range_with_len 0 (pages_for (length bytes)))

-- how many pages each field of each row goes on in
abbrev pub page_counts : Format → List (List Stored) → List (List ℕ)
page_counts format rows = map (λ row. map (pages_of_stored format) row) rows

-- the pages of a field, where part k has the page `number k`; those of a row, and of all rows, one after another
abbrev pub pages_of_field : Format → (ℕ → ℕ) → Stored → List Numbered
pages_of_field format number field =
    map (λ k. (number k, value_page_bytes number (off_bytes format field) k))
    (range_with_len 0 (pages_of_stored format field))

abbrev pub pages_of_row : Format → (ℕ → ℕ → ℕ) → List Stored → List Numbered
pages_of_row format number row =
    flat_map (λ i. pages_of_field format (number i) (stored_at row i)) (range_with_len 0 (length row))

unfoldable pub pages_of_values : Format → (ℕ → ℕ → ℕ → ℕ) → List (List Stored) → List Numbered
pages_of_values format number rows =
    flat_map (λ r. pages_of_row format (number r) (stored_in rows r)) (range_with_len 0 (length rows))
