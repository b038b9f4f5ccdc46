-- The pages of values, field by field and row by row.
use Rattle.std.proofs.Common.{◌≡◌, ℕ, ◌+◌, ◌<◌, ◌≤◌, ◌++◌, Bool, true, false, List, [], ◌∷◌}
use Rattle.std.proofs.Common.{length, map, get_or, slice_index, sum, Option, Some, IfSome, Ok, Err}
use Rattle.std.proofs.Common.{refl, sym, ap, ◌∙◌, subst, arith}
use Rattle.std.specs.FinMap.{get}
use Rattle.std.specs.List.{All, range_with_len, sum_by}
use Rattle.std.proofs.lemmas.List.{get_or-map, take_all}
use Rattle.std.proofs.lemmas.List.Sums.{sum_by_more, sum_by_more_le}
use Rattle.std.proofs.lemmas.List.FromFn.{get_or-map-range_with_len, length-map-range_with_len, map-range_with_len_more}
use Rattle.page_source.specs.declared.objects.PageStore.{Ghosts as StoreOf}
use Rattle.page_source.specs.Lists.{AreDistinct}
use Rattle.page_source.specs.Objects.{PageMap, Store}
use Rattle.page_source.proofs.Told.{map_told}
use Rattle.offpage_chain.specs.ValuePage.{pages_for}
use Rattle.offpage_chain.specs.Writing.{AreBelow, HoldsParts, KeepsAllBut, WritesValue}
use Rattle.schema_text.specs.declared.table.Format.{Format}
use Rattle.space_layout.specs.Numbers.{segment_page, space_pages, AreNumbers}
use Rattle.space_layout.specs.NumberedPages.{Numbered}
use Rattle.space_layout.specs.ValuePlaces.{row_at, pages_before_row, pages_before_field, value_page_count}
use Rattle.row_layout.specs.StoredRow.{Stored, stored_at}
use Rattle.row_layout.specs.HoldsValues.{pages_of_stored, stored_in}
use Rattle.row_layout.proofs.Ranges.{all_map}
use Rattle.space_builder.specs.declared.built.PutStop.TheVariants as stops
use Rattle.space_builder.specs.layout.ValuePage.{value_page_bytes, pages_of_bytes, page_counts, pages_of_field}
use Rattle.space_builder.specs.build.Puts.{numbers_of, IsHeld, PutsPages}
use Rattle.space_builder.specs.calls.Room.{TakesPages, HasLeafPages, gone_bytes, row_counts, row_number}
use Rattle.space_builder.specs.calls.Room.{first_page, number_behind}
use Rattle.space_builder.proofs.Puts.{ArePut}
use Rattle.space_builder.proofs.layout.Chains.{chain_pages_law}

-- functions that agree everywhere are one
pub same_function : {A B : Type 0} (f g : A → B) → ((x : A) → f x ≡ g x) → f ≡ g
same_function f g same = λ i x. same x i

-- a field's pages are those of the bytes that are gone
by_off : (format : Format) (number : ℕ → ℕ) (null off : Bool) (bytes : List ℕ)
    → pages_of_field format number (record { null = null; off = off; bytes = bytes })
    ≡ pages_of_bytes number (gone_bytes format (record { null = null; off = off; bytes = bytes }))
by_off format number null true bytes = refl
by_off format number null false bytes = refl

pub field_pages : (format : Format) (number : ℕ → ℕ) (field : Stored)
    → pages_of_field format number field ≡ pages_of_bytes number (gone_bytes format field)
field_pages format number field = by_off format number field.null field.off field.bytes

count_by_off : (format : Format) (null off : Bool) (bytes : List ℕ)
    → pages_of_stored format (record { null = null; off = off; bytes = bytes })
    ≡ pages_for (length (gone_bytes format (record { null = null; off = off; bytes = bytes })))
count_by_off format null true bytes = refl
count_by_off format null false bytes = refl

pub field_count_is : (format : Format) (field : Stored)
    → pages_of_stored format field ≡ pages_for (length (gone_bytes format field))
field_count_is format field = count_by_off format field.null field.off field.bytes

-- the pages of a chain
numbers_are : (number : ℕ → ℕ) (page : ℕ → List ℕ) (ks : List ℕ)
    → map (λ (entry : Numbered). entry.0) (map (λ k. (number k, page k)) ks) ≡ map number ks
numbers_are number page [] = refl
numbers_are number page (k ∷ ks) = ap (λ ns. number k ∷ ns) (numbers_are number page ks)

parts_held : (held : PageMap) (number : ℕ → ℕ) (bytes : List ℕ)
    → HoldsParts held 1 (map number (range_with_len 0 (pages_for (length bytes)))) bytes (pages_for (length bytes))
    → All (IsHeld held) (pages_of_bytes number bytes)
parts_held held number bytes parts =
    let count = pages_for (length bytes) in
    all_map (IsHeld held) (λ k. (number k, value_page_bytes number bytes k)) count (0, [])
    (λ k below.
    let here = get_or-map-range_with_len number 0 count k k 0 below (omega arith) in
    ap (get held) (sym here) ∙ parts k below
    ∙ ap (λ (page : List ℕ). Some page) (chain_pages_law number bytes k below))

module _ {T : Type 0} (g : StoreOf T) (old new : T) (number : ℕ → ℕ) (bytes : List ℕ) where
  abbrev chain_numbers : List ℕ
  chain_numbers = map number (range_with_len 0 (pages_for (length bytes)))

  kept_numbers : KeepsAllBut chain_numbers (g.told old) (g.told new)
      → KeepsAllBut (numbers_of (pages_of_bytes number bytes)) (g.told old) (g.told new)
  kept_numbers kept =
      subst (λ ns. KeepsAllBut ns (g.told old) (g.told new))
      (sym (numbers_are number (value_page_bytes number bytes) (range_with_len 0 (pages_for (length bytes))))) kept

  pub chain_put : {E : Type 0} (u : Unit {0}) → WritesValue {E = E} g old new 1 chain_numbers bytes (Ok u)
      → ArePut g old new (pages_of_bytes number bytes)
  chain_put u writes = record {
    held = map_told (g.told new).held
        (λ held parts. parts_held held number bytes
        (λ k below. parts k (let size = length-map-range_with_len number 0 (pages_for (length bytes)) in omega arith)))
        writes.held;
    others = kept_numbers writes.others;
    later = writes.cause.later;
  }

  pub chain_failed : {A E : Type 0} (e : E) → WritesValue g old new 1 chain_numbers bytes (Err e)
      → PutsPages {A = A} g old new (pages_of_bytes number bytes) (Err stops.Store)
  chain_failed e writes = record {
    held = tt;
    others = kept_numbers writes.others;
    later = writes.cause.later;
    store_rose = λ is. writes.cause.failed;
  }

-- pages of the leaf segment from a place on
module _ (sizes : List ℕ) (numbers : AreNumbers sizes) (at count : ℕ) (has : HasLeafPages sizes (at + count)) where
  abbrev pages_from : List ℕ
  pages_from = map (λ k. segment_page sizes 1 (at + k)) (range_with_len 0 count)

  from_at : (k d : ℕ) → k < count → get_or pages_from k d ≡ segment_page sizes 1 (at + k)
  from_at k d below =
      get_or-map-range_with_len (λ k. segment_page sizes 1 (at + k)) 0 count k k d below (omega arith)

  pub distinct_from : AreDistinct pages_from
  distinct_from i j d before inside same =
      let size = length-map-range_with_len (λ k. segment_page sizes 1 (at + k)) 0 count in
      let room = has.pages in
      let first = from_at i d (omega arith) in
      let second = from_at j d (omega arith) in
      let one = numbers.one 1 1 (at + i) (at + j) (omega arith) (omega arith) (sym first ∙ same ∙ second) in
      let place = one.1 in
      omega arith

  below_all : (size : ℕ) → space_pages sizes ≤ size → All (λ n. n < size) pages_from
  below_all size most =
      all_map (λ n. n < size) (λ k. segment_page sizes 1 (at + k)) count 0
      (λ k below.
      let room = has.pages in
      let high = numbers.high 1 (at + k) (segment_page sizes 1 (at + k))
      record { below = has.segment; inside = omega arith; there = refl } in
      omega arith)

  pub below_from : {T : Type 0} (g : StoreOf T) (store : T) → TakesPages (g.told store) sizes
      → AreBelow g store pages_from
  below_from g store takes = map_told (g.told store).size below_all takes.below

-- a store that keeps its size takes the pages as before
pub takes_still : (old now : Store) (sizes : List ℕ) → now.size ≡ old.size → TakesPages old sizes → TakesPages now sizes
takes_still old now sizes same takes = record {
  shape = takes.shape;
  below = subst (λ (o : Option ℕ). IfSome o (λ size. space_pages sizes ≤ size)) (sym same) takes.below;
}

-- how many pages come before a field, and before the next one
pub before_none : (counts : List ℕ) → pages_before_field counts 0 ≡ 0
unfolding pages_before_field
before_none counts = refl

pub before_more : (counts : List ℕ) (i : ℕ) → i < length counts
    → pages_before_field counts (i + 1) ≡ pages_before_field counts i + slice_index counts i
unfolding pages_before_field
before_more counts i inside = sum_by_more (λ (n : ℕ). n) counts i 0 inside

pub before_all : (counts : List ℕ) → pages_before_field counts (length counts) ≡ sum counts
unfolding pages_before_field
before_all counts = ap (λ (ns : List ℕ). sum ns) (take_all (length counts) counts (omega arith))

pub before_room : (counts : List ℕ) (i : ℕ) → i < length counts
    → pages_before_field counts i + slice_index counts i ≤ sum counts
unfolding pages_before_field
before_room counts i inside = sum_by_more_le (λ (n : ℕ). n) counts i 0 inside

-- and before a row
pub rows_more : (counts : List (List ℕ)) (r : ℕ) → r < length counts
    → pages_before_row counts (r + 1) ≡ pages_before_row counts r + sum (row_at counts r)
unfolding pages_before_row
rows_more counts r inside = sum_by_more (λ (row : List ℕ). sum row) counts r [] inside

pub rows_room : (counts : List (List ℕ)) (r : ℕ) → r < length counts
    → pages_before_row counts r + sum (row_at counts r) ≤ value_page_count counts
unfolding pages_before_row
rows_room counts r inside =
    let all = ap (sum_by (λ (row : List ℕ). sum row)) (take_all (length counts) counts (omega arith)) in
    let room = sum_by_more_le (λ (row : List ℕ). sum row) counts r [] inside in
    omega arith

-- the counts of a field, and of a row
pub count_at : (format : Format) (row : List Stored) (i : ℕ) → i < length row
    → slice_index (row_counts format row) i ≡ pages_of_stored format (stored_at row i)
count_at format row i inside =
    get_or-map (pages_of_stored format) row i (record { null = true; off = false; bytes = [] }) 0 inside

pub counts_at : (format : Format) (rows : List (List Stored)) (r : ℕ) → r < length rows
    → row_at (page_counts format rows) r ≡ row_counts format (stored_in rows r)
counts_at format rows r inside =
    get_or-map (λ (row : List Stored). map (pages_of_stored format) row) rows r [] [] inside

-- the numbers of the pages of a row among those of all rows
pub row_number_is : (format : Format) (sizes : List ℕ) (leaves : ℕ) (rows : List (List Stored)) (r at : ℕ)
    → r < length rows → at ≡ leaves + pages_before_row (page_counts format rows) r
    → row_number sizes at (row_counts format (stored_in rows r)) ≡ number_behind format sizes leaves rows r
row_number_is format sizes leaves rows r at inside is =
    let counts = counts_at format rows r inside in
    same_function (row_number sizes at (row_counts format (stored_in rows r)))
    (number_behind format sizes leaves rows r)
    (λ i. same_function (row_number sizes at (row_counts format (stored_in rows r)) i)
    (number_behind format sizes leaves rows r i)
    (λ k.
    let before = ap (λ (row : List ℕ). pages_before_field row i) counts in
    ap (segment_page sizes 1)
    (place at leaves (pages_before_row (page_counts format rows) r)
    (pages_before_field (row_counts format (stored_in rows r)) i)
    (pages_before_field (row_at (page_counts format rows) r) i) k is before)))
  where
    place : (at leaves before field same k : ℕ) → at ≡ leaves + before → same ≡ field
        → at + field + k ≡ leaves + (before + (same + k))
    place at leaves before field same k is e = omega arith

-- one more first page
pub first_more : (format : Format) (number : ℕ → ℕ → ℕ) (row : List Stored) (i : ℕ)
    → map (λ i. first_page (number i) (pages_of_stored format (stored_at row i))) (range_with_len 0 (i + 1))
    ≡ map (λ i. first_page (number i) (pages_of_stored format (stored_at row i))) (range_with_len 0 i)
    ++ first_page (number i) (pages_of_stored format (stored_at row i)) ∷ []
first_more format number row i =
    map-range_with_len_more (λ i. first_page (number i) (pages_of_stored format (stored_at row i))) 0 i i (omega arith)
