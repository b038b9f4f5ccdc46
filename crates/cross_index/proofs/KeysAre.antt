-- The keys among the kept values are those that the rows ask for.
use Rattle.std.proofs.Common.{◌≡◌, ℕ, zero, suc, ◌+◌, ◌*◌, ◌<◌, List, [], ◌∷◌}
use Rattle.std.proofs.Common.{length, get_or}
use Rattle.std.proofs.Common.{map, take, flat_map, Option, None, refl, sym, ap, ◌∙◌}
use Rattle.std.proofs.Common.{arith}
use Rattle.std.specs.List.{range_with_len}
use Rattle.std.proofs.lemmas.List.{get_or-map, length-map, length-append, length-take-le}
use Rattle.std.proofs.lemmas.List.Concat.{get_or-flat_map}
use Rattle.std.proofs.lemmas.List.FromFn.{length-map-range_with_len, get_or-map-range_with_len}
use Rattle.column_values.specs.Order.{Key}
use Rattle.schema_text.specs.TableDef.{TableDef}
use Rattle.tree_walk.specs.Index.{Index, Row, no_row}
use Rattle.table_check.specs.Trees.{clustered_tree}
use Rattle.schema_text.specs.IndexFields.{entry_fields}
use Rattle.cross_index.specs.Entries.{field_of_row, projection, rows_in, row_keys}
use Rattle.cross_index.specs.calls.Kept.{kept_key, kept_keys}
use Rattle.cross_index.specs.calls.Gather.{kept_fields, kept_cells, IsGathered, StandsAt}

-- lists of one length with the same members, place by place
same_list : {X : Type 0} (xs ys : List X) (d : X) → length xs ≡ length ys
    → ((j : ℕ) → j < length xs → get_or xs j d ≡ get_or ys j d) → xs ≡ ys
same_list [] [] d size each = refl
same_list [] (y ∷ ys) d size each = absurd (omega (arith, size))
same_list (x ∷ xs) [] d size each = absurd (omega (arith, size))
same_list {X = X} (x ∷ xs) (y ∷ ys) d size each =
    let first : x ≡ y = each zero (omega arith) in
    let rest : xs ≡ ys = same_list xs ys d (omega (arith, size)) (λ j within. each (suc j) (omega (arith, within))) in
    ap (λ (z : X). z ∷ xs) first ∙ ap (λ (zs : List X). y ∷ zs) rest

-- pieces of one length
pieces_size : {X Y : Type 0} (f : X → List Y) (w : ℕ) (xs : List X) → ((x : X) → length (f x) ≡ w)
    → length (flat_map f xs) ≡ length xs * w
pieces_size f w [] each = grind arith
pieces_size f w (x ∷ xs) each =
    let rest = pieces_size f w xs each in
    let size = length-append (f x) (flat_map f xs) in
    size ∙ rw (each x, rest) (suc_times (length xs) w)
  where
    suc_times : (n w : ℕ) → w + n * w ≡ suc n * w
    suc_times n w = grind arith

module _ (file : List ℕ) (table : TableDef) (i : ℕ) (cells : Key) (n : ℕ) (slots : List ℕ)
    (gathered : IsGathered file table cells n) (size : length slots ≡ length (entry_fields table i))
    (stand : (j : ℕ) → j < length (entry_fields table i)
    → StandsAt (kept_fields table) (get_or slots j 0) (get_or (entry_fields table i) j 0)) where
  abbrev index : Index
  index = clustered_tree file table

  abbrev width : ℕ
  width = length (kept_fields table)

  abbrev values_of : Row → Key
  values_of row = map (field_of_row index row) (kept_fields table)

  row_size : (row : Row) → length (values_of row) ≡ width
  row_size row = length-map (kept_fields table) (field_of_row index row)

  -- a value of a row
  cell_is : (r s : ℕ) → r < n → s < width
      → get_or cells (r * width + s) None
      ≡ field_of_row index (get_or (rows_in file table) r no_row) (get_or (kept_fields table) s 0)
  unfolding kept_cells
  cell_is r s r_within s_within =
      let rows = rows_in file table in
      let inside : r < length rows = omega (arith, r_within, gathered.counted) in
      let row = get_or rows r no_row in
      let front : length (flat_map values_of (take r rows)) ≡ r * width =
      pieces_size values_of width (take r rows) row_size
      ∙ ap (λ (m : ℕ). m * width) (length-take-le r rows (omega (arith, inside))) in
      ap (λ (c : Key). get_or c (r * width + s) None) gathered.kept
      ∙ ap (λ (m : ℕ). get_or (flat_map values_of rows) (m + s) None) (sym front)
      ∙ get_or-flat_map values_of rows r s no_row None inside (omega (arith, s_within, row_size row))
      ∙ get_or-map (field_of_row index row) (kept_fields table) s 0 None s_within

  -- the key of a row
  key_is : (r : ℕ) → r < n
      → kept_key cells width slots r ≡ projection file table i (get_or (rows_in file table) r no_row)
  unfolding kept_key
  key_is r within =
      let row = get_or (rows_in file table) r no_row in
      let f : ℕ → Option (List ℕ) = λ slot. get_or cells (r * width + slot) None in
      let left = length-map slots f in
      let right = length-map (entry_fields table i) (field_of_row index row) in
      same_list (map f slots) (projection file table i row) None (left ∙ size ∙ sym right)
      (λ j inside.
      let below : j < length (entry_fields table i) = omega (arith, inside, left, size) in
      let at = stand j below in
      get_or-map f slots j 0 None (omega (arith, below, size))
      ∙ cell_is r (get_or slots j 0) within at.within
      ∙ ap (field_of_row index row) at.is
      ∙ sym (get_or-map (field_of_row index row) (entry_fields table i) j 0 None below))

  pub keys_are : kept_keys cells width slots n ≡ row_keys file table i
  unfolding kept_keys row_keys
  keys_are =
      let rows = rows_in file table in
      let left = length-map-range_with_len (kept_key cells width slots) 0 n in
      let right = length-map rows (projection file table i) in
      same_list (map (kept_key cells width slots) (range_with_len 0 n)) (map (projection file table i) rows) []
      (omega (arith, left, right, gathered.counted))
      (λ r inside.
      let below : r < n = omega (arith, inside, left) in
      get_or-map-range_with_len (kept_key cells width slots) 0 n r r [] below (omega arith)
      ∙ key_is r below
      ∙ sym (get_or-map (projection file table i) rows r no_row [] (omega (arith, below, gathered.counted))))
