-- The rows of a file that holds them.
use Rattle.std.proofs.Common.{◌≡◌, ℕ, ◌<◌, Bool, true, false, List, [], length, map}
use Rattle.std.proofs.Common.{get_or, refl, sym, ap, ◌∙◌, subst, arith, All}
use Rattle.std.specs.List.{flat_map, range_with_len}
use Rattle.std.proofs.lemmas.Bool.{false≢true}
use Rattle.std.proofs.lemmas.List.{ext_get_or}
use Rattle.std.proofs.lemmas.List.Elements.{All-from_get_or}
use Rattle.std.proofs.lemmas.List.Folds.{flat_map-map}
use Rattle.std.proofs.lemmas.List.FromFn.{get_or-map-range_with_len, length-map-range_with_len}
use Rattle.column_values.specs.declared.field.FieldType.{FieldType}
use Rattle.column_values.specs.declared.field.FieldType.TheVariants as kinds
use Rattle.column_values.specs.declared.field.Field.{Field}
use Rattle.column_values.specs.declared.value.Value.{Value}
use Rattle.column_values.specs.declared.value.Value.TheVariants as values
use Rattle.column_values.specs.Types.{Fields, field_at, is_big, IsFieldKind}
use Rattle.column_values.specs.Laws.{SpellingSpells}
use Rattle.compact_record.specs.declared.places.Place.{Place}
use Rattle.compact_record.specs.Reading.{place_of, field_count}
use Rattle.offpage_chain.specs.Laws.{HasOneChain}
use Rattle.schema_text.specs.declared.table.Format.{Format}
use Rattle.schema_text.specs.TableDef.{TableDef, column_at}
use Rattle.schema_text.specs.IndexFields.{leaf_fields, field_of_column}
use Rattle.row_text.specs.Line.{FitsColumn}
use Rattle.schema_text.proofs.ColumnFields.{holds_column}
use Rattle.tree_walk.specs.Index.{Index, Row, no_row, page_in}
use Rattle.tree_walk.specs.Segments.{leaf_segment}
use Rattle.table_check.specs.Trees.{clustered_tree, index_in}
use Rattle.table_check.specs.Values.{live_rows, pages_of_field, pages_of_record, pages_of_row, pages_of_rows}
use Rattle.table_check.specs.Values.{all_chain_pages}
use Rattle.table_check.specs.Rows.{HasValue, IsRow, AreRows}
use Rattle.table_check.specs.Valid.{IsSoundField, IsSoundRow}
use Rattle.compact_record.specs.declared.parts.Part.TheVariants as parts
use Rattle.compact_record.specs.Writing.{part_cell, is_external_part}
use Rattle.tree_layout.specs.Entries.{part_at, HoldsEntry}
use Rattle.tree_layout.specs.Entries.{IsRowOf}
use Rattle.row_layout.specs.StoredRow.{Stored, stored_at, part_of_field, parts_of_row}
use Rattle.row_layout.specs.HoldsValues.{HoldsRows, stored_in, clustered_entry, clustered_entries, field_page_numbers}
use Rattle.row_layout.specs.HoldsValues.{row_page_numbers}
use Rattle.row_layout.specs.HoldsValues.{value_page_numbers}
use Rattle.row_layout.proofs.Ranges.{flat_same}
use Rattle.tree_layout.proofs.Zips.{zip_from, zip_length, zip_at}
use Rattle.row_layout.proofs.Held.{IsPlaceOf, held}
use Rattle.row_layout.proofs.Stored.{StoresKind}
use Rattle.row_layout.proofs.FittedRows.{are_fields, count_now, field_kept, field_stores, column_holds}

-- a list by its places
by_places : {A : Type 0} (xs : List A) (d : A) → xs ≡ map (λ i. get_or xs i d) (range_with_len 0 (length xs))
by_places xs d =
    let size = length-map-range_with_len (λ i. get_or xs i d) 0 (length xs) in
    ext_get_or d xs (map (λ i. get_or xs i d) (range_with_len 0 (length xs))) (sym size)
    (λ i within. sym (get_or-map-range_with_len (λ i. get_or xs i d) 0 (length xs) i i d within (omega arith)))

pub flat_places : {A B : Type 0} (f : A → List B) (xs : List A) (d : A)
    → flat_map f xs ≡ flat_map (λ i. f (get_or xs i d)) (range_with_len 0 (length xs))
flat_places f xs d =
    ap (flat_map f) (by_places xs d) ∙ flat_map-map f (λ i. get_or xs i d) (range_with_len 0 (length xs))

-- a field of a row is sound, and goes on in its pages
pub record IsHeldField (file : List ℕ) (segment : ℕ) (kind : FieldType) (page : List ℕ) (place : Place)
    (format : Format) (number : ℕ → ℕ) (stored : Stored) : Type 0 where
  pub sound : IsSoundField file segment kind page place
  pub pages : pages_of_field file kind page place ≡ field_page_numbers format number stored

-- one of the server's own doesn't leave the page
stays : (format : Format) (number : ℕ → ℕ) (stored : Stored) → (stored.off ≡ true → ⊥)
    → [] ≡ field_page_numbers format number stored
stays format number stored never = by_off stored.off refl
  where
    by_off : (b : Bool) → stored.off ≡ b → [] ≡ field_page_numbers format number stored
    by_off true off = absurd (never off)
    by_off false near = rw near refl

held_field : HasOneChain → (file : List ℕ) (segment : ℕ) (kind : FieldType) (page : List ℕ) (place : Place)
    (format : Format) (number : ℕ → ℕ) (field : Field) (stored : Stored) (nullable : Bool) → IsFieldKind kind
    → (field.may_leave ≡ true → is_big kind ≡ true) → StoresKind kind nullable stored
    → IsPlaceOf file segment page place format number field stored
    → IsHeldField file segment kind page place format number stored
held_field one file segment (kinds.Column kind) page place format number field stored nullable is big stores at =
    let here = held one file segment kind page place format number field stored stores.0.0 is stores.0.1 at in
    record { sound = here.sound; pages = here.pages }
held_field one file segment kinds.RowId page place format number field stored nullable is big stores at =
    record {
      sound = tt;
      pages = stays format number stored (λ off. false≢true (big (at.went off).leaves));
    }
held_field one file segment kinds.TrxId page place format number field stored nullable is big stores at =
    record {
      sound = tt;
      pages = stays format number stored (λ off. false≢true (big (at.went off).leaves));
    }
held_field one file segment kinds.RollPointer page place format number field stored nullable is big stores at =
    record {
      sound = tt;
      pages = stays format number stored (λ off. false≢true (big (at.went off).leaves));
    }
held_field one file segment kinds.Child page place format number field stored nullable is big stores at =
    record {
      sound = tt;
      pages = stays format number stored (λ off. false≢true (big (at.went off).leaves));
    }

module _ (one : HasOneChain) (spells : SpellingSpells) (file : List ℕ) (table : TableDef) (rows : List (List Value))
    (stored : List (List Stored)) (number : ℕ → ℕ → ℕ → ℕ) (h : HoldsRows file table rows stored number) where
  abbrev tree : Index
  tree = clustered_tree file table

  abbrev leaf : Fields
  leaf = leaf_fields table 0

  -- the live rows of the tree, and how many there are
  abbrev live : List Row
  live = live_rows (clustered_tree file table)

  abbrev row_at : ℕ → Row
  row_at r = get_or live r no_row

  abbrev page_at : ℕ → List ℕ
  page_at r = page_in tree (row_at r).page

  abbrev place_at : ℕ → ℕ → Place
  place_at r i = place_of (page_at r) (row_at r).origin leaf i

  abbrev now_at : ℕ → ℕ → Stored
  now_at r i = stored_at (stored_in stored r) i

  length-entries : length (clustered_entries table.format number stored) ≡ length stored
  unfolding clustered_entries
  length-entries = length-map-range_with_len (clustered_entry table.format number stored) 0 (length stored)

  pub length-live : length live ≡ length rows
  length-live = zip_length (IsRowOf tree leaf) _ _ h.records ∙ length-entries ∙ h.are_fitted.count

  module _ (r : ℕ) (within : r < length rows) where
    count_here : length (stored_in stored r) ≡ field_count leaf
    count_here = count_now spells table h.is_table rows stored h.are_fitted r within

    -- the record of the row
    is_row : HoldsEntry (page_at r) leaf (row_at r).origin (clustered_entry table.format number stored r)
    unfolding clustered_entries
    is_row =
        let all = length-live in
        let count = h.are_fitted.count in
        subst (HoldsEntry (page_at r) leaf (row_at r).origin)
        (get_or-map-range_with_len (clustered_entry table.format number stored) 0 (length stored) r r [] (omega arith)
        (omega arith))
        (zip_at (IsRowOf tree leaf) live (clustered_entries table.format number stored) r no_row [] h.records
        (omega arith))

    module _ (i : ℕ) (inside : i < field_count (leaf_fields table 0)) where
      part_is : part_at (clustered_entry table.format number stored r) i
          ≡ part_of_field table.format (number r i 0) (now_at r i)
      unfolding parts_of_row
      part_is =
          let count = count_here in
          get_or-map-range_with_len (λ j. part_of_field table.format (number r j 0) (now_at r j)) 0
          (length (stored_in stored r)) i i parts.Null (omega arith) (omega arith)

      is_place : IsPlaceOf file (leaf_segment tree) (page_at r) (place_at r i) table.format (number r i)
          (field_at leaf i)
          (now_at r i)
      is_place =
          let row = is_row in
          let count = count_here in
          let all = h.are_fitted.count in
          record {
            space = h.space;
            most = h.most;
            cell = row.cells i inside ∙ ap part_cell part_is;
            external = row.external i inside ∙ ap is_external_part part_is;
            went = (field_kept spells table h.is_table rows stored h.are_fitted r within i inside).went;
            pages = h.values r i (omega arith) (omega arith);
          }

      is_field : IsHeldField file (leaf_segment tree) (field_at leaf i).kind (page_at r) (place_at r i) table.format
          (number r i) (now_at r i)
      is_field =
          let are = are_fields spells table h.is_table rows stored h.are_fitted in
          held_field one file (leaf_segment tree) (field_at leaf i).kind (page_at r) (place_at r i) table.format
          (number r i) (field_at leaf i) (now_at r i) (field_at leaf i).nullable
          (are.listed.kinds i _ inside) (λ leaves. (are.listed.leaving i leaves).0)
          (field_stores spells table h.is_table rows stored h.are_fitted r within i inside) is_place

    -- each field is sound
    pub sound_row : IsSoundRow tree (row_at r)
    unfolding index_in
    sound_row i inside = (is_field i inside).sound

    -- its pages are those of its values
    pub row_pages_are : pages_of_row tree (row_at r) ≡ row_page_numbers table.format (number r) (stored_in stored r)
    unfolding index_in pages_of_record
    row_pages_are =
        flat_same (λ i. pages_of_field file (field_at leaf i).kind (page_at r) (place_at r i))
        (λ i. field_page_numbers table.format (number r i) (now_at r i)) 0 (field_count leaf)
        (λ i low high. (is_field i (omega arith)).pages)
        ∙ ap (λ n. flat_map (λ i. field_page_numbers table.format (number r i) (now_at r i)) (range_with_len 0 n))
        (sym count_here)

    -- the columns of the row have its values
    column_has : (c : ℕ) → c < length table.columns
        → HasValue file (leaf_segment tree) (column_at table c).kind (page_at r) (place_at r (field_of_column table c))
        (get_or (get_or rows r []) c values.Null)
    column_has c known =
        let i = field_of_column table c in
        let inside : i < field_count leaf = (holds_column table c h.is_table known).inside in
        (held one file (leaf_segment tree) (column_at table c).kind (page_at r) (place_at r i) table.format (number r i)
        (field_at leaf i) (now_at r i) (get_or (get_or rows r []) c values.Null) (h.is_table.kinds c _ known)
        (column_holds spells table h.is_table rows stored h.are_fitted r within c known) (is_place i inside)).has

    pub has_row : IsRow file table (row_at r) (get_or rows r [])
    unfolding index_in
    has_row = record {
      count = sym (zip_length FitsColumn table.columns (get_or rows r []) (h.are_fitted.are_rows r within));
      each = λ c known. column_has c known;
    }

  -- the rows of the file are these
  pub are_rows : AreRows file table rows
  are_rows =
      let count = length-live in
      zip_from (IsRow file table) live rows no_row [] count (λ r below. has_row r (omega arith))

  -- each is sound
  pub sound_rows : All (IsSoundRow tree) live
  sound_rows =
      let count = length-live in
      All-from_get_or (IsSoundRow tree) live no_row (λ r below. sound_row r (omega arith))

  -- and their pages are those of all values
  pub pages_are : all_chain_pages tree ≡ value_page_numbers table.format number stored
  unfolding pages_of_rows value_page_numbers
  pages_are =
      let count = length-live in
      let all = h.are_fitted.count in
      flat_places (pages_of_row tree) live no_row
      ∙ flat_same (λ r. pages_of_row tree (row_at r)) (λ r. row_page_numbers table.format (number r)
      (stored_in stored r)) 0
      (length live) (λ r low high. row_pages_are r (omega arith))
      ∙ ap (λ n. flat_map (λ r. row_page_numbers table.format (number r) (stored_in stored r)) (range_with_len 0 n))
      (omega arith)
