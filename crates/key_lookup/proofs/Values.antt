-- In a sound file the values that are found of a row are those of the table.
use Rattle.std.proofs.Common.{◌≡◌, ◌↔◌, ℕ, ◌<◌, ◌≤◌, List, ◌++◌, length, get_or, ap, sym, ◌∙◌, subst}
use Rattle.column_values.specs.declared.kind.ColumnType.{ColumnType}
use Rattle.column_values.specs.declared.field.FieldType.{FieldType}
use Rattle.column_values.specs.declared.value.Value.{Value}
use Rattle.column_values.specs.declared.value.Value.TheVariants.{Null}
use Rattle.column_values.specs.Spell.{Spell}
use Rattle.compact_record.specs.declared.places.Place.{Place}
use Rattle.compact_record.specs.Reading.{place_of}
use Rattle.space_header.specs.Header.{size_of}
use Rattle.offpage_chain.specs.Reference.{reference_of}
use Rattle.offpage_chain.specs.Chain.{chain_pages, bytes_on}
use Rattle.offpage_chain.specs.Laws.{HasOneChain}
use Rattle.schema_text.specs.TableDef.{TableDef, column_at}
use Rattle.schema_text.specs.Grammar.{IsTable}
use Rattle.schema_text.specs.IndexFields.{field_of_column, leaf_fields}
use Rattle.tree_walk.specs.Index.{Row, page_in}
use Rattle.tree_walk.specs.Segments.{leaf_segment}
use Rattle.table_check.specs.Trees.{clustered_tree, index_in}
use Rattle.table_check.specs.Values.{bytes_at, front_of}
use Rattle.table_check.specs.Rows.{IsWholeValue, HasValue, place_of_column, IsRow}
use Rattle.table_check.specs.Valid.{IsSoundValue, IsSoundField, IsSoundRow}
use Rattle.schema_text.proofs.ColumnFields.{holds_column}
use Rattle.key_lookup.specs.Record.{HasFoundValue, IsFoundRow}

module _ (one : HasOneChain) (file : List ℕ) (size : size_of file ≤ 4194304) where
  -- the bytes along the pages of a whole value are those along the pages that its reference leads to
  whole_is : (segment : ℕ) (local bytes : List ℕ) → IsWholeValue file segment local bytes
      → bytes ≡ front_of local ++ bytes_on file (chain_pages file (reference_of local))
  whole_is segment local bytes whole =
      whole.is ∙ ap (λ (pages : List ℕ). front_of local ++ bytes_on file pages)
      (one file segment (reference_of local) whole.pages size whole.chain)

  -- the value of a sound place is the one that is found there
  same_value : (segment : ℕ) (kind : ColumnType) (page : List ℕ) (place : Place) (value : Value)
      → IsSoundValue file segment kind page place
      → HasFoundValue file kind page place value ↔ HasValue file segment kind page place value
  same_value segment kind page place value sound = (
    λ f. record {
      null = f.null;
      local = f.local;
      external = λ some away.
          let whole = (sound.external some away).whole in
          let bytes = (sound.external some away).value in (
            bytes,
            whole,
            subst (Spell kind value) (sym (whole_is segment (bytes_at page place) bytes whole)) (f.external some away),
          );
    },
    λ h. record {
      null = h.null;
      local = h.local;
      external = λ some away.
          let (bytes, whole, spelled) = h.external some away in
          subst (Spell kind value) (whole_is segment (bytes_at page place) bytes whole) spelled;
    },
  )

  -- a column of a sound row has a sound value
  sound_column : (table : TableDef) (row : Row) (c : ℕ) → IsTable table → IsSoundRow (clustered_tree file table) row
      → c < length table.columns
      → IsSoundValue file (leaf_segment (clustered_tree file table)) (column_at table c).kind
      (page_in (clustered_tree file table) row.page) (place_of_column (clustered_tree file table) table row c)
  unfolding index_in
  sound_column table row c is sound within =
      let index = clustered_tree file table in
      let holds = holds_column table c is within in
      let i = field_of_column table c in
      subst (λ (k : FieldType). IsSoundField file (leaf_segment index) k (page_in index row.page)
      (place_of (page_in index row.page) row.origin (leaf_fields table 0) i)) holds.kind (sound i holds.inside)

  -- the rows are the same
  pub same_row : (table : TableDef) (row : Row) (row_values : List Value) → IsTable table
      → IsSoundRow (clustered_tree file table) row
      → IsFoundRow file table row row_values ↔ IsRow file table row row_values
  same_row table row row_values is sound =
      let index = clustered_tree file table in
      let same : (c : ℕ) → c < length table.columns → HasFoundValue file (column_at table c).kind
      (page_in index row.page) (place_of_column index table row c) (get_or row_values c Null)
      ↔ HasValue file (leaf_segment index) (column_at table c).kind (page_in index row.page)
      (place_of_column index table row c) (get_or row_values c Null) =
      λ c within. same_value (leaf_segment index) (column_at table c).kind (page_in index row.page)
      (place_of_column index table row c) (get_or row_values c Null) (sound_column table row c is sound within) in (
        λ f. record { count = f.count; each = λ c within. (same c within).0 (f.each c within) },
        λ h. record { count = h.count; each = λ c within. (same c within).1 (h.each c within) },
      )
