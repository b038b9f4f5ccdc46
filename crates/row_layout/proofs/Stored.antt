-- What the fields of a row store.
use Rattle.std.proofs.Common.{◌≡◌, ◌==◌, ℕ, suc, ◌+◌, ◌<◌, Bool, true, false, cond, not, List, [], ◌∷◌, ◌++◌}
use Rattle.std.proofs.Common.{length, map, replicate, get_or, Option, Some, refl, sym, ap, ◌∙◌, subst, arith, All}
use Rattle.std.specs.Prelude.{slice_get}
use Rattle.std.specs.List.{AllZip, cons_option, range_with_len}
use Rattle.std.proofs.lemmas.Bool.{true≢false, false≢true, ne_eqb}
use Rattle.std.proofs.lemmas.Option.{slice_get-get_or}
use Rattle.std.proofs.lemmas.List.{get_or_append_left, get_or-append-add, get_or-map, length-map}
use Rattle.std.proofs.lemmas.List.Elements.{All-head, All-tail, All-append, All-map, All-cons, All-nil}
use Rattle.column_values.specs.declared.kind.ColumnType.TheVariants as types
use Rattle.column_values.specs.declared.value.Value.{Value}
use Rattle.column_values.specs.declared.value.Value.TheVariants as values
use Rattle.column_values.specs.declared.field.Field.{Field}
use Rattle.column_values.specs.declared.field.FieldType.{FieldType}
use Rattle.column_values.specs.declared.field.FieldType.TheVariants as kinds
use Rattle.column_values.specs.Types.{IsColumnType, fixed_length}
use Rattle.column_values.specs.Laws.{SpellingSpells}
use Rattle.schema_text.specs.declared.table.Column.{Column}
use Rattle.schema_text.specs.TableDef.{TableDef, column_at}
use Rattle.schema_text.specs.Grammar.{IsTable}
use Rattle.schema_text.specs.IndexFields.{columns_at, kept_field, leaving_field, clustered_positions, other_positions}
use Rattle.schema_text.specs.IndexFields.{leaf_fields, clustered_key, clustered_rest}
use Rattle.schema_text.specs.IndexFields.{row_id_field, kept_at, field_of_column}
use Rattle.row_text.specs.Line.{FitsColumn, IsTableRow}
use Rattle.schema_text.proofs.ColumnFields.{key_count}
use Rattle.page_source.proofs.Members.{all_members, filter_contains, range_contains}
use Rattle.schema_text.proofs.ColumnFields.{key_size, key_known}
use Rattle.row_layout.proofs.Columns.{placed, any_contains, has_column, is_other, field_in_key, field_behind}
use Rattle.row_layout.proofs.Columns.{place_among}
use Rattle.row_layout.specs.StoredRow.{Stored, stored_at, stored_value, stored_column, stored_key, stored_row, kept}
use Rattle.row_layout.specs.StoredRow.{row_id}
use Rattle.tree_layout.proofs.Zips.{zip-append, zip_at}
use Rattle.row_layout.proofs.Held.{StoresValue}

-- a field stores a value of its column, or as many bytes as the server's own has
abbrev pub StoresKind : FieldType → Bool → Stored → Type 0
StoresKind (kinds.Column kind) nullable stored =
    ((value : Value) × StoresValue kind stored value) × (stored.null ≡ true → nullable ≡ true)
StoresKind kind nullable stored = (stored.null ≡ false) × (length stored.bytes ≡ fixed_length kind)

abbrev pub StoresField : Field → Stored → Type 0
StoresField field stored = StoresKind field.kind field.nullable stored

-- the value of a column that it fits
pub column_stores : SpellingSpells → (column : Column) (value : Value) → IsColumnType column.kind
    → FitsColumn column value
    → StoresValue column.kind (stored_value column.kind value) value
    × ((stored_value column.kind value).null ≡ true → column.nullable ≡ true)
column_stores spells column values.Null is fits =
    (record { none = λ _. refl; spelled = λ some. absurd (true≢false some) }, λ _. fits)
column_stores spells column value is fits = (
  record { none = λ none. absurd (false≢true none); spelled = λ _. spells column.kind value is fits },
  λ none. absurd (false≢true none),
)

module _ (spells : SpellingSpells) (table : TableDef) (is : IsTable table) (row : List Value)
    (fits : IsTableRow table row) where
  pub stores_column : (c : ℕ) → c < length table.columns
      → StoresValue (column_at table c).kind (stored_column table row c) (get_or row c values.Null)
      × ((stored_column table row c).null ≡ true → (column_at table c).nullable ≡ true)
  stores_column c within =
      column_stores spells (column_at table c) (get_or row c values.Null)
      (is.kinds c _ within) (zip_at FitsColumn table.columns row c _ values.Null fits within)

  -- the columns at these positions
  pub stores_columns : (f : Column → Field) → ((column : Column) → (f column).kind ≡ kinds.Column column.kind)
      → ((column : Column) → (f column).nullable ≡ column.nullable) → (positions : List ℕ)
      → All (λ i. i < length table.columns) positions
      → AllZip StoresField (map f (columns_at table.columns positions)) (map (stored_column table row) positions)
  stores_columns f kind nullable [] known = tt
  stores_columns f kind nullable (p ∷ positions) known =
      let within : p < length table.columns = All-head (λ i. i < length table.columns) p positions known in
      let rest = stores_columns f kind nullable positions (All-tail (λ i. i < length table.columns) p positions known)
      in
      let column = column_at table p in
      let there : slice_get table.columns p ≡ Some column =
      slice_get-get_or table.columns p (record { name = []; kind = types.Int 1 false; nullable = false }) within in
      let here = stores_column p within in
      let stored = stored_column table row p in
      let first : StoresField (f column) stored =
      subst (λ (k : FieldType). StoresKind k (f column).nullable stored) (sym (kind column))
      (subst (λ (b : Bool). StoresKind (kinds.Column column.kind) b stored) (sym (nullable column))
      ((get_or row p values.Null, here.0), here.1)) in
      subst (λ (o : Option Column). AllZip StoresField
      (map f (cons_option o (columns_at table.columns positions)))
      (stored ∷ map (stored_column table row) positions)) (sym there) (first, rest)

  others_known : All (λ i. i < length table.columns) (other_positions table)
  others_known =
      all_members (λ i. i < length table.columns) (other_positions table)
      (λ c has. range_contains (length table.columns) c
      (filter_contains (λ i. not (has_column (clustered_positions table) i)) (range_with_len 0 (length table.columns))
      c has).0)

  stores_key : (i : ℕ) → AllZip StoresField (clustered_key table) (stored_key table i row)
  stores_key i = by_test (length (clustered_positions table) == 0)
    where
      by_test : (none : Bool)
          → AllZip StoresField (cond none (row_id_field ∷ []) (kept_at table.columns (clustered_positions table)))
          (cond none (row_id i ∷ []) (map (stored_column table row) (clustered_positions table)))
      by_test true = ((refl, refl), tt)
      by_test false =
          stores_columns kept_field (λ column. refl) (λ column. refl) (clustered_positions table) (key_known table is)

  -- all fields
  pub stores_row : (i : ℕ) → AllZip StoresField (leaf_fields table 0).fields (stored_row table i row)
  unfolding leaf_fields stored_row
  stores_row i =
      zip-append StoresField (clustered_key table) (clustered_rest table) (stored_key table i row)
      (kept (replicate 6 0) ∷ kept (replicate 7 0) ∷ map (stored_column table row) (other_positions table))
      (stores_key i) (
        (refl, refl),
        (
          (refl, refl),
          stores_columns leaving_field (λ column. refl) (λ column. refl) (other_positions table) others_known,
        ),
      )

-- none of them is off the page
pub near_columns : (table : TableDef) (row : List Value) (positions : List ℕ)
    → All (λ (field : Stored). field.off ≡ false) (map (stored_column table row) positions)
near_columns table row positions =
    All-map (λ (field : Stored). field.off ≡ false) (stored_column table row) positions (λ k d below. refl)

pub all_near : (table : TableDef) (i : ℕ) (row : List Value)
    → All (λ (field : Stored). field.off ≡ false) (stored_row table i row)
unfolding stored_row
all_near table i row =
    let P : Stored → Type 0 = λ field. field.off ≡ false in
    let others = map (stored_column table row) (other_positions table) in
    All-append P (stored_key table i row) (kept (replicate 6 0) ∷ kept (replicate 7 0) ∷ others)
    (near_key (length (clustered_positions table) == 0))
    (All-cons P (kept (replicate 6 0)) (kept (replicate 7 0) ∷ others) refl
    (All-cons P (kept (replicate 7 0)) others refl (near_columns table row (other_positions table))))
  where
    near_key : (none : Bool) → All (λ (field : Stored). field.off ≡ false)
        (cond none (row_id i ∷ []) (map (stored_column table row) (clustered_positions table)))
    near_key true = All-cons (λ (field : Stored). field.off ≡ false) (row_id i) [] refl
        (All-nil (λ (field : Stored). field.off ≡ false))
    near_key false = near_columns table row (clustered_positions table)

-- the field of a column stores it
module _ (table : TableDef) (is : IsTable table) (i : ℕ) (row : List Value) where
  pub key_length : length (stored_key table i row) ≡ key_count (clustered_positions table)
  key_length = by_test (length (clustered_positions table) == 0)
    where
      by_test : (none : Bool)
          → length (cond none (row_id i ∷ []) (map (stored_column table row) (clustered_positions table)))
          ≡ cond none 1 (length (clustered_positions table))
      by_test true = refl
      by_test false = length-map (clustered_positions table) (stored_column table row)

  key_kept : 0 < length (clustered_positions table)
      → stored_key table i row ≡ map (stored_column table row) (clustered_positions table)
  key_kept some = rw (ne_eqb (length (clustered_positions table)) 0 (λ e. omega arith)) refl

  pub column_stored : (c : ℕ) → c < length table.columns
      → stored_at (stored_row table i row) (field_of_column table c) ≡ stored_column table row c
  unfolding stored_row
  column_stored c within = by_test (has_column (clustered_positions table) c) refl
    where
      key : List ℕ
      key = clustered_positions table

      others : List ℕ
      others = other_positions table

      rest : List Stored
      rest = kept (replicate 6 0) ∷ kept (replicate 7 0) ∷ map (stored_column table row) others

      none : Stored
      none = record { null = true; off = false; bytes = [] }

      by_test : (b : Bool) → has_column key c ≡ b
          → get_or (stored_key table i row ++ rest) (field_of_column table c) none ≡ stored_column table row c
      by_test true yes' =
          let here = placed key c (any_contains key c yes') in
          let size = length-map key (stored_column table row) in
          let place = place_among key c in
          let columns = map (stored_column table row) key in
          ap (λ (k : ℕ). get_or (stored_key table i row ++ rest) k none) (field_in_key table c yes')
          ∙ ap (λ (xs : List Stored). get_or (xs ++ rest) place none) (key_kept (omega arith))
          ∙ get_or_append_left columns rest none place (omega arith)
          ∙ get_or-map (stored_column table row) key place 0 none here.0
          ∙ ap (stored_column table row) here.1
      by_test false lacks =
          let here = placed others c (is_other table c within lacks) in
          let place = place_among others c in
          let size = key_size table is in
          let same = key_length in
          let e : field_of_column table c ≡ length (stored_key table i row) + suc (suc place) =
          field_behind table c lacks ∙ omega arith in
          ap (λ (k : ℕ). get_or (stored_key table i row ++ rest) k none) e
          ∙ get_or-append-add (stored_key table i row) rest (suc (suc place)) none
          ∙ get_or-map (stored_column table row) others place 0 none here.0
          ∙ ap (stored_column table row) here.1
