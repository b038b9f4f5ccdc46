-- A table of two numbers with a clustered and another index, and two rows, that can be built.
use Rattle.std.proofs.Common.{◌≡◌, ◌≢◌, ℕ, zero, suc, ◌+◌, ◌<◌, ◌≤◌, List, [], ◌∷◌, length, get_or, slice_get, true}
use Rattle.std.proofs.Common.{false, IfSome, flat_map, codes, decimal, refl, sym, ap, ap₂, ◌∙◌, subst, arith, inl, inr}
use Rattle.std.specs.List.{All, AllPairs}
use Rattle.std.specs.Option.{is_some}
use Rattle.std.proofs.lemmas.Bool.{leb-true}
use Rattle.std.proofs.lemmas.Fmt.{decimal_digit}
use Rattle.std.proofs.lemmas.List.Elements.{All-cons, All-nil}
use Rattle.page_source.specs.Pages.{num}
use Rattle.column_values.specs.declared.kind.ColumnType.TheVariants as types
use Rattle.column_values.specs.declared.value.Value.{Value}
use Rattle.column_values.specs.declared.value.Value.TheVariants as values
use Rattle.column_values.specs.Spell.{IsValueOf}
use Rattle.column_values.specs.Types.{IsColumnType, is_long_kind, greatest_length}
use Rattle.compact_record.specs.Writing.{size_of_record, origin_in, bytes_below, value_bytes}
use Rattle.schema_text.specs.declared.table.Format.TheVariants.{Dynamic}
use Rattle.schema_text.specs.declared.table.Column.{Column}
use Rattle.schema_text.specs.declared.table.IndexDef.{IndexDef}
use Rattle.schema_text.specs.TableDef.{TableDef, index_at, index_columns}
use Rattle.schema_text.specs.Grammar.{IsName, IsNameByte, IsKeyOf, IsRoot, IsTable, schema_text, schema_words}
use Rattle.schema_text.specs.Grammar.{line_of, table_words, column_words}
use Rattle.schema_text.specs.IndexFields.{leaf_fields, node_fields}
use Rattle.row_text.specs.Line.{IsTableRow}
use Rattle.space_layout.specs.Numbers.{fragments_before, extents_before, sizes_of}
use Rattle.space_layout.specs.ValuePlaces.{pages_before_row}
use Rattle.tree_layout.specs.Division.{divided, pointers_to, tree_levels}
use Rattle.tree_layout.specs.Places.{pages_above}
use Rattle.tree_layout.specs.Sorted.{sorted_entries}
use Rattle.row_layout.specs.StoredRow.{stored_row, parts_of_row, fitted_row}
use Rattle.row_layout.specs.HoldsValues.{clustered_entries}
use Rattle.row_layout.specs.RowKeys.{RowsRise}
use Rattle.row_layout.specs.SecondaryEntries.{secondary_entry, row_entries, secondary_entries}
use Rattle.row_store.specs.StoredRows.{Rows, stored_rows}
use Rattle.space_builder.specs.layout.Layout.{tree_counts, value_counts, segment_sizes}
use Rattle.space_builder.specs.layout.Layout.{layout_extents}
use Rattle.space_builder.specs.layout.Laws.{CanBuild}

-- `id int unsigned notnull` and `n int unsigned notnull`, `clustered root 3 id`, `index i root 4 n`
column : ℕ → Column
column name = record { name = name ∷ []; kind = types.Int 4 false; nullable = false }

index : List ℕ → ℕ → ℕ → ℕ → IndexDef
index name root key line = record { name = name; root = root; columns = key ∷ []; line = line }

table : TableDef
table = record {
  table = 116 ∷ [];
  format = Dynamic;
  columns = column 105 ∷ column 110 ∷ [];
  indexes = index [] 3 0 4 ∷ index (105 ∷ []) 4 1 5 ∷ [];
}

-- (1, 20) and (2, 10)
row : ℕ → ℕ → List Value
row id n = values.Unsigned id ∷ values.Unsigned n ∷ []

rows : Rows
rows = row 1 20 ∷ row 2 10 ∷ []

-- lists of two
both : {A : Type 0} (P : A → Type 0) (x y : A) → P x → P y → All P (x ∷ y ∷ [])
both P x y first second = All-cons P x (y ∷ []) first (All-cons P y [] second (All-nil P))

one : {A : Type 0} (P : A → Type 0) (x : A) → P x → All P (x ∷ [])
one P x first = All-cons P x [] first (All-nil P)

pair : {A : Type 0} (R : A → A → Type 0) (x y : A) → R x y → AllPairs R (x ∷ y ∷ [])
pair R x y is zero zero d before within = absurd (omega arith)
pair R x y is zero (suc zero) d before within = is
pair R x y is zero (suc (suc j)) d before within = absurd (omega arith)
pair R x y is (suc i) j d before within = absurd (omega arith)

-- the table
letter : (b : ℕ) → 97 ≤ b → b ≤ 122 → IsName (b ∷ [])
letter b least most = record {
  least = omega arith;
  most = omega arith;
  bytes = one IsNameByte b (inr (inl (least, most)));
}

first_key : IsKeyOf table (index [] 3 0 4)
unfolding table index column
first_key = record {
  most = omega arith;
  known = one (λ (i : ℕ). i < 2) 0 (omega arith);
  distinct = λ i j d before within. absurd (omega arith);
  fits = record {
    short_kinds = one (λ (c : Column). is_long_kind c.kind ≡ false) (column 105) refl;
    total = omega arith;
    each = λ compact. one (λ (c : Column). greatest_length c.kind ≤ 767) (column 105) (omega arith);
  };
}

second_key : IsKeyOf table (index (105 ∷ []) 4 1 5)
unfolding table index column
second_key = record {
  most = omega arith;
  known = one (λ (i : ℕ). i < 2) 1 (omega arith);
  distinct = λ i j d before within. absurd (omega arith);
  fits = record {
    short_kinds = one (λ (c : Column). is_long_kind c.kind ≡ false) (column 110) refl;
    total = omega arith;
    each = λ compact. one (λ (c : Column). greatest_length c.kind ≤ 767) (column 110) (omega arith);
  };
}

-- its text, where the roots are written so
text_with : List ℕ → List ℕ → List ℕ
text_with first second =
    flat_map line_of
    (table_words table
    ∷ column_words (column 105) ∷ column_words (column 110)
    ∷ (codes "clustered" ∷ codes "root" ∷ first ∷ (105 ∷ []) ∷ [])
    ∷ (codes "index" ∷ (105 ∷ []) ∷ codes "root" ∷ second ∷ (110 ∷ []) ∷ []) ∷ [])

text_is : schema_text table ≡ text_with (decimal 3) (decimal 4)
unfolding table index column schema_text schema_words text_with
text_is = refl

short_with : length (text_with (51 ∷ []) (52 ∷ [])) ≤ 65536
unfolding table index column text_with
short_with = leb-true (length (text_with (51 ∷ []) (52 ∷ []))) 65536 refl

text_short : length (schema_text table) ≤ 65536
text_short =
    let first = decimal_digit 3 (omega arith) in
    let second = decimal_digit 4 (omega arith) in
    subst (λ (text : List ℕ). length text ≤ 65536) (sym (text_is ∙ ap₂ text_with first second)) short_with

is_table : IsTable table
unfolding table index column
is_table = record {
  name = letter 116 (omega arith) (omega arith);
  some_column = omega arith;
  columns = omega arith;
  column_names = both (λ (c : Column). IsName c.name) (column 105) (column 110) (letter 105 (omega arith) (omega arith))
      (letter 110 (omega arith) (omega arith));
  kinds = both (λ (c : Column). IsColumnType c.kind) (column 105) (column 110) (inr (inr (inr (inl refl))))
      (inr (inr (inr (inl refl))));
  columns_differ = pair (λ (c d : Column). c.name ≢ d.name) (column 105) (column 110)
      (λ same. let e : 105 ≡ 110 = ap (λ xs. get_or xs 0 0) same in absurd (omega arith));
  clustered = omega arith;
  indexes = omega arith;
  unnamed = one (λ (x : IndexDef). x.name ≡ []) (index [] 3 0 4) refl;
  named = one (λ (x : IndexDef). IsName x.name × (1 ≤ length x.columns)) (index (105 ∷ []) 4 1 5)
      (letter 105 (omega arith) (omega arith), omega arith);
  indexes_differ = pair (λ (x y : IndexDef). x.name ≢ y.name) (index [] 3 0 4) (index (105 ∷ []) 4 1 5)
      (λ same. let e : 0 ≡ 1 = ap (λ (xs : List ℕ). length xs) same in absurd (omega arith));
  keys = both (IsKeyOf table) (index [] 3 0 4) (index (105 ∷ []) 4 1 5) first_key second_key;
  not_null = one (λ (x : IndexDef). All (λ (c : Column). c.nullable ≡ false) (index_columns table x)) (index [] 3 0 4)
      (one (λ (c : Column). c.nullable ≡ false) (column 105) refl);
  roots = both (λ (x : IndexDef). IsRoot x.root) (index [] 3 0 4) (index (105 ∷ []) 4 1 5) (omega arith, omega arith)
      (omega arith, omega arith);
  roots_differ = pair (λ (x y : IndexDef). x.root ≢ y.root) (index [] 3 0 4) (index (105 ∷ []) 4 1 5)
      (λ same. absurd (omega arith));
  lines = lines_are;
  short = text_short;
}
  where
    lines_are : (j : ℕ) → IfSome (slice_get table.indexes j) (λ (x : IndexDef). x.line ≡ length table.columns + 2 + j)
    lines_are zero = refl
    lines_are (suc zero) = refl
    lines_are (suc (suc j)) = tt

-- the rows
value : (n : ℕ) → n < 256 → num (0 ∷ 0 ∷ 0 ∷ n ∷ []) 0 4 ≡ n → IsValueOf (types.Int 4 false) (values.Unsigned n)
value n small is = (
  0 ∷ 0 ∷ 0 ∷ n ∷ [],
  All-cons (λ (b : ℕ). b < 256) 0 (0 ∷ 0 ∷ n ∷ []) (omega arith)
      (All-cons (λ (b : ℕ). b < 256) 0 (0 ∷ n ∷ []) (omega arith)
      (both (λ (b : ℕ). b < 256) 0 n (omega arith) small)),
  (refl, sym is),
)

are_rows : (r : ℕ) → r < 2 → IsTableRow table (get_or rows r [])
unfolding table column rows row num
are_rows zero inside = (value 1 (omega arith) refl, (value 20 (omega arith) refl, tt))
are_rows (suc zero) inside = (value 2 (omega arith) refl, (value 10 (omega arith) refl, tt))
are_rows (suc (suc r)) inside = absurd (omega arith)

rise : RowsRise table rows
unfolding table column index rows row leaf_fields
rise keys zero inside = refl
rise keys (suc r) inside = absurd (omega arith)

fitted : (r : ℕ) → r < 2 → is_some (fitted_row table r (get_or rows r [])) ≡ true
unfolding table column index rows row fitted_row stored_row parts_of_row size_of_record origin_in bytes_below
    value_bytes leaf_fields
fitted zero inside = refl
fitted (suc zero) inside = refl
fitted (suc (suc r)) inside = absurd (omega arith)

extents : layout_extents table rows ≡ 1
unfolding table column index rows row fitted_row stored_row parts_of_row size_of_record origin_in bytes_below
    value_bytes leaf_fields node_fields stored_rows clustered_entries secondary_entries row_entries secondary_entry
    sorted_entries divided tree_levels pointers_to tree_counts value_counts segment_sizes sizes_of pages_above
    pages_before_row fragments_before extents_before
extents = refl

can_build : CanBuild table rows
unfolding table index rows
can_build = record {
  is_table = is_table;
  roots = roots_are;
  are_rows = are_rows;
  rise = rise;
  fitted = fitted;
  few = omega arith;
  fits = let one = extents in omega arith;
}
  where
    roots_are : (j : ℕ) → j < 2 → (index_at table j).root ≡ 3 + j
    roots_are zero inside = refl
    roots_are (suc zero) inside = refl
    roots_are (suc (suc j)) inside = absurd (omega arith)
