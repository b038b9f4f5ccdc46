-- The made rows are rows of the made table, and their ids rise.
use Rattle.std.proofs.Common.{◌≡◌, ℕ, ◌+◌, ◌<◌, ◌≤◌, ◌^◌, List, [], ◌∷◌, ◌++◌, length, get_or, refl, sym, ap}
use Rattle.std.proofs.Common.{◌∙◌, subst, arith, Ordering}
use Rattle.std.specs.declared.cmp.Ordering.TheVariants.{Less, Equal}
use Rattle.std.specs.Ordering.{ordering_then}
use Rattle.std.proofs.lemmas.List.{append-nil}
use Rattle.std.proofs.lemmas.List.FromFn.{length-map-range_with_len, get_or-map-range_with_len, map-range_with_len_more}
use Rattle.page_source.specs.Pages.{num, be_bytes}
use Rattle.column_values.specs.declared.value.Value.{Value}
use Rattle.column_values.specs.declared.value.Value.TheVariants.{Null, Unsigned, Text}
use Rattle.column_values.specs.Order.{bytes_cmp}
use Rattle.column_values.proofs.Bytes.{worth, worth_orders, worth-be_bytes, are_be_bytes, num-be_bytes, cmp-less}
use Rattle.schema_text.specs.IndexFields.{leaf_fields}
use Rattle.row_text.specs.Line.{FitsColumn, IsTableRow}
use Rattle.row_layout.specs.RowKeys.{AreTableRows, RowsRise}
use Rattle.row_store.specs.BadLine.{IsKeyBelow}
use Rattle.sample_table.specs.Sample.{id_column, tag_column, note_column, sample_table, sample_tag, sample_note}
use Rattle.sample_table.specs.Sample.{sample_row}
use Rattle.sample_table.specs.Sample.{sample_rows}
use Rattle.sample_table.proofs.Letters.{IsPlainValue, tag_plain, note_plain, are_bytes}

-- the values are those of the columns
id_fits : (i : ℕ) → i < 4294967296 → FitsColumn id_column (Unsigned i)
id_fits i fits =
    let limit : 256 ^ 4 ≡ 4294967296 = refl in (
      be_bytes 4 i,
      are_be_bytes 4 i,
      (
        refl,
        sym (ap (λ (xs : List ℕ). num xs 0 4) (sym (append-nil (be_bytes 4 i)))
            ∙ num-be_bytes 4 i [] (omega arith)),
      ),
    )

tag_fits : (value : Value) → IsPlainValue 6 value → FitsColumn tag_column value
tag_fits Null plain = refl
tag_fits (Text text) plain = let few = plain.0 in (text, are_bytes text plain.1, (omega arith, refl))
tag_fits value plain = absurd plain

note_fits : (value : Value) → IsPlainValue 20000 value → FitsColumn note_column value
note_fits Null plain = refl
note_fits (Text text) plain = let few = plain.0 in (text, are_bytes text plain.1, (omega arith, refl))
note_fits value plain = absurd plain

pub table_row : (i : ℕ) → i < 4294967296 → IsTableRow sample_table (sample_row i)
unfolding sample_table sample_row
table_row i fits =
    (id_fits i fits, (tag_fits (sample_tag i) (tag_plain i), (note_fits (sample_note i) (note_plain i), tt)))

-- the rows 1 to n
pub length-rows : (n : ℕ) → length (sample_rows n) ≡ n
unfolding sample_rows
length-rows n = length-map-range_with_len sample_row 1 n

pub row_at : (n r : ℕ) → r < n → get_or (sample_rows n) r [] ≡ sample_row (r + 1)
unfolding sample_rows
row_at n r inside = get_or-map-range_with_len sample_row 1 n r (r + 1) [] inside (omega arith)

pub rows_more : (n : ℕ) → sample_rows (n + 1) ≡ sample_rows n ++ sample_row (n + 1) ∷ []
unfolding sample_rows
rows_more n = map-range_with_len_more sample_row 1 n (n + 1) (omega arith)

-- their ids rise
ids_rise : (a b : ℕ) → a < b → b < 4294967296 → bytes_cmp (be_bytes 4 a) (be_bytes 4 b) ≡ Less
ids_rise a b less few =
    let limit : 256 ^ 4 ≡ 4294967296 = refl in
    worth_orders (be_bytes 4 a) (be_bytes 4 b) refl (are_be_bytes 4 a) (are_be_bytes 4 b)
    ∙ cmp-less (worth (be_bytes 4 a)) (worth (be_bytes 4 b))
    (let first = worth-be_bytes 4 a (omega arith) in let second = worth-be_bytes 4 b (omega arith) in omega arith)

key_below : (a b : ℕ) → a < b → b < 4294967296 → IsKeyBelow sample_table (sample_row a) (sample_row b)
unfolding sample_table sample_row leaf_fields
key_below a b less few = ap (λ (o : Ordering). ordering_then o Equal) (ids_rise a b less few)

pub rise : (n : ℕ) → n ≤ 200000 → RowsRise sample_table (sample_rows n)
rise n few keys r inside =
    let size = length-rows n in
    subst (λ (row : List Value). IsKeyBelow sample_table row (get_or (sample_rows n) (r + 1) []))
    (sym (row_at n r (omega arith)))
    (subst (IsKeyBelow sample_table (sample_row (r + 1))) (sym (row_at n (r + 1) (omega arith)))
    (key_below (r + 1) (r + 1 + 1) (omega arith) (omega arith)))
