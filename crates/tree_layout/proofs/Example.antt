-- Three rows, each so large that two fit a page, are divided into two leaves below a root.
use Rattle.std.proofs.Common.{◌≡◌, ℕ, zero, suc, ◌≤◌, List, [], ◌∷◌, length, replicate, true, false, refl, arith, ◌^◌}
use Rattle.std.proofs.lemmas.Bool.{true≢false, false≢true}
use Rattle.std.proofs.lemmas.List.Elements.{All-cons, All-nil}
use Rattle.std.specs.List.{All}
use Rattle.column_values.specs.declared.kind.ColumnType.TheVariants as types
use Rattle.column_values.specs.declared.field.FieldType.TheVariants as kinds
use Rattle.column_values.specs.declared.field.Field.{Field}
use Rattle.column_values.specs.Types.{Fields, AreOfOneIndex, child_field}
use Rattle.compact_record.specs.declared.parts.Part.TheVariants.{Bytes}
use Rattle.compact_record.specs.Writing.{FitFields, size_of_record, origin_in, bytes_below, value_bytes}
use Rattle.tree_layout.specs.Entries.{Entry, EntriesAscend}
use Rattle.tree_layout.specs.Division.{pointers_to, FitsAlone, HasSmallPointers, divided, tree_levels, level_counts}
use Rattle.tree_layout.specs.Division.{CanDivide}
use Rattle.tree_layout.specs.DivisionLaws.{PointersAreSmall}
use Rattle.tree_layout.specs.FullPages.{IsDivision}

key_field : Field
key_field = record { kind = kinds.Column (types.Int 4 true); nullable = false; may_leave = false }

text_field : Field
text_field = record { kind = kinds.Column (types.Varchar 9000); nullable = false; may_leave = true }

leaf : Fields
leaf = record { fields = key_field ∷ text_field ∷ []; nullable = 0; keys = 1 }

node : Fields
node = record { fields = key_field ∷ child_field ∷ []; nullable = 0; keys = 1 }

row : ℕ → Entry
row k = Bytes (128 ∷ 0 ∷ 0 ∷ k ∷ []) false ∷ Bytes (replicate 7900 97) false ∷ []

rows : List Entry
rows = row 1 ∷ row 2 ∷ row 3 ∷ []

one_index : AreOfOneIndex leaf node
unfolding leaf node
one_index = record { few = omega arith; keys = refl; nullable = refl; pointers = refl }

two_levels : level_counts (tree_levels leaf node (λ l k. 0) rows) ≡ 2 ∷ 1 ∷ []
unfolding leaf node key_field text_field row rows tree_levels divided pointers_to size_of_record origin_in bytes_below
    value_bytes
two_levels = refl

-- one row on each leaf is no division of them, since the first page has room for the second row
one_each : ¬ (IsDivision leaf rows ((row 1 ∷ []) ∷ (row 2 ∷ []) ∷ (row 3 ∷ []) ∷ []))
unfolding leaf key_field text_field row rows size_of_record origin_in bytes_below value_bytes
one_each is = is.closed 0 (omega arith) refl

row_fits : (k : ℕ) → FitFields leaf (row k)
unfolding leaf key_field text_field row
row_fits k = (
  ((λ same. refl), (λ other. absurd (false≢true other))),
  (((λ same. absurd (true≢false same)), (λ other. omega arith)), tt),
)

row_alone : (k : ℕ) → FitsAlone leaf (row k)
unfolding leaf key_field text_field row size_of_record origin_in bytes_below value_bytes
row_alone k = refl

row_size : (k : ℕ) → size_of_record leaf (row k) ≡ 7911
unfolding leaf key_field text_field row size_of_record origin_in bytes_below value_bytes
row_size k = refl

all_rows : (P : Entry → Type 0) → ((k : ℕ) → P (row k)) → All P rows
unfolding rows
all_rows P each =
    All-cons P (row 1) (row 2 ∷ row 3 ∷ []) (each 1) (All-cons P (row 2) (row 3 ∷ []) (each 2)
    (All-cons P (row 3) [] (each 3) (All-nil P)))

row_pointers : PointersAreSmall → (k : ℕ) → HasSmallPointers node (row k)
row_pointers law k n =
    let size = row_size k in
    let small = law leaf node (row k) n one_index (row_fits k) in
    omega arith

rows_rise : EntriesAscend leaf rows
unfolding leaf key_field text_field row rows
rows_rise zero zero d before within = absurd (omega arith)
rows_rise zero (suc zero) d before within = refl
rows_rise zero (suc (suc zero)) d before within = refl
rows_rise zero (suc (suc (suc j))) d before within = absurd (omega arith)
rows_rise (suc zero) zero d before within = absurd (omega arith)
rows_rise (suc zero) (suc zero) d before within = absurd (omega arith)
rows_rise (suc zero) (suc (suc zero)) d before within = refl
rows_rise (suc zero) (suc (suc (suc j))) d before within = absurd (omega arith)
rows_rise (suc (suc i)) j d before within = absurd (omega arith)

few_pages : length (divided leaf rows) ≤ 2 ^ 50
unfolding leaf key_field text_field row rows divided size_of_record origin_in bytes_below value_bytes
few_pages = omega arith

-- so what division asks for can be met
rows_divide : PointersAreSmall → CanDivide leaf node rows
rows_divide law = record {
  one_index = one_index;
  fit = all_rows (FitFields leaf) row_fits;
  rise = rows_rise;
  alone = all_rows (FitsAlone leaf) row_alone;
  pointers = all_rows (HasSmallPointers node) (row_pointers law);
  few = few_pages;
}
