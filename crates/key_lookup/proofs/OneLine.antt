-- The row that is found has one value in each column, and so one line.
use Rattle.std.proofs.Common.{◌≡◌, ℕ, ◌<◌, Bool, true, false, List, [], ◌++◌, length, get_or}
use Rattle.std.proofs.Common.{refl, sym, ap, ◌∙◌, subst, arith}
use Rattle.std.proofs.lemmas.Option.{same_Some}
use Rattle.column_values.specs.declared.kind.ColumnType.{ColumnType}
use Rattle.column_values.specs.declared.value.Value.{Value}
use Rattle.column_values.specs.declared.value.Value.TheVariants.{Null}
use Rattle.column_values.specs.Types.{IsColumnType}
use Rattle.column_values.specs.Laws.{HasOneValue}
use Rattle.compact_record.specs.declared.places.Place.{Place}
use Rattle.offpage_chain.specs.Reference.{reference_of}
use Rattle.offpage_chain.specs.Chain.{chain_pages, bytes_on}
use Rattle.row_text.specs.Line.{line_of}
use Rattle.schema_text.specs.TableDef.{TableDef, column_at}
use Rattle.schema_text.specs.Grammar.{IsTable}
use Rattle.tree_walk.specs.Index.{Row, page_in}
use Rattle.table_check.specs.Trees.{clustered_tree}
use Rattle.table_check.specs.Values.{bytes_at, front_of}
use Rattle.table_check.specs.Rows.{place_of_column}
use Rattle.key_lookup.specs.Record.{HasFoundValue, IsFoundRow}
use Rattle.key_lookup.specs.Get.{IsLineFound}
use Rattle.key_lookup.specs.Laws.{FindsOneLine}
use Rattle.sql_dump.proofs.OneDump.{same_list}

module _ (spelled : HasOneValue) (file : List ℕ) where
  -- a place has one value at the most
  same_value : (kind : ColumnType) (page : List ℕ) (place : Place) (v w : Value) → IsColumnType kind
      → HasFoundValue file kind page place v → HasFoundValue file kind page place w → v ≡ w
  same_value kind page place v w known x y = by_tests place.null place.external refl refl
    where
      by_tests : (n e : Bool) → place.null ≡ n → place.external ≡ e → v ≡ w
      by_tests true e null external = x.null null ∙ sym (y.null null)
      by_tests false false null external =
          spelled kind v w (bytes_at page place) known (x.local null external) (y.local null external)
      by_tests false true null external =
          let local = bytes_at page place in
          spelled kind v w (front_of local ++ bytes_on file (chain_pages file (reference_of local))) known
          (x.external null external) (y.external null external)

  -- a row has one list of values at the most
  same_row : (table : TableDef) (row : Row) (a b : List Value) → IsTable table → IsFoundRow file table row a
      → IsFoundRow file table row b → a ≡ b
  same_row table row a b is x y =
      same_list a b (x.count ∙ sym y.count)
      (λ c below.
      let within : c < length table.columns = omega (arith, below, x.count) in
      same_value (column_at table c).kind (page_in (clustered_tree file table) row.page)
      (place_of_column (clustered_tree file table) table row c) (get_or a c Null) (get_or b c Null)
      (is.kinds c _ within) (x.each c within) (y.each c within))

pub one_line : HasOneValue → FindsOneLine
one_line spelled file table key a b is x y =
    let row : x.row ≡ y.row = same_Some x.row y.row (sym x.found ∙ y.found) in
    let are = subst (λ (r : Row). IsFoundRow file table r x.row_values) row x.are in
    x.is ∙ ap (line_of table) (same_row spelled file table y.row x.row_values y.row_values is are y.are) ∙ sym y.is
