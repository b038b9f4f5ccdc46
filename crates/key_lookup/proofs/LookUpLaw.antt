-- In a sound file the look-up finds the row with the key.
use Rattle.std.proofs.Common.{◌≡◌, ◌↔◌, ℕ, Option, None, Some, List, take, Contains, refl, subst}
use Rattle.std.proofs.Common.{arith}
use Rattle.std.proofs.lemmas.List.Elements.{All-contains}
use Rattle.column_values.specs.Types.{AreOfOneIndex}
use Rattle.column_values.specs.Order.{Key}
use Rattle.column_values.specs.declared.value.Value.{Value}
use Rattle.extent_map.specs.Head.{HeadChecks}
use Rattle.index_page.specs.Laws.{ChecksAreIndexPage, KeysRiseThroughout}
use Rattle.schema_text.specs.Formats.{flags_of}
use Rattle.schema_text.specs.TableDef.{TableDef}
use Rattle.schema_text.specs.Grammar.{IsTable}
use Rattle.schema_text.specs.IndexFields.{leaf_fields, node_fields}
use Rattle.space_audit.specs.Audit.{IsSoundSpace, OwnerChecks}
use Rattle.space_audit.specs.Marks.{is_in, seen}
use Rattle.offpage_chain.specs.Laws.{HasOneChain}
use Rattle.tree_walk.specs.Index.{Index, Row, page_in}
use Rattle.tree_walk.specs.Segments.{leaf_segment}
use Rattle.tree_walk.proofs.DescentLaw.{same_kinds}
use Rattle.table_check.specs.Trees.{index_in, clustered_tree, all_tree_pages}
use Rattle.table_check.specs.Values.{live_rows, pages_of_rows, RowCheck, RowChecks}
use Rattle.table_check.specs.Rows.{IsRow}
use Rattle.table_check.specs.First.{First}
use Rattle.table_check.specs.Valid.{HasWholeTree, IsSoundRow, IsValid}
use Rattle.table_check.specs.Laws.{ChecksAreValidity}
use Rattle.key_lookup.specs.Record.{found_row, IsFoundRow}
use Rattle.key_lookup.specs.GetFirst.{FoundRowChecks, GetFirst}
use Rattle.key_lookup.specs.Laws.{IsRowWith, FindsRow, FindsInValid}
use Rattle.key_lookup.proofs.Between.{HasOneKind}
use Rattle.key_lookup.proofs.RowOfKey.{finds_row}
use Rattle.key_lookup.proofs.Checks.{all_way_checks, record_checks}
use Rattle.key_lookup.proofs.Values.{same_row}

-- the laws of the crates below on which this one stands
pub record HasLaws : Type 0 where
  pub rise : KeysRiseThroughout
  pub page : ChecksAreIndexPage
  pub valid : ChecksAreValidity
  pub one_chain : HasOneChain
  pub lists : (table : TableDef) (j : ℕ) → AreOfOneIndex (leaf_fields table j) (node_fields table j)

module _ (laws : HasLaws) (file : List ℕ) (table : TableDef) (key : Key) (is : IsTable table) (v : IsValid file table)
  where
    abbrev index : Index
    index = clustered_tree file table

    one : HasOneKind index
    unfolding index_in
    one = same_kinds (leaf_fields table 0) (node_fields table 0) (laws.lists table 0)

    whole : HasWholeTree index
    whole = v.trees.whole 0 (omega (arith, is.clustered))

    sound : IsSoundSpace index.file (flags_of table.format)
    unfolding index_in
    sound = v.space

    head : HeadChecks file (flags_of table.format) None
    unfolding First OwnerChecks
    head = ((laws.valid file table).1 v).0.0.0

    rows : RowChecks index (is_in (all_tree_pages file table)) None
    unfolding First
    rows = ((laws.valid file table).1 v).1.1.0

    row_of : (row : Row) → (found_row index key ≡ Some row) ↔ IsRowWith index key row
    row_of row = finds_row laws.rise index one whole.tree key row

    -- the checks of a row of the table
    row_checks : (row : Row) → Contains (live_rows index) row → FoundRowChecks index (Some row) None
    row_checks row (k, within, at) =
        let before = pages_of_rows index (take k (live_rows index)) in
        let check = subst (λ (r : Row). RowCheck index (is_in (all_tree_pages file table)) (take k (live_rows index)) r
        None) at (rows k row within) in
        record_checks index.file (flags_of table.format) (leaf_segment index) row.page sound (page_in index row.page)
        row.origin index.leaf (seen (is_in (all_tree_pages file table)) before) check

    found_checks : (found : Option Row) → ((row : Row) → found ≡ Some row → Contains (live_rows index) row)
        → FoundRowChecks index found None
    found_checks None h = tt
    found_checks (Some row) h = row_checks row (h row refl)

    good : GetFirst file table key None
    unfolding GetFirst
    good = (
      head,
      (
        all_way_checks laws.page laws.rise index one (flags_of table.format) sound whole key,
        found_checks (found_row index key) (λ row e. ((row_of row).0 e).live),
      ),
    )

    same : (row : Row) (row_values : List Value) → found_row index key ≡ Some row
        → IsFoundRow file table row row_values ↔ IsRow file table row row_values
    same row row_values e =
        same_row laws.one_chain file v.space.extents.head.size.most table row row_values is
        (All-contains (IsSoundRow index) (live_rows index) row v.values.rows ((row_of row).0 e).live)

    pub finds : FindsRow file table key
    finds = record { good = good; row = row_of; same = same }

pub finds_in_valid : HasLaws → FindsInValid
finds_in_valid laws file table key is v = finds laws file table key is v
