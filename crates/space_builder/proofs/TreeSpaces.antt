-- The trees of a tablespace that is put are those of its layout.
use Rattle.std.proofs.Common.{◌≡◌, ◌≢◌, ℕ, ◌<◌, ◌≤◌, Bool, true, false, cond, List, []}
use Rattle.std.proofs.Common.{length, get_or, IfSome, sym, ap, ◌∙◌, subst, arith}
use Rattle.std.proofs.Common.{length-drop}
use Rattle.std.proofs.lemmas.Bool.{ne_eqb}
use Rattle.std.proofs.lemmas.List.FromFn.{get_or-map-range_with_len}
use Rattle.page_source.specs.declared.objects.PageStore.{Ghosts as StoreOf}
use Rattle.column_values.specs.Types.{Fields}
use Rattle.schema_text.specs.IndexFields.{leaf_fields, node_fields, entry_fields}
use Rattle.schema_text.specs.TableDef.{TableDef}
use Rattle.schema_text.specs.declared.table.Format.{Format}
use Rattle.schema_text.specs.declared.table.Format.TheVariants.{Compact, Dynamic}
use Rattle.space_layout.specs.Numbers.{IsShape, size_at, segment_page, space_pages}
use Rattle.space_layout.specs.NumberedPages.{Numbered}
use Rattle.tree_layout.specs.Entries.{Entry}
use Rattle.tree_layout.specs.Division.{tree_levels, level_counts, CanDivide}
use Rattle.tree_layout.specs.Places.{FitsSegments, tree_number}
use Rattle.row_layout.specs.HoldsValues.{clustered_entries, pages_of_stored, stored_in}
use Rattle.row_layout.specs.Laws.{FittedRowsAreRows}
use Rattle.row_layout.specs.SecondaryEntries.{secondary_entries}
use Rattle.row_layout.specs.StoredRow.{Stored, stored_at, kept_prefix, going_over}
use Rattle.space_builder.specs.declared.plan.IndexPages.{IndexPages}
use Rattle.space_builder.specs.declared.space.Space.{Space}
use Rattle.space_builder.specs.declared.tree_plan.TreePlan.{TreePlan}
use Rattle.space_builder.specs.calls.Picked.{first_page_in, picked_entries}
use Rattle.space_builder.specs.calls.Room.{TakesPages, AreFirstPages, number_behind}
use Rattle.space_builder.specs.declared.values.FirstPages.{FirstPages}
use Rattle.space_builder.specs.calls.Space.{IsSpaceOf, IsTreeOf, leaves_of}
use Rattle.space_builder.specs.calls.Order.{IsIndexOrder}
use Rattle.space_builder.specs.calls.StoredRows.{NameSamePages, PicksEntries, SamePagesGiveRecords}
use Rattle.space_builder.specs.calls.TreePlan.{IsPlan, CanPutTree, HasRoomFor, number_in, tree_pages}
use Rattle.row_store.specs.StoredRows.{Rows, stored_rows}
use Rattle.space_builder.specs.layout.Layout.{tree_counts, value_counts, segment_sizes, value_number}
use Rattle.space_builder.specs.layout.Layout.{page_number, index_entries, index_levels, index_pages}
use Rattle.space_builder.specs.layout.LowerLaws.{LowerLaws}
use Rattle.space_builder.specs.layout.TreePage.{pages_of_tree}
use Rattle.space_builder.proofs.ValuePuts.{same_function}
use Rattle.space_builder.proofs.layout.FittedRows.{are_fitted}
use Rattle.space_builder.proofs.layout.Laid.{fits, shape}
use Rattle.space_builder.proofs.layout.Sizes.{can_divide, counts_with, segments_are}

-- the pages of a tree with these levels
pages_with : Fields → Fields → (ℕ → ℕ → ℕ) → List Entry → ℕ → List Numbered
pages_with leaf node numbers entries j = pages_of_tree leaf node numbers (tree_levels leaf node numbers entries) j

same_pages : (leaf leaf' node node' : Fields) (numbers numbers' : ℕ → ℕ → ℕ) (entries entries' : List Entry)
    (j j' : ℕ) → leaf ≡ leaf' → node ≡ node' → numbers ≡ numbers' → entries ≡ entries' → j ≡ j'
    → pages_with leaf node numbers entries j ≡ pages_with leaf' node' numbers' entries' j'
same_pages leaf leaf' node node' numbers numbers' entries entries' j j' a b c d e =
    ap (λ (x : Fields). pages_with x node numbers entries j) a
    ∙ ap (λ (x : Fields). pages_with leaf' x numbers entries j) b
    ∙ ap (λ (x : ℕ → ℕ → ℕ). pages_with leaf' node' x entries j) c
    ∙ ap (λ (x : List Entry). pages_with leaf' node' numbers' x j) d
    ∙ ap (pages_with leaf' node' numbers' entries') e

module _ (laws : LowerLaws) (space : Space) (rows : Rows) (is : IsSpaceOf space rows) (j : ℕ)
    (index : j < length space.schema.now.indexes) (tree : TreePlan) (tree_is : IsTreeOf space j tree)
    (entries : List Entry) (entries_are : entries ≡ index_entries space.schema.now rows j) where
  abbrev table : TableDef
  table = space.schema.now

  counts_are : tree.counts.now ≡ tree_counts table rows j
  counts_are = tree_is.counts rows is

  sizes_are : tree.sizes.now ≡ segment_sizes table rows
  sizes_are = tree_is.sizes ∙ is.plan.sizes

  numbers_are : number_in tree ≡ page_number table rows j
  unfolding number_in page_number
  numbers_are =
      same_function (number_in tree) (page_number table rows j)
      (λ l. same_function (number_in tree l) (page_number table rows j l)
      (λ k.
      ap (λ (sizes : List ℕ). tree_number (segment_page sizes) tree.counts.now tree.index l k) sizes_are
      ∙ ap (λ (counts : List ℕ). tree_number (segment_page (segment_sizes table rows)) counts tree.index l k) counts_are
      ∙ ap (λ (i : ℕ). tree_number (segment_page (segment_sizes table rows)) (tree_counts table rows j) i l k)
      tree_is.index))

  pub pages_are : tree_pages tree entries ≡ index_pages table rows j
  unfolding pages_with index_levels
  pages_are =
      same_pages tree.leaf.now (leaf_fields table j) tree.node.now (node_fields table j) (number_in tree)
      (page_number table rows j) entries (index_entries table rows j) tree.index j tree_is.leaf tree_is.node
      numbers_are entries_are tree_is.index

  is_plan : IsPlan tree
  is_plan = record {
    shape = subst IsShape (sym sizes_are) (shape laws table rows is.can);
    index =
        let all = segments_are laws table rows in
        let size = ap (λ (sizes : List ℕ). length sizes) sizes_are in
        let here = tree_is.index in
        omega arith;
    fits = subst (λ (i : ℕ). FitsSegments tree.counts.now (size_at tree.sizes.now) i) (sym tree_is.index)
        (subst (λ (sizes : List ℕ). FitsSegments tree.counts.now (size_at sizes) j) (sym sizes_are)
        (subst (λ (counts : List ℕ). FitsSegments counts (size_at (segment_sizes table rows)) j) (sym counts_are)
        (fits laws table rows is.can j index)));
  }

  divides : CanDivide tree.leaf.now tree.node.now entries
  unfolding index_entries
  divides =
      subst (λ (leaf : Fields). CanDivide leaf tree.node.now entries) (sym tree_is.leaf)
      (subst (λ (node : Fields). CanDivide (leaf_fields table j) node entries) (sym tree_is.node)
      (subst (CanDivide (leaf_fields table j) (node_fields table j)) (sym entries_are)
      (can_divide laws table rows is.can j index (value_number table rows))))

  counted : tree.counts.now ≡ level_counts (tree_levels tree.leaf.now tree.node.now (λ l k. 0) entries)
  unfolding index_entries
  counted =
      counts_are ∙ sym (counts_with laws table rows (λ l k. 0) (value_number table rows) j)
      ∙ ap (λ (e : List Entry). level_counts (tree_levels (leaf_fields table j) (node_fields table j) (λ l k. 0) e))
      (sym entries_are)
      ∙ ap (λ (node : Fields). level_counts (tree_levels (leaf_fields table j) node (λ l k. 0) entries))
      (sym tree_is.node)
      ∙ ap (λ (leaf : Fields). level_counts (tree_levels leaf tree.node.now (λ l k. 0) entries)) (sym tree_is.leaf)

  pub can_put : CanPutTree tree entries
  can_put = record { is_plan = is_plan; divide = divides; counted = counted }

-- a field that went off goes on in a page
kept_less : (format : Format) → kept_prefix format ≤ going_over format
kept_less Compact = omega arith
kept_less Dynamic = omega arith

some_page : (format : Format) (null off : Bool) (bytes : List ℕ) → off ≡ true → going_over format < length bytes
    → 0 < pages_of_stored format (record { null = null; off = off; bytes = bytes })
some_page format null true bytes went long =
    let kept = kept_less format in
    let size = length-drop (kept_prefix format) bytes in
    omega arith
some_page format null false bytes went long = cc

module _ (laws : LowerLaws) (fitted : FittedRowsAreRows) (space : Space) (rows : Rows) (is : IsSpaceOf space rows)
  where
    abbrev table_of : TableDef
    table_of = space.schema.now

    abbrev stored_of : List (List Stored)
    stored_of = stored_rows space.schema.now rows

    some_index : 0 < length space.schema.now.indexes
    some_index = let some = is.can.is_table.clustered in omega arith

    field_went : (r i : ℕ) → r < length stored_of → i < length (stored_in stored_of r)
        → (stored_at (stored_in stored_of r) i).off ≡ true
        → going_over table_of.format < length (stored_at (stored_in stored_of r) i).bytes
    field_went r i below inside went =
        let are = are_fitted table_of rows is.can in
        let count = are.count in
        let within : r < length rows = omega arith in
        let fields = (fitted table_of r (get_or rows r []) (stored_in stored_of r) (are.fit r within)).fields in
        let size = fields.count in
        ((fields.each i (omega arith)).went went).long

    pub name_pages : (starts pages : List ℕ)
        → AreFirstPages table_of.format (segment_sizes table_of rows) (leaves_of table_of rows) space.rows.now starts
        pages
        → NameSamePages stored_of (first_page_in starts pages) (value_number table_of rows)
    unfolding value_number value_counts
    name_pages starts pages first r i below inside went =
        let format = table_of.format in
        let sizes = segment_sizes table_of rows in
        let leaves = leaves_of table_of rows in
        let row = stored_in stored_of r in
        let some = some_page format (stored_at row i).null (stored_at row i).off (stored_at row i).bytes went
        (field_went r i below inside went) in
        subst (λ (stored : List (List Stored)). AreFirstPages format sizes leaves stored starts pages) is.same first r i
        below inside went
        ∙ get_or-map-range_with_len (number_behind format sizes leaves stored_of r i) 0
        (pages_of_stored format (stored_at row i)) 0 0 0 some (omega arith)

    -- the records that are put are those of the layout
    pub clustered_are : SamePagesGiveRecords → (first : FirstPages) (starts pages : List ℕ) (format : Format)
        → AreFirstPages table_of.format (segment_sizes table_of rows) (leaves_of table_of rows) space.rows.now
        first.starts.items first.pages.items
        → starts ≡ first.starts.items → pages ≡ first.pages.items → format ≡ table_of.format
        → clustered_entries format (first_page_in starts pages) space.rows.now ≡ index_entries table_of rows 0
    unfolding index_entries
    clustered_are records first starts pages format are starts_are pages_are format_is =
        ap (λ (f : Format). clustered_entries f (first_page_in starts pages) space.rows.now) format_is
        ∙ ap (λ (ns : List ℕ). clustered_entries table_of.format (first_page_in ns pages) space.rows.now) starts_are
        ∙ ap (λ (ns : List ℕ). clustered_entries table_of.format (first_page_in first.starts.items ns) space.rows.now)
        pages_are
        ∙ ap (clustered_entries table_of.format (first_page_in first.starts.items first.pages.items)) is.same
        ∙ records table_of.format stored_of (first_page_in first.starts.items first.pages.items)
        (value_number table_of rows) (name_pages first.starts.items first.pages.items are)

-- and so are the entries of another index
pub secondary_are : (space : Space) (rows : Rows) (is : IsSpaceOf space rows) → PicksEntries → (j : ℕ) → 0 < j
    → j < length space.schema.now.indexes → (fields order : List ℕ) → fields ≡ entry_fields space.schema.now j
    → IsIndexOrder space.schema.now space.rows.now j order
    → picked_entries fields space.rows.now order ≡ index_entries space.schema.now rows j
unfolding index_entries
secondary_are space rows is picks j second index fields order fields_are in_order =
    let table = space.schema.now in
    let no : j ≢ 0 = omega arith in
    ap (λ (f : List ℕ). picked_entries f space.rows.now order) fields_are
    ∙ picks table rows space.rows.now j order
    record {
      is_table = is.can.is_table;
      good = record {
        are_rows = is.can.are_rows;
        rise = is.can.rise;
        fitted = is.can.fitted;
        few = is.can.few;
      };
      same = is.same;
    }
    second index in_order
    ∙ sym (ap (λ (b : Bool). cond b (clustered_entries table.format (value_number table rows) (stored_rows table rows))
    (secondary_entries table j rows)) (ne_eqb j 0 no))

-- the pages of the levels of an index, by the plan
pub plan_levels : (space : Space) (rows : Rows) → IsSpaceOf space rows → (j : ℕ) → j < length space.schema.now.indexes
    → (pages : IndexPages) → pages ≡ get_or space.plan.now.indexes.items j pages
    → pages.levels.items ≡ tree_counts space.schema.now rows j
plan_levels space rows is j index pages same =
    ap (λ (p : IndexPages). p.levels.items) same ∙ (is.plan.each j pages index).levels

-- the store has room for the pages of the tree
pub tree_room : {T : Type 0} (g : StoreOf T) (store : T) (space : Space) (j : ℕ) (tree : TreePlan)
    → IsTreeOf space j tree → TakesPages (g.told store) space.plan.now.sizes.items → HasRoomFor g store tree
tree_room g store space j tree is takes =
    subst (λ (sizes : List ℕ). IfSome (g.told store).size (λ size. space_pages sizes ≤ size)) (sym is.sizes) takes.below
