-- Out of a sound file each row of the table is saved whole, once, and nothing else.
use Rattle.std.proofs.Common.{Option, ◌+◌, ◌++◌}
use Rattle.std.proofs.Common.{◌≡◌, ◌≢◌, ℕ, zero, suc, ◌<◌, Bool, true, false, cond, List, [], ◌∷◌}
use Rattle.std.proofs.Common.{length, take, map, get_or, filter, flat_map, sum_by, All, Contains, Some, None}
use Rattle.std.proofs.Common.{inl, inr, refl, sym, ap, ◌∙◌, subst, arith}
use Rattle.std.specs.List.{AllZip, range_with_len}
use Rattle.std.specs.List.Sorted.{IsPermutation}
use Rattle.std.proofs.lemmas.Bool.{true≢false, false≢true}
use Rattle.std.proofs.lemmas.List.{take_all}
use Rattle.std.proofs.lemmas.List.Concat.{length-flat_map}
use Rattle.std.proofs.lemmas.List.FromFn.{get_or-map-range_with_len, length-map-range_with_len}
use Rattle.std.proofs.lemmas.List.Elements.{All-head, All-tail, All-nil}
use Rattle.std.proofs.lemmas.List.Sorted.{IsPermutation-map, length_permutation}
use Rattle.page_source.specs.declared.rule.Rule.{Rule}
use Rattle.page_source.specs.Pages.{page_of}
use Rattle.page_source.specs.Lists.{AreDistinct, HaveSameMembers}
use Rattle.page_source.proofs.Members.{all_members, contains_filter, filter_contains, contains_range, range_contains}
use Rattle.page_source.proofs.Members.{distinct_filter, distinct_range}
use Rattle.page_source.proofs.Times.{sum_by_same, times_some}
use Rattle.column_values.specs.declared.value.Value.{Value}
use Rattle.column_values.specs.declared.value.Value.TheVariants.{Null}
use Rattle.column_values.specs.Laws.{HasOneValue}
use Rattle.extent_map.specs.Extents.{is_used, IsUsed}
use Rattle.index_page.specs.Header.{records_of, record_count, first_record}
use Rattle.index_page.proofs.RecordWalk.{get_or-records_from, length-records_from}
use Rattle.space_audit.specs.Marks.{is_in}
use Rattle.schema_text.specs.Formats.{flags_of}
use Rattle.schema_text.specs.TableDef.{TableDef}
use Rattle.schema_text.specs.Grammar.{IsTable}
use Rattle.schema_text.specs.IndexFields.{leaf_fields}
use Rattle.row_text.specs.Line.{line_of}
use Rattle.tree_walk.specs.Index.{Index, Row, rows_on, leaf_pages, is_live_row, is_deleted_row, reached}
use Rattle.tree_walk.specs.Index.{pages_at, root_level, index_id}
use Rattle.tree_walk.specs.Laws.{ComeOnce}
use Rattle.tree_walk.proofs.Descents.{reached_occurs}
use Rattle.tree_walk.proofs.Occurs.{occurs_none}
use Rattle.tree_walk.proofs.LeafFacts.{leaf_facts}
use Rattle.table_check.specs.Trees.{index_in, clustered_tree}
use Rattle.table_check.specs.Values.{live_rows}
use Rattle.table_check.specs.Valid.{IsValid}
use Rattle.table_check.proofs.ValuesLaw.{are_distinct}
use Rattle.sql_dump.specs.Cells.{RowView, ReadsRow, row_on, cell_of_column}
use Rattle.sql_dump.specs.Lines.{ReadsRecord}
use Rattle.sql_dump.proofs.Dumps.{SoundTable}
use Rattle.sql_dump.proofs.TableLines.{zip_length}
use Rattle.leaf_salvage.specs.declared.verdict.Verdict.TheVariants as verdicts
use Rattle.leaf_salvage.specs.Standing.{Stands}
use Rattle.leaf_salvage.specs.Unused.{IsUnused}
use Rattle.leaf_salvage.specs.Leaf.{IsLeafOf, IsWholeLeaf, LeafVerdict}
use Rattle.leaf_salvage.specs.Laws.{HasOneVerdict}
use Rattle.salvage_model.specs.Judged.{Judged, losses_in}
use Rattle.salvage_model.specs.SavedRow.{is_whole_row}
use Rattle.salvage_model.specs.SavedLine.{saved_line}
use Rattle.salvage_model.specs.RowLaws.{WholeLinesAreLines, WholeRowsAreRead}
use Rattle.salvage_model.specs.declared.kind.RecordKind.TheVariants.{Live}
use Rattle.salvage_model.specs.Records.{origin_of, places_of}
use Rattle.salvage_model.specs.Outcome.{Job, SavedRow, Outcome, Unused, Unread, Other, Lost, Leaf}
use Rattle.salvage_model.specs.Outcome.{row_at_place, looked_of_pages}
use Rattle.salvage_model.specs.Outcome.{AreSavedRows, ComesOf, IsFull}
use Rattle.salvage_model.specs.Saved.{AreFirst, IsSaved, rows_of, line_of_row, whole_count, partial_count, leaf_count}
use Rattle.salvage_model.specs.Saved.{lost_count, numbers_of, IsComplete}
use Rattle.salvage_model.specs.Saved as saved_words
use Rattle.salvage_model.specs.declared.loss.Loss.{Loss}
use Rattle.salvage_model.specs.Losses.{value_losses, row_losses}
use Rattle.salvage_model.specs.Report.{losses_of_rows, losses_on, losses_of}
use Rattle.schema_text.specs.declared.table.Column.{Column}
use Rattle.std.specs.List.{zip, enumerate_from}
use Rattle.salvage_model.specs.Laws.{HasOwnId, whole_job, LosesNothing}
use Rattle.salvage_laws.proofs.Used.{all_fetched, framed_stands, unused_known, used_known, used_size}
use Rattle.salvage_laws.proofs.Leaves.{is_in_contains, leaf_stands}
use Rattle.salvage_laws.proofs.Outcomes.{same_list, one_value}
use Rattle.salvage_laws.proofs.Owners.{live_origin}
use Rattle.salvage_laws.proofs.Pieces.{once_back}
use Rattle.salvage_laws.proofs.Gather.{gathered, without_empty, by_places, filter_pieces, filter_map_of, map_map}
use Rattle.salvage_laws.proofs.Gather.{zip_pieces, zip_of_map, same_beside, all_pieces, sum_ones, sum_zeros}
use Rattle.salvage_laws.proofs.Nothing.{HasLaws, IsWholeSaved, IsWholePage, pages_whole, leaf_of}

-- the records of a page by their places
records_by_places : (page : List ℕ)
    → records_of page ≡ map (origin_of Live page) (range_with_len 0 (record_count page))
records_by_places page =
    let first = first_record page in
    let count = record_count page in
    let size = length-records_from page first count in
    let all = length-map-range_with_len (origin_of Live page) 0 count in
    same_list 0 (records_of page) _ (size ∙ sym all) (λ c below.
    let within : c < count = omega (arith, below, size) in
    get_or-records_from page first count c 0 within
    ∙ sym (live_origin page c)
    ∙ sym (get_or-map-range_with_len (origin_of Live page) 0 count c c 0 within (omega arith)))

-- where no loss is told, a row is whole
none_whole : (columns : List Judged) → All (λ (j : Judged). j.loss ≡ None) columns
    → is_whole_row (losses_in columns) ≡ true
none_whole [] all = refl
none_whole (j ∷ js) all = by_loss j.loss (All-head (λ (j : Judged). j.loss ≡ None) j js all)
    (none_whole js (All-tail (λ (j : Judged). j.loss ≡ None) j js all))
  where
    by_loss : (loss : _) → loss ≡ None → is_whole_row (losses_in js) ≡ true
        → is_whole_row (loss ∷ losses_in js) ≡ true
    by_loss None none rest = rest
    by_loss (Some l) none rest = cc

-- pieces that are all empty
no_pieces : {X Y : Type 0} (f : X → List Y) (xs : List X) → All (λ x. f x ≡ []) xs → flat_map f xs ≡ []
no_pieces f [] all = refl
no_pieces {Y = Y} f (x ∷ xs) all =
    ap (λ (l : List Y). l ++ flat_map f xs) (All-head (λ y. f y ≡ []) x xs all)
    ∙ no_pieces f xs (All-tail (λ y. f y ≡ []) x xs all)

no_numbered : {X Y : Type 0} (f : (ℕ × X) → List Y) (n : ℕ) (xs : List X) → All (λ x. (m : ℕ) → f (m, x) ≡ []) xs
    → flat_map f (enumerate_from n xs) ≡ []
no_numbered f n [] all = refl
no_numbered {X = X} {Y = Y} f n (x ∷ xs) all =
    ap (λ (l : List Y). l ++ flat_map f (enumerate_from (n + 1) xs))
    (All-head (λ (y : X). (m : ℕ) → f (m, y) ≡ []) x xs all n)
    ∙ no_numbered f (n + 1) xs (All-tail (λ (y : X). (m : ℕ) → f (m, y) ≡ []) x xs all)

-- a whole row has no line of a loss
no_values : (n k : ℕ) (columns : List Column) (losses : List (Option Loss)) → is_whole_row losses ≡ true
    → flat_map (λ (pair : Column × Option Loss). value_losses n k pair.0 pair.1) (zip columns losses) ≡ []
no_values n k [] losses whole = refl
no_values n k (c ∷ cs) [] whole = refl
no_values n k (c ∷ cs) (None ∷ rest) whole = no_values n k cs rest whole
no_values n k (c ∷ cs) (Some loss ∷ rest) whole = absurd (false≢true whole)

row_unnamed : (table : TableDef) (n k : ℕ) (losses : List (Option Loss)) → is_whole_row losses ≡ true
    → row_losses table n k losses ≡ []
unfolding row_losses
row_unnamed table n k losses whole = no_values n k table.columns losses whole

module _ (laws : HasLaws) (verdict : HasOneVerdict) (lines : WholeLinesAreLines) (read : WholeRowsAreRead)
    (spelled : HasOneValue) (file : List ℕ) (table : TableDef) (is : IsTable table) (valid : IsValid file table)
    (own : HasOwnId file table) (sound : SoundTable file table) (outcomes : List Outcome)
    (saved : IsSaved (whole_job file table) outcomes) where
  abbrev tree : Index
  tree = clustered_tree file table

  abbrev job : Job
  job = whole_job file table

  abbrev leaves : List ℕ
  leaves = leaf_pages tree

  abbrev at : ℕ → Outcome
  at n = get_or outcomes n Unused

  pub leaf_there : (n : ℕ) → ¬ (IsUnused file all_fetched n) → IsLeafOf (page_of file n) (index_id tree)
      → Contains leaves n
  leaf_there n = leaf_of laws file table is valid own sound.found.all sound.found.reads n

  pub leaf_here : (n : ℕ) → Contains leaves n
      → IsUsed file n × IsWholeLeaf (page_of file n) n (index_id tree) (leaf_fields table 0)
  leaf_here n = leaf_stands laws.used laws.one laws.leaves file table is valid n

  -- a page that isn't known to be free stands
  pub known_stands : (n : ℕ) → ¬ (IsUnused file all_fetched n) → Stands (page_of file n) n
  known_stands n known = by_test (is_used file n) refl
    where
      by_test : (b : Bool) → is_used file n ≡ b → Stands (page_of file n) n
      by_test true e = framed_stands (page_of file n) n _ (valid.space.frames.framed n e)
      by_test false e = absurd (known (unused_known laws.used file (flags_of table.format) valid.space.extents n e))

  -- the leaves of the tree are leaves, and no other page is one or is lost
  abbrev IsClassed : ℕ → Outcome → Type 0
  IsClassed n Unused = ¬ (Contains leaves n)
  IsClassed n Unread = ⊥
  IsClassed n Other = ¬ (Contains leaves n)
  IsClassed n (Lost rule) = ⊥
  IsClassed n (Leaf rows) = Contains leaves n

  no_lost : (n : ℕ) (rule : Rule) → ¬ (IsUnused file all_fetched n)
      → LeafVerdict (page_of file n) n (index_id tree) (leaf_fields table 0) (verdicts.Lost rule) → ⊥
  no_lost n rule known lost = elim lost.1 [
    | inl frame ↦ frame.0 (known_stands n known)
    | inr rest ↦
        let same = verdict (page_of file n) n (index_id tree) (leaf_fields table 0) (verdicts.Lost rule) verdicts.Leaf
        lost (leaf_here n (leaf_there n known rest.1.0)).1 in
        cc
  ]

  classed : (n : ℕ) (taken : ℕ → Bool) (outcome : Outcome) → ComesOf job n taken outcome → IsClassed n outcome
  classed n taken Unused comes =
      λ leaf. used_known laws.used file (flags_of table.format) valid.space.extents n (leaf_here n leaf).0 comes
  classed n taken Unread comes = true≢false (sym comes.1)
  classed n taken Other comes =
      λ leaf.
      let same = verdict (page_of file n) n (index_id tree) (leaf_fields table 0) verdicts.Other verdicts.Leaf comes.1
      (leaf_here n leaf).1 in
      cc
  classed n taken (Lost rule) comes = no_lost n rule comes.0.used comes.1
  classed n taken (Leaf rows) comes = leaf_there n comes.0.0.used comes.0.1.of

  class_at : (n : ℕ) → n < length outcomes → IsClassed n (at n)
  class_at n below = classed n _ (at n) (saved.first.each n Unused below)

  -- each leaf is below the end
  leaf_below : (n : ℕ) → Contains leaves n → n < length outcomes
  leaf_below n leaf =
      let size = used_size laws.used file (flags_of table.format) valid.space.extents n (leaf_here n leaf).0 in
      let head = valid.space.extents.head.size in
      let end = saved.all in
      omega (arith, size, head.most, head.within, end)

  -- the leaves differ
  level_once : (l : ℕ) → ComeOnce (reached tree l) → ComeOnce (pages_at tree l)
  unfolding reached pages_at
  level_once zero once = once
  level_once (suc l) once = once_back (reached tree l) (pages_at tree (suc l)) once

  distinct_leaves : AreDistinct leaves
  distinct_leaves =
      let whole = valid.trees.whole 0 is.clustered in
      are_distinct leaves (level_once (root_level tree) (λ n.
      let same = reached_occurs n tree (root_level tree) in
      let most = whole.once n in
      omega (arith, same, most)))

  -- the same, rising
  abbrev rising : List ℕ
  rising = filter (is_in leaves) (range_with_len 0 (length outcomes))

  distinct_rising : AreDistinct rising
  distinct_rising = distinct_filter (is_in leaves) _ (distinct_range (length outcomes))

  pub contains_is_in : (xs : List ℕ) (n : ℕ) → Contains xs n → is_in xs n ≡ true
  contains_is_in xs n c = by_test (is_in xs n) refl
    where
      by_test : (b : Bool) → is_in xs n ≡ b → b ≡ true
      by_test true e = refl
      by_test false e =
          let none = occurs_none n xs e in
          let some = times_some xs n c in
          absurd (omega (arith, none, some))

  members : HaveSameMembers rising leaves
  members n = (
    λ c. is_in_contains leaves n (filter_contains (is_in leaves) _ n c).1,
    λ c. contains_filter (is_in leaves) _ n (contains_range (length outcomes) n (leaf_below n c))
        (contains_is_in leaves n c),
  )

  -- what only leaves have, gathered over all pages, is what the leaves of the tree have
  pub gather : {Y : Type 0} (f : Outcome → List Y)
      → ((outcome : Outcome) → ((rows : List SavedRow) → outcome ≢ Leaf rows) → f outcome ≡ [])
      → IsPermutation (flat_map f outcomes) (flat_map (λ n. f (at n)) leaves)
  gather {Y = Y} f empty =
      let range = range_with_len 0 (length outcomes) in
      let by_place = by_places f outcomes Unused in
      let none : All (λ n. is_in leaves n ≡ false → f (at n) ≡ []) range =
      all_members (λ n. is_in leaves n ≡ false → f (at n) ≡ []) range (λ n c e.
      empty (at n) (λ rows same.
      let leaf : Contains leaves n =
      subst (λ (o : Outcome). IsClassed n o) same (class_at n (range_contains (length outcomes) n c)) in
      true≢false (sym (contains_is_in leaves n leaf) ∙ e))) in
      let kept = without_empty (λ n. f (at n)) (is_in leaves) range none in
      subst (λ (l : List Y). IsPermutation l (flat_map (λ n. f (at n)) leaves)) (sym (by_place ∙ kept))
      (gathered (λ n. f (at n)) rising leaves distinct_rising distinct_leaves members)

  abbrev IsWholeIn : ℕ → SavedRow → Type 0
  IsWholeIn n row = IsWholeSaved laws file table is valid own sound.found.all sound.found.reads n row

  abbrev WholePageIn : ℕ → Outcome → Type 0
  WholePageIn n outcome = IsWholePage laws file table is valid own sound.found.all sound.found.reads n outcome

  whole_at : (n : ℕ) → n < length outcomes → (d : Outcome) → WholePageIn n (get_or outcomes n d)
  whole_at = pages_whole laws file table is valid own sound.found.all sound.found.reads outcomes saved.first

  row_is_whole : (n : ℕ) (row : SavedRow) → IsWholeIn n row → is_whole_row (losses_in row.columns) ≡ true
  row_is_whole n row whole = none_whole row.columns (λ c d below. (whole.each c below d).loss)

  -- what came of a leaf
  record OnLeaf (n : ℕ) : Type 0 where
    pub rows : List SavedRow
    pub same : at n ≡ Leaf rows
    pub comes : AreSavedRows job n (is_in (looked_of_pages (take n outcomes))) rows
    pub full : length rows ≡ length (places_of Live (page_of file n))
    pub whole : (k : ℕ) → k < length rows → (d : SavedRow) → IsWholeIn n (get_or rows k d)

  on_leaf : (n : ℕ) → Contains leaves n → OnLeaf n
  on_leaf n leaf =
      let below = leaf_below n leaf in
      by_outcome (at n) refl (saved.first.each n Unused below) (saved.full n below) (whole_at n below Unused)
      (class_at n below)
    where
      by_outcome : (o : Outcome) → at n ≡ o → ComesOf job n (is_in (looked_of_pages (take n outcomes))) o
          → IsFull job n o → WholePageIn n o → IsClassed n o → OnLeaf n
      by_outcome Unused e comes full whole class = absurd (class leaf)
      by_outcome Unread e comes full whole class = absurd class
      by_outcome Other e comes full whole class = absurd (class leaf)
      by_outcome (Lost rule) e comes full whole class = absurd class
      by_outcome (Leaf rows) e comes full whole class =
          record { rows = rows; same = e; comes = comes.1; full = full; whole = whole }

  -- a saved row has all values that are read of a record
  record IsSavedOf (row : Row) (saved_row : SavedRow) : Type 0 where
    pub values_of : List Value
    pub same : saved_row.row_values ≡ map Some values_of
    pub reads_it : ReadsRow file (row_on table (page_of file row.page) row.origin) values_of

  abbrev row_at : ℕ → ℕ → Row
  row_at n place = record { page = n; origin = origin_of Live (page_of file n) place }

  saved_of : (n : ℕ) (on : OnLeaf n) (k : ℕ) (d : SavedRow) → k < length on.rows
      → IsSavedOf (row_at n (get_or on.rows k d).place) (get_or on.rows k d)
  saved_of n on k d below =
      let row = get_or on.rows k d in
      let here = read file (row_at_place job n row.place).row (losses_in row.columns) row.row_values
      (row_is_whole n row (on.whole k below d)) (on.comes.each k d below).saves in
      record { values_of = here.row_values; same = here.same; reads_it = here.reads }

  -- the live rows of a page
  abbrev live_on : ℕ → List Row
  live_on n = filter (is_live_row tree) (rows_on tree n)

  live_is : (n : ℕ) → live_on n ≡ map (row_at n) (places_of Live (page_of file n))
  unfolding places_of is_deleted_row index_in
  live_is n =
      let page = page_of file n in
      let range = range_with_len 0 (record_count page) in
      let to_row : ℕ → Row = λ origin. record { page = n; origin = origin } in
      ap (λ (origins : List ℕ). filter (is_live_row tree) (map to_row origins)) (records_by_places page)
      ∙ ap (filter (is_live_row tree)) (map_map to_row (origin_of Live page) range)
      ∙ filter_map_of (is_live_row tree) (row_at n) range

  abbrev saved_on : ℕ → List SavedRow
  saved_on n = saved_words.rows_on (at n)

  zip_leaf : (n : ℕ) → Contains leaves n → AllZip IsSavedOf (live_on n) (saved_on n)
  zip_leaf n leaf =
      let on = on_leaf n leaf in
      let live = places_of Live (page_of file n) in
      let all : map (λ (r : SavedRow). r.place) on.rows ≡ live =
      on.comes.places ∙ take_all (length on.rows) live (omega (arith, on.full)) in
      let rows : map (λ (r : SavedRow). row_at n r.place) on.rows ≡ live_on n =
      sym (map_map (row_at n) (λ (r : SavedRow). r.place) on.rows) ∙ ap (map (row_at n)) all ∙ sym (live_is n) in
      subst (λ (l : List Row). AllZip IsSavedOf l (saved_on n)) rows
      (subst (λ (l : List SavedRow). AllZip IsSavedOf (map (λ (r : SavedRow). row_at n r.place) on.rows) l)
      (sym (ap (λ (o : Outcome). saved_words.rows_on o) on.same))
      (zip_of_map IsSavedOf (λ (r : SavedRow). row_at n r.place) on.rows (λ k d below. saved_of n on k d below)))

  zip_all : AllZip IsSavedOf (live_rows tree) (flat_map saved_on leaves)
  unfolding live_rows
  zip_all =
      subst (λ (l : List Row). AllZip IsSavedOf l (flat_map saved_on leaves))
      (sym (filter_pieces (is_live_row tree) (rows_on tree) leaves))
      (zip_pieces IsSavedOf live_on saved_on leaves
      (all_members (λ n. AllZip IsSavedOf (live_on n) (saved_on n)) leaves (λ n leaf. zip_leaf n leaf)))

  same_values : (row : RowView) → row.table ≡ table → (a b : List Value) → ReadsRow file row a → ReadsRow file row b
      → a ≡ b
  same_values row same a b x y =
      same_list Null a b (x.count ∙ sym y.count) (λ c below.
      let within : c < length row.table.columns = subst (λ (n : ℕ). c < n) x.count below in
      let known : IsTable row.table = subst IsTable (sym same) is in
      one_value spelled file (cell_of_column row c) (known.kinds c _ within) (get_or a c Null) (get_or b c Null)
      (x.each c within) (y.each c within))

  same_line : (row : Row) (s : SavedRow) (v : List Value) → IsSavedOf row s → ReadsRecord file table row v
      → line_of_row table s ≡ line_of table v
  unfolding index_in
  same_line row s v x y =
      ap (saved_line table) x.same ∙ lines table x.values_of
      ∙ ap (line_of table)
      (same_values (row_on table (page_of file row.page) row.origin) refl x.values_of v x.reads_it y.reads)

  same_lines : map (line_of_row table) (flat_map saved_on leaves) ≡ map (line_of table) sound.found.all
  same_lines =
      same_beside IsSavedOf (ReadsRecord file table) (line_of_row table) (line_of table) same_line (live_rows tree)
      (flat_map saved_on leaves) sound.found.all zip_all sound.found.reads

  -- the saved rows are those of the leaves
  no_rows : (outcome : Outcome) → ((rows : List SavedRow) → outcome ≢ Leaf rows) → saved_words.rows_on outcome ≡ []
  no_rows Unused none = refl
  no_rows Unread none = refl
  no_rows Other none = refl
  no_rows (Lost rule) none = refl
  no_rows (Leaf rows) none = absurd (none rows refl)

  rows_gathered : IsPermutation (rows_of outcomes) (flat_map saved_on leaves)
  rows_gathered = gather (λ o. saved_words.rows_on o) no_rows

  -- each of them is whole
  abbrev IsWhole : SavedRow → Type 0
  IsWhole row = is_whole_row (losses_in row.columns) ≡ true

  whole_on : (n : ℕ) (outcome : Outcome) → WholePageIn n outcome → All IsWhole (saved_words.rows_on outcome)
  whole_on n Unused whole = All-nil IsWhole
  whole_on n Unread whole = All-nil IsWhole
  whole_on n Other whole = All-nil IsWhole
  whole_on n (Lost rule) whole = All-nil IsWhole
  whole_on n (Leaf rows) whole = λ k d below. row_is_whole n (get_or rows k d) (whole k below d)

  all_whole : All IsWhole (rows_of outcomes)
  all_whole =
      all_pieces IsWhole (λ o. saved_words.rows_on o) outcomes
      (λ n d below. whole_on n (get_or outcomes n d) (whole_at n below d))

  -- the numbers
  rows_counted : sum_by whole_count (rows_of outcomes) ≡ length (live_rows tree)
  rows_counted =
      sum_ones whole_count (rows_of outcomes)
      (λ k d below. ap (λ (b : Bool). cond b 1 0) (all_whole k d below))
      ∙ sym (length_permutation (rows_of outcomes) (flat_map saved_on leaves) rows_gathered)
      ∙ sym (zip_length IsSavedOf (live_rows tree) (flat_map saved_on leaves) zip_all)

  none_partial : sum_by partial_count (rows_of outcomes) ≡ 0
  none_partial =
      sum_zeros partial_count (rows_of outcomes)
      (λ k d below. ap (λ (b : Bool). cond b 0 1) (all_whole k d below))

  not_lost : (n : ℕ) (outcome : Outcome) → IsClassed n outcome → lost_count outcome ≡ 0
  not_lost n Unused class = refl
  not_lost n Unread class = absurd class
  not_lost n Other class = refl
  not_lost n (Lost rule) class = absurd class
  not_lost n (Leaf rows) class = refl

  none_lost : sum_by lost_count outcomes ≡ 0
  none_lost =
      sum_zeros lost_count outcomes
      (λ n d below. not_lost n (get_or outcomes n d) (classed n _ (get_or outcomes n d) (saved.first.each n d below)))

  abbrev leaf_ones : Outcome → List ℕ
  leaf_ones (Leaf rows) = 0 ∷ []
  leaf_ones _ = []

  count_ones : (outcome : Outcome) → leaf_count outcome ≡ length (leaf_ones outcome)
  count_ones Unused = refl
  count_ones Unread = refl
  count_ones Other = refl
  count_ones (Lost rule) = refl
  count_ones (Leaf rows) = refl

  no_ones : (outcome : Outcome) → ((rows : List SavedRow) → outcome ≢ Leaf rows) → leaf_ones outcome ≡ []
  no_ones Unused none = refl
  no_ones Unread none = refl
  no_ones Other none = refl
  no_ones (Lost rule) none = refl
  no_ones (Leaf rows) none = absurd (none rows refl)

  leaves_counted : sum_by leaf_count outcomes ≡ length leaves
  leaves_counted =
      sum_by_same leaf_count (λ o. length (leaf_ones o)) count_ones outcomes
      ∙ sym (length-flat_map (λ o. leaf_ones o) outcomes)
      ∙ sym (length_permutation (flat_map (λ o. leaf_ones o) outcomes) (flat_map (λ n. leaf_ones (at n)) leaves)
      (gather (λ o. leaf_ones o) no_ones))
      ∙ length-flat_map (λ n. leaf_ones (at n)) leaves
      ∙ sum_ones (λ n. length (leaf_ones (at n))) leaves
      (all_members (λ n. length (leaf_ones (at n)) ≡ 1) leaves
      (λ n leaf. ap (λ (o : Outcome). length (leaf_ones o)) (on_leaf n leaf).same))

  -- no line names a loss
  none_named : (n m : ℕ) (outcome : Outcome) → WholePageIn n outcome → IsClassed n outcome
      → losses_on table m outcome ≡ []
  unfolding losses_of_rows
  none_named n m Unused whole class = refl
  none_named n m Unread whole class = absurd class
  none_named n m Other whole class = refl
  none_named n m (Lost rule) whole class = absurd class
  none_named n m (Leaf rows) whole class =
      no_pieces (λ (r : SavedRow). row_losses table m (r.place + 1) (losses_in r.columns)) rows
      (λ k d below.
      row_unnamed table m ((get_or rows k d).place + 1) (losses_in (get_or rows k d).columns)
      (row_is_whole n (get_or rows k d) (whole k below d)))

  page_unnamed : All (λ (o : Outcome). (m : ℕ) → losses_on table m o ≡ []) outcomes
  page_unnamed n d below m =
      none_named n m (get_or outcomes n d) (whole_at n below d)
      (classed n _ (get_or outcomes n d) (saved.first.each n d below))

  all_unnamed : losses_of table outcomes ≡ []
  unfolding losses_of
  all_unnamed = no_numbered (λ (p : ℕ × Outcome). losses_on table p.0 p.1) 0 outcomes page_unnamed

  pub loses_nothing : LosesNothing file table outcomes
  unfolding numbers_of
  loses_nothing = record {
    complete = record {
      rows = none_partial;
      pages = none_lost;
      some = let some = (leaf_facts tree sound.walked).some in let count = leaves_counted in omega (arith, some, count);
    };
    rows = rows_counted;
    leaves = leaves_counted;
    all = sound.found.all;
    are = sound.found.are;
    lines = subst (λ (l : List (List ℕ)). IsPermutation (map (line_of_row table) (rows_of outcomes)) l) same_lines
        (IsPermutation-map (line_of_row table) (rows_of outcomes) (flat_map saved_on leaves) rows_gathered);
    unnamed = all_unnamed;
  }
