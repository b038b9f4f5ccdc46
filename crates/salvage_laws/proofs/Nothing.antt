-- Nothing is lost out of a sound file: the columns of each row that is saved are whole, row by row and page by page.
use Rattle.std.proofs.Common.{◌≤◌}
use Rattle.std.proofs.Common.{◌≡◌, ℕ, ◌<◌, Bool, true, false, List, length, take}
use Rattle.std.proofs.Common.{get_or, Contains, None, refl, sym, ap, ◌∙◌, subst, arith}
use Rattle.std.proofs.lemmas.List.{get_or_default}
use Rattle.std.proofs.lemmas.List.Elements.{Contains-get_or}
use Rattle.page_source.specs.Pages.{page_of}
use Rattle.page_source.proofs.Members.{all_members, contains_none, contains_flat_map}
use Rattle.column_values.specs.declared.value.Value.{Value}
use Rattle.fil_frame.specs.Frame.{space_of}
use Rattle.extent_map.specs.Extents.{is_used}
use Rattle.extent_map.specs.Laws.{UsedPagesAreOfExtents}
use Rattle.index_page.specs.Header.{records_of}
use Rattle.index_page.specs.Page.{IsChain}
use Rattle.space_audit.specs.Marks.{is_in, seen}
use Rattle.offpage_chain.specs.Laws.{HasOneChain, ChecksAreWhole}
use Rattle.schema_text.specs.Formats.{flags_of}
use Rattle.schema_text.specs.TableDef.{TableDef}
use Rattle.schema_text.specs.Grammar.{IsTable}
use Rattle.tree_walk.specs.Index.{leaf_pages, index_id}
use Rattle.table_check.specs.Trees.{clustered_tree}
use Rattle.table_check.specs.Valid.{IsValid}
use Rattle.sql_dump.specs.Lines.{ReadsRows}
use Rattle.leaf_salvage.specs.Unused.{IsUnused}
use Rattle.leaf_salvage.specs.Leaf.{IsLeafOf, LeafChecks}
use Rattle.leaf_salvage.specs.Laws.{IndexLeavesAreWhole}
use Rattle.sql_dump.specs.Cells.{cell_of_column}
use Rattle.salvage_model.specs.Follow.{Follow}
use Rattle.salvage_model.specs.Judged.{IsJudged, Judged, looked_in}
use Rattle.salvage_model.specs.declared.kind.RecordKind.TheVariants.{Live}
use Rattle.salvage_model.specs.Records.{places_of}
use Rattle.salvage_model.specs.Outcome.{Job, SavedRow, Outcome, Unused, Unread, Other, Lost, Leaf}
use Rattle.salvage_model.specs.Outcome.{row_at_place, looked_of_rows, looked_of, looked_of_pages, AreSavedRows}
use Rattle.salvage_model.specs.Outcome.{ComesOf}
use Rattle.salvage_model.specs.Saved.{AreFirst}
use Rattle.salvage_model.specs.Laws.{HasOwnId, whole_job}
use Rattle.salvage_laws.proofs.Judgement.{cell_unique}
use Rattle.salvage_laws.proofs.Stand.{row_place, places_differ}
use Rattle.salvage_laws.proofs.Used.{all_fetched, unused_known, used_size}
use Rattle.salvage_laws.proofs.Leaves.{is_in_contains, leaf_stands, leaf_known}
use Rattle.salvage_laws.proofs.Pieces.{unseen, strong, before_taken}
use Rattle.salvage_laws.proofs.Owners.{pages_at_place, row_there, live_there, one_owner}
use Rattle.salvage_laws.proofs.Whole.{none_lost, cell_holds}

-- the laws of the crates below
pub record HasLaws : Type 0 where
  pub used : UsedPagesAreOfExtents
  pub one : HasOneChain
  pub whole : ChecksAreWhole
  pub leaves : IndexLeavesAreWhole

leaf_chain : (page : List ℕ) (fields : _) → LeafChecks page fields None → IsChain page (records_of page)
unfolding LeafChecks
leaf_chain page fields checks = checks.1.1.0

module _ (laws : HasLaws) (file : List ℕ) (table : TableDef) (is : IsTable table) (valid : IsValid file table)
    (own : HasOwnId file table) (all : List (List Value)) (reads : ReadsRows file table all) where
  abbrev pub job : Job
  job = whole_job file table

  abbrev pub leaf_list : List ℕ
  leaf_list = leaf_pages (clustered_tree file table)

  abbrev live_list : ℕ → List ℕ
  live_list n = places_of Live (page_of file n)

  abbrev pub pages_in : ℕ → ℕ → ℕ → List ℕ
  pages_in n place c = pages_at_place file table is valid n place c

  pub chains : (n : ℕ) → Contains leaf_list n → IsChain (page_of file n) (records_of (page_of file n))
  chains n leaf =
      leaf_chain (page_of file n) _ (leaf_stands laws.used laws.one laws.leaves file table is valid n leaf).1.records

  pub spaces : (n : ℕ) → Contains leaf_list n → space_of (page_of file n) ≡ space_of (page_of file 0)
  spaces n leaf =
      (valid.space.frames.framed n (leaf_stands laws.used laws.one laws.leaves file table is valid n leaf).0).has_space

  -- a column is whole, and all of its pages were looked at
  pub record IsWholeColumn (n place c : ℕ) (judged : Judged) : Type 0 where
    pub loss : judged.loss ≡ None
    pub looked : judged.looked ≡ pages_in n place c

  -- a page of a column that is whole is its own
  pub column_page : (n place c : ℕ) (judged : Judged) → IsWholeColumn n place c judged → (m : ℕ)
      → Contains judged.looked m → Contains (pages_in n place c) m
  column_page n place c judged whole m h = subst (λ (pages : List ℕ). Contains pages m) whole.looked h

  pub columns_whole : (n place : ℕ) → Contains leaf_list n → Contains (live_list n) place → (taken : ℕ → Bool)
      → ((c : ℕ) → c < length table.columns → (m : ℕ) → Contains (pages_in n place c) m → taken m ≡ false)
      → (columns : List Judged) → length columns ≤ length table.columns
      → Follow (λ before c judged. IsJudged file all_fetched n (cell_of_column (row_at_place job n place).row c)
      (seen taken (looked_in before)) judged) columns
      → (c : ℕ) → c < length columns → (d : Judged) → IsWholeColumn n place c (get_or columns c d)
  columns_whole n place leaf live taken free columns few each =
      strong (λ c. (d : Judged) → IsWholeColumn n place c (get_or columns c d)) (length columns)
      (λ k below before d.
      let within : k < length table.columns = omega (arith, below, few) in
      let judged = each k d below in
      let new = all_members (λ m. seen taken (looked_in (take k columns)) m ≡ false) (pages_in n place k)
      (λ m c.
      unseen taken (looked_in (take k columns)) m (free k within m c)
      (λ behind. other k within before m c behind)) in
      let holds = cell_holds laws.one laws.whole file table is valid all reads (row_there file table is valid n place)
      (live_there file table is valid n place leaf live) (spaces n leaf) k within
      (seen taken (looked_in (take k columns))) new in
      let none = none_lost _ (cell_unique file all_fetched n _ (seen taken (looked_in (take k columns)))) holds
      (get_or columns k d).loss (get_or columns k d).looked judged.checks in
      record { loss = none; looked = judged.whole none })
    where
      other : (k : ℕ) → k < length table.columns
          → ((j : ℕ) → j < k → (d : Judged) → IsWholeColumn n place j (get_or columns j d)) → (m : ℕ)
          → Contains (pages_in n place k) m → Contains (looked_in (take k columns)) m → ⊥
      other k within before m c behind =
          let piece = contains_flat_map (λ (j : Judged). j.looked) (take k columns) m behind in
          let at = before_taken columns k piece.piece piece.among in
          let whole = before at.place at.before piece.piece in
          let there = column_page n place at.place (get_or columns at.place piece.piece) whole m
          (subst (λ (j : Judged). Contains j.looked m) (sym at.is) piece.member) in
          let owner = one_owner file table is valid chains n place at.place n place k leaf leaf live live
          (omega (arith, within, at.before)) within m there c in
          omega (arith, owner.same_column, at.before)

  -- a row is whole
  pub record IsWholeSaved (n : ℕ) (row : SavedRow) : Type 0 where
    pub count : length row.columns ≡ length table.columns
    pub each : (c : ℕ) → c < length row.columns → (d : Judged) → IsWholeColumn n row.place c (get_or row.columns c d)

  -- a page that was looked at for it is that of a column
  pub record OfColumn (n place m : ℕ) : Type 0 where
    pub column : ℕ
    pub within : column < length table.columns
    pub member : Contains (pages_in n place column) m

  pub row_page : (n : ℕ) (row : SavedRow) → IsWholeSaved n row → (m : ℕ) → Contains (looked_in row.columns) m
      → OfColumn n row.place m
  row_page n row whole m c =
      let piece = contains_flat_map (λ (j : Judged). j.looked) row.columns m c in
      record {
        column = piece.among.0;
        within = subst (λ (size : ℕ). piece.among.0 < size) whole.count piece.among.1;
        member = column_page n row.place piece.among.0 (get_or row.columns piece.among.0 piece.piece)
            (whole.each piece.among.0 piece.among.1 piece.piece) m
            (subst (λ (j : Judged). Contains j.looked m) (sym piece.among.2) piece.member);
      }

  -- a page that was looked at for some rows is that of one of them
  pub record OfRow (n : ℕ) (rows : List SavedRow) (m : ℕ) : Type 0 where
    pub row : SavedRow
    pub among : Contains rows row
    pub member : Contains (looked_in row.columns) m

  pub rows_page : (n : ℕ) (rows : List SavedRow) (m : ℕ) → Contains (looked_of_rows rows) m → OfRow n rows m
  unfolding looked_of_rows
  rows_page n rows m c =
      let piece = contains_flat_map (λ (r : SavedRow). looked_in r.columns) rows m c in
      record { row = piece.piece; among = piece.among; member = piece.member }

  pub rows_whole : (n : ℕ) → Contains leaf_list n → (taken : ℕ → Bool)
      → ((place c : ℕ) → Contains (live_list n) place → c < length table.columns → (m : ℕ)
      → Contains (pages_in n place c) m → taken m ≡ false)
      → (rows : List SavedRow) → AreSavedRows job n taken rows
      → (k : ℕ) → k < length rows → (d : SavedRow) → IsWholeSaved n (get_or rows k d)
  rows_whole n leaf taken free rows are =
      strong (λ k. (d : SavedRow) → IsWholeSaved n (get_or rows k d)) (length rows)
      (λ k below before d.
      let row = get_or rows k d in
      let saved = are.each k d below in
      let live = row_place job n taken rows are row (Contains-get_or rows k d below) in
      record {
        count = saved.columns.all;
        each = columns_whole n row.place leaf live (seen taken (looked_of_rows (take k rows)))
            (λ c within m h.
            unseen taken (looked_of_rows (take k rows)) m (free row.place c live within m h)
            (λ behind. other k below before d c within m h behind))
            row.columns (omega (arith, saved.columns.all)) saved.columns.each;
      })
    where
      other : (k : ℕ) → k < length rows → ((j : ℕ) → j < k → (d : SavedRow) → IsWholeSaved n (get_or rows j d))
          → (d : SavedRow) (c : ℕ) → c < length table.columns → (m : ℕ)
          → Contains (pages_in n (get_or rows k d).place c) m → Contains (looked_of_rows (take k rows)) m → ⊥
      other k below before d c within m h behind =
          let of = rows_page n (take k rows) m behind in
          let at = before_taken rows k of.row of.among in
          let there : SavedRow = get_or rows at.place of.row in
          let column = row_page n there (before at.place at.before of.row) m
          (subst (λ (r : SavedRow). Contains (looked_in r.columns) m) (sym at.is) of.member) in
          let owner = one_owner file table is valid chains n there.place column.column n (get_or rows k d).place c
          leaf leaf (row_place job n taken rows are there (Contains-get_or rows at.place of.row at.below))
          (row_place job n taken rows are (get_or rows k d) (Contains-get_or rows k d below))
          column.within within m column.member h in
          places_differ job n taken rows are at.place k d at.before below
          (ap (λ (r : SavedRow). r.place) (get_or_default rows at.place d of.row at.below) ∙ owner.same_place)

  -- a page that is taken for a leaf is one of the tree
  pub leaf_of : (n : ℕ) → ¬ (IsUnused file all_fetched n)
      → IsLeafOf (page_of file n) (index_id (clustered_tree file table)) → Contains leaf_list n
  leaf_of n known leaf = by_test (is_used file n) refl
    where
      by_test : (b : Bool) → is_used file n ≡ b → Contains leaf_list n
      by_test true e =
          leaf_known laws.used laws.one laws.leaves file table is valid own n e
          (used_size laws.used file (flags_of table.format) valid.space.extents n e) leaf
      by_test false e = absurd (known (unused_known laws.used file (flags_of table.format) valid.space.extents n e))

  -- the rows of a page are whole
  abbrev pub IsWholePage : ℕ → Outcome → Type 0
  IsWholePage n (Leaf rows) = (k : ℕ) → k < length rows → (d : SavedRow) → IsWholeSaved n (get_or rows k d)
  IsWholePage n _ = Unit {0}

  -- a page that was looked at for a page is that of a column of it
  pub record OfPage (n m : ℕ) : Type 0 where
    pub leaf : Contains leaf_list n
    pub row_at : ℕ
    pub live : Contains (live_list n) row_at
    pub column : OfColumn n row_at m

  pub page_page : (n : ℕ) (taken : ℕ → Bool) (outcome : Outcome) → ComesOf job n taken outcome → IsWholePage n outcome
      → (m : ℕ) → Contains (looked_of outcome) m → OfPage n m
  page_page n taken Unused comes whole m c = absurd (contains_none m c)
  page_page n taken Unread comes whole m c = absurd (contains_none m c)
  page_page n taken Other comes whole m c = absurd (contains_none m c)
  page_page n taken (Lost rule) comes whole m c = absurd (contains_none m c)
  page_page n taken (Leaf rows) comes whole m c =
      let of = rows_page n rows m c in
      let there : SavedRow = get_or rows of.among.0 of.row in
      record {
        leaf = leaf_of n comes.0.0.used comes.0.1.of;
        row_at = there.place;
        live = row_place job n taken rows comes.1 there (Contains-get_or rows of.among.0 of.row of.among.1);
        column = row_page n there (whole of.among.0 of.among.1 of.row) m
            (subst (λ (r : SavedRow). Contains (looked_in r.columns) m) (sym of.among.2) of.member);
      }

  pub pages_whole : (outcomes : List Outcome) → AreFirst job outcomes → (n : ℕ) → n < length outcomes
      → (d : Outcome) → IsWholePage n (get_or outcomes n d)
  unfolding looked_of_pages
  pages_whole outcomes first =
      strong (λ n. (d : Outcome) → IsWholePage n (get_or outcomes n d)) (length outcomes)
      (λ n below before d. one n before (get_or outcomes n d) (first.each n d below))
    where
      other : (n : ℕ) → ((j : ℕ) → j < n → (d : Outcome) → IsWholePage j (get_or outcomes j d)) → Contains leaf_list n
          → (place c : ℕ) → Contains (live_list n) place → c < length table.columns → (m : ℕ)
          → Contains (pages_in n place c) m → Contains (looked_of_pages (take n outcomes)) m → ⊥
      other n before leaf place c live within m h behind =
          let piece = contains_flat_map looked_of (take n outcomes) m behind in
          let at = before_taken outcomes n piece.piece piece.among in
          let of = page_page at.place _ (get_or outcomes at.place piece.piece)
          (first.each at.place piece.piece at.below) (before at.place at.before piece.piece) m
          (subst (λ (o : Outcome). Contains (looked_of o) m) (sym at.is) piece.member) in
          let owner = one_owner file table is valid chains at.place of.row_at of.column.column n place c of.leaf leaf
          of.live live of.column.within within m of.column.member h in
          omega (arith, owner.same_page, at.before)

      free : (n : ℕ) → ((j : ℕ) → j < n → (d : Outcome) → IsWholePage j (get_or outcomes j d)) → Contains leaf_list n
          → (place c : ℕ) → Contains (live_list n) place → c < length table.columns → (m : ℕ)
          → Contains (pages_in n place c) m → (b : Bool) → is_in (looked_of_pages (take n outcomes)) m ≡ b → b ≡ false
      free n before leaf place c live within m h true e =
          absurd (other n before leaf place c live within m h
          (is_in_contains (looked_of_pages (take n outcomes)) m e))
      free n before leaf place c live within m h false e = refl

      one : (n : ℕ) → ((j : ℕ) → j < n → (d : Outcome) → IsWholePage j (get_or outcomes j d)) → (outcome : Outcome)
          → ComesOf job n (is_in (looked_of_pages (take n outcomes))) outcome → IsWholePage n outcome
      one n before Unused comes = tt
      one n before Unread comes = tt
      one n before Other comes = tt
      one n before (Lost rule) comes = tt
      one n before (Leaf rows) comes =
          let leaf = leaf_of n comes.0.0.used comes.0.1.of in
          rows_whole n leaf (is_in (looked_of_pages (take n outcomes)))
          (λ place c live within m h.
          free n before leaf place c live within m h (is_in (looked_of_pages (take n outcomes)) m) refl)
          rows comes.1
