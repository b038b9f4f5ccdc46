-- A sound file has a list of outcomes: all columns are whole, and follow one another, and so do rows and pages.
use Rattle.std.proofs.Common.{◌≡◌, ℕ, ◌<◌, ◌≤◌, Bool, true, false, List, [], length, take}
use Rattle.std.proofs.Common.{map, get_or, Contains, Option, Some, None, inr, refl, sym, ◌∙◌, subst, arith}
use Rattle.std.proofs.lemmas.List.{get_or-map, get_or-take, length-map, length-take-le}
use Rattle.std.proofs.lemmas.List.Elements.{Contains-get_or}
use Rattle.page_source.specs.Pages.{page_of}
use Rattle.page_source.proofs.Members.{all_members, contains_flat_map}
use Rattle.column_values.specs.declared.value.Value.{Value}
use Rattle.column_values.specs.declared.value.Value.TheVariants.{Null}
use Rattle.extent_map.specs.Extents.{is_used, IsUsed}
use Rattle.index_page.specs.Header.{records_of}
use Rattle.index_page.specs.Page.{IsChain}
use Rattle.space_audit.specs.Marks.{is_in, seen}
use Rattle.schema_text.specs.Formats.{flags_of}
use Rattle.schema_text.specs.TableDef.{TableDef}
use Rattle.schema_text.specs.Grammar.{IsTable}
use Rattle.table_check.specs.Valid.{IsValid}
use Rattle.sql_dump.specs.Cells.{ReadsValue, cell_of_column}
use Rattle.sql_dump.specs.Lines.{ReadsRows}
use Rattle.salvage_model.specs.declared.loss.Loss.{Loss}
use Rattle.salvage_model.specs.Follow.{Follow}
use Rattle.salvage_model.specs.Judged.{Judged, IsJudged, AreJudged, looked_in, losses_in}
use Rattle.salvage_model.specs.SavedRow.{SavesValue}
use Rattle.salvage_model.specs.declared.kind.RecordKind.TheVariants.{Live}
use Rattle.salvage_model.specs.Records.{places_of}
use Rattle.leaf_salvage.specs.Standing.{reach_of}
use Rattle.page_source.proofs.Times.{times_some}
use Rattle.tree_walk.proofs.Occurs.{occurs_none}
use Rattle.salvage_model.specs.Outcome.{Job, SavedRow, row_at_place, looked_of_rows, IsSavedRow, AreSavedRows}
use Rattle.salvage_model.specs.Outcome.{Outcome, Unused, Other, Leaf, looked_of, looked_of_pages, ComesOf, IsFull}
use Rattle.salvage_model.specs.Saved.{AreFirst}
use Rattle.salvage_laws.proofs.Leaves.{is_in_contains, leaf_stands}
use Rattle.salvage_laws.proofs.Nothing.{pages_whole, page_page, leaf_of}
use Rattle.salvage_model.specs.Laws.{HasOwnId, whole_job, HasOutcomes}
use Rattle.salvage_laws.proofs.Follows.{follow_build}
use Rattle.salvage_laws.proofs.Outcomes.{same_list}
use Rattle.salvage_laws.proofs.Stand.{row_place, distinct_places}
use Rattle.salvage_laws.proofs.Used.{all_fetched, used_known, unused_known, framed_stands}
use Rattle.salvage_laws.proofs.Pieces.{unseen}
use Rattle.salvage_laws.proofs.Owners.{row_there, live_there, one_owner}
use Rattle.salvage_laws.proofs.Whole.{cell_holds, row_read}
use Rattle.salvage_laws.proofs.Nothing.{HasLaws, leaf_list, pages_in, chains, spaces, column_page}
use Rattle.salvage_laws.proofs.Nothing.{columns_whole, row_page, rows_page, rows_whole}

module _ (laws : HasLaws) (file : List ℕ) (table : TableDef) (is : IsTable table) (valid : IsValid file table)
    (own : HasOwnId file table) (all : List (List Value)) (reads : ReadsRows file table all) where
  abbrev job : Job
  job = whole_job file table

  abbrev leaves : List ℕ
  leaves = leaf_list laws file table is valid own all reads

  abbrev live_list : ℕ → List ℕ
  live_list n = places_of Live (page_of file n)

  abbrev pages_of_place : ℕ → ℕ → ℕ → List ℕ
  pages_of_place n place c = pages_in laws file table is valid own all reads n place c

  owner_chains : (n : ℕ) → Contains leaves n → IsChain (page_of file n) (records_of (page_of file n))
  owner_chains = chains laws file table is valid own all reads

  -- no page of these places was looked at
  abbrev pub IsFree : ℕ → (ℕ → Bool) → Type 0
  IsFree n taken =
      (place c : ℕ) → Contains (live_list n) place → c < length table.columns → (m : ℕ)
      → Contains (pages_of_place n place c) m → taken m ≡ false

  abbrev IsFreePlace : ℕ → ℕ → (ℕ → Bool) → Type 0
  IsFreePlace n place taken =
      (c : ℕ) → c < length table.columns → (m : ℕ) → Contains (pages_of_place n place c) m → taken m ≡ false

  abbrev FitsColumn : ℕ → ℕ → (ℕ → Bool) → List Judged → ℕ → Judged → Type 0
  FitsColumn n place taken before c judged =
      IsJudged file all_fetched n (cell_of_column (row_at_place job n place).row c) (seen taken (looked_in before))
      judged

  module _ (n place : ℕ) (leaf : Contains leaves n) (live : Contains (live_list n) place) (taken : ℕ → Bool)
      (free : IsFreePlace n place taken) where
    column_apart : (before : List Judged) → length before < length table.columns
        → Follow (FitsColumn n place taken) before → (m : ℕ)
        → Contains (pages_of_place n place (length before)) m → Contains (looked_in before) m → ⊥
    column_apart before below follow m h behind =
        let piece = contains_flat_map (λ (j : Judged). j.looked) before m behind in
        let k = piece.among.0 in
        let whole = columns_whole laws file table is valid own all reads n place leaf live taken free before
        (omega (arith, below)) follow k piece.among.1 piece.piece in
        let there = column_page laws file table is valid own all reads n place k (get_or before k piece.piece) whole m
        (subst (λ (j : Judged). Contains j.looked m) (sym piece.among.2) piece.member) in
        let owner = one_owner file table is valid owner_chains n place k n place (length before) leaf leaf live live
        (omega (arith, below, piece.among.1)) below m there h in
        omega (arith, owner.same_column, piece.among.1)

    column_step : (before : List Judged) → length before < length table.columns
        → Follow (FitsColumn n place taken) before
        → (judged : Judged) × FitsColumn n place taken before (length before) judged
    column_step before below follow =
        let c = length before in
        let taken_now = seen taken (looked_in before) in
        let new = all_members (λ m. taken_now m ≡ false) (pages_of_place n place c)
        (λ m h. unseen taken (looked_in before) m (free c below m h)
        (λ behind. column_apart before below follow m h behind)) in (
          record { loss = None; looked = pages_of_place n place c },
          record {
            checks = cell_holds laws.one laws.whole file table is valid all reads
                (row_there file table is valid n place)
                (live_there file table is valid n place leaf live)
                (spaces laws file table is valid own all reads n leaf) c below taken_now new;
            whole = λ none. refl;
          },
        )

    -- the columns of a row
    pub record SomeColumns : Type 0 where
      pub columns : List Judged
      pub are : AreJudged file all_fetched (row_at_place job n place) taken columns

    some_columns : SomeColumns
    some_columns =
        let built = follow_build (FitsColumn n place taken) (length table.columns) column_step (length table.columns)
        (omega arith) in
        record { columns = built.items; are = record { all = built.size; each = built.follow } }

    saves_at : (loss : Option Loss) (value : Option Value) (v : Value) (c : ℕ) → loss ≡ None → value ≡ Some v
        → ReadsValue file (cell_of_column (row_at_place job n place).row c) v
        → SavesValue file (cell_of_column (row_at_place job n place).row c) loss value
    saves_at None (Some w) v c none same h =
        let e : w ≡ v = cc in
        subst (λ (u : Value). ReadsValue file (cell_of_column (row_at_place job n place).row c) u) (sym e) h
    saves_at None None v c none same h = cc
    saves_at (Some loss) value v c none same h = cc

    -- the row
    pub record SomeRow : Type 0 where
      pub row : SavedRow
      pub at_place : row.place ≡ place
      pub saved : IsSavedRow job n taken row

    pub some_row : SomeRow
    some_row =
        let found = some_columns in
        let read = row_read laws.one laws.whole file table is valid all reads (row_there file table is valid n place)
        (live_there file table is valid n place leaf live) in
        record {
          row = record { place = place; columns = found.columns; row_values = map Some read.values_of };
          at_place = refl;
          saved = record {
            columns = found.are;
            saves = record {
              count = length-map read.values_of Some ∙ read.reads_it.count;
              each = λ c below.
                  let within : c < length found.columns = omega (arith, below, found.are.all) in
                  let judged : Judged = record { loss = None; looked = [] } in
                  let whole = columns_whole laws file table is valid own all reads n place leaf live taken free
                  found.columns (omega (arith, found.are.all)) found.are.each c within judged in
                  saves_at (get_or (losses_in found.columns) c None) (get_or (map Some read.values_of) c None)
                  (get_or read.values_of c Null) c
                  (get_or-map (λ (j : Judged). j.loss) found.columns c judged None within ∙ whole.loss)
                  (get_or-map Some read.values_of c Null None (omega (arith, below, read.reads_it.count)))
                  (read.reads_it.each c below);
            };
          };
        }

  abbrev FitsRow : ℕ → (ℕ → Bool) → List SavedRow → ℕ → SavedRow → Type 0
  FitsRow n taken before k row =
      IsSavedRow job n (seen taken (looked_of_rows before)) row × (row.place ≡ get_or (live_list n) k 0)

  module _ (n : ℕ) (leaf : Contains leaves n) (taken : ℕ → Bool) (free : IsFree n taken) where
    -- rows that follow one another are the first ones
    are_saved : (rows : List SavedRow) → length rows ≤ length (live_list n) → Follow (FitsRow n taken) rows
        → AreSavedRows job n taken rows
    are_saved rows few follow =
        let size : length (map (λ (r : SavedRow). r.place) rows) ≡ length (take (length rows) (live_list n)) =
        length-map rows (λ (r : SavedRow). r.place) ∙ sym (length-take-le (length rows) (live_list n) few) in
        record {
          places = same_list 0 (map (λ (r : SavedRow). r.place) rows) (take (length rows) (live_list n)) size
              (λ k below.
              let d : SavedRow = record { place = 0; columns = []; row_values = [] } in
              let within : k < length rows = omega (arith, below, length-map rows (λ (r : SavedRow). r.place)) in
              get_or-map (λ (r : SavedRow). r.place) rows k d 0 within
              ∙ (follow k d within).1
              ∙ sym (get_or-take (length rows) (live_list n) k 0 within));
          each = λ k d below. (follow k d below).0;
        }

    row_apart : (before : List SavedRow) → length before < length (live_list n) → Follow (FitsRow n taken) before
        → (c : ℕ) → c < length table.columns → (m : ℕ)
        → Contains (pages_of_place n (get_or (live_list n) (length before) 0) c) m
        → Contains (looked_of_rows before) m → ⊥
    row_apart before below follow c within m h behind =
        let are = are_saved before (omega (arith, below)) follow in
        let of = rows_page laws file table is valid own all reads n before m behind in
        let k = of.among.0 in
        let there : SavedRow = get_or before k of.row in
        let whole = rows_whole laws file table is valid own all reads n leaf taken free before are k of.among.1
        of.row in
        let column = row_page laws file table is valid own all reads n there whole m
        (subst (λ (r : SavedRow). Contains (looked_in r.columns) m) (sym of.among.2) of.member) in
        let here = Contains-get_or (live_list n) (length before) 0 below in
        let owner = one_owner file table is valid owner_chains n there.place column.column n
        (get_or (live_list n) (length before) 0) c leaf leaf
        (row_place job n taken before are there (Contains-get_or before k of.row of.among.1)) here
        column.within within m column.member h in
        distinct_places job n taken before are k (length before) 0 of.among.1 below
        (sym (follow k of.row of.among.1).1 ∙ owner.same_place)

    row_step : (before : List SavedRow) → length before < length (live_list n) → Follow (FitsRow n taken) before
        → (row : SavedRow) × FitsRow n taken before (length before) row
    row_step before below follow =
        let place = get_or (live_list n) (length before) 0 in
        let live = Contains-get_or (live_list n) (length before) 0 below in
        let found = some_row n place leaf live (seen taken (looked_of_rows before))
        (λ c within m h.
        unseen taken (looked_of_rows before) m (free place c live within m h)
        (λ behind. row_apart before below follow c within m h behind)) in
        (found.row, (found.saved, found.at_place))

    -- the rows of a leaf
    pub record SomeRows : Type 0 where
      pub rows : List SavedRow
      pub are : AreSavedRows job n taken rows
      pub full : length rows ≡ length (live_list n)

    pub some_rows : SomeRows
    some_rows =
        let built = follow_build (FitsRow n taken) (length (live_list n)) row_step (length (live_list n))
        (omega arith) in
        record {
          rows = built.items;
          are = are_saved built.items (omega (arith, built.size)) built.follow;
          full = built.size;
        }

  abbrev FitsPage : List Outcome → ℕ → Outcome → Type 0
  FitsPage before n outcome = ComesOf job n (is_in (looked_of_pages before)) outcome × IsFull job n outcome

  are_first : (outcomes : List Outcome) → length outcomes ≤ reach_of file → Follow FitsPage outcomes
      → AreFirst job outcomes
  are_first outcomes few follow = record {
    few = few;
    each = λ n d below. (follow n d below).0;
    full = λ n below. (follow n Unused (omega (arith, below))).1;
  }

  page_apart : (before : List Outcome) → length before < reach_of file → Follow FitsPage before
      → Contains leaves (length before) → (place c : ℕ) → Contains (live_list (length before)) place
      → c < length table.columns → (m : ℕ) → Contains (pages_of_place (length before) place c) m
      → Contains (looked_of_pages before) m → ⊥
  unfolding looked_of_pages
  page_apart before below follow leaf place c live within m h behind =
      let piece = contains_flat_map looked_of before m behind in
      let k = piece.among.0 in
      let there : Outcome = get_or before k piece.piece in
      let whole = pages_whole laws file table is valid own all reads before
      (are_first before (omega (arith, below)) follow) k piece.among.1 piece.piece in
      let of = page_page laws file table is valid own all reads k _ there (follow k piece.piece piece.among.1).0 whole m
      (subst (λ (o : Outcome). Contains (looked_of o) m) (sym piece.among.2) piece.member) in
      let owner = one_owner file table is valid owner_chains k of.row_at of.column.column (length before) place c
      of.leaf leaf of.live live of.column.within within m of.column.member h in
      omega (arith, owner.same_page, piece.among.1)

  page_free : (before : List Outcome) → length before < reach_of file → Follow FitsPage before
      → Contains leaves (length before) → IsFree (length before) (is_in (looked_of_pages before))
  page_free before below follow leaf place c live within m h = by_test (is_in (looked_of_pages before) m) refl
    where
      by_test : (b : Bool) → is_in (looked_of_pages before) m ≡ b → b ≡ false
      by_test true e =
          absurd (page_apart before below follow leaf place c live within m h
          (is_in_contains (looked_of_pages before) m e))
      by_test false e = refl

  contains_is_in : (xs : List ℕ) (n : ℕ) → Contains xs n → is_in xs n ≡ false → ⊥
  contains_is_in xs n c e =
      let none = occurs_none n xs e in
      let some = times_some xs n c in
      omega (arith, none, some)

  -- what comes of a page that is used
  used_step : (before : List Outcome) → length before < reach_of file → Follow FitsPage before
      → IsUsed file (length before) → (b : Bool) → is_in leaves (length before) ≡ b
      → (outcome : Outcome) × FitsPage before (length before) outcome
  used_step before below follow used true e =
      let n = length before in
      let leaf = is_in_contains leaves n e in
      let found = some_rows n leaf (is_in (looked_of_pages before)) (page_free before below follow leaf) in
      let known = used_known laws.used file (flags_of table.format) valid.space.extents n used in (
        Leaf found.rows,
        (
          (
            (
              record { used = known; read = refl },
              (leaf_stands laws.used laws.one laws.leaves file table is valid n leaf).1,
            ),
            found.are,
          ),
          found.full,
        ),
      )
  used_step before below follow used false e =
      let n = length before in
      let known = used_known laws.used file (flags_of table.format) valid.space.extents n used in (
        Other,
        (
          (
            record { used = known; read = refl },
            inr (
              framed_stands (page_of file n) n _ (valid.space.frames.framed n used),
              λ leaf. contains_is_in leaves n (leaf_of laws file table is valid own all reads n known leaf) e,
            ),
          ),
          tt,
        ),
      )

  page_step : (before : List Outcome) → length before < reach_of file → Follow FitsPage before
      → (outcome : Outcome) × FitsPage before (length before) outcome
  page_step before below follow = by_test (is_used file (length before)) refl
    where
      by_test : (b : Bool) → is_used file (length before) ≡ b
          → (outcome : Outcome) × FitsPage before (length before) outcome
      by_test true e = used_step before below follow e (is_in leaves (length before)) refl
      by_test false e =
          (Unused, (unused_known laws.used file (flags_of table.format) valid.space.extents (length before) e, tt))

  pub some_outcomes : HasOutcomes job
  some_outcomes =
      let built = follow_build FitsPage (reach_of file) page_step (reach_of file) (omega arith) in
      record {
        outcomes = built.items;
        is_saved = record {
          first = are_first built.items (omega (arith, built.size)) built.follow;
          all = built.size;
          full = λ n below. (built.follow n Unused below).1;
        };
      }
