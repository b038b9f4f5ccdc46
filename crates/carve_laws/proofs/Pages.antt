-- What comes of a page of a sound file comes of it in another file that has the pages that aren't known to be free.
use Rattle.std.proofs.Common.{ℕ, ◌<◌, Bool, List, length, get_or, Contains, sym, ap, ◌∙◌, subst}
use Rattle.std.proofs.lemmas.List.Elements.{Contains-get_or}
use Rattle.page_source.specs.Pages.{page_of}
use Rattle.column_values.specs.declared.field.FieldType.TheVariants.{Column}
use Rattle.column_values.specs.declared.value.Value.{Value}
use Rattle.extent_map.specs.Extents.{IsUsed}
use Rattle.schema_text.specs.Formats.{flags_of}
use Rattle.schema_text.specs.TableDef.{TableDef, column_at}
use Rattle.schema_text.specs.Grammar.{IsTable}
use Rattle.schema_text.specs.IndexFields.{leaf_fields}
use Rattle.tree_walk.specs.Index.{index_id}
use Rattle.tree_walk.specs.Segments.{leaf_segment}
use Rattle.table_check.specs.Trees.{clustered_tree}
use Rattle.table_check.specs.Valid.{IsValid}
use Rattle.sql_dump.specs.Cells.{cell_of_column, row_on}
use Rattle.sql_dump.specs.Lines.{ReadsRows}
use Rattle.leaf_salvage.specs.declared.verdict.Verdict.{Verdict}
use Rattle.leaf_salvage.specs.declared.verdict.Verdict.TheVariants as verdicts
use Rattle.leaf_salvage.specs.Unused.{IsUnused}
use Rattle.leaf_salvage.specs.Leaf.{LeafVerdict}
use Rattle.salvage_model.specs.declared.kind.RecordKind.TheVariants.{Live}
use Rattle.salvage_model.specs.Records.{origin_of, places_of}
use Rattle.salvage_model.specs.Outcome.{Job, SavedRow, Outcome, Unused, Unread, Other, Lost, Leaf}
use Rattle.salvage_model.specs.Outcome.{IsRead, Is, ComesOf, IsFull}
use Rattle.salvage_model.specs.Laws.{HasOwnId, whole_job}
use Rattle.salvage_laws.proofs.Used.{all_fetched, used_known}
use Rattle.salvage_laws.proofs.Leaves.{field_blob}
use Rattle.salvage_laws.proofs.Stand.{row_place}
use Rattle.salvage_laws.proofs.Owners.{row_there, live_there}
use Rattle.salvage_laws.proofs.Whole.{sound_cell}
use Rattle.salvage_laws.proofs.Nothing.{HasLaws, IsWholeSaved, IsWholePage, leaf_list, pages_in, leaf_of}
use Rattle.carve_laws.specs.Laws.{carved_job}
use Rattle.carve_laws.proofs.Moves.{IsSame}
use Rattle.carve_laws.proofs.SavedRows.{IsHeldRow, rows_move}
use Rattle.carve_laws.proofs.Known.{unused_there, known_there}
use Rattle.space_audit.proofs.OwnerFacts.{used_by}

module _ (laws : HasLaws) (file : List ℕ) (table : TableDef) (is : IsTable table) (valid : IsValid file table)
    (own : HasOwnId file table) (all : List (List Value)) (reads : ReadsRows file table all) (carved : List ℕ)
    (same : (n : ℕ) → ¬ (IsUnused file all_fetched n) → IsSame file carved n) where
  abbrev job : Job
  job = whole_job file table

  abbrev there : Job
  there = carved_job file table carved

  abbrev leaves : List ℕ
  leaves = leaf_list laws file table is valid own all reads

  -- each page of a value is used, so it is the same
  value_used : (n place c : ℕ) → Contains leaves n → Contains (places_of Live (page_of file n)) place
      → c < length table.columns → (m : ℕ)
      → Contains (pages_in laws file table is valid own all reads n place c) m → IsUsed file m
  value_used n place c leaf live within m among =
      let row = row_there file table is valid n place in
      let tree = clustered_tree file table in
      let cell = cell_of_column (row_on table (page_of file n) (origin_of Live (page_of file n) place)) c in
      used_by file m (leaf_segment tree)
      (field_blob laws.one file (leaf_segment tree) valid.space.extents.head.size.most
      (Column (column_at table c).kind) (page_of file n) cell.place
      (sound_cell laws.one laws.whole file table is valid all reads row
      (live_there file table is valid n place leaf live) c within)
      m among).used

  value_same : (n place c : ℕ) → Contains leaves n → Contains (places_of Live (page_of file n)) place
      → c < length table.columns → (m : ℕ)
      → Contains (pages_in laws file table is valid own all reads n place c) m → IsSame file carved m
  value_same n place c leaf live within m among =
      same m
      (used_known laws.used file (flags_of table.format) valid.space.extents m
      (value_used n place c leaf live within m among))

  held_row : (n : ℕ) → Contains leaves n → (row : SavedRow) → Contains (places_of Live (page_of file n)) row.place
      → IsWholeSaved laws file table is valid own all reads n row → IsHeldRow file carved table n row
  held_row n leaf row live whole = record {
    none = λ c below d. (whole.each c below d).loss;
    same = λ c within m among. value_same n row.place c leaf live within m among;
  }

  read_there : (n : ℕ) → IsRead job n → IsRead there n
  read_there n read = record {
    used = known_there laws.used file (flags_of table.format) valid.space carved same n read.used;
    read = read.read;
  }

  is_there : (n : ℕ) (verdict : Verdict) → Is job n verdict → Is there n verdict
  is_there n verdict h = (
    read_there n h.0,
    subst (λ (page : List ℕ). LeafVerdict page n (index_id (clustered_tree file table)) (leaf_fields table 0) verdict)
        (sym (same n h.0.used).bytes) h.1,
  )

  pub comes_there : (n : ℕ) (taken : ℕ → Bool) (outcome : Outcome)
      → IsWholePage laws file table is valid own all reads n outcome → ComesOf job n taken outcome
      → ComesOf there n taken outcome
  comes_there n taken Unused whole comes =
      unused_there laws.used file (flags_of table.format) valid.space carved same n comes
  comes_there n taken Unread whole comes =
      (known_there laws.used file (flags_of table.format) valid.space carved same n comes.0, comes.1)
  comes_there n taken Other whole comes = is_there n verdicts.Other comes
  comes_there n taken (Lost rule) whole comes = is_there n (verdicts.Lost rule) comes
  comes_there n taken (Leaf rows) whole comes =
      let leaf = leaf_of laws file table is valid own all reads n comes.0.0.used comes.0.1.of in (
        is_there n verdicts.Leaf comes.0,
        rows_move file carved table n taken rows (same n comes.0.0.used).bytes
            (λ k below d.
            held_row n leaf (get_or rows k d)
            (row_place job n taken rows comes.1 (get_or rows k d) (Contains-get_or rows k d below)) (whole k below d))
            comes.1,
      )

  -- and no further row
  pub full_there : (n : ℕ) (taken : ℕ → Bool) (outcome : Outcome) → ComesOf job n taken outcome
      → IsFull job n outcome → IsFull there n outcome
  full_there n taken Unused comes full = full
  full_there n taken Unread comes full = full
  full_there n taken Other comes full = full
  full_there n taken (Lost rule) comes full = full
  full_there n taken (Leaf rows) comes full =
      full ∙ ap (λ (page : List ℕ). length (places_of Live page)) (sym (same n comes.0.0.used).bytes)
