-- What comes of a table and a text is one.
use Rattle.std.proofs.Common.{◌≡◌, ℕ, ◌+◌, ◌<◌, List, [], length, slice_index_or, Some, None, Result, Ok, Err}
use Rattle.std.proofs.Common.{refl, sym, ap, ◌∙◌, subst, arith}
use Rattle.std.proofs.lemmas.List.{same_lists, get_or_default}
use Rattle.std.proofs.lemmas.Option.{same_Some}
use Rattle.page_source.proofs.Unique.{IsUnique, Check-unique, Then-unique, Each-unique, some_is_not_none}
use Rattle.schema_text.specs.TableDef.{TableDef, index_at}
use Rattle.schema_text.specs.Grammar.{IsTable}
use Rattle.row_text.specs.Laws.{HasOneRow}
use Rattle.space_builder.specs.declared.built.BuildStop.{BuildStop}
use Rattle.space_builder.specs.declared.built.BuildStop.TheVariants as stops
use Rattle.space_builder.specs.declared.built.PutStop.{PutStop}
use Rattle.space_builder.specs.declared.built.PutStop.TheVariants as puts
use Rattle.row_store.specs.StoredRows.{Rows}
use Rattle.space_builder.specs.layout.Layout.{FitsSpace, layout_extents}
use Rattle.row_store.specs.BadLine.{BadRow, RowChecks, RowsChecks, AreRowsOf, row_lines, line_at}
use Rattle.space_builder.specs.build.RootOrder.{RootOrderChecks}
use Rattle.space_builder.specs.build.Outcome.{ComesTo, RootsHaveOneAnswer, BuildHasOneOutcome, LeavesStore}
use Rattle.space_builder.specs.calls.Stops.{stop_of_put}

pub roots_once : RootsHaveOneAnswer
roots_once table =
    Each-unique (length table.indexes) _
    (λ j. Check-unique (index_at table j).line ((index_at table j).root ≡ 3 + j))

pub row_once : (table : TableDef) (text : List ℕ) (k : ℕ) → IsUnique (RowChecks table text k)
unfolding RowChecks
row_once table text k =
    Then-unique _ _ (Check-unique _ _)
    (Then-unique _ _ (Check-unique _ _)
    (Then-unique _ _ (Check-unique _ _) (Then-unique _ _ (Check-unique _ _) (Check-unique _ _))))

lines_once : (table : TableDef) (text : List ℕ) → IsUnique (RowsChecks table text)
lines_once table text = Each-unique (length (row_lines text)) (RowChecks table text) (row_once table text)

-- a text is that of one list of rows
rows_once : HasOneRow → (table : TableDef) (text : List ℕ) → IsTable table → (a b : Rows) → AreRowsOf table text a
    → AreRowsOf table text b → a ≡ b
rows_once one table text is a b p q =
    let size : length a ≡ length b = p.count ∙ sym q.count in
    same_lists a b size
    (λ k d within.
    let here : k < length b = omega (arith, size) in
    get_or_default a k d [] within
    ∙ one table (slice_index_or a k []) (slice_index_or b k []) (line_at text k) is (p.each k within) (q.each k here)
    ∙ get_or_default b k [] d here)

same_row : (a b : BadRow) → Some a ≡ Some b → a ≡ b
same_row a b e = cc

module _ (one : HasOneRow) (table : TableDef) (text : List ℕ) (is : IsTable table) where
  -- no other answer comes where a root is misplaced, where a line is refused, or where the rows need too much
  root_only : (line : ℕ) → RootOrderChecks table (Some line) → (b : Result Rows BuildStop) → ComesTo table text b
      → Err (stops.RootPlace line) ≡ b
  root_only line p (Ok rows) q = some_is_not_none line (roots_once table (Some line) None p q.0)
  root_only line p (Err (stops.RootPlace other)) q =
      ap (λ (n : ℕ). Err (stops.RootPlace n)) (same_Some line other (roots_once table (Some line) (Some other) p q))
  root_only line p (Err (stops.RowsRefused other why)) q =
      some_is_not_none line (roots_once table (Some line) None p q.0)
  root_only line p (Err stops.Full) q = some_is_not_none line (roots_once table (Some line) None p q.0)
  root_only line p (Err stops.Source) q = absurd q
  root_only line p (Err stops.Store) q = absurd q
  root_only line p (Err stops.Memory) q = absurd q

  abbrev refusal : BadRow → Result Rows BuildStop
  refusal bad = Err (stops.RowsRefused bad.line bad.why)

  line_only : (bad : BadRow) → RootOrderChecks table None → RowsChecks table text (Some bad)
      → (b : Result Rows BuildStop) → ComesTo table text b → refusal bad ≡ b
  line_only bad r p (Ok rows) q = some_is_not_none bad (lines_once table text (Some bad) None p q.1.good)
  line_only bad r p (Err (stops.RootPlace other)) q =
      some_is_not_none other (roots_once table (Some other) None q r)
  line_only bad r p (Err (stops.RowsRefused other why)) q =
      let found : BadRow = record { line = other; why = why } in
      ap refusal (same_row bad found (lines_once table text (Some bad) (Some found) p q.1))
  line_only bad r p (Err stops.Full) q =
      some_is_not_none bad (lines_once table text (Some bad) None p q.1.1.good)
  line_only bad r p (Err stops.Source) q = absurd q
  line_only bad r p (Err stops.Store) q = absurd q
  line_only bad r p (Err stops.Memory) q = absurd q

  too_many : (rows other : Rows) → AreRowsOf table text rows → AreRowsOf table text other → FitsSpace table rows
      → 256 < layout_extents table other → ⊥
  too_many rows other p q fits full =
      let same = rows_once one table text is rows other p q in
      let fit = subst (FitsSpace table) same fits in omega (arith, fit, full)

  one_outcome : (a b : Result Rows BuildStop) → ComesTo table text a → ComesTo table text b → a ≡ b
  one_outcome (Err (stops.RootPlace line)) b p q = root_only line p b q
  one_outcome (Err (stops.RowsRefused line why)) b p q =
      line_only (record { line = line; why = why }) p.0 p.1 b q
  one_outcome (Ok rows) (Ok other) p q = ap Ok (rows_once one table text is rows other p.1 q.1)
  one_outcome (Ok rows) (Err (stops.RootPlace line)) p q = sym (root_only line q (Ok rows) p)
  one_outcome (Ok rows) (Err (stops.RowsRefused line why)) p q =
      sym (line_only (record { line = line; why = why }) q.0 q.1 (Ok rows) p)
  one_outcome (Ok rows) (Err stops.Full) p q = absurd (too_many rows q.1.0 p.1 q.1.1 p.2 q.1.2)
  one_outcome (Ok rows) (Err stops.Source) p q = absurd q
  one_outcome (Ok rows) (Err stops.Store) p q = absurd q
  one_outcome (Ok rows) (Err stops.Memory) p q = absurd q
  one_outcome (Err stops.Full) (Ok other) p q = absurd (too_many other p.1.0 q.1 p.1.1 q.2 p.1.2)
  one_outcome (Err stops.Full) (Err (stops.RootPlace line)) p q = sym (root_only line q (Err stops.Full) p)
  one_outcome (Err stops.Full) (Err (stops.RowsRefused line why)) p q =
      sym (line_only (record { line = line; why = why }) q.0 q.1 (Err stops.Full) p)
  one_outcome (Err stops.Full) (Err stops.Full) p q = refl
  one_outcome (Err stops.Full) (Err stops.Source) p q = absurd q
  one_outcome (Err stops.Full) (Err stops.Store) p q = absurd q
  one_outcome (Err stops.Full) (Err stops.Memory) p q = absurd q
  one_outcome (Err stops.Source) b p q = absurd p
  one_outcome (Err stops.Store) b p q = absurd p
  one_outcome (Err stops.Memory) b p q = absurd p

pub outcome_once : HasOneRow → BuildHasOneOutcome
outcome_once one table text is a b p q = one_outcome one table text is a b p q

-- where putting stopped the store was called
pub put_calls : (stop : PutStop) → LeavesStore (Err (stop_of_put stop)) → ⊥
put_calls puts.Store leaves = leaves
put_calls puts.Memory leaves = leaves
