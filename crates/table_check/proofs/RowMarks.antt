-- The rows of a table are checked one after another.
use Rattle.std.proofs.Common.{◌≡◌, ℕ, ◌+◌, Bool, List, take, get_or, Option, Some, None, IfSome}
use Rattle.std.proofs.Common.{Ok, Err, sym, ap, ◌∙◌, subst, arith}
use Rattle.page_source.specs.declared.objects.PageSource.{Ghosts as FileOf}
use Rattle.page_source.specs.declared.rule.Fault.{Fault}
use Rattle.page_source.specs.declared.checks.Halt.{Halt}
use Rattle.page_source.specs.Verdict.{AllBefore}
use Rattle.page_source.specs.Checks.{HaltsAt}
use Rattle.page_source.specs.Calls.{OfFile, HaltsOver}
use Rattle.page_source.proofs.Told.{if_told, map_told, map_told2, map_told3, map_told5}
use Rattle.column_values.specs.Types.{Fields}
use Rattle.schema_text.specs.TableDef.{TableDef}
use Rattle.schema_text.specs.IndexFields.{leaf_fields}
use Rattle.space_audit.specs.Marks.{is_set, Marked}
use Rattle.tree_walk.specs.Laws.{RowsCanBeRead}
use Rattle.tree_walk.specs.Records.{IsRecord}
use Rattle.tree_walk.specs.Index.{Row}
use Rattle.table_check.specs.Trees.{clustered_tree}
use Rattle.table_check.specs.Live.{LiveView, FindsLive, HasGivenLive, GivesAll}
use Rattle.table_check.specs.Marking.{ChecksPages}
use Rattle.table_check.specs.Values.{RecordChecks, RowCheck, RowChecks, pages_of_record, all_chain_pages, live_rows}
use Rattle.table_check.proofs.Progress.{HasMarked, none_marked, more_marked, all_marked, breaks_off, moved, recounted}
use Rattle.table_check.proofs.Progress.{recounted_break}
use Rattle.table_check.proofs.RecordMarks.{halts_as}
use Rattle.table_check.proofs.RowSteps.{NextExact, pages_before, no_rows, before_more, each_of_breaks, each_of_holds}
use Rattle.table_check.proofs.RowSteps.{row_checked, row_more, row_readable, all_pages, finds}

-- the checks of the rows before one hold
abbrev pub HeldBefore : {S : Type 0} → FileOf S → S → TableDef → List Bool → ℕ → Type 0
HeldBefore g first table start j = OfFile g first (λ file.
    AllBefore (live_rows (clustered_tree file table)) (RowCheck (clustered_tree file table) (is_set start)) j)

-- the rows before row j hold, and their pages were marked; the cursor stands behind them
pub record HaveHeld {S : Type 0} (g : FileOf S) (first now : S) (start marks : List Bool) (steps spent count : ℕ)
    (table : TableDef) (view : LiveView) (j : ℕ) : Type 0 where
  pub has : HasMarked g first now start marks steps spent count (λ file. pages_before file table j)
  pub held : HeldBefore g first table start j
  pub gives : OfFile g first (λ file. HasGivenLive (clustered_tree file table) view j)

-- the same behind the search for row j
pub record HaveFound {S : Type 0} (g : FileOf S) (first now : S) (start marks : List Bool) (steps spent count : ℕ)
    (table : TableDef) (view : LiveView) (j : ℕ) (found : Option ℕ) : Type 0 where
  pub has : HasMarked g first now start marks steps spent count (λ file. pages_before file table j)
  pub held : HeldBefore g first table start j
  pub at_row : OfFile g first (λ file. FindsLive (clustered_tree file table) j (Ok found) view)

-- none was checked yet
pub none_held : {S : Type 0} {g : FileOf S} {first : S} {table : TableDef} {rows : LiveView}
    (segment : ℕ) (start : List Bool) (steps j : ℕ) → j ≡ 0
    → OfFile g first (λ file. GivesAll (clustered_tree file table) rows segment)
    → HaveHeld g first first start start steps steps 0 table rows j
none_held {g = g} {first = first} {table = table} {rows = rows} segment start steps j none told = record {
  has = none_marked g first start steps (λ file. pages_before file table j)
      (λ file. ap (pages_before file table) none ∙ no_rows file table);
  held = if_told (g.content first) (λ file. λ i d below. absurd (omega (arith, none, below)));
  gives = map_told (g.content first)
      (λ file t. subst (HasGivenLive (clustered_tree file table) rows) (sym none) t.start) told;
}

-- the next one was searched for
pub searched : {S : Type 0} {g : FileOf S} {first old new : S} {start marks : List Bool}
    {steps mid count j asked asked_now : ℕ} {table : TableDef} {before after : LiveView} {result : Option ℕ}
    (rows : LiveView) (segment spent : ℕ)
    (found : Option ℕ)
    → OfFile g first (λ file. GivesAll (clustered_tree file table) rows segment)
    → HaveHeld g first old start marks steps mid count table before j → result ≡ found → spent ≡ mid
    → HaltsOver {A = Option ℕ} g old new asked asked_now (Ok result)
    → OfFile g old (λ file. NextExact file before (Ok result) after)
    → HaveFound g first new start marks steps spent count table after j found
searched {g = g} {first = first} {old = old} {new = new} {start = start} {marks = marks} {steps = steps} {mid = mid}
    {count = count} {j = j} {table = table} {before = before} {after = after} {result = result}
    rows segment spent found told have is as_many over exact =
    let first_exact = subst (λ (o : Option (List ℕ)). IfSome o (λ file. NextExact file before (Ok result) after))
    have.has.same exact in
    record {
      has = moved g first old new start marks steps mid spent count (λ file. pages_before file table j)
          (Ok result) as_many
          over have.has;
      held = have.held;
      at_row =
          map_told3 (g.content first)
          (λ file t gives x. finds file table before after j (Ok found)
          (subst (λ (r : Option ℕ). NextExact file before (Ok r) after) is x) t.walked gives)
          told have.gives first_exact;
    }

-- there is no further one
pub all_held : {S : Type 0} {g : FileOf S} {first now : S} {start marks : List Bool} {steps spent count j : ℕ}
    {table : TableDef} {view : LiveView} → HaveFound g first now start marks steps spent count table view j None
    → ChecksPages g first now start marks steps spent (Ok count)
    (λ file. RowChecks (clustered_tree file table) (is_set start)) (λ file. all_chain_pages (clustered_tree file table))
all_held {g = g} {first = first} {now = now} {start = start} {marks = marks} {steps = steps} {spent = spent}
    {count = count} {j = j} {table = table} have =
    all_marked g first now start marks steps spent count
    (λ file. pages_before file table j) (λ file. all_chain_pages (clustered_tree file table))
    (λ file. RowChecks (clustered_tree file table) (is_set start))
    (map_told (g.content first) (λ file all. all_pages file table j all) have.at_row)
    (map_told2 (g.content first) (λ file all below. each_of_holds (live_rows (clustered_tree file table))
    (RowCheck (clustered_tree file table) (is_set start)) j all below) have.at_row have.held)
    have.has

module _ {S : Type 0} {g : FileOf S} {first old : S} {start before : List Bool} {base count j origin : ℕ}
    {table : TableDef} {view : LiveView} (rows : LiveView) (segment mid left number : ℕ) (page : List ℕ)
    (fields : Fields) (told : OfFile g first (λ file. GivesAll (clustered_tree file table) rows segment))
    (have : HaveFound g first old start before base (mid + left) count table view j (Some origin))
    (is_number : number ≡ view.leaf.number) (is_page : page ≡ view.leaf.page)
    (is_list : fields ≡ leaf_fields table 0) where
  -- the row that was found can be read
  pub found_readable : RowsCanBeRead → OfFile g first (λ file. IsRecord page fields origin)
  found_readable can =
      map_told2 (g.content first)
      (λ file t f. row_readable file table j origin segment number page view.leaf fields f.0 is_number is_page t.leaves
      is_list can t.walked)
      told have.at_row

  -- its checks, and its pages
  abbrev Here : List ℕ → Option Fault → Type 0
  Here file = RecordChecks file segment number page origin fields (is_set before)

  abbrev here : List ℕ → List ℕ
  here file = pages_of_record file page origin fields

  checked : (file : List ℕ) → GivesAll (clustered_tree file table) rows segment
      → FindsLive (clustered_tree file table) j (Ok (Some origin)) view → Marked (is_set start) before
      (pages_before file table j)
      → (d : Row) (v : Option Fault) → Here file v
      → RowCheck (clustered_tree file table) (is_set start) (take j (live_rows (clustered_tree file table)))
      (get_or (live_rows (clustered_tree file table)) j d) v
  checked file t f marked d v check =
      row_checked file table j origin segment number page view.leaf fields f.0 is_number is_page t.leaves is_list
      start before
      marked d v check

  module _ {new : S} {after : List Bool} {spent : ℕ} where
    -- they break off
    pub row_breaks : (halt : Halt) → ChecksPages g old new before after mid spent (Err halt) Here here
        → ChecksPages g first new start after base spent (Err halt)
        (λ file. RowChecks (clustered_tree file table) (is_set start))
        (λ file. all_chain_pages (clustered_tree file table))
    row_breaks halt call =
        let exact = subst (λ (o : Option (List ℕ)). IfSome o (λ file. HaltsAt halt (Here file))) have.has.same
        call.exact in
        recounted_break base spent
        (breaks_off g first old new start before after base (mid + left) (spent + left) count
        (λ file. pages_before file table j)
        here Here have.has halt
        (λ file. RowChecks (clustered_tree file table) (is_set start))
        (λ file. all_chain_pages (clustered_tree file table))
        (map_told5 (g.content first)
        (λ file t f marked below at. each_of_breaks (live_rows (clustered_tree file table))
        (RowCheck (clustered_tree file table) (is_set start)) j halt (f.0).within below
        (λ d. halts_as halt (Here file) _ (λ v check. checked file t f marked d v check) at))
        told have.at_row have.has.grew have.held exact)
        (recounted_break (mid + left) (spent + left) call (omega arith)))
        (omega arith)

    -- or hold
    pub row_holds : (n next : ℕ) → j + 1 ≡ next → ChecksPages g old new before after mid spent (Ok n) Here here
        → HaveHeld g first new start after base (spent + left) (count + n) table view next
    row_holds n next more call =
        let exact = subst (λ (o : Option (List ℕ)). IfSome o (λ file. Here file None)) have.has.same call.exact in
        subst (HaveHeld g first new start after base (spent + left) (count + n) table view) more
        (record {
          has = more_marked g first old new start before after base (mid + left) (spent + left) count
              (λ file. pages_before file table j)
              here Here have.has n (λ file. pages_before file table (j + 1))
              (map_told2 (g.content first)
              (λ file t f. row_more file table j origin segment number page view.leaf fields f.0 is_number is_page
              t.leaves is_list)
              told have.at_row)
              (recounted (mid + left) (spent + left) call (omega arith));
          held =
              map_told5 (g.content first)
              (λ file t f marked below check. before_more (live_rows (clustered_tree file table))
              (RowCheck (clustered_tree file table) (is_set start)) j below
              (λ d. checked file t f marked d None check))
              told have.at_row have.has.grew have.held exact;
          gives = map_told (g.content first) (λ file f. f.1) have.at_row;
        })
