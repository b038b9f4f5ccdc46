use Rattle.std.proofs.Common.{◌≡◌, ℕ, ◌+◌, ◌≤◌, IfSome, false}
use Rattle.page_source.specs.Calls.{AsksNoMore}
use Rattle.column_values.specs.Types.{Fields}
use Rattle.tree_walk.specs.Index.{index_of}
use Rattle.tree_walk.specs.Leaf.{IsWalked}
use Rattle.table_check.specs.Live.{LiveView, HasGivenLive, CanGiveLive}
use Rattle.table_check.specs.contracts.rows.LiveRows.{the_view}
use Rattle.table_check.proofs.rows.LiveRows.next.Given as goal

abbrev pub invariant-loop-origin : goal.invariant-loop-origin
invariant-loop-origin g l =
    let content = g.S.PageSource.content in
    let rows : LiveView = the_view l.self-inside in
    record {
      same : content l.source ≡ content l.fn.source;
      later : g.S.PageSource.faults l.fn.source ≤ g.S.PageSource.faults l.source;
      asked : AsksNoMore g.S.PageSource l.fn.source l.source l.fn.steps l.steps;
      goes_on : l.self-inside.cursor.ended ≡ false;
      live : l.self-inside.live ≡ l.fn.self.live;
      spent : l.steps + l.self-inside.cursor.leaf.may_fetch ≡ l.fn.steps + l.fn.self.leaf.may_fetch;
      reads : IfSome (content l.fn.source) (λ file. CanGiveLive file rows);
      told : IfSome (content l.fn.source) (λ file. (root : ℕ) (fields node : Fields) (j : ℕ)
          → IsWalked (index_of file root fields node) → HasGivenLive (index_of file root fields node) l.fn.self j
          → HasGivenLive (index_of file root fields node) rows j);
    }

abbrev pub decreases-loop-origin : goal.decreases-loop-origin
decreases-loop-origin g l = l.self-inside.deleted
