use Rattle.std.proofs.Common.{◌≡◌, ℕ, ◌+◌, ◌≤◌, false}
use Rattle.page_source.specs.Calls.{OfFile, AsksNoMore}
use Rattle.column_values.specs.Types.{Fields}
use Rattle.tree_walk.specs.Index.{index_of}
use Rattle.tree_walk.specs.Leaf.{IsWalked, HasTaken, CanTake}
use Rattle.tree_walk.specs.Hops.{IsDue}
use Rattle.table_check.proofs.LeafPass.{HasTakenSome, HaveCome}
use Rattle.table_check.proofs.pass.pass_leaves.Given as goal

-- leaves came in turn
abbrev pub invariant-loop : goal.invariant-loop
invariant-loop g l =
    let content = g.S.PageSource.content in
    record {
      same : content l.source ≡ content l.fn.source;
      later : g.S.PageSource.faults l.fn.source ≤ g.S.PageSource.faults l.source;
      asked : AsksNoMore g.S.PageSource l.fn.source l.source l.fn.steps l.steps;
      goes_on : l.cursor.ended ≡ false;
      spent : l.steps + l.cursor.leaf.may_fetch ≡ l.fn.steps + l.fn.cursor.leaf.may_fetch;
      reads : OfFile g.S.PageSource l.fn.source (λ file. CanTake file l.cursor.leaf l.cursor.last);
      told : OfFile g.S.PageSource l.fn.source (λ file. (root : ℕ) (fields node : Fields) (i : ℕ)
          → IsWalked (index_of file root fields node)
          → HasTaken (index_of file root fields node) l.fn.cursor.leaf l.fn.cursor.last i
          → HasTakenSome (index_of file root fields node) l.cursor.leaf l.cursor.last);
      came : (n : ℕ) → IsDue l.fn.cursor.leaf l.fn.cursor.last n
          → HaveCome n l.fn.cursor.leaf l.cursor.leaf l.cursor.last;
    }

abbrev pub decreases-loop : goal.decreases-loop
decreases-loop g l = l.cursor.leaf.may_fetch
