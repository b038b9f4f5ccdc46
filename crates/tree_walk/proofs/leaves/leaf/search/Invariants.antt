use Rattle.std.proofs.Common.{◌≡◌, ◌+◌, ◌≤◌, ℕ, IfSome}
use Rattle.page_source.specs.Calls.{AsksNoMore}
use Rattle.fil_frame.specs.Frame.{next_page}
use Rattle.column_values.specs.Types.{Fields}
use Rattle.compact_record.specs.Header.{HasHeaderBytes}
use Rattle.tree_walk.specs.Index.{index_of}
use Rattle.tree_walk.specs.Leaf.{IsAlong, IsBefore, IsWalked, CanSearch, HasMoved}
use Rattle.tree_walk.specs.Hops.{HasComeBy}
use Rattle.tree_walk.proofs.LeafFacts.{IsNear}
use Rattle.tree_walk.proofs.leaves.leaf.search.Given as goal

abbrev pub invariant-leaves : goal.invariant-leaves
invariant-leaves g l =
    let content = g.S.PageSource.content in
    record {
      same : content l.source ≡ content l.fn.source;
      later : g.S.PageSource.faults l.fn.source ≤ g.S.PageSource.faults l.source;
      asked : AsksNoMore g.S.PageSource l.fn.source l.source l.fn.steps l.steps;
      spent : l.steps + l.leaf.may_fetch ≡ l.fn.steps + l.fn.leaf.may_fetch;
      header : HasHeaderBytes l.at;
      along : IsAlong l.leaf.page l.at;
      reads : IfSome (content l.fn.source) (λ file. CanSearch file l.leaf l.at);
      told : IfSome (content l.fn.source) (λ file. (root : ℕ) (fields node : Fields) (j : ℕ) → IsWalked
          (index_of file root fields node)
          → IsBefore (index_of file root fields node) l.fn.leaf l.fn.from j → IsBefore
          (index_of file root fields node) l.leaf l.at j);
      moved : HasMoved l.fn.leaf l.leaf;
      came : HasComeBy (next_page l.fn.leaf.page) l.fn.leaf l.leaf 0;
      near : IfSome (content l.fn.source) (λ file. (root : ℕ) (fields node : Fields) (j : ℕ) → IsWalked
          (index_of file root fields node)
          → IsBefore (index_of file root fields node) l.fn.leaf l.fn.from j → IsNear l.fn.leaf l.leaf l.fn.from l.at);
    }

abbrev pub decreases-leaves : goal.decreases-leaves
decreases-leaves g l = l.leaf.may_fetch
