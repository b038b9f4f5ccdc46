use Rattle.std.proofs.Common.{◌≡◌, ◌+◌, ◌≤◌, length, false}
use Rattle.page_source.specs.Calls.{OfFile, AsksNoMore}
use Rattle.cross_index.specs.calls.Kept.{kept_keys}
use Rattle.cross_index.proofs.EntrySteps.{HasMatched}
use Rattle.cross_index.proofs.entries.compare_entries.Given as goal

-- as many rows were met as entries were given
abbrev pub invariant-loop-origin : goal.invariant-loop-origin
invariant-loop-origin g l =
    let content = g.S.PageSource.content in
    let order = l.asked.order.now in
    record {
      same : content l.source ≡ content l.fn.source;
      later : g.S.PageSource.faults l.fn.source ≤ g.S.PageSource.faults l.source;
      asked : AsksNoMore g.S.PageSource l.fn.source l.source l.fn.steps l.steps;
      goes_on : l.entries.ended ≡ false;
      room : l.located.members ≡ l.fn.located.members;
      spent : l.steps + l.entries.leaf.may_fetch ≡ l.fn.steps + l.fn.entries.leaf.may_fetch;
      few : l.next ≤ length order;
      told : OfFile g.S.PageSource l.fn.source (λ file.
          HasMatched file l.schema l.asked.index
          (kept_keys l.asked.keys.cells.now l.asked.keys.width l.asked.keys.slots.now (length order)) order l.entries
          l.next);
    }

abbrev pub decreases-loop-origin : goal.decreases-loop-origin
decreases-loop-origin g l = l.entries.live
