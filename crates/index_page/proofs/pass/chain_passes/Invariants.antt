use Rattle.std.proofs.Common.{◌≡◌, ◌*◌}
use Rattle.index_page.specs.Marks.{bits_of}
use Rattle.index_page.proofs.PassSteps.{PassGoes}
use Rattle.index_page.proofs.pass.chain_passes.Given as goal

abbrev pub invariant-loop-pair : goal.invariant-loop-pair
invariant-loop-pair l =
    record {
      so : PassGoes l.page l.fields l.leaf l.lowest_first (bits_of l.bytes) l.low l.origin l.count (2 * l.pair);
      low : l.low.members ≡ l.fn.low.members;
      high : l.high.members ≡ l.fn.high.members;
    }
