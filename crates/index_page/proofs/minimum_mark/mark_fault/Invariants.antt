use Rattle.std.proofs.Common.{◌≡◌, ℕ, ◌<◌}
use Rattle.index_page.specs.Header.{record_at, first_record}
use Rattle.index_page.specs.Page.{HasMarkAt}
use Rattle.index_page.proofs.ChainWalk.{OnPage}
use Rattle.index_page.proofs.minimum_mark.mark_fault.Given as goal

abbrev pub invariant-loop-i : goal.invariant-loop-i
invariant-loop-i l =
    record {
      place : l.origin ≡ record_at l.page (first_record l.page) l.i;
      inside : OnPage l.i-end l.i l.origin;
      marks : (k : ℕ) → k < l.i → HasMarkAt l.page l.leaf l.leftmost k (record_at l.page (first_record l.page) k);
    }
