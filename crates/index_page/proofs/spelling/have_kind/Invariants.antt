use Rattle.std.proofs.Common.{◌≡◌, ℕ, ◌<◌}
use Rattle.index_page.specs.Header.{record_at, first_record}
use Rattle.index_page.specs.Page.{HasKind}
use Rattle.index_page.proofs.ChainWalk.{OnPage}
use Rattle.index_page.proofs.spelling.have_kind.Given as goal

abbrev pub invariant-loop : goal.invariant-loop
invariant-loop l =
    record {
      place : l.origin ≡ record_at l.page (first_record l.page) l.counter;
      inside : OnPage l.end l.counter l.origin;
      kinds : (k : ℕ) → k < l.counter → HasKind l.page l.leaf (record_at l.page (first_record l.page) k);
    }
