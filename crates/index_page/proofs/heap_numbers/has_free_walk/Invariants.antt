use Rattle.std.proofs.Common.{◌≡◌}
use Rattle.index_page.specs.Header.{first_free, record_at}
use Rattle.index_page.specs.Page.{AreOrigins, ends_after}
use Rattle.index_page.proofs.heap_numbers.has_free_walk.Given as goal

abbrev pub invariant-loop : goal.invariant-loop
invariant-loop l =
    record {
      place : l.origin ≡ record_at l.page (first_free l.page) l.counter;
      origins : AreOrigins l.page (first_free l.page) l.counter;
      ended : l.ended ≡ ends_after l.page (first_free l.page) l.counter;
    }
