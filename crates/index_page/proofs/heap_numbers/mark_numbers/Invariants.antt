use Rattle.std.proofs.Common.{◌≡◌}
use Rattle.index_page.specs.Header.{record_at}
use Rattle.index_page.specs.Marks.{bits_of, IsNew, with_number}
use Rattle.index_page.proofs.ChainWalk.{OnPage}
use Rattle.index_page.proofs.Turns.{TurnGoes}
use Rattle.index_page.proofs.heap_numbers.mark_numbers.Given as goal

abbrev pub invariant-loop : goal.invariant-loop
invariant-loop l =
    record {
      place : l.origin ≡ record_at l.page l.first l.counter;
      inside : OnPage l.count l.counter l.origin;
      goes : TurnGoes l.page (IsNew l.page) (with_number l.page) (bits_of l.numbers) l.origin l.count l.counter
          (bits_of l.fn.numbers) l.first;
    }
