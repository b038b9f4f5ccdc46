use Rattle.std.proofs.Common.{◌≡◌}
use Rattle.index_page.specs.Header.{record_at}
use Rattle.index_page.specs.Marks.{bits_of, LiesFree, with_record}
use Rattle.index_page.proofs.ChainWalk.{OnPage}
use Rattle.index_page.proofs.Turns.{TurnGoes}
use Rattle.index_page.proofs.room.mark_records.Given as goal

abbrev pub invariant-loop : goal.invariant-loop
invariant-loop l =
    record {
      place : l.origin ≡ record_at l.page l.first l.counter;
      inside : OnPage l.count l.counter l.origin;
      members : l.reader.members ≡ l.fn.reader.members;
      goes : TurnGoes l.page (LiesFree l.page l.fields) (with_record l.page l.fields) (bits_of l.bytes) l.origin
          l.count l.counter (bits_of l.fn.bytes) l.first;
    }
