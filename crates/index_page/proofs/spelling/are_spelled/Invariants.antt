use Rattle.std.proofs.Common.{◌≡◌, ℕ, ◌<◌}
use Rattle.compact_record.specs.Reading.{IsSpelled}
use Rattle.index_page.specs.Header.{record_at}
use Rattle.index_page.proofs.ChainWalk.{OnPage}
use Rattle.index_page.proofs.spelling.are_spelled.Given as goal

abbrev pub invariant-loop : goal.invariant-loop
invariant-loop l =
    record {
      place : l.origin ≡ record_at l.page l.first l.counter;
      inside : OnPage l.count l.counter l.origin;
      members : l.reader.members ≡ l.fn.reader.members;
      spelled : (k : ℕ) → k < l.counter → IsSpelled l.page (record_at l.page l.first k) l.fields;
    }
