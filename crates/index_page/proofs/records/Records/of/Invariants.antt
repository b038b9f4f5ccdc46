use Rattle.std.proofs.Common.{◌≡◌}
use Rattle.index_page.specs.Header.{record_at, records_from, first_record}
use Rattle.index_page.specs.Readings.{AreRead}
use Rattle.index_page.proofs.ChainWalk.{OnPage}
use Rattle.index_page.proofs.records.Records.of.Given as goal

abbrev pub invariant-loop : goal.invariant-loop
invariant-loop l =
    record {
      place : l.origin ≡ record_at l.page (first_record l.page) l.counter;
      inside : OnPage l.end l.counter l.origin;
      read : AreRead l.page l.fields (records_from l.page (first_record l.page) l.counter) l.items.items;
    }
