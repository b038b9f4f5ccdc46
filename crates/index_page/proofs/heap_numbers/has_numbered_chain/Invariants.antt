use Rattle.std.proofs.Common.{◌≡◌, ◌+◌}
use Rattle.index_page.specs.Header.{record_count}
use Rattle.index_page.proofs.CutWalk.{CutReaches}
use Rattle.index_page.specs.Header.{record_at, first_record}
use Rattle.index_page.specs.Page.{AreOrigins}
use Rattle.index_page.specs.Marks.{bits_of, none_seen, IsNew, with_number}
use Rattle.index_page.proofs.Turns.{TurnGoes}
use Rattle.index_page.proofs.heap_numbers.has_numbered_chain.Given as goal

abbrev pub invariant-loop-i : goal.invariant-loop-i
invariant-loop-i l =
    record {
      place : l.origin ≡ record_at l.page (first_record l.page) l.i;
      origins : AreOrigins l.page (first_record l.page) l.i;
      reaches : CutReaches l.page l.groups l.origin (record_count l.page + 2) (l.i + 1);
      goes : TurnGoes l.page (IsNew l.page) (with_number l.page) (bits_of l.numbers) l.origin l.i-end l.i none_seen
          (first_record l.page);
    }
