use Rattle.std.proofs.Common.{◌≤◌, ◌+◌, length}
use Rattle.page_source.specs.Calls.{OfFile, AsksNoMore}
use Rattle.table_check.specs.Values.{pages_of_part}
use Rattle.table_check.proofs.RecordMarks.{FieldsHeld}
use Rattle.table_check.proofs.record.check_row_values.Given as goal

-- the fields before this one hold
abbrev pub invariant-loop-i : goal.invariant-loop-i
invariant-loop-i g l = record {
  have : FieldsHeld g.S.PageSource l.fn.source l.source l.fn.marks l.marks l.fn.steps l.steps l.count l.leaf
      l.located.origin l.i;
  asked : AsksNoMore g.S.PageSource l.fn.source l.source l.fn.steps l.steps;
  told : OfFile g.S.PageSource l.fn.source (λ file.
      l.steps ≤ l.fn.steps + length (pages_of_part file l.leaf.page.now l.located.origin l.leaf.fields.now l.i));
}
