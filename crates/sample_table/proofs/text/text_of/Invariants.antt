use Rattle.std.proofs.Common.{◌≡◌}
use Rattle.row_text.specs.Line.{text_of}
use Rattle.sample_table.specs.Sample.{sample_table, sample_rows}
use Rattle.sample_table.proofs.text.text_of.Given as goal

abbrev pub invariant-loop-i : goal.invariant-loop-i
invariant-loop-i l = l.lines.bytes ≡ text_of sample_table (sample_rows l.i)
