use Rattle.sample_table.proofs.MakingSteps.{long_note, null_note, some_note}
use Rattle.sample_table.proofs.row.note.Goals as goal

pub returns-then-i-eq0 : goal.returns-then-i-eq0
returns-then-i-eq0 c = long_note c.args.i c.in_ok-letters.field-0 c.if-i-eq0.true c.in_ok-letters.ensures

pub returns-then-i-eq0-2 : goal.returns-then-i-eq0-2
returns-then-i-eq0-2 c = null_note c.args.i c.if-i-eq0.false c.if-i-eq0-2.true

pub returns : goal.returns
returns c =
    some_note c.args.i c.sample_number.result c.in_ok-letters-2.field-0 c.if-i-eq0.false c.if-i-eq0-2.false
    c.sample_number.ensures c.in_ok-letters-2.ensures
