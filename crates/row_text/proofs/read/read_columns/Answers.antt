use Rattle.std.proofs.Common.{arith}
use Rattle.std.proofs.lemmas.List.{drop_all}
use Rattle.row_text.proofs.Reading.{read_over, read_all, some_left}
use Rattle.row_text.proofs.read.read_columns.Goals as goal

pub returns-then-at-text : goal.returns-then-at-text
returns-then-at-text c =
    let l = c.loop-column in
    read_over c.args.columns.now c.args.text.now l.row l.at l.invariant.read (omega (arith, l.invariant.counted))
    (some_left c.args.text.now l.at c.if-at-text.true)

pub returns : goal.returns
returns c =
    let l = c.loop-column in
    read_all c.args.columns.now c.args.text.now l.row l.at l.invariant.read (omega (arith, l.invariant.counted))
    (drop_all l.at c.args.text.now (omega arith))
