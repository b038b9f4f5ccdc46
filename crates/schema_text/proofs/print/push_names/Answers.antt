use Rattle.std.proofs.Common.{arith}
use Rattle.schema_text.proofs.PrintLemmas.{names_more}
use Rattle.schema_text.proofs.print.push_names.Goals as goal

pub loop-position-preserved : goal.loop-position-preserved
loop-position-preserved c =
    let within = c.requires c.loop-position.position-index 0 (omega arith) in
    names_more c.args.columns.now c.args.positions.now c.loop-position.position-index c.from.result
    c.index-columns-from.result c.bytes.result.now c.args.text.now c.loop-position.text c.push_word.new.text
    (omega arith) c.from.ensures
    (omega (arith, within, c.from.ensures)) c.index-columns-from.is c.bytes.ensures c.loop-position.invariant
    c.in_ok-push_word.ensures
