use Rattle.std.proofs.Common.{◌<◌, arith}
use Rattle.row_text.proofs.Groups.{plain_group, escape_behind}
use Rattle.row_text.proofs.write.escaped.write_group.Goals as goal

pub returns-then-plain-eq-GROUP-clause-text : goal.returns-then-plain-eq-GROUP-clause-text
returns-then-plain-eq-GROUP-clause-text c =
    plain_group c.args.text.now c.copy_front.new.room c.plain_bytes-plain.result
    (omega (arith, c.if-plain-eq-GROUP.true))
    c.requires.text c.copy_front.ensures.front c.plain_bytes-plain.ensures.plain

pub returns-clause-text : goal.returns-clause-text
returns-clause-text c =
    let few : c.plain_bytes-plain.result < 16 =
    omega (arith, c.if-plain-eq-GROUP.false, c.plain_bytes-plain.ensures.within) in
    escape_behind c.args.text.now c.copy_front.new.room c.plain_bytes-plain.result c.letter_of.result few
    c.requires.text (omega (arith, c.requires.room, c.copy_front.ensures.size)) c.copy_front.ensures.front
    c.plain_bytes-plain.ensures.plain (c.plain_bytes-plain.ensures.found few) c.letter_of.ensures
