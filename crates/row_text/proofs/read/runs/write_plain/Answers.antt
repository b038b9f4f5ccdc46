use Rattle.std.proofs.Common.{drop, refl, ◌+◌, ◌<◌, length, arith, ◌∙◌}
use Rattle.std.proofs.lemmas.List.{length-set}
use Rattle.row_text.proofs.Unquoted.{leads_plain, written_more}
use Rattle.row_text.proofs.read.runs.write_plain.Goals as goal

pub loop-i-preserved : goal.loop-i-preserved
loop-i-preserved c =
    let i = c.loop-i.i in
    let room = c.loop-i.room in
    let so = c.loop-i.invariant in
    let n = c.args.n + i in
    let at = c.args.at + i in
    let here : n < length room = omega (arith, c.loop-i-test.true, c.requires.room, so.same) in
    record {
      written = written_more c.args.text.now room (drop at c.args.text.now) n at c.in-Some.byte 1 _ _ here so.written
          refl (leads_plain c.args.text.now at c.in-Some.byte (omega (arith, c.loop-i-test.true, c.requires.text))
          c.in-Some.ensures.0 c.in-Some.ensures.1)
          (omega arith) (omega arith);
      same = length-set room n c.in-Some.byte ∙ so.same;
    }
