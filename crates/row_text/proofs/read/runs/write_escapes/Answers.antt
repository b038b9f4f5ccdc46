use Rattle.std.proofs.Common.{drop, refl, ◌+◌, ◌*◌, ◌<◌, length, arith, ◌∙◌}
use Rattle.std.proofs.lemmas.List.{length-set}
use Rattle.row_text.proofs.Unquoted.{leads_escaped, written_more}
use Rattle.row_text.proofs.read.runs.write_escapes.Goals as goal

pub loop-i-preserved : goal.loop-i-preserved
loop-i-preserved c =
    let i = c.loop-i.i in
    let room = c.loop-i.room in
    let so = c.loop-i.invariant in
    let n = c.args.n + i in
    let at = c.args.at + 2 * i in
    let here : n < length room = omega (arith, c.loop-i-test.true, c.min-most.ensures, so.same) in
    record {
      written = written_more c.args.text.now room (drop at c.args.text.now) n at c.in-Some.byte 2 _ _ here so.written
          refl (leads_escaped c.args.text.now at c.in-Some.byte
          (omega (arith, c.loop-i-test.true, c.min-most.ensures, so.written.read))
          c.in-Some.ensures.0 c.in-Some.ensures.1 c.in-Some.ensures.2) (omega arith) (omega arith);
      same = length-set room n c.in-Some.byte ∙ so.same;
    }
