use Rattle.std.proofs.Common.{◌+◌, ◌-◌, length, sym, ap, ◌∙◌, arith}
use Rattle.row_layout.specs.StoredRow.{fitted}
use Rattle.row_layout.proofs.Fitting.{length-with_off}
use Rattle.row_store.proofs.Longest.{fit_more}
use Rattle.row_store.proofs.fitting.fit_row.Goals as goal

pub loop-gone-preserved : goal.loop-gone-preserved
loop-gone-preserved c =
    let table = c.args.schema.now in
    let row = c.loop-gone.row in
    let n = length c.args.row.now in
    let gone = c.loop-gone._gone in
    record {
      same =
          c.loop-gone.invariant.same
          ∙ fit_more table row c.in-Some.i (n - gone) (n - (gone + 1)) (sym c.if-not-is_too_long.ensures)
          c.in-Some.ensures (omega (arith, c.loop-gone-test.true, c.len-gone-end.ensures))
          ∙ ap (fitted table (n - (gone + 1))) (sym c.send_off.ensures);
      size = ap length c.send_off.ensures ∙ length-with_off c.in-Some.i row ∙ c.loop-gone.invariant.size;
    }
