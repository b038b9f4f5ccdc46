use Rattle.std.proofs.Common.{List, ℕ, take, refl, ap, ◌∙◌, arith}
use Rattle.row_text.specs.Values.{escaped_text}
use Rattle.row_text.proofs.Groups.{written_behind}
use Rattle.row_text.proofs.write.escaped.write_groups.Goals as goal

pub loop-done-init : goal.loop-done-init
unfolding escaped_text
loop-done-init c = record { read = omega arith; few = omega arith; text = refl }

pub loop-done-preserved : goal.loop-done-preserved
loop-done-preserved c =
    let so = c.loop-done.invariant in
    let more = c.write_group-more in
    record {
      read = omega (arith, more.ensures.read, c.loop-done-test.true);
      few = omega (arith, so.few, more.ensures.few);
      text = written_behind c.args.text.now c.loop-done.room more.new.room _ c.loop-done.done.read more.result.read
          c.loop-done.done.written more.result.written
          (omega (arith, so.few, c.loop-done-test.true, c.loop-done.auto.room, c.requires)) more.ensures.fits so.text
          (more.ensures.text
          ∙ ap (λ (t : List ℕ). escaped_text (take more.result.read t)) c.split_at.ensures.back);
    }
