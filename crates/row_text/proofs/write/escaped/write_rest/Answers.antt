use Rattle.std.proofs.Common.{◌+◌, ◌∙◌, refl, ap, set, List, ℕ, arith}
use Rattle.std.proofs.lemmas.List.{length-set, take_all}
use Rattle.row_text.specs.Values.{escaped_text}
use Rattle.row_text.proofs.Escapes.{escape_written}
use Rattle.row_text.proofs.write.escaped.write_rest.Goals as goal

pub loop-i-init : goal.loop-i-init
unfolding escaped_text
loop-i-init c = record { size = refl; few = omega arith; done = refl }

pub loop-i-preserved : goal.loop-i-preserved
loop-i-preserved c =
    let so = c.loop-i.invariant in
    record {
      size = omega (
        arith,
        so.size,
        length-set c.loop-i.room c.loop-i.n c.front_of.result,
        length-set (set c.loop-i.room c.loop-i.n c.front_of.result) (c.loop-i.n + 1) c.letter_of-letter.result,
      );
      few = omega (arith, so.few, c.width_of-n.ensures.few);
      done = escape_written c.args.text.now c.loop-i.room c.loop-i.i c.loop-i.n c.letter_of-letter.result
          c.front_of.result c.width_of-n.result (omega arith) (omega (arith, so.size, so.few, c.requires))
          c.letter_of-letter.ensures c.front_of.ensures c.width_of-n.ensures.value so.done;
    }

pub returns-clause-text : goal.returns-clause-text
returns-clause-text c =
    c.loop-i.invariant.done ∙ ap (λ (t : List ℕ). escaped_text t) (take_all c.loop-i.i c.args.text.now (omega arith))
