use Rattle.std.proofs.Common.{ℕ, get_or, ap, ◌∙◌, arith}
use Rattle.std.proofs.lemmas.Simd.{length-chunk, get_or-chunk}
use Rattle.row_text.proofs.read.lanes.load.Goals as goal

pub returns : goal.returns
returns c =
    let run = c.args.run.now in
    record {
      long = length-chunk 0 16 run (omega (arith, c.requires));
      each = λ k l. get_or-chunk 0 16 run k 0 l ∙ ap (λ (j : ℕ). get_or run j 0) (omega arith);
    }
