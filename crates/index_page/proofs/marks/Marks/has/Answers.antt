use Rattle.std.proofs.Common.{◌==◌, ◌%◌, ◌∙◌, ap, arith}
use Rattle.std.proofs.lemmas.List.{get_or_read}
use Rattle.std.proofs.lemmas.Nat.Bits.{shr_and_one}
use Rattle.std.specs.Int.{bit_at}
use Rattle.index_page.specs.Marks.{bits_of}
use Rattle.index_page.proofs.marks.Marks.has.Goals as goal

pub returns : goal.returns
unfolding bits_of
returns c =
    let words = c.self.inside.words.items in
    let word = get_or_read words _ _ (omega arith) c.index.ensures 0 in
    ap (λ x. x == 1) (shr_and_one c.index.result.now (c.args.n % 64) ∙ ap (λ w. bit_at w (c.args.n % 64)) word)
    ∙ ap (λ xs. bits_of xs c.args.n) c.self.view_is
