use Rattle.std.proofs.Common.{◌/◌, ◌%◌, ◌^◌, ◌*◌, ◌∙◌, ap, set, bit_or, arith}
use Rattle.std.proofs.lemmas.List.{get_or_read}
use Rattle.index_page.specs.Marks.{bits_of, with_mark}
use Rattle.index_page.proofs.MarkBits.{bits_of_set}
use Rattle.index_page.proofs.marks.Marks.set.Goals as goal

pub returns : goal.returns
returns c =
    let n = c.args.n in
    let words = c.self.inside.words.items in
    let word = get_or_read words _ _ (omega arith) c.index_mut.ensures.value 0 in
    ap (λ w. bits_of (set words (n / 64) (bit_or w (1 * 2 ^ (n % 64) % 18446744073709551616)))) word
    ∙ bits_of_set words n (omega (arith, c.self.invariant)) ∙ ap (λ xs. with_mark (bits_of xs) n) c.self.view_is
