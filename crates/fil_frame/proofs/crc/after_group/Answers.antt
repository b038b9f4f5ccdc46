use Rattle.std.proofs.Common.{◌≡◌, bit_xor, length, ap, ◌∙◌, arith}
use Rattle.fil_frame.specs.Sparse.{zero_bytes}
use Rattle.fil_frame.proofs.WordLemmas.{low_first, first_eight, group_by_word}
use Rattle.fil_frame.proofs.crc.after_group.Goals as goal

pub returns : goal.returns
returns c =
    let group = c.args.group.now in
    let size : length group ≡ 8 = omega arith in
    let word : c.from_le_bytes.result ≡ low_first (first_eight group) = omega arith in
    c.after_zeros.ensures ∙ ap (λ s. zero_bytes 8 (bit_xor s c.from_le_bytes.result)) c.from.ensures
    ∙ ap (λ w. zero_bytes 8 (bit_xor c.args.state w)) word
    ∙ group_by_word c.args.state group size (λ i. (c.type_inv.group i).fits)
