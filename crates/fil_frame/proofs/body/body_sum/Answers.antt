use Rattle.std.proofs.Common.{◌≡◌, bit_xor, ap, ◌∙◌, rules}
use Rattle.fil_frame.specs.Crc.{crc_state}
use Rattle.fil_frame.proofs.Cancels.{cancel_1, cancel_4, ones_after_body}
use Rattle.fil_frame.proofs.States.{from_start}
use Rattle.fil_frame.proofs.body.body_sum.Goals as goal

pub shorten-by_four-requires : goal.shorten-by_four-requires
shorten-by_four-requires c = search (rules, cancel_4)

pub shorten-by_one-requires : goal.shorten-by_one-requires
shorten-by_one-requires c = search (rules, cancel_1)

pub returns : goal.returns
returns c =
    let same : crc_state 0 c.shorten-by_one.result ≡ crc_state 0 c.args.body.now
    = c.shorten-by_one.ensures ∙ c.shorten-by_four.ensures in
    let from_ones : crc_state 0xFFFF_FFFF c.args.body.now ≡ bit_xor (crc_state 0 c.args.body.now) 0xD272_5D08
    = from_start 0xFFFF_FFFF c.args.body.now 16338 c.requires
    ∙ ap (bit_xor (crc_state 0 c.args.body.now)) ones_after_body in
    rw (c.after_bytes.ensures, same, from_ones)
