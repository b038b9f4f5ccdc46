use Rattle.std.proofs.Common.{◌≡◌, ◌+◌, ◌-◌, arith}
use Rattle.page_source.specs.Pages.{num}
use Rattle.offpage_chain.proofs.References.{part_byte}
use Rattle.offpage_chain.proofs.reference.number.Goals as goal

pub returns : goal.returns
unfolding num
returns c =
    let bytes = c.args.bytes.now in
    let at = c.args.at in
    let four : at + 4 - at ≡ 4 = omega arith in
    let read = rw four at c.read_uint.ensures in
    omega (
      arith,
      read,
      part_byte bytes at 4 0 (omega arith),
      part_byte bytes at 4 1 (omega arith),
      part_byte bytes at 4 2 (omega arith),
      part_byte bytes at 4 3 (omega arith),
    )
