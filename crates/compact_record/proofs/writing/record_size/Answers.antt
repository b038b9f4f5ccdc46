use Rattle.std.proofs.Common.{arith}
use Rattle.compact_record.proofs.ReadParts.{length-bytes_below}
use Rattle.compact_record.proofs.Placed.{size_is}
use Rattle.compact_record.proofs.writing.record_size.Goals as goal

pub returns : goal.returns
returns c =
    let fields = c.args.fields.now in
    let parts = c.args.parts.now in
    omega (
      arith,
      size_is fields parts,
      length-bytes_below fields parts,
      c.part_sizes-sizes.ensures.lengths,
      c.part_sizes-sizes.ensures.local,
      c.nullable.ensures,
    )
