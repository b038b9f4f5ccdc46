use Rattle.std.proofs.Common.{◌<◌, arith}
use Rattle.row_text.specs.Writer.{long_part}
use Rattle.sql_dump.proofs.Short.{part_size_most, never_full}
use Rattle.sql_dump.proofs.long.part_text.Goals as goal

pub unreachable-requires : goal.unreachable-requires
unreachable-requires c =
    let size = part_size_most c.args.kind.now c.args.bytes.now in
    let few = never_full c.truncate.new.self.bytes c.part.new.sink.bytes (long_part c.args.kind.now c.args.bytes.now)
    c.truncate.ensures.bytes (omega (arith, size, c.requires.short)) c.in-Err.ensures.puts.failed in
    let some : 0 < c.part.new.sink.refused = omega (
      arith,
      c.in-Err.ensures.puts.cause.failed,
      c.truncate.ensures.refused,
    ) in
    absurd (omega (arith, few, c.len.ensures.count, c.len.ensures.full some))
