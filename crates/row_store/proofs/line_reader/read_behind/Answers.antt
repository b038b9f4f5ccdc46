use Rattle.std.proofs.Common.{take, ◌∙◌, arith}
use Rattle.std.proofs.lemmas.List.{length-take-le}
use Rattle.row_store.proofs.Ahead.{given_by, ends_by, room_read}
use Rattle.row_store.proofs.line_reader.read_behind.Goals as goal

pub returns-clause-come : goal.returns-clause-come
returns-clause-come g c =
    let left = g.R.ByteSource.left in
    let items = c.args.bytes.now.items in
    let buffer = c.read.new.buffer in
    let count = c.in_ok-count.count in
    let bound = c.in_ok-count.ensures.bound in
    let takes = c.in_ok-count.ensures.bytes in
    let room = c.in_ok-resize.ensures.len in
    let long = c.deref_mut.ensures.len in
    let part = c.read.auto.buffer in
    record {
      piece = take count buffer;
      count_is = length-take-le count buffer bound;
      few = omega arith;
      behind = c.truncate.ensures.items
          ∙ room_read items _ c.deref_mut.result.now buffer _ _ c.len-end.result count _ 65536
          (omega (arith, c.len-end.ensures, c.args.bytes.now.ok.0))
          (c.deref_mut.ensures.value ∙ c.in_ok-resize.ensures.items) bound (omega arith) (omega arith);
      given = given_by _ (left c.args.text.now) (left c.read.new.self) count buffer takes;
      ends = ends_by _ (left c.args.text.now) (left c.read.new.self) count buffer takes;
    }
