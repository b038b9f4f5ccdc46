use Rattle.std.proofs.Common.{◌+◌, slice_range, ap, ◌∙◌, arith, refl, sym, subst}
use Rattle.std.proofs.lemmas.Result.{err_from_is_err_and}
use Rattle.page_source.proofs.Told.{map_told, map_told2, map_told3}
use Rattle.page_source.specs.Objects.{GrowsBy, GrowsByPart}
use Rattle.row_text.specs.Writer.{Writer, long_part}
use Rattle.offpage_chain.specs.Reader.{ChainRest}
use Rattle.sql_dump.proofs.Chains.{chain_start, part_size, chain_breaks, chain_ends, chain_more, chain_cut}
use Rattle.sql_dump.proofs.SomeValues.{no_bytes, more_bytes, bytes_end, bytes_break, bytes_cut}
use Rattle.sql_dump.proofs.long.put_chain.Goals as goal

pub loop-length-init : goal.loop-length-init
loop-length-init g c = record {
  same = refl;
  source_later = omega arith;
  asked = omega arith;
  sink_later = omega arith;
  cost = refl;
  fewer = omega arith;
  came = refl;
  some = no_bytes c.args.kind.now (g.O.ByteSink.written c.args.sink.now) c.args.reference.now.length
      c.args.writer.now.lacks c.parts_are_the_value.ensures.none c.requires.lacks;
  lacks = c.requires.lacks ∙ sym (ap (λ (r : ChainRest). r.lacks) c.new-reader.ensures);
  told = map_told (g.S.PageSource.content c.args.source.now)
      (λ file can. chain_start file c.args.reference.now c.args.kind.now c.new-reader.result
      (g.O.ByteSink.written c.args.sink.now) c.args.room.now.left c.parts_are_the_value.ensures.none
      c.new-reader.ensures can)
      c.requires.told;
}

pub returns-in_err-length-clause-puts : goal.returns-in_err-length-clause-puts
returns-in_err-length-clause-puts g c =
    let i = c.loop-length.invariant in
    let never = rw i.same at c.in_err-length.ensures.never in
    let r = err_from_is_err_and c.from_residual.result c.from_residual.ensures.1 in
    rw (r.1, r.2)
    (map_told3 (g.S.PageSource.content c.args.source.now)
    (λ file can so never. chain_breaks file c.args.reference.now c.args.kind.now c.loop-length.reader
    (g.O.ByteSink.written c.args.sink.now) (g.O.ByteSink.written c.loop-length.sink) c.args.room.now.left
    c.loop-length.room.left c.in_err-length.field-0.0 c.parts_are_the_value.ensures.join so can.few
    (λ pages fault goes few e. never pages fault goes few (cc)))
    c.requires.told i.told never)

pub loop-length-preserved : goal.loop-length-preserved
loop-length-preserved g c =
    let i = c.loop-length.invariant in
    let next = rw (c.in-Some.is, i.same) at c.in_ok-length.ensures.next in
    let gives = rw c.in-Some.is at c.in_ok-length.ensures.gives in
    let counts = c.in_ok-put_part.ensures.counts in
    let size = part_size c.bytes.result.now c.in-Some.length c.bytes.ensures.size (omega (
      arith,
      gives.0,
      gives.1.part.1,
    )) in
    record {
      same = c.in_ok-length.ensures.over.same ∙ i.same;
      source_later = omega (arith, i.source_later, c.in_ok-length.ensures.over.cause.later);
      asked = omega (arith, i.asked, c.in_ok-length.ensures.over.asked);
      sink_later = omega (arith, i.sink_later, c.in_ok-put_part.ensures.puts.cause.later);
      cost = c.in_ok-length.ensures.cost ∙ i.cost;
      fewer = omega (arith, i.fewer, gives.3);
      came = ap (λ (w : Writer). w.came) counts ∙ i.came;
      some = more_bytes c.args.kind.now (g.O.ByteSink.written c.args.sink.now) (g.O.ByteSink.written
          c.loop-length.sink) (g.O.ByteSink.written c.put_part.new.sink) c.args.reference.now.length
          c.loop-length.writer.lacks c.put_part.new.writer.lacks _
          c.parts_are_the_value.ensures.join i.some c.in_ok-put_part.ensures.puts.ok (omega (
            arith,
            ap (λ (w : Writer). w.lacks) counts,
            size,
            i.lacks,
            gives.0,
            gives.1.part.1,
          ));
      lacks = omega (
        arith,
        ap (λ (w : Writer). w.lacks) counts,
        size,
        i.lacks,
        gives.0,
        ap (λ (r : ChainRest). r.lacks) gives.2,
      );
      told = map_told2 (g.S.PageSource.content c.args.source.now)
          (λ file so next. chain_more file c.args.reference.now c.args.kind.now c.loop-length.reader c.part.new.self
          (g.O.ByteSink.written c.args.sink.now) (g.O.ByteSink.written c.loop-length.sink)
          (g.O.ByteSink.written c.put_part.new.sink) c.args.room.now.left c.loop-length.room.left c.part.new.left
          c.in-Some.length c.part.new.page c.parts_are_the_value.ensures.join so next
          (subst (λ bytes. GrowsBy (g.O.ByteSink.written c.loop-length.sink) (g.O.ByteSink.written
          c.put_part.new.sink)
          (long_part c.args.kind.now (slice_range bytes 46 (46 + c.in-Some.length)))) c.bytes.ensures.same
          c.in_ok-put_part.ensures.puts.ok)
          gives.3)
          i.told next;
    }

pub returns-in_err-put_part-clause-puts : goal.returns-in_err-put_part-clause-puts
returns-in_err-put_part-clause-puts g c =
    let i = c.loop-length.invariant in
    let next = rw (c.in-Some.is, i.same) at c.in_ok-length.ensures.next in
    let r = err_from_is_err_and c.from_residual-in_err-put_part.result c.from_residual-in_err-put_part.ensures.1 in
    rw (r.1, r.2)
    (map_told2 (g.S.PageSource.content c.args.source.now)
    (λ file so next. chain_cut file c.args.reference.now c.args.kind.now c.loop-length.reader c.part.new.self
    (g.O.ByteSink.written c.args.sink.now) (g.O.ByteSink.written c.loop-length.sink)
    (g.O.ByteSink.written c.put_part.new.sink) c.args.room.now.left c.loop-length.room.left
    c.in-Some.length c.part.new.page c.parts_are_the_value.ensures.join so next
    (subst (λ bytes. GrowsByPart (g.O.ByteSink.written c.loop-length.sink) (g.O.ByteSink.written c.put_part.new.sink)
    (long_part c.args.kind.now (slice_range bytes 46 (46 + c.in-Some.length)))) c.bytes.ensures.same
    c.in_err-put_part.ensures.puts.failed))
    i.told next)

pub returns-clause-puts : goal.returns-clause-puts
returns-clause-puts g c =
    let i = c.loop-length.invariant in
    let next = rw (c.in_default.is, i.same) at c.in_ok-length.ensures.next in
    map_told2 (g.S.PageSource.content c.args.source.now)
    (λ file so next. (chain_ends file c.args.reference.now c.args.kind.now c.loop-length.reader c.part.new.self
    (g.O.ByteSink.written c.args.sink.now) (g.O.ByteSink.written c.loop-length.sink) c.args.room.now.left
    c.loop-length.room.left c.part.new.page so next).0)
    i.told next

pub returns-in_err-length-clause-some : goal.returns-in_err-length-clause-some
returns-in_err-length-clause-some g c =
    let r = err_from_is_err_and c.from_residual.result c.from_residual.ensures.1 in
    rw r.1 (bytes_break c.args.kind.now _ _ _ _ c.loop-length.invariant.some)

pub returns-in_err-put_part-clause-some : goal.returns-in_err-put_part-clause-some
returns-in_err-put_part-clause-some g c =
    let r = err_from_is_err_and c.from_residual-in_err-put_part.result c.from_residual-in_err-put_part.ensures.1 in
    rw r.1
    (bytes_cut c.args.kind.now _ _ _ _ _ _ c.loop-length.invariant.some c.in_err-put_part.ensures.puts.failed)

pub returns-clause-some : goal.returns-clause-some
returns-clause-some g c =
    let i = c.loop-length.invariant in
    let gives = rw c.in_default.is at c.in_ok-length.ensures.gives in
    bytes_end c.args.kind.now _ _ _ _ i.some (omega (arith, i.lacks, gives.0))
