use Rattle.std.proofs.Common.{[], refl, sym, ap, ◌∙◌, arith}
use Rattle.image_carve.specs.Carved.{known}
use Rattle.image_carve.proofs.Turns.{turn_none, turn_other, turn_put, stop_source, stop_memory, stop_by_put, turn_done}
use Rattle.image_carve.proofs.Turns.{turn_never, scans_some, scans_none}
use Rattle.image_carve.proofs.carve.carve.Goals as goal

pub returns-in_err-page-clause-told : goal.returns-in_err-page-clause-told
returns-in_err-page-clause-told g c =
    let left = g.Q.ByteSource.left c.args.image.now in
    stop_memory left c.args.space (g.F.PageFile.held c.args.file.now) _ _ 0 c.from_residual.result
    (turn_none left c.args.space (g.F.PageFile.held c.args.file.now) c.args.newest.now [] c.requires refl)
    c.from_residual.ensures.1

pub returns-in_err-scanner-clause-told : goal.returns-in_err-scanner-clause-told
returns-in_err-scanner-clause-told g c =
    let left = g.Q.ByteSource.left c.args.image.now in
    stop_memory left c.args.space (g.F.PageFile.held c.args.file.now) _ _ 0 c.from_residual-in_err-scanner.result
    (turn_none left c.args.space (g.F.PageFile.held c.args.file.now) c.args.newest.now [] c.requires refl)
    c.from_residual-in_err-scanner.ensures.1

pub loop-turn-init : goal.loop-turn-init
loop-turn-init g c = record {
  turn = turn_none (g.Q.ByteSource.left c.args.image.now) c.args.space (g.F.PageFile.held c.args.file.now)
      c.args.newest.now c.in_ok-scanner.scanner c.requires c.in_ok-scanner.ensures;
  untouched = λ none. refl;
  source_later = omega arith;
  store_later = omega arith;
}

pub returns-in_default-clause-told : goal.returns-in_default-clause-told
returns-in_default-clause-told g c =
    stop_source (g.Q.ByteSource.left c.args.image.now) c.args.space (g.F.PageFile.held c.args.file.now) _ _
    c.loop-turn._turn c.loop-turn.invariant.turn

pub returns-in_default-next-clause-told : goal.returns-in_default-next-clause-told
returns-in_default-next-clause-told g c =
    turn_done (g.Q.ByteSource.left c.args.image.now) c.args.space (g.F.PageFile.held c.args.file.now) _ _ _
    c.loop-turn._turn c.next.new.page c.loop-turn.invariant.turn
    (scans_none _ _ c.in-Ok.next c.next.new.page c.in_default-next.is c.in-Ok.ensures.scans)

pub returns-in_err-put_newer-clause-told : goal.returns-in_err-put_newer-clause-told
returns-in_err-put_newer-clause-told g c =
    stop_by_put (g.Q.ByteSource.left c.args.image.now) c.args.space (g.F.PageFile.held c.args.file.now) _ _ _
    c.loop-turn._turn c.in-Some.found.number c.next.new.page c.in_err-put_newer.field-0.0
    c.from_residual-in_err-put_newer.result c.loop-turn.invariant.turn c.in_err-put_newer.ensures.puts
    c.from_residual-in_err-put_newer.ensures.1

pub loop-turn-preserved-then-found-space : goal.loop-turn-preserved-then-found-space
loop-turn-preserved-then-found-space g c = record {
  turn = turn_other (g.Q.ByteSource.left c.args.image.now) c.args.space (g.F.PageFile.held c.args.file.now) _
      c.loop-turn._turn _ _ c.in-Some.found c.next.new.page c.loop-turn.invariant.turn
      (scans_some _ _ c.in-Ok.next c.in-Some.found c.next.new.page c.in-Some.is c.in-Ok.ensures.scans)
      c.if-found-space.true;
  untouched = c.loop-turn.invariant.untouched;
  source_later = omega (arith, c.loop-turn.invariant.source_later, c.next.ensures.cause.later);
  store_later = c.loop-turn.invariant.store_later;
}

pub loop-turn-preserved : goal.loop-turn-preserved
loop-turn-preserved g c = record {
  turn = turn_put (g.Q.ByteSource.left c.args.image.now) c.args.space (g.F.PageFile.held c.args.file.now) _ _
      c.loop-turn._turn _ _ c.in-Some.found c.next.new.page c.loop-turn.invariant.turn
      (scans_some _ _ c.in-Ok.next c.in-Some.found c.next.new.page c.in-Some.is c.in-Ok.ensures.scans)
      c.if-found-space.false c.in_ok-put_newer.ensures.puts;
  untouched = λ none.
      let same = c.in_ok-put_newer.ensures.untouched none in
      same.0 ∙ c.loop-turn.invariant.untouched (ap known (sym same.1) ∙ none);
  source_later = omega (arith, c.loop-turn.invariant.source_later, c.next.ensures.cause.later);
  store_later = omega (arith, c.loop-turn.invariant.store_later, c.put_newer.ensures.later);
}

pub returns-clause-told : goal.returns-clause-told
returns-clause-told g c =
    turn_never (g.Q.ByteSource.left c.args.image.now) c.args.space (g.F.PageFile.held c.args.file.now) _ _
    c.loop-turn._turn c.loop-turn.invariant.turn (omega (arith, c.loop-turn-test.false))
