use Rattle.std.proofs.Common.{List, ℕ, subst, sym, arith}
use Rattle.std.specs.Borrow.{Bor}
use Rattle.page_source.specs.Objects.{GrowsByPart}
use Rattle.page_source.proofs.Texts.{grows_part, pieces_at, part_puts}
use Rattle.page_source.proofs.pieces.put_pieces.Goals as goal

pub returns-in_err-put : goal.returns-in_err-put
returns-in_err-put g c =
    let written = g.O.ByteSink.written in
    let whole = pieces_at (λ (piece : Bor
    (List ℕ)). piece.now) c.args.pieces.now c.loop-piece.piece-index _ c.loop-piece-test.true in
    let part = grows_part (written c.args.sink.now) (written c.loop-piece.sink) (written
    c.put.new.self) _ _ _ c.loop-piece.invariant.text c.in_err-put.ensures.failed in
    part_puts g.O.ByteSink c.args.sink.now c.put.new.self _ c.from_residual.result c.from_residual.ensures.0
    (subst (λ (text : List ℕ). GrowsByPart (written c.args.sink.now) (written c.put.new.self) text) (sym whole) part)
    (omega (arith, c.loop-piece.invariant.later, c.in_err-put.ensures.cause.later))
    (omega (arith, c.loop-piece.invariant.later, c.in_err-put.ensures.cause.failed))
