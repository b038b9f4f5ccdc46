use Rattle.std.proofs.Common.{refl, ◌-◌, ◌∙◌, ap, drop, length, sym, arith}
use Rattle.std.proofs.lemmas.List.{length-take-le, length-drop}
use Rattle.row_store.specs.calls.Arena.{arena_of, bytes_in, span_at, spots_in}
use Rattle.row_store.proofs.RowsIn.{span_within, spot_within, row_seen}
use Rattle.row_store.proofs.Spots.{bytes_seen}
use Rattle.row_store.proofs.stored.StoredRows.length.Goals as goal

pub place-start-requires-clause-row : goal.place-start-requires-clause-row
place-start-requires-clause-row c =
    span_within c.self.inside.lists c.args.self.now c.args.r c.self.view_is c.requires.row

pub place-start-requires-clause-field : goal.place-start-requires-clause-field
place-start-requires-clause-field c =
    spot_within c.self.inside.lists c.args.self.now c.args.r c.self.view_is c.requires.row c.args.i c.requires.field

pub returns : goal.returns
returns c =
    let arena = arena_of c.self.inside.lists in
    let span = span_at arena c.args.r in
    let bytes = bytes_in arena span in
    let start = c.place-start.result.0 in
    let end = c.place-start.result.1 in
    let left = length-drop start bytes in
    let inside = c.place-start.ensures.inside in
    let size = length-take-le (end - start) (drop start bytes) (omega arith) in
    sym size
    ∙ ap length (bytes_seen (spots_in arena span) (spots_in arena span) bytes bytes _ c.args.i start end
    (row_seen c.self.inside.lists c.args.self.now c.args.r c.self.view_is c.requires.row) c.requires.field refl refl
    c.place-start.ensures.start c.place-start.ensures.end)
