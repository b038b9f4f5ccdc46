use Rattle.std.proofs.Common.{refl}
use Rattle.row_store.specs.calls.Arena.{arena_of, bytes_in, span_at, spots_in}
use Rattle.row_store.proofs.RowsIn.{span_within, spot_within, row_seen}
use Rattle.row_store.proofs.Spots.{bytes_seen}
use Rattle.row_store.proofs.stored.StoredRows.bytes.Goals as goal

pub place-start-requires-clause-row : goal.place-start-requires-clause-row
place-start-requires-clause-row c =
    span_within c.self.inside.lists c.args.self.now c.args.r c.self.view_is c.requires.row

pub place-start-requires-clause-field : goal.place-start-requires-clause-field
place-start-requires-clause-field c =
    spot_within c.self.inside.lists c.args.self.now c.args.r c.self.view_is c.requires.row c.args.i c.requires.field

pub bytes_of-requires-clause-row : goal.bytes_of-requires-clause-row
bytes_of-requires-clause-row c =
    span_within c.self.inside.lists c.args.self.now c.args.r c.self.view_is c.requires.row

pub returns : goal.returns
returns c =
    let arena = arena_of c.self.inside.lists in
    let span = span_at arena c.args.r in
    bytes_seen (spots_in arena span) (spots_in arena span) (bytes_in arena span) c.bytes_of.result.now _ c.args.i
    c.place-start.result.0 c.place-start.result.1
    (row_seen c.self.inside.lists c.args.self.now c.args.r c.self.view_is c.requires.row) c.requires.field refl
    c.bytes_of.ensures c.place-start.ensures.start c.place-start.ensures.end
