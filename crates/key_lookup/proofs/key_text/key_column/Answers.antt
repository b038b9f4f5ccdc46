use Rattle.std.proofs.Common.{◌<◌, length, rules, arith}
use Rattle.schema_text.specs.IndexFields.{clustered_positions}
use Rattle.row_text.specs.KeyText.{key_columns}
use Rattle.key_lookup.proofs.KeyCells.{places_size, column_read, held_at}
use Rattle.key_lookup.proofs.key_text.key_column.Goals as goal

pub bounds-key_places-i : goal.bounds-key_places-i
bounds-key_places-i c =
    let table = c.args.schema.now in
    let size = places_size table.columns (clustered_positions table) c.key_places.result.now c.key_places.ensures.same
    c.key_places.ensures.within in
    omega (arith, size, c.requires)

pub offset_bounds-key_places-i : goal.offset_bounds-key_places-i
offset_bounds-key_places-i c =
    let table = c.args.schema.now in
    let size = places_size table.columns (clustered_positions table) c.key_places.result.now c.key_places.ensures.same
    c.key_places.ensures.within in
    let inside : c.args.i < length c.key_places.result.now = omega (arith, size, c.requires) in
    search rules

pub returns-clause-at : goal.returns-clause-at
returns-clause-at c =
    let table = c.args.schema.now in
    let size = places_size table.columns (clustered_positions table) c.key_places.result.now c.key_places.ensures.same
    c.key_places.ensures.within in
    column_read table.columns c.columns.result.now (clustered_positions table) c.key_places.result.now c.args.i
    c.from.result c.index-columns-from.result c.key_places.ensures.same c.columns.ensures.same
    c.key_places.ensures.within
    (omega (arith, size, c.requires)) c.from.ensures c.index-columns-from.is

pub returns-clause-held : goal.returns-clause-held
returns-clause-held c =
    let table = c.args.schema.now in
    let size = places_size table.columns (clustered_positions table) c.key_places.result.now c.key_places.ensures.same
    c.key_places.ensures.within in
    held_at (key_columns table) c.args.i c.index-columns-from.result c.key_places.ensures.held
    (column_read table.columns c.columns.result.now (clustered_positions table) c.key_places.result.now c.args.i
    c.from.result c.index-columns-from.result c.key_places.ensures.same c.columns.ensures.same
    c.key_places.ensures.within
    (omega (arith, size, c.requires)) c.from.ensures c.index-columns-from.is)
