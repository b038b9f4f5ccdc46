use Rattle.std.proofs.Common.{◌<◌, length, ap, ◌∙◌, arith}
use Rattle.sql_dump.specs.Cells.{RowView, RowOnLeaf, cell_of_column}
use Rattle.sql_dump.proofs.Cells.{cell_is, field_within}
use Rattle.schema_text.proofs.EntryFields.{length_fields}
use Rattle.sql_dump.proofs.row.Row.cell.Goals as goal

pub bounds-self-inside-c : goal.bounds-self-inside-c
bounds-self-inside-c c =
    omega (
      arith,
      length_fields c.self.inside.schema.now c.self.inside.at.now c.self.invariant.fields,
      ap (λ (on : RowOnLeaf). length on.row.table.columns) c.self.view_is,
      c.requires,
    )

pub offset_bounds-self-inside-self-inside : goal.offset_bounds-self-inside-self-inside
offset_bounds-self-inside-self-inside c =
    let within : c.args.c < length c.self.inside.schema.now.columns =
    omega (arith, ap (λ (on : RowOnLeaf). length on.row.table.columns) c.self.view_is, c.requires) in
    omega (
      arith,
      field_within c.self.inside.schema.now c.self.inside.at.now c.self.inside.places.now c.args.c 0
          c.columns.ensures.table c.self.invariant within,
      c.self.invariant.few,
    )

pub bounds-self-inside-self-inside : goal.bounds-self-inside-self-inside
bounds-self-inside-self-inside c =
    let within : c.args.c < length c.self.inside.schema.now.columns =
    omega (arith, ap (λ (on : RowOnLeaf). length on.row.table.columns) c.self.view_is, c.requires) in
    field_within c.self.inside.schema.now c.self.inside.at.now c.self.inside.places.now c.args.c 0
    c.columns.ensures.table c.self.invariant within

pub returns : goal.returns
returns c =
    let inside = c.self.inside in
    let row : RowView =
    record { table = inside.schema.now; page = inside.page.now; places = inside.places.now } in
    let within : c.args.c < length inside.schema.now.columns =
    omega (arith, ap (λ (on : RowOnLeaf). length on.row.table.columns) c.self.view_is, c.requires) in
    cell_is row inside.at.now c.columns.result.now c.index-columns-c.result c.args.c 0 _ c.columns.ensures.table
    c.self.invariant c.columns.ensures.same within
    ∙ ap (λ (on : RowOnLeaf). cell_of_column on.row c.args.c) c.self.view_is
