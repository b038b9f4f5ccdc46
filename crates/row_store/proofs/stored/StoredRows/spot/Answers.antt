use Rattle.std.proofs.Common.{◌∙◌, ap, sym}
use Rattle.row_layout.specs.StoredRow.{Stored}
use Rattle.row_store.specs.declared.marks.FieldSpot.{FieldSpot}
use Rattle.row_store.proofs.RowsIn.{span_within, spot_within, field_here}
use Rattle.row_store.proofs.stored.StoredRows.spot.Goals as goal

pub spot-requires-clause-row : goal.spot-requires-clause-row
spot-requires-clause-row c =
    span_within c.self.inside.lists c.args.self.now c.args.r c.self.view_is c.requires.row

pub spot-requires-clause-field : goal.spot-requires-clause-field
spot-requires-clause-field c =
    spot_within c.self.inside.lists c.args.self.now c.args.r c.self.view_is c.requires.row c.args.i c.requires.field

pub returns-clause-null : goal.returns-clause-null
returns-clause-null c =
    ap (λ (s : FieldSpot). s.null) c.spot.ensures
    ∙ sym (ap (λ (f : Stored). f.null)
    (field_here c.self.inside.lists c.args.self.now c.args.r c.self.view_is c.requires.row c.args.i c.requires.field))

pub returns-clause-off : goal.returns-clause-off
returns-clause-off c =
    ap (λ (s : FieldSpot). s.off) c.spot.ensures
    ∙ sym (ap (λ (f : Stored). f.off)
    (field_here c.self.inside.lists c.args.self.now c.args.r c.self.view_is c.requires.row c.args.i c.requires.field))
