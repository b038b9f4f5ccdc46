use Rattle.std.proofs.Common.{sym, ap, ◌∙◌, arith}
use Rattle.row_layout.specs.StoredRow.{Stored}
use Rattle.row_store.specs.declared.marks.FieldSpot.{FieldSpot}
use Rattle.row_store.proofs.Spots.{within_spots, field_seen, spot_read}
use Rattle.row_store.proofs.row_fields.RowFields.spot.Goals as goal

pub index-requires : goal.index-requires
index-requires c =
    let within = within_spots c.self.inside.spots.items c.self.inside.bytes.items c.args.self.now c.args.i
    c.self.view_is
    c.requires in
    omega (arith, c.self.inside.spots.ok.0)

pub returns-clause-null : goal.returns-clause-null
returns-clause-null c =
    let spots = c.self.inside.spots.items in
    let bytes = c.self.inside.bytes.items in
    let within = within_spots spots bytes c.args.self.now c.args.i c.self.view_is c.requires in
    ap (λ (s : FieldSpot). s.null) (spot_read spots c.args.i c.index.result.now within c.index.ensures)
    ∙ sym (ap (λ (f : Stored). f.null) (field_seen spots bytes c.args.self.now c.args.i c.self.view_is c.requires))

pub returns-clause-off : goal.returns-clause-off
returns-clause-off c =
    let spots = c.self.inside.spots.items in
    let bytes = c.self.inside.bytes.items in
    let within = within_spots spots bytes c.args.self.now c.args.i c.self.view_is c.requires in
    ap (λ (s : FieldSpot). s.off) (spot_read spots c.args.i c.index.result.now within c.index.ensures)
    ∙ sym (ap (λ (f : Stored). f.off) (field_seen spots bytes c.args.self.now c.args.i c.self.view_is c.requires))
