use Rattle.std.proofs.Common.{ap, ◌∙◌, arith}
use Rattle.row_layout.specs.StoredRow.{with_off}
use Rattle.row_store.proofs.Spots.{within_spots, spot_read, row_sent}
use Rattle.row_store.proofs.row_fields.RowFields.send_off.Goals as goal

pub index-requires : goal.index-requires
index-requires c =
    let within = within_spots c.self.inside.spots.items c.self.inside.bytes.items c.args.self.now c.args.i
    c.self.view_is
    c.requires in
    omega (arith, c.self.inside.spots.ok.0)

pub index_mut-requires : goal.index_mut-requires
index_mut-requires c =
    let within = within_spots c.self.inside.spots.items c.self.inside.bytes.items c.args.self.now c.args.i
    c.self.view_is
    c.requires in
    omega (arith, c.self.inside.spots.ok.0)

pub returns : goal.returns
returns c =
    let spots = c.self.inside.spots.items in
    let bytes = c.self.inside.bytes.items in
    let within = within_spots spots bytes c.args.self.now c.args.i c.self.view_is c.requires in
    row_sent spots bytes c.args.i c.index.result.now c.self.invariant within
    (spot_read spots c.args.i c.index.result.now within c.index.ensures)
    ∙ ap (with_off c.args.i) c.self.view_is
