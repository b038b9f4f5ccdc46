use Rattle.std.proofs.Common.{length, ap, arith}
use Rattle.row_store.proofs.Spots.{length-row}
use Rattle.row_store.proofs.row_fields.RowFields.len.Goals as goal

pub returns : goal.returns
returns c =
    let size = ap length c.self.view_is in
    let long = length-row c.self.inside.spots.items c.self.inside.bytes.items in
    omega (arith, c.len.ensures, c.self.inside.spots.ok.0)
