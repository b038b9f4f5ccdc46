use Rattle.std.proofs.Common.{◌<◌, List, length, sym, subst}
use Rattle.row_store.specs.declared.marks.FieldSpot.{FieldSpot}
use Rattle.row_store.specs.calls.Stored.{AreSpots}
use Rattle.row_store.proofs.Spots.{within_spots, bytes_seen}
use Rattle.row_store.proofs.row_fields.RowFields.bytes.Goals as goal

pub range_of-start-requires : goal.range_of-start-requires
range_of-start-requires c =
    let spots = c.self.inside.spots.items in
    let bytes = c.self.inside.bytes.items in
    record {
      within = subst (λ (s : List FieldSpot). c.args.i < length s) (sym c.deref.ensures.value)
          (within_spots spots bytes c.args.self.now c.args.i c.self.view_is c.requires);
      are = subst (λ (s : List FieldSpot). AreSpots s c.deref-2.result.now) (sym c.deref.ensures.value)
          (subst (AreSpots spots) (sym c.deref-2.ensures.value) c.self.invariant.are);
    }

pub returns : goal.returns
returns c =
    let found = c.range_of-start.ensures in
    bytes_seen c.self.inside.spots.items c.deref.result.now c.self.inside.bytes.items c.deref-3.result.now
    c.args.self.now c.args.i c.range_of-start.result.0 c.range_of-start.result.1 c.self.view_is c.requires
    c.deref.ensures.value c.deref-3.ensures.value found.start found.end
