use Rattle.std.proofs.Common.{◌≡◌, ◌+◌, ◌++◌, ◌∷◌, [], ℕ, List, length, take, sym, ap, ◌∙◌, arith}
use Rattle.compact_record.specs.Writing.{record_bytes, origin_in, size_of_record}
use Rattle.compact_record.proofs.Placed.{size_is, origin_is}
use Rattle.page_packer.specs.Packing.{Pushed, Packing, with_record}
use Rattle.page_packer.specs.Filling.{pushed_in}
use Rattle.page_packer.proofs.Fills.{pushed_count, room_more, push_filled, push_records, with_record_is}
use Rattle.page_packer.proofs.packer.Packer.push.Goals as goal

pub overflow_cast-placed : goal.overflow_cast-placed
overflow_cast-placed c =
    let fields = c.args.fields.now in
    let parts = c.args.parts.now in
    let inside = c.self.inside in
    let room = room_more c.args.self.now inside.page inside.spots.items inside.count inside.top
    (size_of_record fields parts) c.self.invariant (ap (λ (p : Packing). p.records) (sym c.self.view_is))
    c.requires.room in
    omega (arith, room, c.place_record-placed.ensures.origin, size_is fields parts, origin_is fields parts)

pub invariant_of-self : goal.invariant_of-self
invariant_of-self c =
    let fields = c.args.fields.now in
    let parts = c.args.parts.now in
    let page = c.self.inside.page in
    let spots = c.self.inside.spots.items in
    let count = c.self.inside.count in
    let top = c.self.inside.top in
    let placed = c.place_record-placed in
    let long : length page ≡ 16384 = ap length (sym c.bytes.ensures.same) ∙ c.bytes.ensures.size in
    let room = room_more c.args.self.now page spots count top (size_of_record fields parts) c.self.invariant
    (ap (λ (p : Packing). p.records) (sym c.self.view_is)) c.requires.room in
    push_filled page placed.new.page spots count top fields parts (2 + count) c.status_on-kind.result c.args.minimum
    placed.result.origin placed.result.end c.self.invariant long placed.ensures.page placed.ensures.origin
    placed.ensures.end (omega (arith, room, placed.ensures.end))

pub returns : goal.returns
returns c =
    let fields = c.args.fields.now in
    let parts = c.args.parts.now in
    let page = c.self.inside.page in
    let spots = c.self.inside.spots.items in
    let count = c.self.inside.count in
    let top = c.self.inside.top in
    let level = c.self.inside.level in
    let placed = c.place_record-placed in
    let few = c.self.invariant.few in
    let space = c.self.invariant.room in
    let fits = c.self.invariant.fits in
    let long : length page ≡ 16384 = ap length (sym c.bytes.ensures.same) ∙ c.bytes.ensures.size in
    let records : List Pushed = pushed_in page (take count spots) in
    let size : length records ≡ count = pushed_count page spots count (omega arith) in
    let room = room_more c.args.self.now page spots count top (size_of_record fields parts) c.self.invariant
    (ap (λ (p : Packing). p.records) (sym c.self.view_is)) c.requires.room in
    let now = push_records page placed.new.page spots count top fields parts (2 + count) c.status_on-kind.result
    c.args.minimum placed.result.origin placed.result.end c.self.invariant long placed.ensures.page
    placed.ensures.origin placed.ensures.end (omega (arith, room, placed.ensures.end)) in
    ap (λ (rs : List Pushed). record { level = level; records = rs }) now
    ∙ ap (λ (kind : ℕ). record {
      level = level;
      records = records
          ++ record {
            bytes = record_bytes fields parts (2 + count) kind c.args.minimum;
            origin = origin_in fields parts;
          } ∷ [];
    }) c.status_on-kind.ensures.value
    ∙ sym (with_record_is level count records fields parts c.args.minimum size)
    ∙ ap (λ (p : Packing). with_record p fields parts c.args.minimum) c.self.view_is
