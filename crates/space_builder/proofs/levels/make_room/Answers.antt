use Rattle.std.proofs.Common.{◌≡◌, ◌∙◌, ◌-◌, ◌<◌, Bool, false, length, [], ◌∷◌, Ok, Err, sym, subst, arith}
use Rattle.page_packer.specs.Packing.{fits_more}
use Rattle.space_builder.specs.declared.built.PutStop.TheVariants as stops
use Rattle.space_builder.specs.declared.tree_pages.TreeSpot.{TreeSpot}
use Rattle.space_builder.specs.build.Puts.{CanPutAt}
use Rattle.space_builder.specs.calls.MakesRoom.{MakesRoom}
use Rattle.space_builder.proofs.Puts.{all_put, memory_behind}
use Rattle.space_builder.proofs.Spots.{spot_is, spot_index, spot_below, page_low}
use Rattle.space_builder.proofs.Turns.{open_page, put_at_spot, turn_failed}
use Rattle.space_builder.proofs.levels.make_room.Goals as goal

pub overflow_cast-len : goal.overflow_cast-len
overflow_cast-len g c =
    let starts = c.args.starts.now.items in
    let len : c.len.result ≡ length starts = omega (arith, c.len.ensures, c.args.starts.now.ok.0) in
    let some = c.requires.some in
    let within = c.requires.within in
    let low = page_low c.put_laws.ensures c.args.tree.now c.requires.is_plan c.args.level (length starts - 1)
    record { inside = c.requires.inside; within = omega arith } in
    omega arith

pub put_page-requires-clause-index : goal.put_page-requires-clause-index
put_page-requires-clause-index g c =
    subst (λ (spot : TreeSpot). spot.index < 16) (sym c.spot-spot.ensures)
    (spot_index c.args.tree.now c.requires.is_plan c.from.result (c.len.result - 1))

pub put_page-requires-clause-below : goal.put_page-requires-clause-below
put_page-requires-clause-below g c =
    let plan = c.args.tree.now in
    let starts = c.args.starts.now.items in
    let level = c.args.level in
    let len : c.len.result ≡ length starts = omega (arith, c.len.ensures, c.args.starts.now.ok.0) in
    let some = c.requires.some in
    let within = c.requires.within in
    let spot = spot_is plan level c.from.result c.len.result (length starts) c.spot-spot.result c.spot-spot.ensures
    c.from.ensures len in
    subst (λ (spot : TreeSpot). CanPutAt g.T.PageStore c.args.store.now spot.number) (sym spot)
    (spot_below c.put_laws.ensures plan g.T.PageStore c.args.store.now c.requires.is_plan c.requires.room level
    (length starts - 1) record { inside = c.requires.inside; within = omega arith })

pub returns-in_err-put_page : goal.returns-in_err-put_page
returns-in_err-put_page g c =
    let plan = c.args.tree.now in
    let starts = c.args.starts.now.items in
    let level = c.args.level in
    let packing = c.args.room.now.packer in
    let len : c.len.result ≡ length starts = omega (arith, c.len.ensures, c.args.starts.now.ok.0) in
    let spot = spot_is plan level c.from.result c.len.result (length starts) c.spot-spot.result c.spot-spot.ensures
    c.from.ensures len in
    let none : fits_more packing c.args.size ≡ false = sym c.fits.ensures ∙ c.if-fits.false in
    subst (λ (fits : Bool). MakesRoom g.T.PageStore plan level c.args.k fits c.args.store.now c.put_page.new.store
    packing
    c.put_page.new.room.packer starts starts c.from_residual.result) (sym none)
    (turn_failed g.T.PageStore plan level c.args.k c.args.store.now c.put_page.new.store packing
    c.put_page.new.room.packer starts starts c.from_residual.result c.in_err-put_page.field-0.0
    c.from_residual.ensures.1
    (put_at_spot g.T.PageStore plan level c.args.store.now c.put_page.new.store packing starts c.spot-spot.result
    (Err c.in_err-put_page.field-0.0) spot c.in_err-put_page.ensures.puts))

pub returns-in_err-begin_page : goal.returns-in_err-begin_page
returns-in_err-begin_page g c =
    let plan = c.args.tree.now in
    let starts = c.args.starts.now.items in
    let level = c.args.level in
    let packing = c.args.room.now.packer in
    let len : c.len.result ≡ length starts = omega (arith, c.len.ensures, c.args.starts.now.ok.0) in
    let spot = spot_is plan level c.from.result c.len.result (length starts) c.spot-spot.result c.spot-spot.ensures
    c.from.ensures len in
    let none : fits_more packing c.args.size ≡ false = sym c.fits.ensures ∙ c.if-fits.false in
    let page = open_page plan level packing starts in
    subst (λ (fits : Bool). MakesRoom g.T.PageStore plan level c.args.k fits c.args.store.now c.put_page.new.store
    packing
    c.begin.new.self starts c.begin_page.new.starts.items c.from_residual-in_err-begin_page.result) (sym none)
    (turn_failed g.T.PageStore plan level c.args.k c.args.store.now c.put_page.new.store packing c.begin.new.self starts
    c.begin_page.new.starts.items c.from_residual-in_err-begin_page.result stops.Memory
    c.from_residual-in_err-begin_page.ensures.1
    (memory_behind g.T.PageStore c.args.store.now c.put_page.new.store (page ∷ []) (page ∷ []) (λ n has. has)
    (all_put g.T.PageStore c.args.store.now c.put_page.new.store (page ∷ []) tt
    (put_at_spot g.T.PageStore plan level c.args.store.now c.put_page.new.store packing starts c.spot-spot.result
    (Ok (tt {0})) spot c.in_ok-put_page.ensures.puts))))

pub returns : goal.returns
returns g c =
    let plan = c.args.tree.now in
    let starts = c.args.starts.now.items in
    let level = c.args.level in
    let packing = c.args.room.now.packer in
    let len : c.len.result ≡ length starts = omega (arith, c.len.ensures, c.args.starts.now.ok.0) in
    let spot = spot_is plan level c.from.result c.len.result (length starts) c.spot-spot.result c.spot-spot.ensures
    c.from.ensures len in
    let none : fits_more packing c.args.size ≡ false = sym c.fits.ensures ∙ c.if-fits.false in
    subst (λ (fits : Bool). MakesRoom g.T.PageStore plan level c.args.k fits c.args.store.now c.put_page.new.store
    packing
    c.begin.new.self starts c.begin_page.new.starts.items (Ok tt)) (sym none) record {
      puts = put_at_spot g.T.PageStore plan level c.args.store.now c.put_page.new.store packing starts
          c.spot-spot.result (Ok (tt {0})) spot c.in_ok-put_page.ensures.puts;
      packed = c.begin.ensures;
      begins = c.in_ok-begin_page.ensures.ok;
    }
