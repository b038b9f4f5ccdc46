use Rattle.std.proofs.Common.{◌≡◌, ◌∙◌, ◌+◌, ◌-◌, ◌<◌, ◌++◌, ℕ, length, List, [], ◌∷◌, Ok, Err, ap, sym, subst, arith}
use Rattle.column_values.specs.Types.{Fields}
use Rattle.compact_record.specs.Writing.{size_of_record}
use Rattle.page_packer.specs.Packing.{Packing, none_packed, with_record, fits_more}
use Rattle.page_packer.specs.Entries.{Entry, entry_at}
use Rattle.tree_layout.specs.Division.{divided}
use Rattle.space_builder.specs.declared.built.PutStop.TheVariants as stops
use Rattle.space_builder.specs.declared.tree_pages.TreeSpot.{TreeSpot}
use Rattle.space_builder.specs.build.Puts.{CanPutAt}
use Rattle.space_builder.specs.calls.TreePlan.{fields_in, laid_pages}
use Rattle.space_builder.specs.calls.MakesRoom.{MakesRoom}
use Rattle.space_builder.proofs.Puts.{nothing_put, all_put, puts_all, failed_as}
use Rattle.space_builder.proofs.Spots.{spot_is, spot_index, spot_below, page_low, room_kept}
use Rattle.space_builder.proofs.Turns.{open_page, put_at_spot, room_failed}
use Rattle.space_builder.proofs.LevelRuns.{Stands, stands_start, stands_next, starts_some, starts_within, no_memory}
use Rattle.space_builder.proofs.LevelRuns.{page_there, stopped, level_put}
use Rattle.space_builder.proofs.levels.put_level.Goals as goal

pub returns-in_err-begin_page-clause-puts : goal.returns-in_err-begin_page-clause-puts
returns-in_err-begin_page-clause-puts g c =
    let plan = c.args.tree.now in
    let all = laid_pages plan c.args.level
    (divided (fields_in plan c.args.level) (g.E.Entries.entries c.args.entries.now)) in
    failed_as g.T.PageStore c.args.store.now c.args.store.now all c.from_residual.result stops.Memory
    c.from_residual.ensures.1 (nothing_put g.T.PageStore c.args.store.now all)

pub loop-k-init : goal.loop-k-init
loop-k-init g c =
    let plan = c.args.tree.now in
    let level = c.args.level in
    let entries = g.E.Entries.entries c.args.entries.now in
    let old = c.args.store.now in
    let starts : c.begin_page.new.starts.items ≡ 0 ∷ [] =
    c.in_ok-begin_page.ensures.ok ∙ ap (λ (xs : List ℕ). xs ++ 0 ∷ []) c.new-starts.ensures.items in
    subst (λ (p : Packing). Stands g.T.PageStore plan level old old p entries c.begin_page.new.starts.items 0)
    (sym c.begin.ensures)
    (subst (λ (xs : List ℕ). Stands g.T.PageStore plan level old old (none_packed level) entries xs 0) (sym starts)
    (stands_start c.put_laws.ensures plan level entries c.requires.level g.T.PageStore old))

pub returns-in_err-parts-clause-puts : goal.returns-in_err-parts-clause-puts
returns-in_err-parts-clause-puts g c =
    let plan = c.args.tree.now in
    let entries = g.E.Entries.entries c.args.entries.now in
    let all = laid_pages plan c.args.level (divided (fields_in plan c.args.level) entries) in
    failed_as g.T.PageStore c.args.store.now c.loop-k.store all c.from_residual-in_err-parts.result stops.Memory
    c.from_residual-in_err-parts.ensures.1
    (no_memory c.put_laws.ensures plan c.args.level entries c.requires.level g.T.PageStore c.args.store.now
    c.loop-k.store c.loop-k.room.packer c.loop-k.starts.items c.loop-k.k c.loop-k.invariant)

pub make_room-requires : goal.make_room-requires
make_room-requires g c =
    let plan = c.args.tree.now in
    let level = c.args.level in
    let entries = g.E.Entries.entries c.args.entries.now in
    let stands = c.loop-k.invariant in record {
      is_plan = c.requires.level.is_plan;
      room = room_kept g.T.PageStore plan c.args.store.now c.loop-k.store (laid_pages plan level stands.closed)
          stands.put c.requires.room;
      inside = c.requires.level.inside;
      some = starts_some c.put_laws.ensures plan level entries c.requires.level g.T.PageStore c.args.store.now
          c.loop-k.store c.loop-k.room.packer c.loop-k.starts.items c.loop-k.k stands;
      within = starts_within c.put_laws.ensures plan level entries c.requires.level g.T.PageStore c.args.store.now
          c.loop-k.store c.loop-k.room.packer c.loop-k.starts.items c.loop-k.k stands;
    }

pub returns-in_err-make_room-clause-puts : goal.returns-in_err-make_room-clause-puts
returns-in_err-make_room-clause-puts g c =
    let plan = c.args.tree.now in
    let level = c.args.level in
    let entries = g.E.Entries.entries c.args.entries.now in
    let all = laid_pages plan level (divided (fields_in plan level) entries) in
    let packing = c.loop-k.room.packer in
    let starts = c.loop-k.starts.items in
    let stop = c.in_err-make_room.field-0.0 in
    failed_as g.T.PageStore c.args.store.now c.make_room.new.store all c.from_residual-in_err-make_room.result stop
    c.from_residual-in_err-make_room.ensures.1
    (stopped c.put_laws.ensures plan level entries c.requires.level g.T.PageStore c.args.store.now
    c.loop-k.store packing starts c.loop-k.k c.loop-k.invariant c.make_room.new.store stop
    (room_failed g.T.PageStore plan level c.loop-k.k (fits_more packing c.record_size-size.result) c.loop-k.store
    c.make_room.new.store packing c.make_room.new.room.packer starts c.make_room.new.starts.items stop
    c.in_err-make_room.ensures))

pub loop-k-preserved : goal.loop-k-preserved
loop-k-preserved g c =
    let plan = c.args.tree.now in
    let level = c.args.level in
    let entries = g.E.Entries.entries c.args.entries.now in
    let fields = fields_in plan level in
    let k = c.loop-k.k in
    let packing = c.loop-k.room.packer in
    let starts = c.loop-k.starts.items in
    let old = c.args.store.now in
    let new = c.make_room.new.store in
    let next = c.make_room.new.room.packer in
    let more = c.make_room.new.starts.items in
    let parts = c.in_ok-parts.parts in
    let mark = c.is_minimum.result in
    let below : k < length entries = omega (arith, c.loop-k-test.true, c.count-k-end.ensures) in
    let list : c.fields_on-fields.result.now ≡ fields =
    c.fields_on-fields.ensures ∙ ap (fields_in plan) c.from.ensures in
    let size : c.record_size-size.result ≡ size_of_record fields (entry_at entries k) =
    c.record_size-size.ensures ∙ ap (λ (f : Fields). size_of_record f parts) list
    ∙ ap (size_of_record fields) c.in_ok-parts.ensures in
    let pushed : c.push.new.self ≡ with_record next fields (entry_at entries k) mark =
    c.push.ensures ∙ ap (λ (f : Fields). with_record next f parts mark) list
    ∙ ap (λ (entry : Entry). with_record next fields entry mark) c.in_ok-parts.ensures in
    let made = subst (λ n. MakesRoom g.T.PageStore plan level k (fits_more packing n) c.loop-k.store new packing next
    starts more (Ok tt)) size c.in_ok-make_room.ensures in
    subst (λ (p : Packing). Stands g.T.PageStore plan level old new p entries more (k + 1)) (sym pushed)
    (stands_next c.put_laws.ensures plan level entries c.requires.level g.T.PageStore old c.loop-k.store packing starts
    k
    c.loop-k.invariant below new next more mark c.is_minimum.ensures made)

pub overflow_cast-len : goal.overflow_cast-len
overflow_cast-len g c =
    let plan = c.args.tree.now in
    let level = c.args.level in
    let entries = g.E.Entries.entries c.args.entries.now in
    let starts = c.loop-k.starts.items in
    let len : c.len.result ≡ length starts = omega (arith, c.len.ensures, c.loop-k.starts.ok.0) in
    let low = page_low c.put_laws.ensures plan c.requires.level.is_plan level (length starts - 1)
    (page_there c.put_laws.ensures plan level entries c.requires.level g.T.PageStore c.args.store.now c.loop-k.store
    c.loop-k.room.packer starts c.loop-k.k c.loop-k.invariant) in
    omega arith

pub put_page-requires-clause-index : goal.put_page-requires-clause-index
put_page-requires-clause-index g c =
    subst (λ (spot : TreeSpot). spot.index < 16) (sym c.spot-spot.ensures)
    (spot_index c.args.tree.now c.requires.level.is_plan c.from-2.result (c.len.result - 1))

pub put_page-requires-clause-below : goal.put_page-requires-clause-below
put_page-requires-clause-below g c =
    let plan = c.args.tree.now in
    let level = c.args.level in
    let entries = g.E.Entries.entries c.args.entries.now in
    let starts = c.loop-k.starts.items in
    let stands = c.loop-k.invariant in
    let len : c.len.result ≡ length starts = omega (arith, c.len.ensures, c.loop-k.starts.ok.0) in
    subst (λ (spot : TreeSpot). CanPutAt g.T.PageStore c.loop-k.store spot.number)
    (sym (spot_is plan level c.from-2.result c.len.result (length starts) c.spot-spot.result c.spot-spot.ensures
    c.from-2.ensures len))
    (spot_below c.put_laws.ensures plan g.T.PageStore c.loop-k.store c.requires.level.is_plan
    (room_kept g.T.PageStore plan c.args.store.now c.loop-k.store (laid_pages plan level stands.closed) stands.put
    c.requires.room) level (length starts - 1)
    (page_there c.put_laws.ensures plan level entries c.requires.level g.T.PageStore c.args.store.now c.loop-k.store
    c.loop-k.room.packer starts c.loop-k.k stands))

pub returns-in_err-put_page-clause-puts : goal.returns-in_err-put_page-clause-puts
returns-in_err-put_page-clause-puts g c =
    let plan = c.args.tree.now in
    let level = c.args.level in
    let entries = g.E.Entries.entries c.args.entries.now in
    let all = laid_pages plan level (divided (fields_in plan level) entries) in
    let packing = c.loop-k.room.packer in
    let starts = c.loop-k.starts.items in
    let stop = c.in_err-put_page.field-0.0 in
    let len : c.len.result ≡ length starts = omega (arith, c.len.ensures, c.loop-k.starts.ok.0) in
    failed_as g.T.PageStore c.args.store.now c.put_page.new.store all c.from_residual-in_err-put_page.result stop
    c.from_residual-in_err-put_page.ensures.1
    (stopped c.put_laws.ensures plan level entries c.requires.level g.T.PageStore c.args.store.now c.loop-k.store
    packing
    starts c.loop-k.k c.loop-k.invariant c.put_page.new.store stop
    (put_at_spot g.T.PageStore plan level c.loop-k.store c.put_page.new.store packing starts c.spot-spot.result
    (Err stop)
    (spot_is plan level c.from-2.result c.len.result (length starts) c.spot-spot.result c.spot-spot.ensures
    c.from-2.ensures len) c.in_err-put_page.ensures.puts))

pub returns-clause-puts : goal.returns-clause-puts
returns-clause-puts g c =
    let plan = c.args.tree.now in
    let level = c.args.level in
    let entries = g.E.Entries.entries c.args.entries.now in
    let all = laid_pages plan level (divided (fields_in plan level) entries) in
    let packing = c.loop-k.room.packer in
    let starts = c.loop-k.starts.items in
    let new = c.put_page.new.store in
    let len : c.len.result ≡ length starts = omega (arith, c.len.ensures, c.loop-k.starts.ok.0) in
    puts_all g.T.PageStore c.args.store.now new all c.loop-k.starts
    (level_put c.put_laws.ensures plan level entries c.requires.level g.T.PageStore c.args.store.now c.loop-k.store
    packing
    starts c.loop-k.k c.loop-k.invariant new (omega (arith, c.loop-k-test.false, c.count-k-end.ensures))
    (all_put g.T.PageStore c.loop-k.store new (open_page plan level packing starts ∷ []) (tt {0})
    (put_at_spot g.T.PageStore plan level c.loop-k.store new packing starts c.spot-spot.result (Ok (tt {0}))
    (spot_is plan level c.from-2.result c.len.result (length starts) c.spot-spot.result c.spot-spot.ensures
    c.from-2.ensures len) c.in_ok-put_page.ensures.puts)))
