use Rattle.std.proofs.Common.{List, ℕ, Ok, Err, Some, None, ◌∙◌, sym, subst, length}
use Rattle.std.proofs.Common.{arith}
use Rattle.std.proofs.lemmas.Result.{err_from_is_err_and}
use Rattle.std.proofs.lemmas.Bool.{true≢false}
use Rattle.page_source.proofs.Told.{map_told2, map_told3}
use Rattle.column_values.specs.Types.{Fields}
use Rattle.compact_record.specs.Reading.{key_kinds}
use Rattle.schema_text.specs.IndexFields.{leaf_fields}
use Rattle.tree_walk.specs.Records.{IsRecord}
use Rattle.cross_index.proofs.EntrySteps.{can_give, finds, halts_so, ends_so, meets_on, meets_so, kept_size}
use Rattle.cross_index.proofs.EntrySteps.{order_below}
use Rattle.cross_index.proofs.EntrySteps.{entry_readable}
use Rattle.cross_index.proofs.Named.{halt_names, meet_names, end_names}
use Rattle.cross_index.proofs.entries.compare_entries.Goals as goal

pub next-requires-clause-reads : goal.next-requires-clause-reads
next-requires-clause-reads g c =
    rw c.loop-origin.invariant.same
    (map_told2 (g.S.PageSource.content c.args.source.now)
    (λ file can has. can_give file c.args.schema.now c.args.asked.now.index c.loop-origin.entries c.args.entries.now _ _
    c.loop-origin.next can has)
    c.requires.told c.loop-origin.invariant.told)

pub returns-in_err-origin-clause-exact : goal.returns-in_err-origin-clause-exact
returns-in_err-origin-clause-exact g c =
    let i = c.loop-origin.invariant in
    let found = rw i.same at c.in_err-origin.ensures.exact in
    let r = err_from_is_err_and c.from_residual.result c.from_residual.ensures.1 in
    rw (r.1, r.2)
    (map_told3 (g.S.PageSource.content c.args.source.now)
    (λ file can has exact.
    halts_so file c.args.schema.now c.args.asked.now.index c.loop-origin.next c.next.new.self c.in_err-origin.field-0.0
    (finds file c.args.schema.now c.args.asked.now.index c.loop-origin.entries c.next.new.self c.args.entries.now _ _
    c.loop-origin.next (Err c.in_err-origin.field-0.0) exact can has))
    c.requires.told i.told found)

pub returns-then-not-read_entry-clause-exact : goal.returns-then-not-read_entry-clause-exact
returns-then-not-read_entry-clause-exact g c =
    let i = c.loop-origin.invariant in
    let found = rw (c.in-Some.is, i.same) at c.in_ok-origin.ensures.exact in
    map_told3 (g.S.PageSource.content c.args.source.now)
    (λ file can has exact.
    let hand = (finds file c.args.schema.now c.args.asked.now.index c.loop-origin.entries c.next.new.self
    c.args.entries.now _ _ c.loop-origin.next (Ok (Some c.in-Some.origin)) exact can has).0 in
    let readable = entry_readable file c.args.schema.now c.args.asked.now.index c.next.new.self.leaf c.loop-origin.next
    c.in-Some.origin hand c.rows_can_be_read.ensures can.walked in
    let here : IsRecord c.page-page.result.now c.args.asked.now.keys.fields.now c.in-Some.origin =
    subst (λ (f : Fields). IsRecord c.page-page.result.now f c.in-Some.origin) (sym c.requires.list)
    (subst (λ (page : List ℕ). IsRecord page (leaf_fields c.args.schema.now c.args.asked.now.index) c.in-Some.origin)
    (sym c.page-page.ensures) readable) in
    absurd (true≢false (sym (c.read_entry.ensures.readable here.spelled here.ends) ∙ c.if-not-read_entry.true)))
    c.requires.told i.told found

pub returns-in_err-meet-clause-exact : goal.returns-in_err-meet-clause-exact
returns-in_err-meet-clause-exact g c =
    let i = c.loop-origin.invariant in
    let fields = c.args.asked.now.keys.fields.now in
    let index = c.args.asked.now.index in
    let found = rw (c.in-Some.is, i.same) at c.in_ok-origin.ensures.exact in
    let size = kept_size c.args.asked.now.keys.cells.now c.args.asked.now.keys.width c.args.asked.now.keys.slots.now
    (length c.args.asked.now.order.now) in
    let read = c.read_entry.ensures.read c.if-not-read_entry.false in
    let r = err_from_is_err_and c.from_residual-in_err-meet.result c.from_residual-in_err-meet.ensures.1 in
    rw (r.1, r.2)
    (map_told3 (g.S.PageSource.content c.args.source.now)
    (λ file can has exact.
    let given = finds file c.args.schema.now index c.loop-origin.entries c.next.new.self
    c.args.entries.now _ _ c.loop-origin.next (Ok (Some c.in-Some.origin)) exact can has in
    meets_so file c.args.schema.now index fields _ c.args.asked.now.order.now c.args.entries.now c.loop-origin.entries
    c.loop-origin.next c.requires.list c.requires.order size can has c.next.new.self.leaf c.page-page.result.now
    c.number-number.result c.in-Some.origin c.read_entry.new.located c.places.result.now c.places.ensures given.0
    c.page-page.ensures
    c.number-number.ensures read c.in_err-meet.field-0.0 c.in_err-meet.ensures)
    c.requires.told i.told found)

pub loop-origin-preserved : goal.loop-origin-preserved
loop-origin-preserved g c =
    let i = c.loop-origin.invariant in
    let fields = c.args.asked.now.keys.fields.now in
    let index = c.args.asked.now.index in
    let found = rw (c.in-Some.is, i.same) at c.in_ok-origin.ensures.exact in
    let size = kept_size c.args.asked.now.keys.cells.now c.args.asked.now.keys.width c.args.asked.now.keys.slots.now
    (length c.args.asked.now.order.now) in
    let read = c.read_entry.ensures.read c.if-not-read_entry.false in
    record {
      same = c.in_ok-origin.ensures.over.same ∙ i.same;
      later = omega (arith, i.later, c.in_ok-origin.ensures.over.cause.later);
      asked = omega (arith, i.asked, c.in_ok-origin.ensures.over.asked);
      goes_on = rw c.in-Some.is at c.in_ok-origin.ensures.goes_on;
      room = c.read_entry.ensures.members ∙ i.room;
      spent = c.in_ok-origin.ensures.steps ∙ i.spent;
      few = omega (arith, c.in_ok-meet.ensures.0);
      told =
          map_told3 (g.S.PageSource.content c.args.source.now)
          (λ file can has exact.
          let given = finds file c.args.schema.now index c.loop-origin.entries c.next.new.self
          c.args.entries.now _ _ c.loop-origin.next (Ok (Some c.in-Some.origin)) exact can has in
          meets_on file c.args.schema.now index fields _ c.args.asked.now.order.now c.args.entries.now
          c.loop-origin.entries c.loop-origin.next c.requires.list c.requires.order size can has
          c.next.new.self.leaf c.page-page.result.now c.number-number.result c.in-Some.origin
          c.read_entry.new.located c.places.result.now c.places.ensures given.0 c.page-page.ensures
          c.number-number.ensures read c.next.new.self c.in_ok-meet.ensures given.1)
          c.requires.told i.told found;
    }

pub end-requires : goal.end-requires
end-requires g c = record {
  below = order_below (key_kinds c.args.asked.now.keys.fields.now) c.args.asked.now.keys.cells.now
      c.args.asked.now.keys.width c.args.asked.now.keys.slots.now c.args.asked.now.order.now c.requires.order;
}

pub returns-clause-exact : goal.returns-clause-exact
returns-clause-exact g c =
    let i = c.loop-origin.invariant in
    let found = rw (c.in_default.is, i.same) at c.in_ok-origin.ensures.exact in
    map_told3 (g.S.PageSource.content c.args.source.now)
    (λ file can has exact.
    ends_so file c.args.schema.now c.args.asked.now.index c.args.asked.now.keys.fields.now _ c.args.asked.now.order.now
    c.args.entries.now c.loop-origin.entries c.loop-origin.next c.requires.list c.requires.order
    (kept_size c.args.asked.now.keys.cells.now c.args.asked.now.keys.width c.args.asked.now.keys.slots.now
    (length c.args.asked.now.order.now)) can has c.end.result c.end.ensures
    (finds file c.args.schema.now c.args.asked.now.index c.loop-origin.entries c.next.new.self c.args.entries.now _ _
    c.loop-origin.next (Ok None) exact can has))
    c.requires.told i.told found

pub returns-in_err-origin-clause-named : goal.returns-in_err-origin-clause-named
returns-in_err-origin-clause-named g c =
    let r = err_from_is_err_and c.from_residual.result c.from_residual.ensures.1 in
    rw (r.1, r.2)
    (halt_names c.args.asked.now.index (length c.args.asked.now.order.now) c.next.new.self c.in_err-origin.field-0.0
    (λ fault is. c.in_err-origin.ensures.broken fault (cc)))

pub returns-in_err-meet-clause-named : goal.returns-in_err-meet-clause-named
returns-in_err-meet-clause-named g c =
    let order = c.args.asked.now.order.now in
    let r = err_from_is_err_and c.from_residual-in_err-meet.result c.from_residual-in_err-meet.ensures.1 in
    rw (r.1, r.2)
    (meet_names c.args.asked.now.index (length order) c.next.new.self order c.loop-origin.next
    (order_below (key_kinds c.args.asked.now.keys.fields.now) c.args.asked.now.keys.cells.now
    c.args.asked.now.keys.width c.args.asked.now.keys.slots.now order c.requires.order c.loop-origin.next 0)
    _ _ _ c.number-number.result c.in_err-meet.field-0.0 c.number-number.ensures c.in_err-meet.ensures)

pub returns-clause-named : goal.returns-clause-named
returns-clause-named g c =
    let order = c.args.asked.now.order.now in
    end_names c.args.asked.now.index (length order) c.next.new.self order c.loop-origin.next
    (order_below (key_kinds c.args.asked.now.keys.fields.now) c.args.asked.now.keys.cells.now
    c.args.asked.now.keys.width c.args.asked.now.keys.slots.now order c.requires.order c.loop-origin.next 0)
    c.end.result c.end.ensures
