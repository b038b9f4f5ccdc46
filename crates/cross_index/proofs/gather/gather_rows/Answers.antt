use Rattle.std.proofs.Common.{List, ℕ, Ok, Err, Some, None, ◌≡◌, ◌∙◌, ap, sym, refl, subst, length}
use Rattle.std.proofs.Common.{arith}
use Rattle.std.specs.Prelude.{⊤}
use Rattle.std.proofs.lemmas.Result.{err_from_is_err_and}
use Rattle.std.proofs.lemmas.Bool.{true≢false}
use Rattle.page_source.proofs.Told.{map_told, map_told2, map_told3, map_told4, map_told5}
use Rattle.column_values.specs.Types.{Fields, AreFields}
use Rattle.compact_record.specs.declared.places.Place.{Place}
use Rattle.compact_record.specs.Reading.{places_of, field_count}
use Rattle.compact_record.proofs.KeySteps.{count_of_places}
use Rattle.schema_text.specs.IndexFields.{leaf_fields}
use Rattle.tree_walk.specs.Records.{IsRecord}
use Rattle.cross_index.proofs.GatherSteps.{gather_start, can_give, finds, halts_so, row_readable, can_gather}
use Rattle.cross_index.proofs.GatherSteps.{gather_more, gather_all}
use Rattle.cross_index.proofs.KeptPages.{kept_below}
use Rattle.cross_index.proofs.Named.{rows_name, row_names}
use Rattle.cross_index.proofs.gather.gather_rows.Goals as goal

pub loop-origin-init : goal.loop-origin-init
loop-origin-init g c = record {
  same = refl;
  later = omega arith;
  asked = omega arith;
  goes_on = c.requires.goes_on;
  members = refl;
  spent = refl;
  counted = omega arith;
  told = map_told (g.S.PageSource.content c.args.source.now)
      (λ file can. gather_start file c.args.schema.now c.args.rows.now c.args.cells.now c.args.room.now.left
      c.requires.empty can)
      c.requires.told;
}

pub next-requires-clause-reads : goal.next-requires-clause-reads
next-requires-clause-reads g c =
    rw c.loop-origin.invariant.same
    (map_told2 (g.S.PageSource.content c.args.source.now)
    (λ file can so. can_give file c.args.schema.now c.loop-origin.rows c.args.rows.now c.loop-origin.cells
    c.args.room.now.left c.loop-origin.room.left c.loop-origin.count can so)
    c.requires.told c.loop-origin.invariant.told)

pub returns-in_err-origin-clause-exact : goal.returns-in_err-origin-clause-exact
returns-in_err-origin-clause-exact g c =
    let i = c.loop-origin.invariant in
    let found = rw i.same at c.in_err-origin.ensures.exact in
    let r = err_from_is_err_and c.from_residual.result c.from_residual.ensures.1 in
    rw (r.1, r.2)
    (map_told3 (g.S.PageSource.content c.args.source.now)
    (λ file can so exact. halts_so file c.args.schema.now c.loop-origin.count c.next.new.self c.in_err-origin.field-0.0
    (finds file c.args.schema.now c.loop-origin.rows c.next.new.self c.args.rows.now c.loop-origin.cells
    c.args.room.now.left c.loop-origin.room.left c.loop-origin.count (Err c.in_err-origin.field-0.0) exact can so))
    c.requires.told i.told found)

pub returns-then-not-read_row-clause-exact : goal.returns-then-not-read_row-clause-exact
returns-then-not-read_row-clause-exact g c =
    let i = c.loop-origin.invariant in
    let found = rw (c.in-Some.is, i.same) at c.in_ok-origin.ensures.exact in
    map_told3 (g.S.PageSource.content c.args.source.now)
    (λ file can so exact.
    let given = finds file c.args.schema.now c.loop-origin.rows c.next.new.self c.args.rows.now c.loop-origin.cells
    c.args.room.now.left c.loop-origin.room.left c.loop-origin.count (Ok (Some c.in-Some.origin)) exact can so in
    let readable = row_readable c.rows_can_be_read.ensures file c.args.schema.now c.next.new.self.leaf
    c.page-page.result.now c.args.fields.now c.in-Some.origin c.loop-origin.count c.requires.list c.page-page.ensures
    can.walked given.0 in
    absurd (true≢false (sym (c.read_row.ensures.readable readable.spelled readable.ends) ∙ c.if-not-read_row.true)))
    c.requires.told i.told found

pub gather_row-requires-clause-inside : goal.gather_row-requires-clause-inside
gather_row-requires-clause-inside g c =
    let placed = c.places.ensures ∙ c.read_row.ensures.places c.if-not-read_row.false in
    let count = ap (λ (ps : List Place). length ps) placed
    ∙ count_of_places c.page-page.result.now c.in-Some.origin c.args.fields.now
    ∙ ap field_count c.requires.list in
    rw c.requires.kept
    (λ n d inside. omega (arith, count, kept_below c.args.schema.now n d inside))

pub gather_row-requires-clause-told : goal.gather_row-requires-clause-told
gather_row-requires-clause-told g c =
    let i = c.loop-origin.invariant in
    let found = rw (c.in-Some.is, i.same) at c.in_ok-origin.ensures.exact in
    let placed : c.places.result.now ≡ places_of c.page-page.result.now c.in-Some.origin (leaf_fields
    c.args.schema.now 0) =
    c.places.ensures ∙ c.read_row.ensures.places c.if-not-read_row.false
    ∙ ap (places_of c.page-page.result.now c.in-Some.origin) c.requires.list in
    rw (c.in_ok-origin.ensures.over.same ∙ i.same)
    (map_told4 (g.S.PageSource.content c.args.source.now)
    (λ file can few so exact.
    let given = finds file c.args.schema.now c.loop-origin.rows c.next.new.self c.args.rows.now c.loop-origin.cells
    c.args.room.now.left c.loop-origin.room.left c.loop-origin.count (Ok (Some c.in-Some.origin)) exact can so in
    let readable = row_readable c.rows_can_be_read.ensures file c.args.schema.now c.next.new.self.leaf
    c.page-page.result.now c.args.fields.now c.in-Some.origin c.loop-origin.count c.requires.list c.page-page.ensures
    can.walked given.0 in
    can_gather c.has_one_chain.ensures c.chain_goes_on.ensures file c.args.schema.now c.args.rows.now can
    (subst AreFields c.requires.list c.requires.are) c.next.new.self.leaf c.page-page.result.now c.in-Some.origin
    c.loop-origin.count given.0 c.page-page.ensures
    (subst (λ (f : Fields). IsRecord c.page-page.result.now f c.in-Some.origin) c.requires.list readable)
    c.places.result.now c.args.kept.now c.loop-origin.rows c.loop-origin.cells c.args.room.now.left
    c.loop-origin.room.left placed c.requires.kept few so)
    c.requires.told c.requires.few i.told found)

pub overflow_add-count : goal.overflow_add-count
overflow_add-count g c =
    let fewer = rw c.in-Some.is at c.in_ok-origin.ensures.fewer in
    omega (arith, fewer, c.loop-origin.invariant.counted, c.requires.most)

pub loop-origin-preserved : goal.loop-origin-preserved
loop-origin-preserved g c =
    let i = c.loop-origin.invariant in
    let both = c.in_ok-origin.ensures.over.same ∙ i.same in
    let found = rw (c.in-Some.is, i.same) at c.in_ok-origin.ensures.exact in
    let fewer = rw c.in-Some.is at c.in_ok-origin.ensures.fewer in
    let row_values = rw both at c.in_ok-gather_row.ensures.values in
    let left = rw both at c.in_ok-gather_row.ensures.left in
    let placed : c.places.result.now ≡ places_of c.page-page.result.now c.in-Some.origin (leaf_fields
    c.args.schema.now 0) =
    c.places.ensures ∙ c.read_row.ensures.places c.if-not-read_row.false
    ∙ ap (places_of c.page-page.result.now c.in-Some.origin) c.requires.list in
    record {
      same = c.in_ok-gather_row.ensures.over.same ∙ both;
      later = omega (arith, i.later, c.in_ok-origin.ensures.over.cause.later, c.in_ok-gather_row.ensures.over.later);
      asked = omega (arith, i.asked, c.in_ok-origin.ensures.over.asked, c.in_ok-gather_row.ensures.over.asked);
      goes_on = rw c.in-Some.is at c.in_ok-origin.ensures.goes_on;
      members = c.read_row.ensures.members ∙ i.members;
      spent = omega (arith, i.spent, c.in_ok-origin.ensures.steps, c.in_ok-gather_row.ensures.cost);
      counted = omega (arith, fewer, i.counted);
      told =
          map_told5 (g.S.PageSource.content c.args.source.now)
          (λ file can so exact row_values left.
          let given = finds file c.args.schema.now c.loop-origin.rows c.next.new.self c.args.rows.now
          c.loop-origin.cells
          c.args.room.now.left c.loop-origin.room.left c.loop-origin.count (Ok (Some c.in-Some.origin)) exact can so in
          let readable = row_readable c.rows_can_be_read.ensures file c.args.schema.now c.next.new.self.leaf
          c.page-page.result.now c.args.fields.now c.in-Some.origin c.loop-origin.count c.requires.list
          c.page-page.ensures
          can.walked given.0 in
          gather_more c.has_one_chain.ensures c.chain_goes_on.ensures file c.args.schema.now c.args.rows.now can
          (subst AreFields c.requires.list c.requires.are) c.next.new.self.leaf c.page-page.result.now c.in-Some.origin
          c.loop-origin.count given.0 c.page-page.ensures
          (subst (λ (f : Fields). IsRecord c.page-page.result.now f c.in-Some.origin) c.requires.list readable)
          c.places.result.now c.args.kept.now c.loop-origin.rows c.next.new.self c.loop-origin.cells
          c.gather_row.new.cells c.args.room.now.left c.loop-origin.room.left c.gather_row.new.room.left placed
          c.requires.kept so given.1 row_values left)
          c.requires.told i.told found row_values left;
    }

pub returns-clause-gathered : goal.returns-clause-gathered
returns-clause-gathered g c =
    let i = c.loop-origin.invariant in
    let found = rw (c.in_default.is, i.same) at c.in_ok-origin.ensures.exact in
    map_told3 (g.S.PageSource.content c.args.source.now)
    (λ file can so exact.
    let past = finds file c.args.schema.now c.loop-origin.rows c.next.new.self c.args.rows.now c.loop-origin.cells
    c.args.room.now.left c.loop-origin.room.left c.loop-origin.count (Ok None) exact can so in
    gather_all file c.args.schema.now c.loop-origin.rows c.loop-origin.cells c.args.room.now.left
    c.loop-origin.room.left c.loop-origin.count so past)
    c.requires.told i.told found

pub returns-in_err-origin-clause-broken : goal.returns-in_err-origin-clause-broken
returns-in_err-origin-clause-broken g c =
    let r = err_from_is_err_and c.from_residual.result c.from_residual.ensures.1 in
    rw (r.1, r.2)
    (rows_name ℕ c.next.new.self c.in_err-origin.field-0.0 (λ fault is. c.in_err-origin.ensures.broken fault (cc)))

pub returns-in_err-gather_row-clause-broken : goal.returns-in_err-gather_row-clause-broken
returns-in_err-gather_row-clause-broken g c =
    let r = err_from_is_err_and c.from_residual-in_err-gather_row.result c.from_residual-in_err-gather_row.ensures.1 in
    rw (r.1, r.2) (row_names ⊤ ℕ c.next.new.self c.in_err-gather_row.field-0.0 c.in_err-gather_row.ensures.broken)
