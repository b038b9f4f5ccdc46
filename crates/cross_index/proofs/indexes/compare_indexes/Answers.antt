use Rattle.std.proofs.Common.{◌≡◌, ℕ, ◌<◌, length, ap, ◌∙◌, arith}
use Rattle.std.proofs.lemmas.Result.{err_from_is_err_and}
use Rattle.page_source.proofs.Told.{map_told, map_told2, map_told3}
use Rattle.table_check.specs.Trees.{index_count}
use Rattle.cross_index.proofs.AllSteps.{cost_more, matched_more, ends_here, all_matched}
use Rattle.cross_index.proofs.Named.{secondary_named}
use Rattle.cross_index.proofs.indexes.compare_indexes.Goals as goal

pub returns-in_err-here-clause-exact : goal.returns-in_err-here-clause-exact
returns-in_err-here-clause-exact g c =
    let i = c.loop-index.invariant in
    let inside : c.loop-index.index < index_count c.args.schema.now =
    omega (arith, c.loop-index-test.true, ap length c.indexes-index-end.ensures.same) in
    let here = rw i.same at c.in_err-here.ensures.exact in
    let r = err_from_is_err_and c.from_residual.result c.from_residual.ensures.1 in
    rw (r.1, r.2)
    (map_told2 (g.S.PageSource.content c.args.source.now)
    (λ file so exact. ends_here file c.args.schema.now c.loop-index.index c.loop-index.entries c.in_err-here.field-0.0
    i.some inside so exact)
    i.told here)

pub loop-index-preserved : goal.loop-index-preserved
loop-index-preserved g c =
    let i = c.loop-index.invariant in
    let inside : c.loop-index.index < index_count c.args.schema.now =
    omega (arith, c.loop-index-test.true, ap length c.indexes-index-end.ensures.same) in
    let most = c.indexes-index-end.ensures.table.indexes in
    let here = rw i.same at c.in_ok-here.ensures.exact in
    let few = rw i.same at c.in_ok-here.ensures.few in
    record {
      some = omega (arith, i.some);
      same = c.in_ok-here.ensures.over.same ∙ i.same;
      later = omega (arith, i.later, c.in_ok-here.ensures.over.later);
      asked = omega (arith, i.asked, c.in_ok-here.ensures.over.asked);
      cost = cost_more c.args.ends.now c.items-all.result.now c.loop-index.index _ _ c.loop-index.steps
          c.compare_index.new.steps c.items-all.ensures (omega (arith, inside, c.requires.count)) i.cost
          c.in_ok-here.ensures.cost;
      told =
          map_told3 (g.S.PageSource.content c.args.source.now)
          (λ file so compares few. matched_more file c.args.schema.now c.loop-index.index c.loop-index.entries
          c.in_ok-here.here c.saturating_add-entries.result i.some (omega (arith, inside, most)) so compares few
          c.saturating_add-entries.ensures)
          i.told here few;
    }

pub returns-clause-exact : goal.returns-clause-exact
returns-clause-exact g c =
    let all : c.loop-index.index ≡ index_count c.args.schema.now =
    omega (
      arith,
      c.loop-index-test.false,
      c.loop-index.auto.index-end,
      ap length c.indexes-index-end.ensures.same,
      c.indexes-index-end.ensures.table.clustered,
    ) in
    map_told (g.S.PageSource.content c.args.source.now)
    (λ file so. all_matched file c.args.schema.now c.loop-index.index c.loop-index.entries all so)
    c.loop-index.invariant.told

pub returns-in_err-here-clause-named : goal.returns-in_err-here-clause-named
returns-in_err-here-clause-named g c =
    let inside : c.loop-index.index < index_count c.args.schema.now =
    omega (arith, c.loop-index-test.true, ap length c.indexes-index-end.ensures.same) in
    let r = err_from_is_err_and c.from_residual.result c.from_residual.ensures.1 in
    rw (r.1, r.2)
    (secondary_named ℕ ℕ c.args.schema.now c.loop-index.index c.in_err-here.field-0.0 c.loop-index.invariant.some inside
    c.in_err-here.ensures.named)
