use Rattle.std.proofs.Common.{◌∙◌, arith}
use Rattle.std.proofs.lemmas.Result.{err_from_is_err_and}
use Rattle.page_source.proofs.Told.{map_told, map_told2, map_told3, map_told4}
use Rattle.table_check.specs.Trees.{clustered_tree}
use Rattle.table_check.proofs.WholeSteps.{stops_in_audit, stops_in_trees, stops_in_values, breaks_unreached, all_hold}
use Rattle.table_check.proofs.WholeSteps.{live_count, deleted_count, takes_steps}
use Rattle.table_check.proofs.check_file.check_whole.Goals as goal

pub returns-in_err-space-clause-exact : goal.returns-in_err-space-clause-exact
returns-in_err-space-clause-exact g c =
    let r = err_from_is_err_and c.from_residual.result c.from_residual.ensures.1 in
    rw (r.1, r.2)
    (map_told (g.S.PageSource.content c.args.source.now)
    (λ file at. stops_in_audit file c.args.schema.now c.flags.result c.flags.ensures c.in_err-space.field-0.0 at)
    c.in_err-space.ensures.exact)

pub returns-in_err-trees-clause-exact : goal.returns-in_err-trees-clause-exact
returns-in_err-trees-clause-exact g c =
    let r = err_from_is_err_and c.from_residual-in_err-trees.result c.from_residual-in_err-trees.ensures.1 in
    let at = rw c.in_ok-space.ensures.over.same at c.in_err-trees.ensures.exact in
    rw (r.1, r.2)
    (map_told2 (g.S.PageSource.content c.args.source.now)
    (λ file audit at. stops_in_trees file c.args.schema.now c.flags.result c.flags.ensures audit
    c.in_err-trees.field-0.0 at)
    c.in_ok-space.ensures.exact at)

pub returns-in_err-trees-clause-steps : goal.returns-in_err-trees-clause-steps
returns-in_err-trees-clause-steps g c =
    let sized = c.in_ok-space.ensures.sized in
    takes_steps
    (map_told (g.S.PageSource.content c.args.source.now) (λ file audit. (c.size-pages.ensures.told file audit).within)
    c.in_ok-space.ensures.audited) c.size-pages.ensures.most
    (omega (arith, sized, c.in_err-trees.ensures.steps, c.size-pages.ensures.is))

pub returns-in_err-chain_pages-clause-exact : goal.returns-in_err-chain_pages-clause-exact
returns-in_err-chain_pages-clause-exact g c =
    let r = err_from_is_err_and c.from_residual-in_err-chain_pages.result
    c.from_residual-in_err-chain_pages.ensures.1 in
    let same = c.in_ok-space.ensures.over.same in
    let trees = rw same at c.in_ok-trees.ensures.exact in
    let at = rw (c.in_ok-trees.ensures.over.same ∙ same) at c.in_err-chain_pages.ensures.exact in
    rw (r.1, r.2)
    (map_told3 (g.S.PageSource.content c.args.source.now)
    (λ file audit trees at. stops_in_values file c.args.schema.now c.flags.result c.flags.ensures audit trees
    c.in_err-chain_pages.field-0.0 at)
    c.in_ok-space.ensures.exact trees at)

pub returns-in_err-chain_pages-clause-steps : goal.returns-in_err-chain_pages-clause-steps
returns-in_err-chain_pages-clause-steps g c =
    let sized = c.in_ok-space.ensures.sized in
    let leaves = c.in_ok-trees.ensures.leaves in
    takes_steps
    (map_told (g.S.PageSource.content c.args.source.now) (λ file audit. (c.size-pages.ensures.told file audit).within)
    c.in_ok-space.ensures.audited) c.size-pages.ensures.most
    (omega (
      arith,
      sized,
      leaves.fewer,
      leaves.cost,
      c.in_ok-trees.ensures.least,
      c.in_err-chain_pages.ensures.cost,
      c.size-pages.ensures.is,
    ))

pub returns-in_err-unreached-clause-exact : goal.returns-in_err-unreached-clause-exact
returns-in_err-unreached-clause-exact g c =
    let table = c.args.schema.now in
    let r = err_from_is_err_and c.from_residual-in_err-unreached.result c.from_residual-in_err-unreached.ensures.1 in
    let same = c.in_ok-space.ensures.over.same in
    let both = c.in_ok-trees.ensures.over.same ∙ same in
    let checks = rw same at c.in_ok-trees.ensures.exact in
    let trees = rw same at c.in_ok-trees.ensures.trees in
    let values = rw both at c.in_ok-chain_pages.ensures.exact in
    let reached = rw both at c.in_ok-chain_pages.ensures.reached in
    let content = g.S.PageSource.content c.args.source.now in
    let unreached = map_told3 content
    (λ file audit are marked. c.in_err-unreached.ensures.exact file table audit (c.deref.ensures.value
    ∙ are.has_leaves) marked)
    c.in_ok-space.ensures.audited trees reached in
    rw (r.1, r.2)
    (map_told4 content
    (λ file audit trees values at. breaks_unreached file table c.flags.result c.flags.ensures audit trees
    c.in_err-unreached.field-0.0 values at)
    c.in_ok-space.ensures.exact checks values unreached)

pub returns-in_err-unreached-clause-steps : goal.returns-in_err-unreached-clause-steps
returns-in_err-unreached-clause-steps g c =
    let sized = c.in_ok-space.ensures.sized in
    let leaves = c.in_ok-trees.ensures.leaves in
    let exactly = c.in_ok-chain_pages.ensures.exactly in
    let fewer = c.in_ok-chain_pages.ensures.fewer in
    takes_steps
    (map_told (g.S.PageSource.content c.args.source.now) (λ file audit. (c.size-pages.ensures.told file audit).within)
    c.in_ok-space.ensures.audited) c.size-pages.ensures.most
    (omega (
      arith,
      sized,
      leaves.fewer,
      leaves.cost,
      c.in_ok-trees.ensures.least,
      exactly,
      fewer,
      c.size-pages.ensures.is,
    ))

pub returns-clause-exact : goal.returns-clause-exact
returns-clause-exact g c =
    let table = c.args.schema.now in
    let same = c.in_ok-space.ensures.over.same in
    let both = c.in_ok-trees.ensures.over.same ∙ same in
    let checks = rw same at c.in_ok-trees.ensures.exact in
    let trees = rw same at c.in_ok-trees.ensures.trees in
    let values = rw both at c.in_ok-chain_pages.ensures.exact in
    let reached = rw both at c.in_ok-chain_pages.ensures.reached in
    let content = g.S.PageSource.content c.args.source.now in
    let unreached = map_told3 content
    (λ file audit are marked. c.in_ok-unreached.ensures.exact file table audit (c.deref.ensures.value
    ∙ are.has_leaves) marked)
    c.in_ok-space.ensures.audited trees reached in
    map_told4 content
    (λ file audit trees values rest. all_hold file table c.flags.result c.flags.ensures audit trees values rest)
    c.in_ok-space.ensures.exact checks values unreached

pub returns-clause-whole : goal.returns-clause-whole
returns-clause-whole g c =
    let table = c.args.schema.now in
    let same = c.in_ok-space.ensures.over.same in
    let both = c.in_ok-trees.ensures.over.same ∙ same in
    let trees = rw same at c.in_ok-trees.ensures.trees in
    let count = rw both at c.in_ok-chain_pages.ensures.count in
    let reached = rw both at c.in_ok-chain_pages.ensures.reached in
    map_told4 (g.S.PageSource.content c.args.source.now)
    (λ file audit are count marked. record {
      checked = record {
        is_checked = record {
          has_pages = c.size-pages.ensures.is ∙ audit.has_size;
          has_used = c.used_pages.ensures ∙ audit.has_used;
          has_rows = live_count (clustered_tree file table) c.in_ok-trees.trees.clustered are.has_clustered.has_ends;
          has_deleted = deleted_count
              (clustered_tree file table) c.in_ok-trees.trees.clustered are.has_clustered.has_ends;
          has_unreached = c.in_ok-unreached.ensures.count file table audit marked;
        };
        has_space = c.space_id.ensures.told file audit;
        within = (c.size-pages.ensures.told file audit).within;
        walked = are.has_clustered.walked;
        ends = are.has_clustered.has_ends;
        has_chain_pages = count;
      };
      ends = are.has_ends;
    })
    c.in_ok-space.ensures.audited trees count reached
