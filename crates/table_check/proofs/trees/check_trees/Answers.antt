use Rattle.std.proofs.Common.{Some, None, inr}
use Rattle.std.proofs.lemmas.Result.{err_from_is_err_and}
use Rattle.page_source.proofs.Told.{if_told, map_told3, map_told4}
use Rattle.table_check.proofs.TreeSteps.{none_taken, named_checked}
use Rattle.table_check.proofs.trees.check_trees.Goals as goal

pub walk_indexes-requires-clause-told : goal.walk_indexes-requires-clause-told
walk_indexes-requires-clause-told g c =
    if_told (g.S.PageSource.content c.args.source.now)
    (λ file. none_taken file c.args.schema.now
    (record { pages = c.in_ok-pages.pages; segments = c.in_ok-segments.segments }) c.size.result c.segment_count.result
    c.in_ok-pages.ensures c.in_ok-segments.ensures)

pub returns-in_err-check_named-clause-exact : goal.returns-in_err-check_named-clause-exact
returns-in_err-check_named-clause-exact g c =
    let r = err_from_is_err_and c.from_residual-in_err-check_named.result
    c.from_residual-in_err-check_named.ensures.1 in
    rw (r.1, r.2)
    (map_told3 (g.S.PageSource.content c.args.source.now)
    (λ file audit trees are. inr (
      trees,
      named_checked file c.args.schema.now c.walk_indexes.new.taken.segments c.args.space.now.segments
          audit.has_segments are.are_taken.segments (Some c.in_err-check_named.field-0.0) c.in_err-check_named.ensures,
    ))
    c.requires.audit c.in_ok-clustered.ensures.exact c.in_ok-clustered.ensures.walked)

pub returns-clause-exact : goal.returns-clause-exact
returns-clause-exact g c =
    map_told3 (g.S.PageSource.content c.args.source.now)
    (λ file audit trees are. (
      trees,
      named_checked file c.args.schema.now c.walk_indexes.new.taken.segments c.args.space.now.segments
          audit.has_segments are.are_taken.segments None c.in_ok-check_named.ensures,
    ))
    c.requires.audit c.in_ok-clustered.ensures.exact c.in_ok-clustered.ensures.walked

pub returns-clause-trees : goal.returns-clause-trees
returns-clause-trees g c =
    map_told4 (g.S.PageSource.content c.args.source.now)
    (λ file audit trees are ends. record {
      sound = trees;
      named = named_checked file c.args.schema.now c.walk_indexes.new.taken.segments c.args.space.now.segments
          audit.has_segments are.are_taken.segments None c.in_ok-check_named.ensures;
      pages = are.are_taken.pages;
      has_clustered = are.has_clustered;
      has_leaves = are.has_leaves;
      has_ends = ends;
    })
    c.requires.audit c.in_ok-clustered.ensures.exact c.in_ok-clustered.ensures.walked c.in_ok-clustered.ensures.ends
