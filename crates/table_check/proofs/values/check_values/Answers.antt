use Rattle.std.proofs.Common.{None, refl, ap, length, sym}
use Rattle.std.proofs.lemmas.Result.{err_from_is_err_and}
use Rattle.page_source.proofs.Told.{map_told, map_told2}
use Rattle.table_check.proofs.LeafPass.{can_take, pass_stops}
use Rattle.table_check.proofs.TreeSteps.{values_checked, values_stop}
use Rattle.table_check.specs.Trees.{clustered_tree}
use Rattle.table_check.proofs.WholeRows.{values_hold, values_none, values_reached}
use Rattle.table_check.proofs.values.check_values.Goals as goal

pub returns-in_err-check_rows-clause-exact : goal.returns-in_err-check_rows-clause-exact
returns-in_err-check_rows-clause-exact g c =
    let r = err_from_is_err_and c.from_residual-in_err-check_rows.result c.from_residual-in_err-check_rows.ensures.1 in
    rw (r.1, r.2)
    (map_told2 (g.S.PageSource.content c.args.source.now)
    (λ file exactly at. values_stop file c.args.schema.now c.args.marks.now exactly c.in_err-check_rows.field-0.0 at)
    c.requires.trees c.in_err-check_rows.ensures.checks.exact)

pub returns-clause-exact : goal.returns-clause-exact
returns-clause-exact g c =
    map_told2 (g.S.PageSource.content c.args.source.now)
    (λ file exactly check. values_checked file c.args.schema.now c.args.marks.now exactly None check)
    c.requires.trees c.in_ok-check_rows.ensures.checks.exact

pub pass_leaves-requires-clause-reads : goal.pass_leaves-requires-clause-reads
pass_leaves-requires-clause-reads g c =
    map_told (g.S.PageSource.content c.args.source.now)
    (λ file is. can_take file c.args.schema.now c.in_ok-cursor.cursor.leaf c.in_ok-cursor.cursor.last is.walked
    (c.in_ok-cursor.ensures.taken (clustered_tree file c.args.schema.now) is.has_ends))
    c.requires.clustered

pub returns-in_err-pass_leaves-clause-exact : goal.returns-in_err-pass_leaves-clause-exact
returns-in_err-pass_leaves-clause-exact g c =
    let r =
    err_from_is_err_and c.from_residual-in_err-pass_leaves.result c.from_residual-in_err-pass_leaves.ensures.1 in
    rw (r.1, r.2)
    (map_told2 (g.S.PageSource.content c.args.source.now)
    (λ file is passes. pass_stops file c.args.schema.now
    (Unit {0}) c.in_err-pass_leaves.field-0.0 c.in_ok-cursor.cursor.leaf
    c.pass_leaves.new.cursor.leaf c.in_ok-cursor.cursor.last passes is.walked
    (c.in_ok-cursor.ensures.taken (clustered_tree file c.args.schema.now) is.has_ends))
    c.requires.clustered c.in_err-pass_leaves.ensures.exact)

pub returns-then-can_skip_values-clause-exact : goal.returns-then-can_skip_values-clause-exact
returns-then-can_skip_values-clause-exact g c =
    let found = c.if-can_skip_values.ensures refl in
    map_told (g.S.PageSource.content c.args.source.now)
    (λ file is. values_hold file c.args.schema.now c.args.clustered.now c.in_ok-fields.fields c.rows_can_be_read.ensures
    is found.0 c.in_ok-fields.ensures.value found.1)
    c.requires.clustered

pub returns-then-can_skip_values-clause-count : goal.returns-then-can_skip_values-clause-count
returns-then-can_skip_values-clause-count g c =
    let found = c.if-can_skip_values.ensures refl in
    map_told (g.S.PageSource.content c.args.source.now)
    (λ file is. sym (ap length (values_none file c.args.schema.now c.args.clustered.now c.in_ok-fields.fields
    c.rows_can_be_read.ensures is found.0 c.in_ok-fields.ensures.value found.1)))
    c.requires.clustered

pub returns-then-can_skip_values-clause-reached : goal.returns-then-can_skip_values-clause-reached
returns-then-can_skip_values-clause-reached g c =
    let found = c.if-can_skip_values.ensures refl in
    map_told2 (g.S.PageSource.content c.args.source.now)
    (λ file is exactly. values_reached file c.args.schema.now c.args.clustered.now c.in_ok-fields.fields
    c.rows_can_be_read.ensures is found.0 c.in_ok-fields.ensures.value found.1 c.args.marks.now exactly)
    c.requires.clustered c.requires.trees
