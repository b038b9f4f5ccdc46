use Rattle.std.proofs.Common.{◌≡◌, ◌∙◌, ◌+◌, ◌-◌, ◌<◌, ◌≤◌, length, map, List, Ok, Err, ap, sym, subst, arith}
use Rattle.std.specs.List.{All}
use Rattle.page_packer.specs.Entries.{Entry}
use Rattle.tree_layout.specs.Division.{divided}
use Rattle.space_builder.specs.declared.built.PutStop.TheVariants as stops
use Rattle.space_builder.specs.declared.entries.Pointer.{Pointer}
use Rattle.space_builder.specs.build.Puts.{PutsPages}
use Rattle.space_builder.specs.calls.Pointing.{pointing, pointer_at, PointInto}
use Rattle.space_builder.specs.calls.TreePlan.{fields_in, laid_pages, tree_pages, BeginAt, CanPutLevel}
use Rattle.space_builder.proofs.Puts.{none_put, all_put, failed_as}
use Rattle.space_builder.proofs.TreeRuns.{pointers_above, entries_above, height_is, some_level, some_levels}
use Rattle.space_builder.proofs.TreeRuns.{firsts_count}
use Rattle.space_builder.proofs.TreeRuns.{into_leaves, upper_level, level_is, starts_point, leaves_are, level_behind}
use Rattle.space_builder.proofs.TreeRuns.{level_stopped, memory_below, first_stands, next_stands, tree_put}
use Rattle.space_builder.proofs.levels.put_tree.Goals as goal

pub returns-in_err-firsts : goal.returns-in_err-firsts
returns-in_err-firsts g c =
    let plan = c.args.tree.now in
    let leaves = g.E.Entries.entries c.args.entries.now in
    let old = c.args.store.now in
    let new = c.put_level.new.store in
    let stop = c.in_err-firsts.field-0.0 in
    failed_as g.T.PageStore old new (tree_pages plan leaves) c.from_residual.result stop c.from_residual.ensures.1
    (level_stopped c.put_laws.ensures plan leaves c.requires.tree g.T.PageStore old old new 0
    (divided (fields_in plan 0) leaves) stop (some_levels c.put_laws.ensures plan leaves c.requires.tree)
    (leaves_are c.put_laws.ensures plan leaves c.requires.tree) (none_put g.T.PageStore old)
    c.in_err-firsts.ensures.puts)

pub loop-level-init : goal.loop-level-init
loop-level-init g c =
    let plan = c.args.tree.now in
    let leaves = g.E.Entries.entries c.args.entries.now in
    let old = c.args.store.now in
    let new = c.put_level.new.store in
    first_stands c.put_laws.ensures plan leaves c.requires.tree g.T.PageStore old new c.in_ok-firsts.firsts.items
    (all_put g.T.PageStore old new (laid_pages plan 0 (divided (fields_in plan 0) leaves)) c.in_ok-firsts.firsts
    c.in_ok-firsts.ensures.puts) c.in_ok-firsts.ensures.begins

pub pointers_to-requires-clause-all : goal.pointers_to-requires-clause-all
pointers_to-requires-clause-all g c =
    let plan = c.args.tree.now in
    let leaves = g.E.Entries.entries c.args.entries.now in
    let level = c.loop-level.level in
    let low : 1 ≤ level = c.loop-level.auto.level in
    let inside : level < length plan.counts.now = c.loop-level-test.true in
    ap length c.deref.ensures.value
    ∙ firsts_count c.put_laws.ensures plan leaves c.requires.tree (level - 1) (omega arith) c.loop-level.firsts.items
    (c.loop-level.invariant.begin (omega arith))

pub returns-in_err-pointers : goal.returns-in_err-pointers
returns-in_err-pointers g c =
    let plan = c.args.tree.now in
    let leaves = g.E.Entries.entries c.args.entries.now in
    let level = c.loop-level.level in
    let inside : level < length plan.counts.now = c.loop-level-test.true in
    let height = height_is c.put_laws.ensures plan leaves c.requires.tree in
    failed_as g.T.PageStore c.args.store.now c.loop-level.store (tree_pages plan leaves)
    c.from_residual-in_err-pointers.result stops.Memory c.from_residual-in_err-pointers.ensures.1
    (memory_below c.put_laws.ensures plan leaves c.requires.tree g.T.PageStore c.args.store.now c.loop-level.store level
    (omega arith) c.loop-level.invariant.put)

pub new-above-requires : goal.new-above-requires
new-above-requires g c =
    let plan = c.args.tree.now in
    let leaves = g.E.Entries.entries c.args.entries.now in
    let level = c.loop-level.level in
    let firsts = c.loop-level.firsts.items in
    let pointers = c.in_ok-pointers.pointers.items in
    let above = pointers_above g.T.PageStore plan leaves c.args.store.now c.loop-level.store firsts c.deref.result.now
    pointers level c.loop-level.auto.level c.loop-level-test.true c.loop-level.invariant c.deref.ensures.value
    c.in_ok-pointers.ensures in
    subst (PointInto leaves) (sym c.deref-in-loop-level.ensures.value)
    (into_leaves c.put_laws.ensures plan leaves c.requires.tree (level - 1) firsts pointers above)

pub put_level-requires-in-loop-level-clause-level : goal.put_level-requires-in-loop-level-clause-level
put_level-requires-in-loop-level-clause-level g c =
    let plan = c.args.tree.now in
    let leaves = g.E.Entries.entries c.args.entries.now in
    let level = c.loop-level.level in
    let low : 1 ≤ level = c.loop-level.auto.level in
    let firsts = c.loop-level.firsts.items in
    let pointers = c.in_ok-pointers.pointers.items in
    let above = pointers_above g.T.PageStore plan leaves c.args.store.now c.loop-level.store firsts c.deref.result.now
    pointers level c.loop-level.auto.level c.loop-level-test.true c.loop-level.invariant c.deref.ensures.value
    c.in_ok-pointers.ensures in
    let entries = entries_above leaves c.keys-keys.result plan.node.now.keys c.deref-in-loop-level.result.now pointers
    c.new-above.result c.new-above.ensures c.keys-keys.ensures c.deref-in-loop-level.ensures.value in
    subst (CanPutLevel plan level) (sym entries)
    (upper_level c.put_laws.ensures plan leaves c.requires.tree (level - 1) firsts pointers above level (omega arith))

pub returns-in_err-starts : goal.returns-in_err-starts
returns-in_err-starts g c =
    let plan = c.args.tree.now in
    let leaves = g.E.Entries.entries c.args.entries.now in
    let level = c.loop-level.level in
    let low : 1 ≤ level = c.loop-level.auto.level in
    let inside : level < length plan.counts.now = c.loop-level-test.true in
    let height = height_is c.put_laws.ensures plan leaves c.requires.tree in
    let firsts = c.loop-level.firsts.items in
    let pointers = c.in_ok-pointers.pointers.items in
    let stop = c.in_err-starts.field-0.0 in
    let now = c.loop-level.store in
    let new = c.put_level-in-loop-level.new.store in
    let above = pointers_above g.T.PageStore plan leaves c.args.store.now now firsts c.deref.result.now pointers level
    c.loop-level.auto.level c.loop-level-test.true c.loop-level.invariant c.deref.ensures.value c.in_ok-pointers.ensures
    in
    let entries = entries_above leaves c.keys-keys.result plan.node.now.keys c.deref-in-loop-level.result.now pointers
    c.new-above.result c.new-above.ensures c.keys-keys.ensures c.deref-in-loop-level.ensures.value in
    failed_as g.T.PageStore c.args.store.now new (tree_pages plan leaves) c.from_residual-in_err-starts.result stop
    c.from_residual-in_err-starts.ensures.1
    (level_stopped c.put_laws.ensures plan leaves c.requires.tree g.T.PageStore c.args.store.now now new level
    (divided (fields_in plan level) (map (pointing plan.node.now.keys leaves) pointers)) stop (omega arith)
    (level_is c.put_laws.ensures plan leaves c.requires.tree (level - 1) firsts pointers above level (omega arith))
    c.loop-level.invariant.put
    (subst (λ (entries : List Entry). PutsPages g.T.PageStore now new
    (laid_pages plan level (divided (fields_in plan level) entries)) (Err stop)) entries c.in_err-starts.ensures.puts))

pub firsts_of-requires : goal.firsts_of-requires
firsts_of-requires g c =
    let plan = c.args.tree.now in
    let leaves = g.E.Entries.entries c.args.entries.now in
    let level = c.loop-level.level in
    let low : 1 ≤ level = c.loop-level.auto.level in
    let firsts = c.loop-level.firsts.items in
    let pointers = c.in_ok-pointers.pointers.items in
    let starts = c.in_ok-starts.starts.items in
    let above = pointers_above g.T.PageStore plan leaves c.args.store.now c.loop-level.store firsts c.deref.result.now
    pointers level c.loop-level.auto.level c.loop-level-test.true c.loop-level.invariant c.deref.ensures.value
    c.in_ok-pointers.ensures in
    let entries = entries_above leaves c.keys-keys.result plan.node.now.keys c.deref-in-loop-level.result.now pointers
    c.new-above.result c.new-above.ensures c.keys-keys.ensures c.deref-in-loop-level.ensures.value in
    subst (λ (xs : List Pointer). All (λ s. s < length xs) c.deref-in-loop-level-3.result.now)
    (sym c.deref-in-loop-level-2.ensures.value)
    (subst (All (λ s. s < length pointers)) (sym c.deref-in-loop-level-3.ensures.value)
    (starts_point c.put_laws.ensures plan leaves c.requires.tree (level - 1) firsts pointers above level starts
    (omega arith)
    (subst (λ (entries : List Entry). BeginAt entries (divided (fields_in plan level) entries) starts) entries
    c.in_ok-starts.ensures.begins)))

pub returns-in_err-firsts-2 : goal.returns-in_err-firsts-2
returns-in_err-firsts-2 g c =
    let plan = c.args.tree.now in
    let leaves = g.E.Entries.entries c.args.entries.now in
    let level = c.loop-level.level in
    let low : 1 ≤ level = c.loop-level.auto.level in
    let inside : level < length plan.counts.now = c.loop-level-test.true in
    let height = height_is c.put_laws.ensures plan leaves c.requires.tree in
    let firsts = c.loop-level.firsts.items in
    let pointers = c.in_ok-pointers.pointers.items in
    let now = c.loop-level.store in
    let new = c.put_level-in-loop-level.new.store in
    let above = pointers_above g.T.PageStore plan leaves c.args.store.now now firsts c.deref.result.now pointers level
    c.loop-level.auto.level c.loop-level-test.true c.loop-level.invariant c.deref.ensures.value c.in_ok-pointers.ensures
    in
    let entries = entries_above leaves c.keys-keys.result plan.node.now.keys c.deref-in-loop-level.result.now pointers
    c.new-above.result c.new-above.ensures c.keys-keys.ensures c.deref-in-loop-level.ensures.value in
    let pages = divided (fields_in plan level) (map (pointing plan.node.now.keys leaves) pointers) in
    failed_as g.T.PageStore c.args.store.now new (tree_pages plan leaves) c.from_residual-in_err-firsts-2.result
    stops.Memory c.from_residual-in_err-firsts-2.ensures.1
    (memory_below c.put_laws.ensures plan leaves c.requires.tree g.T.PageStore c.args.store.now new (level + 1)
    (omega arith)
    (level_behind c.put_laws.ensures plan leaves c.requires.tree g.T.PageStore c.args.store.now now new level pages
    (omega arith)
    (level_is c.put_laws.ensures plan leaves c.requires.tree (level - 1) firsts pointers above level (omega arith))
    c.loop-level.invariant.put
    (all_put g.T.PageStore now new (laid_pages plan level pages) c.in_ok-starts.starts
    (subst (λ (entries : List Entry). PutsPages g.T.PageStore now new
    (laid_pages plan level (divided (fields_in plan level) entries)) (Ok c.in_ok-starts.starts)) entries
    c.in_ok-starts.ensures.puts))))

pub loop-level-preserved : goal.loop-level-preserved
loop-level-preserved g c =
    let plan = c.args.tree.now in
    let leaves = g.E.Entries.entries c.args.entries.now in
    let level = c.loop-level.level in
    let low : 1 ≤ level = c.loop-level.auto.level in
    let firsts = c.loop-level.firsts.items in
    let pointers = c.in_ok-pointers.pointers.items in
    let starts = c.in_ok-starts.starts.items in
    let more = c.in_ok-firsts-2.firsts.items in
    let now = c.loop-level.store in
    let new = c.put_level-in-loop-level.new.store in
    let above = pointers_above g.T.PageStore plan leaves c.args.store.now now firsts c.deref.result.now pointers level
    c.loop-level.auto.level c.loop-level-test.true c.loop-level.invariant c.deref.ensures.value c.in_ok-pointers.ensures
    in
    let entries = entries_above leaves c.keys-keys.result plan.node.now.keys c.deref-in-loop-level.result.now pointers
    c.new-above.result c.new-above.ensures c.keys-keys.ensures c.deref-in-loop-level.ensures.value in
    let pages = divided (fields_in plan level) (map (pointing plan.node.now.keys leaves) pointers) in
    next_stands c.put_laws.ensures plan leaves c.requires.tree g.T.PageStore c.args.store.now (level - 1) firsts
    pointers
    above level (omega arith) now new starts more c.loop-level.invariant.put
    (all_put g.T.PageStore now new (laid_pages plan level pages) c.in_ok-starts.starts
    (subst (λ (entries : List Entry). PutsPages g.T.PageStore now new
    (laid_pages plan level (divided (fields_in plan level) entries)) (Ok c.in_ok-starts.starts)) entries
    c.in_ok-starts.ensures.puts))
    (subst (λ (entries : List Entry). BeginAt entries (divided (fields_in plan level) entries) starts) entries
    c.in_ok-starts.ensures.begins)
    (c.in_ok-firsts-2.ensures
    ∙ ap (λ (xs : List Pointer). map (λ s. (pointer_at xs s).first) c.deref-in-loop-level-3.result.now)
    c.deref-in-loop-level-2.ensures.value
    ∙ ap (map (λ s. (pointer_at pointers s).first)) c.deref-in-loop-level-3.ensures.value)

pub returns : goal.returns
returns g c =
    let plan = c.args.tree.now in
    let leaves = g.E.Entries.entries c.args.entries.now in
    let level = c.loop-level.level in
    let some = some_level c.put_laws.ensures plan leaves c.requires.tree in
    let most = c.loop-level.auto.level-end (omega arith) in
    let is : level ≡ length plan.counts.now = omega (arith, c.loop-level-test.false) in
    tree_put c.put_laws.ensures plan leaves c.requires.tree g.T.PageStore c.args.store.now c.loop-level.store
    c.loop-level.firsts.items level is c.loop-level.invariant
