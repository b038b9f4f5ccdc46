use Rattle.std.proofs.Common.{◌≡◌, ◌+◌, ◌-◌, ◌^◌, ◌<◌, ◌∙◌, List, ℕ, min, ap, sym, subst}
use Rattle.std.proofs.lemmas.Result.{err_from_is_err_and}
use Rattle.tree_layout.specs.Places.{top_size, leaf_size}
use Rattle.space_builder.specs.calls.Plan.{HasTreeCounts}
use Rattle.space_builder.proofs.building.PlanSteps.{full_or_memory, wide_level, wide_top, wide_leaf, pages_found}
use Rattle.space_builder.proofs.plan.index_pages.Goals as goal

pub returns-in_err-levels : goal.returns-in_err-levels
returns-in_err-levels c =
    let levels = c.deref.result.now in
    let have = subst (HasTreeCounts c.args.schema.now c.args.rows.now c.args.index) (sym c.deref.ensures.value)
    c.in_ok-counts.ensures in
    let r = err_from_is_err_and c.from_residual-in_err-levels.result c.from_residual-in_err-levels.ensures.1 in
    rw (r.1, r.2)
    (full_or_memory c.args.schema.now c.args.rows.now c.args.index c.in_err-levels.field-0.0
    (λ full. wide_level c.laws_below.ensures c.args.schema.now c.args.rows.now c.args.index c.args.values
    c.requires.index c.requires.values levels have
    (c.in_err-levels.ensures.full (cc))))

pub returns-in_err-top : goal.returns-in_err-top
returns-in_err-top c =
    let levels = c.deref.result.now in
    let have = subst (HasTreeCounts c.args.schema.now c.args.rows.now c.args.index) (sym c.deref.ensures.value)
    c.in_ok-counts.ensures in
    let top : c.top_size.result ≡ top_size levels =
    c.top_size.ensures ∙ ap (λ (list : List ℕ). top_size list) (c.deref-2.ensures.value ∙ c.in_ok-levels.ensures.same)
    in
    let r = err_from_is_err_and c.from_residual-in_err-top.result c.from_residual-in_err-top.ensures.1 in
    rw (r.1, r.2)
    (full_or_memory c.args.schema.now c.args.rows.now c.args.index c.in_err-top.field-0.0
    (λ full. wide_top c.laws_below.ensures c.args.schema.now c.args.rows.now c.args.index c.args.values
    c.requires.index c.requires.values levels have
    (subst (λ (n : ℕ). 16416 < n) top c.in_err-top.ensures.full)))

pub returns-in_err-leaf : goal.returns-in_err-leaf
returns-in_err-leaf c =
    let levels = c.deref.result.now in
    let have = subst (HasTreeCounts c.args.schema.now c.args.rows.now c.args.index) (sym c.deref.ensures.value)
    c.in_ok-counts.ensures in
    let leaf : c.saturating_add.result ≡ min (leaf_size levels + c.args.values) (2 ^ 64 - 1) =
    c.saturating_add.ensures ∙ ap (λ (n : ℕ). min (n + c.args.values) (2 ^ 64 - 1))
    (c.leaf_size.ensures
    ∙ ap (λ (list : List ℕ). leaf_size list) (c.deref-3.ensures.value ∙ c.in_ok-levels.ensures.same)) in
    let r = err_from_is_err_and c.from_residual-in_err-leaf.result c.from_residual-in_err-leaf.ensures.1 in
    rw (r.1, r.2)
    (full_or_memory c.args.schema.now c.args.rows.now c.args.index c.in_err-leaf.field-0.0
    (λ full. wide_leaf c.laws_below.ensures c.args.schema.now c.args.rows.now c.args.index c.args.values
    c.requires.index c.requires.values levels have
    c.saturating_add.result leaf c.in_err-leaf.ensures.full))

pub returns : goal.returns
returns c =
    let levels = c.deref.result.now in
    let have = subst (HasTreeCounts c.args.schema.now c.args.rows.now c.args.index) (sym c.deref.ensures.value)
    c.in_ok-counts.ensures in
    let top : c.top_size.result ≡ top_size levels =
    c.top_size.ensures ∙ ap (λ (list : List ℕ). top_size list) (c.deref-2.ensures.value ∙ c.in_ok-levels.ensures.same)
    in
    let leaf : c.saturating_add.result ≡ min (leaf_size levels + c.args.values) (2 ^ 64 - 1) =
    c.saturating_add.ensures ∙ ap (λ (n : ℕ). min (n + c.args.values) (2 ^ 64 - 1))
    (c.leaf_size.ensures
    ∙ ap (λ (list : List ℕ). leaf_size list) (c.deref-3.ensures.value ∙ c.in_ok-levels.ensures.same)) in
    pages_found c.laws_below.ensures c.args.schema.now c.args.rows.now c.args.index c.args.values
    c.requires.index c.requires.values levels have _
    c.in_ok-levels.ensures.same (c.in_ok-top.ensures.ok.0 ∙ top) (c.in_ok-leaf.ensures.ok.0 ∙ leaf)
    c.in_ok-leaf.ensures.ok.1
