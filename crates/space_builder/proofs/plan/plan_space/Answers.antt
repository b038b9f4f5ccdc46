use Rattle.std.proofs.Common.{◌≡◌, ◌+◌, ◌<◌, ◌∙◌, ◌++◌, ◌∷◌, List, [], ℕ, length, ap, sym, subst, arith}
use Rattle.space_layout.specs.Numbers.{extents_needed}
use Rattle.space_builder.specs.declared.plan.IndexPages.{IndexPages}
use Rattle.space_builder.proofs.building.PlanSteps.{ArePlanned, none_planned, one_planned, all_planned, too_many}
use Rattle.space_builder.proofs.plan.plan_space.Goals as goal

pub loop-index-init : goal.loop-index-init
loop-index-init c =
    let table = c.args.schema.now in
    let stored = c.args.rows.now in
    subst (λ (list : List IndexPages). ArePlanned table stored 0 list c.new-sizes.result.items)
    (sym c.new-indexes.ensures.items)
    (subst (λ (list : List ℕ). ArePlanned table stored 0 [] list) (sym c.new-sizes.ensures.items)
    (none_planned table stored))

pub loop-index-preserved : goal.loop-index-preserved
loop-index-preserved c =
    let table = c.args.schema.now in
    let stored = c.args.rows.now in
    let index = c.loop-index.index in
    let pages = c.in_ok-pages.pages in
    subst (λ (list : List IndexPages). ArePlanned table stored (index + 1) list c.push-in-loop-index.new.self.items)
    (sym c.in_ok-push-3.ensures.items)
    (subst (λ (list : List ℕ). ArePlanned table stored (index + 1) (c.loop-index.indexes.items ++ pages ∷ []) list)
    (sym (c.in_ok-push-2.ensures.items ∙ ap (λ (list : List ℕ). list ++ pages.leaf ∷ []) c.in_ok-push.ensures.items))
    (one_planned table stored index c.loop-index.indexes.items c.loop-index.sizes.items pages c.loop-index.invariant
    c.in_ok-pages.ensures))

pub returns-then-extents_needed-gt256 : goal.returns-then-extents_needed-gt256
returns-then-extents_needed-gt256 c =
    let all : c.loop-index.index ≡ length c.args.schema.now.indexes =
    omega (
      arith,
      c.loop-index-test.false,
      c.loop-index.auto.index-end,
      ap length c.indexes-index-end.ensures.same,
    ) in
    too_many c.args.schema.now c.args.rows.now c.loop-index.index c.loop-index.indexes.items c.loop-index.sizes.items
    all c.loop-index.invariant
    (subst (λ (n : ℕ). 256 < n) (c.extents_needed.ensures ∙ ap extents_needed c.deref-2.ensures.value)
    c.if-extents_needed-gt256.true)

pub returns : goal.returns
returns c =
    let all : c.loop-index.index ≡ length c.args.schema.now.indexes =
    omega (
      arith,
      c.loop-index-test.false,
      c.loop-index.auto.index-end,
      ap length c.indexes-index-end.ensures.same,
    ) in
    all_planned c.args.schema.now c.args.rows.now c.loop-index.index _ all c.loop-index.invariant
    (omega (
      arith,
      c.if-extents_needed-gt256.false,
      c.extents_needed.ensures,
      ap extents_needed c.deref-2.ensures.value,
    ))
