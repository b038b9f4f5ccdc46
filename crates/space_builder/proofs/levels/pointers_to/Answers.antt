use Rattle.std.proofs.Common.{◌∙◌, ◌++◌, ◌∷◌, [], List, map, slice_index, ap, sym, arith}
use Rattle.std.specs.List.{range_with_len}
use Rattle.std.proofs.lemmas.List.FromFn.{map-range_with_len_more}
use Rattle.space_builder.specs.declared.entries.Pointer.{Pointer}
use Rattle.space_builder.specs.calls.TreePlan.{pointer_in, number_in}
use Rattle.space_builder.proofs.levels.pointers_to.Goals as goal

pub loop-k-preserved : goal.loop-k-preserved
loop-k-preserved c =
    let plan = c.args.tree.now in
    let firsts = c.args.firsts.now in
    let k = c.loop-k.k in
    let level = c.args.level in
    let so_far = map (pointer_in plan level firsts) (range_with_len 0 k) in
    c.in_ok-push.ensures.items
    ∙ ap (λ (xs : List Pointer). xs ++ record { first = slice_index firsts k; page = c.number.result } ∷ [])
    c.loop-k.invariant
    ∙ ap (λ n. so_far ++ record { first = slice_index firsts k; page = n } ∷ [])
    (c.number.ensures ∙ ap (λ l. number_in plan l k) c.from-in-loop-k.ensures)
    ∙ sym (map-range_with_len_more (pointer_in plan level firsts) 0 k k (omega arith))
