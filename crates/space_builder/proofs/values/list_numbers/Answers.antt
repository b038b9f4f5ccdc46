use Rattle.std.proofs.Common.{◌+◌, ap, ◌++◌, ◌∷◌, [], sym, ◌∙◌, arith, List, ℕ}
use Rattle.std.proofs.lemmas.List.FromFn.{map-range_with_len_more}
use Rattle.space_layout.specs.Numbers.{segment_page}
use Rattle.space_builder.proofs.values.list_numbers.Goals as goal

pub loop-k-preserved : goal.loop-k-preserved
loop-k-preserved c =
    c.in_ok-push.ensures.items
    ∙ ap (λ (n : ℕ). c.loop-k.numbers.items ++ n ∷ []) c.segment_page.ensures
    ∙ ap (λ (ns : List ℕ). ns ++ segment_page c.args.sizes.now 1 (c.args.at + c.loop-k.k) ∷ []) c.loop-k.invariant
    ∙ sym (map-range_with_len_more (λ k. segment_page c.args.sizes.now 1 (c.args.at + k)) 0 c.loop-k.k c.loop-k.k
    (omega arith))
