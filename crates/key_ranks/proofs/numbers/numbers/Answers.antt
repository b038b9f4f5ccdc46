use Rattle.std.proofs.Common.{List, ℕ, ◌++◌, ◌∷◌, [], ap, sym, ◌∙◌}
use Rattle.page_source.proofs.Members.{range_more}
use Rattle.key_ranks.proofs.numbers.numbers.Goals as goal

pub loop-i-preserved : goal.loop-i-preserved
loop-i-preserved c =
    c.in_ok-push.ensures.items ∙ ap (λ (list : List ℕ). list ++ c.loop-i.i ∷ []) c.loop-i.invariant
    ∙ sym (range_more c.loop-i.i)
