use Rattle.std.proofs.Common.{◌∙◌, sym, ap, List, ℕ, [], ◌∷◌, ◌++◌}
use Rattle.sample_table.proofs.MakingSteps.{letters_none, letters_more}
use Rattle.sample_table.proofs.row.letters.Goals as goal

pub loop-i-init : goal.loop-i-init
loop-i-init c = c.new-text.ensures ∙ sym letters_none

pub loop-i-preserved : goal.loop-i-preserved
loop-i-preserved c =
    c.in_ok-push.ensures.ok
    ∙ ap (λ (xs : List ℕ). xs ++ 110 ∷ []) c.loop-i.invariant ∙ letters_more c.loop-i._i
