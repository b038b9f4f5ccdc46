use Rattle.std.proofs.Common.{◌≡◌, ◌∙◌, IfOk, ℕ, List, get_or, ap, subst, arith}
use Rattle.std.proofs.lemmas.List.{take_all}
use Rattle.tree_layout.specs.declared.cuts.Weight.{Weight}
use Rattle.tree_layout.specs.Counting.{Cutting, nothing_cut, one_more, cut_more, pages_of, level_above}
use Rattle.tree_layout.proofs.Counting.{even, cut_one_more}
use Rattle.tree_layout.proofs.cuts.level_above.Goals as goal

pub loop-k-preserved : goal.loop-k-preserved
loop-k-preserved c =
    let pages = c.args.pages.now in
    let k = c.loop-k.k in
    let w : Weight = record { size = get_or pages k 0; pointer = get_or pages k 0 } in
    c.in_ok-push.ensures.ok ∙ ap (λ (cut : Cutting). one_more cut w) c.loop-k.invariant
    ∙ cut_one_more pages k 0 (omega arith)

pub returns : goal.returns
unfolding level_above
returns c =
    let pages = c.args.pages.now in
    let all : c.loop-k.cut ≡ cut_more nothing_cut (even pages) =
    c.loop-k.invariant ∙ ap (λ (xs : List ℕ). cut_more nothing_cut (even xs)) (take_all c.loop-k.k pages (omega arith))
    in
    subst (λ (cut : Cutting). IfOk c.pages.result (λ above. above.items ≡ pages_of cut)) all c.pages.ensures
