use Rattle.std.proofs.Common.{refl, sym, arith, ◌∙◌, length, map, take, drop, List, ℕ, ◌≡◌, ◌++◌, ap, subst, ◌%◌, ◌^◌}
use Rattle.std.proofs.lemmas.List.{length-map}
use Rattle.std.specs.List.Sorted.{IsPermutation}
use Rattle.key_ranks.proofs.RankSteps.{rows_in_order, written_over}
use Rattle.key_ranks.proofs.ranks.order_by_ranks.Goals as goal

pub returns : goal.returns
returns g c =
    let ranks = c.in-Some.ranks in
    let sorted = c.sort.new.ranks in
    let stripped = c.strip.new.ranks in
    let row : ℕ → ℕ = λ rank. rank % 2 ^ 24 in
    let places : IsPermutation ranks.items sorted =
    subst (λ (list : List ℕ). IsPermutation list sorted) c.deref_mut.ensures.value c.sort.ensures.places in
    let size : length sorted ≡ length ranks.items = c.sort.auto.ranks ∙ ap length c.deref_mut.ensures.value in
    let held : List ℕ = take ranks.len (sorted ++ drop (length sorted) ranks.items) in
    let holds : held ≡ sorted =
    written_over ranks.items sorted ranks.len (omega (arith, ranks.ok)) size in
    let rows : stripped ≡ map row sorted =
    c.strip.ensures ∙ ap (map row) (c.deref_mut-3.ensures.value ∙ holds) in
    let count : length held ≡ length sorted = ap length holds in
    let over : take ranks.len (stripped ++ drop (length stripped) held) ≡ stripped =
    written_over held stripped ranks.len (omega (arith, ranks.ok, size, count))
    (ap length rows ∙ length-map sorted row ∙ sym count) in
    rows_in_order (g.K.RowKeys.table c.args.keys.now) ranks.items sorted _ c.args.count
    (rw c.in-Some.is at c.in_ok-ranks.ensures.rows) places (c.if-not-sort.ensures.order refl) (over ∙ rows)
