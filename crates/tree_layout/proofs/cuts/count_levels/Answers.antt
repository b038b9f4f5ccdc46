use Rattle.std.proofs.Common.{◌≡◌, ◌≤◌, ◌<◌, ◌+◌, ◌-◌, ℕ, suc, [], ◌∷◌, ◌++◌, length, ap, ◌∙◌, arith}
use Rattle.std.proofs.Common.{Vec, Global}
use Rattle.tree_layout.specs.Counting.{level_above, counts_from}
use Rattle.tree_layout.proofs.Counting.{level_counted, no_level_left}
use Rattle.tree_layout.proofs.cuts.count_levels.Goals as goal
use Rattle.tree_layout.proofs.cuts.count_levels.Goals.{then-len-gt1+in_ok-push+in_ok-pages, else-len-gt1}

-- the counts so far, and the pages of the level that is next
items_same : (v w : Vec ℕ Global) → v ≡ w → v.items ≡ w.items
items_same v w same = ap (λ (x : Vec ℕ Global). x.items) same

pub loop-level-preserved : goal.loop-level-preserved
loop-level-preserved c =
    elim c.if-len-gt1.branch [
      | then-len-gt1+in_ok-push+in_ok-pages w ↦
          let size : w.len-then-len-gt1.result ≡ length c.loop-level.pages.items =
          omega (arith, w.len-then-len-gt1.ensures, c.loop-level.pages.ok.0) in
          let counts : c.if-len-gt1.counts.items ≡ c.loop-level.counts.items ++ length c.loop-level.pages.items ∷ [] =
          items_same c.if-len-gt1.counts w.push.new.self w.counts-is ∙ w.in_ok-push.ensures.items
          ∙ ap (λ n. c.loop-level.counts.items ++ n ∷ []) size in
          let pages : c.if-len-gt1.pages.items ≡ level_above c.loop-level.pages.items =
          items_same c.if-len-gt1.pages w.in_ok-pages.pages w.pages-is ∙ w.in_ok-pages.ensures
          ∙ ap level_above w.deref.ensures.value in
          let many : 1 < length c.loop-level.pages.items = omega (
            arith,
            w.if-len-gt1.true,
            c.len.ensures,
            c.loop-level.pages.ok.0,
          ) in
          let next : c.len-most.result - c.loop-level.level ≡ suc (c.len-most.result - (c.loop-level.level + 1)) =
          omega arith in
          ap (λ xs. xs ++ counts_from (c.len-most.result - (c.loop-level.level + 1)) c.if-len-gt1.pages.items) counts
          ∙ ap (λ ps. (c.loop-level.counts.items ++ length c.loop-level.pages.items ∷ [])
          ++ counts_from (c.len-most.result - (c.loop-level.level + 1)) ps) pages
          ∙ level_counted c.loop-level.counts.items
          (counts_from (length c.args.leaves.items) c.args.leaves.items) c.loop-level.pages.items
          (c.len-most.result - c.loop-level.level) (c.len-most.result - (c.loop-level.level + 1)) next many
          c.loop-level.invariant
      | else-len-gt1 w ↦
          let few : length c.loop-level.pages.items ≤ 1 = omega (
            arith,
            w.if-len-gt1.false,
            c.len.ensures,
            c.loop-level.pages.ok.0,
          ) in
          ap (λ xs. xs ++ counts_from (c.len-most.result - (c.loop-level.level + 1)) c.if-len-gt1.pages.items)
          (items_same c.if-len-gt1.counts c.loop-level.counts w.counts-is)
          ∙ ap (λ ps. c.loop-level.counts.items ++ counts_from (c.len-most.result - (c.loop-level.level + 1)) ps)
          (items_same c.if-len-gt1.pages c.loop-level.pages w.pages-is)
          ∙ no_level_left c.loop-level.counts.items
          (counts_from (length c.args.leaves.items) c.args.leaves.items) c.loop-level.pages.items
          (c.len-most.result - c.loop-level.level) (c.len-most.result - (c.loop-level.level + 1)) few
          c.loop-level.invariant
    ]
