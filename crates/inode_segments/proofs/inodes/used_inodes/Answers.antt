use Rattle.std.proofs.Common.{◌≡◌, ◌∷◌, [], length, length-append, ap, sym, ◌∙◌, arith}
use Rattle.inode_segments.proofs.Used.{used_before, used_before-none, used_before-all, used_one, unused_one}
use Rattle.inode_segments.proofs.inodes.used_inodes.Goals as goal
use Rattle.inode_segments.proofs.inodes.used_inodes.Goals.{then-is_used, else-is_used}

pub loop-k-init : goal.loop-k-init
loop-k-init c = (sym (ap length (used_before-none c.args.page.now)), omega arith)

pub loop-k-preserved : goal.loop-k-preserved
loop-k-preserved c =
    let page = c.args.page.now in
    let k = c.loop-k.k in
    let so_far = c.loop-k.invariant in
    elim c.if-is_used.branch [
      | then-is_used w ↦
          let more = used_one page k (sym c.is_used.ensures ∙ w.if-is_used.true) in (
            omega (arith, w.count-is, so_far.0, ap length more, length-append (used_before page k) (k ∷ [])),
            omega (arith, w.count-is, so_far.1),
          )
      | else-is_used w ↦
          let more = unused_one page k (sym c.is_used.ensures ∙ w.if-is_used.false) in
          (w.count-is ∙ so_far.0 ∙ sym (ap length more), omega (arith, w.count-is, so_far.1))
    ]

pub returns : goal.returns
returns c =
    let all : c.loop-k.k ≡ 85 = omega arith in
    c.loop-k.invariant.0 ∙ ap (λ k. length (used_before c.args.page.now k)) all
    ∙ ap length (used_before-all c.args.page.now)
