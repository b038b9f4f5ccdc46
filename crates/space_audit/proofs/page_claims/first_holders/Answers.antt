use Rattle.std.proofs.Common.{◌≡◌, ◌∷◌, [], ◌++◌, cond, map, ap, sym, ◌∙◌, arith}
use Rattle.std.specs.List.{range_with_len}
use Rattle.std.proofs.lemmas.List.FromFn.{map-range_with_len_more}
use Rattle.space_audit.specs.Holders.{first_holder, inode_holder, no_holder}
use Rattle.space_audit.proofs.page_claims.first_holders.Goals.{then-is_inode_page, else-is_inode_page}
use Rattle.space_audit.proofs.page_claims.first_holders.Goals as goal

pub loop-n-preserved : goal.loop-n-preserved
loop-n-preserved c =
    let n = c.loop-n.n in
    let first = first_holder c.args.inodes.now.pages in
    let one : c.if-is_inode_page.holder ≡ first n = elim c.if-is_inode_page.branch [
      | then-is_inode_page w ↦
          w.holder-is ∙ sym (ap (λ b. cond b inode_holder no_holder) (sym c.is_inode_page.ensures
          ∙ w.if-is_inode_page.true))
      | else-is_inode_page w ↦
          w.holder-is ∙ sym (ap (λ b. cond b inode_holder no_holder) (sym c.is_inode_page.ensures
          ∙ w.if-is_inode_page.false))
    ] in
    c.in_ok-push.ensures.items
    ∙ (ap (λ xs. xs ++ c.if-is_inode_page.holder ∷ []) c.loop-n.invariant
    ∙ (ap (λ k. map first (range_with_len 0 n) ++ k ∷ []) one
    ∙ sym (map-range_with_len_more first 0 n n (omega arith))))
