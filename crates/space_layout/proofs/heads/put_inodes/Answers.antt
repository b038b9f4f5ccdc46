use Rattle.std.proofs.Common.{◌≡◌, ◌+◌, ◌*◌, length, ap, refl, sym, ◌∙◌}
use Rattle.page_source.specs.Pages.{with_bytes}
use Rattle.inode_segments.specs.declared.inode.Inode.{Inode}
use Rattle.inode_segments.specs.Writing.{inode_bytes}
use Rattle.space_layout.proofs.HeadWrites.{no_inodes, one_inode}
use Rattle.space_layout.proofs.heads.put_inodes.Goals as goal

pub loop-s-init : goal.loop-s-init
loop-s-init c = sym (no_inodes c.args.page.now c.args.sizes.now)

pub loop-s-preserved : goal.loop-s-preserved
loop-s-preserved c =
    let size : length c.args.page.now ≡ 16384 = ap length (sym c.bytes.ensures.same) ∙ c.bytes.ensures.size in
    let few = c.requires.few in
    c.write_inode.ensures.exact
    ∙ ap (λ (x : Inode). with_bytes c.loop-s.page (50 + 192 * c.loop-s.s) (inode_bytes x)) c.inode-inode.ensures
    ∙ one_inode c.args.page.now c.args.sizes.now c.loop-s.page c.loop-s.s (50 + 192 * c.loop-s.s) c.requires size
    c.loop-s-test.true refl c.loop-s.invariant
