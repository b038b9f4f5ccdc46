use Rattle.std.proofs.Common.{◌≡◌, List, ℕ, refl, sym, ◌∙◌}
use Rattle.page_source.proofs.Told.{map_told}
use Rattle.space_audit.proofs.PageFrames.{inode_page_checks, inode_page_kind}
use Rattle.space_audit.proofs.frames.find_kind.Goals as goal

pub returns-then-is_inode_page-clause-exact : goal.returns-then-is_inode_page-clause-exact
returns-then-is_inode_page-clause-exact g c =
    map_told (g.S.PageSource.content c.args.source.now) (λ file h.
    inode_page_checks file c.args.n c.args.inodes.now h.read.inodes_are h.read.inodes_sound
    (sym c.is_inode_page.ensures ∙ c.if-is_inode_page.true))
    c.requires.told

pub returns-then-is_inode_page-clause-kind : goal.returns-then-is_inode_page-clause-kind
returns-then-is_inode_page-clause-kind g c =
    map_told (g.S.PageSource.content c.args.source.now) (λ file h.
    inode_page_kind file c.args.n c.args.inodes.now h.read.inodes_are h.read.inodes_sound
    (sym c.is_inode_page.ensures ∙ c.if-is_inode_page.true))
    c.requires.told
