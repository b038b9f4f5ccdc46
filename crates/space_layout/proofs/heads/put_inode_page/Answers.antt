use Rattle.std.proofs.Common.{ap, ◌∙◌, List, ℕ, ◌≡◌, length}
use Rattle.page_source.specs.Pages.{with_bytes}
use Rattle.fil_frame.specs.Frame.{sealed}
use Rattle.fil_frame.specs.Kinds.{inode_kind}
use Rattle.space_header.specs.Writing.{node_bytes}
use Rattle.space_layout.specs.Fields.{lone_node}
use Rattle.space_layout.specs.HeadPages.{zeros, inode_page}
use Rattle.space_layout.specs.calls.Written.{with_inodes}
use Rattle.space_layout.proofs.HeadWrites.{all_inodes}
use Rattle.space_layout.proofs.heads.put_inode_page.Goals as goal

cleared : (c : goal.After-seal) → c.clear.new.self ≡ zeros
unfolding zeros
cleared c = c.clear.ensures

pub returns : goal.returns
unfolding inode_page
returns c =
    let sizes = c.args.sizes.now in
    let made = with_bytes zeros 38 (node_bytes lone_node) in
    let written : c.write_node.new.page ≡ made =
    c.write_node.ensures.exact ∙ ap (λ (p : List ℕ). with_bytes p 38 (node_bytes lone_node)) (cleared c) in
    c.seal.ensures.exact
    ∙ ap (λ (p : List ℕ). sealed p 2 1 1 inode_kind)
    (c.put_inodes.ensures ∙ ap (λ (p : List ℕ). with_inodes p sizes (length sizes)) written
    ∙ all_inodes made sizes)
