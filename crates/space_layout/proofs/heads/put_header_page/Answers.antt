use Rattle.std.proofs.Common.{ap, ◌∙◌, List, ℕ, ◌≡◌}
use Rattle.fil_frame.specs.Frame.{sealed}
use Rattle.fil_frame.specs.Kinds.{header_kind}
use Rattle.space_header.specs.declared.header.SpaceHeader.{SpaceHeader}
use Rattle.space_header.specs.Writing.{with_header}
use Rattle.space_layout.specs.Numbers.{extents_needed}
use Rattle.space_layout.specs.Fields.{header}
use Rattle.space_layout.specs.HeadPages.{zeros, header_page}
use Rattle.space_layout.specs.calls.Written.{with_descriptors}
use Rattle.space_layout.proofs.HeadWrites.{all_descriptors}
use Rattle.space_layout.proofs.heads.put_header_page.Goals as goal

cleared : (c : goal.After-seal) → c.clear.new.self ≡ zeros
unfolding zeros
cleared c = c.clear.ensures

pub returns : goal.returns
unfolding header_page
returns c =
    let sizes = c.args.sizes.now in
    let made = with_header zeros (header sizes c.args.flags) in
    let written : c.write.new.page ≡ made =
    c.write.ensures.exact ∙ ap (λ (x : SpaceHeader). with_header c.clear.new.self x) c.header.ensures
    ∙ ap (λ (p : List ℕ). with_header p (header sizes c.args.flags)) (cleared c) in
    c.seal.ensures.exact
    ∙ ap (λ (p : List ℕ). sealed p 0 1 1 header_kind)
    (c.put_descriptors.ensures ∙ ap (λ (p : List ℕ). with_descriptors p sizes (extents_needed sizes)) written
    ∙ all_descriptors made sizes)
