use Rattle.std.proofs.Common.{ap, ◌∙◌, List, ℕ}
use Rattle.fil_frame.specs.Frame.{sealed}
use Rattle.fil_frame.specs.Kinds.{bitmap_kind}
use Rattle.space_layout.specs.HeadPages.{zeros, bitmap_page}
use Rattle.space_layout.proofs.heads.put_bitmap_page.Goals as goal

pub returns : goal.returns
unfolding zeros bitmap_page
returns c = c.seal.ensures.exact ∙ ap (λ (p : List ℕ). sealed p 1 1 1 bitmap_kind) c.clear.ensures
