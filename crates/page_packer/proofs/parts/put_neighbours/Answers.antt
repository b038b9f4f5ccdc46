use Rattle.std.proofs.Common.{ℕ, ap, ◌∙◌}
use Rattle.page_source.specs.Pages.{be_bytes, with_bytes}
use Rattle.page_packer.proofs.FinishSteps.{neighbours_put}
use Rattle.page_packer.proofs.parts.put_neighbours.Goals as goal

pub returns : goal.returns
returns c =
    neighbours_put c.clear.new.self c.write_be.new.page c.write_be-2.new.page c.args.prev c.args.next c.clear.ensures
    (c.write_be.ensures.others ∙ ap (λ (n : ℕ). with_bytes c.clear.new.self 8 (be_bytes 4 n)) c.from.ensures)
    (c.write_be-2.ensures.others ∙ ap (λ (n : ℕ). with_bytes c.write_be.new.page 12 (be_bytes 4 n)) c.from-2.ensures)
