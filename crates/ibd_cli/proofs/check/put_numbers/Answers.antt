use Rattle.std.proofs.Common.{◌∙◌, List, ℕ, codes, subst}
use Rattle.page_source.specs.Calls.{Puts}
use Rattle.command_line.specs.Lines.{counted}
use Rattle.ibd_cli.proofs.Joined.{joined_all}
use Rattle.ibd_cli.proofs.check.put_numbers.Goals as goal

pub returns : goal.returns
returns g c =
    let n = c.args.checked.now in
    let put = rw (
      c.as_slice.ensures,
      c.as_bytes.ensures.value ∙ c.format.ensures.text,
      c.as_bytes-2.ensures.value ∙ c.format-2.ensures.text,
      c.as_bytes-3.ensures.value ∙ c.format-3.ensures.text,
      c.as_bytes-4.ensures.value ∙ c.format-4.ensures.text,
      c.as_bytes-5.ensures.value ∙ c.format-5.ensures.text,
    ) at c.put_pieces.ensures in
    subst (λ (text : List ℕ). Puts g.O.ByteSink c.args.out.now c.put_pieces.new.sink text c.put_pieces.result)
    (joined_all (counted (codes "pages=") n.pages) (counted (codes " used=") n.used)
    (counted (codes " rows=") n.rows) (counted (codes " deleted=") n.deleted)
    (counted (codes " unreached=") n.unreached))
    put
