use Rattle.std.proofs.Common.{◌∙◌, List, ℕ, codes, subst, sym, append_assoc}
use Rattle.page_source.specs.Calls.{Puts}
use Rattle.command_line.specs.Lines.{counted}
use Rattle.ibd_cli.proofs.cross.put_crossed.Goals as goal

pub returns : goal.returns
returns g c =
    let n = c.args.crossed.now in
    let put = rw (
      c.as_slice.ensures,
      c.as_bytes.ensures.value ∙ c.format.ensures.text,
      c.as_bytes-2.ensures.value ∙ c.format-2.ensures.text,
    ) at c.put_pieces.ensures in
    subst (λ (text : List ℕ). Puts g.O.ByteSink c.args.out.now c.put_pieces.new.sink text c.put_pieces.result)
    (sym (append_assoc (counted (codes "indexes=") n.indexes) (counted (codes " entries=") n.entries) (codes "\n")))
    put
