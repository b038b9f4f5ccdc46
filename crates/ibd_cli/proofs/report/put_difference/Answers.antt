use Rattle.std.proofs.Common.{◌∙◌, ◌++◌, List, ℕ, codes, decimal, subst, sym, ap, append_assoc}
use Rattle.page_source.specs.Calls.{Puts}
use Rattle.command_line.specs.Lines.{counted}
use Rattle.ibd_cli.proofs.report.put_difference.Goals as goal

pub returns : goal.returns
returns g c =
    let front = counted (codes "cross index ") c.args.index in
    let side = c.args.side.now in
    let place = c.args.place in
    let put = rw (
      c.as_slice.ensures,
      c.as_bytes.ensures.value ∙ c.format.ensures.text,
      c.as_bytes-2.ensures.value,
      c.as_bytes-3.ensures.value ∙ c.format-2.ensures.text,
    ) at c.put_pieces.ensures in
    subst (λ (text : List ℕ). Puts g.E.ByteSink c.args.err.now c.put_pieces.new.sink text c.put_pieces.result)
    (ap (λ (text : List ℕ). front ++ text) (sym (append_assoc side (decimal place) (codes "\n")))
    ∙ sym (append_assoc front (counted side place) (codes "\n")))
    put
