use Rattle.std.proofs.Common.{◌∙◌, ◌++◌, List, ℕ, codes, decimal, subst, sym, append_assoc}
use Rattle.page_source.specs.Calls.{Puts}
use Rattle.command_line.proofs.lines.put_refusal.Goals as goal

pub returns : goal.returns
returns g c =
    let text = c.args.text.now in
    let why = c.args.why.now in
    let line = decimal c.args.line in
    let put = rw (
      c.as_bytes.ensures.value,
      c.as_bytes-2.ensures.value ∙ c.format.ensures.text,
      c.as_bytes-3.ensures.value,
    ) at c.put_pieces.ensures in
    subst (λ (bytes : List ℕ). Puts g.E.ByteSink c.args.err.now c.put_pieces.new.sink bytes c.put_pieces.result)
    (sym (append_assoc text line (codes " " ++ (why ++ codes "\n")))
    ∙ sym (append_assoc (text ++ line) (codes " ") (why ++ codes "\n"))
    ∙ sym (append_assoc (text ++ line ++ codes " ") why (codes "\n")))
    put
