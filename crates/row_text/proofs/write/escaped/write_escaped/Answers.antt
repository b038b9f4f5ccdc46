use Rattle.std.proofs.Common.{List, ℕ, ap, ◌∙◌, arith}
use Rattle.row_text.specs.Values.{escaped_text}
use Rattle.row_text.proofs.Groups.{written_rest}
use Rattle.row_text.proofs.write.escaped.write_escaped.Goals as goal

pub returns-clause-text : goal.returns-clause-text
returns-clause-text c =
    let front = c.write_groups-groups in
    written_rest c.args.text.now front.new.room c.write_rest.new.room _ front.result.read front.result.written
    c.write_rest.result (omega (arith, front.ensures.few, front.ensures.read, front.auto.room, c.requires))
    c.write_rest.ensures.most front.ensures.text
    (c.write_rest.ensures.text ∙ ap (λ (t : List ℕ). escaped_text t) c.split_at.ensures.back)
