use Rattle.std.proofs.Common.{length, sym, ap, ◌∙◌}
use Rattle.std.proofs.lemmas.List.{length-map}
use Rattle.compact_record.specs.Reading.{cell_at}
use Rattle.cross_index.specs.calls.Kept.{places_of_marks}
use Rattle.cross_index.proofs.MarkSteps.{length-places}
use Rattle.cross_index.proofs.kept_values.KeptValues.len.Goals as goal

pub returns : goal.returns
returns c =
    c.len.ensures ∙ sym (length-places 0 c.self.inside.marks)
    ∙ sym (length-map (places_of_marks 0 c.self.inside.marks) (cell_at c.self.inside.bytes.items))
    ∙ ap length c.self.view_is
