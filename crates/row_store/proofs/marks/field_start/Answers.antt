use Rattle.std.proofs.Common.{◌∙◌, ap}
use Rattle.row_store.specs.declared.marks.FieldSpot.{FieldSpot}
use Rattle.row_store.proofs.RowsIn.{start_behind}
use Rattle.row_store.proofs.marks.field_start.Goals as goal

pub returns-else-i-eq0 : goal.returns-else-i-eq0
returns-else-i-eq0 c = ap (λ (s : FieldSpot). s.end) c.spot.ensures.value
    ∙ start_behind c.args.marks.now c.args.i _ c.if-i-eq0.false c.requires
