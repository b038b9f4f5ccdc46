use Rattle.std.proofs.Common.{List, ap, arith}
use Rattle.page_packer.specs.Packing.{Pushed}
use Rattle.page_packer.proofs.Fills.{filled_none, none_in}
use Rattle.page_packer.proofs.packer.Packer.new.Goals as goal

pub invariant_of-result : goal.invariant_of-result
invariant_of-result c =
    filled_none c.in_ok-zeroed.field-0 c.in_ok-from_elem.field-0.items
    (omega (arith, c.in_ok-from_elem.ensures.len, c.in_ok-from_elem.field-0.ok.0))

pub returns : goal.returns
returns c =
    ap (λ (rs : List Pushed). record { level = 0; records = rs })
    (none_in c.in_ok-zeroed.field-0 c.in_ok-from_elem.field-0.items)
