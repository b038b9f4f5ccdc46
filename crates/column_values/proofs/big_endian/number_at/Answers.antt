use Rattle.std.proofs.Common.{◌≡◌, ◌<◌, ◌+◌, ◌∙◌, sym, drop, ℕ, slice_index, arith}
use Rattle.std.proofs.lemmas.List.{get_or-drop}
use Rattle.byteorder.specs.Endian.{big_from}
use Rattle.byteorder.specs.Numbers.{big_from-take, big_from-lt}
use Rattle.page_source.specs.Pages.{num}
use Rattle.page_source.proofs.Numbers.{num-is_big}
use Rattle.column_values.proofs.big_endian.number_at.Goals as goal

pub returns-then-width-eq0-clause-number : goal.returns-then-width-eq0-clause-number
unfolding num
returns-then-width-eq0-clause-number c = rw c.if-width-eq0.true (omega arith)

read_from : (c : goal.After-read_uint) → c.read_uint.result ≡ big_from 0 c.args.width (drop c.args.at c.args.bytes.now)
read_from c = c.read_uint.ensures ∙ big_from-take 0 c.args.width _ _ (omega arith)

pub returns-else-width-eq0-clause-number : goal.returns-else-width-eq0-clause-number
returns-else-width-eq0-clause-number c = read_from c ∙ sym (num-is_big c.args.bytes.now c.args.at c.args.width)

pub returns-else-width-eq0-clause-fits : goal.returns-else-width-eq0-clause-fits
returns-else-width-eq0-clause-fits c =
    let each : (k : ℕ) → slice_index (drop c.args.at c.args.bytes.now) k < 256 =
    λ k. omega (arith, get_or-drop c.args.at c.args.bytes.now k 0, c.type_inv.bytes (c.args.at + k)) in
    rw (read_from c) (big_from-lt 0 c.args.width (drop c.args.at c.args.bytes.now) each)
