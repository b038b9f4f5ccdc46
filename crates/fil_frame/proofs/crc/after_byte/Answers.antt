use Rattle.std.proofs.Common.{ℕ, ◌/◌, ◌%◌, ◌^◌, ◌<◌, bit_xor, ap, ◌∙◌, sym, arith}
use Rattle.std.proofs.lemmas.Nat.{xor_of_8}
use Rattle.fil_frame.specs.Tables.{table_entry}
use Rattle.fil_frame.proofs.TableLemmas.{is_table_0, one_byte}
use Rattle.fil_frame.proofs.crc.after_byte.Goals as goal

pub returns : goal.returns
returns c =
    let low : c.args.state % 256 < 2 ^ 8 = omega arith in
    let byte : c.from.result < 2 ^ 8 = omega arith in
    ap (λ (r : ℕ). bit_xor r (c.args.state / 256)) (is_table_0.each (bit_xor (c.args.state % 256) c.from.result)
    (xor_of_8 _ _ low byte))
    ∙ ap (λ (b : ℕ). bit_xor (table_entry 0 (bit_xor (c.args.state % 256) b)) (c.args.state / 256)) c.from.ensures
    ∙ sym (one_byte c.args.state c.args.byte)
