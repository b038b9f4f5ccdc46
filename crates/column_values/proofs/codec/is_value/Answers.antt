use Rattle.std.proofs.Common.{arith, sym, ◌∙◌}
use Rattle.std.proofs.lemmas.Bool.{eqb-true, eq-eqb}
use Rattle.column_values.proofs.TextValues.{found_some, fits_both}
use Rattle.column_values.proofs.IntegerValues.{size_of_spelling, spelling_of_size}
use Rattle.column_values.proofs.codec.is_value.Goals as goal

pub returns-in-Char : goal.returns-in-Char
returns-in-Char c = fits_both c.args.kind.now c.args.bytes.now c.fits.result (grind arith) c.fits.ensures

pub returns-in-Date : goal.returns-in-Date
returns-in-Date c = found_some c.args.kind.now c.args.bytes.now c.decode_number.result c.is_some.result
    c.is_some.ensures c.decode_number.ensures

pub returns-in-Int : goal.returns-in-Int
returns-in-Int c = (
  λ same. rw c.in-Int.is (spelling_of_size c.in-Int.width c.in-Int.signed c.args.bytes.now
      (eqb-true _ _ same ∙ c.from.ensures)),
  λ spelling.
      let spell = rw c.in-Int.is at spelling in
      eq-eqb _ _ (size_of_spelling c.in-Int.width c.in-Int.signed spell.0 c.args.bytes.now spell.1
      ∙ sym c.from.ensures),
)
