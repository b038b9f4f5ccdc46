use Rattle.column_values.proofs.MomentValues.{fraction_fits}
use Rattle.column_values.proofs.moments.push_fraction.Goals as goal

pub push_number-requires-clause-fits : goal.push_number-requires-clause-fits
push_number-requires-clause-fits c =
    rw (c.from.ensures, c.fraction_unit.ensures.value, c.fraction_length.ensures.value)
    (fraction_fits c.args.digits c.args.micro c.requires.known c.requires.below)
