use Rattle.row_text.proofs.write.values.put_date.Goals as goal

pub returns : goal.returns
returns g c =
    rw (
      c.four_digits.ensures,
      c.two_digits.ensures,
      c.two_digits-2.ensures,
      c.from-month.ensures,
      c.from-day.ensures,
    ) at c.put_pieces.ensures
