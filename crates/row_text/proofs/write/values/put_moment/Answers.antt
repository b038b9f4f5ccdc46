use Rattle.row_text.proofs.write.values.put_moment.Goals as goal

pub returns : goal.returns
returns g c =
    rw (
      c.four_digits.ensures,
      c.two_digits.ensures,
      c.two_digits-2.ensures,
      c.two_digits-3.ensures,
      c.two_digits-4.ensures,
      c.two_digits-5.ensures,
      c.from-month.ensures,
      c.from-day.ensures,
      c.from-hour.ensures,
      c.from-minute.ensures,
      c.from-second.ensures,
      c.behind_point-fraction.ensures,
      c.from.ensures,
      c.ten_to.ensures.value,
      c.from-2.ensures,
    ) at c.put_pieces.ensures
