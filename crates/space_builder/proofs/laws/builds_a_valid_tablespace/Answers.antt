use Rattle.space_builder.proofs.laws.builds_a_valid_tablespace.Goals as goal

pub returns : goal.returns
returns c table rows can = (
  record {
    space = c.builds_a_sound_space.ensures table rows can;
    trees = c.builds_the_trees.ensures table rows can;
    values = c.builds_sound_values.ensures table rows can;
    rest = c.builds_no_left_overs.ensures table rows can;
  },
  c.builds_the_rows.ensures table rows can,
)
