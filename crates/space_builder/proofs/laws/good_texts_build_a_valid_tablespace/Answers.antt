use Rattle.space_builder.proofs.laws.good_texts_build_a_valid_tablespace.Goals as goal

pub returns : goal.returns
returns c table text rows good =
    c.builds_a_valid_tablespace.ensures table rows (c.good_texts_can_be_built.ensures table text rows good)
