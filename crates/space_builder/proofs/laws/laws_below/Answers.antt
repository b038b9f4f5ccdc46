use Rattle.space_builder.proofs.laws.laws_below.Goals as goal

pub returns : goal.returns
returns c = record {
  page = record {
    packs = c.a_page_holds_its_entries.ensures.entries;
    whole = c.a_page_holds_its_entries.ensures.whole;
    numbers = c.a_page_has_its_numbers.ensures;
    sealed = c.sealed_pages_are_whole.ensures;
    seals = c.sealing_keeps_the_body.ensures.seals;
    parts = c.part_pages_are_read.ensures;
  };
  space = record {
    sizes = c.indexes_have_sizes.ensures.sizes;
    shape = c.indexes_have_sizes.ensures.shape;
    numbers = c.numbers_differ.ensures;
    places = c.values_have_places.ensures;
    map = c.numbered_pages_are_held.ensures;
    found = c.numbered_pages_are_found.ensures;
    file = c.file_holds_space.ensures;
    sound = c.holds_sound_space.ensures;
    segments = c.holds_its_segments.ensures;
  };
  tree = record {
    levels = c.division_gives_levels.ensures;
    counts = c.counts_are_of_sizes.ensures;
    different = c.numbers_are_different.ensures;
    places = c.pages_fill_places.ensures;
    names = c.headers_name_segments.ensures;
    rows = c.divided_trees_have_rows.ensures;
  };
  row = record {
    divide = c.entries_can_divide.ensures;
    alike = c.entries_are_alike.ensures;
    rows = c.held_rows_are_rows.ensures;
    values = c.held_values_are_sound.ensures;
    rest = c.nothing_is_left_over.ensures;
  };
}
