use Rattle.space_layout.proofs.laws.laws_below.Goals as goal

pub returns : goal.returns
returns c = record {
  page = record {
    sealed = c.sealed_pages_are_whole.ensures;
    fields = c.written_fields_are_read.ensures;
    extents = c.written_extents_are_read.ensures;
    inodes = c.written_inodes_are_read.ensures;
  };
  uses = record {
    extents = c.used_pages_are_of_extents.ensures;
    bits = c.bits_are_used_pages.ensures;
    claims = c.fragment_claims_are_enough.ensures;
  };
}
