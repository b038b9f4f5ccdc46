use Rattle.space_audit.proofs.SoundAudit.{HasLaws, claims_are_partition}
use Rattle.space_audit.proofs.laws.claims_are_partition.Goals as goal

pub returns : goal.returns
returns c =
    let laws : HasLaws = record {
      head = c.head_checks_are_sound.ensures;
      descriptors = c.descriptor_checks_are_sound.ensures;
      inodes = c.inode_checks_are_sound.ensures;
      used_pages = c.used_pages_are_of_extents.ensures;
    } in
    λ file flags h. claims_are_partition laws file flags h
