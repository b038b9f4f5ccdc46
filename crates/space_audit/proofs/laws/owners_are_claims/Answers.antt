use Rattle.space_audit.proofs.SoundAudit.{HasLaws, owners_are_claims}
use Rattle.space_audit.proofs.laws.owners_are_claims.Goals as goal

pub returns : goal.returns
returns c =
    let laws : HasLaws = record {
      head = c.head_checks_are_sound.ensures;
      descriptors = c.descriptor_checks_are_sound.ensures;
      inodes = c.inode_checks_are_sound.ensures;
      used_pages = c.used_pages_are_of_extents.ensures;
    } in
    λ file flags h. owners_are_claims laws file flags h
