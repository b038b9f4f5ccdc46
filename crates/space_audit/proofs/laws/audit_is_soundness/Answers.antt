use Rattle.space_audit.proofs.SoundAudit.{HasLaws, audit_sound, audit_checks}
use Rattle.space_audit.proofs.laws.audit_is_soundness.Goals as goal

pub returns : goal.returns
returns c =
    let laws : HasLaws = record {
      head = c.head_checks_are_sound.ensures;
      descriptors = c.descriptor_checks_are_sound.ensures;
      inodes = c.inode_checks_are_sound.ensures;
      used_pages = c.used_pages_are_of_extents.ensures;
    } in
    λ file flags. (audit_sound laws file flags, audit_checks laws file flags)
