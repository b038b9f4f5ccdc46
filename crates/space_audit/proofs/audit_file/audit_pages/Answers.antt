use Rattle.std.proofs.Common.{length, ap}
use Rattle.page_source.proofs.Told.{map_told2, map_told3}
use Rattle.space_audit.proofs.AuditStages.{awaits_frames, space_of_file}
use Rattle.space_audit.proofs.audit_file.audit_pages.Goals as goal

pub check_frames-requires-clause-told : goal.check_frames-requires-clause-told
check_frames-requires-clause-told g c =
    map_told2 (g.S.PageSource.content c.args.source.now) (λ file has read.
    awaits_frames file c.args.header.now c.args.extents.now
    c.args.inodes c.in_ok-owners.owners.items
    c.deref.result.now has read
    c.deref.ensures.value c.in_ok-owners.ensures.count (c.in_ok-owners.ensures.owners file read has))
    c.requires.told c.requires.read

pub returns-clause-audited : goal.returns-clause-audited
returns-clause-audited g c =
    map_told3 (g.S.PageSource.content c.args.source.now) (λ file has read kinds.
    space_of_file file c.used_pages_are_of_extents.ensures c.args.header.now c.args.extents.now
    c.args.inodes c.in_ok-owners.owners.items
    c.in_ok-found.found.kinds.items
    c.in_ok-found.found.used c.in_ok-space.space has read c.in_ok-owners.ensures.count
    (c.in_ok-owners.ensures.owners file read has)
    (length c.deref.result.now) (ap length c.deref.ensures.value) kinds c.in_ok-space.ensures)
    c.requires.told c.requires.read c.in_ok-found.ensures.kinds
