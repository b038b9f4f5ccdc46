use Rattle.std.proofs.Common.{◌≡◌, ℕ, List}
use Rattle.page_source.specs.Verdict.{AllBefore}
use Rattle.space_header.specs.Header.{head_of}
use Rattle.extent_map.specs.declared.extent.Extent.{Extent}
use Rattle.inode_segments.specs.Inodes.{segments}
use Rattle.space_audit.specs.Lists.{AreHomes}
use Rattle.space_audit.specs.Audit.{CountCheck}
use Rattle.space_audit.specs.Read.{IsRead}
use Rattle.space_audit.proofs.counts.check_counts.Given as goal

abbrev pub invariant-loop-s : goal.invariant-loop-s
invariant-loop-s l = (file : List ℕ) (extents : List Extent) → IsRead file extents l.inodes → AreHomes file l.homes
    → l.header ≡ head_of file → AllBefore (segments file) (CountCheck file) l.s
