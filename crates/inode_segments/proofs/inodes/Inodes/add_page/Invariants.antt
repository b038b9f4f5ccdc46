use Rattle.std.proofs.Common.{◌≡◌, ◌+◌, ◌*◌, ◌≤◌, ◌++◌, true, length, map, set}
use Rattle.page_source.specs.Lists.{unmarked}
use Rattle.space_header.specs.Header.{node_address}
use Rattle.inode_segments.specs.declared.inodes.Segment.{Segment}
use Rattle.inode_segments.specs.Inodes.{inode_at, inode_byte}
use Rattle.inode_segments.proofs.Used.{used_before}
use Rattle.inode_segments.proofs.inodes.Inodes.add_page.Given as goal

abbrev pub invariant-loop-k : goal.invariant-loop-k
invariant-loop-k l = record {
  pages : l.self-inside.pages.items ≡ set l.fn.self.pages l.n true;
  places : map (λ (s : Segment). s.place) l.self-inside.segments.items
      ≡ l.fn.self.places ++ map (λ j. node_address (inode_byte j) l.n) (used_before l.page l.k);
  inodes : map (λ (s : Segment). s.inode) l.self-inside.segments.items
      ≡ l.fn.self.inodes ++ map (λ j. inode_at l.page (inode_byte j)) (used_before l.page l.k);
  few : length l.self-inside.pages.items ≤ 4194304;
  room : length l.self-inside.segments.items + 85 * unmarked l.self-inside.pages.items + 85
      ≤ 85 * length l.self-inside.pages.items + l.k;
}
