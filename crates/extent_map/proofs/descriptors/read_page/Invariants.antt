use Rattle.std.proofs.Common.{◌≡◌, ◌+◌, ◌*◌, ℕ, List, ◌++◌, length, map}
use Rattle.std.specs.List.{range_with_len}
use Rattle.page_source.specs.Pages.{page_of}
use Rattle.page_source.specs.Verdict.{AllBelow}
use Rattle.space_header.specs.Header.{size_of, limit_of}
use Rattle.extent_map.specs.Extents.{extent_of}
use Rattle.extent_map.specs.Descriptors.{ExtentCheckOn}
use Rattle.extent_map.proofs.descriptors.read_page.Given as goal

abbrev pub invariant-loop-i : goal.invariant-loop-i
invariant-loop-i l = record {
  count : length l.extents ≡ 256 * l.k + l.i;
  checks : (file : List ℕ) → l.page ≡ page_of file (16384 * l.k) → size_of file ≡ l.header.size
      → limit_of file ≡ l.header.limit → AllBelow (ExtentCheckOn file l.k) l.i;
  read : (file : List ℕ) → l.page ≡ page_of file (16384 * l.k) → limit_of file ≡ l.header.limit
      → l.extents ≡ l.initial.extents ++ map (extent_of file) (range_with_len (256 * l.k) l.i);
}
