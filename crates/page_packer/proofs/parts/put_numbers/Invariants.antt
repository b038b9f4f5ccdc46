use Rattle.std.proofs.Common.{◌≡◌, ◌+◌, ◌*◌, flat_map, take}
use Rattle.page_source.specs.Pages.{be_bytes, with_bytes}
use Rattle.page_packer.proofs.parts.put_numbers.Given as goal

abbrev pub invariant-loop-i : goal.invariant-loop-i
invariant-loop-i l =
    record {
      written : l.page ≡ with_bytes l.fn.page l.at (flat_map (be_bytes 2) (take l.i l.numbers));
      ends : l.end ≡ l.at + 2 * l.i;
    }
