use Rattle.std.proofs.Common.{◌≤◌, ◌<◌, ◌^◌, length, IfSome}
use Rattle.page_scan.specs.Scan.{rest_of}
use Rattle.image_listing.proofs.Keeping.{ScanStands}
use Rattle.image_listing.proofs.listing.read_catalogue.Given as goal

-- what was found in the bytes that were passed is kept
abbrev pub invariant-loop : goal.invariant-loop
invariant-loop g l =
    let left = g.Q.ByteSource.left in
    let faults = g.Q.ByteSource.faults in
    record {
      stands : IfSome (left l.fn.image) (λ image.
          length image < 2 ^ 64 → ScanStands image (rest_of l.scanner (left l.image)) l.catalogue.pages);
      later : faults l.fn.image ≤ faults l.image;
    }
