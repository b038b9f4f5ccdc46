-- an interrupted read takes nothing
use Rattle.std.specs.Io.KnownBytes.{Keeps}
use Rattle.std.proofs.Common.{◌≡◌, length}
use Rattle.page_source.proofs.transfers.read_some.Given as goal

abbrev pub invariant-loop : goal.invariant-loop
invariant-loop g l = record {
  room : length l.buffer ≡ length l.fn.buffer;
  kept : Keeps (g.F.Read.remaining l.fn.reader) (g.F.Read.remaining l.reader);
}
