use Rattle.std.proofs.Common.{◌≡◌}
use Rattle.page_source.specs.Pages.{with_bytes}
use Rattle.page_packer.proofs.FinishSteps.{slots_so_far}
use Rattle.page_packer.proofs.packer.Packer.put_directory.Given as goal

abbrev pub invariant-loop-j : goal.invariant-loop-j
invariant-loop-j l = l.page ≡ with_bytes l.fn.page l.start (slots_so_far l.self.records l.j)
