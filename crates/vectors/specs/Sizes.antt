-- How many pages the files have.
use Rattle.std.specs.Prelude.{ℕ}
use Rattle.vectors.specs.declared.plan.Which.{Which}
use Rattle.vectors.specs.declared.plan.Which.TheVariants as files

abbrev pub pages_of : Which → ℕ
pages_of files.A = 6
pages_of files.B = 6
pages_of files.BF = 6
pages_of files.C = 6
pages_of files.D = 6
pages_of files.E = 8
pages_of files.G = 8
pages_of files.L = 128
