-- The records of a page that were read.
use Rattle.std.specs.Prelude.{ℕ, List}
use Rattle.std.specs.List.{AllZip}
use Rattle.column_values.specs.Types.{Fields}
use Rattle.compact_record.specs.Reading.{Reading, IsReading}

-- each of the records at these origins was read, in order
abbrev pub AreRead : List ℕ → Fields → List ℕ → List Reading → Type 0
AreRead page fields origins readings = AllZip (λ origin reading. IsReading page origin fields reading) origins readings
