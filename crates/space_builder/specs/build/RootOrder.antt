-- Which root of a schema isn't the page that it would have.
use Rattle.std.specs.Prelude.{◌≡◌, ℕ, ◌+◌, Option, length}
use Rattle.page_source.specs.Verdict.{Check, Each}
use Rattle.schema_text.specs.TableDef.{TableDef, index_at}

-- the roots are 3, 4, 5 and so on; the fault is the line of the first that differs
abbrev pub RootOrderChecks : TableDef → Option ℕ → Type 0
RootOrderChecks table =
    Each (length table.indexes) (λ j. Check (index_at table j).line ((index_at table j).root ≡ 3 + j))
