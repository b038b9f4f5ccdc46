-- What is named if a file isn't any more as it was checked.
use Rattle.std.specs.Prelude.{◌≡◌, ◌⊎◌, ⊤, Result, Ok, Err}
use Rattle.page_source.specs.declared.rule.Rule.TheVariants.{RecordChain, RecordSpelling, Sibling, ChainLength}
use Rattle.page_source.specs.declared.rule.Fault.{Fault}
use Rattle.table_check.specs.Live.{LiveView, CutsOff}
use Rattle.cross_index.specs.declared.crossed.CrossStop.{CrossStop}
use Rattle.cross_index.specs.declared.crossed.CrossStop.TheVariants as stops

-- the rule of the chain of a value
abbrev pub BreaksChain : Fault → Type 0
BreaksChain fault = fault.rule ≡ ChainLength

-- the leaf in hand: the walk broke off there, or a record isn't spelled as it must be
abbrev pub BreaksLeaf : LiveView → Fault → Type 0
BreaksLeaf rows fault = CutsOff rows fault ⊎ (fault ≡ record { rule = RecordSpelling; page = rows.leaf.number })

-- the leaf in hand, or a page of a value's chain
abbrev pub BreaksRow : LiveView → Fault → Type 0
BreaksRow rows fault = BreaksLeaf rows fault ⊎ BreaksChain fault

-- one of the rules that the reading of rows tests again
abbrev pub BreaksReading : Fault → Type 0
BreaksReading fault =
    (fault.rule ≡ RecordChain) ⊎ (fault.rule ≡ Sibling) ⊎ (fault.rule ≡ RecordSpelling) ⊎ BreaksChain fault

-- a call that reads finds no difference, and names such a fault
abbrev pub BreaksAt : {A : Type 0} → (Fault → Type 0) → Result A CrossStop → Type 0
BreaksAt IsNamed (Ok a) = ⊤
BreaksAt IsNamed (Err (stops.Broken fault)) = IsNamed fault
BreaksAt IsNamed (Err (stops.Missing index row)) = ⊥
BreaksAt IsNamed (Err (stops.Extra index page)) = ⊥
BreaksAt IsNamed (Err stops.Source) = ⊤
BreaksAt IsNamed (Err stops.Memory) = ⊤
