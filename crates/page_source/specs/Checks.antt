-- What a call answers, against the checks that it makes.
use Rattle.std.specs.Prelude.{◌≡◌, ◌≤◌, ℕ, ⊤, Option, Some, None, Result, Ok, Err}
use Rattle.page_source.specs.declared.rule.Rule.{Rule}
use Rattle.page_source.specs.declared.rule.Fault.{Fault}
use Rattle.page_source.specs.declared.checks.Stop.{Stop}
use Rattle.page_source.specs.declared.checks.Stop.TheVariants as stops
use Rattle.page_source.specs.declared.checks.Halt.{Halt}
use Rattle.page_source.specs.declared.checks.Halt.TheVariants.{Broken, Source}
use Rattle.page_source.specs.Faults.{Rose}

-- a stop is the first fault of these checks, the source and memory aside
abbrev pub Stops : Stop → (Option Fault → Type 0) → Type 0
Stops (stops.Broken fault) checks = checks (Some fault)
Stops stops.Source checks = ⊤
Stops stops.Memory checks = ⊤

-- the stop that a halt is, where memory may be wanted too
abbrev pub stop_of : Halt → Stop
stop_of (Broken fault) = stops.Broken fault
stop_of Source = stops.Source

-- the answer is the first fault of these checks, the source and memory aside
abbrev pub Answers : {A : Type 0} → Result A Stop → (Option Fault → Type 0) → Type 0
Answers (Ok a) checks = checks None
Answers (Err stop) checks = Stops stop checks

-- a halt is the first fault of these checks, the source aside
abbrev pub HaltsAt : Halt → (Option Fault → Type 0) → Type 0
HaltsAt (Broken fault) checks = checks (Some fault)
HaltsAt Source checks = ⊤

-- the answer is the first fault of these checks, the source aside
abbrev pub Halts : {A : Type 0} → Result A Halt → (Option Fault → Type 0) → Type 0
Halts (Ok a) checks = checks None
Halts (Err halt) checks = HaltsAt halt checks

-- the answer of a call that looks at a page in hand is the first fault of these checks
abbrev pub Finds : {A : Type 0} → Result A Fault → (Option Fault → Type 0) → Type 0
Finds (Ok a) checks = checks None
Finds (Err fault) checks = checks (Some fault)

-- the count of the source never falls, and the source is blamed only where it rose
pub record StopsWithCause {A : Type 0} (before now : ℕ) (result : Result A Stop) : Type 0 where
  pub later : before ≤ now
  pub source : result ≡ Err stops.Source → Rose before now

-- the count of the source never falls, and the source is blamed only if it rose, by a call that takes no memory
pub record HaltsWithCause {A : Type 0} (before now : ℕ) (result : Result A Halt) : Type 0 where
  pub later : before ≤ now
  pub source : result ≡ Err Source → Rose before now

-- a rule's fault is named at a page
abbrev pub AtPage : ℕ → (Option Rule → Type 0) → Option Fault → Type 0
AtPage n checks None = checks None
AtPage n checks (Some fault) = (fault.page ≡ n) × checks (Some fault.rule)
