-- The checks of a page that is first fetched where it is met.
use Rattle.std.specs.Prelude.{◌≡◌, ℕ, List, Option}
use Rattle.page_source.specs.declared.rule.Rule.TheVariants.{Frame}
use Rattle.page_source.specs.declared.rule.Fault.{Fault}
use Rattle.page_source.specs.Pages.{page_of}
use Rattle.page_source.specs.Verdict.{Check, Then}
use Rattle.page_source.specs.Answers.{Holds}
use Rattle.fil_frame.specs.Frame.{Framed, kind_of}

-- the checks of a fetched page: its frame, and its type. A page of another type is this fault
abbrev pub FramedChecks : List ℕ → Fault → ℕ → ℕ → Option Fault → Type 0
FramedChecks file fault kind n =
    Then (Holds Frame n (Framed file n)) (Check fault (kind_of (page_of file n) ≡ kind))

-- the checks of a page that is first fetched here: whether it may be, its frame, and its type
abbrev pub FetchedChecks : List ℕ → Fault → Type 0 → ℕ → ℕ → Option Fault → Type 0
FetchedChecks file fault IsPlace kind n = Then (Check fault IsPlace) (FramedChecks file fault kind n)
