-- What a salvage rests on: the faults that the source counted, and the pages that it was asked for; what a report gets.
use Rattle.std.specs.Prelude.{ℕ, ◌+◌, ◌-◌, ◌^◌, ◌≤◌, ◌⊎◌, min, List, Option}
use Rattle.page_source.specs.declared.objects.PageSource.{Ghosts as FileOf}
use Rattle.page_source.specs.Faults.{Rose}
use Rattle.page_source.specs.Objects.{GrowsBy, GrowsByPart}

-- a count of faults rose by so many at least, or stands at its type's end
abbrev pub RoseBy : ℕ → ℕ → ℕ → Type 0
RoseBy before now k = min (before + k) (2 ^ 64 - 1) ≤ now

-- both counts of a source, before a call or after it
pub record Counts : Type 0 where
  pub faults : ℕ
  pub fetches : ℕ

abbrev pub counts_of : {S : Type 0} → FileOf S → S → Counts
counts_of g source = record { faults = g.faults source; fetches = g.fetches source }

-- a sink grew by the text, or by a prefix of it if its count of faults rose
abbrev pub Reports : Option (List ℕ) → Option (List ℕ) → ℕ → ℕ → List ℕ → Type 0
Reports old new before now text = GrowsBy old new text ⊎ (GrowsByPart old new text × Rose before now)
