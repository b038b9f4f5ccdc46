-- Reading a chain part by part (btr0cur).
use Rattle.std.specs.Prelude.{◌≡◌, ℕ, ◌+◌, ◌-◌, ◌<◌, ◌⊎◌, List, [], ◌∷◌, Option, Some, None}
use Rattle.page_source.specs.declared.rule.Rule.TheVariants.{ChainLength}
use Rattle.page_source.specs.declared.rule.Fault.{Fault}
use Rattle.page_source.specs.Pages.{page_of, page_count}
use Rattle.offpage_chain.specs.Chain.{part_length, next_part}
use Rattle.offpage_chain.specs.ChainChecks.{IsChainPart}

-- what a reader has left: the page that comes next, and how many bytes it lacks
pub record ChainRest : Type 0 where
  pub page : ℕ
  pub lacks : ℕ

-- what is left where the page was read
abbrev pub rest_after : List ℕ → ChainRest → ChainRest
rest_after page rest = record { page = next_part page; lacks = rest.lacks - part_length page }

-- the value goes on along these pages, with so many bytes from page n on
abbrev pub GoesOn : List ℕ → ℕ → ℕ → List ℕ → Type 0
GoesOn file n left [] = left ≡ 0
GoesOn file n left (p ∷ pages) =
    (n ≡ p) × (p < page_count file) × IsChainPart (page_of file p) left
    × GoesOn file (next_part (page_of file p)) (left - part_length (page_of file p)) pages

abbrev pub GoesOnAlong : List ℕ → ChainRest → List ℕ → Type 0
GoesOnAlong file rest pages = GoesOn file rest.page rest.lacks pages

-- the rest is that of a whole value
abbrev pub IsRest : List ℕ → ChainRest → Type 0
IsRest file rest = (pages : List ℕ) × GoesOnAlong file rest pages

-- the part of the first of these pages was given, and the others are left; or there was none
abbrev pub GivesNext : List ℕ → List ℕ → ChainRest → Option ℕ → List ℕ → Type 0
GivesNext file [] new given page = given ≡ None
GivesNext file (p ∷ pages) new given page =
    (given ≡ Some (part_length (page_of file p))) × (page ≡ page_of file p) × GoesOnAlong file new pages

-- a part of the page in hand was given, and took one fetch from those that are left; or nothing lacks any more
abbrev pub GivesPart : ChainRest → ChainRest → Option ℕ → List ℕ → ℕ → ℕ → Type 0
GivesPart old new None page left now = (old.lacks ≡ 0) × (new ≡ old) × (now ≡ left)
GivesPart old new (Some n) page left now =
    (n ≡ part_length page) × IsChainPart page old.lacks × (new ≡ rest_after page old) × (now + 1 ≡ left)

-- no part could be given: no fetch is left, or the page in hand has none
pub record LacksPart (rest : ChainRest) (page : List ℕ) (left : ℕ) (fault : Fault) : Type 0 where
  pub lacks : 0 < rest.lacks
  pub fault_is : fault ≡ record { rule = ChainLength; page = rest.page }
  pub why : (left ≡ 0) ⊎ (¬ (IsChainPart page rest.lacks))
