-- The steps of the checks of one chain: which page is due, and what each step checks.
use Rattle.std.specs.Prelude.{ℕ, Bool, List, Option}
use Rattle.page_source.specs.declared.rule.Fault.{Fault}
use Rattle.page_source.specs.Verdict.{EachOf}
use Rattle.offpage_chain.specs.declared.check.Chain.{Chain}
use Rattle.offpage_chain.specs.declared.pages.Due.{Due}
use Rattle.offpage_chain.specs.Chain.{chain_pages}
use Rattle.offpage_chain.specs.ChainChecks.{PageCheck, PartCheck}
use Rattle.offpage_chain.specs.Places.{PlaceIn}

-- the pages along which the reference leads
abbrev pub pages_in : List ℕ → Chain → List ℕ
pages_in file chain = chain_pages file chain.reference.now

-- the page that is due at first
abbrev pub first_due : Chain → Due
first_due chain = record {
  page = chain.reference.now.page;
  holder = chain.holder;
  left = chain.reference.now.length;
}

-- the checks of the page that is due
abbrev pub DueCheck : List ℕ → Chain → (ℕ → Bool) → Due → Option Fault → Type 0
DueCheck file chain taken due = PageCheck file (PlaceIn file chain.pages) due.holder (taken due.page) due.left due.page

-- the checks of all pages
abbrev pub PagesCheck : List ℕ → Chain → (ℕ → Bool) → Option Fault → Type 0
PagesCheck file chain taken =
    EachOf (pages_in file chain)
    (PartCheck file (PlaceIn file chain.pages) chain.holder chain.reference.now taken)
