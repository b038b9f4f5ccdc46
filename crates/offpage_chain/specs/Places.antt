-- The pages that a chain may go on at: those of an audited space, or of one of which the header alone was checked.
use Rattle.std.specs.Prelude.{◌≡◌, ℕ, Bool, List, length}
use Rattle.page_source.specs.declared.objects.PageSource.{Ghosts as FileOf}
use Rattle.page_source.specs.Calls.{OfFile}
use Rattle.extent_map.specs.Head.{HasHeader}
use Rattle.space_audit.specs.Space.{IsAuditOf}
use Rattle.offpage_chain.specs.declared.pages.ChainPages.{ChainPages}
use Rattle.offpage_chain.specs.declared.pages.ChainPages.TheVariants.{Audited, Unaudited}
use Rattle.offpage_chain.specs.ChainChecks.{PlaceChecks, AuditedPlace, UnauditedPlace}

-- how many pages the space has
abbrev pub page_total : ChainPages → ℕ
page_total (Audited space segment) = space.now.size
page_total (Unaudited header) = header.now.size

-- the space is the audit of the file, or the header is its
abbrev pub AreOf : List ℕ → ChainPages → Type 0
AreOf file (Audited space segment) = IsAuditOf file space.now
AreOf file (Unaudited header) = HasHeader file header.now

-- what is asked of a page for a chain to go on there
abbrev pub PlaceIn : List ℕ → ChainPages → PlaceChecks
PlaceIn file (Audited space segment) = AuditedPlace file segment
PlaceIn file (Unaudited header) = UnauditedPlace file

-- these are pages of the file, with a mark for each
pub record CanCheck {S : Type 0} (g : FileOf S) (source : S) (pages : ChainPages) (marks : List Bool) : Type 0 where
  pub told : OfFile g source (λ file. AreOf file pages)
  pub members : length marks ≡ page_total pages
