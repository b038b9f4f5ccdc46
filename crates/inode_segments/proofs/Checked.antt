-- One step along a list of inode pages, by its parts.
use Rattle.std.proofs.Common.{◌≡◌, ℕ, Bool, List, Option, Some, None, sym, ap, inl, inr}
use Rattle.page_source.specs.declared.rule.Fault.{Fault}
use Rattle.page_source.specs.declared.rule.Rule.TheVariants.{InodeList}
use Rattle.page_source.specs.Pages.{page_of}
use Rattle.fil_frame.specs.Frame.{space_of}
use Rattle.space_header.specs.declared.address.Address.{Address}
use Rattle.space_header.specs.declared.header.SpaceHeader.{SpaceHeader}
use Rattle.space_header.specs.Header.{header_of, size_of}
use Rattle.inode_segments.specs.InodeChecks.{IsStep, InodePageChecks, StepAt}
use Rattle.inode_segments.specs.Walk.{DescribesFile}

-- the size is that of the header
pub size_stated : (file : List ℕ) (header : SpaceHeader) → DescribesFile file header → size_of file ≡ header.size
unfolding header_of
size_stated file header is = sym (ap (λ (x : SpaceHeader). x.size) is.same)

pub place_breaks : (file : List ℕ) (is_fragment : ℕ → Bool) (full : Bool) (reached : List ℕ) (address : Address)
    (holder : ℕ)
    (before : Option Address) (fault : Fault) → (¬ (IsStep file is_fragment reached address))
    → fault ≡ record { rule = InodeList; page = holder }
    → StepAt file is_fragment full reached address holder before (Some fault)
unfolding StepAt
place_breaks file is_fragment full reached address holder before fault not_there is = inl (not_there, is)

pub page_breaks : (file : List ℕ) (is_fragment : ℕ → Bool) (full : Bool) (reached : List ℕ) (address : Address)
    (holder : ℕ)
    (before : Option Address) (page : List ℕ) (space : ℕ) (found : Option Fault)
    → IsStep file is_fragment reached address
    → page ≡ page_of file address.page → space_of (page_of file 0) ≡ space
    → InodePageChecks page address.page space full before found
    → StepAt file is_fragment full reached address holder before found
unfolding StepAt
page_breaks file is_fragment full reached address holder before page space None goes here of checks =
    (goes, rw (sym here, of) checks)
page_breaks file is_fragment full reached address holder before page space (Some fault) goes here of checks =
    inr (goes, rw (sym here, of) checks)
