-- The holders of pages, as claims come one by one: of each page none, the one that claimed it, or that there were
-- many.
use Rattle.std.specs.Prelude.{◌≡◌, ◌≢◌, ℕ, ◌<◌, ◌≤◌, Bool, true, not, ◌==◌, if◌then◌else◌, List, suc, [], ◌∷◌, ◌++◌}
use Rattle.std.specs.Prelude.{length, map, filter, slice_index}
use Rattle.page_source.specs.Pages.{fil_null}
use Rattle.page_source.specs.Lists.{flag_in}
use Rattle.space_header.specs.declared.address.Address.{Address}
use Rattle.space_header.specs.Header.{size_of}
use Rattle.extent_map.specs.declared.extent.Extent.{Extent}
use Rattle.extent_map.specs.Extents.{AreExtents, extent_count}
use Rattle.extent_map.specs.Descriptors.{IsExtent}
use Rattle.inode_segments.specs.Inodes.{inode_of, inode_pages, segments}

-- a claim on a page: of the segment with this number, or the mark of an inode page
pub record Claim : Type 0 where
  pub page : ℕ
  pub who : ℕ

-- the mark of an inode page, that of no claim, and that of more than one
abbrev pub inode_holder : ℕ
inode_holder = 0xFFFF_FFFF

abbrev pub no_holder : ℕ
no_holder = 0xFFFF_FFFD

abbrev pub many_holders : ℕ
many_holders = 0xFFFF_FFFC

-- the holder after one more claim on the page, and after a list of claims
abbrev pub held_more : ℕ → ℕ → ℕ
held_more holder who = if holder == no_holder then who else many_holders

abbrev pub held_after : ℕ → List Claim → ℕ → ℕ
held_after holder [] n = holder
held_after holder (claim ∷ claims) n =
    held_after (if claim.page == n then held_more holder claim.who else holder) claims n

-- these are the holders of the pages after these claims
abbrev pub AreHeld : List ℕ → List Claim → Type 0
AreHeld holders claims = (n : ℕ) → n < length holders → slice_index holders n ≡ held_after no_holder claims n

-- the claims of slots
abbrev pub claims_of : ℕ → List ℕ → List Claim
claims_of who slots = map (λ slot. record { page = slot; who = who }) (filter (λ slot. not (slot == fil_null)) slots)

-- a system page has no holder, another page has one
pub record IsOnce (system : Bool) (holder : ℕ) : Type 0 where
  pub none : system ≡ true → holder ≡ no_holder
  pub some : system ≢ true → holder ≢ no_holder
  pub few : system ≢ true → holder ≢ many_holders

-- the claims on pages of fragment extents: those of the inode pages, then those of each segment's slots
abbrev pub inode_claims : List ℕ → List Claim
inode_claims pages = map (λ n. record { page = n; who = inode_holder }) pages

abbrev pub claims_from : List ℕ → ℕ → List Address → List Claim
claims_from file s [] = []
claims_from file s (place ∷ places) = claims_of s (inode_of file place).slots ++ claims_from file (suc s) places

unfoldable pub claims_in : List ℕ → List Claim
claims_in file = inode_claims (inode_pages file) ++ claims_from file 0 (segments file)

-- the holder of a page before any slot is read, where these pages are inode pages
abbrev pub first_holder : List Bool → ℕ → ℕ
first_holder pages n = if flag_in pages n then inode_holder else no_holder

-- the claims of the file are held, on as many pages as it has
pub record IsHeld (file : List ℕ) (extents : List Extent) (holders : List ℕ) : Type 0 where
  pub extents_are : AreExtents file extents
  pub extents_sound : (e : ℕ) → e < extent_count file → IsExtent file e
  pub size_is : length holders ≡ size_of file
  pub few : length (segments file) ≤ 356515840
  pub held : AreHeld holders (claims_in file)
