-- The newest versions of pages, by their spaces and numbers.
use Rattle.std.specs.Prelude.{◌≡◌, ◌≢◌, ◌&&◌, ◌==◌, ℕ, List, nat_lt, if◌then◌else◌, Option, Some, None}
use Rattle.std.specs.declared.cmp.Ordering.{Ordering}
use Rattle.std.specs.Ordering.{nat_cmp, ordering_then}
use Rattle.std.specs.BTreeMap.{BTreeMap, get}
use Rattle.index_page.specs.Header.{level_of, index_id_of}
use Rattle.page_scan.specs.Found.{lsn_of}
use Rattle.page_scan.specs.Newest.{Newest}
use Rattle.image_listing.specs.declared.catalogue.Version.{Version}
use Rattle.image_listing.specs.Listing.{is_index_page}

-- the index that a page is of, none for a page of another type
abbrev pub index_of : List ℕ → Option ℕ
index_of page = if is_index_page page then Some (index_id_of page) else None

-- what is kept of a version of a page
abbrev pub version_of : List ℕ → Version
version_of page = record {
  lsn = lsn_of page;
  index = index_of page;
  leaf = is_index_page page && (level_of page == 0);
}

-- the version that counts of the one that was kept and one that is met after it
abbrev pub newer : Option Version → Version → Version
newer None version = version
newer (Some kept) version = if nat_lt kept.lsn version.lsn then version else kept

-- a map that has the value at this key, and at others what it had
pub record Puts {K X : Type 0} (cmp : K → K → Ordering) (old now : BTreeMap K X) (key : K) (value : X) : Type 0 where
  pub here : get cmp now key ≡ Some value
  pub others : (q : K) → q ≢ key → get cmp now q ≡ get cmp old q

-- the order of pages: by space and number
abbrev pub page_cmp : ℕ × ℕ → ℕ × ℕ → Ordering
page_cmp a b = ordering_then (nat_cmp a.0 b.0) (nat_cmp a.1 b.1)

-- what is kept of a page is its newest version; of one that is nowhere nothing is kept
abbrev pub IsKept : List ℕ → ℕ → ℕ → Option Version → Type 0
IsKept image space n (Some version) =
    (page : List ℕ) × Newest image space n (Some page) × (version ≡ version_of page)
IsKept image space n None = Newest image space n None

-- the newest version of each page is kept, and nothing of a page that is nowhere
abbrev pub IsCatalogue : List ℕ → BTreeMap (ℕ × ℕ) Version → Type 0
IsCatalogue image pages = (space n : ℕ) → IsKept image space n (get page_cmp pages (space, n))
