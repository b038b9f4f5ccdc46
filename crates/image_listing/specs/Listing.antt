-- What stands in an image: of each space how many pages, and of each of its indexes.
use Rattle.std.specs.Prelude.{◌≡◌, ◌<◌, ◌⊎◌, ◌==◌, ◌&&◌, ℕ, ⊤, Bool, true, IsTrue, Option, Some, None}
use Rattle.std.specs.Prelude.{List, [], ◌++◌, length, map, filter, flat_map, codes, decimal}
use Rattle.std.specs.List.{All, AllPairs, Contains}
use Rattle.fil_frame.specs.Kinds.{index_kind}
use Rattle.fil_frame.specs.Frame.{kind_of}
use Rattle.index_page.specs.Header.{level_of, index_id_of}
use Rattle.page_scan.specs.Found.{IsFound, lsn_of}
use Rattle.page_scan.specs.Newest.{Newest, IsGreatest}

-- a page of a space that is found, in its newest version
pub record Sight : Type 0 where
  pub space : ℕ
  pub number : ℕ
  pub page : List ℕ

-- the order of pages: by space, and by number in a space
abbrev pub ComesBefore : Sight → Sight → Type 0
ComesBefore a b = (a.space < b.space) ⊎ ((a.space ≡ b.space) × (a.number < b.number))

-- the page is one that is found with this space and number
abbrev pub IsSeen : List Sight → ℕ → ℕ → Type 0
IsSeen sights space n = (sight : Sight) × Contains sights sight × (sight.space ≡ space) × (sight.number ≡ n)

-- all pages of all spaces that are found, each in its newest version
pub record AreSights (image : List ℕ) (sights : List Sight) : Type 0 where
  pub rise : AllPairs ComesBefore sights
  pub newest : All (λ sight. Newest image sight.space sight.number (Some sight.page)) sights
  pub all : (o space n : ℕ) → IsFound image o space n → IsSeen sights space n

-- a line counts the pages of a space, or those of one of its indexes: all of them, its leaves, and their greatest LSN
pub record Line : Type 0 where
  pub space : ℕ
  pub index : Option ℕ
  pub leaves : ℕ
  pub pages : ℕ
  pub newest : ℕ

abbrev pub is_index_page : List ℕ → Bool
is_index_page page = kind_of page == index_kind

-- the page is of the index, if one is given
abbrev pub is_of_index : Option ℕ → List ℕ → Bool
is_of_index None page = true
is_of_index (Some id) page = is_index_page page && (index_id_of page == id)

-- the line of a space, or of one of its indexes, counts this page
abbrev pub is_counted : ℕ → Option ℕ → Sight → Bool
is_counted space index sight = (sight.space == space) && is_of_index index sight.page

abbrev pub is_leaf : Sight → Bool
is_leaf sight = is_index_page sight.page && (level_of sight.page == 0)

-- the pages that a line counts
abbrev pub counted_by : Line → List Sight → List Sight
counted_by line sights = filter (is_counted line.space line.index) sights

-- the line of some pages, at least one
pub record IsLine (sights : List Sight) (line : Line) : Type 0 where
  pub pages : line.pages ≡ length (counted_by line sights)
  pub leaves : line.leaves ≡ length (filter is_leaf (counted_by line sights))
  pub newest : IsGreatest (map (λ (sight : Sight). lsn_of sight.page) (counted_by line sights)) line.newest

-- a space comes before its indexes, and these in the order of their ids
abbrev pub ComesFirst : Option ℕ → Option ℕ → Type 0
ComesFirst None (Some id) = ⊤
ComesFirst (Some one) (Some other) = one < other
ComesFirst index None = ⊥

abbrev pub StandsBefore : Line → Line → Type 0
StandsBefore a b = (a.space < b.space) ⊎ ((a.space ≡ b.space) × ComesFirst a.index b.index)

-- there is a line of the space, or of its index
abbrev pub HasLine : List Line → ℕ → Option ℕ → Type 0
HasLine lines space index = (line : Line) × Contains lines line × (line.space ≡ space) × (line.index ≡ index)

-- the lines of what is found in an image: one for each space and each index of which there is a page
pub record IsListing (image : List ℕ) (lines : List Line) : Type 0 where
  pub sights : List Sight
  pub are : AreSights image sights
  pub rise : AllPairs StandsBefore lines
  pub each : All (IsLine sights) lines
  pub all : (space : ℕ) (index : Option ℕ) (sight : Sight) → Contains sights sight
      → IsTrue (is_counted space index sight) → HasLine lines space index

-- a number after its name
abbrev pub counted : List ℕ → ℕ → List ℕ
counted name n = name ++ decimal n

-- the words of a line that has an index
abbrev pub index_text : Option ℕ → ℕ → List ℕ
index_text None leaves = []
index_text (Some id) leaves = counted (codes " index ") id ++ counted (codes " leaves ") leaves

abbrev pub counts_text : ℕ → ℕ → List ℕ
counts_text pages newest = counted (codes " pages ") pages ++ counted (codes " newest ") newest ++ codes "\n"

abbrev pub line_text : Line → List ℕ
line_text line =
    counted (codes "space ") line.space ++ index_text line.index line.leaves ++ counts_text line.pages line.newest

-- the text of a listing
unfoldable pub listing_text : List Line → List ℕ
listing_text lines = flat_map line_text lines
