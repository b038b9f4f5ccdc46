-- Laws of the definitions, each the contract of a function in the module of laws.
use Rattle.std.specs.Prelude.{◌≡◌, ℕ, Bool, true, List, All, None}
use Rattle.column_values.specs.Types.{Fields}
use Rattle.index_page.specs.Header.{records_of, free_of, heap_of}
use Rattle.index_page.specs.Page.{HasHeader, IsChain, IsFreeList, AreSpelled, HasRoom, IsIndexPage}
use Rattle.leaf_salvage.specs.declared.verdict.Verdict.{Verdict}
use Rattle.leaf_salvage.specs.Leaf.{LeafChecks, LeafVerdict}

-- the records of a leaf can be read, those of the chain and the free ones: each is spelled, and lies on the page
pub record HasReadable (page : List ℕ) (fields : Fields) : Type 0 where
  pub header : HasHeader page
  pub is_chain : IsChain page (records_of page)
  pub is_free : IsFreeList page (records_of page) (free_of page)
  pub spelled : AreSpelled page fields (heap_of page)
  pub room : All (HasRoom page fields) (heap_of page)

-- the records of a leaf can be read if the checks of the leaf hold
abbrev pub WholeLeavesCanBeRead : Type 0
WholeLeavesCanBeRead = (page : List ℕ) (fields : Fields) → LeafChecks page fields None → HasReadable page fields

-- the checks of a leaf hold on each index page that is a leaf
abbrev pub IndexLeavesAreWhole : Type 0
IndexLeavesAreWhole =
    (page : List ℕ) (fields : Fields) (root leftmost : Bool)
    → IsIndexPage page fields true root leftmost (records_of page) → LeafChecks page fields None

-- a page has at most one verdict
abbrev pub HasOneVerdict : Type 0
HasOneVerdict =
    (page : List ℕ) (n id : ℕ) (fields : Fields) (a b : Verdict) → LeafVerdict page n id fields a
    → LeafVerdict page n id fields b → a ≡ b
