-- What a page is to an index whose rows are looked for: a leaf of it, a page that is lost, or another one.
use Rattle.std.specs.Prelude.{◌≡◌, ℕ, ◌⊎◌, true, List, All, replicate, Option, Some, None}
use Rattle.page_source.specs.declared.rule.Rule.{Rule}
use Rattle.page_source.specs.declared.rule.Rule.TheVariants.{Frame, PageHeader, PageEnds, RecordChain}
use Rattle.page_source.specs.declared.rule.Rule.TheVariants.{HeapNumbers, FreeList, Directory, RecordKind}
use Rattle.page_source.specs.declared.rule.Rule.TheVariants.{RecordSpelling, RecordRoom}
use Rattle.page_source.specs.Verdict.{Check, Then, Where}
use Rattle.fil_frame.specs.Kinds.{index_kind}
use Rattle.fil_frame.specs.Frame.{kind_of}
use Rattle.column_values.specs.Types.{Fields}
use Rattle.index_page.specs.Header.{level_of, index_id_of, records_of, heap_of}
use Rattle.index_page.specs.Page.{HasHeader, HasEnds, IsChain, HasHeapNumbers, IsDirectory, HasKind}
use Rattle.index_page.specs.Page.{AreSpelled, LieApart}
use Rattle.index_page.specs.PageChecks.{HasFreeList}
use Rattle.leaf_salvage.specs.declared.verdict.Verdict.{Verdict}
use Rattle.leaf_salvage.specs.declared.verdict.Verdict.TheVariants.{Other, Lost, Leaf}
use Rattle.leaf_salvage.specs.Standing.{Stands}

-- a page that was never written
abbrev pub IsZeros : List ℕ → Type 0
IsZeros page = page ≡ replicate 16384 0

-- the page says that it is a leaf of this index
pub record IsLeafOf (page : List ℕ) (id : ℕ) : Type 0 where
  pub kind : kind_of page ≡ index_kind
  pub level : level_of page ≡ 0
  pub same : index_id_of page ≡ id

-- the checks of the records of a leaf, in order: that their keys rise isn't asked, nor that there are any
unfoldable pub LeafChecks : List ℕ → Fields → Option Rule → Type 0
LeafChecks page fields =
    Then (Check PageHeader (HasHeader page))
    (Then (Check PageEnds (HasEnds page))
    (Then (Check RecordChain (IsChain page (records_of page)))
    (Then (Check HeapNumbers (HasHeapNumbers page (records_of page)))
    (Then (Check FreeList (HasFreeList page))
    (Then (Check Directory (IsDirectory page (records_of page)))
    (Then (Check RecordKind (All (HasKind page true) (records_of page)))
    (Then (Check RecordSpelling (AreSpelled page fields (heap_of page)))
    (Check RecordRoom (LieApart page fields (heap_of page))))))))))

-- the checks of a page that was written: its frame, and of a leaf of the index its records
abbrev pub WrittenChecks : List ℕ → ℕ → ℕ → Fields → Option Rule → Type 0
WrittenChecks page n id fields =
    Then (Check Frame (Stands page n)) (Where (IsLeafOf page id) (LeafChecks page fields))

-- a leaf that stands whole by itself
pub record IsWholeLeaf (page : List ℕ) (n id : ℕ) (fields : Fields) : Type 0 where
  pub stands : Stands page n
  pub of : IsLeafOf page id
  pub records : LeafChecks page fields None

-- what page n is to the index
abbrev pub LeafVerdict : List ℕ → ℕ → ℕ → Fields → Verdict → Type 0
LeafVerdict page n id fields Other = IsZeros page ⊎ (Stands page n × (¬ (IsLeafOf page id)))
LeafVerdict page n id fields (Lost rule) = (¬ (IsZeros page)) × WrittenChecks page n id fields (Some rule)
LeafVerdict page n id fields Leaf = IsWholeLeaf page n id fields
