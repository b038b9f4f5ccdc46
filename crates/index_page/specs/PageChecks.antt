-- The checks of one index page, in order.
use Rattle.std.specs.Prelude.{ℕ, Bool, List, All, Option}
use Rattle.page_source.specs.declared.rule.Rule.{Rule}
use Rattle.page_source.specs.declared.rule.Rule.TheVariants.{PageHeader, PageEnds, RecordChain, HeapNumbers, FreeList}
use Rattle.page_source.specs.declared.rule.Rule.TheVariants.{Directory, RecordKind, RecordSpelling, RecordRoom}
use Rattle.page_source.specs.declared.rule.Rule.TheVariants.{EmptyPage, KeyOrder}
use Rattle.page_source.specs.Verdict.{Check, Then}
use Rattle.column_values.specs.Types.{Fields}
use Rattle.index_page.specs.Header.{records_of, free_of, heap_of}
use Rattle.index_page.specs.Page.{HasHeader, HasEnds, IsChain, IsFreeList, HasHeapNumbers, IsDirectory, HasKind}
use Rattle.index_page.specs.Page.{AreSpelled, LieApart, MayBeEmpty, KeysRise, is_lowest_first}

-- the free records are the rest of the heap, with heap numbers of their own
pub record HasFreeList (page : List ℕ) : Type 0 where
  pub list : IsFreeList page (records_of page) (free_of page)
  pub numbers : HasHeapNumbers page (heap_of page)

-- the checks of the page
unfoldable pub PageChecks : List ℕ → Fields → Bool → Bool → Bool → Option Rule → Type 0
PageChecks page fields leaf root leftmost =
    Then (Check PageHeader (HasHeader page))
    (Then (Check PageEnds (HasEnds page))
    (Then (Check RecordChain (IsChain page (records_of page)))
    (Then (Check HeapNumbers (HasHeapNumbers page (records_of page)))
    (Then (Check FreeList (HasFreeList page))
    (Then (Check Directory (IsDirectory page (records_of page)))
    (Then (Check RecordKind (All (HasKind page leaf) (records_of page)))
    (Then (Check RecordSpelling (AreSpelled page fields (heap_of page)))
    (Then (Check RecordRoom (LieApart page fields (heap_of page)))
    (Then (Check EmptyPage (MayBeEmpty leaf root (records_of page)))
    (Check KeyOrder (KeysRise page fields (is_lowest_first leaf leftmost) (records_of page))))))))))))
