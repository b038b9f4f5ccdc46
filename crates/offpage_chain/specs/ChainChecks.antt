-- The checks of one externally stored value. `holder` is the leaf with its record, `taken` says of a page that it is
-- in a tree or in a chain before this one, `Ask` what is asked of a page for the chain to go on there, and `IsText`
-- what the bytes of the chain must be as a whole.
use Rattle.std.specs.Prelude.{◌≡◌, ℕ, ◌-◌, ◌<◌, ◌≤◌, ◌↔◌, Bool, false, List, length, All, Option}
use Rattle.page_source.specs.declared.rule.Rule.TheVariants.{ChainPlace, ChainLength, TextSpelling}
use Rattle.page_source.specs.declared.rule.Fault.{Fault}
use Rattle.page_source.specs.Pages.{page_of, fil_null}
use Rattle.page_source.specs.Lists.{before_place, AreDistinct}
use Rattle.page_source.specs.Verdict.{Then, EachOf}
use Rattle.page_source.specs.Answers.{Holds}
use Rattle.fil_frame.specs.Kinds.{blob_kind}
use Rattle.space_header.specs.Header.{size_of}
use Rattle.space_audit.specs.Marks.{seen}
use Rattle.offpage_chain.specs.declared.reference.Reference.{Reference}
use Rattle.offpage_chain.specs.Fetched.{FetchedChecks}
use Rattle.offpage_chain.specs.Chain.{part_length, next_part, chain_pages, bytes_on, total_on, IsPartLength}
use Rattle.offpage_chain.specs.Chain.{IsBlobPage, RefersHere, IsChain}

-- the chain may go on at a page: a blob page of the segment that is new
pub record IsChainPlace (file : List ℕ) (segment : ℕ) (taken : Bool) (n : ℕ) : Type 0 where
  pub blob : IsBlobPage file segment n
  pub new : taken ≡ false

-- the chain may go on at a page of a space that wasn't audited: any page below the size that is new
pub record IsNewPlace (file : List ℕ) (taken : Bool) (n : ℕ) : Type 0 where
  pub below : n < size_of file
  pub new : taken ≡ false

-- what may be asked of a page for a chain to go on there: by the page that leads to it, whether it is taken, its number
abbrev pub PlaceChecks : Type 1
PlaceChecks = ℕ → Bool → ℕ → Option Fault → Type 0

-- what is asked of a page in an audited space: that it is a new blob page of the segment
abbrev pub AuditedPlace : List ℕ → ℕ → PlaceChecks
AuditedPlace file segment holder taken n = Holds ChainPlace holder (IsChainPlace file segment taken n)

-- what is asked of a page in a space that wasn't audited: that it is a new page below the size, its frame and its type
abbrev pub UnauditedPlace : List ℕ → PlaceChecks
UnauditedPlace file holder taken n =
    FetchedChecks file (record { rule = ChainPlace; page = holder }) (IsNewPlace file taken n) blob_kind n

-- the page's part is one of so many bytes that are left, and the chain ends with the last of them
pub record IsChainPart (page : List ℕ) (left : ℕ) : Type 0 where
  pub part : IsPartLength (part_length page)
  pub within : part_length page ≤ left
  pub ended : (next_part page ≡ fil_null) ↔ (part_length page ≡ left)

-- the checks of one page of the chain, where so many bytes are left
abbrev pub PageCheck : List ℕ → PlaceChecks → ℕ → Bool → ℕ → ℕ → Option Fault → Type 0
PageCheck file Ask holder taken left n =
    Then (Ask holder taken n) (Holds ChainLength n (IsChainPart (page_of file n) left))

-- the checks of the page of the chain that comes behind these pages
abbrev pub PartCheck : List ℕ → PlaceChecks → ℕ → Reference → (ℕ → Bool) → List ℕ → ℕ
    → Option Fault → Type 0
PartCheck file Ask holder reference taken before n =
    PageCheck file Ask (before_place holder before (length before)) (seen taken before n)
    (reference.length - total_on file before) n

-- the checks of a chain: of the reference, of its pages one by one, and of their bytes
unfoldable pub ChainChecksBy : List ℕ → PlaceChecks → ℕ → Reference → (ℕ → Bool)
    → (List ℕ → Type 0) → Option Fault → Type 0
ChainChecksBy file Ask holder reference taken IsText =
    Then (Holds ChainLength holder (1 ≤ reference.length))
    (Then (Holds ChainPlace holder (RefersHere file reference))
    (Then (EachOf (chain_pages file reference) (PartCheck file Ask holder reference taken))
    (Holds TextSpelling holder (IsText (bytes_on file (chain_pages file reference))))))

-- the checks of the chain in an audited space
abbrev pub ChainChecks : List ℕ → ℕ → ℕ → Reference → (ℕ → Bool) → (List ℕ → Type 0) → Option Fault → Type 0
ChainChecks file segment holder reference taken IsText =
    ChainChecksBy file (AuditedPlace file segment) holder reference taken IsText

-- a whole value: one chain of new pages, each once, whose bytes are as they must be
pub record IsWhole (file : List ℕ) (segment : ℕ) (reference : Reference) (taken : ℕ → Bool) (IsText : List ℕ → Type 0)
    : Type 0 where
  pub pages : List ℕ
  pub chain : IsChain file segment reference pages
  pub distinct : AreDistinct pages
  pub new : All (λ n. taken n ≡ false) pages
  pub text : IsText (bytes_on file pages)
