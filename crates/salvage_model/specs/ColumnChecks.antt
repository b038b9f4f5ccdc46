-- The checks of one column of a record on a leaf that stands by itself: the first that breaks is what the value is
-- lost by. `missed` are the pages that couldn't be fetched as parts, `taken` says of a page that it was looked at for
-- a value before this one.
use Rattle.std.specs.Prelude.{◌≡◌, ℕ, ◌-◌, ◌<◌, ◌≤◌, Bool, true, false, List, [], ◌∷◌, ◌++◌, length, Option}
use Rattle.page_source.specs.declared.rule.Rule.{Rule}
use Rattle.page_source.specs.declared.rule.Rule.TheVariants.{Frame, Value, ChainPlace, ChainLength, TextSpelling}
use Rattle.page_source.specs.Pages.{page_of}
use Rattle.page_source.specs.Lists.{before_place}
use Rattle.page_source.specs.Verdict.{Check, Then, Where, EachOf}
use Rattle.fil_frame.specs.Kinds.{blob_kind}
use Rattle.fil_frame.specs.Frame.{IsFramed, space_of, kind_of}
use Rattle.column_values.specs.declared.kind.ColumnType.{ColumnType}
use Rattle.space_audit.specs.Marks.{seen}
use Rattle.offpage_chain.specs.declared.reference.Reference.{Reference}
use Rattle.offpage_chain.specs.Reference.{reference_of}
use Rattle.offpage_chain.specs.Chain.{chain_pages, bytes_on, total_on}
use Rattle.offpage_chain.specs.ChainChecks.{IsChainPart}
use Rattle.table_check.specs.Values.{IsTextBehind}
use Rattle.sql_dump.specs.Cells.{CellView, IsSound, local_bytes}
use Rattle.leaf_salvage.specs.Standing.{reach_of}
use Rattle.salvage_model.specs.declared.loss.Loss.{Loss}
use Rattle.salvage_model.specs.declared.loss.Loss.TheVariants.{Broken, Unread}

-- what a value is lost by, and the pages that were looked at for it
pub record Lost : Type 0 where
  pub loss : Loss
  pub looked : List ℕ

-- the condition holds, or else the value is lost by this rule, which names this page
abbrev pub Keeps : List ℕ → Rule → ℕ → Type 0 → Option Lost → Type 0
Keeps looked rule page condition =
    Check (record { loss = Broken (record { rule = rule; page = page }); looked = looked }) condition

-- a page could be fetched, or else the value is lost there
abbrev pub Reaches : List ℕ → (ℕ → Bool) → ℕ → Option Lost → Type 0
Reaches looked missed n = Check (record { loss = Unread n; looked = looked }) (missed n ≡ false)

-- a page of the file that wasn't looked at
pub record IsNewPart (file : List ℕ) (taken : Bool) (n : ℕ) : Type 0 where
  pub below : n < reach_of file
  pub new : taken ≡ false

-- the reference is to a page of this space
pub record RefersTo (space : ℕ) (reference : Reference) : Type 0 where
  pub has_space : reference.space ≡ space
  pub has_offset : reference.offset ≡ 38

-- the checks of the page of a chain that comes after these ones: `holder` leads to it, and so many bytes are left
abbrev pub PartChecks : List ℕ → (ℕ → Bool) → ℕ → ℕ → Bool → ℕ → List ℕ → ℕ → Option Lost → Type 0
PartChecks file missed space holder taken left before n =
    let looked = before ++ n ∷ [] in
    Then (Keeps before ChainPlace holder (IsNewPart file taken n))
    (Then (Reaches looked missed n)
    (Then (Keeps looked Frame n (IsFramed (page_of file n) n space))
    (Then (Keeps looked ChainPlace holder (kind_of (page_of file n) ≡ blob_kind))
    (Keeps looked ChainLength n (IsChainPart (page_of file n) left)))))

-- the checks of the page that comes after these ones of a chain from a leaf
abbrev pub PartCheck : List ℕ → (ℕ → Bool) → ℕ → ℕ → Reference → (ℕ → Bool) → List ℕ → ℕ → Option Lost → Type 0
PartCheck file missed space leaf reference taken before n =
    PartChecks file missed space (before_place leaf before (length before)) (seen taken before n)
    (reference.length - total_on file before) before n

-- the checks of a chain: of the reference, of its pages one by one, and of their bytes
unfoldable pub PartsChecksBy : List ℕ → (ℕ → Bool) → ℕ → ℕ → Reference → (ℕ → Bool) → (List ℕ → Type 0)
    → Option Lost → Type 0
PartsChecksBy file missed space leaf reference taken IsText =
    Then (Keeps [] ChainLength leaf (1 ≤ reference.length))
    (Then (Keeps [] ChainPlace leaf (RefersTo space reference))
    (Then (EachOf (chain_pages file reference) (PartCheck file missed space leaf reference taken))
    (Keeps (chain_pages file reference) TextSpelling leaf (IsText (bytes_on file (chain_pages file reference))))))

-- the checks of the chain of a value with these local bytes
abbrev pub PartsChecks : List ℕ → (ℕ → Bool) → ℕ → ℕ → ColumnType → List ℕ → (ℕ → Bool) → Option Lost → Type 0
PartsChecks file missed space leaf kind local taken =
    PartsChecksBy file missed space leaf (reference_of local) taken (IsTextBehind kind local)

-- a value goes on in pages of its own
pub record GoesOn (cell : CellView) : Type 0 where
  pub some_value : cell.place.null ≡ false
  pub external : cell.place.external ≡ true

-- the checks of a column on leaf number `leaf`, whose space is the one that the leaf names
abbrev pub CellChecks : List ℕ → (ℕ → Bool) → ℕ → CellView → (ℕ → Bool) → Option Lost → Type 0
CellChecks file missed leaf cell taken =
    Then (Keeps [] Value leaf (IsSound cell))
    (Where (GoesOn cell) (PartsChecks file missed (space_of cell.page) leaf cell.kind (local_bytes cell) taken))
