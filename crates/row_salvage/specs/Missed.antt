-- The pages that couldn't be fetched as parts of values while marks were set: each page is fetched so once at the most,
-- when it is marked.
use Rattle.std.specs.Prelude.{◌≡◌, ℕ, Bool, true, false, List, length, All}
use Rattle.space_audit.specs.Marks.{is_in, is_set}
use Rattle.salvage_model.specs.Causes.{RoseBy}

-- a page was marked in between
pub record IsNewly (before after : List Bool) (n : ℕ) : Type 0 where
  pub unmarked : is_set before n ≡ false
  pub marked : is_set after n ≡ true

-- this list says of the pages that were marked in between which of them were missed
abbrev pub Agrees : List Bool → List Bool → List ℕ → (ℕ → Bool) → Type 0
Agrees before after list missed = (n : ℕ) → IsNewly before after n → missed n ≡ is_in list n

-- a fact of the pages that were missed in between, whatever was missed elsewhere; the source counted a fault for each
pub record UnderMissed (before after : List Bool) (faults faults_now : ℕ) (Fact : (ℕ → Bool) → Type 0) : Type 0 where
  pub list : List ℕ
  pub newly : All (IsNewly before after) list
  pub cause : RoseBy faults faults_now (length list)
  pub holds : (missed : ℕ → Bool) → Agrees before after list missed → Fact missed
