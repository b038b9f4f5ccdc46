-- The checks of a value, one after another.
use Rattle.std.proofs.Common.{◌↔◌, ℕ, ◌≤◌, Bool, true, List, ◌++◌, Option}
use Rattle.std.proofs.Common.{Some, None, Result, Ok, Err, inl, inr, arith}
use Rattle.page_source.specs.declared.rule.Fault.{Fault}
use Rattle.page_source.specs.declared.checks.Halt.{Halt}
use Rattle.page_source.specs.declared.checks.Halt.TheVariants.{Broken, Source}
use Rattle.page_source.specs.Checks.{Halts}
use Rattle.column_values.specs.declared.kind.ColumnType.{ColumnType}
use Rattle.column_values.specs.Characters.{IsTextOfKind}
use Rattle.column_values.specs.Utf8Reader.{Reader, TakesText, CountsUpTo, Any, Limited, Bad, Good, IsFed}
use Rattle.offpage_chain.specs.declared.reference.Reference.{Reference}
use Rattle.offpage_chain.specs.Reference.{reference_of}
use Rattle.offpage_chain.specs.Chain.{chain_pages, bytes_on}
use Rattle.offpage_chain.specs.ChainChecks.{PlaceChecks, ChainChecksBy}
use Rattle.table_check.specs.Values.{FitsKind, IsTextBehind, ValueChecksBy, front_of}

-- a bound on what was counted
pub counts_most : (text : Reader) (few most : ℕ) → few ≤ most → CountsUpTo few text → CountsUpTo most text
counts_most Any few most h counts = tt
counts_most (Limited limit Bad) few most h counts = tt
counts_most (Limited limit (Good count pending)) few most h counts = omega (arith, h, counts)

-- the checks of a chain speak of its text alone
chain_text : (file : List ℕ) (Ask : PlaceChecks) (leaf : ℕ) (reference : Reference) (taken : ℕ → Bool)
    (A B : List ℕ → Type 0)
    → ((bytes : List ℕ) → A bytes ↔ B bytes) → (v : Option Fault)
    → ChainChecksBy file Ask leaf reference taken A v → ChainChecksBy file Ask leaf reference taken B v
unfolding ChainChecksBy
chain_text file Ask leaf reference taken A B same None checks =
    (checks.0, (checks.1.0, (checks.1.1.0, (same (bytes_on file (chain_pages file reference))).0 checks.1.1.1)))
chain_text file Ask leaf reference taken A B same (Some fault) (inl none) = inl none
chain_text file Ask leaf reference taken A B same (Some fault) (inr (some, inl there)) = inr (some, inl there)
chain_text file Ask leaf reference taken A B same (Some fault) (inr (some, inr (here, inl page))) = inr (
  some,
  inr
      (here, inl page),
)
chain_text file Ask leaf reference taken A B same (Some fault) (inr (some, inr (here, inr (pages, bad)))) =
    inr (some, inr (here, inr (pages, ((λ t. bad.0 ((same (bytes_on file (chain_pages file reference))).1 t)), bad.1))))

-- behind a length that fits, the chain decides
pub value_goes_on : (file : List ℕ) (Ask : PlaceChecks) (leaf : ℕ) (kind : ColumnType) (local : List ℕ)
    (taken : ℕ → Bool)
    (A : List ℕ → Type 0)
    → FitsKind kind local → ((bytes : List ℕ) → A bytes ↔ IsTextBehind kind local bytes) → (result : Result ℕ Halt)
    → Halts result (ChainChecksBy file Ask leaf (reference_of local) taken A)
    → Halts result (ValueChecksBy file Ask leaf kind local true taken)
value_goes_on file Ask leaf kind local taken A fits same (Ok count) checks =
    (fits, chain_text file Ask leaf (reference_of local) taken A (IsTextBehind kind local) same None checks)
value_goes_on file Ask leaf kind local taken A fits same (Err (Broken fault)) checks =
    inr (
      fits,
      chain_text file Ask leaf (reference_of local) taken A (IsTextBehind kind local) same
          (Some fault) checks,
    )
value_goes_on file Ask leaf kind local taken A fits same (Err Source) checks = tt

-- the text that was fed the local bytes
pub text_behind : (kind : ColumnType) (local : List ℕ) (old new : Reader) → ((text : List ℕ) → TakesText old text
    ↔ IsTextOfKind kind text)
    → IsFed old new (front_of local) → (bytes : List ℕ) → TakesText new (front_of local ++ bytes)
    ↔ IsTextBehind kind local bytes
text_behind kind local old new takes feeds bytes =
    let a = feeds.same (front_of local ++ bytes) in
    let b = takes (front_of local ++ bytes) in
    ((λ t. b.0 (a.0 t)), (λ t. a.1 (b.1 t)))
