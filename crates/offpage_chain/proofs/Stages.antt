-- The checks of a chain, one after another.
use Rattle.std.proofs.Common.{◌≡◌, ◌↔◌, ℕ, ◌≤◌, Bool, IsTrue, List, ◌++◌, Some, None, inl, inr, refl, arith}
use Rattle.page_source.specs.declared.rule.Rule.TheVariants.{ChainPlace, ChainLength, TextSpelling}
use Rattle.page_source.specs.declared.checks.Halt.{Halt}
use Rattle.page_source.specs.declared.checks.Halt.TheVariants.{Broken, Source}
use Rattle.page_source.specs.Checks.{HaltsAt}
use Rattle.page_source.specs.Verdict.{EachOf}
use Rattle.column_values.specs.Utf8Reader.{Reader, WasFed, TakesText, IsFed}
use Rattle.offpage_chain.specs.declared.reference.Reference.{Reference}
use Rattle.offpage_chain.specs.Chain.{chain_pages, bytes_on, RefersHere}
use Rattle.offpage_chain.specs.ChainChecks.{PlaceChecks, ChainChecksBy, PartCheck}

-- no byte is stated
pub chain_empty : (file : List ℕ) (Ask : PlaceChecks) (holder : ℕ) (reference : Reference) (taken : ℕ → Bool)
    (IsText : List ℕ
    → Type 0)
    → reference.length ≡ 0
    → ChainChecksBy file Ask holder reference taken IsText (Some (record { rule = ChainLength; page = holder }))
unfolding ChainChecksBy
chain_empty file Ask holder reference taken IsText none = inl ((λ some. omega (arith, none, some)), refl)

-- the reference leads elsewhere
pub chain_elsewhere : (file : List ℕ) (Ask : PlaceChecks) (holder : ℕ) (reference : Reference) (taken : ℕ
    → Bool) (IsText : List ℕ → Type 0)
    → 1 ≤ reference.length → ¬ (RefersHere file reference)
    → ChainChecksBy file Ask holder reference taken IsText (Some (record { rule = ChainPlace; page = holder }))
unfolding ChainChecksBy
chain_elsewhere file Ask holder reference taken IsText some elsewhere = inr (some, inl (elsewhere, refl))

-- a page breaks
pub chain_halts : (file : List ℕ) (Ask : PlaceChecks) (holder : ℕ) (reference : Reference) (taken : ℕ → Bool)
    (IsText : List ℕ
    → Type 0) (halt : Halt)
    → 1 ≤ reference.length → RefersHere file reference
    → HaltsAt halt (EachOf (chain_pages file reference) (PartCheck file Ask holder reference taken))
    → HaltsAt halt (ChainChecksBy file Ask holder reference taken IsText)
unfolding ChainChecksBy
chain_halts file Ask holder reference taken IsText (Broken fault) some here breaks = inr (
  some,
  inr (
    here,
    inl breaks,
  ),
)
chain_halts file Ask holder reference taken IsText Source some here breaks = tt

-- no page breaks, and then the text decides
pub chain_untold : (file : List ℕ) (Ask : PlaceChecks) (holder : ℕ) (reference : Reference) (taken : ℕ → Bool)
    (IsText : List ℕ
    → Type 0)
    → 1 ≤ reference.length → RefersHere file reference
    → EachOf (chain_pages file reference) (PartCheck file Ask holder reference taken) None
    → ¬ (IsText (bytes_on file (chain_pages file reference)))
    → ChainChecksBy file Ask holder reference taken IsText (Some (record { rule = TextSpelling; page = holder }))
unfolding ChainChecksBy
chain_untold file Ask holder reference taken IsText some here holds bad = inr (
  some,
  inr (
    here,
    inr (
      holds,
      (
        bad,
        refl,
      ),
    ),
  ),
)

pub chain_holds : (file : List ℕ) (Ask : PlaceChecks) (holder : ℕ) (reference : Reference) (taken : ℕ → Bool)
    (IsText : List ℕ
    → Type 0)
    → 1 ≤ reference.length → RefersHere file reference
    → EachOf (chain_pages file reference) (PartCheck file Ask holder reference taken) None
    → IsText (bytes_on file (chain_pages file reference))
    → ChainChecksBy file Ask holder reference taken IsText None
unfolding ChainChecksBy
chain_holds file Ask holder reference taken IsText some here holds good = (some, (here, (holds, good)))

-- what the text says of the bytes that it was fed
pub text_says : (old new : Reader) (fed bytes : List ℕ) (result : Bool) → IsFed old new bytes → WasFed old fed
    → ((text : List ℕ) → WasFed new text → IsTrue result ↔ TakesText new text)
    → IsTrue result ↔ TakesText old (fed ++ bytes)
text_says old new fed bytes result f was says =
    let i = says (fed ++ bytes) (f.fed fed was) in
    let j = f.same (fed ++ bytes) in
    ((λ t. j.0 (i.0 t)), (λ t. i.1 (j.1 t)))
