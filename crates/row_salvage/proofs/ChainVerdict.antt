-- The checks of a chain, one after another.
use Rattle.std.proofs.Common.{◌≡◌, ℕ, ◌≤◌, Bool, List, [], Option, Some, None, inl, inr, ap, arith}
use Rattle.page_source.specs.declared.rule.Fault.{Fault}
use Rattle.page_source.specs.declared.rule.Rule.TheVariants.{ChainPlace, ChainLength, TextSpelling}
use Rattle.page_source.specs.Verdict.{EachOf}
use Rattle.offpage_chain.specs.declared.reference.Reference.{Reference}
use Rattle.offpage_chain.specs.Chain.{chain_pages, bytes_on}
use Rattle.salvage_model.specs.declared.loss.Loss.TheVariants.{Broken}
use Rattle.salvage_model.specs.ColumnChecks.{Lost, RefersTo, PartCheck, PartsChecksBy}

pub faulty : (a b : Fault) (looked : List ℕ) → a ≡ b
    → ◌≡◌ {A = Lost} (record { loss = Broken a; looked = looked }) (record { loss = Broken b; looked = looked })
faulty a b looked same =
    let made : Fault → Lost = λ fault. record { loss = Broken fault; looked = looked } in ap made same

module _ (file : List ℕ) (missed : ℕ → Bool) (space leaf : ℕ) (reference : Reference) (taken : ℕ → Bool)
    (IsText : List ℕ → Type 0) where
  abbrev pub ChecksAre : Option Lost → Type 0
  ChecksAre = PartsChecksBy file missed space leaf reference taken IsText

  abbrev pages : List ℕ
  pages = chain_pages file reference

  -- no byte is stated
  pub parts_empty : (fault : Fault) → reference.length ≡ 0 → fault ≡ record { rule = ChainLength; page = leaf }
      → ChecksAre (Some (record { loss = Broken fault; looked = [] }))
  unfolding PartsChecksBy
  parts_empty fault none is = inl ((λ some. omega (arith, none, some)), faulty fault _ [] is)

  module _ (some : 1 ≤ reference.length) where
    -- the reference leads elsewhere
    pub parts_elsewhere : (fault : Fault) → ¬ (RefersTo space reference)
        → fault ≡ record { rule = ChainPlace; page = leaf }
        → ChecksAre (Some (record { loss = Broken fault; looked = [] }))
    unfolding PartsChecksBy
    parts_elsewhere fault elsewhere is = inr (some, inl (elsewhere, faulty fault _ [] is))

    module _ (here : RefersTo space reference) where
      -- a page breaks
      pub parts_break : (lost : Lost)
          → EachOf pages (PartCheck file missed space leaf reference taken) (Some lost) → ChecksAre (Some lost)
      unfolding PartsChecksBy
      parts_break lost breaks = inr (some, inr (here, inl breaks))

      -- no page breaks, and then the text decides
      pub parts_untold : (fault : Fault) → EachOf pages (PartCheck file missed space leaf reference taken) None
          → ¬ (IsText (bytes_on file pages)) → fault ≡ record { rule = TextSpelling; page = leaf }
          → ChecksAre (Some (record { loss = Broken fault; looked = pages }))
      unfolding PartsChecksBy
      parts_untold fault holds bad is = inr (some, inr (here, inr (holds, (bad, faulty fault _ pages is))))

      pub parts_hold : EachOf pages (PartCheck file missed space leaf reference taken) None
          → IsText (bytes_on file pages) → ChecksAre None
      unfolding PartsChecksBy
      parts_hold holds good = (some, (here, (holds, good)))
