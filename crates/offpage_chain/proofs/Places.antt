-- Whether a chain may go on at a page.
use Rattle.std.proofs.Common.{◌≡◌, ◌↔◌, ℕ, ◌<◌, ◌≤◌, Bool, IsTrue, true, false, not, nat_lt, List, refl, sym, ap, ◌∙◌}
use Rattle.std.proofs.Common.{arith}
use Rattle.std.proofs.lemmas.Bool.{false≢true, true≢false, ltb-true}
use Rattle.space_header.specs.declared.header.SpaceHeader.{SpaceHeader}
use Rattle.space_header.specs.Header.{size_of, header_of}
use Rattle.extent_map.specs.Head.{HasHeader}
use Rattle.offpage_chain.specs.ChainChecks.{IsNewPlace}

pub size_is : (file : List ℕ) (header : SpaceHeader) → HasHeader file header → header.size ≡ size_of file
unfolding header_of
size_is file header has = ap (λ (h : SpaceHeader). h.size) has.same

module _ (file : List ℕ) (header : SpaceHeader) (has : HasHeader file header) (taken : Bool) (n : ℕ) where
  pub place_below : (b : Bool) → b ≡ taken → n < header.size → IsTrue (not b) ↔ IsNewPlace file taken n
  place_below true e below = ((λ t. absurd (false≢true t)), (λ p. absurd (true≢false (e ∙ p.new))))
  place_below false e below =
      ((λ t. record { below = let s = size_is file header has in omega arith; new = sym e }), (λ p. refl))

  pub place_beyond : header.size ≤ n → IsTrue (nat_lt n header.size) ↔ IsNewPlace file taken n
  place_beyond beyond = (
    (λ t. let less = ltb-true n header.size t in absurd (omega arith)),
    (λ p. let s = size_is file header has in let b = p.below in absurd (omega arith)),
  )
