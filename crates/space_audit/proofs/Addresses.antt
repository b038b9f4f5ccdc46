-- Addresses as numbers.
use Rattle.std.proofs.Common.{◌≡◌, ℕ, zero, suc, ◌+◌, ◌*◌, ◌<◌, Bool, true, false, cond, not, eqb, ◌==◌, ◌&&◌, List, []}
use Rattle.std.proofs.Common.{◌∷◌, ◌++◌, length, get_or, map, take, All, refl, sym, ◌∙◌, ap, subst, inl, inr, arith}
use Rattle.std.proofs.lemmas.Bool.{cases_lt}
use Rattle.std.proofs.lemmas.Bool.Decides.{eqb_tells}
use Rattle.std.proofs.lemmas.List.{map-append, take_more}
use Rattle.space_header.specs.declared.address.Address.{Address}
use Rattle.space_audit.specs.Numbering.{place_in}
use Rattle.space_audit.specs.Space.{address_key, HasSmallOffset, is_address, segment_with_address}

same_key : (a b : Address) → HasSmallOffset a → HasSmallOffset b
    → eqb (address_key b) (address_key a) ≡ is_address a b
same_key a b s t = elim (eqb_tells (address_key b) (address_key a)) [
  | inl key ↦ elim (eqb_tells a.page b.page) [
    | inr page ↦ absurd (page.1 (omega (arith, key.1, s, t)))
    | inl page ↦ elim (eqb_tells a.offset b.offset) [
      | inr offset ↦ absurd (offset.1 (omega (arith, key.1, page.1)))
      | inl offset ↦ rw (key.0, page.0, offset.0) refl
    ]
  ]
  | inr key ↦ elim (eqb_tells a.page b.page) [
    | inr page ↦ rw (key.0, page.0) refl
    | inl page ↦ elim (eqb_tells a.offset b.offset) [
      | inr offset ↦ rw (key.0, page.0, offset.0) refl
      | inl offset ↦ absurd (key.1 (omega (arith, page.1, offset.1)))
    ]
  ]
]

pub place_of_key : (places : List Address) (a : Address) → All HasSmallOffset places → HasSmallOffset a
    → place_in (map address_key places) (address_key a) ≡ segment_with_address places a
place_of_key [] a s t = refl
place_of_key (x ∷ places) a s t =
    let here : eqb (address_key x) (address_key a) ≡ is_address a x = same_key a x t (s 0 x (omega arith)) in
    let rest = place_of_key places a (λ k d l. s (suc k) d (omega (arith, l))) t in
    ap (λ b. cond (not b) (1 + place_in (map address_key places) (address_key a)) 0) here
    ∙ ap (λ n. cond (not (is_address a x)) (1 + n) 0) rest

pub keys_more : (places : List Address) (s : ℕ) (place : Address) → s < length places → get_or places s place ≡ place
    → map address_key (take s places) ++ address_key place ∷ [] ≡ map address_key (take (s + 1) places)
keys_more places s place l at =
    sym (ap (map address_key) (take_more places s place l ∙ ap (λ p. take s places ++ p ∷ []) at)
    ∙ map-append address_key (take s places) (place ∷ []))

pub small_more : (places : List Address) (s : ℕ) (place : Address) → ((d : Address) → get_or places s d ≡ place)
    → HasSmallOffset place
    → ((k : ℕ) (d : Address) → k < s → HasSmallOffset (get_or places k d)) → (k : ℕ) (d : Address) → k < s + 1
    → HasSmallOffset (get_or places k d)
small_more places s place at small h k d l = elim (cases_lt k s) [
  | inl below ↦ h k d below
  | inr above ↦ let e : s ≡ k = omega (arith, l, above) in
      subst (λ i. HasSmallOffset (get_or places i d)) e (subst HasSmallOffset (sym (at d)) small)
]
