-- The holders of pages against the claims of the file, and the owner that they make.
use Rattle.std.proofs.Common.{◌≡◌, ◌≢◌, ◌⊎◌, ◌↔◌, ℕ, zero, suc, ◌+◌, ◌/◌, ◌<◌, ◌≤◌, Bool, true, false, cond, not, eqb}
use Rattle.std.proofs.Common.{◌==◌, List, [], ◌∷◌, ◌++◌, length, get_or, slice_get, map, flat_map, filter, Contains}
use Rattle.std.proofs.Common.{Option, Some, None, refl, sym, ◌∙◌, ap, subst, inl, inr, arith}
use Rattle.std.specs.List.{range_with_len, list_any}
use Rattle.std.proofs.lemmas.List.{map-append}
use Rattle.std.proofs.lemmas.List.Elements.{Contains-append_cases, Contains-append_right, Contains-append_left}
use Rattle.page_source.specs.Pages.{fil_null}
use Rattle.page_source.specs.Lists.{times_in}
use Rattle.page_source.proofs.Members.{contains_none, contains_here, contains_there, contains_cases, filter_contains}
use Rattle.page_source.proofs.Members.{contains_range, distinct_range}
use Rattle.page_source.proofs.Times.{one_if, times_append, times_filter, times_once}
use Rattle.space_header.specs.declared.address.Address.{Address}
use Rattle.space_header.specs.Header.{limit_of}
use Rattle.extent_map.specs.Extents.{is_system_page}
use Rattle.inode_segments.specs.Inodes.{inode_of, inode_pages, segments, slot_pages}
use Rattle.space_audit.specs.declared.owner.Owner.{Owner}
use Rattle.space_audit.specs.declared.owner.Owner.TheVariants.{System, InodePage, Used}
use Rattle.space_audit.specs.Owners.{system_pages}
use Rattle.space_audit.specs.Audit.{fragment_claims}
use Rattle.space_audit.specs.Holders.{inode_holder, Claim, no_holder, many_holders, held_after, claims_of, inode_claims}
use Rattle.space_audit.specs.Holders.{claims_from, claims_in, IsOnce}
use Rattle.space_audit.proofs.Held.{claimed_pages, Holders, Holder, once_from_holder, holder_from_once, held_one}

pub pages_claimed : (who : ℕ) (xs : List ℕ)
    → claimed_pages (map (λ n. let c : Claim = record { page = n; who = who } in c) xs) ≡ xs
pages_claimed who [] = refl
pages_claimed who (x ∷ xs) = ap (λ ys. x ∷ ys) (pages_claimed who xs)

slots_claimed : (file : List ℕ) (s : ℕ) (place : Address)
    → claimed_pages (claims_of s (inode_of file place).slots) ≡ slot_pages file place
unfolding slot_pages
slots_claimed file s place = pages_claimed s (filter (λ slot. not (slot == fil_null)) (inode_of file place).slots)

segments_claimed : (file : List ℕ) (s : ℕ) (places : List Address)
    → claimed_pages (claims_from file s places) ≡ flat_map (slot_pages file) places
segments_claimed file s [] = refl
segments_claimed file s (place ∷ places) =
    map-append (λ (c : Claim). c.page) (claims_of s (inode_of file place).slots) (claims_from file (suc s) places)
    ∙ (ap (λ xs. xs ++ claimed_pages (claims_from file (suc s) places)) (slots_claimed file s place)
    ∙ ap (λ xs. slot_pages file place ++ xs) (segments_claimed file (suc s) places))

all_claimed : (file : List ℕ) → claimed_pages (claims_in file) ≡ inode_pages file ++ flat_map (slot_pages file)
    (segments file)
unfolding claims_in
all_claimed file =
    map-append (λ (c : Claim). c.page) (inode_claims (inode_pages file)) (claims_from file 0 (segments file))
    ∙ (ap (λ xs. xs ++ claimed_pages (claims_from file 0 (segments file)))
    (pages_claimed inode_holder (inode_pages file))
    ∙ ap (λ xs. inode_pages file ++ xs) (segments_claimed file 0 (segments file)))

system_times : (file : List ℕ) (n : ℕ) → n < limit_of file
    → times_in (system_pages file) n ≡ one_if (is_system_page n)
unfolding system_pages
system_times file n h =
    times_filter is_system_page (range_with_len 0 (limit_of file)) n
    ∙ ap (λ k. cond (is_system_page n) k 0) (times_once (range_with_len 0 (limit_of file)) n
    (distinct_range (limit_of file)) (contains_range (limit_of file) n h))

-- the claims on a page, by the holders
pub fragment_times : (file : List ℕ) (n : ℕ) → n < limit_of file
    → times_in (fragment_claims file) n ≡ one_if (is_system_page n) + times_in (claimed_pages (claims_in file)) n
unfolding fragment_claims
fragment_times file n h =
    let a = times_append (system_pages file ++ inode_pages file) (flat_map (slot_pages file) (segments file)) n in
    let b = times_append (system_pages file) (inode_pages file) n in
    let c = times_append (inode_pages file) (flat_map (slot_pages file) (segments file)) n in
    let d = ap (λ xs. times_in xs n) (all_claimed file) in
    let s = system_times file n h in
    omega (arith, a, b, c, d, s)

pub once_is_claimed : (file : List ℕ) (n holder : ℕ) → n < limit_of file → Holders (claims_in file)
    → holder ≡ held_after no_holder (claims_in file) n
    → IsOnce (is_system_page n) holder ↔ (times_in (fragment_claims file) n ≡ 1)
once_is_claimed file n holder h w e = (
  λ o. fragment_times file n h ∙ once_from_holder (claims_in file) n (is_system_page n) w
      (subst (λ k. IsOnce (is_system_page n) k) e o),
  λ t. subst (λ k. IsOnce (is_system_page n) k) (sym e) (holder_from_once (claims_in file) n (is_system_page n) w
      (sym (fragment_times file n h) ∙ t)),
)

-- whose claim it is: an inode page's, or that of a segment with a slot for the page
pub record SlotClaim (file : List ℕ) (start : ℕ) (places : List Address) (c : Claim) : Type 0 where
  pub at : ℕ
  pub place : Address
  pub place_is : slice_get places at ≡ Some place
  pub who_is : c.who ≡ start + at
  pub slot : Contains (slot_pages file place) c.page

pub mapped : (who : ℕ) (xs : List ℕ) (c : Claim)
    → Contains (map (λ n. let d : Claim = record { page = n; who = who } in d) xs) c
    → (c.who ≡ who) × Contains xs c.page
mapped who [] c h = absurd (contains_none c h)
mapped who (x ∷ xs) c h = elim (contains_cases (record { page = x; who = who })
    (map (λ n. let d : Claim = record { page = n; who = who } in d) xs) c h) [
      | inl e ↦ (
        ap (λ (d : Claim). d.who) (sym e),
        subst (λ k. Contains (x ∷ xs) k) (ap (λ (d : Claim). d.page) e)
            (contains_here x xs),
      )
      | inr k ↦ let r = mapped who xs c k in (r.0, contains_there x xs c.page r.1)
    ]

of_slot : (file : List ℕ) (s : ℕ) (place : Address) (c : Claim)
    → Contains (claims_of s (inode_of file place).slots) c → (c.who ≡ s) × Contains (slot_pages file place) c.page
unfolding slot_pages
of_slot file s place c h = mapped s (filter (λ slot. not (slot == fil_null)) (inode_of file place).slots) c h

of_segment : (file : List ℕ) (s : ℕ) (places : List Address) (c : Claim) → Contains (claims_from file s places) c
    → SlotClaim file s places c
of_segment file s [] c h = absurd (contains_none c h)
of_segment file s (place ∷ places) c h = elim (Contains-append_cases (claims_of s (inode_of file place).slots)
    (claims_from file (suc s) places) c h) [
      | inl here ↦ let r = of_slot file s place c here in record
          { at = 0; place = place; place_is = refl; who_is = omega (arith, r.0); slot = r.1 }
      | inr there ↦ let r = of_segment file (suc s) places c there in record
          { at = suc r.at; place = r.place; place_is = r.place_is; who_is = omega (arith, r.who_is); slot = r.slot }
    ]

pub whose : (file : List ℕ) (c : Claim) → Contains (claims_in file) c
    → ((c.who ≡ inode_holder) × Contains (inode_pages file) c.page) ⊎ SlotClaim file 0 (segments file) c
unfolding claims_in
whose file c h = elim (Contains-append_cases (inode_claims (inode_pages file)) (claims_from file 0 (segments file))
    c h) [
      | inl inode ↦ inl (mapped inode_holder (inode_pages file) c inode)
      | inr slot ↦ inr (of_segment file 0 (segments file) c slot)
    ]
