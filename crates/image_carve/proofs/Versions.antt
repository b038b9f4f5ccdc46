-- What is carved, by the newest versions.
use Rattle.std.proofs.Common.{◌≡◌, ◌≤◌, ℕ, List, Option, Some, None, refl, sym, ap, ◌∙◌, subst, inl, inr, arith}
use Rattle.std.proofs.lemmas.Option.{same_Some}
use Rattle.std.specs.Cmp.{nat_cmp_total}
use Rattle.std.specs.FinMap.{get, same_map, nat_cmp-IsAntisymmetric}
use Rattle.page_source.specs.Pages.{page_of}
use Rattle.page_scan.specs.Found.{IsPageOf, IsFound, page_at, lsn_of}
use Rattle.page_scan.specs.Newest.{Newest}
use Rattle.image_carve.specs.Laws.{IsLatest, WhatStoodIsCarved, HasOneCarvedMap, CarvedPagesStand}

latest_is_newest : (image page : List ℕ) (space n o : ℕ) (kept : Option (List ℕ)) → Newest image space n kept
    → IsFound image o space n → page_at image o ≡ page → IsLatest image space n page → kept ≡ Some page
latest_is_newest image page space n o None newest found same latest = absurd (newest o found)
latest_is_newest image page space n o (Some kept) newest found same latest =
    elim (latest newest.0 newest.1.found) [
      | inl older ↦ absurd (omega (arith, older, newest.1.greatest o found, ap lsn_of same))
      | inr is ↦ ap Some (newest.2 ∙ is)
    ]

pub what_stood : WhatStoodIsCarved
what_stood image file space held n carved below is occurs latest =
    let found : IsFound image occurs.0 space n = record {
      place = occurs.1;
      page = subst (λ (p : List ℕ). IsPageOf p space n) (sym occurs.2) is;
    } in
    latest_is_newest image (page_of file n) space n occurs.0 (get held n) (carved n) found occurs.2 latest

one_newest : (image : List ℕ) (space n : ℕ) (a b : Option (List ℕ)) → Newest image space n a → Newest image space n b
    → a ≡ b
one_newest image space n None None first second = refl
one_newest image space n None (Some b) first second = absurd (first second.0 second.1.found)
one_newest image space n (Some a) None first second = absurd (second first.0 first.1.found)
one_newest image space n (Some a) (Some b) first second =
    let above : lsn_of (page_at image second.0) ≤ lsn_of (page_at image first.0) =
    first.1.greatest second.0 second.1.found in
    let below : lsn_of (page_at image first.0) ≤ lsn_of (page_at image second.0) =
    second.1.greatest first.0 first.1.found in
    let one : lsn_of (page_at image second.0) ≡ lsn_of (page_at image first.0) = omega arith in
    let left : first.0 ≤ second.0 = first.1.first second.0 second.1.found one in
    let right : second.0 ≤ first.0 = second.1.first first.0 first.1.found (sym one) in
    let place : first.0 ≡ second.0 = omega arith in
    ap Some (first.2 ∙ ap (page_at image) place ∙ sym second.2)

pub one_map : HasOneCarvedMap
one_map image space a b first second =
    same_map nat_cmp_total nat_cmp-IsAntisymmetric a b
    (λ n. one_newest image space n (get a n) (get b n) (first n) (second n))

newest_stands : (image page : List ℕ) (space n : ℕ) (kept : Option (List ℕ)) → Newest image space n kept
    → kept ≡ Some page → IsPageOf page space n
newest_stands image page space n None newest is = cc
newest_stands image page space n (Some kept) newest is =
    subst (λ (p : List ℕ). IsPageOf p space n) (sym newest.2 ∙ same_Some kept page is) newest.1.found.page

pub pages_stand : CarvedPagesStand
pages_stand image space held n page carved is = newest_stands image page space n (get held n) (carved n) is
