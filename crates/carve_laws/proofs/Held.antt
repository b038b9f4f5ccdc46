-- Each page of a sound file that isn't known to be free is the same in what was carved of it.
use Rattle.std.proofs.Common.{◌≡◌, ℕ, zero, suc, ◌<◌, ◌≤◌, List, replicate, Option, Some, None}
use Rattle.std.proofs.Common.{refl, sym, ap, ◌∙◌, arith}
use Rattle.std.specs.Prelude.{unwrap_or, ◌≢◌}
use Rattle.std.specs.FinMap.{get}
use Rattle.page_source.specs.Pages.{page_size, page_count, page_of}
use Rattle.page_source.specs.Objects.{PageMap, held_page}
use Rattle.extent_map.specs.Laws.{UsedPagesAreOfExtents}
use Rattle.space_audit.specs.Audit.{IsSoundSpace}
use Rattle.image_carve.specs.Carved.{IsCarved}
use Rattle.image_carve.specs.Laws.{WhatStoodIsCarved, CarvedPagesStand}
use Rattle.leaf_salvage.specs.Unused.{IsUnused}
use Rattle.salvage_laws.proofs.Used.{all_fetched, used_size}
use Rattle.carve_laws.specs.Laws.{IsFileOf, UsedPagesOccur}
use Rattle.carve_laws.proofs.Moves.{IsSame}
use Rattle.carve_laws.proofs.Known.{known_used}

-- the greatest page that is held is below 4,194,304
pub few_held : CarvedPagesStand → (image carved : List ℕ) (space : ℕ) (held : PageMap) → IsCarved image space held
    → IsFileOf held carved → page_count carved ≤ 4194304
few_held stand image carved space held is_carved is_file = by_count (page_count carved) refl
  where
    below : (n : ℕ) (page : Option (List ℕ)) → get held n ≡ page → get held n ≢ None → n < 4194304
    below n None e some = absurd (some e)
    below n (Some page) e some = (stand image space held n page is_carved e).below

    by_count : (count : ℕ) → page_count carved ≡ count → count ≤ 4194304
    by_count zero e = omega arith
    by_count (suc n) e =
        let last = below n (get held n) refl (is_file.last n (omega (arith, e))) in omega (arith, last)

module _ (stood : WhatStoodIsCarved) (stand : CarvedPagesStand) (law : UsedPagesAreOfExtents)
    (image file carved : List ℕ) (space flags : ℕ) (sound : IsSoundSpace file flags) (held : PageMap)
    (occur : UsedPagesOccur image file space) (is_carved : IsCarved image space held) (is_file : IsFileOf held carved)
  where
    held_bytes : (n : ℕ) → n < page_count carved → get held n ≡ Some (page_of file n)
        → page_of carved n ≡ page_of file n
    unfolding held_page
    held_bytes n below has =
        is_file.each n below
        ∙ ap (λ (page : Option (List ℕ)). unwrap_or page (replicate page_size 0)) has

    pub held_same : (n : ℕ) → ¬ (IsUnused file all_fetched n) → IsSame file carved n
    held_same n known =
        let size = used_size law file flags sound.extents n (known_used law file flags sound n known) in
        let within : n < page_count file = omega (arith, size, sound.extents.head.size.within) in
        let page = occur n within known in
        let has = stood image file space held n is_carved within page.is_page page.occurs page.latest in
        let below : n < page_count carved = is_file.all n (λ none. let e = sym has ∙ none in cc) in
        let most = few_held stand image carved space held is_carved is_file in
        record { below = omega (arith, below, most); bytes = held_bytes n below has }
