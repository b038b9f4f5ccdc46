-- What is ahead in a window after some bytes of it were passed.
use Rattle.std.proofs.Common.{◌≡◌, ℕ, ◌+◌, ◌-◌, ◌≤◌, List, length, take, drop, Option, slice_range, sym, ap, ◌∙◌}
use Rattle.std.proofs.Common.{subst, arith}
use Rattle.std.proofs.lemmas.List.{drop-take, drop-drop, length-take}
use Rattle.page_scan.specs.declared.scanner.FoundPage.{FoundPage}
use Rattle.page_scan.specs.Window.{Looks, SeesNext}

pub drop-slice : (window : List ℕ) (from to n : ℕ) → n ≤ length (slice_range window from to)
    → slice_range window (from + n) to ≡ drop n (slice_range window from to)
drop-slice window from to n within =
    let few : n ≤ to - from = omega (arith, length-take (to - from) (drop from window), within) in
    let count : n + (to - (from + n)) ≡ to - from = omega arith in
    ap (take (to - (from + n))) (sym (drop-drop n from window))
    ∙ sym (drop-take n (to - (from + n)) (drop from window))
    ∙ ap (λ (m : ℕ). drop n (take m (drop from window))) count

pub looks : (window deref : List ℕ) (from to n : ℕ) (found : Option FoundPage) (page now : List ℕ) → deref ≡ window
    → slice_range window from to ≡ now → n ≤ length (slice_range deref from to)
    → SeesNext (slice_range deref from to) n found page → Looks now (slice_range window (from + n) to) found page
looks window deref from to n found page now same view within sees =
    let ahead : slice_range deref from to ≡ now = ap (λ (w : List ℕ). slice_range w from to) same ∙ view in
    let within_now : n ≤ length now = subst (λ (a : List ℕ). n ≤ length a) ahead within in
    let within_view : n ≤ length (slice_range window from to) =
    subst (λ (a : List ℕ). n ≤ length a) (sym view) within_now in (
      n,
      within_now,
      drop-slice window from to n within_view ∙ ap (drop n) view,
      subst (λ (a : List ℕ). SeesNext a n found page) ahead sees,
    )
