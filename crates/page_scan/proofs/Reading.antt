-- One read more into a window.
use Rattle.std.proofs.Common.{◌≡◌, ℕ, ◌+◌, ◌≤◌, List, ◌++◌, length, take, drop, Option, Some, None, Ok, sym}
use Rattle.std.proofs.Common.{ap, ◌∙◌, arith, append_assoc, length-append}
use Rattle.std.proofs.Math.Seq.{take-append-add}
use Rattle.std.proofs.lemmas.List.{take-append-le, length-take-le, take-append-drop}
use Rattle.page_source.specs.declared.errors.Failed.{Failed}
use Rattle.page_source.specs.Objects.{TakesBytes}
use Rattle.page_scan.specs.Scan.{rest_of}
use Rattle.page_scan.specs.Window.{HasNothingLeft}

-- what came stands behind what was there
came_more : (window new after : List ℕ) (came k : ℕ) → came ≤ length window → k ≤ length new
    → take (came + k) (take came window ++ (new ++ after)) ≡ take came window ++ take k new
came_more window new after came k room within =
    let front : length (take came window) ≡ came = length-take-le came window room in
    let place : take (came + k) (take came window ++ (new ++ after))
    ≡ take (length (take came window) + k) (take came window ++ (new ++ after)) =
    ap (λ (n : ℕ). take (n + k) (take came window ++ (new ++ after))) (sym front) in
    place ∙ take-append-add (take came window) (new ++ after) k
    ∙ ap (λ (t : List ℕ). take came window ++ t) (take-append-le k new after within)

-- what is ahead and what is left stay the same rest
pub rest_more : (start left next : Option (List ℕ)) (window new after : List ℕ) (came k : ℕ)
    → came ≤ length window → k ≤ length new → TakesBytes {E = Failed} left next (Ok k) new
    → rest_of (take came window) left ≡ start
    → rest_of (take (came + k) (take came window ++ (new ++ after))) next ≡ start
rest_more start None next window new after came k room within takes before =
    ap (rest_of (take (came + k) (take came window ++ (new ++ after)))) takes ∙ before
rest_more start (Some old) next window new after came k room within takes before =
    let now = take (came + k) (take came window ++ (new ++ after)) in
    let told : rest_of now next ≡ Some (now ++ takes.0) = ap (rest_of now) takes.1 in
    let front : now ≡ take came window ++ take k old =
    came_more window new after came k room within ∙ ap (λ (t : List ℕ). take came window ++ t) takes.2.bytes in
    let whole : now ++ takes.0 ≡ take came window ++ old =
    ap (λ (t : List ℕ). t ++ takes.0) front ∙ append_assoc (take came window) (take k old) takes.0
    ∙ ap (λ (t : List ℕ). take came window ++ t)
    (ap (λ (t : List ℕ). take k old ++ t) takes.2.rest ∙ take-append-drop k old) in
    told ∙ ap Some whole ∙ before

-- what came stands within the window
pub room_more : (window new after : List ℕ) (came k : ℕ) → came ≤ length window → k ≤ length new
    → came + k ≤ length (take came window ++ (new ++ after))
room_more window new after came k room within =
    omega (
      arith,
      length-append (take came window) (new ++ after),
      length-append new after,
      length-take-le came window room,
    )
