-- One read more of a text that comes in pieces.
use Rattle.std.proofs.Common.{◌≡◌, ℕ, ◌+◌, ◌≤◌, List, ◌++◌, length, take, drop, Option, Some, None, Ok, IfSome, sym}
use Rattle.std.proofs.Common.{ap, ◌∙◌, subst, arith, length-drop, length-append}
use Rattle.std.proofs.Math.Seq.{take-append-add, take-add}
use Rattle.std.proofs.lemmas.List.{take-append-le, length-take-le, drop-drop}
use Rattle.page_source.specs.declared.errors.Failed.{Failed}
use Rattle.page_source.specs.Objects.{TakesBytes, Takes}
use Rattle.command_line.specs.Reading.{Came, CameUpTo}

-- what a told text has left is told
taken_of : (left next : Option (List ℕ)) (rest : List ℕ) (k : ℕ) (new : List ℕ) → left ≡ Some rest
    → TakesBytes {E = Failed} left next (Ok k) new
    → (now : List ℕ) × (next ≡ Some now) × Takes rest now k new
taken_of left next rest k new is takes =
    subst (λ (o : Option (List ℕ)). TakesBytes {E = Failed} o next (Ok k) new) is takes

pub came_more : (text : List ℕ) (left next : Option (List ℕ)) (came k : ℕ) (buffer new after : List ℕ)
    → came ≤ length buffer → k ≤ length new
    → TakesBytes {E = Failed} left next (Ok k) new → Came text left came buffer
    → Came text next (came + k) (take came buffer ++ (new ++ after))
came_more text left next came k buffer new after room within takes before =
    let taken = taken_of left next (drop came text) k new before.rest takes in
    let front : length (take came buffer) ≡ came = length-take-le came buffer room in
    let place : take (came + k) (take came buffer ++ (new ++ after))
    ≡ take (length (take came buffer) + k) (take came buffer ++ (new ++ after)) =
    ap (λ (n : ℕ). take (n + k) (take came buffer ++ (new ++ after))) (sym front) in
    let piece : take k (new ++ after) ≡ take k (drop came text) = take-append-le k new after within ∙ taken.2.bytes in
    record {
      bytes = place ∙ take-append-add (take came buffer) (new ++ after) k
          ∙ ap (λ (t : List ℕ). take came buffer ++ t) piece
          ∙ ap (λ (t : List ℕ). t ++ take k (drop came text)) before.bytes ∙ sym (take-add came k text);
      rest = taken.1 ∙ ap Some (taken.2.rest ∙ drop-drop k came text);
      within = omega (arith, taken.2.within, length-drop came text, before.within);
    }

-- nothing more came, so that was all
pub came_all : (text : List ℕ) (left next : Option (List ℕ)) (came k : ℕ) (buffer new : List ℕ) → k ≡ 0
    → TakesBytes {E = Failed} left next (Ok k) new
    → Came text left came buffer → came ≡ length text
came_all text left next came k buffer new none takes before =
    let taken = taken_of left next (drop came text) k new before.rest takes in
    let empty : length (drop came text) ≡ 0 = ap length (taken.2.ends none) in
    omega (arith, length-drop came text, before.within)

pub came_more_told : (told left next : Option (List ℕ)) (came k : ℕ) (buffer new after : List ℕ)
    → came ≤ length buffer → k ≤ length new
    → TakesBytes {E = Failed} left next (Ok k) new → IfSome told (λ text. Came text left came buffer)
    → IfSome told (λ text. Came text next (came + k) (take came buffer ++ (new ++ after)))
came_more_told None left next came k buffer new after room within takes before = tt
came_more_told (Some text) left next came k buffer new after room within takes before =
    came_more text left next came k buffer new after room within takes before

pub came_all_told : (told left next : Option (List ℕ)) (came k : ℕ) (buffer new after : List ℕ) → k ≡ 0
    → came ≤ length buffer → k ≤ length new
    → TakesBytes {E = Failed} left next (Ok k) new → IfSome told (λ text. Came text left came buffer)
    → IfSome told (λ text. CameUpTo text next came (take came buffer ++ (new ++ after)))
came_all_told None left next came k buffer new after none room within takes before = tt
came_all_told (Some text) left next came k buffer new after none room within takes before =
    let more = came_more text left next came k buffer new after room within takes before in
    let same : came + k ≡ came = omega arith in
    record {
      came = subst (λ (n : ℕ). Came text next n (take came buffer ++ (new ++ after))) same more;
      whole = λ _. came_all text left next came k buffer new none takes before;
    }

-- what came stands within the buffer
pub room_after : (came k : ℕ) (buffer new after : List ℕ) → came ≤ length buffer → k ≤ length new
    → came + k ≤ length (take came buffer ++ (new ++ after))
room_after came k buffer new after room within =
    omega (
      arith,
      length-append (take came buffer) (new ++ after),
      length-append new after,
      length-take-le came buffer room,
    )
