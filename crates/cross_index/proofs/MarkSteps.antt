-- Values by their marks.
use Rattle.std.proofs.Common.{◌≡◌, ℕ, zero, suc, ◌+◌, ◌/◌, ◌%◌, ◌<◌, ◌≤◌, ◌==◌, false, List, [], ◌∷◌, ◌++◌}
use Rattle.std.proofs.Common.{length, get_or, map, slice_range, cond, All, refl, sym, ap, subst, ◌∙◌, arith, ◌*◌, true}
use Rattle.std.proofs.Common.{Bool, Option}
use Rattle.std.proofs.Common.{Some, None}
use Rattle.std.proofs.lemmas.List.{get_or_past, map-append}
use Rattle.std.proofs.lemmas.List.Elements.{All-cons}
use Rattle.compact_record.specs.declared.places.Place.{Place}
use Rattle.compact_record.specs.Reading.{cell_at}
use Rattle.cross_index.specs.calls.Kept.{LiesIn, LieTo, places_of_marks, value_start}
use Rattle.cross_index.proofs.CellSteps.{null_place, cells_more}

-- the place of a value by its mark, from here on
abbrev pub marked_place : ℕ → ℕ → Place
marked_place from mark = record { null = mark % 2 == 1; external = false; from = from; until = mark / 2 }

pub length-places : (from : ℕ) (marks : List ℕ) → length (places_of_marks from marks) ≡ length marks
length-places from [] = refl
length-places from (mark ∷ marks) = ap suc (length-places (mark / 2) marks)

pub place_past : (marks : List ℕ) (i : ℕ) → length marks ≤ i
    → null_place ≡ get_or (places_of_marks 0 marks) i null_place
place_past marks i past =
    sym (get_or_past (places_of_marks 0 marks) i null_place (omega (arith, past, length-places 0 marks)))

place_next : (from : ℕ) (marks : List ℕ) (j : ℕ) → j + 1 < length marks
    → marked_place (get_or marks j 0 / 2) (get_or marks (suc j) 0)
    ≡ get_or (places_of_marks from marks) (suc j) null_place
place_next from [] j inside = absurd (omega (arith, inside))
place_next from (mark ∷ []) j inside = absurd (omega (arith, inside))
place_next from (mark ∷ next ∷ marks) zero inside = refl
place_next from (mark ∷ next ∷ marks) (suc j) inside =
    place_next (mark / 2) (next ∷ marks) j (omega (arith, inside))

place_of_mark : (marks : List ℕ) (i : ℕ) → i < length marks
    → marked_place (value_start marks i) (get_or marks i 0) ≡ get_or (places_of_marks 0 marks) i null_place
place_of_mark [] i inside = absurd (omega (arith, inside))
place_of_mark (mark ∷ marks) zero inside = refl
place_of_mark (mark ∷ marks) (suc j) inside = place_next 0 (mark ∷ marks) j (omega (arith, inside))

-- the place of a value, by where it begins and by its mark
pub place_is : (marks : List ℕ) (i from mark : ℕ) → i < length marks → from ≡ value_start marks i
    → mark ≡ get_or marks i 0 → marked_place from mark ≡ get_or (places_of_marks 0 marks) i null_place
place_is marks i from mark inside begins is = rw (begins, is) (place_of_mark marks i inside)

-- where the values begin and end
begins_below : (from : ℕ) (marks : List ℕ) (most : ℕ) → LieTo from marks most → from ≤ most
begins_below from [] most lie = omega (arith, lie)
begins_below from (mark ∷ marks) most lie =
    let rest = begins_below (mark / 2) marks most lie.1 in
    omega (arith, rest, lie.0)

pub all_lie : (from : ℕ) (marks : List ℕ) (most : ℕ) → LieTo from marks most
    → All (LiesIn most) (places_of_marks from marks)
all_lie from [] most lie = λ k d inside. absurd (omega (arith, inside))
all_lie from (mark ∷ marks) most lie =
    All-cons (LiesIn most) (marked_place from mark) (places_of_marks (mark / 2) marks)
    (record { rising = lie.0; inside = begins_below (mark / 2) marks most lie.1 })
    (all_lie (mark / 2) marks most lie.1)

pub place_lies : (marks : List ℕ) (i from mark most : ℕ) → i < length marks → from ≡ value_start marks i
    → mark ≡ get_or marks i 0 → LieTo 0 marks most → LiesIn most (marked_place from mark)
place_lies marks i from mark most inside begins is lie =
    subst (LiesIn most) (sym (place_is marks i from mark inside begins is))
    (all_lie 0 marks most lie i null_place (omega (arith, inside, length-places 0 marks)))

-- one more mark
pub lie_more : (from : ℕ) (marks : List ℕ) (most mark until : ℕ) → LieTo from marks most → most ≤ until
    → mark / 2 ≡ until → LieTo from (marks ++ mark ∷ []) until
lie_more from [] most mark until lie more is = (omega (arith, lie, more, is), is)
lie_more from (first ∷ marks) most mark until lie more is =
    (lie.0, lie_more (first / 2) marks most mark until lie.1 more is)

places_more : (from : ℕ) (marks : List ℕ) (most mark : ℕ) → LieTo from marks most
    → places_of_marks from (marks ++ mark ∷ []) ≡ places_of_marks from marks ++ marked_place most mark ∷ []
places_more from [] most mark lie = ap (λ (n : ℕ). marked_place n mark ∷ []) lie
places_more from (first ∷ marks) most mark lie =
    ap (λ (places : List Place). marked_place from first ∷ places) (places_more (first / 2) marks most mark lie.1)

-- one more value, which is null
pub null_more : (bytes marks now : List ℕ) (most mark : ℕ) → LieTo 0 marks most → mark % 2 ≡ 1
    → now ≡ marks ++ mark ∷ []
    → map (cell_at bytes) (places_of_marks 0 now) ≡ map (cell_at bytes) (places_of_marks 0 marks) ++ None ∷ []
null_more bytes marks now most mark lie odd grown =
    let place = marked_place most mark in
    let null : place.null ≡ true = rw odd refl in
    let cell : cell_at bytes place ≡ None =
    ap (λ (b : Bool). cond b None (Some (slice_range bytes most (mark / 2)))) null in
    ap (λ (list : List ℕ). map (cell_at bytes) (places_of_marks 0 list)) grown
    ∙ ap (map (cell_at bytes)) (places_more 0 marks most mark lie)
    ∙ map-append (cell_at bytes) (places_of_marks 0 marks) (place ∷ [])
    ∙ ap (λ (c : Option (List ℕ)). map (cell_at bytes) (places_of_marks 0 marks) ++ c ∷ []) cell

-- one more value, behind the bytes of the others
pub value_more : (bytes value after marks now : List ℕ) (mark : ℕ) → LieTo 0 marks (length bytes)
    → after ≡ bytes ++ value → mark ≡ 2 * length after → now ≡ marks ++ mark ∷ []
    → map (cell_at after) (places_of_marks 0 now)
    ≡ map (cell_at bytes) (places_of_marks 0 marks) ++ Some value ∷ []
value_more bytes value after marks now mark lie grown even more =
    let some : marked_place (length bytes) mark
    ≡ record { null = false; external = false; from = length bytes; until = length after } =
    rw even (place_even (length bytes) (length after)) in
    ap (λ (list : List ℕ). map (cell_at after) (places_of_marks 0 list)) more
    ∙ ap (map (cell_at after)) (places_more 0 marks (length bytes) mark lie)
    ∙ ap (λ (place : Place). map (cell_at after) (places_of_marks 0 marks ++ place ∷ [])) some
    ∙ cells_more bytes value after (places_of_marks 0 marks) (length bytes) (length after)
    (all_lie 0 marks (length bytes) lie) grown refl refl
  where
    place_even : (from until : ℕ)
        → marked_place from (2 * until) ≡ record { null = false; external = false; from = from; until = until }
    place_even from until =
        let even : 2 * until % 2 ≡ 0 = omega arith in
        let half : 2 * until / 2 ≡ until = omega arith in
        rw (even, half) refl
