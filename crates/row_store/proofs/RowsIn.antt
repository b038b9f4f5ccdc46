-- One more row behind those in memory.
use Rattle.std.proofs.Common.{◌≡◌, ℕ, zero, suc, ◌+◌, ◌-◌, ◌<◌, ◌≤◌, List, [], ◌∷◌, ◌++◌, length, map, take, drop}
use Rattle.std.specs.Bool.{beq}
use Rattle.std.proofs.Common.{Bool, not, ◌&&◌, nat_eq, length-drop}
use Rattle.std.proofs.Common.{get_or, true, false, refl, sym, ap, ◌∙◌, arith, add-zero, subst, length-append}
use Rattle.std.specs.List.{All}
use Rattle.std.proofs.lemmas.List.{get_or-map, length-map, length-take-le, drop-append-le, drop_at, drop-take}
use Rattle.std.proofs.lemmas.List.{take-take}
use Rattle.std.proofs.lemmas.List.{map-append, take-map, drop-map, take_more_same, get_or-drop}
use Rattle.std.proofs.lemmas.Bool.{and_parts, not-false, eqb-true}
use Rattle.std.proofs.lemmas.List.Elements.{All-append, All-cons, All-nil, All-head, All-tail}
use Rattle.row_layout.specs.StoredRow.{Stored, stored_at}
use Rattle.row_layout.specs.HoldsValues.{stored_in}
use Rattle.row_store.specs.declared.marks.FieldSpot.{FieldSpot}
use Rattle.row_store.specs.declared.marks.Mark.{Mark}
use Rattle.row_store.specs.declared.stored.RowSpan.{RowSpan}
use Rattle.row_store.specs.declared.stored.Lists.{Lists}
use Rattle.row_store.specs.calls.Stored.{AreSpots, spot_at, spot_start, field_in, row_of}
use Rattle.row_store.specs.calls.Arena.{Arena, Span, AddsFields, AreRowsIn, LiesIn, spot_of, spots_in}
use Rattle.row_store.specs.calls.Arena.{bytes_in, span_at, rows_in, span_of, arena_of}
use Rattle.row_store.proofs.Ranges.{map_ranges, slice_taken}
use Rattle.row_store.proofs.Spots.{length-row, within_spots, field_seen}
use Rattle.page_source.proofs.Lists.{slice_range_append}

abbrev no_spot : FieldSpot
no_spot = record { null = true; off = false; end = 0 }

-- what the prover reads past the end of a list
abbrev empty_spot : FieldSpot
empty_spot = record { null = false; off = false; end = 0 }

-- no field ends behind the last one
pub below_last : (spots : List FieldSpot) (bytes : List ℕ) (i n : ℕ) → AreSpots spots bytes → i + n < length spots
    → (spot_at spots i).end ≤ (spot_at spots (i + n)).end
below_last spots bytes i zero are inside =
    let e = ap (λ (k : ℕ). (spot_at spots k).end) (add-zero i) in omega arith
below_last spots bytes i (suc n) are inside =
    let before = below_last spots bytes i n are (omega arith) in
    let step : (spot_at spots (i + n)).end ≤ (spot_at spots (suc (i + n))).end =
    are.rising (suc (i + n)) (omega arith) in
    let e : i + suc n ≡ suc (i + n) = omega arith in
    let same = ap (λ (k : ℕ). (spot_at spots k).end) e in
    omega arith

pub ends_within : (spots : List FieldSpot) (bytes : List ℕ) (i : ℕ) → AreSpots spots bytes → i < length spots
    → (spot_at spots i).end ≤ spot_start spots (length spots)
ends_within spots bytes i are inside = last (length spots) refl
  where
    last : (n : ℕ) → length spots ≡ n → (spot_at spots i).end ≤ spot_start spots n
    last zero none = absurd (omega arith)
    last (suc n) all =
        let e : i + (n - i) ≡ n = omega arith in
        let same = ap (λ (k : ℕ). (spot_at spots k).end) e in
        let below = below_last spots bytes i (n - i) are (omega arith) in
        omega arith

pub last_within : (spots : List FieldSpot) (bytes : List ℕ) → AreSpots spots bytes
    → spot_start spots (length spots) ≤ length bytes
last_within spots bytes are = last (length spots) refl
  where
    last : (n : ℕ) → length spots ≡ n → spot_start spots n ≤ length bytes
    last zero none = omega arith
    last (suc n) all = are.inside n (omega arith)

-- where a field begins, by the mark before it
pub start_behind : (marks : List Mark) (k : ℕ) (d : Mark) → (k ≡ 0 → ⊥) → k ≤ length marks
    → (spot_of (get_or marks (k - 1) d)).end ≡ spot_start (map spot_of marks) k
start_behind marks zero d some within = absurd (some refl)
start_behind marks (suc k) d some within =
    let e : suc k - 1 ≡ k = omega arith in
    ap (λ (n : ℕ). (spot_of (get_or marks n d)).end) e
    ∙ ap (λ (s : FieldSpot). s.end) (sym (get_or-map spot_of marks k d no_spot (omega arith)))

-- one more mark is that of a field
spot_same : (a b : FieldSpot) → false ≡ not (beq a.null b.null && (beq a.off b.off && nat_eq a.end b.end)) → a ≡ b
spot_same a b test =
    let all = and_parts (beq a.null b.null) (beq a.off b.off && nat_eq a.end b.end) (not-false _ (sym test)) in
    let rest = and_parts (beq a.off b.off) (nat_eq a.end b.end) all.1 in
    ap (λ (null : Bool). let s : FieldSpot = record { null = null; off = a.off; end = a.end } in s)
    (bool_same a.null b.null all.0)
    ∙ ap (λ (off : Bool). let s : FieldSpot = record { null = b.null; off = off; end = a.end } in s)
    (bool_same a.off b.off rest.0)
    ∙ ap (λ (end : ℕ). let s : FieldSpot = record { null = b.null; off = b.off; end = end } in s)
    (eqb-true a.end b.end rest.1)
  where
    bool_same : (x y : Bool) → beq x y ≡ true → x ≡ y
    bool_same true true e = refl
    bool_same true false e = sym e
    bool_same false true e = e
    bool_same false false e = refl

pub marked_more : (marks : List Mark) (fields : List FieldSpot) (first i : ℕ) (d : Mark) (spot : FieldSpot)
    → i < length fields → first + length fields ≤ length marks
    → take i (drop first (map spot_of marks)) ≡ take i fields → spot ≡ spot_of (get_or marks (first + i) d)
    → false ≡ not (beq spot.null (get_or fields i empty_spot).null && (beq spot.off (get_or fields i empty_spot).off
    && nat_eq spot.end (get_or fields i empty_spot).end))
    → take (i + 1) (drop first (map spot_of marks)) ≡ take (i + 1) fields
marked_more marks fields first i d spot within inside before is test =
    let spots = map spot_of marks in
    let long = length-map marks spot_of in
    let left = length-drop first spots in
    take_more_same (drop first spots) fields i empty_spot (omega arith) within before
    (get_or-drop first spots i empty_spot ∙ get_or-map spot_of marks (first + i) d empty_spot (omega arith) ∙ sym is
    ∙ spot_same spot (get_or fields i empty_spot) test)

-- a part of what begins a longer list
part_begins : {X : Type 0} (xs ys : List X) (first width : ℕ) → take (length xs) ys ≡ xs
    → first + width ≤ length xs → take width (drop first ys) ≡ take width (drop first xs)
part_begins xs ys first width begins within =
    let n : ℕ = length xs - first in
    let size : first + n ≡ length xs = omega arith in
    sym (take-take width n (drop first ys) (omega arith))
    ∙ ap (take width) (sym (drop-take first n ys) ∙ ap (λ (k : ℕ). drop first (take k ys)) size ∙ ap (drop first)
    begins)

-- a row, whatever stands behind its bytes
row_left : (spots : List FieldSpot) (bytes more : List ℕ) → AreSpots spots bytes
    → row_of spots (bytes ++ more) ≡ row_of spots bytes
unfolding row_of
row_left spots bytes more are =
    map_ranges (field_in spots (bytes ++ more)) (field_in spots bytes) 0 0 (length spots)
    (λ i below. same (0 + i) (omega arith))
  where
    same : (i : ℕ) → i < length spots → field_in spots (bytes ++ more) i ≡ field_in spots bytes i
    same i within =
        ap (λ (b : List ℕ). let s : Stored = record {
          null = (spot_at spots i).null;
          off = (spot_at spots i).off;
          bytes = b;
        } in s)
        (slice_range_append bytes more (spot_start spots i) (spot_at spots i).end (are.rising i within)
        (are.inside i within))

-- and by those before the end of its last field
row_taken : (spots : List FieldSpot) (bytes : List ℕ) → AreSpots spots bytes
    → row_of spots (take (spot_start spots (length spots)) bytes) ≡ row_of spots bytes
unfolding row_of
row_taken spots bytes are =
    let last = spot_start spots (length spots) in
    map_ranges (field_in spots (take last bytes)) (field_in spots bytes) 0 0 (length spots)
    (λ i below. same (0 + i) (omega arith))
  where
    same : (i : ℕ) → i < length spots
        → field_in spots (take (spot_start spots (length spots)) bytes) i ≡ field_in spots bytes i
    same i within =
        ap (λ (b : List ℕ). let s : Stored = record {
          null = (spot_at spots i).null;
          off = (spot_at spots i).off;
          bytes = b;
        } in s)
        (slice_taken bytes (spot_start spots (length spots)) (spot_start spots i) (spot_at spots i).end
        (are.rising i within) (ends_within spots bytes i are within))

-- where spots lie, they do where more bytes stand behind
spots_left : (spots : List FieldSpot) (bytes more : List ℕ) → AreSpots spots bytes → AreSpots spots (bytes ++ more)
spots_left spots bytes more are =
    let size = length-append bytes more in
    record { rising = are.rising; inside = λ i within. omega (arith, are.inside i within, size) }

spots_taken : (spots : List FieldSpot) (bytes : List ℕ) → AreSpots spots bytes
    → AreSpots spots (take (spot_start spots (length spots)) bytes)
spots_taken spots bytes are =
    let size = length-take-le (spot_start spots (length spots)) bytes (last_within spots bytes are) in
    record {
      rising = are.rising;
      inside = λ i within. omega (arith, ends_within spots bytes i are within, size);
    }

-- the rows in memory
pub row_count : (arena : Arena) → length (rows_in arena) ≡ length arena.spans
unfolding rows_in
row_count arena = length-map arena.spans (λ span. row_of (spots_in arena span) (bytes_in arena span))

pub row_at : (arena : Arena) (r : ℕ) → r < length arena.spans
    → stored_in (rows_in arena) r ≡ row_of (spots_in arena (span_at arena r)) (bytes_in arena (span_at arena r))
unfolding rows_in
row_at arena r within =
    get_or-map (λ span. row_of (spots_in arena span) (bytes_in arena span)) arena.spans r
    (record { start = 0; first = 0; width = 0 }) [] within

pub lies_at : (lists : Lists) (r : ℕ) → AreRowsIn (arena_of lists) → r < length lists.spans.items
    → LiesIn (arena_of lists) (span_at (arena_of lists) r)
lies_at lists r are within =
    are r (record { start = 0; first = 0; width = 0 }) (omega (arith, within, length-map lists.spans.items span_of))

-- what is read of a span, and of a mark
pub span_read : (spans : List RowSpan) (r : ℕ) (span : RowSpan) (d : Span) → r < length spans
    → span ≡ get_or spans r span → span_of span ≡ get_or (map span_of spans) r d
span_read spans r span d within is = ap span_of is ∙ sym (get_or-map span_of spans r span d within)

pub marks_read : (marks : List Mark) (first width end : ℕ) → end ≡ first + width
    → map spot_of (take (end - first) (drop first marks)) ≡ take width (drop first (map spot_of marks))
marks_read marks first width end is =
    let size : end - first ≡ width = omega arith in
    ap (λ (n : ℕ). map spot_of (take n (drop first marks))) size ∙ sym (take-map spot_of width (drop first marks))
    ∙ ap (take width) (sym (drop-map spot_of first marks))

-- one more
module _ (old new : Arena) (are : AreRowsIn old) (fields : List FieldSpot) (row : List ℕ)
    (lie : AreSpots fields row) (adds : AddsFields old new fields row) where
  abbrev added : List ℕ
  added = take (spot_start fields (length fields)) row

  abbrev span : Span
  span = record { start = length old.bytes; first = adds.first; width = length fields }

  longer : length old.spots ≤ length new.spots
  longer = begun old.spots new.spots adds.begins
    where
      begun : {X : Type 0} (xs ys : List X) → take (length xs) ys ≡ xs → length xs ≤ length ys
      begun [] ys e = omega arith
      begun (x ∷ xs) [] e = cc
      begun (x ∷ xs) (y ∷ ys) e = omega (arith, begun xs ys (cc))

  bytes_size : length new.bytes ≡ length old.bytes + length added
  bytes_size = ap length adds.bytes ∙ length-append old.bytes added

  -- of those that were there
  module _ (other : Span) (lies : LiesIn old other) where
    spots_same : spots_in new other ≡ spots_in old other
    spots_same = part_begins old.spots new.spots other.first other.width adds.begins lies.marks

    bytes_more : bytes_in new other ≡ bytes_in old other ++ added
    bytes_more = ap (drop other.start) adds.bytes ∙ drop-append-le other.start old.bytes added lies.start

    row_same : row_of (spots_in new other) (bytes_in new other) ≡ row_of (spots_in old other) (bytes_in old other)
    row_same =
        ap (λ (s : List FieldSpot). row_of s (bytes_in new other)) spots_same
        ∙ ap (row_of (spots_in old other)) bytes_more
        ∙ row_left (spots_in old other) (bytes_in old other) added lies.fields

    lies_still : LiesIn new other
    lies_still =
        let long = longer in
        let size = bytes_size in
        let marks = lies.marks in
        let start = lies.start in
        record {
          marks = omega arith;
          start = omega arith;
          fields =
              subst (λ (s : List FieldSpot). AreSpots s (bytes_in new other)) (sym spots_same)
              (subst (AreSpots (spots_in old other)) (sym bytes_more)
              (spots_left (spots_in old other) (bytes_in old other) added lies.fields));
        }

  -- and of the new one
  spots_new : spots_in new span ≡ fields
  spots_new = adds.marked.same

  bytes_new : bytes_in new span ≡ added
  bytes_new = ap (drop (length old.bytes)) adds.bytes ∙ drop_at old.bytes added (length old.bytes) refl

  row_new : row_of (spots_in new span) (bytes_in new span) ≡ row_of fields row
  row_new =
      ap (λ (s : List FieldSpot). row_of s (bytes_in new span)) spots_new ∙ ap (row_of fields) bytes_new
      ∙ row_taken fields row lie

  lies_new : LiesIn new span
  lies_new =
      let size = bytes_size in
      record {
        marks = adds.marked.inside;
        start = omega arith;
        fields =
            subst (λ (s : List FieldSpot). AreSpots s (bytes_in new span)) (sym spots_new)
            (subst (AreSpots fields) (sym bytes_new) (spots_taken fields row lie));
      }

  same_rows : (spans : List Span) → All (LiesIn old) spans
      → map (λ s. row_of (spots_in new s) (bytes_in new s)) spans
      ≡ map (λ s. row_of (spots_in old s) (bytes_in old s)) spans
  same_rows [] lies = refl
  same_rows (s ∷ spans) lies =
      ap (λ (r : List Stored). r ∷ map (λ s. row_of (spots_in new s) (bytes_in new s)) spans)
      (row_same s (All-head (LiesIn old) s spans lies))
      ∙ ap (λ (rows : List (List Stored)). row_of (spots_in old s) (bytes_in old s) ∷ rows)
      (same_rows spans (All-tail (LiesIn old) s spans lies))

  pub row_added : rows_in new ≡ rows_in old ++ row_of fields row ∷ []
  unfolding rows_in
  row_added =
      let rows = λ (s : Span). row_of (spots_in new s) (bytes_in new s) in
      ap (map rows) adds.spans ∙ map-append rows old.spans (span ∷ [])
      ∙ ap (λ (r : List Stored). map rows old.spans ++ r ∷ []) row_new
      ∙ ap (λ (all : List (List Stored)). all ++ row_of fields row ∷ []) (same_rows old.spans are)

  pub rows_lie : AreRowsIn new
  rows_lie =
      subst (All (LiesIn new)) (sym adds.spans)
      (All-append (LiesIn new) old.spans (span ∷ []) (λ k d below. lies_still (get_or old.spans k d) (are k d below))
      (All-cons (LiesIn new) span [] lies_new (All-nil (LiesIn new))))

-- what is seen of them
pub none_in : (arena : Arena) → arena.spans ≡ [] → rows_in arena ≡ []
unfolding rows_in
none_in arena none = ap (map (λ (s : Span). row_of (spots_in arena s) (bytes_in arena s))) none

pub count_seen : (lists : Lists) (now : List (List Stored)) → rows_in (arena_of lists) ≡ now
    → length now ≡ length lists.spans.items
count_seen lists now seen = ap length (sym seen) ∙ row_count (arena_of lists) ∙ length-map lists.spans.items span_of

module _ (lists : Lists) (now : List (List Stored)) (r : ℕ) (seen : rows_in (arena_of lists) ≡ now)
    (within : r < length now) where
  abbrev span_here : Span
  span_here = span_at (arena_of lists) r

  pub span_within : r < length lists.spans.items
  span_within = omega (arith, within, count_seen lists now seen)

  pub row_seen : row_of (spots_in (arena_of lists) span_here) (bytes_in (arena_of lists) span_here) ≡ stored_in now r
  row_seen =
      sym (row_at (arena_of lists) r (omega (arith, within, ap length (sym seen), row_count (arena_of lists))))
      ∙ ap (λ (rows : List (List Stored)). stored_in rows r) seen

  pub width_seen : AreRowsIn (arena_of lists) → length (stored_in now r) ≡ span_here.width
  width_seen are =
      let lies = lies_at lists r are span_within in
      let marks = lies.marks in
      let left = length-drop span_here.first (arena_of lists).spots in
      ap length (sym row_seen) ∙ length-row (spots_in (arena_of lists) span_here) (bytes_in (arena_of lists) span_here)
      ∙ length-take-le span_here.width (drop span_here.first (arena_of lists).spots) (omega arith)

  module _ (i : ℕ) (inside : i < length (stored_in now r)) where
    pub spot_within : i < length (spots_in (arena_of lists) span_here)
    spot_within =
        within_spots (spots_in (arena_of lists) span_here) (bytes_in (arena_of lists) span_here) (stored_in now r) i
        row_seen inside

    pub field_here : stored_at (stored_in now r) i
        ≡ field_in (spots_in (arena_of lists) span_here) (bytes_in (arena_of lists) span_here) i
    field_here =
        field_seen (spots_in (arena_of lists) span_here) (bytes_in (arena_of lists) span_here) (stored_in now r) i
        row_seen inside
