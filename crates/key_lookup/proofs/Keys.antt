-- The order of a record's key against the one that is sought.
use Rattle.std.proofs.Common.{◌≡◌, ℕ, ◌+◌, ◌-◌, ◌≤◌, Bool, true, false, cond, Option, Some, None, List, [], ◌∷◌, ◌++◌}
use Rattle.std.proofs.Common.{length, map, take, drop, All, refl, ap, ◌∙◌, arith, length-drop}
use Rattle.std.specs.List.{slice_range}
use Rattle.std.proofs.Math.Seq.{drop-append_seam}
use Rattle.std.specs.declared.cmp.Ordering.{Ordering}
use Rattle.std.proofs.lemmas.List.{length-map, take_all, drop-append-le, take-append-le}
use Rattle.std.proofs.lemmas.List.Elements.{All-head, All-tail}
use Rattle.column_values.specs.Types.{Fields}
use Rattle.column_values.specs.Order.{key_cmp, Key}
use Rattle.compact_record.specs.declared.places.Place.{Place}
use Rattle.compact_record.specs.Reading.{cell_at, key_kinds, key_of, places_of}
use Rattle.compact_record.specs.Keys.{key_at}
use Rattle.compact_record.proofs.KeySteps.{key_is}
use Rattle.key_lookup.specs.Sought.{LiesIn}

pub sought_is : (page bytes : List ℕ) (fields : Fields) (origin : ℕ) (a b : List Place) (key : Key) (o : Ordering)
    → fields.keys ≤ length fields.fields → a ≡ places_of page origin fields → map (cell_at bytes) b ≡ key
    → length key ≡ fields.keys → o ≡ key_cmp (key_kinds fields) (key_at page fields a) (key_at bytes fields b)
    → o ≡ key_cmp (key_kinds fields) (key_of page origin fields) key
unfolding key_at
sought_is page bytes fields origin a b key o few first second count is =
    let x = ap (λ (ps : List Place). key_at page fields ps) first ∙ key_is page origin fields few in
    let size = length-map b (cell_at bytes) in
    let same = ap length second in
    let y = ap (map (cell_at bytes)) (take_all fields.keys b (omega arith)) ∙ second in
    is ∙ ap (λ (q : Key). key_cmp (key_kinds fields) q (key_at bytes fields b)) x
    ∙ ap (λ (q : Key). key_cmp (key_kinds fields) (key_of page origin fields) q) y

-- one more field behind those that are kept
cell_kept : (old bytes : List ℕ) (p : Place) → LiesIn (length old) p → cell_at (old ++ bytes) p ≡ cell_at old p
cell_kept old bytes p lies =
    by_flag p.null (omega (arith, lies.rising, lies.inside))
  where
    by_flag : (null : Bool) → p.from ≤ length old
        → cond null None (Some (slice_range (old ++ bytes) p.from p.until))
        ≡ cond null None (Some (slice_range old p.from p.until))
    by_flag true below = refl
    by_flag false below =
        let cut = drop-append-le p.from old bytes below in
        let size = length-drop p.from old in
        ap Some (ap (take (p.until - p.from)) cut
        ∙ take-append-le (p.until - p.from) (drop p.from old) bytes (omega (arith, size, lies.rising, lies.inside)))

pub key_more : (old bytes : List ℕ) (places : List Place) (p : Place) → All (LiesIn (length old)) places
    → p ≡ record { null = false; external = false; from = length old; until = length old + length bytes }
    → map (cell_at (old ++ bytes)) (places ++ p ∷ []) ≡ map (cell_at old) places ++ Some bytes ∷ []
key_more old bytes [] p lie e =
    let size : length old + length bytes - length old ≡ length bytes = omega arith in
    rw e (ap (λ (cell : Option (List ℕ)). cell ∷ []) (ap Some (ap (take (length old + length bytes - length old))
    (drop-append_seam old bytes) ∙ ap (λ (n : ℕ). take n bytes) size ∙ take_all (length bytes) bytes (omega arith))))
key_more old bytes (q ∷ qs) p lie e =
    rw (cell_kept old bytes q (All-head (LiesIn (length old)) q qs lie))
    (ap (λ (cells : List (Option (List ℕ))). cell_at old q ∷ cells)
    (key_more old bytes qs p (All-tail (LiesIn (length old)) q qs lie) e))
