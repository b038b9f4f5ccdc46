-- The descriptors in their order.
use Rattle.std.proofs.Common.{◌≡◌, ℕ, zero, suc, ◌+◌, ◌-◌, ◌<◌, ◌≤◌, List, [], ◌∷◌, ◌++◌, length, map, flat_map, get_or}
use Rattle.std.proofs.Common.{take}
use Rattle.std.proofs.Common.{sym, ap, ◌∙◌, subst, arith, append-nil}
use Rattle.std.specs.List.{range_with_len}
use Rattle.std.proofs.lemmas.List.{length-append, take_at, get_or_append_left, get_or-append-add}
use Rattle.std.proofs.lemmas.List.Concat.{flat_map-append, get_or-flat_map}
use Rattle.std.proofs.lemmas.List.FromFn.{length-range_with_len, get_or-range_with_len, length-map-range_with_len}
use Rattle.std.proofs.lemmas.List.FromFn.{get_or-map-range_with_len}
use Rattle.page_source.proofs.Members.{range_more}
use Rattle.extent_map.specs.declared.extent.Extent.{Extent}
use Rattle.space_layout.specs.Numbers.{extents_before, fragment_extents, extent_start, extents_needed}
use Rattle.space_layout.specs.Fields.{fragment_descriptor, own_descriptor}
use Rattle.space_layout.specs.HeadPages.{own_descriptors, descriptors}
use Rattle.space_layout.proofs.PageNumbers.{extent_counts, extents_none, extents_more}
use Rattle.space_layout.proofs.RunLists.{range_split}

-- those of the first s segments
own_length : (sizes : List ℕ) (s : ℕ) → s ≤ length sizes
    → length (flat_map (own_descriptors sizes) (range_with_len 0 s)) ≡ extents_before sizes s
own_length sizes zero l = sym (extents_none sizes)
own_length sizes (suc s) l =
    let rest = own_length sizes s (omega arith) in
    let e : suc s ≡ s + 1 = omega arith in
    let here = length-map-range_with_len (own_descriptor sizes s) 0 (extent_counts sizes s) in
    let more = extents_more sizes s (omega arith) in
    let one : flat_map (own_descriptors sizes) (s ∷ [])
    ≡ own_descriptors sizes s = append-nil (own_descriptors sizes s) in
    ap (λ (n : ℕ). length (flat_map (own_descriptors sizes) (range_with_len 0 n))) e
    ∙ ap (λ (xs : List ℕ). length (flat_map (own_descriptors sizes) xs)) (range_more s)
    ∙ ap (λ (xs : List Extent). length xs) (flat_map-append (own_descriptors sizes) (range_with_len 0 s) (s ∷ []))
    ∙ length-append (flat_map (own_descriptors sizes) (range_with_len 0 s)) (flat_map (own_descriptors sizes) (s ∷ []))
    ∙ ap (λ (xs : List Extent). length (flat_map (own_descriptors sizes) (range_with_len 0 s)) + length xs) one
    ∙ ap (λ (n : ℕ). n + length (own_descriptors sizes s)) rest
    ∙ ap (λ (n : ℕ). extents_before sizes s + n) here
    ∙ sym more ∙ ap (extents_before sizes) (sym e)

fragment_length : (sizes : List ℕ)
    → length (map (fragment_descriptor sizes) (range_with_len 0 (fragment_extents sizes))) ≡ fragment_extents sizes
fragment_length sizes = length-map-range_with_len (fragment_descriptor sizes) 0 (fragment_extents sizes)

pub descriptors_length : (sizes : List ℕ) → length (descriptors sizes) ≡ extents_needed sizes
unfolding descriptors
descriptors_length sizes =
    length-append (map (fragment_descriptor sizes) (range_with_len 0 (fragment_extents sizes)))
    (flat_map (own_descriptors sizes) (range_with_len 0 (length sizes)))
    ∙ ap (λ (n : ℕ). n + length (flat_map (own_descriptors sizes) (range_with_len 0 (length sizes))))
    (fragment_length sizes)
    ∙ ap (λ (n : ℕ). fragment_extents sizes + n) (own_length sizes (length sizes) (omega arith))

-- that of a fragment extent
pub fragment_listed : (sizes : List ℕ) (e : ℕ) (d : Extent) → e < fragment_extents sizes
    → get_or (descriptors sizes) e d ≡ fragment_descriptor sizes e
unfolding descriptors
fragment_listed sizes e d l =
    let size = fragment_length sizes in
    get_or_append_left (map (fragment_descriptor sizes) (range_with_len 0 (fragment_extents sizes)))
    (flat_map (own_descriptors sizes) (range_with_len 0 (length sizes))) d e (omega arith)
    ∙ get_or-map-range_with_len (fragment_descriptor sizes) 0 (fragment_extents sizes) e e d l (omega arith)

-- that of an extent of a segment
pub own_listed : (sizes : List ℕ) (s k : ℕ) (d : Extent) → s < length sizes → k < extent_counts sizes s
    → get_or (descriptors sizes) (extent_start sizes s + k) d ≡ own_descriptor sizes s k
unfolding descriptors
own_listed sizes s k d sn l =
    let xs = map (fragment_descriptor sizes) (range_with_len 0 (fragment_extents sizes)) in
    let segments = range_with_len 0 (length sizes) in
    let ys = flat_map (own_descriptors sizes) segments in
    let size = fragment_length sizes in
    let all = length-range_with_len 0 (length sizes) in
    let there : extent_start sizes s + k ≡ length xs + (extents_before sizes s + k) = omega arith in
    let whole : segments ≡ range_with_len 0 s ++ range_with_len (0 + s) (length sizes - s) =
    ap (range_with_len 0) (omega arith) ∙ range_split 0 s (length sizes - s) in
    let front : take s segments ≡ range_with_len 0 s =
    ap (take s) whole ∙ take_at (range_with_len 0 s) (range_with_len (0 + s) (length sizes - s)) s
    (length-range_with_len 0 s) in
    let before : length (flat_map (own_descriptors sizes) (take s segments)) ≡ extents_before sizes s =
    ap (λ (zs : List ℕ). length (flat_map (own_descriptors sizes) zs)) front ∙ own_length sizes s (omega arith) in
    let here : get_or segments s 0 ≡ s = get_or-range_with_len 0 (length sizes) s 0 sn ∙ omega arith in
    let inside : k < length (own_descriptors sizes (get_or segments s 0)) =
    subst (λ (t : ℕ). k < length (own_descriptors sizes t)) (sym here)
    (let m = length-map-range_with_len (own_descriptor sizes s) 0 (extent_counts sizes s) in omega arith) in
    ap (λ (n : ℕ). get_or (xs ++ ys) n d) there
    ∙ get_or-append-add xs ys (extents_before sizes s + k) d
    ∙ ap (λ (n : ℕ). get_or ys (n + k) d) (sym before)
    ∙ get_or-flat_map (own_descriptors sizes) segments s k 0 d (omega arith) inside
    ∙ ap (λ (t : ℕ). get_or (own_descriptors sizes t) k d) here
    ∙ get_or-map-range_with_len (own_descriptor sizes s) 0 (extent_counts sizes s) k k d l (omega arith)
