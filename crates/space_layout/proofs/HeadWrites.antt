-- One more descriptor or inode on its page.
use Rattle.std.proofs.Common.{◌≡◌, ℕ, ◌+◌, ◌*◌, ◌<◌, ◌≤◌, List, [], ◌∷◌, ◌++◌, length, flat_map, get_or, take}
use Rattle.std.proofs.Common.{refl, sym, ap, ◌∙◌, arith, append-nil}
use Rattle.std.proofs.lemmas.List.{take_more, take_all, length-take-le}
use Rattle.std.proofs.lemmas.List.Concat.{flat_map-append}
use Rattle.std.proofs.lemmas.List.FromFn.{length-map-range_with_len, get_or-map-range_with_len, take-map-range_with_len}
use Rattle.std.proofs.lemmas.List.FromFn.{length-range_with_len}
use Rattle.std.specs.List.{range_with_len}
use Rattle.page_source.specs.Pages.{with_bytes}
use Rattle.page_source.proofs.Written.{with_bytes-next}
use Rattle.extent_map.specs.declared.extent.Extent.{Extent}
use Rattle.extent_map.specs.Writing.{extent_bytes}
use Rattle.inode_segments.specs.declared.inode.Inode.{Inode}
use Rattle.inode_segments.specs.Writing.{inode_bytes}
use Rattle.inode_segments.proofs.Writing.{nothing_written}
use Rattle.space_layout.specs.Numbers.{IsShape, extents_needed, fragment_extents, extent_start}
use Rattle.space_layout.specs.Fields.{inode, fragment_descriptor, own_descriptor}
use Rattle.space_layout.specs.HeadPages.{descriptors, inodes}
use Rattle.space_layout.specs.calls.Written.{with_descriptors, with_inodes}
use Rattle.space_layout.proofs.PageNumbers.{extent_counts, own_below}
use Rattle.space_layout.proofs.SameBytes.{pieces_length}
use Rattle.space_layout.proofs.Ranges.{pieces_same}
use Rattle.space_layout.proofs.Pieces.{extent_size}
use Rattle.space_layout.proofs.HeadBytes.{bytes_of_inode, one_inode_length}
use Rattle.space_layout.proofs.Listed.{descriptors_length, fragment_listed, own_listed}

pub no_descriptors : (page sizes : List ℕ) → with_descriptors page sizes 0 ≡ page
unfolding with_descriptors
no_descriptors page sizes = nothing_written page 150

pub all_descriptors : (page sizes : List ℕ)
    → with_descriptors page sizes (extents_needed sizes)
    ≡ with_bytes page 150 (flat_map extent_bytes (descriptors sizes))
unfolding with_descriptors
all_descriptors page sizes =
    ap (λ (xs : List Extent). with_bytes page 150 (flat_map extent_bytes xs))
    (take_all (extents_needed sizes) (descriptors sizes) (let n = descriptors_length sizes in omega arith))

first_length : (sizes : List ℕ) (n : ℕ) → n ≤ extents_needed sizes
    → length (flat_map extent_bytes (take n (descriptors sizes))) ≡ 40 * n
first_length sizes n l =
    pieces_length extent_bytes 40 extent_size (take n (descriptors sizes))
    ∙ ap (λ (k : ℕ). 40 * k) (length-take-le n (descriptors sizes) (let m = descriptors_length sizes in omega arith))

one_descriptor : (page sizes : List ℕ) (n at : ℕ) (x : Extent) → IsShape sizes → length page ≡ 16384
    → n < extents_needed sizes → at ≡ 150 + 40 * n → get_or (descriptors sizes) n x ≡ x
    → with_bytes (with_descriptors page sizes n) at (extent_bytes x) ≡ with_descriptors page sizes (n + 1)
unfolding with_descriptors
one_descriptor page sizes n at x shape size below there is =
    let fits = shape.fits in
    let ds = descriptors sizes in
    let xs = flat_map extent_bytes (take n ds) in
    let count = descriptors_length sizes in
    let before = first_length sizes n (omega arith) in
    let more : flat_map extent_bytes (take (n + 1) ds) ≡ xs ++ extent_bytes x =
    ap (flat_map extent_bytes) (take_more ds n x (omega arith))
    ∙ flat_map-append extent_bytes (take n ds) (get_or ds n x ∷ [])
    ∙ ap (λ (y : Extent). xs ++ flat_map extent_bytes (y ∷ [])) is
    ∙ ap (λ (ys : List ℕ). xs ++ ys) (append-nil (extent_bytes x)) in
    with_bytes-next page 150 at xs (extent_bytes x) (omega arith) (omega arith)
    ∙ ap (λ (ys : List ℕ). with_bytes page 150 ys) (sym more)

pub one_fragment : (page sizes now : List ℕ) (e at : ℕ) → IsShape sizes → length page ≡ 16384
    → e < fragment_extents sizes
    → at ≡ 150 + 40 * e → now ≡ with_descriptors page sizes e
    → with_bytes now at (extent_bytes (fragment_descriptor sizes e)) ≡ with_descriptors page sizes (e + 1)
one_fragment page sizes now e at shape size l there is =
    ap (λ (p : List ℕ). with_bytes p at (extent_bytes (fragment_descriptor sizes e))) is
    ∙ one_descriptor page sizes e at (fragment_descriptor sizes e) shape size (omega arith) there
    (fragment_listed sizes e (fragment_descriptor sizes e) l)

pub one_own : (page sizes now : List ℕ) (s k at : ℕ) → IsShape sizes → length page ≡ 16384 → s < length sizes
    → k < extent_counts sizes s → at ≡ 150 + 40 * (extent_start sizes s + k)
    → now ≡ with_descriptors page sizes (extent_start sizes s + k)
    → with_bytes now at (extent_bytes (own_descriptor sizes s k))
    ≡ with_descriptors page sizes (extent_start sizes s + (k + 1))
one_own page sizes now s k at shape size sn l there is =
    let e = extent_start sizes s + k in
    ap (λ (p : List ℕ). with_bytes p at (extent_bytes (own_descriptor sizes s k))) is
    ∙ one_descriptor page sizes e at (own_descriptor sizes s k) shape size (own_below sizes s k sn l) there
    (own_listed sizes s k (own_descriptor sizes s k) sn l)
    ∙ ap (with_descriptors page sizes) (omega arith)

-- inodes
inodes_count : (sizes : List ℕ) → length (inodes sizes) ≡ length sizes
unfolding inodes
inodes_count sizes = length-map-range_with_len (inode sizes) 0 (length sizes)

inode_listed : (sizes : List ℕ) (s : ℕ) (d : Inode) → s < length sizes → get_or (inodes sizes) s d ≡ inode sizes s
unfolding inodes
inode_listed sizes s d l = get_or-map-range_with_len (inode sizes) 0 (length sizes) s s d l (omega arith)

first_inodes : (sizes : List ℕ) (n : ℕ) → n ≤ length sizes
    → length (flat_map inode_bytes (take n (inodes sizes))) ≡ 192 * n
unfolding inodes
first_inodes sizes n l =
    ap (λ (xs : List Inode). length (flat_map inode_bytes xs))
    (take-map-range_with_len (inode sizes) 0 (length sizes) n l)
    ∙ ap (λ (xs : List ℕ). length xs)
    (pieces_same inode_bytes (inode sizes) (bytes_of_inode sizes) 0 n (λ s low high. refl))
    ∙ pieces_length (bytes_of_inode sizes) 192 (one_inode_length sizes) (range_with_len 0 n)
    ∙ ap (λ (k : ℕ). 192 * k) (length-range_with_len 0 n)

pub no_inodes : (page sizes : List ℕ) → with_inodes page sizes 0 ≡ page
unfolding with_inodes
no_inodes page sizes = nothing_written page 50

pub all_inodes : (page sizes : List ℕ)
    → with_inodes page sizes (length sizes) ≡ with_bytes page 50 (flat_map inode_bytes (inodes sizes))
unfolding with_inodes
all_inodes page sizes =
    ap (λ (xs : List Inode). with_bytes page 50 (flat_map inode_bytes xs))
    (take_all (length sizes) (inodes sizes) (let n = inodes_count sizes in omega arith))

pub one_inode : (page sizes now : List ℕ) (s at : ℕ) → IsShape sizes → length page ≡ 16384 → s < length sizes
    → at ≡ 50 + 192 * s → now ≡ with_inodes page sizes s
    → with_bytes now at (inode_bytes (inode sizes s)) ≡ with_inodes page sizes (s + 1)
unfolding with_inodes
one_inode page sizes now s at shape size l there is =
    let few = shape.few in
    let ds = inodes sizes in
    let x = inode sizes s in
    let xs = flat_map inode_bytes (take s ds) in
    let count = inodes_count sizes in
    let before = first_inodes sizes s (omega arith) in
    let more : flat_map inode_bytes (take (s + 1) ds) ≡ xs ++ inode_bytes x =
    ap (flat_map inode_bytes) (take_more ds s x (omega arith))
    ∙ flat_map-append inode_bytes (take s ds) (get_or ds s x ∷ [])
    ∙ ap (λ (y : Inode). xs ++ flat_map inode_bytes (y ∷ [])) (inode_listed sizes s x l)
    ∙ ap (λ (ys : List ℕ). xs ++ ys) (append-nil (inode_bytes x)) in
    ap (λ (p : List ℕ). with_bytes p at (inode_bytes x)) is
    ∙ with_bytes-next page 50 at xs (inode_bytes x) (omega arith) (omega arith)
    ∙ ap (λ (ys : List ℕ). with_bytes page 50 ys) (sym more)
