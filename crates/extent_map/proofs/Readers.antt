-- What is read of the extents of a file.
use Rattle.std.proofs.Common.{◌≡◌, ℕ, ◌+◌, ◌*◌, ◌/◌, ◌%◌, ◌^◌, ◌<◌, ◌≤◌, Bool, true, false, eqb, List, [], ◌∷◌, length}
use Rattle.std.proofs.Common.{map, Option, Some, slice_get, unwrap_or, get_or, refl, sym, ◌∙◌, ap, arith}
use Rattle.std.specs.List.{range_with_len}
use Rattle.std.proofs.lemmas.List.FromFn.{length-map-range_with_len, get_or-map-range_with_len}
use Rattle.std.proofs.lemmas.Option.{slice_get_within, unwrap_or-slice_get}
use Rattle.page_source.specs.Pages.{page_of}
use Rattle.space_header.specs.Header.{limit_of}
use Rattle.extent_map.specs.declared.extent.Extent.{Extent}
use Rattle.extent_map.specs.Extents.{extent_at, extent_of, extents_of, extent_count, extent_nodes, AreExtents}
use Rattle.extent_map.specs.Extents.{IsDescribed, is_used}
use Rattle.extent_map.proofs.Used.{not_used_past}
use Rattle.extent_map.proofs.Masks.{bit, mask_bit}
use Rattle.extent_map.proofs.Uses.{use_of, used_is_mask, used_is_bit}

pub extents_count : (file : List ℕ) (extents : List Extent) → AreExtents file extents
    → length extents ≡ extent_count file
unfolding extents_of
extents_count file extents are = ap length are.same ∙ length-map-range_with_len (extent_of file) 0 (extent_count file)

map-map_nodes : (file : List ℕ) (ns : List ℕ) → map (λ (x : Extent). x.node) (map (extent_of file) ns) ≡ map (λ n.
    (extent_of file n).node) ns
map-map_nodes file [] = refl
map-map_nodes file (n ∷ ns) = ap (λ rest. (extent_of file n).node ∷ rest) (map-map_nodes file ns)

pub nodes_there : (file : List ℕ) (extents : List Extent) → AreExtents file extents
    → map (λ (x : Extent). x.node) extents ≡ extent_nodes file
unfolding extents_of extent_nodes
nodes_there file extents are = ap (map (λ (x : Extent). x.node)) are.same
    ∙ map-map_nodes file (range_with_len 0 (extent_count file))

-- an extent that is read is that of the file
pub extent_there : (file : List ℕ) (extents : List Extent) (e : ℕ) (x : Extent) → AreExtents file extents
    → slice_get extents e ≡ Some x
    → IsDescribed file e x
unfolding extents_of
extent_there file extents e x are found =
    let below : e < extent_count file = omega
    (arith, slice_get_within extents e x found, extents_count file extents are) in
    record {
      same = sym (get_or-map-range_with_len (extent_of file) 0 (extent_count file) e e x below (omega arith))
          ∙ ap (λ (xs : List Extent). get_or xs e x) (sym are.same) ∙ sym (unwrap_or-slice_get extents e x)
          ∙ ap (λ (o : Option Extent). unwrap_or o x) found;
      below = below;
    }

bit_tells : (b : Bool) → eqb (bit b) 1 ≡ b
bit_tells true = refl
bit_tells false = refl

-- the bit of a page
pub bit_there : (file : List ℕ) (extents : List Extent) (n : ℕ) (x : Extent) → AreExtents file extents
    → slice_get extents (n / 64) ≡ Some x
    → eqb (x.used / 2 ^ (n % 64) % 2) 1 ≡ is_used file n
bit_there file extents n x are found =
    let e = n / 64 in
    let j = n % 64 in
    let is = extent_there file extents e x are found in
    let page : 64 * e + j ≡ n = omega arith in
    ap (λ (u : ℕ). eqb (u / 2 ^ j % 2) 1) (used_is_mask file e x is)
    ∙ ap (λ (b : ℕ). eqb b 1) (mask_bit (use_of file e) 64 j (omega arith)) ∙ bit_tells (use_of file e j)
    ∙ sym (used_is_bit file e j is.below (omega arith)) ∙ ap (is_used file) page

-- the descriptor at its place on its page
pub described : (file : List ℕ) (k i : ℕ) (page : List ℕ) (x : Extent) → page ≡ page_of file (16384 * k)
    → x ≡ extent_at page (150 + 40 * i)
    → i < 256 → 256 * k + i < extent_count file → IsDescribed file (256 * k + i) x
unfolding extent_of
described file k i page x here is small below =
    let on : (256 * k + i) / 256 ≡ k = omega arith in
    let place : (256 * k + i) % 256 ≡ i = omega arith in
    record {
      same = rw (on, place) (sym (is ∙ ap (λ (p : List ℕ). extent_at p (150 + 40 * i)) here));
      below = below;
    }

pub not_there : (file : List ℕ) (extents : List Extent) (n : ℕ) → AreExtents file extents
    → length extents ≤ n / 64 → is_used file n ≡ false
not_there file extents n are past = not_used_past file n (omega
    (arith, past, extents_count file extents are, are.whole))

pub all_read : (file : List ℕ) (extents : List Extent) → extents ≡ map (extent_of file) (range_with_len 0
    (extent_count file))
    → limit_of file % 64 ≡ 0 → AreExtents file extents
unfolding extents_of
all_read file extents same whole = record { same = same; whole = whole }
