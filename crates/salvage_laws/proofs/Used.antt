-- In a sound space a page is known to be free exactly where it isn't used.
use Rattle.std.proofs.Common.{◌≡◌, ℕ, ◌*◌, ◌/◌, ◌<◌, ◌≤◌, ◌&&◌, nat_lt, Bool, true, false, cond, List}
use Rattle.std.proofs.Common.{inl, inr, refl, sym, ap, ◌∙◌, subst, arith, lt-ltb}
use Rattle.std.proofs.lemmas.Bool.{true≢false, cases_lt, ne_eqb}
use Rattle.std.proofs.lemmas.List.Elements.{All-contains}
use Rattle.page_source.specs.Pages.{page_of}
use Rattle.fil_frame.specs.Kinds.{header_kind, descriptor_kind}
use Rattle.fil_frame.specs.Frame.{IsFramed}
use Rattle.space_header.specs.Header.{size_of, limit_of}
use Rattle.extent_map.specs.Extents.{is_used, IsUsed, used_in}
use Rattle.extent_map.specs.Laws.{UsedPagesAreOfExtents}
use Rattle.extent_map.proofs.Used.{used_below}
use Rattle.space_audit.specs.Audit.{HasExtents}
use Rattle.space_audit.proofs.Fragments.{and_right, used_extent}
use Rattle.leaf_salvage.specs.Standing.{Stands}
use Rattle.leaf_salvage.specs.Unused.{map_page, map_kind, IsMap, is_clear_on, IsUnused}

-- no page is missed
abbrev pub all_fetched : ℕ → Bool
all_fetched n = false

pub framed_stands : (page : List ℕ) (n space : ℕ) → IsFramed page n space → Stands page n
framed_stands page n space f =
    record { sums = f.sums; echo = f.echo; has_number = f.has_number; has_space = refl }

used_clear : (file : List ℕ) (n : ℕ) → IsUsed file n → is_clear_on (page_of file (map_page n)) n ≡ true
unfolding is_used
used_clear file n u = and_right (nat_lt n (limit_of file)) _ u

unused_clear : (file : List ℕ) (n : ℕ) → is_used file n ≡ false → n < limit_of file
    → is_clear_on (page_of file (map_page n)) n ≡ false
unfolding is_used
unused_clear file n u below =
    let inside : nat_lt n (limit_of file) ≡ true = lt-ltb n (limit_of file) below in
    sym (ap (λ (b : Bool). b && is_clear_on (page_of file (map_page n)) n) inside) ∙ u

module _ (law : UsedPagesAreOfExtents) (file : List ℕ) (flags : ℕ) (extents : HasExtents file flags) where
  -- a used page is below the size
  pub used_size : (n : ℕ) → IsUsed file n → n < size_of file
  used_size n u =
      let inside = used_extent file n extents.head.limit.whole (used_below file n u) in
      All-contains (λ (m : ℕ). m < size_of file) (used_in file (n / 64)) n (extents.extents (n / 64) inside).within
      (((law file (n / 64)).members n).1 (refl, u))

  zero_map : IsMap file all_fetched 0
  zero_map = record { read = refl; stands = framed_stands _ 0 _ extents.head.framed; kind = extents.head.kind }

  later_map : (k : ℕ) → 0 < k → 16384 * k < limit_of file → IsMap file all_fetched (16384 * k)
  later_map k some below =
      let is = extents.descriptors k some (omega (arith, some, below)) in
      let other : map_kind (16384 * k) ≡ descriptor_kind =
      ap (λ (b : Bool). cond b header_kind descriptor_kind) (ne_eqb (16384 * k) 0 (λ e. omega (arith, e, some))) in
      record { read = refl; stands = framed_stands _ (16384 * k) _ is.0; kind = is.1 ∙ sym other }

  -- the descriptors of a page below the limit stand on a page that tells them
  map_is : (n : ℕ) → n < limit_of file → IsMap file all_fetched (map_page n)
  map_is n below = elim (cases_lt 0 (n / 64 / 256)) [
    | inl some ↦ later_map (n / 64 / 256) some (omega (arith, below))
    | inr none ↦
        let e : 0 ≡ map_page n = omega (arith, none) in subst (λ (d : ℕ). IsMap file all_fetched d) e zero_map
  ]

  -- and that page is used
  map_used : (n : ℕ) → n < limit_of file → n ≡ map_page n → IsUsed file n
  map_used n below own =
      let inside = used_extent file n extents.head.limit.whole below in
      let system = (extents.extents (n / 64) inside).system (omega (arith, own)) in
      let e : 64 * (n / 64) ≡ n = omega (arith, own) in
      subst (λ (m : ℕ). IsUsed file m) e system.descriptor

  least_limit : 64 ≤ limit_of file
  least_limit = elim (cases_lt (size_of file) 64) [
    | inl small ↦ omega (arith, extents.head.limit.short small)
    | inr large ↦ extents.head.limit.least large
  ]

  -- a used page isn't known to be free
  pub used_known : (n : ℕ) → IsUsed file n → ¬ (IsUnused file all_fetched n)
  used_known n u (inl marked) = true≢false (sym (used_clear file n u) ∙ marked.free)
  used_known n u (inr past) = omega (arith, used_below file n u, past.past)

  -- and every other page is
  pub unused_known : (n : ℕ) → is_used file n ≡ false → IsUnused file all_fetched n
  unused_known n u = elim (cases_lt n (limit_of file)) [
    | inl below ↦
        inl (record {
          other = λ own. true≢false (sym (map_used n below own) ∙ u);
          map = map_is n below;
          free = unused_clear file n u below;
        })
    | inr past ↦
        inr (record {
          other = λ zero. omega (arith, zero, past, least_limit);
          map = zero_map;
          past = past;
        })
  ]
