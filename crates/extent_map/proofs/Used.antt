-- The used pages of an extent.
use Rattle.std.proofs.Common.{◌≡◌, ℕ, suc, ◌+◌, ◌*◌, ◌/◌, ◌<◌, ◌≤◌, false, List, length, Contains, refl, sym, ◌∙◌}
use Rattle.std.proofs.Common.{subst, inl, inr, arith}
use Rattle.std.proofs.lemmas.List.Sums.{length-filter, count_by-le-length}
use Rattle.std.proofs.lemmas.List.FromFn.{length-range_with_len, length-map-range_with_len, get_or-map-range_with_len}
use lib.ListN.{get_or-eq_default}
use Rattle.std.proofs.lemmas.Bool.Decides.{leb_tells}
use Rattle.std.proofs.lemmas.Bool.{and_parts, ltb-true}
use Rattle.page_source.specs.Lists.{flag_in}
use Rattle.page_source.proofs.Members.{range_has, range_only, range_distinct, distinct_filter, contains_filter}
use Rattle.page_source.proofs.Members.{filter_contains}
use Rattle.space_header.specs.Header.{limit_of}
use Rattle.extent_map.specs.Extents.{is_used, IsUsed, extent_pages, used_in, is_fragment_page, fragment_flags}
use Rattle.extent_map.specs.Laws.{AreUsedPages}

pages_has : (e n : ℕ) → 64 * e ≤ n → n < 64 * e + 64 → Contains (extent_pages e) n
unfolding extent_pages
pages_has e n h k = range_has (64 * e) 64 n h k

pages_only : (e n : ℕ) → Contains (extent_pages e) n → (64 * e ≤ n) × (n < 64 * e + 64)
unfolding extent_pages
pages_only e n c = range_only (64 * e) 64 n c

pub used_in_has : (file : List ℕ) (n : ℕ) → IsUsed file n → Contains (used_in file (n / 64)) n
unfolding used_in
used_in_has file n u = contains_filter (is_used file) (extent_pages (n / 64)) n (pages_has (n / 64) n (omega arith)
    (omega arith)) u

pub used_in_only : (file : List ℕ) (e n : ℕ) → Contains (used_in file e) n → (n / 64 ≡ e) × IsUsed file n
unfolding used_in
used_in_only file e n c =
    let r = filter_contains (is_used file) (extent_pages e) n c in
    let s = pages_only e n r.0 in
    (omega (arith, s.0, s.1), r.1)

pages_length : (e : ℕ) → length (extent_pages e) ≡ 64
unfolding extent_pages
pages_length e = length-range_with_len (64 * e) 64

-- they are those of its 64 pages that are used, each once
pub are_used_pages : (file : List ℕ) (e : ℕ) → AreUsedPages file e
unfolding used_in extent_pages
are_used_pages file e = record {
  members = λ n. (
    used_in_only file e n,
    λ r. subst (λ k. Contains (used_in file k) n) r.0 (used_in_has file n r.1),
  );
  distinct = distinct_filter (is_used file) (extent_pages e) (range_distinct (64 * e) 64);
  few = omega (
    arith,
    length-filter (is_used file) (extent_pages e),
    count_by-le-length (is_used file) (extent_pages e),
    pages_length e,
  );
}

pub not_used_past : (file : List ℕ) (n : ℕ) → limit_of file ≤ n → is_used file n ≡ false
unfolding is_used
not_used_past file n h = elim (leb_tells (suc n) (limit_of file)) [
  | inl q ↦ absurd (omega
      (arith, q.1))
  | inr q ↦ rw q.0 refl
]

-- a used page is below the free limit
pub used_below : (file : List ℕ) (n : ℕ) → IsUsed file n → n < limit_of file
unfolding is_used
used_below file n used = ltb-true n (limit_of file) (and_parts _ _ used).0

-- the flags of fragment pages are the test
pub flag_is : (file : List ℕ) (n : ℕ) → flag_in (fragment_flags file) n ≡ is_fragment_page file n
flag_is file n = elim (leb_tells (suc n) (limit_of file)) [
  | inl q ↦ get_or-map-range_with_len (is_fragment_page file) 0 (limit_of file) n n false q.1 (omega arith)
  | inr q ↦ get_or-eq_default (fragment_flags file) false (omega (
    arith,
    q.1,
    length-map-range_with_len
        (is_fragment_page file) 0 (limit_of file),
  )) ∙ sym (rw (not_used_past file n (omega (arith, q.1))) refl)
]
