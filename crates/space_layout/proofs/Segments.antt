-- What the segments of a built tablespace have.
use Rattle.std.proofs.Common.{◌≡◌, ◌⊎◌, ◌↔◌, ℕ, zero, suc, ◌+◌, ◌<◌, ◌≤◌, ◌==◌, List, length}
use Rattle.std.proofs.Common.{[], ◌∷◌, ◌++◌, map, filter, flat_map, take, sum, Contains, append-nil, inl, inr, refl}
use Rattle.std.proofs.Common.{sym, ap, ◌∙◌, subst, arith}
use Rattle.std.specs.List.{range_with_len}
use Rattle.std.proofs.lemmas.Bool.{cases_lt, eq-eqb, ne_eqb, and_from, and_right}
use Rattle.std.proofs.lemmas.List.FromFn.{length-map-range_with_len, get_or-map-range_with_len}
use Rattle.std.proofs.lemmas.List.{length-append, take_all}
use Rattle.std.proofs.lemmas.List.Concat.{flat_map-append}
use Rattle.std.proofs.lemmas.List.Elements.{Contains-append_left, Contains-append_right, Contains-append_cases}
use Rattle.std.proofs.lemmas.List.Sums.{position_or_len_is, sum_by_more}
use Rattle.page_source.specs.Lists.{AreDistinct}
use Rattle.page_source.proofs.Members.{contains_flat_map, flat_map_contains, range_has, range_only, range_distinct}
use Rattle.page_source.proofs.Members.{range_more}
use Rattle.page_source.proofs.Members.{distinct_filter, filter_contains, contains_filter, same_length}
use Rattle.space_header.specs.declared.address.Address.{Address}
use Rattle.space_header.specs.Header.{size_of}
use Rattle.extent_map.specs.Extents.{is_used, IsUsed}
use Rattle.inode_segments.specs.Inodes.{inode_byte}
use Rattle.space_audit.specs.Owners.{IsUsedBy}
use Rattle.space_audit.specs.Space.{segment_with_address, is_address}
use Rattle.space_layout.specs.Numbers.{segment_page, size_at, IsShape, IsPlace}
use Rattle.space_layout.specs.Fields.{inode_place}
use Rattle.space_layout.specs.Holds.{HasSegments}
use Rattle.space_layout.proofs.Known.{KnownHeads, KnownSpace}
use Rattle.space_layout.proofs.PageNumbers.{page_low, page_one, are_numbers}
use Rattle.space_layout.proofs.Ranges.{from_range, in_range, distinct_images, distinct_pieces, distinct_append}
use Rattle.space_layout.proofs.Spaces.{head_size, used_place}
use Rattle.space_layout.proofs.Inodes.{segments_are, segments_count}
use Rattle.space_layout.proofs.SlotPages.{fragment_use}
use Rattle.space_layout.proofs.BuiltOwners.{page_used, page_owned, owned_place}
use Rattle.space_layout.proofs.BuiltSpace.{has_claims, space_is}

-- the inode of a segment is the first one at its address
place_found : (n s : ℕ) → s < n → segment_with_address (map inode_place (range_with_len 0 n)) (inode_place s) ≡ s
place_found n s l =
    let places = map inode_place (range_with_len 0 n) in
    let size = length-map-range_with_len inode_place 0 n in
    let at = λ (k : ℕ) (m : k < n). get_or-map-range_with_len inode_place 0 n k k (inode_place 0) m (omega arith) in
    position_or_len_is (is_address (inode_place s)) places s (inode_place 0) (omega arith)
    (λ k m. ap (is_address (inode_place s)) (at k (omega arith))
    ∙ and_right (2 == 2) (inode_byte s == inode_byte k)
    (ne_eqb (inode_byte s) (inode_byte k) (λ q. absurd (omega arith))))
    (λ m. ap (is_address (inode_place s)) (at s l)
    ∙ and_from (2 == 2) (inode_byte s == inode_byte s) refl (eq-eqb (inode_byte s) (inode_byte s) refl))

-- the numbers of the used pages
abbrev pub numbers_of : List ℕ → ℕ → List ℕ
numbers_of sizes s = map (segment_page sizes s) (range_with_len 0 (size_at sizes s))

abbrev pub all_numbers : List ℕ → List ℕ
all_numbers sizes = range_with_len 0 3 ++ flat_map (numbers_of sizes) (range_with_len 0 (length sizes))

numbers_low : (sizes : List ℕ) (x : ℕ) → Contains (flat_map (numbers_of sizes) (range_with_len 0 (length sizes))) x
    → 3 ≤ x
numbers_low sizes x c =
    let p = contains_flat_map (numbers_of sizes) (range_with_len 0 (length sizes)) x c in
    let a = from_range (segment_page sizes p.piece) 0 (size_at sizes p.piece) x p.member in
    let high = a.high in
    subst (λ (n : ℕ). 3 ≤ n) a.there (page_low sizes p.piece a.at (omega arith))

numbers_distinct : (sizes : List ℕ) → IsShape sizes → AreDistinct (all_numbers sizes)
numbers_distinct sizes shape =
    distinct_append (range_with_len 0 3) (flat_map (numbers_of sizes) (range_with_len 0 (length sizes)))
    (range_distinct 0 3)
    (distinct_pieces (numbers_of sizes) 0 (length sizes)
    (λ s low high. distinct_images (segment_page sizes s) 0 (size_at sizes s)
    (λ i j l m o p e. (page_one sizes shape s s i j (omega arith) (omega arith) (omega arith) (omega arith) e).1))
    (λ s t x l m o p c d.
    let a = from_range (segment_page sizes s) 0 (size_at sizes s) x c in
    let b = from_range (segment_page sizes t) 0 (size_at sizes t) x d in
    let i = a.high in let j = b.high in
    (page_one sizes shape s t a.at b.at (omega arith) (omega arith) (omega arith) (omega arith)
    (a.there ∙ sym b.there)).0))
    (λ x c d. let a = (range_only 0 3 x c).1 in let b = numbers_low sizes x d in absurd (omega arith))

number_has : (sizes : List ℕ) (s i n : ℕ) → IsPlace sizes s i n → Contains (all_numbers sizes) n
number_has sizes s i n p =
    let below = p.below in
    let inside = p.inside in
    Contains-append_right (range_with_len 0 3) (flat_map (numbers_of sizes) (range_with_len 0 (length sizes))) n
    (flat_map_contains (numbers_of sizes) (range_with_len 0 (length sizes)) s n
    (range_has 0 (length sizes) s (omega arith) (omega arith))
    (subst (λ (m : ℕ). Contains (numbers_of sizes s) m) p.there
    (in_range (segment_page sizes s) 0 (size_at sizes s) i (omega arith) (omega arith))))

number_is : (sizes : List ℕ) (n : ℕ) → Contains (all_numbers sizes) n
    → (n < 3) ⊎ ((s : ℕ) × (i : ℕ) × IsPlace sizes s i n)
number_is sizes n c =
    elim (Contains-append_cases (range_with_len 0 3)
    (flat_map (numbers_of sizes) (range_with_len 0 (length sizes))) n c) [
      | inl few ↦ inl (let r = (range_only 0 3 n few).1 in omega arith)
      | inr k ↦
          let p = contains_flat_map (numbers_of sizes) (range_with_len 0 (length sizes)) n k in
          let a = from_range (segment_page sizes p.piece) 0 (size_at sizes p.piece) n p.member in
          let b = (range_only 0 (length sizes) p.piece p.among).1 in
          let high = a.high in
          inr (p.piece, a.at, record { below = omega arith; inside = omega arith; there = a.there })
    ]

sizes_sum : (sizes : List ℕ) (n : ℕ) → n ≤ length sizes
    → length (flat_map (numbers_of sizes) (range_with_len 0 n)) ≡ sum (take n sizes)
sizes_sum sizes zero l = refl
sizes_sum sizes (suc n) l =
    let e : suc n ≡ n + 1 = omega arith in
    let rest = sizes_sum sizes n (omega arith) in
    let here = length-map-range_with_len (segment_page sizes n) 0 (size_at sizes n) in
    let more = sum_by_more (λ (x : ℕ). x) sizes n 0 (omega arith) in
    ap (λ (k : ℕ). length (flat_map (numbers_of sizes) (range_with_len 0 k))) e
    ∙ ap (λ (xs : List ℕ). length (flat_map (numbers_of sizes) xs)) (range_more n)
    ∙ ap (λ (xs : List ℕ). length xs) (flat_map-append (numbers_of sizes) (range_with_len 0 n) (n ∷ []))
    ∙ length-append (flat_map (numbers_of sizes) (range_with_len 0 n)) (flat_map (numbers_of sizes) (n ∷ []))
    ∙ ap (λ (xs : List ℕ). length (flat_map (numbers_of sizes) (range_with_len 0 n)) + length xs)
    (append-nil (numbers_of sizes n))
    ∙ ap (λ (k : ℕ). k + length (numbers_of sizes n)) rest
    ∙ ap (λ (k : ℕ). sum (take n sizes) + k) here
    ∙ sym more ∙ ap (λ (k : ℕ). sum (take k sizes)) (sym e)

numbers_count : (sizes : List ℕ) → length (all_numbers sizes) ≡ 3 + sum sizes
numbers_count sizes =
    length-append (range_with_len 0 3) (flat_map (numbers_of sizes) (range_with_len 0 (length sizes)))
    ∙ ap (λ (k : ℕ). 3 + k) (sizes_sum sizes (length sizes) (omega arith)
    ∙ ap (λ (xs : List ℕ). sum xs) (take_all (length sizes) sizes (omega arith)))

-- which pages are used
used_is : (file sizes : List ℕ) (flags : ℕ) → IsShape sizes → KnownHeads file sizes flags → (n : ℕ)
    → IsUsed file n ↔ ((n < 3) ⊎ ((s : ℕ) × (i : ℕ) × IsPlace sizes s i n))
used_is file sizes flags shape heads n = (
  λ u. elim (cases_lt n 3) [
    | inl few ↦ inl few
    | inr many ↦ let r = used_place file sizes flags shape heads n u many in inr (r.segment, r.at, r.is)
  ],
  λ p. elim p [
    | inl few ↦ (fragment_use file sizes flags heads n (omega arith)).used
    | inr place ↦ subst (λ (m : ℕ). IsUsed file m) place.2.there
        (page_used file sizes flags shape heads place.0 place.1 place.2.below place.2.inside)
  ],
)

used_total : (file sizes : List ℕ) (flags : ℕ) → IsShape sizes → KnownHeads file sizes flags
    → length (filter (is_used file) (range_with_len 0 (size_of file))) ≡ 3 + sum sizes
used_total file sizes flags shape heads =
    let size = head_size file sizes flags heads in
    let is = used_is file sizes flags shape heads in
    same_length (filter (is_used file) (range_with_len 0 (size_of file))) (all_numbers sizes)
    (distinct_filter (is_used file) (range_with_len 0 (size_of file)) (range_distinct 0 (size_of file)))
    (numbers_distinct sizes shape)
    (λ n. (
      λ c. elim ((is n).0 (filter_contains (is_used file) (range_with_len 0 (size_of file)) n c).1) [
        | inl few ↦ Contains-append_left (range_with_len 0 3)
            (flat_map (numbers_of sizes) (range_with_len 0 (length sizes))) n
            (range_has 0 3 n (omega arith) (omega arith))
        | inr place ↦ number_has sizes place.0 place.1 n place.2
      ],
      λ c. elim (number_is sizes n c) [
        | inl few ↦ contains_filter (is_used file) (range_with_len 0 (size_of file)) n
            (range_has 0 (size_of file) n (omega arith) (omega arith)) ((is n).1 (inl few))
        | inr place ↦
            let high = (are_numbers sizes shape).high place.0 place.1 n place.2 in
            contains_filter (is_used file) (range_with_len 0 (size_of file)) n
            (range_has 0 (size_of file) n (omega arith) (omega arith)) ((is n).1 (inr place))
      ],
    ))
    ∙ numbers_count sizes

pub has_segments : (file sizes : List ℕ) (flags : ℕ) → IsShape sizes → KnownSpace file sizes flags
    → HasSegments file sizes
has_segments file sizes flags shape h =
    let heads = h.heads in
    let size = head_size file sizes flags heads in
    let pages = h.pages in
    let claims = has_claims file sizes flags shape heads in
    record {
      id = space_is file sizes flags heads;
      size = size;
      within = omega arith;
      count = segments_count file sizes flags shape heads;
      found = λ s l. ap (λ (xs : List Address). segment_with_address xs (inode_place s))
          (segments_are file sizes flags shape heads) ∙ place_found (length sizes) s l;
      uses = λ s n. (
        λ own. owned_place file sizes flags shape heads claims n s own,
        λ p. subst (λ (m : ℕ). IsUsedBy file s m) p.1.there
            (page_owned file sizes flags shape heads claims s p.0 p.1.below p.1.inside),
      );
      pages = λ s i n kind p is. record {
        below = let high = (are_numbers sizes shape).high s i n p in omega arith;
        used = subst (λ (m : ℕ). IsUsedBy file s m) p.there
            (page_owned file sizes flags shape heads claims s i p.below p.inside);
        has_kind = is;
      };
      used = used_is file sizes flags shape heads;
      used_count = used_total file sizes flags shape heads;
    }
