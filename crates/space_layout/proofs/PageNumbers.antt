-- Each page has one number, and each number is that of one page.
use Rattle.std.proofs.Common.{◌≡◌, ◌⊎◌, ℕ, zero, suc, ◌+◌, ◌-◌, ◌*◌, ◌/◌, ◌%◌, ◌<◌, ◌≤◌, false, eqb}
use Rattle.std.proofs.Common.{List, length, inl, inr, refl, sym, ap, ◌∙◌, subst, arith}
use Rattle.std.proofs.lemmas.Bool.{cases_lt, lt-ltb, le-ltb}
use Rattle.std.proofs.lemmas.Bool.Decides.{eqb_tells}
use Rattle.std.proofs.lemmas.List.{get_or_past}
use Rattle.std.proofs.lemmas.List.Sums.{sum_by_more}
use Rattle.space_layout.specs.Numbers.{fragments_of, own_of, extents_of, fragments_before, extents_before}
use Rattle.space_layout.specs.Numbers.{used_fragments, extent_start, extents_needed, space_pages, roots}
use Rattle.space_layout.specs.Numbers.{fragment_start, fragment_page, segment_page, size_at, IsShape}
use Rattle.space_layout.specs.Numbers.{IsPlace, AreNumbers}
use Rattle.space_layout.proofs.FollowingPieces.{FollowOn, start_rises, piece_before, one_place, some_place}

-- how many pages are given out before each segment
pub fragments_none : (sizes : List ℕ) → fragments_before sizes 0 ≡ 0
unfolding fragments_before
fragments_none sizes = refl

pub fragments_more : (sizes : List ℕ) (s : ℕ) → s < length sizes
    → fragments_before sizes (s + 1) ≡ fragments_before sizes s + fragments_of (size_at sizes s)
unfolding fragments_before
fragments_more sizes s l = sum_by_more fragments_of sizes s 0 l

pub extents_none : (sizes : List ℕ) → extents_before sizes 0 ≡ 0
unfolding extents_before
extents_none sizes = refl

pub extents_more : (sizes : List ℕ) (s : ℕ) → s < length sizes
    → extents_before sizes (s + 1) ≡ extents_before sizes s + extents_of (size_at sizes s)
unfolding extents_before
extents_more sizes s l = sum_by_more extents_of sizes s 0 l

-- how many extents a segment has
abbrev pub extent_counts : List ℕ → ℕ → ℕ
extent_counts sizes s = extents_of (size_at sizes s)

pub extents_follow : (sizes : List ℕ) → FollowOn (extent_start sizes) (extent_counts sizes) (length sizes)
extents_follow sizes = record { next = λ s l. omega (arith, extents_more sizes s l) }

-- the extents of a segment are among all of them
pub own_below : (sizes : List ℕ) (s k : ℕ) → s < length sizes → k < extent_counts sizes s
    → extent_start sizes s + k < extents_needed sizes
own_below sizes s k l i = piece_before (extent_start sizes) (extent_counts sizes) (length sizes)
    (extents_follow sizes) s
    (length sizes) k l (omega arith) i

pub own_end : (sizes : List ℕ) (s : ℕ) → s < length sizes
    → extent_start sizes s + extent_counts sizes s ≤ extents_needed sizes
own_end sizes s l =
    let d = length sizes - (s + 1) in
    let e : s + 1 + d ≡ length sizes = omega arith in
    let up : extent_start sizes (s + 1) ≤ extent_start sizes (length sizes) =
    subst (λ (k : ℕ). extent_start sizes (s + 1) ≤ extent_start sizes k) e
    (start_rises (extent_start sizes) (extent_counts sizes) (length sizes) (extents_follow sizes) (s + 1) d
    (omega arith)) in
    let step = (extents_follow sizes).next s l in
    omega arith

-- the roots are among the fragment pages
pub roots_before : (sizes : List ℕ) → IsShape sizes → (s : ℕ) → s ≤ length sizes → roots s ≤ fragments_before sizes s
roots_before sizes shape zero l = omega arith
roots_before sizes shape (suc s) l =
    let before = roots_before sizes shape s (omega arith) in
    let root : s % 2 ≡ 0 → 1 ≤ size_at sizes s = shape.roots s (omega arith) in
    let more : fragments_before sizes (suc s) ≡ fragments_before sizes s + fragments_of (size_at sizes s) =
    ap (fragments_before sizes) (omega arith) ∙ fragments_more sizes s (omega arith) in
    elim (cases_lt (s % 2) 1) [ inl top ↦ (let one = root (omega arith) in omega arith) | inr leaf ↦ omega arith ]

-- the fragment pages of a segment but for a root
abbrev pub other_counts : List ℕ → ℕ → ℕ
other_counts sizes s = fragments_of (size_at sizes s) - (1 - s % 2)

pub others_follow : (sizes : List ℕ) → IsShape sizes
    → FollowOn (fragment_start sizes) (other_counts sizes) (length sizes)
others_follow sizes shape = record {
  next = λ s l.
      let more = fragments_more sizes s l in
      let here = roots_before sizes shape s (omega arith) in
      let there = roots_before sizes shape (s + 1) (omega arith) in
      let root : s % 2 ≡ 0 → 1 ≤ size_at sizes s = shape.roots s l in
      elim (cases_lt (s % 2) 1) [ inl top ↦ (let one = root (omega arith) in omega arith) | inr leaf ↦ omega arith ];
}

-- a fragment page is a root, or another one
pub record Root (sizes : List ℕ) (s i : ℕ) : Type 0 where
  pub top : s % 2 ≡ 0
  pub first : i ≡ 0
  pub is : fragment_page sizes s i ≡ 3 + s / 2

pub record Other (sizes : List ℕ) (s i : ℕ) : Type 0 where
  pub at : ℕ
  pub inside : at < other_counts sizes s
  pub there : at + (1 - s % 2) ≡ i
  pub is : fragment_page sizes s i ≡ fragment_start sizes s + at

pub fragment_cases : (sizes : List ℕ) (s i : ℕ) → i < fragments_of (size_at sizes s) → Root sizes s i ⊎ Other sizes s i
unfolding fragment_page
fragment_cases sizes s i inside = elim (eqb_tells (s % 2) 0) [
  | inl top ↦ elim (eqb_tells i 0) [
    | inl first ↦ inl (record { top = top.1; first = first.1; is = rw (top.0, first.0) refl })
    | inr later ↦ inr (record {
      at = i - 1;
      inside = omega (arith, later.1, top.1);
      there = omega (arith, later.1, top.1);
      is = rw (top.0, later.0) refl;
    })
  ]
  | inr leaf ↦ inr (record {
    at = i;
    inside = omega (arith, leaf.1);
    there = omega (arith, leaf.1);
    is = rw leaf.0 refl;
  })
]

-- the number of the root is below those of the others
root_below : (sizes : List ℕ) (s t at : ℕ) → IsShape sizes → s < length sizes → 3 + s / 2 < fragment_start sizes t + at
root_below sizes s t at shape l = let even = shape.pairs in omega arith

pub fragment_one : (sizes : List ℕ) → IsShape sizes → (s t i j : ℕ) → s < length sizes → t < length sizes
    → i < fragments_of (size_at sizes s) → j < fragments_of (size_at sizes t)
    → fragment_page sizes s i ≡ fragment_page sizes t j → (s ≡ t) × (i ≡ j)
fragment_one sizes shape s t i j sn tn ic jc same = elim (fragment_cases sizes s i ic) [
  | inl a ↦ elim (fragment_cases sizes t j jc) [
    | inl b ↦
        let e : 3 + s / 2 ≡ 3 + t / 2 = sym a.is ∙ same ∙ b.is in
        (omega (arith, a.top, b.top), omega (arith, a.first, b.first))
    | inr b ↦
        let e : 3 + s / 2 ≡ fragment_start sizes t + b.at = sym a.is ∙ same ∙ b.is in
        absurd (let r = root_below sizes s t b.at shape sn in omega arith)
  ]
  | inr a ↦ elim (fragment_cases sizes t j jc) [
    | inl b ↦
        let e : fragment_start sizes s + a.at ≡ 3 + t / 2 = sym a.is ∙ same ∙ b.is in
        absurd (let r = root_below sizes t s a.at shape tn in omega arith)
    | inr b ↦
        let e : fragment_start sizes s + a.at ≡ fragment_start sizes t + b.at = sym a.is ∙ same ∙ b.is in
        let r = one_place (fragment_start sizes) (other_counts sizes) (length sizes)
        (others_follow sizes shape) s t a.at
        b.at sn tn a.inside b.inside e in
        let where_s = a.there in let where_t = b.there in let p = r.0 in let q = r.1 in
        (r.0, omega arith)
  ]
]

-- the numbers of fragment pages are those behind the first three, up to the number of used ones
pub fragment_low : (sizes : List ℕ) (s i : ℕ) → i < fragments_of (size_at sizes s) → 3 ≤ fragment_page sizes s i
fragment_low sizes s i ic = elim (fragment_cases sizes s i ic) [
  | inl a ↦ let e = a.is in omega arith
  | inr a ↦ let e = a.is in omega arith
]

pub fragment_high : (sizes : List ℕ) → IsShape sizes → (s i : ℕ) → s < length sizes → i < fragments_of (size_at sizes s)
    → fragment_page sizes s i < used_fragments sizes
fragment_high sizes shape s i sn ic =
    let all = roots_before sizes shape (length sizes) (omega arith) in
    elim (fragment_cases sizes s i ic) [
      | inl a ↦ let e = a.is in let even = shape.pairs in omega arith
      | inr a ↦
          let e = a.is in
          let b = piece_before (fragment_start sizes) (other_counts sizes) (length sizes) (others_follow sizes shape) s
          (length sizes) a.at sn (omega arith) a.inside in
          omega arith
    ]

-- a number is that of a page of a segment
pub record HasPlace (sizes : List ℕ) (x : ℕ) : Type 0 where
  pub segment : ℕ
  pub at : ℕ
  pub is : IsPlace sizes segment at x

pub page_fragment : (sizes : List ℕ) (s i : ℕ) → i < 32 → segment_page sizes s i ≡ fragment_page sizes s i
unfolding segment_page
page_fragment sizes s i l = rw (lt-ltb i 32 l) refl

pub page_own : (sizes : List ℕ) (s i : ℕ) → 32 ≤ i → segment_page sizes s i ≡ 64 * extent_start sizes s + (i - 32)
unfolding segment_page
page_own sizes s i l = rw (le-ltb i 32 l) refl

root_page : (sizes : List ℕ) (s : ℕ) → s % 2 ≡ 0 → fragment_page sizes s 0 ≡ 3 + s / 2
unfolding fragment_page
root_page sizes s e = rw e refl

first_other : (sizes : List ℕ) (s k : ℕ) → s % 2 ≡ 0 → fragment_page sizes s (k + 1) ≡ fragment_start sizes s + k
unfolding fragment_page
first_other sizes s k e =
    let later : eqb (k + 1) 0 ≡ false = elim
    (eqb_tells (k + 1) 0) [ inl q ↦ absurd (omega (arith, q.1)) | inr q ↦ q.0 ] in
    rw (e, later) (omega arith)

leaf_other : (sizes : List ℕ) (s k : ℕ) → s % 2 ≡ 1 → fragment_page sizes s k ≡ fragment_start sizes s + k
unfolding fragment_page
leaf_other sizes s k e = rw e refl

root_there : (sizes : List ℕ) (s x : ℕ) → s % 2 ≡ 0 → 3 + s / 2 ≡ x → segment_page sizes s 0 ≡ x
root_there sizes s x top is = page_fragment sizes s 0 (omega arith) ∙ root_page sizes s top ∙ is

top_there : (sizes : List ℕ) (s k x : ℕ) → s % 2 ≡ 0 → k + 1 < 32 → fragment_start sizes s + k ≡ x
    → segment_page sizes s (k + 1) ≡ x
top_there sizes s k x top small is = page_fragment sizes s (k + 1) small ∙ first_other sizes s k top ∙ is

leaf_there : (sizes : List ℕ) (s k x : ℕ) → s % 2 ≡ 1 → k < 32 → fragment_start sizes s + k ≡ x
    → segment_page sizes s k ≡ x
leaf_there sizes s k x leaf small is = page_fragment sizes s k small ∙ leaf_other sizes s k leaf ∙ is

-- each number of a used fragment page but for the first three is that of a page of a segment
pub fragment_place : (sizes : List ℕ) → IsShape sizes → (x : ℕ) → 3 ≤ x → x < used_fragments sizes → HasPlace sizes x
fragment_place sizes shape x low high = elim (cases_lt x (3 + roots (length sizes))) [
  | inl root ↦
      let even = shape.pairs in
      let s = 2 * (x - 3) in
      let below : s < length sizes = omega arith in
      let top : s % 2 ≡ 0 = omega arith in
      record {
        segment = s;
        at = 0;
        is = record {
          below = below;
          inside = omega (arith, shape.roots s below top);
          there = root_there sizes s x top (omega arith);
        };
      }
  | inr other ↦
      let all = roots_before sizes shape (length sizes) (omega arith) in
      let none = fragments_none sizes in
      let p = some_place (fragment_start sizes) (other_counts sizes) (length sizes) (others_follow sizes shape) x
      (omega arith) (omega arith) in
      let inside = p.inside in
      elim (cases_lt (p.piece % 2) 1) [
        | inl top ↦ record {
          segment = p.piece;
          at = p.at + 1;
          is = record {
            below = p.below;
            inside = omega arith;
            there = top_there sizes p.piece p.at x (omega arith) (omega arith) p.there;
          };
        }
        | inr leaf ↦ record {
          segment = p.piece;
          at = p.at;
          is = record {
            below = p.below;
            inside = omega arith;
            there = leaf_there sizes p.piece p.at x (omega arith) (omega arith) p.there;
          };
        }
      ]
]

-- and so is each number in the used part of an extent of a segment
pub own_place : (sizes : List ℕ) (s k j : ℕ) → s < length sizes → j < 64 → 64 * k + j < own_of (size_at sizes s)
    → IsPlace sizes s (32 + (64 * k + j)) (64 * (extent_start sizes s + k) + j)
own_place sizes s k j sn small inside = record {
  below = sn;
  inside = omega arith;
  there = page_own sizes s (32 + (64 * k + j)) (omega arith) ∙ omega arith;
}

-- where the pages behind the first 32 of a segment are
pub own_extent_of : (sizes : List ℕ) (s i : ℕ) → 32 ≤ i → i < size_at sizes s
    → (segment_page sizes s i / 64 ≡ extent_start sizes s + (i - 32) / 64) × ((i - 32) / 64 < extent_counts sizes s)
own_extent_of sizes s i low inside = let e = page_own sizes s i low in (omega arith, omega arith)

-- the numbers of the pages of segments lie behind the first three, and below the number of pages
pub page_low : (sizes : List ℕ) (s i : ℕ) → i < size_at sizes s → 3 ≤ segment_page sizes s i
page_low sizes s i inside = elim (cases_lt i 32) [
  | inl few ↦ rw (page_fragment sizes s i few) (fragment_low sizes s i (omega arith))
  | inr many ↦ let e = page_own sizes s i many in omega arith
]

pub page_high : (sizes : List ℕ) → IsShape sizes → (s i : ℕ) → s < length sizes → i < size_at sizes s
    → segment_page sizes s i < space_pages sizes
page_high sizes shape s i sn inside = elim (cases_lt i 32) [
  | inl few ↦
      let e = page_fragment sizes s i few in
      let high = fragment_high sizes shape s i sn (omega arith) in
      omega arith
  | inr many ↦
      let e = page_own sizes s i many in
      let r = own_extent_of sizes s i many inside in
      let below = own_below sizes s ((i - 32) / 64) sn r.1 in
      omega arith
]

fragment_before_own : (sizes : List ℕ) → IsShape sizes → (s t i j : ℕ) → s < length sizes → i < 32 → i < size_at sizes s
    → 32 ≤ j → segment_page sizes s i < segment_page sizes t j
fragment_before_own sizes shape s t i j sn few inside many =
    let e = page_fragment sizes s i few in
    let f = page_own sizes t j many in
    let high = fragment_high sizes shape s i sn (omega arith) in
    omega arith

-- pages at different places have different numbers
pub page_one : (sizes : List ℕ) → IsShape sizes → (s t i j : ℕ) → s < length sizes → t < length sizes
    → i < size_at sizes s → j < size_at sizes t → segment_page sizes s i ≡ segment_page sizes t j → (s ≡ t) × (i ≡ j)
page_one sizes shape s t i j sn tn ic jc same = elim (cases_lt i 32) [
  | inl few ↦ elim (cases_lt j 32) [
    | inl also ↦ fragment_one sizes shape s t i j sn tn (omega arith) (omega arith)
        (sym (page_fragment sizes s i few) ∙ same ∙ page_fragment sizes t j also)
    | inr many ↦ absurd (let b = fragment_before_own sizes shape s t i j sn few ic many in omega arith)
  ]
  | inr many ↦ elim (cases_lt j 32) [
    | inl few ↦ absurd (let b = fragment_before_own sizes shape t s j i tn few jc many in omega arith)
    | inr also ↦
        let a = own_extent_of sizes s i many ic in
        let b = own_extent_of sizes t j also jc in
        let e = page_own sizes s i many in
        let f = page_own sizes t j also in
        let r = one_place (extent_start sizes) (extent_counts sizes) (length sizes) (extents_follow sizes) s t
        ((i - 32) / 64) ((j - 32) / 64) sn tn a.1 b.1 (sym a.0 ∙ ap (λ (n : ℕ). n / 64) same ∙ b.0) in
        let at : extent_start sizes s ≡ extent_start sizes t = ap (extent_start sizes) r.0 in
        (r.0, omega arith)
  ]
]

-- a segment that isn't there has no page
size_past : (sizes : List ℕ) (s i : ℕ) → i < size_at sizes s → s < length sizes
size_past sizes s i inside = elim (cases_lt s (length sizes)) [
  | inl l ↦ l
  | inr l ↦ absurd (let none : size_at sizes s ≡ 0 = get_or_past sizes s 0 l in omega arith)
]

pub root_number : (sizes : List ℕ) (j : ℕ) → segment_page sizes (2 * j) 0 ≡ 3 + j
root_number sizes j =
    page_fragment sizes (2 * j) 0 (omega arith) ∙ root_page sizes (2 * j) (omega arith) ∙ omega arith

pub are_numbers : (sizes : List ℕ) → IsShape sizes → AreNumbers sizes
are_numbers sizes shape = record {
  low = λ s i n p. subst (λ (k : ℕ). 3 ≤ k) p.there (page_low sizes s i p.inside);
  high = λ s i n p. subst (λ (k : ℕ). k < space_pages sizes) p.there (page_high sizes shape s i p.below p.inside);
  one = λ s t i j a b. page_one sizes shape s t i j (size_past sizes s i a) (size_past sizes t j b) a b;
  roots = root_number sizes;
}
