-- The map of the pages of a built tablespace.
use Rattle.std.proofs.Common.{◌≡◌, ℕ, ◌≤◌, Bool, true, false, cond, eqb, List, [], ◌∷◌, length, map, replicate, All}
use Rattle.std.proofs.Common.{Contains, Option, Some, unwrap_or, inl, inr, refl, sym, ap, ◌∙◌, subst, arith}
use Rattle.std.specs.Map.{lookup}
use Rattle.std.specs.Ordering.{nat_cmp}
use Rattle.std.specs.Cmp.{unsigned_tied}
use Rattle.std.specs.BTreeMap.{is_at}
use Rattle.std.specs.FinMap.{from_entries}
use Rattle.std.proofs.lemmas.Bool.{ne_eqb, eq-eqb, false≢true}
use Rattle.std.proofs.lemmas.Bool.Decides.{eqb_tells, nat_tests}
use Rattle.std.proofs.lemmas.List.{length-replicate}
use Rattle.std.proofs.lemmas.List.Elements.{All-head, All-tail, All-cons}
use Rattle.page_source.specs.Pages.{page_size}
use Rattle.page_source.specs.Objects.{held_page}
use Rattle.page_source.specs.Sources.{AreWhole}
use Rattle.page_source.proofs.Members.{contains_none, contains_cases, all_members}
use Rattle.page_source.proofs.SparseFiles.{get_of_entries}
use Rattle.space_layout.specs.Numbers.{IsShape}
use Rattle.space_layout.specs.HeadPages.{header_page, bitmap_page, inode_page, HoldsPages}
use Rattle.space_layout.specs.NumberedPages.{Numbered, IsNumbered, AreSegmentPages, numbered_pages, numbered_map}
use Rattle.space_layout.specs.LowerLaws.{PageLaws}
use Rattle.space_layout.specs.Laws.{NumberedPagesAreFound}
use Rattle.space_layout.proofs.PageNumbers.{are_numbers}
use Rattle.space_layout.proofs.HeadBytes.{are_head_pages}

same_test : (n q : ℕ) → is_at (nat_cmp n) q ≡ eqb q n
same_test n q = unsigned_tied n q ∙ grind (arith, nat_tests)

other_test : (n q : ℕ) → (q ≡ n → ⊥) → is_at (nat_cmp n) q ≡ false
other_test n q h = same_test n q ∙ ne_eqb q n h

-- a search finds an entry with this number
record Found (P : Numbered → Type 0) (es : List Numbered) (n : ℕ) : Type 0 where
  page : List ℕ
  is : lookup (is_at (nat_cmp n)) es ≡ Some page
  so : P (n, page)

find_at : (P : Numbered → Type 0) (e : Numbered) (es : List Numbered) (n : ℕ) (b : Bool) → is_at (nat_cmp n) e.0 ≡ b
    → (b ≡ true → e.0 ≡ n) → P e → (b ≡ false → Found P es n) → Found P (e ∷ es) n
find_at P e es n true is same here rest =
    let number = same refl in
    record {
      page = e.1;
      is = ap (λ (b : Bool). cond b (Some e.1) (lookup (is_at (nat_cmp n)) es)) is;
      so = subst (λ (k : ℕ). P (k, e.1)) number here;
    }
find_at P e es n false is same here rest =
    let r = rest refl in
    record {
      page = r.page;
      is = ap (λ (b : Bool). cond b (Some e.1) (lookup (is_at (nat_cmp n)) es)) is ∙ r.is;
      so = r.so;
    }

find : (P : Numbered → Type 0) (es : List Numbered) (n : ℕ) → All P es
    → Contains (map (λ (entry : Numbered). entry.0) es) n → Found P es n
find P [] n all c = absurd (contains_none n c)
find P (e ∷ es) n all c =
    find_at P e es n (is_at (nat_cmp n) e.0) refl
    (λ t. elim (eqb_tells e.0 n) [
      | inl q ↦ q.1
      | inr q ↦ absurd (false≢true (sym (same_test n e.0 ∙ q.0) ∙ t))
    ])
    (All-head P e es all)
    (λ t. find P es n (All-tail P e es all)
    (elim (contains_cases e.0 (map (λ (entry : Numbered). entry.0) es) n c) [
      | inl q ↦ absurd (false≢true (sym t ∙ same_test n e.0 ∙ eq-eqb e.0 n q))
      | inr k ↦ k
    ]))

-- each page that is found is whole
found_whole : (es : List Numbered) → All (λ (entry : Numbered). length entry.1 ≡ 16384) es → (n : ℕ)
    → length (unwrap_or (lookup (is_at (nat_cmp n)) es) (replicate page_size 0)) ≡ page_size
found_whole [] all n = length-replicate {A = ℕ} page_size 0
found_whole (e ∷ es) all n =
    elim (is_at (nat_cmp n) e.0) as (λ (b : Bool). length (unwrap_or (cond b (Some e.1) (lookup (is_at (nat_cmp n)) es))
    (replicate page_size 0)) ≡ page_size) [
      | true ↦ All-head (λ (entry : Numbered). length entry.1 ≡ 16384) e es all
      | false ↦ found_whole es (All-tail (λ (entry : Numbered). length entry.1 ≡ 16384) e es all) n
    ]

entries_whole : (es : List Numbered) → All (λ (entry : Numbered). length entry.1 ≡ 16384) es
    → AreWhole (from_entries es)
unfolding held_page
entries_whole es all n =
    ap (λ (o : Option (List ℕ)). length (unwrap_or o (replicate page_size 0))) (get_of_entries es n)
    ∙ found_whole es all n

all_whole : (sizes : List ℕ) (pages : List Numbered) → All (IsNumbered sizes) pages
    → All (λ (entry : Numbered). length entry.1 ≡ 16384) pages
all_whole sizes pages all = λ k d l. (all k d l).whole

-- a page behind the first three
behind_heads : (sizes : List ℕ) (flags : ℕ) (pages : List Numbered) (n : ℕ) → 3 ≤ n
    → lookup (is_at (nat_cmp n)) (numbered_pages sizes flags pages) ≡ lookup (is_at (nat_cmp n)) pages
behind_heads sizes flags pages n low =
    rw (
      other_test n 0 (λ e. absurd (omega arith)),
      other_test n 1 (λ e. absurd (omega arith)),
      other_test n 2 (λ e. absurd (omega arith)),
    )
    refl

pub numbered_found : NumberedPagesAreFound
unfolding numbered_map
numbered_found sizes flags pages n low among =
    let found = find (Contains pages) pages n (all_members (Contains pages) pages (λ entry member. member)) among in
    record {
      page = found.page;
      held = get_of_entries (numbered_pages sizes flags pages) n ∙ behind_heads sizes flags pages n low ∙ found.is;
      among = found.so;
    }

pub numbered_held : PageLaws → (sizes : List ℕ) (flags : ℕ) (pages : List Numbered) → IsShape sizes
    → AreSegmentPages sizes pages → HoldsPages (numbered_map sizes flags pages) sizes flags
unfolding numbered_map
numbered_held laws sizes flags pages shape h =
    let all = numbered_pages sizes flags pages in
    let heads = are_head_pages laws sizes flags shape in
    let Whole = λ (entry : Numbered). length entry.1 ≡ 16384 in
    record {
      whole = entries_whole all
          (All-cons Whole (0, header_page sizes flags) ((1, bitmap_page) ∷ (2, inode_page sizes) ∷ pages) heads.head
          (All-cons Whole (1, bitmap_page) ((2, inode_page sizes) ∷ pages) heads.bitmap
          (All-cons Whole (2, inode_page sizes) pages heads.inodes (all_whole sizes pages h.each))));
      head = get_of_entries all 0;
      bitmap = get_of_entries all 1;
      inodes = get_of_entries all 2;
      segments = λ s i n p.
          let low = (are_numbers sizes shape).low s i n p in
          let r = find (IsNumbered sizes) pages n h.each (h.every s i n p) in
          (r.page, get_of_entries all n ∙ behind_heads sizes flags pages n low ∙ r.is, r.so.bytes);
    }
