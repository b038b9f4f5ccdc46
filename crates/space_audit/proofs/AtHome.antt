-- The members of a list are exactly the extents with a home where each has it and there are as many.
use Rattle.std.proofs.Common.{◌≡◌, ◌⊎◌, ◌==◌, ℕ, zero, suc, ◌+◌, ◌<◌, ◌≤◌, Bool, true, false, cond, List, [], ◌∷◌, ◌++◌}
use Rattle.std.proofs.Common.{length, get_or, set, get_or-set_same, get_or-set_other, All, Contains, filter, refl, sym}
use Rattle.std.proofs.Common.{◌∙◌, ap, subst, inl, inr, arith, Some, None, ◌≢◌, nat_lt, lt-ltb}
use Rattle.std.specs.List.{range_with_len}
use Rattle.std.proofs.lemmas.List.Elements.{Contains-get_or, All-contains}
use Rattle.std.proofs.lemmas.List.Sums.{length-filter, count_by-le-length, sum_by-le-sum_by}
use Rattle.std.proofs.lemmas.List.FromFn.{length-range_with_len}
use Rattle.std.proofs.lemmas.Bool.Decides.{Decides-eqb, eqb_tells, leb_tells}
use Rattle.page_source.specs.Lists.{AreDistinct, HaveSameMembers}
use Rattle.page_source.proofs.Times.{one_if, sum_by_plus}
use Rattle.page_source.proofs.Members.{contains_filter, filter_contains, contains_range, range_contains}
use Rattle.page_source.proofs.Members.{distinct_filter, distinct_range, same_length, same_members, count_more_yes}
use Rattle.page_source.proofs.Members.{count_more_no}
use Rattle.page_source.specs.declared.rule.Rule.TheVariants.{ExtentHome}
use Rattle.space_header.specs.declared.address.Node.{Node}
use Rattle.space_header.specs.Header.{extent_address}
use Rattle.space_header.specs.Linked.{node_in}
use Rattle.space_header.specs.Laws.{LinksOneList}
use Rattle.space_audit.specs.Lists.{at_home, HomeList, IsList, HomeListChecks}

pub has_home : (homes : List ℕ) (home n : ℕ) → n < length homes → get_or homes n 0 ≡ home
    → Contains (at_home homes home) n
has_home homes home n h e = contains_filter (λ k. get_or homes k 0 == home) (range_with_len 0 (length homes)) n
    (contains_range (length homes) n h) ((Decides-eqb (get_or homes n 0) home).1 e)

pub home_of_member : (homes : List ℕ) (home n : ℕ) → Contains (at_home homes home) n → get_or homes n 0 ≡ home
home_of_member homes home n c = (Decides-eqb (get_or homes n 0) home).0
    (filter_contains (λ k. get_or homes k 0 == home) (range_with_len 0 (length homes)) n c).1

pub at_home_distinct : (homes : List ℕ) (home : ℕ) → AreDistinct (at_home homes home)
at_home_distinct homes home = distinct_filter (λ k. get_or homes k 0 == home) (range_with_len 0 (length homes))
    (distinct_range (length homes))

pub as_many : (homes : List ℕ) (home : ℕ) (xs : List ℕ) → AreDistinct xs → HaveSameMembers xs (at_home homes home)
    → length xs ≡ length (at_home homes home)
as_many homes home xs d h = same_length xs (at_home homes home) d (at_home_distinct homes home) h

pub get_any : (xs : List ℕ) (k n : ℕ) → k < length xs → get_or xs k n ≡ get_or xs k 0
get_any [] k n h = absurd (omega arith)
get_any (x ∷ xs) zero n h = refl
get_any (x ∷ xs) (suc k) n h = get_any xs k n (omega arith)

at_member : (homes : List ℕ) (home : ℕ) (xs : List ℕ) (n : ℕ) → Contains xs n
    → ((k : ℕ) → k < length xs → get_or homes (get_or xs k 0) 0 ≡ home) → get_or homes n 0 ≡ home
at_member homes home xs n c h = subst (λ m. get_or homes m 0 ≡ home) (sym (get_any xs c.0 n c.1) ∙ c.2) (h c.0 c.1)

pub all_at_home : (homes : List ℕ) (home : ℕ) (xs : List ℕ) → AreDistinct xs → All (λ e. e < length homes) xs
    → length xs ≡ length (at_home homes home)
    → ((k : ℕ) → k < length xs → get_or homes (get_or xs k 0) 0 ≡ home) → HaveSameMembers xs (at_home homes home)
all_at_home homes home xs d w e h =
    same_members xs (at_home homes home) d (λ n c. has_home homes home n
    (All-contains (λ m. m < length homes) xs n w c) (at_member homes home xs n c h)) e

pub not_at_home : (homes : List ℕ) (home : ℕ) (xs : List ℕ) (k : ℕ) → k < length xs
    → HaveSameMembers xs (at_home homes home) → get_or homes (get_or xs k 0) 0 ≡ home
not_at_home homes home xs k h s = home_of_member homes home (get_or xs k 0)
    ((s (get_or xs k 0)).0 (Contains-get_or xs k 0 h))

-- one more extent whose home is known
pub counted_more_yes : (homes : List ℕ) (home n : ℕ) → get_or homes n 0 ≡ home
    → length (filter (λ e. get_or homes e 0 == home) (range_with_len 0 (n + 1))) ≡ length
    (filter (λ e. get_or homes e 0 == home) (range_with_len 0 n)) + 1
counted_more_yes homes home n e = count_more_yes (λ k. get_or homes k 0 == home) n
    ((Decides-eqb (get_or homes n 0) home).1 e)

pub counted_more_no : (homes : List ℕ) (home n : ℕ) → get_or homes n 0 ≢ home
    → length (filter (λ e. get_or homes e 0 == home) (range_with_len 0 (n + 1))) ≡ length
    (filter (λ e. get_or homes e 0 == home) (range_with_len 0 n))
counted_more_no homes home n d = count_more_no (λ k. get_or homes k 0 == home) n
    (elim (eqb_tells (get_or homes n 0) home) [ inl q ↦ absurd (d q.1) | inr q ↦ q.0 ])

-- the checks of a list, by the list that is linked
pub home_list_holds : (nodes : List Node) (list : HomeList) (xs : List ℕ) → IsList nodes list.base xs
    → HaveSameMembers xs list.home → HomeListChecks nodes list None
unfolding HomeListChecks
home_list_holds nodes list xs h s = ((xs, h), (xs, h, s))

pub home_list_breaks : LinksOneList → (nodes : List Node) (list : HomeList) (xs : List ℕ) → length nodes ≤ 65536
    → IsList nodes list.base xs → (¬ (HaveSameMembers xs list.home))
    → HomeListChecks nodes list (Some (record { rule = ExtentHome; page = list.holder }))
unfolding HomeListChecks
home_list_breaks law nodes list xs few h n =
    inr (
      (xs, h),
      (
        λ w. n (subst (λ ys. HaveSameMembers ys list.home) (law list.base nodes w.0 xs few w.1 h) w.2),
        refl,
      ),
    )

-- the counts of all homes so far
abbrev pub Counted : List ℕ → List ℕ → ℕ → ℕ → Type 0
Counted homes counts lists i = (home : ℕ) → home < lists
    → get_or counts home 0 ≡ length (filter (λ e. get_or homes e 0 == home) (range_with_len 0 i))

pub counted_here : (homes counts : List ℕ) (lists i n : ℕ) → Counted homes counts lists i → get_or homes i 0 < lists
    → length counts ≡ lists → n ≡ get_or counts (get_or homes i 0) 0 + 1
    → Counted homes (set counts (get_or homes i 0) n) lists (i + 1)
counted_here homes counts lists i n h l r e = λ home m. elim (eqb_tells (get_or homes i 0) home) [
  | inl q ↦ subst (λ k. get_or (set counts (get_or homes i 0) n) k 0 ≡ length
      (filter (λ e. get_or homes e 0 == k) (range_with_len 0 (i + 1)))) q.1
      (get_or-set_same counts (get_or homes i 0) n 0 (omega arith)
      ∙ (e ∙ (ap (λ k. k + 1) (h (get_or homes i 0) l) ∙ sym (counted_more_yes homes (get_or homes i 0) i refl))))
  | inr q ↦ get_or-set_other counts (get_or homes i 0) home n 0 (λ s. q.1 (sym s))
      ∙ (h home m ∙ sym (counted_more_no homes home i q.1))
]

pub counted_past : (homes counts : List ℕ) (lists i : ℕ) → Counted homes counts lists i → lists ≤ get_or homes i 0
    → Counted homes counts lists (i + 1)
counted_past homes counts lists i h l = λ home m. h home m
    ∙ sym (counted_more_no homes home i (λ e. absurd (omega arith)))

pub counted_few : (homes : List ℕ) (home i : ℕ)
    → length (filter (λ e. get_or homes e 0 == home) (range_with_len 0 i)) ≤ i
counted_few homes home i = omega (
  arith,
  length-filter (λ e. get_or homes e 0 == home) (range_with_len 0 i),
  count_by-le-length (λ e. get_or homes e 0 == home) (range_with_len 0 i),
  length-range_with_len 0 i,
)

-- how many extents have a home below a number: the homes are apart
abbrev pub homes_below : List ℕ → ℕ → ℕ
homes_below homes k = length (filter (λ e. nat_lt (get_or homes e 0) k) (range_with_len 0 (length homes)))

one_more_home : (x k : ℕ) → one_if (nat_lt x k) + one_if (x == k) ≤ one_if (nat_lt x (k + 1))
one_more_home x k = elim (leb_tells (suc x) k) [
  | inl p ↦ elim (eqb_tells x k) [
    | inl q ↦ absurd (omega (arith, p.1, q.1))
    | inr q ↦ let r : nat_lt x (k + 1) ≡ true = lt-ltb x (k + 1) (omega (arith, p.1)) in rw (p.0, q.0, r)
        (omega arith)
  ]
  | inr p ↦ elim (eqb_tells x k) [
    | inl q ↦ let r : nat_lt x (k + 1) ≡ true = lt-ltb x (k + 1) (omega (arith, q.1)) in rw (p.0, q.0, r)
        (omega arith)
    | inr q ↦ rw (p.0, q.0) (omega arith)
  ]
]

pub below_more : (homes : List ℕ) (k : ℕ) → homes_below homes k + length (at_home homes k) ≤ homes_below homes (k + 1)
below_more homes k =
    let all = range_with_len 0 (length homes) in
    let a = length-filter (λ e. nat_lt (get_or homes e 0) k) all in
    let b = length-filter (λ e. get_or homes e 0 == k) all in
    let c = length-filter (λ e. nat_lt (get_or homes e 0) (k + 1)) all in
    let p = sum_by_plus (λ e. one_if (nat_lt (get_or homes e 0) k)) (λ e. one_if (get_or homes e 0 == k)) all in
    let s = sum_by-le-sum_by (λ e. one_if (nat_lt (get_or homes e 0) k) + one_if (get_or homes e 0 == k))
    (λ e. one_if (nat_lt (get_or homes e 0) (k + 1))) all (λ e. one_more_home (get_or homes e 0) k) in
    omega (arith, a, b, c, p, s)

pub below_all : (homes : List ℕ) (k : ℕ) → homes_below homes k ≤ length homes
below_all homes k =
    let all = range_with_len 0 (length homes) in
    omega (
      arith,
      length-filter (λ e. nat_lt (get_or homes e 0) k) all,
      count_by-le-length
          (λ e. nat_lt (get_or homes e 0) k) all,
      length-range_with_len 0 (length homes),
    )

pub below_three : (homes : List ℕ) (k : ℕ)
    → homes_below homes k + (length (at_home homes k) + length (at_home homes (k + 1)) + length
    (at_home homes (k + 2))) ≤ homes_below homes (k + 3)
below_three homes k =
    let a = below_more homes k in let b = below_more homes (k + 1) in let c = below_more homes (k + 2) in
    let e : k + 1 + 1 ≡ k + 2 = omega arith in
    let f : k + 2 + 1 ≡ k + 3 = omega arith in
    let b2 = rw e at b in
    let c2 = rw f at c in
    omega (arith, a, b2, c2)
