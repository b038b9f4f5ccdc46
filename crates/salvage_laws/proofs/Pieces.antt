-- Lists that are put together of pieces, in which no number comes twice.
use Rattle.std.proofs.Common.{◌≡◌, ℕ, zero, suc, ◌+◌, ◌<◌, Bool, true, false, cond, List, [], ◌++◌, length}
use Rattle.std.proofs.Common.{take, get_or, flat_map, Contains, inl, inr, refl, sym, ap, ◌∙◌, arith}
use Rattle.std.proofs.lemmas.Bool.{cases_order}
use Rattle.std.proofs.lemmas.List.{get_or-take, length-take}
use Rattle.std.proofs.lemmas.List.Sums.{get_or-le-sum_by}
use Rattle.page_source.specs.Lists.{times_in}
use Rattle.page_source.proofs.Times.{times_append, times_flat_map, times_some}
use Rattle.page_source.proofs.Lists.{two_places}
use Rattle.space_audit.specs.Marks.{is_in, seen}
use Rattle.tree_walk.specs.Laws.{ComeOnce}
use Rattle.salvage_laws.proofs.Leaves.{is_in_contains}

not_both : {X : Type 0} (f : X → List ℕ) (xs : List X) → ComeOnce (flat_map f xs) → (i j : ℕ) (d : X) → i < j
    → j < length xs → (n : ℕ) → Contains (f (get_or xs i d)) n → Contains (f (get_or xs j d)) n → ⊥
not_both {X = X} f xs once i j d before below n a b =
    let both = two_places (λ (x : X). times_in (f x) n) xs i j d before below in
    let all = times_flat_map f xs n in
    let most = once n in
    omega (arith, both, all, most, times_some (f (get_or xs i d)) n a, times_some (f (get_or xs j d)) n b)

-- a number has one piece
pub one_piece : {X : Type 0} (f : X → List ℕ) (xs : List X) → ComeOnce (flat_map f xs) → (i j : ℕ) (d : X)
    → i < length xs → j < length xs → (n : ℕ) → Contains (f (get_or xs i d)) n → Contains (f (get_or xs j d)) n → i ≡ j
one_piece f xs once i j d i_below j_below n a b = elim (cases_order i j) [
  | inl e ↦ e
  | inr h ↦ elim h [
    | inl less ↦ absurd (not_both f xs once i j d less j_below n a b)
    | inr more ↦ absurd (not_both f xs once j i d more i_below n b a)
  ]
]

-- and comes once in it
pub once_piece : {X : Type 0} (f : X → List ℕ) (xs : List X) → ComeOnce (flat_map f xs) → (i : ℕ) (d : X)
    → i < length xs → ComeOnce (f (get_or xs i d))
once_piece {X = X} f xs once i d below n =
    let one = get_or-le-sum_by (λ (x : X). times_in (f x) n) xs i d below in
    let all = times_flat_map f xs n in
    let most = once n in
    omega (arith, one, all, most)

pub once_back : (xs ys : List ℕ) → ComeOnce (xs ++ ys) → ComeOnce ys
once_back xs ys once n = let both = times_append xs ys n in let most = once n in omega (arith, both, most)

-- a number that wasn't taken and isn't in the list
pub unseen : (taken : ℕ → Bool) (list : List ℕ) (n : ℕ) → taken n ≡ false → ¬ (Contains list n)
    → seen taken list n ≡ false
unseen taken list n free out =
    ap (λ (b : Bool). cond b true (is_in list n)) free ∙ by_test (is_in list n) refl
  where
    by_test : (b : Bool) → is_in list n ≡ b → b ≡ false
    by_test true e = absurd (out (is_in_contains list n e))
    by_test false e = refl

-- what holds where it holds before, holds everywhere
upto : (Good : ℕ → Type 0) (count : ℕ) → ((k : ℕ) → k < count → ((j : ℕ) → j < k → Good j) → Good k) → (n k : ℕ)
    → k < n → k < count → Good k
upto Good count step zero k below within = absurd (omega (arith, below))
upto Good count step (suc n) k below within =
    step k within (λ j less. upto Good count step n j (omega (arith, less, below)) (omega (arith, less, within)))

pub strong : (Good : ℕ → Type 0) (count : ℕ) → ((k : ℕ) → k < count → ((j : ℕ) → j < k → Good j) → Good k) → (k : ℕ)
    → k < count → Good k
strong Good count step k within = upto Good count step (suc k) k (omega arith) within

-- a member of the first members of a list
pub record Before {X : Type 0} (xs : List X) (k : ℕ) (x : X) : Type 0 where
  pub place : ℕ
  pub before : place < k
  pub below : place < length xs
  pub is : get_or xs place x ≡ x

pub before_taken : {X : Type 0} (xs : List X) (k : ℕ) (x : X) → Contains (take k xs) x → Before xs k x
before_taken xs k x c =
    let size = length-take k xs in
    let less : c.0 < k = omega (arith, size, c.1) in
    record {
      place = c.0;
      before = less;
      below = omega (arith, size, c.1);
      is = sym (get_or-take k xs c.0 x less) ∙ c.2;
    }
