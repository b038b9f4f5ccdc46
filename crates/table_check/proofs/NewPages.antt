-- Numbers that are new: each comes once in a list, and none was taken before. Lists that are put together of pieces
-- have only new numbers exactly where each piece has, behind the pieces before it.
use Rattle.std.proofs.Common.{◌≡◌, ◌≢◌, ◌⊎◌, ℕ, zero, suc, ◌+◌, ◌-◌, ◌<◌, ◌≤◌, Bool, true, false, cond, eqb, List, []}
use Rattle.std.proofs.Common.{◌∷◌, ◌++◌, refl, sym, ap, ◌∙◌, subst, inl, inr, arith, add-one}
use Rattle.std.proofs.lemmas.Bool.{true≢false, eq-eqb, ne_eqb}
use Rattle.std.proofs.lemmas.Bool.Decides.{eqb_tells}
use Rattle.page_source.specs.Lists.{times_in}
use Rattle.page_source.proofs.Times.{one_if, times_cons, times_append}
use Rattle.space_audit.specs.Marks.{is_in, seen}
use Rattle.tree_walk.specs.Laws.{ComeOnce}

-- a number that is the first one comes once more than in the rest
pub times_here : (x : ℕ) (xs : List ℕ) (n : ℕ) → eqb x n ≡ true → times_in (x ∷ xs) n ≡ 1 + times_in xs n
times_here x xs n e = times_cons x xs n ∙ ap (λ (b : Bool). one_if b + times_in xs n) e

-- a number that is another one than the first comes as often as in the rest
times_there : (x : ℕ) (xs : List ℕ) (n : ℕ) → eqb x n ≡ false → times_in (x ∷ xs) n ≡ 0 + times_in xs n
times_there x xs n e = times_cons x xs n ∙ ap (λ (b : Bool). one_if b + times_in xs n) e

-- what comes no time stands nowhere in a list
pub is_in_none : (xs : List ℕ) (n : ℕ) → times_in xs n ≡ 0 → is_in xs n ≡ false
is_in_none [] n e = refl
is_in_none (x ∷ xs) n e = elim (eqb_tells x n) [
  | inl q ↦ let t = times_here x xs n q.0 in absurd (omega arith)
  | inr q ↦ let t = times_there x xs n q.0 in rw q.0 (is_in_none xs n (omega arith))
]

-- and what stands nowhere comes no time
pub none_in : (xs : List ℕ) (n : ℕ) → is_in xs n ≡ false → times_in xs n ≡ 0
none_in [] n e = refl
none_in (x ∷ xs) n e = elim (eqb_tells x n) [
  | inl q ↦ absurd (true≢false (rw q.0 at e))
  | inr q ↦ let t = times_there x xs n q.0 in let r = none_in xs n (rw q.0 at e) in omega arith
]

-- what stands in a list comes there
pub some_in : (xs : List ℕ) (n : ℕ) → is_in xs n ≡ true → 1 ≤ times_in xs n
some_in [] n e = absurd (true≢false (sym e))
some_in (x ∷ xs) n e = elim (eqb_tells x n) [
  | inl q ↦ let t = times_here x xs n q.0 in omega arith
  | inr q ↦ let t = times_there x xs n q.0 in let r = some_in xs n (rw q.0 at e) in omega arith
]

-- and what comes there stands in it
pub is_in_some : (xs : List ℕ) (n : ℕ) → 1 ≤ times_in xs n → is_in xs n ≡ true
is_in_some [] n h = absurd (omega arith)
is_in_some (x ∷ xs) n h = elim (eqb_tells x n) [
  | inl q ↦ rw q.0 refl
  | inr q ↦ let t = times_there x xs n q.0 in rw q.0 (is_in_some xs n (omega arith))
]

-- a number was neither taken before nor stands in the list
pub unseen : (taken : ℕ → Bool) (xs : List ℕ) (n : ℕ) → taken n ≡ false → times_in xs n ≡ 0 → seen taken xs n ≡ false
unseen taken xs n a b = rw a (is_in_none xs n b)

-- both are known of a number that was not seen
pub record WasNew (taken : ℕ → Bool) (xs : List ℕ) (n : ℕ) : Type 0 where
  pub untaken : taken n ≡ false
  pub out : times_in xs n ≡ 0

-- a number that was not seen was not taken, and stands not in the list
was_new : (taken : ℕ → Bool) (xs : List ℕ) (n : ℕ) → seen taken xs n ≡ false → WasNew taken xs n
was_new taken xs n e = parts (taken n) refl e where
  parts : (b : Bool) → taken n ≡ b → cond b true (is_in xs n) ≡ false → WasNew taken xs n
  parts true t s = absurd (true≢false s)
  parts false t s = record { untaken = t; out = none_in xs n s }

-- each number of the list comes once, and wasn't taken before
pub record AreNew (taken : ℕ → Bool) (list : List ℕ) : Type 0 where
  pub once : ComeOnce list
  pub fresh : (n : ℕ) → 1 ≤ times_in list n → taken n ≡ false

-- an empty list has only new numbers
pub none_new : (taken : ℕ → Bool) → AreNew taken []
none_new taken = record { once = λ n. omega arith; fresh = λ n h. absurd (omega arith) }

-- a number that wasn't taken is new
pub one_new : (taken : ℕ → Bool) (a : ℕ) → taken a ≡ false → AreNew taken (a ∷ [])
one_new taken a e = record {
  once = λ n. elim (eqb_tells a n) [
    | inl q ↦ let t = times_here a [] n q.0 in omega arith
    | inr q ↦ let t = times_there a [] n q.0 in omega arith
  ];
  fresh = λ n h. elim (eqb_tells a n) [
    | inl q ↦ subst (λ (k : ℕ). taken k ≡ false) q.1 e
    | inr q ↦ let t = times_there a [] n q.0 in absurd (omega arith)
  ];
}

-- new numbers behind new numbers are new
pub joined : (taken : ℕ → Bool) (xs ys : List ℕ) → AreNew taken xs → AreNew (seen taken xs) ys
    → AreNew taken (xs ++ ys)
joined taken xs ys a b = record { once = once; fresh = fresh } where
  some : (n : ℕ) → (k : ℕ) → times_in ys n ≡ k → (k ≡ 0) ⊎ (WasNew taken xs n × (k ≡ 1))
  some n zero e = inl refl
  some n (suc k) e =
      let o = b.once n in
      inr (was_new taken xs n (b.fresh n (omega arith)), omega arith)

  once : ComeOnce (xs ++ ys)
  once n =
      let both = times_append xs ys n in
      let before = a.once n in
      elim (some n (times_in ys n) refl) [
        | inl e ↦ omega arith
        | inr h ↦ let out = h.0.out in omega (arith, h.1)
      ]

  fresh : (n : ℕ) → 1 ≤ times_in (xs ++ ys) n → taken n ≡ false
  fresh n h =
      let both = times_append xs ys n in
      elim (some n (times_in ys n) refl) [ inl e ↦ a.fresh n (omega arith) | inr h ↦ h.0.untaken ]

-- the same, known of each of two lists
pub record Parted (taken : ℕ → Bool) (xs ys : List ℕ) : Type 0 where
  pub first : AreNew taken xs
  pub second : AreNew (seen taken xs) ys

-- two lists of new numbers, one behind the other, have new numbers each
pub parted : (taken : ℕ → Bool) (xs ys : List ℕ) → AreNew taken (xs ++ ys) → Parted taken xs ys
parted taken xs ys h = record {
  first = record {
    once = λ n. let both = times_append xs ys n in let o = h.once n in omega arith;
    fresh = λ n s. let both = times_append xs ys n in h.fresh n (omega arith);
  };
  second = record {
    once = λ n. let both = times_append xs ys n in let o = h.once n in omega arith;
    fresh = λ n s. let both = times_append xs ys n in let o = h.once n in
        unseen taken xs n (h.fresh n (omega arith)) (omega arith);
  };
}

-- the first member comes in its list
pub first_in : (a : ℕ) (rest : List ℕ) → 1 ≤ times_in (a ∷ rest) a
first_in a rest = let t = times_here a rest a (eq-eqb a a refl) in omega arith

-- two numbers that differ are new where none of them was taken
pub two_new : (taken : ℕ → Bool) (a b : ℕ) → a ≢ b → taken a ≡ false → taken b ≡ false → AreNew taken (a ∷ b ∷ [])
two_new taken a b d e f =
    joined taken (a ∷ []) (b ∷ []) (one_new taken a e)
    (one_new (seen taken (a ∷ [])) b
    (unseen taken (a ∷ []) b f (times_there a [] b (ne_eqb a b d))))

-- of two new numbers both are known not to have been taken
pub record AreTwo (taken : ℕ → Bool) (a b : ℕ) : Type 0 where
  pub first : taken a ≡ false
  pub second : taken b ≡ false

-- two new numbers were not taken
pub are_two : (taken : ℕ → Bool) (a b : ℕ) → AreNew taken (a ∷ b ∷ []) → AreTwo taken a b
are_two taken a b h = record {
  first = h.fresh a (first_in a (b ∷ []));
  second = let t = times_cons a (b ∷ []) b in let s = first_in b [] in h.fresh b (omega arith);
}

module _ (taken : ℕ → Bool) (front piece : ℕ → List ℕ) (count : ℕ) (none : front 0 ≡ [])
    (more : (k : ℕ) → k < count → front (k + 1) ≡ front k ++ piece k) where
  -- the first pieces, and one more
  next : (k : ℕ) → k < count → front (suc k) ≡ front k ++ piece k
  next k h = ap front (sym (add-one k)) ∙ more k h

  -- the first pieces have only new numbers, where each has behind the pieces before it
  up_to : ((k : ℕ) → k < count → AreNew (seen taken (front k)) (piece k)) → (k : ℕ) → k ≤ count
      → AreNew taken (front k)
  up_to each zero h = subst (AreNew taken) (sym none) (none_new taken)
  up_to each (suc k) h =
      subst (AreNew taken) (sym (next k (omega arith)))
      (joined taken (front k) (piece k) (up_to each k (omega arith)) (each k (omega arith)))

  -- all pieces together have only new numbers
  pub all_new : ((k : ℕ) → k < count → AreNew (seen taken (front k)) (piece k)) → AreNew taken (front count)
  all_new each = up_to each count (omega arith)

  -- and back: where all pieces together have, the first ones have
  down_to : AreNew taken (front count) → (less k : ℕ) → k + less ≡ count → AreNew taken (front k)
  down_to all zero k e = let same : count ≡ k = omega arith in subst (λ (c : ℕ). AreNew taken (front c)) same all
  down_to all (suc less) k e =
      (parted taken (front k) (piece k)
      (subst (AreNew taken) (next k (omega arith)) (down_to all less (suc k) (omega arith)))).first

  -- each piece has only new numbers behind the pieces before it
  pub each_new : AreNew taken (front count) → (k : ℕ) → k < count → AreNew (seen taken (front k)) (piece k)
  each_new all k h =
      (parted taken (front k) (piece k)
      (subst (AreNew taken) (next k h) (down_to all (count - suc k) (suc k) (omega arith)))).second
