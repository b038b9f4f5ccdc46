-- what newness at each place says of all pages of the tree
use Rattle.std.proofs.Common.{◌≡◌, ◌==◌, ℕ, suc, zero, ◌+◌, ◌<◌, ◌≤◌, List, [], ◌∷◌, ◌++◌, length, take, cond, Bool}
use Rattle.std.proofs.Common.{true, false, refl, sym, ◌∙◌, ap, arith, add-one, inl, inr}
use Rattle.std.proofs.lemmas.Bool.{cases_lt, cases_eq, cases_Bool, eq-eqb, ne_eqb, true≢false}
use Rattle.std.proofs.lemmas.List.{append_assoc, append-nil}
use Rattle.std.proofs.lemmas.List.Elements.{All-cons, All-nil}
use Rattle.std.proofs.lemmas.List.Sums.{sum_by-take-le}
use Rattle.tree_walk.proofs.Levels.{children_more, children_all, reached_more, reached_root, children_hold}
use Rattle.tree_walk.proofs.Occurs.{occurs, occurs-cons, occurs-append, occurs_none, occurs_some, occurs_all}
use Rattle.tree_walk.proofs.Descents.{reached_occurs}
use Rattle.tree_walk.specs.Index.{Index, Row, pages_at, places, children, child_of, row_at, reached}
use Rattle.space_audit.specs.Marks.{is_in, seen}
use Rattle.tree_walk.specs.Laws.{ComeOnce}
use Rattle.tree_walk.specs.Descent.{pages_under}

seen_parts : (taken : ℕ → Bool) (xs : List ℕ) (n : ℕ) → seen taken xs n ≡ false → (taken n ≡ false) ×
    (is_in xs n ≡ false)
seen_parts start xs n =
    elim (start n) as (λ b. cond b true (is_in xs n) ≡ false → (b ≡ false) × (is_in xs n ≡ false))
    [ true ↦ λ e. absurd (true≢false e) | false ↦ λ e. (refl, e) ]

occurs_one : (n x : ℕ) → occurs n (x ∷ []) ≤ 1
occurs_one n x = rw occurs-cons (elim (x == n) as (λ b. cond b 1 0 + 0 ≤ 1)
    [ true ↦ omega arith | false ↦ omega arith ])

-- one more number, which is new
distinct_more : (xs : List ℕ) (y : ℕ) → is_in xs y ≡ false → ComeOnce xs → ComeOnce (xs ++ y ∷ [])
distinct_more xs y e d n =
    rw (occurs-append, occurs-cons) (elim (cases_eq y n) [
      | inl q ↦ let h : occurs n xs ≡ 0 = occurs_none n xs (rw (← q) e) in rw (eq-eqb y n q) (omega arith)
      | inr q ↦ rw (ne_eqb y n q) (let h = d n in omega arith)
    ])

first_more : (index : Index) (xs : List ℕ) (ps : List Row) (j : ℕ) → j < length ps → xs ++ take (j + 1)
    (children index ps) ≡ (xs ++ take j (children index ps)) ++ (child_of index (row_at ps j)) ∷ []
first_more index xs ps j h = ap (λ ys. xs ++ ys) (children_more index ps j h) ∙ sym
    (append_assoc xs (take j (children index ps)) _)

module _ (index : Index) (start : ℕ → Bool) (top : ℕ) where
  module _ (fresh_root : start index.root ≡ false)
      (fresh : (d j : ℕ) → d < top → j < length (places index d) → seen start
      (reached index d ++ take j (children index (places index d))) (child_of index (row_at (places index d) j))
      ≡ false) where
    distinct_to : (d j : ℕ) → d < top → j ≤ length (places index d) → ComeOnce (reached index d) → ComeOnce
        (reached index d ++ take j (children index (places index d)))
    distinct_to d zero h l r = rw append-nil r
    distinct_to d (suc j) h l r =
        let e = first_more index (reached index d) (places index d) j (omega arith) in
        let p = seen_parts start (reached index d ++ take j (children index (places index d)))
        (child_of index (row_at (places index d) j)) (fresh d j h (omega arith)) in
        rw (← add-one j, e) (distinct_more (reached index d ++ take j (children index (places index d)))
        (child_of index (row_at (places index d) j)) p.1 (distinct_to d j h (omega arith) r))

    distinct_reached : (d : ℕ) → d ≤ top → ComeOnce (reached index d)
    distinct_reached zero h = λ n. rw reached_root (occurs_one n index.root)
    distinct_reached (suc d) h =
        let e = children_all index (places index d) (length (places index d)) (omega arith) in
        rw (← add-one d, reached_more, ← e) (distinct_to d (length (places index d)) (omega arith) (omega arith)
        (distinct_reached d (omega arith)))

    unmarked_reached : (d : ℕ) → d ≤ top → (n : ℕ) → 1 ≤ occurs n (reached index d) → start n ≡ false
    unmarked_reached zero h n o =
        let q : 1 ≤ occurs n (index.root ∷ []) = rw reached_root at o in
        occurs_all (λ n. start n ≡ false) n (index.root ∷ [])
        (All-cons (λ n. start n ≡ false) index.root [] fresh_root (All-nil (λ n. start n ≡ false))) q
    unmarked_reached (suc d) h n o =
        let ps = places index d in
        let q : 1 ≤ occurs n (reached index d ++ children index ps) = rw (← add-one d, reached_more) at o in
        let a = occurs-append n (reached index d) (children index ps) in
        elim (cases_lt 0 (occurs n (reached index d))) [
          | inl l ↦ unmarked_reached d (omega arith) n l
          | inr l ↦
              occurs_all (λ n. start n ≡ false) n (children index ps)
              (children_hold (λ n. start n ≡ false) index ps
              (λ j m. (seen_parts start (reached index d ++ take j (children index ps))
              (child_of index (row_at ps j)) (fresh d j (omega arith) m)).0))
              (omega arith)
        ]

    pub distinct_tree : ComeOnce (pages_under index top index.root)
    distinct_tree n = rw (← reached_occurs n index top) (distinct_reached top (omega arith) n)

    pub unmarked_tree : (n : ℕ) → 1 ≤ occurs n (pages_under index top index.root) → start n ≡ false
    unmarked_tree n o = unmarked_reached top (omega arith) n (rw reached_occurs o)

  module _ (distinct : ComeOnce (pages_under index top index.root))
      (unmarked' : (n : ℕ) → 1 ≤ occurs n (pages_under index top index.root) → start n ≡ false) where
    reached_le : (m d e : ℕ) → d ≤ e → occurs m (reached index d) ≤ occurs m (reached index e)
    unfolding reached
    reached_le m d zero h = let q : d ≡ 0 = omega arith in rw q (omega arith)
    reached_le m d (suc e) h =
        elim (cases_lt d (suc e)) [
          | inl l ↦
              let i = reached_le m d e (omega arith) in
              let a = occurs-append m (reached index e) (pages_at index (suc e)) in
              omega arith
          | inr l ↦ let q : d ≡ suc e = omega arith in rw q (omega arith)
        ]

    first_le : (m d j : ℕ) → occurs m (reached index d ++ take j (children index (places index d))) ≤ occurs m
        (reached index (d + 1))
    first_le m d j =
        let a = occurs-append m (reached index d) (take j (children index (places index d))) in
        let b = occurs-append m (reached index d) (children index (places index d)) in
        let t = sum_by-take-le (λ x. cond (x == m) 1 0) (children index (places index d)) j in
        rw reached_more (omega arith)

    pub fresh_root_is : start index.root ≡ false
    fresh_root_is =
        let r = reached_le index.root 0 top (omega arith) in
        let q : occurs index.root (reached index 0) ≡ 1 = rw
        (reached_root index, occurs-cons index.root index.root [], eq-eqb index.root index.root refl) refl in
        let e = reached_occurs index.root index top in
        unmarked' index.root (omega arith)

    pub fresh_is : (d j : ℕ) → d < top → j < length (places index d) → seen start
        (reached index d ++ take j (children index (places index d))) (child_of index (row_at (places index d) j)) ≡
        false
    fresh_is d j h m =
        let n : ℕ = (child_of index (row_at (places index d) j)) in
        let xs = reached index d ++ take j (children index (places index d)) in
        let e = ap (occurs n) (first_more index (reached index d) (places index d) j m) in
        let a = occurs-append n xs (n ∷ []) in
        let o : occurs n (n ∷ []) ≡ 1 = rw (occurs-cons, eq-eqb n n refl) refl in
        let l = first_le n d (j + 1) in
        let p = reached_le n (d + 1) top (omega arith) in
        let q = reached_occurs n index top in
        let once = distinct n in
        let start_is : start n ≡ false = unmarked' n (omega arith) in
        let in_is : is_in xs n ≡ false =
        elim (cases_Bool (is_in xs n)) [
          | inl t ↦ let s = occurs_some n xs t in absurd (omega arith)
          | inr f ↦ f
        ] in
        rw (start_is, in_is) refl
