-- Two lists of rising keys: where they first part stands the least key that only one of them has. Of any two lists
-- one has such a key, or both have the same keys.
use Rattle.std.proofs.Common.{◌≡◌, ◌⊎◌, ℕ, zero, suc, ◌+◌, ◌<◌, ◌≤◌, Bool, true, false, List, [], length, get_or}
use Rattle.std.proofs.Common.{Contains, refl, sym, ap, ◌∙◌, subst, inl, inr, arith}
use Rattle.std.specs.List.{list_any}
use Rattle.std.specs.Ordering.{is_eq}
use Rattle.std.specs.declared.cmp.Ordering.{Ordering}
use Rattle.std.specs.declared.cmp.Ordering.TheVariants.{Less, Equal, Greater}
use Rattle.std.proofs.lemmas.Bool.{cases_lt, cases_order, false≢true}
use Rattle.std.proofs.lemmas.List.{get_or_default}
use Rattle.std.proofs.lemmas.List.Folds.{Any-from_list_any, list_any-from_Any}
use Rattle.column_values.specs.declared.field.FieldType.{FieldType}
use Rattle.column_values.specs.Order.{Key, key_cmp, IsBelow, AreEqualKeys}
use Rattle.column_values.proofs.KeyOrder.{is_strict, is_transitive, symmetric, agrees, is_total}
use Rattle.cross_index.specs.Sides.{HoldsKey, IsLone, IsLeastLone, HaveSameKeys, AreMatched, Rise, AreApart}

module _ (kinds : List FieldType) where
  -- a key that is below another isn't equal to it
  pub not_both : (a b : Key) → IsBelow kinds a b → ¬ (AreEqualKeys kinds a b)
  not_both a b below equal = let e : Less ≡ Equal = sym below ∙ equal in cc

  pub rise_apart : (keys : List Key) → Rise kinds keys → AreApart kinds keys
  rise_apart keys rise i j i_within j_within equal = elim (cases_order i j) [
    | inl e ↦ e
    | inr h ↦ elim h [
      | inl less ↦ absurd (not_both (get_or keys i []) (get_or keys j []) (rise i j [] less j_within) equal)
      | inr more ↦
          absurd (not_both (get_or keys j []) (get_or keys i []) (rise j i [] more i_within)
          (symmetric kinds (get_or keys i []) (get_or keys j []) equal))
    ]
  ]

  pub holds_at : (keys : List Key) (key : Key) (i : ℕ) → i < length keys → AreEqualKeys kinds (get_or keys i []) key
      → HoldsKey kinds keys key
  holds_at keys key i within equal = (
    i,
    get_or keys i [],
    within,
    get_or_default keys i (get_or keys i []) [] within,
    equal,
  )

  -- the place of an equal key
  pub held_place : (keys : List Key) (key : Key) → HoldsKey kinds keys key
      → (i : ℕ) × (i < length keys) × AreEqualKeys kinds (get_or keys i []) key
  held_place keys key (i, x, within, is, equal) = (
    i,
    within,
    subst (λ (k : Key). AreEqualKeys kinds k key) (sym is ∙ get_or_default keys i x [] within) equal,
  )

  pub place_of_key : (keys : List Key) (key : Key) → Contains keys key
      → (i : ℕ) × (i < length keys) × (get_or keys i [] ≡ key)
  place_of_key keys key (i, within, is) = (i, within, get_or_default keys i [] key within ∙ is)

  contains_at : (keys : List Key) (i : ℕ) → i < length keys → Contains keys (get_or keys i [])
  contains_at keys i within = (i, within, get_or_default keys i (get_or keys i []) [] within)

  -- a later key isn't below an earlier one
  not_below : (keys : List Key) (i j : ℕ) → Rise kinds keys → j ≤ i → i < length keys
      → ¬ (IsBelow kinds (get_or keys i []) (get_or keys j []))
  not_below keys i j rise later within below = elim (cases_lt j i) [
    | inl less ↦
        is_strict kinds (get_or keys i []) (is_transitive kinds (get_or keys i []) (get_or keys j []) (get_or keys i
        []) below (rise j i [] less within))
    | inr same ↦
        let e : i ≡ j = omega arith in
        is_strict kinds (get_or keys j []) (subst (λ (k : ℕ). IsBelow kinds (get_or keys k []) (get_or keys j [])) e
        below)
  ]

  module _ (side other : List Key) (j : ℕ) (rise : Rise kinds side) (other_rise : Rise kinds other)
      (matched : AreMatched kinds side other j) (within : j < length side)
      (parts : j < length other → IsBelow kinds (get_or side j []) (get_or other j [])) where
    abbrev here : Key
    here = get_or side j []

    -- the key is below what the other side has from there on
    before : (i : ℕ) → j ≤ i → i < length other → IsBelow kinds here (get_or other i [])
    before i later inside = elim (cases_lt j i) [
      | inl less ↦
          is_transitive kinds here (get_or other j []) (get_or other i []) (parts (omega (arith, less, inside)))
          (other_rise j i [] less inside)
      | inr same ↦
          let e : j ≡ i = omega arith in
          subst (λ (k : ℕ). IsBelow kinds here (get_or other k [])) e (parts (omega (arith, e, inside)))
    ]

    not_held : (i : ℕ) → i < length other → ¬ (AreEqualKeys kinds (get_or other i []) here)
    not_held i inside equal = elim (cases_lt i j) [
      | inl less ↦
          not_both (get_or side i []) here (rise i j [] less within)
          ((agrees kinds).equal (get_or side i []) (get_or other i []) here (matched.each i less) equal)
      | inr later ↦
          not_both here (get_or other i []) (before i later inside) (symmetric kinds (get_or other i []) here equal)
    ]

    not_least : (lone : Key) → IsLone kinds side other lone ⊎ IsLone kinds other side lone
        → ¬ (IsBelow kinds lone here)
    not_least lone (inl l) below =
        let (i, inside, is) = place_of_key side lone l.among in
        elim (cases_lt i j) [
          | inl less ↦
              l.lacking (holds_at other lone i (omega (arith, less, matched.other_few))
              (subst (λ (k : Key). AreEqualKeys kinds (get_or other i []) k) is
              (symmetric kinds (get_or side i []) (get_or other i []) (matched.each i less))))
          | inr later ↦
              not_below side i j rise later inside (subst (λ (k : Key). IsBelow kinds k here) (sym is) below)
        ]
    not_least lone (inr l) below =
        let (i, inside, is) = place_of_key other lone l.among in
        elim (cases_lt i j) [
          | inl less ↦
              l.lacking (holds_at side lone i (omega (arith, less, within))
              (subst (λ (k : Key). AreEqualKeys kinds (get_or side i []) k) is (matched.each i less)))
          | inr later ↦
              is_strict kinds here (is_transitive kinds here (get_or other i []) here (before i later inside)
              (subst (λ (k : Key). IsBelow kinds k here) (sym is) below))
        ]

    -- where rising lists first part, the lesser key is the least that only one of them has
    pub parts_least : IsLeastLone kinds side other j
    parts_least = record {
      within = within;
      lacking = λ holds. let (i, inside, equal) = held_place other here holds in not_held i inside equal;
      least = not_least;
    }

  -- lists that are matched to their ends have the same keys
  pub matched_same : (side other : List Key) (j : ℕ) → AreMatched kinds side other j → length side ≤ j
      → length other ≤ j → HaveSameKeys kinds side other
  matched_same side other j matched all other_all = record {
    forth = λ i d within.
        let less : i < j = omega (arith, within, all) in
        subst (HoldsKey kinds other) (get_or_default side i [] d within)
        (holds_at other (get_or side i []) i (omega (arith, less, matched.other_few))
        (symmetric kinds (get_or side i []) (get_or other i []) (matched.each i less)));
    back = λ i d within.
        let less : i < j = omega (arith, within, other_all) in
        subst (HoldsKey kinds side) (get_or_default other i [] d within)
        (holds_at side (get_or other i []) i (omega (arith, less, matched.few)) (matched.each i less));
  }

  pub matched_back : (side other : List Key) (j : ℕ) → AreMatched kinds side other j → AreMatched kinds other side j
  matched_back side other j matched = record {
    few = matched.other_few;
    other_few = matched.few;
    each = λ i less. symmetric kinds (get_or side i []) (get_or other i []) (matched.each i less);
  }

  -- one more pair of equal keys
  pub matched_more : (side other : List Key) (j : ℕ) → AreMatched kinds side other j → j < length side
      → j < length other → AreEqualKeys kinds (get_or side j []) (get_or other j [])
      → AreMatched kinds side other (j + 1)
  matched_more side other j matched within inside equal = record {
    few = omega (arith, within);
    other_few = omega (arith, inside);
    each = λ i less. elim (cases_lt i j) [
      | inl below ↦ matched.each i below
      | inr last ↦
          let e : j ≡ i = omega arith in
          subst (λ (k : ℕ). AreEqualKeys kinds (get_or side k []) (get_or other k [])) e equal
    ];
  }

  -- where both sides have the same keys, none is alone
  pub same_not_lone : (side other : List Key) (k : ℕ) → HaveSameKeys kinds side other → ¬ (IsLeastLone kinds side
      other k)
  same_not_lone side other k same lone = lone.lacking (same.forth k [] lone.within)

  pub same_back : (side other : List Key) → HaveSameKeys kinds side other → HaveSameKeys kinds other side
  same_back side other same = record { forth = same.back; back = same.forth }

  lone_at : (side other : List Key) (k : ℕ) → IsLeastLone kinds side other k
      → IsLone kinds side other (get_or side k [])
  lone_at side other k lone = record { among = contains_at side k lone.within; lacking = lone.lacking }

  -- a least key is the only one of its side
  pub one_lone : (side other : List Key) (a b : ℕ) → AreApart kinds side → IsLeastLone kinds side other a
      → IsLeastLone kinds side other b → a ≡ b
  one_lone side other a b apart p q =
      apart a b p.within q.within
      (is_total kinds (get_or side a []) (get_or side b [])
      (q.least (get_or side a []) (inl (lone_at side other a p)))
      (p.least (get_or side b []) (inl (lone_at side other b q))))

  -- only one side has such a key
  pub one_side : (side other : List Key) (a b : ℕ) → IsLeastLone kinds side other a → ¬ (IsLeastLone kinds other side
      b)
  one_side side other a b p q =
      p.lacking (holds_at other (get_or side a []) b q.within
      (is_total kinds (get_or other b []) (get_or side a [])
      (p.least (get_or other b []) (inr (lone_at other side b q)))
      (q.least (get_or side a []) (inr (lone_at side other a p)))))

  -- whether a key is among some
  equals : Key → Key → Bool
  equals key k = is_eq (key_cmp kinds k key)

  equals_true : (o : Ordering) → is_eq o ≡ true → o ≡ Equal
  equals_true Less e = absurd (false≢true e)
  equals_true Equal e = refl
  equals_true Greater e = absurd (false≢true e)

  -- a key is among some or it isn't
  held : (keys : List Key) (key : Key) → HoldsKey kinds keys key ⊎ (¬ (HoldsKey kinds keys key))
  unfolding equals
  held keys key = by_test (list_any (equals key) keys) refl
    where
      by_test : (b : Bool) → list_any (equals key) keys ≡ b
          → HoldsKey kinds keys key ⊎ (¬ (HoldsKey kinds keys key))
      by_test true any =
          let (i, x, within, is, passes) = Any-from_list_any (equals key) keys any in
          inl (i, x, within, is, equals_true (key_cmp kinds x key) passes)
      by_test false none =
          inr (λ (i, x, within, is, equal).
          false≢true (sym none ∙ list_any-from_Any (equals key) keys (i, x, within, is, ap is_eq equal)))

  -- one key is below another or it isn't
  below_or_not : (a b : Key) → IsBelow kinds a b ⊎ (¬ (IsBelow kinds a b))
  below_or_not a b = by_order (key_cmp kinds a b) refl
    where
      by_order : (o : Ordering) → key_cmp kinds a b ≡ o → IsBelow kinds a b ⊎ (¬ (IsBelow kinds a b))
      by_order Less h = inl h
      by_order Equal h = inr (λ below. let e : Less ≡ Equal = sym below ∙ h in cc)
      by_order Greater h = inr (λ below. let e : Less ≡ Greater = sym below ∙ h in cc)

  -- of the first n keys of this side, key k is the least that the other lacks
  record IsLeastOf (side other : List Key) (n k : ℕ) : Type 0 where
    within : k < n
    lacking : ¬ (HoldsKey kinds other (get_or side k []))
    least : (i : ℕ) → i < n → ¬ (HoldsKey kinds other (get_or side i []))
        → ¬ (IsBelow kinds (get_or side i []) (get_or side k []))

  -- the other side has all of them
  abbrev AllHeld : List Key → List Key → ℕ → Type 0
  AllHeld side other n = (i : ℕ) → i < n → HoldsKey kinds other (get_or side i [])

  -- key n is another of these
  abbrev Found : List Key → List Key → ℕ → Type 0
  Found side other n = AllHeld side other n ⊎ ((k : ℕ) × IsLeastOf side other n k)

  last_or_before : (i n : ℕ) → i < n + 1 → (i < n) ⊎ (i ≡ n)
  last_or_before i n less = elim (cases_lt i n) [ inl h ↦ inl h | inr h ↦ inr (omega arith) ]

  with_held : (side other : List Key) (n : ℕ) → HoldsKey kinds other (get_or side n []) → Found side other n
      → Found side other (n + 1)
  with_held side other n holds (inl all) =
      inl (λ i less. elim (last_or_before i n less) [
        | inl h ↦ all i h
        | inr e ↦ subst (λ (k : ℕ). HoldsKey kinds other (get_or side k [])) (sym e) holds
      ])
  with_held side other n holds (inr (k, of)) =
      inr (
        k,
        record {
          within = omega (arith, of.within);
          lacking = of.lacking;
          least = λ i less lacks. elim (last_or_before i n less) [
            | inl h ↦ of.least i h lacks
            | inr e ↦ absurd (lacks (subst (λ (k : ℕ). HoldsKey kinds other (get_or side k [])) (sym e) holds))
          ];
        },
      )

  with_lone : (side other : List Key) (n : ℕ) → ¬ (HoldsKey kinds other (get_or side n [])) → Found side other n
      → Found side other (n + 1)
  with_lone side other n lacks (inl all) =
      inr (
        n,
        record {
          within = omega arith;
          lacking = lacks;
          least = λ i less alone. elim (last_or_before i n less) [
            | inl h ↦ absurd (alone (all i h))
            | inr e ↦ subst (λ (k : ℕ). ¬ (IsBelow kinds (get_or side k []) (get_or side n []))) (sym e) (is_strict
                kinds
                (get_or side n []))
          ];
        },
      )
  with_lone side other n lacks (inr (k, of)) = elim (below_or_not (get_or side n []) (get_or side k [])) [
    | inl below ↦
        inr (
          n,
          record {
            within = omega arith;
            lacking = lacks;
            least = λ i less alone. elim (last_or_before i n less) [
              | inl h ↦ λ under.
                  of.least i h alone
                  (is_transitive kinds (get_or side i []) (get_or side n []) (get_or side k []) under below)
              | inr e ↦ subst (λ (k : ℕ). ¬ (IsBelow kinds (get_or side k []) (get_or side n []))) (sym e) (is_strict
                  kinds (get_or side n []))
            ];
          },
        )
    | inr not ↦
        inr (
          k,
          record {
            within = omega (arith, of.within);
            lacking = of.lacking;
            least = λ i less alone. elim (last_or_before i n less) [
              | inl h ↦ of.least i h alone
              | inr e ↦ subst (λ (m : ℕ). ¬ (IsBelow kinds (get_or side m []) (get_or side k []))) (sym e) not
            ];
          },
        )
  ]

  search_first : (side other : List Key) (n : ℕ) → Found side other n
  search_first side other zero = inl (λ i less. absurd (omega (arith, less)))
  search_first side other (suc n) =
      let e : n + 1 ≡ suc n = omega arith in
      subst (Found side other) e (elim (held other (get_or side n [])) [
        | inl holds ↦ with_held side other n holds (search_first side other n)
        | inr lacks ↦ with_lone side other n lacks (search_first side other n)
      ])

  -- both have the same keys, or one has the least key that only one has
  abbrev pub HaveAnswer : List Key → List Key → Type 0
  HaveAnswer side other =
      HaveSameKeys kinds side other ⊎ ((k : ℕ) × IsLeastLone kinds side other k)
      ⊎ ((k : ℕ) × IsLeastLone kinds other side k)

  -- the least of this side is the least of all, where that of the other isn't below it
  least_of_all : (side other : List Key) (k : ℕ) → IsLeastOf side other (length side) k
      → ((lone : Key) → IsLone kinds other side lone → ¬ (IsBelow kinds lone (get_or side k [])))
      → IsLeastLone kinds side other k
  least_of_all side other k of against = record {
    within = of.within;
    lacking = of.lacking;
    least = λ lone is. elim is [
      | inl l ↦
          let (i, inside, e) = place_of_key side lone l.among in
          subst (λ (key : Key). ¬ (IsBelow kinds key (get_or side k []))) e
          (of.least i inside (subst (λ (key : Key). ¬ (HoldsKey kinds other key)) (sym e) l.lacking))
      | inr l ↦ against lone l
    ];
  }

  -- no key of the other side that this one lacks
  all_held : (side other : List Key) → AllHeld side other (length side) → (lone : Key) → ¬ (IsLone kinds side other
      lone)
  all_held side other all lone l =
      let (i, inside, e) = place_of_key side lone l.among in
      l.lacking (subst (HoldsKey kinds other) e (all i inside))

  -- a key that isn't above the least one is below no lone key
  least_on : (side other : List Key) (k : ℕ) (key : Key) → IsLeastOf side other (length side) k
      → ¬ (IsBelow kinds (get_or side k []) key) → (lone : Key) → IsLone kinds side other lone
      → ¬ (IsBelow kinds lone key)
  least_on side other k key of not lone l below =
      let (i, inside, e) = place_of_key side lone l.among in
      let free = of.least i inside (subst (λ (key : Key). ¬ (HoldsKey kinds other key)) (sym e) l.lacking) in
      not_up (key_cmp kinds (get_or side k []) lone) refl
      (subst (λ (key : Key). ¬ (IsBelow kinds key (get_or side k []))) e free)
    where
      not_up : (o : Ordering) → key_cmp kinds (get_or side k []) lone ≡ o → ¬ (IsBelow kinds lone (get_or side k []))
          → ⊥
      not_up Less h free = not (is_transitive kinds (get_or side k []) lone key h below)
      not_up Equal h free =
          not ((agrees kinds).after lone (get_or side k []) key (symmetric kinds (get_or side k []) lone h) below)
      not_up Greater h free =
          let e : AreEqualKeys kinds (get_or side k []) lone =
          is_total kinds (get_or side k []) lone
          (λ under. let clash : Less ≡ Greater = sym under ∙ h in cc) free in
          let clash : Equal ≡ Greater = sym e ∙ h in cc

  pub have_answer : (side other : List Key) → HaveAnswer side other
  have_answer side other =
      by_both (search_first side other (length side)) (search_first other side (length other))
    where
      by_both : Found side other (length side) → Found other side (length other) → HaveAnswer side other
      by_both (inl all) (inl back) =
          inl (record {
            forth = λ i d within. subst (HoldsKey kinds other) (get_or_default side i [] d within) (all i within);
            back = λ i d within. subst (HoldsKey kinds side) (get_or_default other i [] d within) (back i within);
          })
      by_both (inl all) (inr (b, q)) =
          inr (inr (b, least_of_all other side b q (λ lone l. absurd (all_held side other all lone l))))
      by_both (inr (a, p)) (inl back) =
          inr (inl (a, least_of_all side other a p (λ lone l. absurd (all_held other side back lone l))))
      by_both (inr (a, p)) (inr (b, q)) = elim (below_or_not (get_or other b []) (get_or side a [])) [
        | inl below ↦
            inr (inr (
              b,
              least_of_all other side b q
                  (least_on side other a (get_or other b []) p
                  (λ under. is_strict kinds (get_or side a [])
                  (is_transitive kinds (get_or side a []) (get_or other b []) (get_or side a []) under below))),
            ))
        | inr not ↦ inr (inl (a, least_of_all side other a p (least_on other side b (get_or side a []) q not)))
      ]
