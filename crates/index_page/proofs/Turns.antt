-- Records that pass one after another, against facts on each of them and on each two of them.
use Rattle.std.proofs.Common.{◌≡◌, ℕ, suc, ◌+◌, ◌-◌, ◌<◌, ◌≤◌, ◌↔◌, List, [], ◌∷◌, ◌++◌, get_or, All, AllPairs, refl}
use Rattle.std.proofs.Common.{sym, subst, arith}
use Rattle.std.proofs.lemmas.List.Elements.{All-nil, All-cons, All-head, All-tail}
use Rattle.std.proofs.lemmas.List.Kept.{AllPairs-cons}
use Rattle.compact_record.specs.Header.{next_origin}
use Rattle.index_page.specs.Header.{records_from}
use Rattle.index_page.specs.Marks.{Seen, PassInTurn, seen_after}
use Rattle.index_page.proofs.RecordWalk.{records_left, records_left_none}

-- where a walk has come: what is left passes exactly where all do, and leaves the same marks
pub record TurnGoes (page : List ℕ) (Passes : Seen → ℕ → Type 0) (grow : Seen → ℕ → Seen) (seen : Seen)
    (origin n i : ℕ) (old : Seen) (first : ℕ) : Type 0 where
  pub left : PassInTurn Passes grow seen (records_from page origin (n - i)) ↔ PassInTurn Passes grow old
      (records_from page first n)
  pub marks : seen_after grow seen (records_from page origin (n - i)) ≡ seen_after grow old (records_from page first n)

-- what is left of the walk is this list
abbrev Turn : (Passes : Seen → ℕ → Type 0) (grow : Seen → ℕ → Seen) (all : List ℕ) (old seen : Seen) (list : List ℕ)
    → Type 0
Turn Passes grow all old seen list =
    (PassInTurn Passes grow seen list ↔ PassInTurn Passes grow old all) ×
    (seen_after grow seen list ≡ seen_after grow old all)

pub turn_start : (page : List ℕ) (Passes : Seen → ℕ → Type 0) (grow : Seen → ℕ → Seen) (old : Seen) (first n : ℕ)
    → TurnGoes page Passes grow old first n 0 old first
turn_start page Passes grow old first n =
    let e : n - 0 ≡ n = omega arith in
    let P : ℕ → Type 0 = λ m. Turn Passes grow (records_from page first n) old old (records_from page first m) in
    let here = subst P (sym e) ((λ p. p, λ p. p), refl) in
    record { left = here.0; marks = here.1 }

turn : (page : List ℕ) (Passes : Seen → ℕ → Type 0) (grow : Seen → ℕ → Seen) (seen : Seen) (origin n i : ℕ)
    (old : Seen) (first : ℕ) → i < n
    → TurnGoes page Passes grow seen origin n i old first
    → Turn Passes grow (records_from page first n) old seen
    (origin ∷ records_from page (next_origin page origin) (n - (i + 1)))
turn page Passes grow seen origin n i old first below goes =
    let P : List ℕ → Type 0 = λ xs. Turn Passes grow (records_from page first n) old seen xs in
    subst P (records_left page origin n i below) (goes.left, goes.marks)

pub turn_next : (page : List ℕ) (Passes : Seen → ℕ → Type 0) (grow : Seen → ℕ → Seen) (seen seen' : Seen)
    (origin next n i : ℕ) (old : Seen) (first : ℕ) → i < n
    → next ≡ next_origin page origin → Passes seen origin → seen' ≡ grow seen origin
    → TurnGoes page Passes grow seen origin n i old first
    → TurnGoes page Passes grow seen' next n (i + 1) old first
unfolding PassInTurn seen_after
turn_next page Passes grow seen seen' origin next n i old first below is passes grown goes =
    let here = turn page Passes grow seen origin n i old first below goes in
    rw (is, grown) (record { left = (λ p. here.0.0 (passes, p), λ p. (here.0.1 p).1); marks = here.1 })

pub turn_here : (page : List ℕ) (Passes : Seen → ℕ → Type 0) (grow : Seen → ℕ → Seen) (seen : Seen) (origin n i : ℕ)
    (old : Seen) (first : ℕ) → i < n
    → TurnGoes page Passes grow seen origin n i old first → PassInTurn Passes grow old (records_from page first n)
    → Passes seen origin
unfolding PassInTurn
turn_here page Passes grow seen origin n i old first below goes all =
    ((turn page Passes grow seen origin n i old first below goes).0.1 all).0

pub turn_end : (page : List ℕ) (Passes : Seen → ℕ → Type 0) (grow : Seen → ℕ → Seen) (seen : Seen) (origin n i : ℕ)
    (old : Seen) (first : ℕ) → n ≤ i
    → TurnGoes page Passes grow seen origin n i old first
    → PassInTurn Passes grow old (records_from page first n) × (seen ≡ seen_after grow old (records_from page first n))
unfolding PassInTurn seen_after
turn_end page Passes grow seen origin n i old first past goes =
    let P : List ℕ → Type 0 = λ xs. Turn Passes grow (records_from page first n) old seen xs in
    let here = subst P (records_left_none page origin n i past) (goes.left, goes.marks) in
    (here.0.0 tt, here.1)

-- one list and then another
pub PassInTurn-append : (Passes : Seen → ℕ → Type 0) (grow : Seen → ℕ → Seen) (seen : Seen) (xs ys : List ℕ)
    → PassInTurn Passes grow seen (xs ++ ys) ↔ (PassInTurn Passes grow seen xs
    × PassInTurn Passes grow (seen_after grow seen xs) ys)
unfolding PassInTurn seen_after
PassInTurn-append Passes grow seen [] ys = (λ p. (tt, p), λ p. p.1)
PassInTurn-append Passes grow seen (x ∷ xs) ys =
    let rest = PassInTurn-append Passes grow (grow seen x) xs ys in
    (λ p. ((p.0, (rest.0 p.1).0), (rest.0 p.1).1), λ p. (p.0.0, rest.1 (p.0.1, p.1)))

AllPairs-head : (R : ℕ → ℕ → Type 0) (x : ℕ) (xs : List ℕ) → AllPairs R (x ∷ xs) → All (R x) xs
AllPairs-head R x xs pairs k d below = pairs 0 (suc k) d (omega arith) (omega arith)

AllPairs-tail : (R : ℕ → ℕ → Type 0) (x : ℕ) (xs : List ℕ) → AllPairs R (x ∷ xs) → AllPairs R xs
AllPairs-tail R x xs pairs i j d before below = pairs (suc i) (suc j) d (omega arith) (omega arith)

-- what passing means: a fact on the record itself, and that the marks leave it clear;
-- and what marks mean: after one more record another is clear where it was and the two go together
pub record IsMarking (Passes : Seen → ℕ → Type 0) (grow : Seen → ℕ → Seen) (Good Fact : ℕ → Type 0)
    (Clear : Seen → ℕ → Type 0) (Together : ℕ → ℕ → Type 0) : Type 0 where
  pub splits : (seen : Seen) (x : ℕ) → Good x → Passes seen x ↔ (Fact x × Clear seen x)
  pub grows : (seen : Seen) (x y : ℕ) → Good x → Good y → Clear (grow seen x) y ↔ (Clear seen y × Together x y)

-- so the records of a list pass in turn exactly where each has the fact, each two go together, and each is clear at
-- the start
pub record AreApartAnd (Fact : ℕ → Type 0) (Clear : Seen → ℕ → Type 0) (Together : ℕ → ℕ → Type 0) (seen : Seen)
    (xs : List ℕ) : Type 0 where
  pub facts : All Fact xs
  pub together : AllPairs Together xs
  pub clear : All (Clear seen) xs

pub pairs_of_turns : (Passes : Seen → ℕ → Type 0) (grow : Seen → ℕ → Seen) (Good Fact : ℕ → Type 0)
    (Clear : Seen → ℕ → Type 0) (Together : ℕ → ℕ → Type 0)
    → IsMarking Passes grow Good Fact Clear Together → (xs : List ℕ) (seen : Seen) → All Good xs
    → PassInTurn Passes grow seen xs ↔ AreApartAnd Fact Clear Together seen xs
unfolding PassInTurn
pairs_of_turns Passes grow Good Fact Clear Together is [] seen good = (
  λ p. record {
    facts = All-nil Fact;
    together = λ i j d before below. absurd (omega arith);
    clear =
        All-nil (Clear seen);
  },
  λ apart. tt,
)
pairs_of_turns Passes grow Good Fact Clear Together is (x ∷ xs) seen good =
    let here = All-head Good x xs good in
    let behind = All-tail Good x xs good in
    let rest = pairs_of_turns Passes grow Good Fact Clear Together is xs (grow seen x) behind in (
      λ p.
          let own = (is.splits seen x here).0 p.0 in
          let apart = rest.0 p.1 in
          let Both : ℕ → Type 0 = λ y. Clear seen y × Together x y in
          let both : All Both xs = λ k d below. (is.grows seen x (get_or xs k d) here (behind k d below)).0
          (apart.clear k d below) in
          record {
            facts = All-cons Fact x xs own.0 apart.facts;
            together = AllPairs-cons Together x xs (λ k d below. (both k d below).1) apart.together;
            clear = All-cons (Clear seen) x xs own.1 (λ k d below. (both k d below).0);
          },
      λ apart.
          let far = AllPairs-head Together x xs apart.together in
          let free = All-tail (Clear seen) x xs apart.clear in (
            (is.splits seen x here).1 (All-head Fact x xs apart.facts, All-head (Clear seen) x xs apart.clear),
            rest.1 (record {
              facts = All-tail Fact x xs apart.facts;
              together = AllPairs-tail Together x xs apart.together;
              clear = λ k d below. (is.grows seen x (get_or xs k d) here (behind k d below)).1 (
                free k d below,
                far k d below,
              );
            }),
          ),
    )
