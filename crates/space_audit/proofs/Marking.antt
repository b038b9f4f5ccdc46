-- Which numbers are marked: at the start, and after one more.
use Rattle.std.proofs.Common.{◌≡◌, ◌==◌, ℕ, ◌+◌, ◌<◌, Bool, true, false, cond, List, [], ◌∷◌, ◌++◌, length, get_or, set}
use Rattle.std.proofs.Common.{refl, sym, inl, inr, get_or-set_same, get_or-set_other}
use Rattle.std.proofs.lemmas.Bool.{cases_eq, eq-eqb, ne_eqb}
use Rattle.page_source.specs.Lists.{unmarked}
use Rattle.page_source.proofs.Marks.{unmarked_fewer as fewer}
use Rattle.space_audit.specs.Marks.{is_in, is_set, Marked}

is_in-push : (xs : List ℕ) (y n : ℕ) → is_in (xs ++ y ∷ []) n ≡ cond (is_in xs n) true (y == n)
is_in-push [] y n = elim (y == n) as (λ b. cond b true false ≡ b) [ true ↦ refl | false ↦ refl ]
is_in-push (x ∷ xs) y n =
    elim (x == n) as (λ b. cond b true (is_in (xs ++ y ∷ []) n) ≡ cond (cond b true (is_in xs n)) true (y == n))
    [ true ↦ refl | false ↦ is_in-push xs y n ]

either : (a b : Bool) → true ≡ cond a true (cond b true true)
either true b = refl
either false true = refl
either false false = refl

neither : (a b : Bool) → cond a true b ≡ cond a true (cond b true false)
neither true b = refl
neither false true = refl
neither false false = refl

pub marked_more : (taken : ℕ → Bool) (marks : List Bool) (list : List ℕ) (y : ℕ) → y < length marks
    → Marked taken marks list
    → Marked taken (set marks y true) (list ++ y ∷ [])
marked_more taken marks list y h m n =
    rw is_in-push (elim (cases_eq n y) [
      | inl e ↦ rw (e, get_or-set_same marks y true false h, eq-eqb y y refl) (either (taken y) (is_in list y))
      | inr e ↦ rw (get_or-set_other marks y n true false e, ne_eqb y n (λ q. e (sym q)), m n)
          (neither (taken n) (is_in list n))
    ])

pub marked_still : (marks : List Bool) (y n : ℕ) → y < length marks → is_set marks n ≡ true
    → is_set (set marks y true) n ≡ true
marked_still marks y n h m = elim (cases_eq n y) [
  | inl e ↦ rw (e, get_or-set_same marks y true false h) refl
  | inr e ↦ rw (get_or-set_other marks y n true false e) m
]

pub unmarked_fewer : (marks : List Bool) (n : ℕ) → n < length marks → is_set marks n ≡ false
    → unmarked (set marks n true) + 1 ≡ unmarked marks
unmarked_fewer marks n h new = fewer marks n h new

pub marked_none : (marks : List Bool) → Marked (is_set marks) marks []
marked_none marks n = elim (is_set marks n) as (λ b. b ≡ cond b true false) [ true ↦ refl | false ↦ refl ]
