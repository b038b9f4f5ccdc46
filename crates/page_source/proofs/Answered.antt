-- A verdict has an answer, and each way to put verdicts together keeps that.
use Rattle.std.proofs.Common.{◌≡◌, ℕ, zero, suc, ◌+◌, ◌<◌, ◌⊎◌, List, [], ◌∷◌, length, take, get_or, Option, Some, None}
use Rattle.std.proofs.Common.{refl, subst, inl, inr, arith}
use Rattle.std.proofs.lemmas.Bool.{cases_lt}
use Rattle.std.proofs.lemmas.List.{get_or_default}
use Rattle.page_source.specs.declared.rule.Rule.{Rule}
use Rattle.page_source.specs.Checks.{AtPage}
use Rattle.page_source.specs.Verdict.{Clear, Check, Then, Where, AllBelow, Each, EachOf, Reaches, Along}
use Rattle.page_source.proofs.Decided.{IsDecided}

abbrev pub HasAnswer : {F : Type 0} → (Option F → Type 0) → Type 0
HasAnswer {F} checks = (answer : Option F) × checks answer

pub Clear-answered : {F : Type 0} → HasAnswer (Clear {F = F})
Clear-answered = (None, tt)

pub Check-answered : {F : Type 0} (fault : F) (holds : Type 0) → IsDecided holds → HasAnswer (Check fault holds)
Check-answered fault holds (inl h) = (None, h)
Check-answered fault holds (inr fails) = (Some fault, (fails, refl))

-- the second checks have one where the first ones hold
pub Then-answered : {F : Type 0} (first second : Option F → Type 0) → HasAnswer first
    → (first None → HasAnswer second) → HasAnswer (Then first second)
Then-answered {F} first second answer more = by_first answer.0 answer.1
  where
    by_second : first None → (a : Option F) → second a → HasAnswer (Then first second)
    by_second h None s = (None, (h, s))
    by_second h (Some fault) s = (Some fault, inr (h, s))

    by_first : (a : Option F) → first a → HasAnswer (Then first second)
    by_first None h = by_second h (more h).0 (more h).1
    by_first (Some fault) h = (Some fault, inl h)

pub Where-answered : {F : Type 0} (applies : Type 0) (checks : Option F → Type 0) → IsDecided applies
    → (applies → HasAnswer checks) → HasAnswer (Where applies checks)
Where-answered {F} applies checks (inr fails) answer = (None, λ a. absurd (fails a))
Where-answered {F} applies checks (inl a) answer = by_answer (answer a).0 (answer a).1
  where
    by_answer : (answer : Option F) → checks answer → HasAnswer (Where applies checks)
    by_answer None h = (None, λ _. h)
    by_answer (Some fault) h = (Some fault, (a, h))

-- one check more, which has one where those before it hold
pub each_more : {F : Type 0} (count : ℕ) (check : ℕ → Option F → Type 0) → HasAnswer (Each count check)
    → (AllBelow check count → HasAnswer (check count)) → HasAnswer (Each (suc count) check)
each_more {F} count check before last = by_before before.0 before.1
  where
    by_last : AllBelow check count → (a : Option F) → check count a → HasAnswer (Each (suc count) check)
    by_last all None h = (
      None,
      λ j below.
          elim (cases_lt j count) [
            | inl less ↦ all j less
            | inr more ↦ subst (λ (k : ℕ). check k None) (omega (arith, below, more)) h
          ],
    )
    by_last all (Some fault) h = (Some fault, (count, omega arith, all, h))

    by_before : (a : Option F) → Each count check a → HasAnswer (Each (suc count) check)
    by_before None all = let answer = last all in by_last all answer.0 answer.1
    by_before (Some fault) h = (Some fault, (h.0, omega (arith, h.1), h.2, h.3))

-- the check at each number has one where those before it hold
pub Each-answered : {F : Type 0} (count : ℕ) (check : ℕ → Option F → Type 0)
    → ((k : ℕ) → k < count → AllBelow check k → HasAnswer (check k)) → HasAnswer (Each count check)
Each-answered zero check each = (None, λ j below. absurd (omega (arith, below)))
Each-answered (suc count) check each =
    each_more count check (Each-answered count check (λ k below. each k (omega (arith, below))))
    (each count (omega arith))

-- and so does one that has it whatever those before it show
pub All-answered : {F : Type 0} (count : ℕ) (check : ℕ → Option F → Type 0) → ((k : ℕ) → HasAnswer (check k))
    → HasAnswer (Each count check)
All-answered count check each = Each-answered count check (λ k below earlier. each k)

-- the same of the members of a list, each the one at its place whatever stands past the end
abbrev pub At : {F X : Type 0} → List X → (List X → X → Option F → Type 0) → ℕ → Option F → Type 0
At {X = X} places check k answer = (d : X) → check (take k places) (get_or places k d) answer

pub at_answered : {F X : Type 0} (places : List X) (check : List X → X → Option F → Type 0) (k : ℕ) (d : X)
    → k < length places → HasAnswer (check (take k places) (get_or places k d)) → HasAnswer (At places check k)
at_answered {X = X} places check k d within answer = (
  answer.0,
  λ e. subst (λ (y : X). check (take k places) y answer.0) (get_or_default places k d e within) answer.1,
)

pub eachof_answer : {F X : Type 0} (places : List X) (check : List X → X → Option F → Type 0)
    → HasAnswer (Each (length places) (At places check)) → HasAnswer (EachOf places check)
eachof_answer {F} places check answer = by_answer answer.0 answer.1
  where
    by_answer : (a : Option F) → Each (length places) (At places check) a → HasAnswer (EachOf places check)
    by_answer None all = (None, λ j d below. all j below d)
    by_answer (Some fault) h = (Some fault, (h.0, h.1, λ j d below. h.2 j below d, h.3))

-- a list with a place has a member
pub member : {X : Type 0} (xs : List X) (k : ℕ) → k < length xs → X
member [] k h = absurd (omega (arith, h))
member (x ∷ xs) k h = x

pub EachOf-answered : {F X : Type 0} (places : List X) (check : List X → X → Option F → Type 0)
    → ((earlier : List X) (x : X) → HasAnswer (check earlier x)) → HasAnswer (EachOf places check)
EachOf-answered places check each =
    eachof_answer places check (Each-answered (length places) (At places check)
    (λ k within all.
    let d = member places k within in
    at_answered places check k d within (each (take k places) (get_or places k d))))

-- checks along places, from one that is reached: where it ends the list and where it doesn't
pub along_ended : {F : Type 0} (ends : ℕ → Type 0) (check last : ℕ → Option F → Type 0) (k : ℕ)
    → Reaches ends check k → ends k → HasAnswer (last k) → HasAnswer (Along ends check last)
along_ended {F} ends check last k reached e answer = by_answer answer.0 answer.1
  where
    by_answer : (a : Option F) → last k a → HasAnswer (Along ends check last)
    by_answer None h = (None, (k, e, reached, h))
    by_answer (Some fault) h = (Some fault, (k, reached, inr (e, h)))

-- the check there holds, or is the first broken one
pub along_more : {F : Type 0} (ends : ℕ → Type 0) (check last : ℕ → Option F → Type 0) (k : ℕ)
    → Reaches ends check k → (¬ (ends k)) → HasAnswer (check k)
    → Reaches ends check (suc k) ⊎ HasAnswer (Along ends check last)
along_more {F} ends check last k reached fails answer = by_answer answer.0 answer.1
  where
    by_answer : (a : Option F) → check k a → Reaches ends check (suc k) ⊎ HasAnswer (Along ends check last)
    by_answer None h =
        inl (λ j below.
        elim (cases_lt j k) [
          | inl less ↦ reached j less
          | inr more ↦ subst (λ (i : ℕ). (¬ (ends i)) × check i None) (omega (arith, below, more)) (fails, h)
        ])
    by_answer (Some fault) h = inr (Some fault, (k, reached, inl (fails, h)))

-- checks along places that can't all go on have one, where it is decided which place ends the list
pub Along-answered : {F : Type 0} (ends : ℕ → Type 0) (check last : ℕ → Option F → Type 0) (most : ℕ)
    → ((k : ℕ) → IsDecided (ends k)) → ((k : ℕ) → HasAnswer (check k)) → ((k : ℕ) → HasAnswer (last k))
    → (¬ (Reaches ends check most)) → HasAnswer (Along ends check last)
Along-answered ends check last most decided each at_end stops =
    walk most 0 (omega arith) (λ j below. absurd (omega (arith, below)))
  where
    walk : (left k : ℕ) → left + k ≡ most → Reaches ends check k → HasAnswer (Along ends check last)
    walk zero k is reached =
        let here : k ≡ most = omega (arith, is) in absurd (stops (subst (Reaches ends check) here reached))
    walk (suc left) k is reached =
        elim (decided k) [
          | inl e ↦ along_ended ends check last k reached e (at_end k)
          | inr fails ↦ elim (along_more ends check last k reached fails (each k)) [
            | inl more ↦ walk left (suc k) (omega (arith, is)) more
            | inr answer ↦ answer
          ]
        ]

-- a rule that is broken on a page
pub AtPage-answered : (n : ℕ) (checks : Option Rule → Type 0) → HasAnswer checks → HasAnswer (AtPage n checks)
AtPage-answered n checks answer = by_answer answer.0 answer.1
  where
    by_answer : (a : Option Rule) → checks a → HasAnswer (AtPage n checks)
    by_answer None h = (None, h)
    by_answer (Some rule) h = (Some (record { rule = rule; page = n }), (refl, h))
