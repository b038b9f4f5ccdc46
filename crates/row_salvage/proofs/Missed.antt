-- Facts of the pages that were missed while marks were set.
use Rattle.std.proofs.Common.{◌≡◌, ℕ, ◌<◌, ◌≤◌, Bool, true, false, cond, List, [], ◌∷◌, ◌++◌, All}
use Rattle.std.proofs.Common.{subst, length, set, refl, sym, ap, ◌∙◌, inl, inr, length-append, get_or-set_same}
use Rattle.std.proofs.lemmas.Bool.{false≢true}
use Rattle.std.proofs.lemmas.Bool.Decides.{eqb_tells}
use Rattle.std.proofs.lemmas.List.Elements.{All-append, All-nil, All-head, All-tail, All-cons}
use Rattle.page_source.specs.Faults.{Rose}
use Rattle.space_audit.specs.Marks.{is_in, is_set, Marked}
use Rattle.salvage_model.specs.Causes.{RoseBy}
use Rattle.salvage_model.proofs.Causes.{rose_by_none, rose_by_one, rose_by_then}
use Rattle.row_salvage.specs.Missed.{IsNewly, UnderMissed}
use Rattle.tree_walk.proofs.Levels.{is_in-append}

-- what was marked still is
abbrev pub Grew : List Bool → List Bool → Type 0
Grew before after = (n : ℕ) → is_set before n ≡ true → is_set after n ≡ true

pub grew_marked : (before after : List Bool) (list : List ℕ) → Marked (is_set before) after list → Grew before after
grew_marked before after list marked n is =
    marked n ∙ ap (λ (b : Bool). cond b true (is_in list n)) is

grew_not : (before after : List Bool) (n : ℕ) → Grew before after → is_set after n ≡ false → is_set before n ≡ false
grew_not before after n grew not = by_before (is_set before n) (λ is. grew n is) where
  by_before : (b : Bool) → (b ≡ true → is_set after n ≡ true) → b ≡ false
  by_before true more = absurd (false≢true (sym not ∙ more refl))
  by_before false more = refl

-- a number of which something fails isn't in a list of which it holds
not_in_all : (P : ℕ → Type 0) (list : List ℕ) (n : ℕ) → All P list → ¬ (P n) → is_in list n ≡ false
not_in_all P [] n all fails = refl
not_in_all P (x ∷ xs) n all fails =
    elim (eqb_tells x n) [
      | inl same ↦ absurd (fails (subst (λ (m : ℕ). P m) same.1 (All-head P x xs all)))
      | inr other ↦ rw other.0 (not_in_all P xs n (All-tail P x xs all) fails)
    ]

-- nothing was missed: no page was fetched, or none of them failed
pub under_none : (before after : List Bool) (f g : ℕ) (Fact : (ℕ → Bool) → Type 0) → f ≤ g
    → ((missed : ℕ → Bool) → Fact missed) → UnderMissed before after f g Fact
under_none before after f g Fact later fact = record {
  list = [];
  newly = All-nil (IsNewly before after);
  cause = rose_by_none f g later;
  holds = λ missed agrees. fact missed;
}

-- a page that was newly marked was read
pub under_read : (before after : List Bool) (f g n : ℕ) (Fact : (ℕ → Bool) → Type 0) → IsNewly before after n
    → f ≤ g → ((missed : ℕ → Bool) → missed n ≡ false → Fact missed) → UnderMissed before after f g Fact
under_read before after f g n Fact new later fact = record {
  list = [];
  newly = All-nil (IsNewly before after);
  cause = rose_by_none f g later;
  holds = λ missed agrees. fact missed (agrees n new);
}

-- it was missed
pub under_missed : (before after : List Bool) (f g n : ℕ) (Fact : (ℕ → Bool) → Type 0) → IsNewly before after n
    → Rose f g → ((missed : ℕ → Bool) → missed n ≡ true → Fact missed) → UnderMissed before after f g Fact
under_missed before after f g n Fact new rose fact = record {
  list = n ∷ [];
  newly = All-cons (IsNewly before after) n [] new (All-nil (IsNewly before after));
  cause = rose_by_one f g rose;
  holds = λ missed agrees. fact missed (agrees n new ∙ in_one n);
}
  where
    in_one : (n : ℕ) → is_in (n ∷ []) n ≡ true
    in_one n = elim (eqb_tells n n) [ inl same ↦ rw same.0 refl | inr other ↦ absurd (other.1 refl) ]

-- what follows from a fact
pub under_more : (before after : List Bool) (f g : ℕ) (Fact More : (ℕ → Bool) → Type 0)
    → ((missed : ℕ → Bool) → Fact missed → More missed) → UnderMissed before after f g Fact
    → UnderMissed before after f g More
under_more before after f g Fact More more under = record {
  list = under.list;
  newly = under.newly;
  cause = under.cause;
  holds = λ missed agrees. more missed (under.holds missed agrees);
}

-- what holds whatever was missed
pub under_fact : (before after : List Bool) (f g : ℕ) (Fact : Type 0) → UnderMissed before after f g (λ missed. Fact)
    → Fact
under_fact before after f g Fact under = under.holds (is_in under.list) (λ n new. refl)

-- two stretches of marks, one after the other
pub under_then : (before middle after : List Bool) (f g h : ℕ) (First Second : (ℕ → Bool) → Type 0)
    → Grew before middle → Grew middle after
    → UnderMissed before middle f g First → UnderMissed middle after g h Second
    → UnderMissed before after f h (λ missed. First missed × Second missed)
under_then before middle after f g h First Second grew later first second =
    let early : (n : ℕ) → IsNewly before middle n → IsNewly before after n =
    λ n new. record { unmarked = new.unmarked; marked = later n new.marked } in
    let late : (n : ℕ) → IsNewly middle after n → IsNewly before after n =
    λ n new. record { unmarked = grew_not before middle n grew new.unmarked; marked = new.marked } in
    record {
      list = first.list ++ second.list;
      newly = All-append (IsNewly before after) first.list second.list
          (λ k d below. early _ (first.newly k d below)) (λ k d below. late _ (second.newly k d below));
      cause =
          subst (λ (k : ℕ). RoseBy f h k) (sym (length-append first.list second.list))
          (rose_by_then f g h (length first.list) (length second.list) first.cause second.cause);
      holds = λ missed agrees. (
        first.holds missed (λ n new.
            let none : is_in second.list n ≡ false =
            not_in_all (IsNewly middle after) second.list n second.newly
            (λ other. false≢true (sym other.unmarked ∙ new.marked)) in
            agrees n (early n new) ∙ is_in-append first.list second.list n
            ∙ ap (λ (b : Bool). cond (is_in first.list n) true b) none ∙ or_false (is_in first.list n)),
        second.holds missed (λ n new.
            let none : is_in first.list n ≡ false =
            not_in_all (IsNewly before middle) first.list n first.newly
            (λ other. false≢true (sym new.unmarked ∙ other.marked)) in
            agrees n (late n new) ∙ is_in-append first.list second.list n
            ∙ ap (λ (b : Bool). cond b true (is_in second.list n)) none),
      );
    }
  where
    or_false : (b : Bool) → cond b true false ≡ b
    or_false true = refl
    or_false false = refl

-- a mark that was set
pub newly_set : (before after : List Bool) (n : ℕ) → n < length before → is_set before n ≡ false
    → after ≡ set before n true → IsNewly before after n
newly_set before after n below none is = record {
  unmarked = none;
  marked = ap (λ (marks : List Bool). is_set marks n) is ∙ get_or-set_same before n true false below;
}

-- marks of one list after another
pub marked_then : (taken : ℕ → Bool) (middle after : List Bool) (first second : List ℕ) → Marked taken middle first
    → Marked (is_set middle) after second → Marked taken after (first ++ second)
marked_then taken middle after first second one two n =
    two n ∙ ap (λ (b : Bool). cond b true (is_in second n)) (one n)
    ∙ by_taken (taken n) ∙ ap (λ (b : Bool). cond (taken n) true b) (sym (is_in-append first second n))
  where
    by_taken : (b : Bool)
        → cond (cond b true (is_in first n)) true (is_in second n)
        ≡ cond b true (cond (is_in first n) true (is_in second n))
    by_taken true = refl
    by_taken false = refl
