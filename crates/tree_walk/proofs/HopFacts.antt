-- facts on the leaves that a cursor goes over
use Rattle.std.proofs.Common.{◌≡◌, ℕ, ◌+◌, ◌<◌, ◌≤◌, List, [], ◌∷◌, ◌++◌, length, refl, sym, ap, ◌∙◌, arith, inl, inr}
use Rattle.std.proofs.Common.{length-append, subst, Result, Err}
use Rattle.page_source.specs.declared.checks.Halt.{Halt}
use Rattle.page_source.specs.declared.checks.Halt.TheVariants.{Broken, Source}
use Rattle.fil_frame.specs.Frame.{next_page}
use Rattle.tree_walk.specs.declared.leaves.leaf.Leaf.{Leaf}
use Rattle.tree_walk.specs.Hops.{HeldPage, held_by, CameInTurn, last_held, HasComeBy, Hops, GoesByNextFields}
use Rattle.tree_walk.specs.Hops.{IsDue}

-- one page more came in turn
in_turn_more : (n : ℕ) (before held : HeldPage) (came : List HeldPage) → n ≡ next_page before.page
    → CameInTurn n came → held.number ≡ next_page (last_held before came).page → CameInTurn n (came ++ held ∷ [])
in_turn_more n before held [] e t q = (q ∙ sym e, tt)
in_turn_more n before held (x ∷ xs) e (s, t) q = (s, in_turn_more (next_page x.page) x held xs refl t q)

pub last_more : (before held : HeldPage) (came : List HeldPage) → last_held before (came ++ held ∷ []) ≡ held
last_more before held [] = refl
last_more before held (x ∷ xs) = last_more x held xs

-- none came yet
pub come_none : (n : ℕ) (leaf : Leaf) → HasComeBy n leaf leaf 0
come_none n leaf = record { came = []; in_turn = tt; number = refl; page = λ z. refl; fetches = omega arith }

pub come_more : (old leaf new : Leaf) → HasComeBy (next_page old.page) old leaf 0 → new.number ≡ next_page leaf.page
    → new.may_fetch + 1 ≡ leaf.may_fetch → HasComeBy (next_page old.page) old new 0
come_more old leaf new c e m =
    let l = last_more (held_by old) (held_by new) c.came in
    record {
      came = c.came ++ held_by new ∷ [];
      in_turn = in_turn_more (next_page old.page) (held_by old) (held_by new) c.came refl c.in_turn
          (e ∙ ap next_page (c.page refl));
      number = ap (λ (h : HeldPage). h.number) (sym l);
      page = λ z. ap (λ (h : HeldPage). h.page) (sym l);
      fetches = omega (arith, m, c.fetches, length-append c.came (held_by new ∷ []));
    }

-- a fetch failed
pub come_failed : (n : ℕ) (old leaf new : Leaf) → HasComeBy n old leaf 0 → new.number ≡ leaf.number
    → new.may_fetch + 1 ≡ leaf.may_fetch → HasComeBy n old new 1
come_failed n old leaf new c e m = record {
  came = c.came;
  in_turn = c.in_turn;
  number = e ∙ c.number;
  page = λ z. absurd (omega arith);
  fetches = omega (arith, m, c.fetches);
}

-- the leftmost leaf came first
pub come_first : (old opened new : Leaf) (failed : ℕ) → opened.number ≡ old.number
    → opened.may_fetch + 1 ≡ old.may_fetch → HasComeBy (next_page opened.page) opened new failed
    → HasComeBy old.number old new failed
come_first old opened new failed e m c = record {
  came = held_by opened ∷ c.came;
  in_turn = (e, c.in_turn);
  number = c.number;
  page = c.page;
  fetches = omega (arith, m, c.fetches);
}

-- a call that halts leaves the number
pub hops_still : (n : ℕ) (old new : Leaf) (halt : Halt) → Hops n old new (Err halt) → new.number ≡ old.number
hops_still n old new (Broken fault) h = ap (λ (leaf : Leaf). leaf.number) h
hops_still n old new Source h = h.0

pub come_halts : (A : Type 0) (n m : ℕ) (old leaf new : Leaf) (halt : Halt) → HasComeBy n old leaf 0
    → Hops m leaf new (Err halt) → GoesByNextFields {A = A} n old new (Err halt)
come_halts A n m old leaf new (Broken fault) c h = subst (λ (l : Leaf). HasComeBy n old l 0) (sym h) c
come_halts A n m old leaf new Source c h = come_failed n old leaf new c h.0 h.1

-- a fault of one kind of call, as that of another
pub halts_as : {A B : Type 0} (a b : Halt) → ◌≡◌ {A = Result A Halt} (Err a) (Err b)
    → ◌≡◌ {A = Result B Halt} (Err a) (Err b)
halts_as a b e = let q : a ≡ b = cc in ap (λ h. Err h) q

-- the page that is due, before the first row and later
pub due_first : (leaf : Leaf) (last n : ℕ) → last < 99 → IsDue leaf last n → n ≡ leaf.number
due_first leaf last n l (inl (m, e)) = e
due_first leaf last n l (inr (m, e)) = absurd (omega arith)

pub due_next : (leaf : Leaf) (last n : ℕ) → 99 ≤ last → IsDue leaf last n → n ≡ next_page leaf.page
due_next leaf last n l (inl (m, e)) = absurd (omega arith)
due_next leaf last n l (inr (m, e)) = e
