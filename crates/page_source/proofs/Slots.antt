-- What a store in memory holds after a slot was added or written.
use Rattle.std.proofs.Common.{◌≡◌, ℕ, zero, suc, ◌+◌, ◌<◌, Bool, true, false, cond, eqb, List, [], ◌∷◌, ◌++◌, length}
use Rattle.std.proofs.Common.{set, drop, append_assoc, if◌then◌else◌, Some, refl, sym, ap, ◌∙◌, arith, zero-add}
use Rattle.std.proofs.Common.{add-zero}
use Rattle.std.proofs.lemmas.Bool.Decides.{nat_tests}
use Rattle.std.proofs.Math.Seq.{drop_at}
use Rattle.std.specs.Cmp.{nat_cmp_total, unsigned_tied}
use Rattle.std.specs.FinMap.{get, insert, get-insert, same_map, nat_cmp-IsAntisymmetric}
use Rattle.page_source.specs.declared.memory.store.Slot.{Slot}
use Rattle.page_source.specs.Objects.{PageMap}
use Rattle.page_source.specs.Slots.{held_from}

-- a slot that nothing was put into adds no page
pub held_from-push : (n : ℕ) (slots : List Slot) (slot : Slot) → slot.held ≡ false
    → held_from n (slots ++ slot ∷ []) ≡ held_from n slots
held_from-push n [] slot none = rw none refl
held_from-push n (first ∷ slots) slot none =
    ap (λ (pages : PageMap). cond first.held (insert pages n first.page) pages) (held_from-push (suc n) slots slot none)

pub get-insert_at : (pages : PageMap) (n : ℕ) (page : List ℕ) (q : ℕ)
    → get (insert pages n page) q ≡ cond (eqb q n) (Some page) (get pages q)
get-insert_at pages n page q =
    get-insert nat_cmp_total pages n page q ∙ ap (λ b. cond b (Some page) (get pages q)) (unsigned_tied q n)

-- a page over the first one
over_first : (rest : PageMap) (n q : ℕ) (held : Bool) (old new : List ℕ)
    → get (insert rest n new) q ≡ cond (eqb q n) (Some new) (get (cond held (insert rest n old) rest) q)
over_first rest n q true old new = grind (arith, nat_tests, get-insert_at rest n new q, get-insert_at rest n old q)
over_first rest n q false old new = get-insert_at rest n new q

-- a page at a later number
after_first : (rest now : PageMap) (n m q : ℕ) (held : Bool) (old new : List ℕ) → n < m
    → get now q ≡ cond (eqb q m) (Some new) (get rest q)
    → get (cond held (insert now n old) now) q ≡ cond (eqb q m) (Some new) (get (cond held (insert rest n old) rest) q)
after_first rest now n m q true old new later is =
    grind (arith, nat_tests, get-insert_at now n old q, get-insert_at rest n old q)
after_first rest now n m q false old new later is = is

get-held_from_set : (q n i : ℕ) (slots : List Slot) (slot : Slot) → i < length slots → slot.held ≡ true
    → get (held_from n (set slots i slot)) q ≡ cond (eqb q (n + i)) (Some slot.page) (get (held_from n slots) q)
get-held_from_set q n i [] slot inside put = absurd (omega arith)
get-held_from_set q n zero (first ∷ slots) slot inside put =
    rw (put, add-zero) (over_first (held_from (suc n) slots) n q first.held first.page slot.page)
get-held_from_set q n (suc i) (first ∷ slots) slot inside put =
    let place : suc n + i ≡ n + suc i = omega arith in
    let rest : get (held_from (suc n) (set slots i slot)) q ≡ cond (eqb q (n + suc i)) (Some slot.page)
    (get (held_from (suc n) slots) q) = rw (← place) (get-held_from_set q (suc n) i slots slot (omega arith) put) in
    after_first (held_from (suc n) slots) (held_from (suc n) (set slots i slot)) n
    (n + suc i) q first.held first.page slot.page (omega arith) rest

-- a page that is put into slot i is the page at i
pub held_from-set : (slots : List Slot) (i : ℕ) (slot : Slot) → i < length slots → slot.held ≡ true
    → held_from 0 (set slots i slot) ≡ insert (held_from 0 slots) i slot.page
held_from-set slots i slot inside put =
    same_map nat_cmp_total nat_cmp-IsAntisymmetric _ _
    (λ q. get-held_from_set q 0 i slots slot inside put
    ∙ rw zero-add (sym (get-insert_at (held_from 0 slots) i slot.page q)))

-- the slots behind the last one that is taken away, where it stands before those that were taken already
pub popped : (all before front : List Slot) (slot : Slot) (m n : ℕ) → before ≡ front ++ slot ∷ [] → n ≡ length front
    → before ++ drop m all ≡ all → (front ++ drop n all ≡ all) × (drop n all ≡ slot ∷ drop m all)
popped all before front slot m n is count whole =
    let joined : front ++ (slot ∷ drop m all) ≡ all =
    sym (append_assoc front (slot ∷ []) (drop m all)) ∙ ap (λ (xs : List Slot). xs ++ drop m all) (sym is) ∙ whole in
    let rest : drop n all ≡ slot ∷ drop m all = ap (drop n) (sym joined)
    ∙ drop_at front (slot ∷ drop m all) n (sym count) in
    (ap (λ (xs : List Slot). front ++ xs) rest ∙ joined, rest)

-- the pages of the slots from n on, where slot n was held or not
pub held_more : (slot : Slot) (behind slots : List Slot) (n m : ℕ) (held now : PageMap) → m ≡ suc n
    → slots ≡ slot ∷ behind
    → held ≡ held_from m behind → now ≡ (if slot.held then insert held n slot.page else held) → now ≡ held_from n slots
held_more slot behind slots n m held now more is before after =
    let here : held ≡ held_from (suc n) behind = before ∙ ap (λ (k : ℕ). held_from k behind) more in
    after ∙ ap (λ (pages : PageMap). if slot.held then insert pages n slot.page else pages) here
    ∙ ap (held_from n) (sym is)

pub ruleset slot_changes = (held_from-push, held_from-set)
