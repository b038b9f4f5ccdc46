-- Lists of extents that follow one another: what a test keeps of a range, and that they are linked.
use Rattle.std.proofs.Common.{◌≡◌, ℕ, zero, suc, ◌+◌, ◌-◌, ◌<◌, ◌≤◌, Bool, true, false, cond, eqb}
use Rattle.std.proofs.Common.{List, [], ◌∷◌, ◌++◌, filter, Contains, Option, Some, None, append-nil}
use Rattle.std.proofs.Common.{inl, inr, refl, sym, ap, ◌∙◌, arith}
use Rattle.std.specs.List.{range_with_len}
use Rattle.std.proofs.lemmas.Bool.{eq-eqb, ne_eqb}
use Rattle.std.proofs.lemmas.Bool.Decides.{eqb_tells}
use Rattle.std.proofs.lemmas.List.Elements.{filter-append}
use Rattle.std.proofs.lemmas.List.FromFn.{length-range_with_len}
use Rattle.page_source.proofs.Members.{range_only, range_distinct, all_members}
use Rattle.space_header.specs.declared.address.Address.{Address}
use Rattle.space_header.specs.declared.address.Node.{Node}
use Rattle.space_header.specs.Header.{extent_address}
use Rattle.space_header.specs.Linked.{Leads, Linked}
use Rattle.space_layout.specs.declared.runs.Run.{Run}
use Rattle.space_layout.specs.Runs.{members_of, null_address, base_of, node_of}

-- a range in two parts
pub range_split : (a m n : ℕ) → range_with_len a (m + n) ≡ range_with_len a m ++ range_with_len (a + m) n
range_split a zero n =
    let e : a + 0 ≡ a = omega arith in
    let f : 0 + n ≡ n = omega arith in
    rw (e, f) refl
range_split a (suc m) n =
    let e : suc m + n ≡ suc (m + n) = omega arith in
    let f : a + 1 + m ≡ a + suc m = omega arith in
    rw e (ap (λ (xs : List ℕ). a ∷ xs) (range_split (a + 1) m n
    ∙ ap (λ (k : ℕ). range_with_len (a + 1) m ++ range_with_len k n) f))

pub filter_none : (p : ℕ → Bool) (a n : ℕ) → ((e : ℕ) → a ≤ e → e < a + n → p e ≡ false)
    → filter p (range_with_len a n) ≡ []
filter_none p a zero h = refl
filter_none p a (suc n) h =
    rw (h a (omega arith) (omega arith)) (filter_none p (a + 1) n (λ e l r. h e (omega arith) (omega arith)))

pub filter_all : (p : ℕ → Bool) (a n : ℕ) → ((e : ℕ) → a ≤ e → e < a + n → p e ≡ true)
    → filter p (range_with_len a n) ≡ range_with_len a n
filter_all p a zero h = refl
filter_all p a (suc n) h =
    rw (h a (omega arith) (omega arith))
    (ap (λ (xs : List ℕ). a ∷ xs) (filter_all p (a + 1) n (λ e l r. h e (omega arith) (omega arith))))

-- the part of a range that passes a test
pub record Passes (p : ℕ → Bool) (a n : ℕ) (run : Run) : Type 0 where
  pub low : a ≤ run.first
  pub high : run.first + run.count ≤ a + n
  pub before : (e : ℕ) → a ≤ e → e < run.first → p e ≡ false
  pub within : (e : ℕ) → run.first ≤ e → e < run.first + run.count → p e ≡ true
  pub behind : (e : ℕ) → run.first + run.count ≤ e → e < a + n → p e ≡ false

pub filter_run : (p : ℕ → Bool) (a n : ℕ) (run : Run) → Passes p a n run → filter p (range_with_len a n)
    ≡ members_of run
filter_run p a n run h =
    let low = h.low in
    let high = h.high in
    let b = run.first - a in
    let c = a + n - (run.first + run.count) in
    let whole : n ≡ b + (run.count + c) = omega arith in
    let middle : a + b ≡ run.first = omega arith in
    let parts : range_with_len a n ≡ range_with_len a b ++
    (range_with_len run.first run.count ++ range_with_len (run.first
    + run.count) c) =
    ap (range_with_len a) whole ∙ range_split a b (run.count + c)
    ∙ ap (λ (k : ℕ). range_with_len a b ++ range_with_len k (run.count + c)) middle
    ∙ ap (λ (xs : List ℕ). range_with_len a b ++ xs) (range_split run.first run.count c) in
    ap (filter p) parts
    ∙ filter-append p (range_with_len a b)
    (range_with_len run.first run.count ++ range_with_len (run.first + run.count) c)
    ∙ ap (λ (xs : List ℕ). xs ++ filter p
    (range_with_len run.first run.count ++ range_with_len (run.first + run.count) c))
    (filter_none p a b (λ e l r. h.before e l (omega arith)))
    ∙ filter-append p (range_with_len run.first run.count) (range_with_len (run.first + run.count) c)
    ∙ ap (λ (xs : List ℕ). xs ++ filter p (range_with_len (run.first + run.count) c)) (filter_all p run.first run.count
    h.within)
    ∙ ap (λ (xs : List ℕ). range_with_len run.first run.count ++ xs) (filter_none p (run.first + run.count) c
    (λ e l r. h.behind e l (omega arith)))
    ∙ append-nil (range_with_len run.first run.count)

-- the members of a run
pub run_only : (run : Run) (e : ℕ) → Contains (members_of run) e → (run.first ≤ e) × (e < run.first + run.count)
run_only run e c = range_only run.first run.count e c

-- the nodes lead along a run from any of its members on
leads_from : (run : Run) (node : ℕ → Node)
    → ((e : ℕ) → run.first ≤ e → e < run.first + run.count → node e ≡ node_of run e)
    → (a n : ℕ) (before : Option ℕ) (found : Address) → run.first ≤ a → a + n ≡ run.first + run.count
    → before ≡ cond (eqb a run.first) None (Some (a - 1))
    → found ≡ cond (eqb a (run.first + run.count)) null_address (extent_address a)
    → Leads node extent_address (base_of run).last before found (range_with_len a n)
unfolding base_of node_of
leads_from run node same a zero before found low end is_before is_found =
    let last : a ≡ run.first + run.count = omega arith in
    let null : found ≡ null_address = is_found ∙ rw (eq-eqb a (run.first + run.count) last) refl in
    elim (eqb_tells run.count 0) [
      | inl none ↦
          let here : a ≡ run.first = omega (arith, none.1) in
          let no : before ≡ None = is_before ∙ rw (eq-eqb a run.first here) refl in
          rw (null, no, none.0) (refl, refl)
      | inr some ↦
          let there : a ≡ run.first → ⊥ = λ e. some.1 (omega arith) in
          let yes : before ≡ Some (a - 1) = is_before ∙ rw (ne_eqb a run.first there) refl in
          let e : run.first + run.count - 1 ≡ a - 1 = omega arith in
          rw (null, yes, some.0, e) (refl, refl)
    ]
leads_from run node same a (suc n) before found low end is_before is_found =
    let inside : a < run.first + run.count = omega arith in
    let more : a ≡ run.first + run.count → ⊥ = λ e. absurd (omega arith) in
    let here : found ≡ extent_address a = is_found ∙ rw (ne_eqb a (run.first + run.count) more) refl in
    let is = same a low inside in
    let further : a + 1 ≡ run.first → ⊥ = λ e. absurd (omega arith) in
    let rest = leads_from run node same (a + 1) n (Some a) (node a).next (omega arith) (omega arith)
    (sym (rw (ne_eqb (a + 1) run.first further) (ap Some (omega arith))))
    (ap (λ (x : Node). x.next) is) in (
      here,
      rw (is, is_before) (elim (eqb_tells a run.first) [ inl q ↦ rw q.0 refl | inr q ↦ rw q.0 refl ]),
      rest,
    )

base_length : (run : Run) → (base_of run).length ≡ run.count
unfolding base_of
base_length run = elim (eqb_tells run.count 0) [ inl q ↦ rw q.0 (sym q.1) | inr q ↦ rw q.0 refl ]

first_before : (run : Run) (before : Option ℕ) → before ≡ None
    → before ≡ cond (eqb run.first run.first) None (Some (run.first - 1))
first_before run before is = is ∙ rw (eq-eqb run.first run.first refl) refl

first_found : (run : Run)
    → (base_of run).first ≡ cond (eqb run.first (run.first + run.count)) null_address (extent_address run.first)
unfolding base_of
first_found run = elim (eqb_tells run.count 0) [
  | inl q ↦ let e : run.first ≡ run.first + run.count = omega (arith, q.1) in
      rw (q.0, eq-eqb run.first (run.first + run.count) e) refl
  | inr q ↦ let e : run.first ≡ run.first + run.count → ⊥ = λ e. q.1 (omega arith) in
      rw (q.0, ne_eqb run.first (run.first + run.count) e) refl
]

-- a run is linked
pub run_linked : (run : Run) (node : ℕ → Node) (IsMember : ℕ → Type 0)
    → ((e : ℕ) → run.first ≤ e → e < run.first + run.count → node e ≡ node_of run e)
    → ((e : ℕ) → run.first ≤ e → e < run.first + run.count → IsMember e)
    → Linked (base_of run) node extent_address IsMember (members_of run)
run_linked run node IsMember same members = record {
  count = length-range_with_len run.first run.count ∙ sym (base_length run);
  distinct = range_distinct run.first run.count;
  members = all_members IsMember (members_of run) (λ e c. let r = run_only run e c in members e r.0 r.1);
  leads = leads_from run node same run.first run.count None (base_of run).first (omega arith) refl
      (first_before run None refl)
      (first_found run);
}
