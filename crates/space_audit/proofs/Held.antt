-- Claims one by one.
use Rattle.std.proofs.Common.{◌≡◌, ◌≢◌, ◌⊎◌, ℕ, zero, suc, ◌+◌, ◌<◌, ◌≤◌, Bool, true, false, cond, not, eqb, ◌==◌}
use Rattle.std.proofs.Common.{if◌then◌else◌, List, [], ◌∷◌, ◌++◌, length, get_or, set, map, filter, take, All, Contains}
use Rattle.std.proofs.Common.{refl, sym, ◌∙◌, ap, subst, inl, inr, arith, get_or-set_same, get_or-set_other, length-set}
use Rattle.std.proofs.Common.{append-nil, true≢false}
use Rattle.std.proofs.lemmas.Bool.{cases_lt}
use Rattle.std.proofs.lemmas.Bool.Decides.{Decides-eqb, eqb_tells}
use Rattle.std.proofs.lemmas.List.Elements.{All-head, All-tail, All-contains, filter_more}
use Rattle.page_source.specs.Pages.{fil_null}
use Rattle.std.proofs.lemmas.List.{map-append}
use Rattle.page_source.specs.Lists.{times_in}
use Rattle.page_source.proofs.Members.{contains_here, contains_there}
use Rattle.page_source.proofs.Times.{one_if, times_cons}
use Rattle.space_audit.proofs.ListSteps.{get_other}
use Rattle.space_audit.specs.Holders.{Claim, no_holder, many_holders, held_more, held_after, AreHeld, claims_of, IsOnce}

pub held_push : (h : ℕ) (claims : List Claim) (c : Claim) (n : ℕ)
    → held_after h (claims ++ c ∷ []) n ≡ (if c.page == n then held_more (held_after h claims n) c.who else
    held_after h claims n)
held_push h [] c n = refl
held_push h (x ∷ claims) c n = held_push (if x.page == n then held_more h x.who else h) claims c n

held_here : (h : ℕ) (claims : List Claim) (c : Claim) (n : ℕ) → eqb c.page n ≡ true
    → held_after h (claims ++ c ∷ []) n ≡ held_more (held_after h claims n) c.who
held_here h claims c n t = held_push h claims c n
    ∙ ap (λ b. cond b (held_more (held_after h claims n) c.who) (held_after h claims n)) t

held_there : (h : ℕ) (claims : List Claim) (c : Claim) (n : ℕ) → eqb c.page n ≡ false
    → held_after h (claims ++ c ∷ []) n ≡ held_after h claims n
held_there h claims c n t = held_push h claims c n
    ∙ ap (λ b. cond b (held_more (held_after h claims n) c.who) (held_after h claims n)) t

pub held_claim : (holders : List ℕ) (claims : List Claim) (page who v : ℕ) → page < length holders
    → v ≡ held_more (get_or holders page 0) who → AreHeld holders claims
    → AreHeld (set holders page v) (claims ++ record { page = page; who = who } ∷ [])
held_claim holders claims page who v h e a = λ n l. elim (eqb_tells page n) [
  | inl q ↦
      let here : get_or (set holders page v) page 0 ≡ held_after no_holder
      (claims ++ record { page = page; who = who } ∷ []) page =
      get_or-set_same holders page v 0 h
      ∙ (e ∙ (ap (λ x. held_more x who) (a page h)
      ∙ sym (held_here no_holder claims (record { page = page; who = who }) page ((Decides-eqb page page).1 refl))))
      in
      subst (λ k. get_or (set holders page v) k 0 ≡ held_after no_holder
      (claims ++ record { page = page; who = who } ∷ []) k) q.1 here
  | inr q ↦
      get_or-set_other holders page n v 0 (λ s. q.1 (sym s))
      ∙ (a n (omega (arith, l, length-set holders page v))
      ∙ sym (held_there no_holder claims (record { page = page; who = who }) n q.0))
]

-- the pages of claims
abbrev pub claimed_pages : List Claim → List ℕ
claimed_pages claims = map (λ (c : Claim). c.page) claims

-- what a holder says of the claims: no claim leaves it as it was
pub held_none : (claims : List Claim) (h n : ℕ) → times_in (claimed_pages claims) n ≡ 0 → held_after h claims n ≡ h
held_none [] h n e = refl
held_none (c ∷ claims) h n e =
    let t = times_cons c.page (claimed_pages claims) n in
    elim (eqb_tells c.page n) [
      | inl q ↦ absurd (let s = ap one_if q.0 in omega (arith, t, e, s))
      | inr q ↦ ap (λ b. held_after (cond b (held_more h c.who) h) claims n) q.0
          ∙ held_none claims h n (let s = ap one_if q.0 in omega (arith, t, e, s))
    ]

many_stay : (claims : List Claim) (n : ℕ) → held_after many_holders claims n ≡ many_holders
many_stay [] n = refl
many_stay (c ∷ claims) n = elim (eqb_tells c.page n) [
  | inl q ↦ ap (λ b. held_after (cond b (held_more many_holders c.who) many_holders) claims n) q.0
      ∙ many_stay claims n
  | inr q ↦ ap (λ b. held_after (cond b (held_more many_holders c.who) many_holders) claims n) q.0
      ∙ many_stay claims n
]

pub held_taken : (h who : ℕ) → h ≢ no_holder → held_more h who ≡ many_holders
held_taken h who d = elim (eqb_tells h no_holder) [
  | inl q ↦ absurd (d q.1)
  | inr q ↦ ap
      (λ b. cond b who many_holders) q.0
]

-- a claim on a page that is held leaves many holders
held_many : (claims : List Claim) (h n : ℕ) → h ≢ no_holder → 1 ≤ times_in (claimed_pages claims) n
    → held_after h claims n ≡ many_holders
held_many [] h n d l = absurd (omega arith)
held_many (c ∷ claims) h n d l =
    let t = times_cons c.page (claimed_pages claims) n in
    elim (eqb_tells c.page n) [
      | inl q ↦ ap (λ b. held_after (cond b (held_more h c.who) h) claims n) q.0
          ∙ (ap (λ k. held_after k claims n) (held_taken h c.who d) ∙ many_stay claims n)
      | inr q ↦ ap (λ b. held_after (cond b (held_more h c.who) h) claims n) q.0
          ∙ held_many claims h n d (let s = ap one_if q.0 in omega (arith, t, l, s))
    ]

-- those who claim are no such marks
abbrev pub AreHolders : List Claim → Type 0
AreHolders claims = All (λ (c : Claim). c.who ≢ no_holder) claims

pub held_two : (claims : List Claim) (n : ℕ) → AreHolders claims → 2 ≤ times_in (claimed_pages claims) n
    → held_after no_holder claims n ≡ many_holders
held_two [] n a l = absurd (omega arith)
held_two (c ∷ claims) n a l =
    let t = times_cons c.page (claimed_pages claims) n in
    elim (eqb_tells c.page n) [
      | inl q ↦ ap (λ b. held_after (cond b c.who no_holder) claims n) q.0
          ∙ held_many claims c.who n (All-head (λ (x : Claim). x.who ≢ no_holder) c claims a)
          (let s = ap one_if q.0 in omega (arith, t, l, s))
      | inr q ↦ ap (λ b. held_after (cond b c.who no_holder) claims n) q.0
          ∙ held_two claims n (All-tail (λ (x : Claim). x.who ≢ no_holder) c claims a)
          (let s = ap one_if q.0 in omega (arith, t, l, s))
    ]

-- one claim leaves its holder
pub record Holder (claims : List Claim) (n holder : ℕ) : Type 0 where
  pub claim : Claim
  pub among : Contains claims claim
  pub page_is : claim.page ≡ n
  pub who_is : holder ≡ claim.who

pub held_one : (claims : List Claim) (n : ℕ) → times_in (claimed_pages claims) n ≡ 1
    → Holder claims n (held_after no_holder claims n)
held_one [] n e = absurd (omega arith)
held_one (c ∷ claims) n e =
    let t = times_cons c.page (claimed_pages claims) n in
    elim (eqb_tells c.page n) [
      | inl q ↦ record {
        claim = c;
        among = contains_here c claims;
        page_is = q.1;
        who_is = ap (λ b. held_after (cond b c.who no_holder) claims n) q.0
            ∙ held_none claims c.who n (let s = ap one_if q.0 in omega (arith, t, e, s));
      }
      | inr q ↦
          let r = held_one claims n (let s = ap one_if q.0 in omega (arith, t, e, s)) in
          record {
            claim = r.claim;
            among = contains_there c claims r.claim r.among;
            page_is = r.page_is;
            who_is =
                ap (λ b. held_after (cond b c.who no_holder) claims n) q.0 ∙ r.who_is;
          }
    ]

-- one more slot
abbrev claim_by : ℕ → ℕ → Claim
claim_by who slot = record { page = slot; who = who }

claims_more : (who : ℕ) (slots : List ℕ) (i : ℕ) (b : Bool) → i < length slots
    → not (get_or slots i 0 == fil_null) ≡ b
    → claims_of who (take (i + 1) slots) ≡ claims_of who (take i slots) ++ cond b
    (record { page = get_or slots i 0; who = who } ∷ []) []
claims_more who slots i true h e =
    ap (λ xs. map (λ (slot : ℕ). claim_by who slot) xs) (filter_more (λ slot. not (slot == fil_null)) slots i 0 h
    ∙ ap (λ b. filter (λ slot. not (slot == fil_null)) (take i slots) ++ cond b (get_or slots i 0 ∷ []) []) e)
    ∙ map-append (λ (slot : ℕ). claim_by who slot) (filter (λ slot. not (slot == fil_null)) (take i slots))
    (get_or slots i 0 ∷ [])
claims_more who slots i false h e =
    ap (λ xs. map (λ (slot : ℕ). claim_by who slot) xs) (filter_more (λ slot. not (slot == fil_null)) slots i 0 h
    ∙ ap (λ b. filter (λ slot. not (slot == fil_null)) (take i slots) ++ cond b (get_or slots i 0 ∷ []) []) e)
    ∙ map-append (λ (slot : ℕ). claim_by who slot) (filter (λ slot. not (slot == fil_null)) (take i slots)) []

pub claims_more_yes : (who : ℕ) (slots : List ℕ) (i : ℕ) → i < length slots → get_or slots i 0 ≢ fil_null
    → claims_of who (take (i + 1) slots) ≡ claims_of who (take i slots) ++ record
    { page = get_or slots i 0; who = who } ∷ []
claims_more_yes who slots i h d = claims_more who slots i true h
    (elim (eqb_tells (get_or slots i 0) fil_null) [ inl q ↦ absurd (d q.1) | inr q ↦ ap not q.0 ])

pub claims_more_no : (who : ℕ) (slots : List ℕ) (i : ℕ) → i < length slots → get_or slots i 0 ≡ fil_null
    → claims_of who (take (i + 1) slots) ≡ claims_of who (take i slots)
claims_more_no who slots i h e = claims_more who slots i false h
    (ap not ((Decides-eqb (get_or slots i 0) fil_null).1 e)) ∙ append-nil (claims_of who (take i slots))

-- a page is claimed once, by itself or by one holder, exactly where its holder says so
pub record Holders (claims : List Claim) : Type 0 where
  pub some : AreHolders claims
  pub few : All (λ (c : Claim). c.who ≢ many_holders) claims

pub once_from_holder : (claims : List Claim) (n : ℕ) (system : Bool) → Holders claims
    → IsOnce system (held_after no_holder claims n) → one_if system + times_in (claimed_pages claims) n ≡ 1
once_from_holder claims n true h o = elim (cases_lt 0 (times_in (claimed_pages claims) n)) [
  | inr none ↦ omega (arith, none)
  | inl some ↦ elim (cases_lt 1 (times_in (claimed_pages claims) n)) [
    | inl two ↦ absurd (let e = held_two claims n h.some (omega arith) in let f = o.none refl in omega (arith, e, f))
    | inr one ↦ absurd (
        let r = held_one claims n (omega (arith, some, one)) in
        All-contains (λ (c : Claim). c.who ≢ no_holder) claims r.claim h.some r.among (sym r.who_is ∙ o.none refl))
  ]
]
once_from_holder claims n false h o = elim (cases_lt 0 (times_in (claimed_pages claims) n)) [
  | inr none ↦ absurd (o.some (λ e. true≢false (sym e)) (held_none claims no_holder n (omega (arith, none))))
  | inl some ↦ elim (cases_lt 1 (times_in (claimed_pages claims) n)) [
    | inl two ↦ absurd (o.few (λ e. true≢false (sym e)) (held_two claims n h.some (omega arith)))
    | inr one ↦ omega (arith, some, one)
  ]
]

pub holder_from_once : (claims : List Claim) (n : ℕ) (system : Bool) → Holders claims
    → one_if system + times_in (claimed_pages claims) n ≡ 1 → IsOnce system (held_after no_holder claims n)
holder_from_once claims n true h e = record {
  none = λ _. held_none claims no_holder n (omega (arith, e));
  some = λ
      d. absurd (d refl);
  few = λ d. absurd (d refl);
}
holder_from_once claims n false h e =
    let r = held_one claims n (omega (arith, e)) in
    record {
      none = λ d. absurd (true≢false (sym d));
      some = λ _ k. All-contains (λ (c : Claim). c.who ≢ no_holder) claims r.claim h.some r.among (sym r.who_is ∙ k);
      few = λ _ k. All-contains (λ (c : Claim). c.who ≢ many_holders) claims r.claim h.few r.among (sym r.who_is ∙ k);
    }
