-- Lists of pages are put one after another, where pages with one number are one page.
use Rattle.std.proofs.Common.{◌≡◌, ℕ, zero, suc, ◌+◌, ◌<◌, ◌≤◌, ◌++◌, List, [], ◌∷◌, Contains, ◌⊎◌, get_or}
use Rattle.std.proofs.Common.{Option, Some, None, IfSome, Err, sym, ap, ◌∙◌, subst, arith, inl, inr}
use Rattle.std.proofs.Common.{append_assoc, append-nil}
use Rattle.std.specs.FinMap.{get}
use Rattle.std.specs.List.{All, flat_map, range_with_len}
use Rattle.std.proofs.lemmas.Bool.Decides.{eqb_tells}
use Rattle.std.proofs.lemmas.List.Elements.{All-append, Contains-get_or, Contains-append_cases}
use Rattle.std.proofs.lemmas.List.Elements.{Contains-append_left, Contains-append_right}
use Rattle.page_source.specs.declared.objects.PageStore.{Ghosts as StoreOf}
use Rattle.page_source.specs.Objects.{PageMap}
use Rattle.page_source.proofs.Members.{contains_none, contains_here, contains_there, contains_cases}
use Rattle.offpage_chain.specs.Writing.{HoldsAllBut}
use Rattle.space_layout.specs.NumberedPages.{Numbered}
use Rattle.space_builder.specs.declared.built.PutStop.{PutStop}
use Rattle.space_builder.specs.build.Puts.{numbers_of, IsHeld, HaveOnePage, PutsPages}
use Rattle.space_builder.proofs.Puts.{ArePut, AreAmong, among_left, among_right, keeps_both}
use Rattle.space_builder.proofs.Puts.{stopped_behind}
use Rattle.space_builder.proofs.layout.Laid.{contains_flat, contains_image}

-- all of these pages are among the others
abbrev pub AreSome : List Numbered → List Numbered → Type 0
AreSome pages all = (page : Numbered) → Contains pages page → Contains all page

-- a page with this number
pub record HasPage (pages : List Numbered) (n : ℕ) : Type 0 where
  pub page : Numbered
  pub is : Contains pages page
  pub number : page.0 ≡ n

has_later : (x : Numbered) (pages : List Numbered) (n : ℕ) → HasPage pages n → HasPage (x ∷ pages) n
has_later x pages n has = record { page = has.page; is = contains_there x pages has.page has.is; number = has.number }

pub has_page : (pages : List Numbered) (n : ℕ) → Contains (numbers_of pages) n → HasPage pages n
has_page [] n among = absurd (contains_none n among)
has_page (x ∷ pages) n among =
    elim (contains_cases x.0 (numbers_of pages) n among) [
      | inl here ↦ record { page = x; is = contains_here x pages; number = here }
      | inr there ↦ has_later x pages n (has_page pages n there)
    ]

-- there is one, or none
find_page : (pages : List Numbered) (n : ℕ) → HasPage pages n ⊎ (¬ (Contains (numbers_of pages) n))
find_page [] n = inr (contains_none n)
find_page (x ∷ pages) n =
    elim (eqb_tells x.0 n) [
      | inl here ↦ inl record { page = x; is = contains_here x pages; number = here.1 }
      | inr differ ↦
          elim (find_page pages n) [
            | inl there ↦ inl (has_later x pages n there)
            | inr none ↦ inr (λ among. elim (contains_cases x.0 (numbers_of pages) n among) [
              | inl here ↦ differ.1 here
              | inr there ↦ none there
            ])
          ]
    ]

pub some_among : (pages all : List Numbered) → AreSome pages all → AreAmong (numbers_of pages) (numbers_of all)
some_among pages all some n among =
    let has = has_page pages n among in
    subst (Contains (numbers_of all)) has.number
    (contains_image (λ (entry : Numbered). entry.0) all has.page (some has.page has.is))

pub some_one : (pages all : List Numbered) → AreSome pages all → HaveOnePage all → HaveOnePage pages
some_one pages all some one a b first second same = one a b (some a first) (some b second) same

-- pages that are held stay held where others are put
stays_at : (pages others : List Numbered) (now new : PageMap) (entry : Numbered) → HaveOnePage (pages ++ others)
    → Contains pages entry → IsHeld now entry → All (IsHeld new) others
    → ((m : ℕ) → ¬ (Contains (numbers_of others) m) → get new m ≡ get now m) → IsHeld new entry
stays_at pages others now new entry one among held put kept =
    elim (find_page others entry.0) [
      | inl has ↦
          subst (IsHeld new)
          (sym (one entry has.page (Contains-append_left pages others entry among)
          (Contains-append_right pages others has.page has.is) (sym has.number)))
          (held_page has.page has.is)
      | inr none ↦ kept entry.0 none ∙ held
    ]
  where
    held_page : (page : Numbered) → Contains others page → IsHeld new page
    held_page page has = subst (IsHeld new) has.2 (put has.0 page has.1)

stay : (pages others : List Numbered) (now new : Option PageMap) → HaveOnePage (pages ++ others)
    → IfSome now (λ held. All (IsHeld held) pages) → IfSome new (λ held. All (IsHeld held) others)
    → HoldsAllBut (numbers_of others) now new → IfSome new (λ held. All (IsHeld held) (pages ++ others))
stay pages others None new one held put kept =
    subst (λ (o : Option PageMap). IfSome o (λ held. All (IsHeld held) (pages ++ others))) (sym kept) tt
stay pages others (Some now) new one held put kept =
    subst (λ (o : Option PageMap). IfSome o (λ held. All (IsHeld held) (pages ++ others))) (sym kept.1)
    (All-append (IsHeld kept.0) pages others
    (λ k d below. stays_at pages others now kept.0 (get_or pages k d) one (Contains-get_or pages k d below)
    (held k d below) here kept.2)
    here)
  where
    here : All (IsHeld kept.0) others
    here = subst (λ (o : Option PageMap). IfSome o (λ held. All (IsHeld held) others)) kept.1 put

pub both_put_one : {T : Type 0} (g : StoreOf T) (old now new : T) (pages others : List Numbered)
    → HaveOnePage (pages ++ others) → ArePut g old now pages → ArePut g now new others
    → ArePut g old new (pages ++ others)
both_put_one g old now new pages others one first second = record {
  held = stay pages others (g.told now).held (g.told new).held one first.held second.held second.others.others;
  others = keeps_both (numbers_of pages) (numbers_of others) (numbers_of (pages ++ others)) (g.told old) (g.told now)
      (g.told new) (among_left pages others) (among_right pages others) first.others second.others;
  later = omega (arith, first.later, second.later);
}

-- lists one after another
flat_from : {A : Type 0} (f : ℕ → List A) (from count : ℕ)
    → flat_map f (range_with_len from (suc count)) ≡ flat_map f (range_with_len from count) ++ f (from + count)
flat_from f from zero =
    let e : from ≡ from + 0 = omega arith in
    append-nil (f from) ∙ ap f e
flat_from f from (suc count) =
    let e : from + 1 + count ≡ from + suc count = omega arith in
    ap (λ xs. f from ++ xs) (flat_from f (from + 1) count)
    ∙ ap (λ i. f from ++ (flat_map f (range_with_len (from + 1) count) ++ f i)) e
    ∙ sym (append_assoc (f from) (flat_map f (range_with_len (from + 1) count)) (f (from + suc count)))

pub flat_more : {A : Type 0} (f : ℕ → List A) (r : ℕ)
    → flat_map f (range_with_len 0 (r + 1)) ≡ flat_map f (range_with_len 0 r) ++ f r
flat_more f r =
    let more : r + 1 ≡ suc r = omega arith in
    let last : 0 + r ≡ r = omega arith in
    ap (λ n. flat_map f (range_with_len 0 n)) more ∙ flat_from f 0 r
    ∙ ap (λ i. flat_map f (range_with_len 0 r) ++ f i) last

-- a member of one of them
pub record IsIn {A : Type 0} (f : ℕ → List A) (from count : ℕ) (x : A) : Type 0 where
  pub i : ℕ
  pub low : from ≤ i
  pub high : i < from + count
  pub is : Contains (f i) x

pub is_in : {A : Type 0} (f : ℕ → List A) (from count : ℕ) (x : A)
    → Contains (flat_map f (range_with_len from count)) x → IsIn f from count x
is_in f from zero x among = absurd (contains_none x among)
is_in f from (suc count) x among =
    elim (Contains-append_cases (f from) (flat_map f (range_with_len (from + 1) count)) x among) [
      | inl here ↦ record { i = from; low = omega arith; high = omega arith; is = here }
      | inr there ↦
          let later = is_in f (from + 1) count x there in
          let low = later.low in
          let high = later.high in
          record { i = later.i; low = omega arith; high = omega arith; is = later.is }
    ]

-- the lists of a loop, the first of which are put
module _ {T : Type 0} (g : StoreOf T) (f : ℕ → List Numbered) (count : ℕ) where
  abbrev pub first_ones : ℕ → List Numbered
  first_ones r = flat_map f (range_with_len 0 r)

  some_first : (r : ℕ) → r ≤ count → AreSome (first_ones r) (first_ones count)
  some_first r inside page among =
      let there = is_in f 0 r page among in
      let high = there.high in
      contains_flat f count there.i page (omega arith) there.is

  pub some_next : (r : ℕ) → r < count → AreSome (f r) (first_ones count)
  some_next r inside page among = contains_flat f count r page inside among

  pub next_put : HaveOnePage (first_ones count) → (old now new : T) (r : ℕ) → r < count
      → ArePut g old now (first_ones r)
      → ArePut g now new (f r) → ArePut g old new (first_ones (r + 1))
  next_put one old now new r inside before put =
      let more = flat_more f r in
      subst (ArePut g old new) (sym more)
      (both_put_one g old now new (first_ones r) (f r)
      (subst HaveOnePage more
      (some_one (first_ones (r + 1)) (first_ones count) (some_first (r + 1) (omega arith)) one))
      before put)

  pub next_failed : {A B : Type 0} (old now new : T) (r : ℕ) (stop : PutStop) → r < count
      → ArePut g old now (first_ones r) → PutsPages {A = A} g now new (f r) (Err stop)
      → PutsPages {A = B} g old new (first_ones count) (Err stop)
  next_failed old now new r stop inside before failed =
      stopped_behind g old now new (first_ones r) (f r) (first_ones count) stop
      (some_among (first_ones r) (first_ones count) (some_first r (omega arith)))
      (some_among (f r) (first_ones count) (some_next r inside)) before failed
