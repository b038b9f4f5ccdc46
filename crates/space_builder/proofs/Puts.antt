-- Pages are put into a store: none, one, a list behind a list, and a part of a list where putting stopped.
use Rattle.std.proofs.Common.{◌≡◌, ◌≢◌, ℕ, ◌≤◌, ◌++◌, List, [], ◌∷◌, cond, get_or, Contains}
use Rattle.std.proofs.Common.{Option, Some, None, IfSome, Result, Ok, Err, IsErrAnd}
use Rattle.std.proofs.Common.{refl, sym, ap, ◌∙◌, subst, arith}
use Rattle.std.specs.FinMap.{get, insert}
use Rattle.std.specs.List.{All}
use Rattle.std.proofs.lemmas.Bool.{ne_eqb, eq-eqb}
use Rattle.std.proofs.lemmas.List.{map-append}
use Rattle.std.proofs.lemmas.Result.{err_from_is_err_and}
use Rattle.std.proofs.lemmas.List.Elements.{All-nil, All-cons, All-append, Contains-get_or}
use Rattle.std.proofs.lemmas.List.Elements.{Contains-append_left, Contains-append_right}
use Rattle.std.proofs.lemmas.Option.{same_Some}
use Rattle.page_source.specs.declared.objects.PageStore.{Ghosts as StoreOf}
use Rattle.page_source.specs.Faults.{Rose}
use Rattle.page_source.specs.Objects.{PageMap, Store, KeepsSizes, HoldsPage, HoldsOthers}
use Rattle.page_source.proofs.Members.{contains_here}
use Rattle.page_source.proofs.Slots.{get-insert_at}
use Rattle.offpage_chain.specs.Writing.{HoldsAllBut, KeepsAllBut}
use Rattle.offpage_chain.proofs.Writes.{others_none}
use Rattle.space_layout.specs.NumberedPages.{Numbered}
use Rattle.space_builder.specs.declared.built.PutStop.{PutStop}
use Rattle.space_builder.specs.declared.built.PutStop.TheVariants as stops
use Rattle.space_builder.specs.build.Puts.{numbers_of, IsHeld, PutsPages}
use Rattle.space_builder.proofs.layout.Laid.{contains_image}

-- all of these pages were put, and nothing else changed
pub record ArePut {T : Type 0} (g : StoreOf T) (old now : T) (pages : List Numbered) : Type 0 where
  pub held : IfSome (g.told now).held (λ held. All (IsHeld held) pages)
  pub others : KeepsAllBut (numbers_of pages) (g.told old) (g.told now)
  pub later : g.faults old ≤ g.faults now

-- none of these pages has a number of the others
abbrev pub HaveOtherNumbers : List Numbered → List Numbered → Type 0
HaveOtherNumbers pages others = (n : ℕ) → Contains (numbers_of pages) n → ¬ (Contains (numbers_of others) n)

-- each of these numbers is one of the others
abbrev pub AreAmong : List ℕ → List ℕ → Type 0
AreAmong numbers others = (n : ℕ) → Contains numbers n → Contains others n

abbrev IsNone : Option PageMap → Type 0
IsNone None = Unit {0}
IsNone (Some x) = ⊥

-- numbers

pub among_left : (pages others : List Numbered) → AreAmong (numbers_of pages) (numbers_of (pages ++ others))
among_left pages others n has =
    subst (λ numbers. Contains numbers n) (sym (map-append (λ (entry : Numbered). entry.0) pages others))
    (Contains-append_left (numbers_of pages) (numbers_of others) n has)

pub among_right : (pages others : List Numbered) → AreAmong (numbers_of others) (numbers_of (pages ++ others))
among_right pages others n has =
    subst (λ numbers. Contains numbers n) (sym (map-append (λ (entry : Numbered). entry.0) pages others))
    (Contains-append_right (numbers_of pages) (numbers_of others) n has)

-- what stays

pub keeps_same : (numbers : List ℕ) (old : Store) → KeepsAllBut numbers old old
keeps_same numbers old = record {
  sizes = record { size = refl; asked = refl };
  others = others_none numbers old.held;
}

holds_both : (first second numbers : List ℕ) (old now new : Option PageMap) → AreAmong first numbers
    → AreAmong second numbers → HoldsAllBut first old now → HoldsAllBut second now new → HoldsAllBut numbers old new
holds_both first second numbers None None new in_first in_second kept more = more
holds_both first second numbers None (Some now) new in_first in_second kept more = absurd (subst IsNone (sym kept) tt)
holds_both first second numbers (Some old) None new in_first in_second kept more = absurd (subst IsNone kept.1 tt)
holds_both first second numbers (Some old) (Some now) new in_first in_second kept more = (
  more.0,
  more.1,
  λ m other. more.2 m (λ has. other (in_second m has))
      ∙ ap (λ (map : PageMap). get map m) (same_Some now kept.0 kept.1) ∙ kept.2 m (λ has. other (in_first m has)),
)

-- two steps, each of which keeps all but some of these numbers
pub keeps_both : (first second numbers : List ℕ) (old now new : Store) → AreAmong first numbers
    → AreAmong second numbers → KeepsAllBut first old now → KeepsAllBut second now new → KeepsAllBut numbers old new
keeps_both first second numbers old now new in_first in_second kept more = record {
  sizes = record {
    size = more.sizes.size ∙ kept.sizes.size;
    asked = more.sizes.asked ∙ kept.sizes.asked;
  };
  others = holds_both first second numbers old.held now.held new.held in_first in_second kept.others more.others;
}

-- more numbers
pub keeps_wider : (numbers others : List ℕ) (old new : Store) → AreAmong numbers others → KeepsAllBut numbers old new
    → KeepsAllBut others old new
keeps_wider numbers others old new among kept =
    keeps_both numbers others others old new new among (λ n has. has) kept (keeps_same others new)

-- the pages that are held stay held where only others change
kept_held : (pages : List Numbered) (others : List ℕ) (now new : Option PageMap)
    → ((n : ℕ) → Contains (numbers_of pages) n → ¬ (Contains others n)) → IfSome now (λ held. All (IsHeld held) pages)
    → HoldsAllBut others now new → IfSome new (λ held. All (IsHeld held) pages)
kept_held pages others None new differ held kept =
    subst (λ (o : Option PageMap). IfSome o (λ held. All (IsHeld held) pages)) (sym kept) tt
kept_held pages others (Some now) new differ held kept =
    subst (λ (o : Option PageMap). IfSome o (λ held. All (IsHeld held) pages)) (sym kept.1) all
  where
    all : All (IsHeld kept.0) pages
    all k d below =
        kept.2 (get_or pages k d).0 (differ (get_or pages k d).0
        (contains_image (λ (entry : Numbered). entry.0) pages (get_or pages k d) (Contains-get_or pages k d below)))
        ∙ held k d below

both_held : (pages others : List Numbered) (held : Option PageMap) → IfSome held (λ held. All (IsHeld held) pages)
    → IfSome held (λ held. All (IsHeld held) others) → IfSome held (λ held. All (IsHeld held) (pages ++ others))
both_held pages others None first second = tt
both_held pages others (Some held) first second = All-append (IsHeld held) pages others first second

-- one page

abbrev one_number : ℕ → List ℕ
one_number n = n ∷ []

not_it : (n m : ℕ) → ¬ (Contains (one_number n) m) → m ≢ n
not_it n m other same = other (subst (Contains (one_number n)) (sym same) (contains_here n []))

put_others : (now new : Option PageMap) (n : ℕ) (page : List ℕ) → HoldsPage now new n page
    → HoldsAllBut (one_number n) now new
put_others None new n page put = put
put_others (Some now) new n page put = (
  insert now n page,
  put,
  λ m other. get-insert_at now n page m ∙ ap (λ b. cond b (Some page) (get now m)) (ne_eqb m n (not_it n m other)),
)

lost_others : (now new : Option PageMap) (n : ℕ) → HoldsOthers now new n → HoldsAllBut (one_number n) now new
lost_others None new n lost = lost
lost_others (Some now) new n lost = (lost.0, lost.1, λ m other. lost.2 m (not_it n m other))

one_held : (now new : Option PageMap) (n : ℕ) (page : List ℕ) → HoldsPage now new n page
    → IfSome new (λ held. All (IsHeld held) ((n, page) ∷ []))
one_held None new n page put =
    subst (λ (o : Option PageMap). IfSome o (λ held. All (IsHeld held) ((n, page) ∷ []))) (sym put) tt
one_held (Some now) new n page put =
    subst (λ (o : Option PageMap). IfSome o (λ held. All (IsHeld held) ((n, page) ∷ []))) (sym put)
    (All-cons (IsHeld (insert now n page)) (n, page) []
    (get-insert_at now n page n ∙ ap (λ b. cond b (Some page) (get now n)) (eq-eqb n n refl))
    (All-nil (IsHeld (insert now n page))))

-- results

abbrev IsOkay : {A : Type 0} → Result A PutStop → Type 0
IsOkay (Ok a) = Unit {0}
IsOkay (Err stop) = ⊥

abbrev stop_of : {A : Type 0} → Result A PutStop → PutStop
stop_of (Ok a) = stops.Memory
stop_of (Err stop) = stop

same_stop : {A : Type 0} {first second : Result A PutStop} → first ≡ second → stop_of first ≡ stop_of second
same_stop same = ap stop_of same

abbrev err_of : (A : Type 0) → PutStop → Result A PutStop
err_of A stop = Err stop

abbrev IsMemory : PutStop → Type 0
IsMemory stops.Memory = Unit {0}
IsMemory stops.Store = ⊥

rose_later : (old now new : ℕ) → old ≤ now → Rose now new → Rose old new
rose_later old now new later rose = omega (arith, later, rose)

-- lists of pages

-- none
pub none_put : {T : Type 0} (g : StoreOf T) (old : T) → ArePut g old old []
none_put g old = record {
  held = nothing_held (g.told old).held;
  others = keeps_same [] (g.told old);
  later = omega arith;
}
  where
    nothing_held : (held : Option PageMap) → IfSome held (λ held. All (IsHeld held) [])
    nothing_held None = tt
    nothing_held (Some held) = All-nil (IsHeld held)

-- one page, and a page that couldn't be put
pub one_put : {T : Type 0} (g : StoreOf T) (old new : T) (n : ℕ) (page : List ℕ)
    → KeepsSizes (g.told old) (g.told new) → HoldsPage (g.told old).held (g.told new).held n page
    → g.faults old ≤ g.faults new → ArePut g old new ((n, page) ∷ [])
one_put g old new n page sizes put later = record {
  held = one_held (g.told old).held (g.told new).held n page put;
  others = record { sizes = sizes; others = put_others (g.told old).held (g.told new).held n page put };
  later = later;
}

pub one_failed : {T A : Type 0} (g : StoreOf T) (old new : T) (n : ℕ) (page : List ℕ)
    → KeepsSizes (g.told old) (g.told new) → HoldsOthers (g.told old).held (g.told new).held n
    → g.faults old ≤ g.faults new → Rose (g.faults old) (g.faults new)
    → PutsPages {A = A} g old new ((n, page) ∷ []) (Err stops.Store)
one_failed g old new n page sizes lost later rose = record {
  held = tt;
  others = record { sizes = sizes; others = lost_others (g.told old).held (g.told new).held n lost };
  later = later;
  store_rose = λ is. rose;
}

-- pages behind others
pub both_put : {T : Type 0} (g : StoreOf T) (old now new : T) (pages others : List Numbered)
    → HaveOtherNumbers pages others → ArePut g old now pages → ArePut g now new others
    → ArePut g old new (pages ++ others)
both_put g old now new pages others differ first second = record {
  held = both_held pages others (g.told new).held
      (kept_held pages (numbers_of others) (g.told now).held (g.told new).held differ first.held second.others.others)
      second.held;
  others = keeps_both (numbers_of pages) (numbers_of others) (numbers_of (pages ++ others)) (g.told old) (g.told now)
      (g.told new) (among_left pages others) (among_right pages others) first.others second.others;
  later = omega (arith, first.later, second.later);
}

-- memory ran out before any was put
pub nothing_put : {T A : Type 0} (g : StoreOf T) (old : T) (all : List Numbered)
    → PutsPages {A = A} g old old all (Err stops.Memory)
nothing_put g old all = record {
  held = tt;
  others = keeps_same (numbers_of all) (g.told old);
  later = omega arith;
  store_rose = λ is. absurd (subst IsMemory (same_stop is) tt);
}

-- an answer that is this failure
pub failed_as : {T A : Type 0} (g : StoreOf T) (old new : T) (pages : List Numbered) (result : Result A PutStop)
    (stop : PutStop) → IsErrAnd result (λ found. found ≡ stop) → PutsPages {A = A} g old new pages (Err stop)
    → PutsPages g old new pages result
failed_as {A = A} g old new pages result stop is puts =
    let r = err_from_is_err_and result is in
    subst (PutsPages g old new pages) (sym (r.1 ∙ ap (err_of A) r.2)) puts

-- all pages were put
pub puts_all : {T A : Type 0} (g : StoreOf T) (old new : T) (pages : List Numbered) (a : A) → ArePut g old new pages
    → PutsPages g old new pages (Ok a)
puts_all g old new pages a put = record {
  held = put.held;
  others = put.others;
  later = put.later;
  store_rose = λ is. absurd (subst IsOkay is tt);
}

pub all_put : {T A : Type 0} (g : StoreOf T) (old new : T) (pages : List Numbered) (a : A)
    → PutsPages g old new pages (Ok a) → ArePut g old new pages
all_put g old new pages a puts = record { held = puts.held; others = puts.others; later = puts.later }

-- memory ran out behind some pages
pub memory_behind : {T A : Type 0} (g : StoreOf T) (old now : T) (pages all : List Numbered)
    → AreAmong (numbers_of pages) (numbers_of all) → ArePut g old now pages
    → PutsPages {A = A} g old now all (Err stops.Memory)
memory_behind g old now pages all among put = record {
  held = tt;
  others = keeps_wider (numbers_of pages) (numbers_of all) (g.told old) (g.told now) among put.others;
  later = put.later;
  store_rose = λ is. absurd (subst IsMemory (same_stop is) tt);
}

-- putting stopped within the pages behind some others
pub stopped_behind : {T A B : Type 0} (g : StoreOf T) (old now new : T) (pages others all : List Numbered)
    (stop : PutStop) → AreAmong (numbers_of pages) (numbers_of all) → AreAmong (numbers_of others) (numbers_of all)
    → ArePut g old now pages → PutsPages {A = A} g now new others (Err stop)
    → PutsPages {A = B} g old new all (Err stop)
stopped_behind {A = A} g old now new pages others all stop in_pages in_others first second = record {
  held = tt;
  others = keeps_both (numbers_of pages) (numbers_of others) (numbers_of all) (g.told old) (g.told now) (g.told new)
      in_pages in_others first.others second.others;
  later = omega (arith, first.later, second.later);
  store_rose = λ is. rose_later (g.faults old) (g.faults now) (g.faults new) first.later
      (second.store_rose (ap (err_of A) (same_stop is)));
}
