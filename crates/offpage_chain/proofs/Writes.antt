-- The parts of a value are put one after another, each on its page.
use Rattle.std.proofs.Common.{◌≡◌, ℕ, ◌+◌, ◌*◌, ◌-◌, ◌<◌, ◌≤◌, ◌++◌, List, length, drop}
use Rattle.std.proofs.Common.{Option, Some, None, IfSome, Result, Ok, Err, IsErr, Contains, cond}
use Rattle.std.proofs.Common.{slice_index}
use Rattle.std.proofs.Common.{refl, sym, ap, ◌∙◌, subst, arith, inl, inr}
use Rattle.std.specs.FinMap.{get, insert}
use Rattle.std.proofs.lemmas.Bool.{false≢true, ne_eqb, eq-eqb, cases_lt}
use Rattle.std.proofs.lemmas.List.{length-take}
use Rattle.std.proofs.lemmas.List.Elements.{Contains-get_or}
use Rattle.std.proofs.lemmas.Option.{same_Some}
use Rattle.page_source.specs.Pages.{be_bytes, with_bytes}
use Rattle.page_source.specs.declared.objects.PageStore.{Ghosts as StoreOf}
use Rattle.page_source.specs.Faults.{Rose}
use Rattle.page_source.specs.Lists.{AreDistinct}
use Rattle.page_source.specs.Objects.{PageMap, KeepsSizes, HoldsPage, HoldsOthers}
use Rattle.page_source.proofs.Told.{if_told}
use Rattle.page_source.proofs.Slots.{get-insert_at}
use Rattle.page_source.proofs.Written.{with_bytes-next}
use Rattle.offpage_chain.specs.ValuePage.{blob_part, part_body, value_page}
use Rattle.offpage_chain.specs.Writing.{HoldsParts, HoldsAllBut, KeepsAllBut, WritesValue}

-- the length, the next number and the part, written one behind another
pub part_written : (page first second third part : List ℕ) (next : ℕ) → length page ≡ 16384
    → first ≡ with_bytes page 38 (be_bytes 4 (length part)) → second ≡ with_bytes first 42 (be_bytes 4 next)
    → third ≡ with_bytes second 46 part → third ≡ with_bytes page 38 (part_body part next)
part_written page first second third part next size one two three =
    let a = be_bytes 4 (length part) in
    let b = be_bytes 4 next in
    let both : second ≡ with_bytes page 38 (a ++ b) =
    two ∙ ap (λ (p : List ℕ). with_bytes p 42 b) one ∙ with_bytes-next page 38 42 a b refl (omega arith) in
    three ∙ ap (λ (p : List ℕ). with_bytes p 46 part) both
    ∙ with_bytes-next page 38 46 (a ++ b) part refl (omega arith)

-- a part isn't longer than a page holds
pub part_short : (bytes : List ℕ) (k : ℕ) → length (blob_part bytes k) ≤ 16330
part_short bytes k = omega (arith, length-take (16330 * k + 16330 - 16330 * k) (drop (16330 * k) bytes))

abbrev IsNone : Option PageMap → Type 0
IsNone None = Unit {0}
IsNone (Some x) = ⊥

-- nothing was put yet
pub others_none : (numbers : List ℕ) (old : Option PageMap) → HoldsAllBut numbers old old
others_none numbers None = refl
others_none numbers (Some old) = (old, refl, λ m other. refl)

-- what is held elsewhere stays where nothing is said of one more page
others_lost : (numbers : List ℕ) (old now new : Option PageMap) (n : ℕ) → Contains numbers n
    → HoldsAllBut numbers old now → HoldsOthers now new n → HoldsAllBut numbers old new
others_lost numbers None None new n among kept lost = lost
others_lost numbers None (Some now) new n among kept lost = absurd (subst IsNone (sym kept) tt)
others_lost numbers (Some old) None new n among kept lost = absurd (subst IsNone kept.1 tt)
others_lost numbers (Some old) (Some now) new n among kept lost = (
  lost.0,
  lost.1,
  λ m other. lost.2 m (λ e. other (subst (λ (x : ℕ). Contains numbers x) (sym e) among))
      ∙ ap (λ (map : PageMap). get map m) (same_Some now kept.0 kept.1) ∙ kept.2 m other,
)

-- a page that was put leaves the others
put_others : (now new : Option PageMap) (n : ℕ) (page : List ℕ) → HoldsPage now new n page → HoldsOthers now new n
put_others None new n page put = put
put_others (Some now) new n page put = (
  insert now n page,
  put,
  λ m other. get-insert_at now n page m ∙ ap (λ b. cond b (Some page) (get now m)) (ne_eqb m n other),
)

-- the parts that are held, after one more was put
parts_put : (space : ℕ) (numbers bytes : List ℕ) (k : ℕ) (now new : Option PageMap) (page : List ℕ)
    → AreDistinct numbers → k < length numbers → page ≡ value_page space numbers bytes k
    → IfSome now (λ held. HoldsParts held space numbers bytes k) → HoldsPage now new (slice_index numbers k) page
    → IfSome new (λ held. HoldsParts held space numbers bytes (k + 1))
parts_put space numbers bytes k None new page distinct inside is held put =
    subst (λ (o : Option PageMap). IfSome o (λ held. HoldsParts held space numbers bytes (k + 1))) (sym put) tt
parts_put space numbers bytes k (Some now) new page distinct inside is held put =
    subst (λ (o : Option PageMap). IfSome o (λ held. HoldsParts held space numbers bytes (k + 1))) (sym put) parts
  where
    parts : HoldsParts (insert now (slice_index numbers k) page) space numbers bytes (k + 1)
    parts i below = get-insert_at now (slice_index numbers k) page (slice_index numbers i)
        ∙ elim (cases_lt i k) [
          | inl before ↦ ap (λ b. cond b (Some page) (get now (slice_index numbers i)))
              (ne_eqb (slice_index numbers i) (slice_index numbers k) (distinct i k 0 before inside)) ∙ held i before
          | inr last ↦
              let same : i ≡ k = omega arith in
              ap (λ b. cond b (Some page) (get now (slice_index numbers i)))
              (eq-eqb (slice_index numbers i) (slice_index numbers k) (ap (slice_index numbers) same))
              ∙ ap Some (is ∙ ap (value_page space numbers bytes) (sym same))
        ]

-- after part k of the bytes was put
pub record ArePut {T : Type 0} (g : StoreOf T) (old now : T) (space : ℕ) (numbers bytes : List ℕ) (k : ℕ)
    : Type 0 where
  pub held : IfSome (g.told now).held (λ held. HoldsParts held space numbers bytes k)
  pub others : KeepsAllBut numbers (g.told old) (g.told now)
  pub later : g.faults old ≤ g.faults now

pub none_put : {T : Type 0} (g : StoreOf T) (old : T) (space : ℕ) (numbers bytes : List ℕ)
    → ArePut g old old space numbers bytes 0
none_put g old space numbers bytes = record {
  held = if_told (g.told old).held (λ held k below. absurd (omega (arith, below)));
  others = record {
    sizes = record { size = refl; asked = refl };
    others = others_none numbers (g.told old).held;
  };
  later = omega arith;
}

pub one_put : {T : Type 0} (g : StoreOf T) (old now new : T) (space : ℕ) (numbers bytes : List ℕ) (k : ℕ)
    (page : List ℕ) → AreDistinct numbers → k < length numbers → page ≡ value_page space numbers bytes k
    → ArePut g old now space numbers bytes k → KeepsSizes (g.told now) (g.told new)
    → HoldsPage (g.told now).held (g.told new).held (slice_index numbers k) page → g.faults now ≤ g.faults new
    → ArePut g old new space numbers bytes (k + 1)
one_put g old now new space numbers bytes k page distinct inside is before sizes put later = record {
  held = parts_put space numbers bytes k (g.told now).held (g.told new).held page distinct inside is before.held put;
  others = record {
    sizes = record {
      size = sizes.size ∙ before.others.sizes.size;
      asked = sizes.asked ∙ before.others.sizes.asked;
    };
    others = others_lost numbers (g.told old).held (g.told now).held (g.told new).held (slice_index numbers k)
        (Contains-get_or numbers k 0 inside) before.others.others
        (put_others (g.told now).held (g.told new).held (slice_index numbers k) page put);
  };
  later = omega (arith, before.later);
}

pub put_failed : {T E : Type 0} (g : StoreOf T) (old now new : T) (space : ℕ) (numbers bytes : List ℕ) (k : ℕ)
    (result : Result (Unit {0}) E) → IsErr result → k < length numbers
    → ArePut g old now space numbers bytes k → KeepsSizes (g.told now) (g.told new)
    → HoldsOthers (g.told now).held (g.told new).held (slice_index numbers k) → g.faults now ≤ g.faults new
    → Rose (g.faults now) (g.faults new) → WritesValue g old new space numbers bytes result
put_failed g old now new space numbers bytes k (Ok u) failed inside before sizes lost later rose =
    absurd (false≢true failed)
put_failed g old now new space numbers bytes k (Err e) failed inside before sizes lost later rose = record {
  held = tt;
  others = record {
    sizes = record {
      size = sizes.size ∙ before.others.sizes.size;
      asked = sizes.asked ∙ before.others.sizes.asked;
    };
    others = others_lost numbers (g.told old).held (g.told now).held (g.told new).held (slice_index numbers k)
        (Contains-get_or numbers k 0 inside) before.others.others lost;
  };
  cause = record { later = omega (arith, before.later); failed = omega (arith, before.later, rose) };
}
