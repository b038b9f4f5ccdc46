-- The child of a page that the way goes on to, by the number of its node pointer.
use Rattle.std.proofs.Common.{◌≡◌, ◌⊎◌, ℕ, zero, suc, ◌+◌, ◌-◌, ◌==◌, ◌<◌, Bool, true, false, not, cond, ◌&&◌, List, []}
use Rattle.std.proofs.Common.{◌∷◌, length, get_or, drop, filter, Option, Some, None, inl, inr, refl, ap, ◌∙◌, subst}
use Rattle.std.proofs.Common.{arith}
use Rattle.std.proofs.Common.{add-one}
use Rattle.std.proofs.Math.Seq.{drop-cons}
use Rattle.std.proofs.lemmas.Bool.{cases_lt, ne_eqb, lt-ltb, le-ltb}
use Rattle.std.proofs.lemmas.List.{length-map, get_or-map, get_or_default, drop_all}
use Rattle.std.specs.Ordering.{is_gt}
use Rattle.page_source.specs.declared.rule.Rule.TheVariants.{ChildPlace}
use Rattle.page_source.specs.declared.rule.Fault.{Fault}
use Rattle.column_values.specs.Types.{Fields}
use Rattle.column_values.specs.Order.{Key, key_cmp}
use Rattle.compact_record.specs.Keys.{child_at}
use Rattle.compact_record.specs.Reading.{key_of, key_kinds}
use Rattle.index_page.specs.Header.{records_of, record_count}
use Rattle.tree_walk.specs.declared.cursor.Next.{Next}
use Rattle.tree_walk.specs.declared.walk.Walk.{Walk}
use Rattle.tree_walk.specs.Index.{Index, Row, page_in, rows_on, child_of, key_in, no_row}
use Rattle.tree_walk.specs.Place.{Spot}
use Rattle.tree_walk.specs.Records.{held_key}
use Rattle.tree_walk.specs.Descent.{Bounded, key_after, bounds, kids}
use Rattle.tree_walk.proofs.Records.{length-records}
use Rattle.key_lookup.specs.declared.choose.Chosen.{Chosen}
use Rattle.key_lookup.specs.declared.way.Due.{Due}
use Rattle.key_lookup.specs.Path.{is_up_to, page_for, next_down, way}
use Rattle.key_lookup.specs.Choice.{IsLast}
use Rattle.key_lookup.specs.Way.{IsDue, high_held, high_behind}
use Rattle.key_lookup.proofs.Lists.{filter_none, last_or, last_cons}

-- the last member that passes
filter_last : {X : Type 0} (p : X → Bool) (xs : List X) (k : ℕ) (d e : X) → k < length xs → p (get_or xs k d) ≡ true
    → ((j : ℕ) → k < j → j < length xs → p (get_or xs j d) ≡ false) → last_or (filter p xs) e ≡ get_or xs k d
filter_last p [] k d e within up later = absurd (omega arith)
filter_last p (x ∷ xs) zero d e within up later =
    let none = filter_none p xs
    (λ j c m. ap p (get_or_default xs j c d m) ∙ later (suc j) (omega arith) (omega arith)) in
    rw (up, none) refl
filter_last p (x ∷ xs) (suc k) d e within up later =
    let rest = λ (f : _). filter_last p xs k d f (omega arith) up
    (λ j less m. later (suc j) (omega arith) (omega arith))
    in
    by_test p x xs e (p x) refl (rest x) (rest e)
  where
    by_test : {X : Type 0} {y : X} (p : X → Bool) (x : X) (xs : List X) (e : X) (b : Bool) → p x ≡ b
        → last_or (filter p xs) x ≡ y → last_or (filter p xs) e ≡ y → last_or (filter p (x ∷ xs)) e ≡ y
    by_test p x xs e true is one two = rw is (last_cons x (filter p xs) e ∙ one)
    by_test p x xs e false is one two = rw is two

-- the choice by numbers
choice_is : (index : Index) (key : Key) (none : Bounded) (bs : List Bounded) (k : ℕ) (d : Bounded) → k < length bs
    → (k ≡ 0) ⊎ (is_up_to index key (get_or bs k d).low ≡ true)
    → ((j : ℕ) → k < j → j < length bs → is_up_to index key (get_or bs j d).low ≡ false)
    → page_for index key none bs ≡ get_or bs k d
choice_is index key none [] k d within up later = absurd (omega arith)
choice_is index key none (b ∷ bs) zero d within up later =
    let closed = filter_none (λ (c : Bounded). is_up_to index key c.low) bs
    (λ j c m. ap (λ (x : Bounded). is_up_to index key x.low) (get_or_default bs j c d m)
    ∙ later (suc j) (omega arith) (omega arith)) in
    rw closed refl
choice_is index key none (b ∷ bs) (suc k) d within (inl e) later = absurd (omega arith)
choice_is index key none (b ∷ bs) (suc k) d within (inr up) later =
    filter_last (λ (c : Bounded). is_up_to index key c.low) bs k d b (omega arith) up
    (λ j less m. later (suc j) (omega arith) (omega arith))

-- whether child k is leftmost
abbrev left_at : Bool → ℕ → Bool
left_at leftmost zero = leftmost
left_at leftmost (suc k) = false

left_none : (k : ℕ) → left_at false k ≡ false
left_none zero = refl
left_none (suc k) = refl

and_true : (b : Bool) → b ≡ (b && true)
and_true true = refl
and_true false = refl

and_false : (b : Bool) → false ≡ (b && false)
and_false true = refl
and_false false = refl

left_is : (leftmost : Bool) (k : ℕ) → left_at leftmost k ≡ (leftmost && (k == 0))
left_is leftmost zero = and_true leftmost
left_is leftmost (suc k) = let e = ne_eqb (suc k) 0 (λ q. omega arith) in rw e (and_false leftmost)

-- child k of a page with these node pointers
abbrev kid_of : Index → Bool → List Row → Option Key → ℕ → Bounded
kid_of index leftmost ps high k = record {
  page = child_of index (get_or ps k no_row);
  low = cond (left_at leftmost k) None (Some (key_in index (get_or ps k no_row)));
  high = key_after index (drop (suc k) ps) high;
  leftmost = left_at leftmost k;
}

bounds_at : (index : Index) (leftmost : Bool) (ps : List Row) (high : Option Key) (k : ℕ) (d : Bounded)
    → k < length ps → get_or (bounds index leftmost ps high) k d ≡ kid_of index leftmost ps high k
bounds_at index leftmost [] high k d within = absurd (omega arith)
bounds_at index leftmost (p ∷ ps) high zero d within = refl
bounds_at index leftmost (p ∷ ps) high (suc k) d within =
    bounds_at index false ps high k d (omega arith) ∙ (rw left_none refl)

pub bounds_count : (index : Index) (leftmost : Bool) (ps : List Row) (high : Option Key)
    → length (bounds index leftmost ps high) ≡ length ps
bounds_count index leftmost [] high = refl
bounds_count index leftmost (p ∷ ps) high = ap suc (bounds_count index false ps high)

module _ (index : Index) (key : Key) (b : Bounded) (chosen : Chosen)
    (last : IsLast (page_in index b.page) index.node key chosen (record_count (page_in index b.page))) where
  abbrev page : List ℕ
  page = page_in index b.page

  abbrev rows : List Row
  rows = rows_on index b.page

  row_is : (k : ℕ) → k < record_count page
      → get_or rows k no_row ≡ record { page = b.page; origin = get_or (records_of page) k 0 }
  row_is k within =
      let count = length-records page in
      get_or-map (λ origin. record { page = b.page; origin = origin }) (records_of page) k 0 no_row (omega arith)

  rows_count : length rows ≡ record_count page
  rows_count = length-map (records_of page) (λ origin. record { page = b.page; origin = origin }) ∙ length-records page

  key_is : (k : ℕ) → k < record_count page
      → key_in index (get_or rows k no_row) ≡ key_of page (get_or (records_of page) k 0) index.node
  unfolding key_in
  key_is k within = ap (λ (r : Row). key_of (page_in index r.page) r.origin index.node) (row_is k within)

  page_is : (k : ℕ) → k < record_count page
      → child_of index (get_or rows k no_row) ≡ child_at page index.node (get_or (records_of page) k 0)
  unfolding child_of
  page_is k within = ap (λ (r : Row). child_at (page_in index r.page) index.node r.origin) (row_is k within)

  -- the separator of a child behind the first one
  low_at : (j : ℕ) → 0 < j → j < record_count page → (get_or (kids index b) j b).low
      ≡ Some (key_of page (get_or (records_of page) j 0) index.node)
  low_at zero some within = absurd (omega arith)
  low_at (suc j) some within =
      ap (λ (c : Bounded). c.low) (bounds_at index b.leftmost rows b.high (suc j) b (omega (arith, rows_count, within)))
      ∙ ap Some (key_is (suc j) within)

  up_at : (j : ℕ) (flag : Bool) → 0 < j → j < record_count page
      → is_gt (key_cmp (key_kinds index.node) (key_of page (get_or (records_of page) j 0) index.node) key) ≡ flag
      → is_up_to index key (get_or (kids index b) j b).low ≡ not flag
  up_at j flag some within e = ap (is_up_to index key) (low_at j some within) ∙ ap not e

  up_chosen : (k : ℕ) → k ≡ chosen.k → (k ≡ 0) ⊎ (is_up_to index key (get_or (kids index b) k b).low ≡ true)
  up_chosen zero e = inl refl
  up_chosen (suc k) e = elim last.up [
    | inl z ↦ absurd (omega arith)
    | inr u ↦ inr (up_at (suc k) false (omega arith) (let w = last.within in omega arith) (rw (← e) at u))
  ]

  high_is : (high : Option Key) → key_after index (drop (suc chosen.k) rows) high
      ≡ high_behind page index.node chosen.k high
  high_is high = elim (cases_lt (chosen.k + 1) (record_count page)) [
    | inl less ↦
        let cut = drop-cons rows (suc chosen.k) no_row (omega (arith, rows_count)) in
        rw (cut, lt-ltb (chosen.k + 1) (record_count page) less, add-one)
        (ap Some (key_is (suc chosen.k) (omega arith)))
    | inr more ↦
        let none = drop_all (suc chosen.k) rows (omega (arith, rows_count)) in
        rw (none, le-ltb (chosen.k + 1) (record_count page) more) refl
  ]

  -- the child that the way goes on to
  pub next_is : next_down index key b ≡ record {
    page = child_at page index.node chosen.origin;
    low = cond (b.leftmost && (chosen.k == 0)) None (Some (key_of page chosen.origin index.node));
    high = high_behind page index.node chosen.k b.high;
    leftmost = b.leftmost && (chosen.k == 0);
  }
  unfolding next_down
  next_is =
      let within = last.within in
      let count = bounds_count index b.leftmost rows b.high in
      choice_is index key b (kids index b) chosen.k b (omega (arith, rows_count)) (up_chosen chosen.k refl)
      (λ j less m. up_at j true (omega arith) (omega (arith, rows_count))
      (last.last j less (omega (arith, rows_count))))
      ∙ bounds_at index b.leftmost rows b.high chosen.k b (omega (arith, rows_count))
      ∙ (rw (
        page_is chosen.k within,
        key_is chosen.k within,
        high_is b.high,
        left_is b.leftmost chosen.k,
        ← last.origin,
      )
      refl)

-- the page below is the one at the next depth
pub down_due : (index : Index) (key : Key) (depth : ℕ) (walk : Walk) (due : Due) (child : List ℕ)
    → child ≡ page_in index due.stand.page → IsDue index key depth walk due → (chosen : Chosen)
    → IsLast child index.node key chosen (record_count child)
    → (now : Walk) → now.parent ≡ child → (next : Next)
    → high_held now index.node next
    ≡ high_behind child index.node chosen.k (high_held walk index.node due.next)
    → (n : ℕ) → n ≡ child_at now.parent index.node chosen.origin
    → (leftmost : Bool) → leftmost ≡ (due.stand.leftmost && (chosen.k == 0))
    → (low : Option ℕ) → low ≡ cond leftmost None (Some chosen.origin)
    → (fault : Fault) → fault ≡ record { rule = ChildPlace; page = due.stand.page } → 0 < due.stand.level
    → IsDue index key (depth + 1) now (record {
      stand = record {
        page = n;
        index_id = due.stand.index_id;
        level = due.stand.level - 1;
        root = false;
        leftmost = leftmost;
        previous = due.stand.previous;
        next = due.stand.next;
      };
      low = low;
      next = next;
      fault = fault;
    })
down_due index key depth walk due child c is chosen last now p next h n ne leftmost le low lo fault f some =
    let b = way index key depth in
    let at : due.stand.page ≡ b.page = ap (λ (s : Spot). s.page) is.spot in
    let held : child ≡ page_in index b.page = c ∙ ap (page_in index) at in
    let left : due.stand.leftmost ≡ b.leftmost = ap (λ (s : Spot). s.leftmost) is.spot in
    let high : high_held walk index.node due.next ≡ b.high = ap (λ (s : Spot). s.high) is.spot in
    let here = subst (λ (q : List ℕ). IsLast q index.node key chosen (record_count q)) held last in
    let kid = next_is index key b chosen here in
    let l : leftmost ≡ (b.leftmost && (chosen.k == 0)) = le ∙ ap (λ (x : Bool). x && (chosen.k == 0)) left in
    let page : n ≡ child_at (page_in index b.page) index.node chosen.origin =
    ne ∙ ap (λ (q : List ℕ). child_at q index.node chosen.origin) (p ∙ held) in
    let upper : high_held now index.node next
    ≡ high_behind (page_in index b.page) index.node chosen.k b.high =
    h ∙ ap (λ (q : List ℕ). high_behind q index.node chosen.k (high_held walk index.node due.next)) held
    ∙ ap (high_behind (page_in index b.page) index.node chosen.k) high in
    let lower : held_key now.parent index.node low
    ≡ cond (b.leftmost && (chosen.k == 0)) None (Some (key_of (page_in index b.page) chosen.origin index.node)) =
    ap (held_key now.parent index.node) lo
    ∙ ap (λ (q : List ℕ). held_key q index.node (cond leftmost None (Some chosen.origin))) (p ∙ held)
    ∙ by_flag (page_in index b.page) index.node leftmost chosen.origin
    ∙ ap (λ (x : Bool). cond x None (Some (key_of (page_in index b.page) chosen.origin index.node))) l in
    record {
      spot = rw (add-one, ne_eqb (suc depth) 0 (λ q. omega arith), kid, page, upper, lower, l) refl;
      fault = rw add-one (f ∙ ap (λ (m : ℕ). record { rule = ChildPlace; page = m }) at);
      id = is.id;
      level = omega (arith, is.level);
    }
  where
    by_flag : (page : List ℕ) (node : Fields) (flag : Bool) (origin : ℕ)
        → held_key page node (cond flag None (Some origin)) ≡ cond flag None (Some (key_of page origin node))
    by_flag page node true origin = refl
    by_flag page node false origin = refl
