-- the keys rise over all leaves
use Rattle.std.proofs.Common.{◌≡◌, ◌==◌, ◌&&◌, ◌-◌, ℕ, suc, zero, ◌+◌, ◌<◌, List, [], ◌∷◌, ◌++◌, length, get_or, Bool}
use Rattle.std.proofs.Common.{true, false, Option, None, Some, cond, arith, refl, ap, add-one, subst, inl, inr}
use Rattle.std.proofs.lemmas.Bool.{false≢true, ne_eqb, and_parts}
use Rattle.std.proofs.lemmas.List.{append-nil, length-map, get_or-map}
use Rattle.column_values.specs.Order.{Key, IsBelow}
use Rattle.compact_record.specs.Reading.{key_of}
use Rattle.index_page.specs.Header.{records_of, record_count}
use Rattle.compact_record.specs.Reading.{key_kinds}
use Rattle.index_page.specs.Page.{is_lowest_first}
use Rattle.index_page.specs.PageChecks.{PageChecks}
use Rattle.tree_walk.specs.Index.{Index, Row, page_in, fields_on, root_level, rows_at, rows_on, rows_of, children}
use Rattle.tree_walk.specs.Index.{child_of, key_in, row_at, no_row, places, pages_at}
use Rattle.tree_walk.specs.Place.{is_leaf_level, HasLow, HasLastBelow}
use Rattle.tree_walk.specs.TreeChecks.{low_of, high_of}
use Rattle.tree_walk.specs.Leaf.{IsWalked}
use Rattle.column_values.specs.Laws.{Splits}
use Rattle.column_values.proofs.KeyOrder.{splits}
use Rattle.tree_walk.specs.Laws.{row_key, Rises, KeysRiseOverLeaves}
use Rattle.tree_walk.proofs.Records.{page_facts, some_record, length-records}
use Rattle.tree_walk.proofs.Levels.{pages_at_more, pages_at_root}
use Rattle.tree_walk.proofs.Descents.{rows_law}
use Rattle.tree_walk.proofs.DescentLaw.{high_more}

last_row : List Row → Row
last_row rows = get_or rows (length rows - 1) no_row

first_row : List Row → Row
first_row rows = get_or rows 0 no_row

last_more : (x y : Row) (xs : List Row) → last_row (x ∷ y ∷ xs) ≡ last_row (y ∷ xs)
unfolding last_row
last_more x y xs =
    let e : length (x ∷ y ∷ xs) - 1 ≡ suc (length (y ∷ xs) - 1) = omega arith in
    ap (λ i. get_or (x ∷ y ∷ xs) i no_row) e

rises-append : (index : Index) (xs ys : List Row) → Rises index xs → Rises index ys
    → (0 < length xs → 0 < length ys → IsBelow (key_kinds index.leaf) (row_key index (last_row xs))
    (row_key index (first_row ys))) → Rises index (xs ++ ys)
unfolding last_row first_row
rises-append index [] ys r s h = s
rises-append index (x ∷ []) [] r s h = tt
rises-append index (x ∷ []) (y ∷ ys) r s h = (h (omega arith) (omega arith), s)
rises-append index (x ∷ y ∷ xs) ys r s h =
    (r.0, rises-append index (y ∷ xs) ys r.1 s (λ a b. rw (← last_more x y xs) (h (omega arith) b)))

-- the records of one page

rises_at : (index : Index) (n : ℕ) (os : List ℕ)
    → ((k : ℕ) → k + 1 < length os → IsBelow (key_kinds index.leaf)
    (key_of (page_in index n) (get_or os k 0) index.leaf)
    (key_of (page_in index n) (get_or os (k + 1) 0) index.leaf))
    → Rises index (rows_at n os)
unfolding row_key
rises_at index n [] h = tt
rises_at index n (o ∷ []) h = tt
rises_at index n (o ∷ p ∷ os) h =
    (h 0 (omega arith), rises_at index n (p ∷ os) (λ k m. rw add-one (rw add-one at (h (suc k) (omega arith)))))

page_rises : (index : Index) (n : ℕ) (root leftmost : Bool) → PageChecks (page_in index n) index.leaf true root
    leftmost None → Rises index (rows_on index n)
unfolding PageChecks
page_rises index n root leftmost c =
    let f = page_facts (page_in index n) index.leaf true root leftmost c in
    rises_at index n (records_of (page_in index n))
    (λ k m. elim (c.1.1.1.1.1.1.1.1.1.1 k m) [
      | inl z ↦ absurd (false≢true (and_parts leftmost false z.1).1)
      | inr b ↦ b
    ])

first_is : (index : Index) (n : ℕ) → 0 < record_count (page_in index n) → first_row (rows_on index n) ≡ record
    { page = n; origin = get_or (records_of (page_in index n)) 0 0 }
unfolding first_row
first_is index n h =
    let e = length-records (page_in index n) in
    get_or-map (λ origin. record { page = n; origin = origin }) (records_of (page_in index n)) 0 0 no_row (omega arith)

last_is : (index : Index) (n : ℕ) → 0 < record_count (page_in index n)
    → last_row (rows_on index n) ≡ record {
      page = n;
      origin = get_or (records_of (page_in index n))
          (record_count (page_in index n) - 1) 0;
    }
unfolding last_row
last_is index n h =
    let e = length-records (page_in index n) in
    let l : length (rows_on index n) ≡ length (records_of (page_in index n)) = length-map
    (records_of (page_in index n)) (λ origin. record { page = n; origin = origin }) in
    let q : length (rows_on index n) - 1 ≡ record_count (page_in index n) - 1 = omega arith in
    rw q (get_or-map (λ origin. record { page = n; origin = origin }) (records_of (page_in index n))
    (record_count (page_in index n) - 1) 0 no_row (omega arith))

-- what the checks say of a leaf between its separators
pub record Leaf (index : Index) (n : ℕ) (low high : Option Key) : Type 0 where
  pub rises : Rises index (rows_on index n)
  pub filled : 0 < record_count (page_in index n)
  pub above : HasLow (page_in index n) index.leaf 0 low
  pub under : HasLastBelow (page_in index n) index.leaf false high

first-append : (xs ys : List Row) → 0 < length xs → first_row (xs ++ ys) ≡ first_row xs
unfolding first_row
first-append [] ys h = absurd (omega arith)
first-append (x ∷ xs) ys h = refl

rows_filled : (index : Index) (n : ℕ) → 0 < record_count (page_in index n) → 0 < length (rows_on index n)
rows_filled index n h =
    let e = length-records (page_in index n) in
    let l : length (rows_on index n) ≡ length (records_of (page_in index n)) = length-map
    (records_of (page_in index n)) (λ origin. record { page = n; origin = origin }) in
    omega arith

-- two leaves beside one separator
joins : (index : Index) → Splits (key_kinds index.leaf) → (a b : ℕ) (s : Key) (low : Option Key) (high : Option Key)
    → Leaf index a low (Some s) → Leaf index b (Some s) high
    → IsBelow (key_kinds index.leaf) (row_key index (last_row (rows_on index a)))
    (row_key index (first_row (rows_on index b)))
unfolding row_key
joins index splits a b s low high l r =
    rw (last_is index a l.filled, first_is index b r.filled)
    (splits _ s _ (l.under (λ z. false≢true z.1)) r.above.0)

-- the leaves of these pointers, each between the key of its pointer and that of the next one
abbrev pub next_key : Index → List Row → Option Key
next_key index [] = None
next_key index (p ∷ ps) = Some (key_in index p)

abbrev pub AreLeaves : Index → Option Key → List Row → Type 0
AreLeaves index low [] = Unit {0}
AreLeaves index low (p ∷ ps) = Leaf index (child_of index p) low (next_key index ps) × AreLeaves index
    (next_key index ps) ps

leaves_rise : (index : Index) → Splits (key_kinds index.leaf) → (low : Option Key) (ps : List Row) → AreLeaves index
    low ps → Rises index (rows_of index (children index ps))
leaves_rise index splits low [] a = tt
leaves_rise index splits low (p ∷ []) a = rw append-nil (a.0.rises)
leaves_rise index splits low (p ∷ q ∷ qs) a =
    rises-append index (rows_on index (child_of index p)) (rows_of index (children index (q ∷ qs))) a.0.rises
    (leaves_rise index splits (Some (key_in index q)) (q ∷ qs) a.1)
    (λ i j. rw (first-append (rows_on index (child_of index q)) (rows_of index (children index qs))
    (rows_filled index (child_of index q) a.1.0.filled))
    (joins index splits (child_of index p) (child_of index q) (key_in index q) low (next_key index qs) a.0 a.1.0))

-- from places by number

same_leaf : (index : Index) (n : ℕ) (low low' high high' : Option Key) → low' ≡ low → high' ≡ high → Leaf index n
    low high → Leaf index n low' high'
same_leaf index n low low' high high' a b x = rw (a, b) x

low_same : (index : Index) (q : Row) (qs : List Row) (low : Option Key) (j : ℕ) → cond (j == 0)
    (Some (key_in index q)) (Some (key_in index (get_or (q ∷ qs) j no_row)))
    ≡ cond (suc j == 0) low (Some (key_in index (get_or (q ∷ qs) j no_row)))
low_same index q qs low zero = refl
low_same index q qs low (suc j) = rw (
  ne_eqb (suc j) 0 (λ e. omega arith),
  ne_eqb (suc (suc j)) 0
      (λ e. omega arith),
) refl

leaves_from : (index : Index) (low : Option Key) (ps : List Row)
    → ((j : ℕ) → j < length ps → Leaf index (child_of index (row_at ps j))
    (cond (j == 0) low (Some (key_in index (row_at ps j)))) (high_of index ps j)) → AreLeaves index low ps
unfolding row_at
leaves_from index low [] h = tt
leaves_from index low (p ∷ []) h = (h 0 (omega arith), tt)
leaves_from index low (p ∷ q ∷ qs) h = (
  h 0 (omega arith),
  leaves_from index (Some (key_in index q)) (q ∷ qs)
      (λ j m. same_leaf index (child_of index (get_or (q ∷ qs) j no_row)) _ _ _ _ (low_same index q qs low j)
      (high_more index p (q ∷ qs) j) (h (suc j) (omega arith))),
)

-- the checks of a leaf

checks_leaf : (index : Index) (page : List ℕ) (l : ℕ) (root leftmost : Bool) → l ≡ 0 → PageChecks page
    (fields_on index l) (is_leaf_level l) root leftmost None → PageChecks page index.leaf true root leftmost None
checks_leaf index page l root leftmost e c = subst (λ k. PageChecks page (fields_on index k) (is_leaf_level k) root
    leftmost None) e c

low_leaf : (index : Index) (page : List ℕ) (l : ℕ) (low : Option Key) → l ≡ 0 → HasLow page (fields_on index l) l
    low → HasLow page index.leaf 0 low
low_leaf index page l low e c = subst (λ k. HasLow page (fields_on index k) k low) e c

and_false : (b : Bool) → (b && false) ≡ false
and_false true = refl
and_false false = refl

under_leaf : (index : Index) (page : List ℕ) (l : ℕ) (leftmost : Bool) (high : Option Key) → l ≡ 0
    → HasLastBelow page (fields_on index l) (is_lowest_first (is_leaf_level l) leftmost) high → HasLastBelow page
    index.leaf false high
under_leaf index page l leftmost high e c =
    let x : HasLastBelow page index.leaf (leftmost && false) high = subst
    (λ k. HasLastBelow page (fields_on index k) (is_lowest_first (is_leaf_level k) leftmost) high) e c in
    subst (λ b. HasLastBelow page index.leaf b high) (and_false leftmost) x

module _ (index : Index) (splits : Splits (key_kinds index.leaf)) (w : IsWalked index) where
  root_rises : root_level index ≡ 0 → Rises index (rows_of index (pages_at index 0))
  root_rises e =
      rw (pages_at_root, append-nil)
      (page_rises index index.root true true (checks_leaf index (page_in index index.root) (root_level index) true
      true e w.holds.0.1.1.1.1.1.0))

  leaf_at : (d : ℕ) → root_level index ≡ suc d → (j : ℕ) → j < length (places index d) → Leaf index
      (child_of index (row_at (places index d) j)) (low_of index (places index d) j)
      (high_of index (places index d) j)
  leaf_at d e j h =
      let x = w.holds.1 d (omega arith) j h in
      let z : root_level index - suc d ≡ 0 = omega arith in
      let n = child_of index (row_at (places index d) j) in
      let c = checks_leaf index (page_in index n) (root_level index - suc d) false (j == 0) z x.1.1.1.1.0 in
      record {
        rises = page_rises index n false (j == 0) c;
        filled = some_record (page_in index n) index.leaf true false (j == 0) c refl;
        above = low_leaf index (page_in index n) (root_level index - suc d) (low_of index (places index d) j) z
            x.1.1.1.1.1.0.low;
        under = under_leaf index (page_in index n) (root_level index - suc d) (j == 0)
            (high_of index (places index d) j) z x.1.1.1.1.1.0.high;
      }

  level_rises : (d : ℕ) → root_level index ≡ suc d → Rises index (rows_of index (pages_at index (d + 1)))
  level_rises d e = rw pages_at_more (leaves_rise index splits None (places index d)
      (leaves_from index None (places index d) (leaf_at d e)))

  all_rise : (l : ℕ) → root_level index ≡ l → Rises index (rows_of index (pages_at index l))
  all_rise zero e = root_rises e
  all_rise (suc d) e = rw (← add-one d) (level_rises d e)

pub keys_law : KeysRiseOverLeaves
keys_law index w = rw (← rows_law index) (all_rise index (splits (key_kinds index.leaf)) w (root_level index) refl)
