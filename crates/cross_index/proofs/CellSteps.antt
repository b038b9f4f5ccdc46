-- Values among bytes, and the order of keys cell by cell.
use Rattle.std.proofs.Common.{◌≡◌, ℕ, zero, suc, ◌+◌, ◌<◌, ◌≤◌, true, false, List, [], ◌∷◌, ◌++◌, length, get_or, map}
use Rattle.std.proofs.Common.{take, slice_range, cond, ◌==◌}
use Rattle.std.proofs.lemmas.Bool.Decides.{nat_tests}
use Rattle.std.proofs.Common.{All, None, Some, refl, sym, ap, ◌∙◌, subst, inl, inr, arith, min, ◌^◌, ◌-◌, ◌*◌}
use Rattle.std.specs.declared.cmp.Ordering.{Ordering}
use Rattle.std.specs.declared.cmp.Ordering.TheVariants.{Equal}
use Rattle.std.specs.Ordering.{ordering_then}
use Rattle.std.proofs.lemmas.List.{drop_at, take_all, length-map}
use Rattle.std.proofs.lemmas.List.{length-take-le, get_or-map, get_or-take, get_or_past, map-append}
use Rattle.std.proofs.Common.{length-append}
use Rattle.std.proofs.lemmas.List.Elements.{All-head, All-tail}
use Rattle.std.proofs.lemmas.Bool.{cases_lt}
use Rattle.column_values.specs.declared.field.FieldType.{FieldType}
use Rattle.column_values.specs.declared.field.FieldType.TheVariants.{Child}
use Rattle.column_values.specs.declared.field.Field.{Field}
use Rattle.column_values.specs.Types.{Fields, field_at}
use Rattle.column_values.specs.Order.{Key, cell_cmp, key_cmp}
use Rattle.compact_record.specs.declared.places.Place.{Place}
use Rattle.compact_record.specs.Reading.{cell_at, key_kinds}
use Rattle.compact_record.specs.Keys.{key_at}
use Rattle.compact_record.proofs.KeyOrders.{LeftOf, cells_decide, cells_end, kinds_size, kind_of_field}
use Rattle.std.specs.Prelude.{Option}
use Rattle.std.specs.List.{range_with_len}
use Rattle.std.specs.List.Sorted.{IsPermutation, IsSortedBy}
use Rattle.std.specs.Ordering.{is_lt}
use Rattle.std.proofs.lemmas.List.FromFn.{length-range_with_len, get_or-range_with_len, length-map-range_with_len}
use Rattle.std.proofs.lemmas.List.FromFn.{get_or-map-range_with_len}
use Rattle.std.proofs.lemmas.List.Sorted.{All-permutation}
use Rattle.cross_index.specs.calls.Kept.{LiesIn, kept_key, kept_keys}
use Rattle.cross_index.specs.calls.Order.{Asking, AsksWhole, IsOrder, table_of}
use Rattle.page_source.proofs.Lists.{slice_range_append}

-- where a null value lies
abbrev pub null_place : Place
null_place = record { null = true; external = false; from = 0; until = 0 }

-- a value by its place, past the last one too
pub cell_in_places : (bytes : List ℕ) (places : List Place) (i : ℕ)
    → get_or (map (cell_at bytes) places) i None ≡ cell_at bytes (get_or places i null_place)
cell_in_places bytes [] i = refl
cell_in_places bytes (p ∷ places) zero = refl
cell_in_places bytes (p ∷ places) (suc i) = cell_in_places bytes places i

-- a number past all values, as far as numbers go
pub cell_saturated : (cells : Key) (n : ℕ) → length cells < 2 ^ 64
    → get_or cells (min n (2 ^ 64 - 1)) None ≡ get_or cells n None
cell_saturated cells n short = elim (cases_lt n (2 ^ 64)) [
  | inl less ↦ let e : min n (2 ^ 64 - 1) ≡ n = omega arith in ap (λ (k : ℕ). get_or cells k None) e
  | inr more ↦
      let e : min n (2 ^ 64 - 1) ≡ 2 ^ 64 - 1 = omega arith in
      ap (λ (k : ℕ). get_or cells k None) e
      ∙ get_or_past cells (2 ^ 64 - 1) None (omega (arith, short))
      ∙ sym (get_or_past cells n None (omega (arith, more, short)))
]

pub length-kept : (cells : Key) (width : ℕ) (slots : List ℕ) (row : ℕ)
    → length (kept_key cells width slots row) ≡ length slots
unfolding kept_key
length-kept cells width slots row = length-map slots (λ slot. get_or cells (row * width + slot) None)

-- a field of a row's key, by the number of its value
pub kept_at : (cells : Key) (width : ℕ) (slots : List ℕ) (row i d number : ℕ) → length cells < 2 ^ 64
    → i < length slots → number ≡ min (row * width + get_or slots i d) (2 ^ 64 - 1)
    → get_or cells number None ≡ get_or (kept_key cells width slots row) i None
unfolding kept_key
kept_at cells width slots row i d number short below is =
    ap (λ (k : ℕ). get_or cells k None) is
    ∙ cell_saturated cells (row * width + get_or slots i d) short
    ∙ sym (get_or-map (λ slot. get_or cells (row * width + slot) None) slots i d None below)

pub some_slots : (slots : List ℕ) → (length slots == 0) ≡ false → 0 < length slots
some_slots slots some = grind (arith, nat_tests, some)

-- a key without a field has no first value
pub no_value : (cells : Key) (width : ℕ) (slots : List ℕ) (row : ℕ) → (length slots == 0) ≡ true
    → None ≡ get_or (kept_key cells width slots row) 0 None
no_value cells width slots row none =
    let e : length slots ≡ 0 = grind (arith, nat_tests, none) in
    sym (get_or_past (kept_key cells width slots row) 0 None (omega (arith, length-kept cells width slots row, e)))

slice_range_behind : (xs ys : List ℕ) → slice_range (xs ++ ys) (length xs) (length xs + length ys) ≡ ys
slice_range_behind xs ys =
    let e : length xs + length ys - length xs ≡ length ys = omega arith in
    ap (take (length xs + length ys - length xs)) (drop_at xs ys (length xs) refl)
    ∙ ap (λ (n : ℕ). take n ys) e ∙ take_all (length ys) ys (omega arith)

cell_stays : (bytes value : List ℕ) (place : Place) → LiesIn (length bytes) place
    → cell_at (bytes ++ value) place ≡ cell_at bytes place
cell_stays bytes value place lies =
    ap (λ (b : List ℕ). cond place.null None (Some b))
    (slice_range_append bytes value place.from place.until lies.rising lies.inside)

cells_stay : (bytes value : List ℕ) (places : List Place) → All (LiesIn (length bytes)) places
    → map (cell_at (bytes ++ value)) places ≡ map (cell_at bytes) places
cells_stay bytes value [] lie = refl
cells_stay bytes value (p ∷ places) lie =
    rw (
      cell_stays bytes value p (All-head (LiesIn (length bytes)) p places lie),
      cells_stay bytes value places (All-tail (LiesIn (length bytes)) p places lie),
    )
    refl

-- a value more, behind the bytes of the others
pub cells_more : (bytes value now : List ℕ) (places : List Place) (from until : ℕ)
    → All (LiesIn (length bytes)) places → now ≡ bytes ++ value → from ≡ length bytes → until ≡ length now
    → map (cell_at now) (places ++ record { null = false; external = false; from = from; until = until } ∷ [])
    ≡ map (cell_at bytes) places ++ Some value ∷ []
cells_more bytes value now places from until lie grown begins ends =
    let place : Place = record { null = false; external = false; from = from; until = until } in
    let size = ap length grown ∙ length-append bytes value in
    let here : slice_range now from until ≡ value =
    ap (λ (list : List ℕ). slice_range list from until) grown
    ∙ ap (λ (n : ℕ). slice_range (bytes ++ value) n until) begins
    ∙ ap (λ (n : ℕ). slice_range (bytes ++ value) (length bytes) n) (ends ∙ size)
    ∙ slice_range_behind bytes value in
    map-append (cell_at now) places (place ∷ [])
    ∙ ap (λ (v : List ℕ). map (cell_at now) places ++ Some v ∷ []) here
    ∙ ap (λ (list : List ℕ). map (cell_at list) places ++ Some value ∷ []) grown
    ∙ ap (λ (list : Key). list ++ Some value ∷ []) (cells_stay bytes value places lie)

module _ (cells : Key) (width : ℕ) (fields : Fields) (slots : List ℕ) (short : length cells < 2 ^ 64)
    (few : fields.keys ≤ length fields.fields) (each : length slots ≡ fields.keys) where
  -- the fields of two rows at a place decide, or what is left behind them does
  pub rows_decide : (a b i d e first second : ℕ) (f : Field) (o answer whole : Ordering) → i < length slots
      → f ≡ field_at fields i → first ≡ min (a * width + get_or slots i d) (2 ^ 64 - 1)
      → second ≡ min (b * width + get_or slots i e) (2 ^ 64 - 1)
      → o ≡ cell_cmp f.kind (get_or cells first None) (get_or cells second None) → o ≡ answer
      → LeftOf (key_kinds fields) (kept_key cells width slots a) (kept_key cells width slots b) i ≡ whole
      → ordering_then answer (LeftOf (key_kinds fields) (kept_key cells width slots a) (kept_key cells width slots b)
      (i + 1)) ≡ whole
  rows_decide a b i d e first second f o answer whole below is one two compared says left =
      let size = kinds_size fields few in
      let x = kept_at cells width slots a i d first short below one in
      let y = kept_at cells width slots b i e second short below two in
      cells_decide (key_kinds fields) (kept_key cells width slots a) (kept_key cells width slots b) i Child f.kind o
      answer whole (length-kept cells width slots a ∙ each ∙ sym size) (length-kept cells width slots b ∙ each ∙ sym
      size) (omega (arith, below, each, size))
      (ap (λ (g : Field). g.kind) is ∙ kind_of_field fields i few (omega (arith, below, each)))
      (compared ∙ ap (λ (v : Option (List ℕ)). cell_cmp f.kind v (get_or cells second None)) x
      ∙ ap (λ (v : Option (List ℕ)). cell_cmp f.kind (get_or (kept_key cells width slots a) i None) v) y) says left

  pub rows_end : (x y : Key) (i : ℕ) (whole : Ordering) → length slots ≤ i → LeftOf (key_kinds fields) x y i ≡ whole
      → Equal ≡ whole
  rows_end x y i whole past left =
      cells_end (key_kinds fields) x y i whole (omega (arith, past, each, kinds_size fields few)) left

  -- the order of the keys of a record and a row, field by field
  pub record_decides : (page : List ℕ) (places : List Place) (b i e number : ℕ) (f : Field) (p : Place)
      (o answer whole : Ordering) → fields.keys ≤ length places → i < length slots → f ≡ field_at fields i
      → ((d : Place) → p ≡ get_or places i d) → number ≡ min (b * width + get_or slots i e) (2 ^ 64 - 1)
      → o ≡ cell_cmp f.kind (cell_at page p) (get_or cells number None) → o ≡ answer
      → LeftOf (key_kinds fields) (key_at page fields places) (kept_key cells width slots b) i ≡ whole
      → ordering_then answer (LeftOf (key_kinds fields) (key_at page fields places) (kept_key cells width slots b) (i
      + 1)) ≡ whole
  unfolding key_at
  record_decides page places b i e number f p o answer whole long below is here two compared says left =
      let size = kinds_size fields few in
      let count = length-take-le fields.keys places long in
      let x : cell_at page p ≡ get_or (key_at page fields places) i None =
      sym (get_or-map (cell_at page) (take fields.keys places) i p None (omega (arith, below, each, count))
      ∙ ap (cell_at page) (get_or-take fields.keys places i p (omega (arith, below, each)) ∙ sym (here p))) in
      let y = kept_at cells width slots b i e number short below two in
      cells_decide (key_kinds fields) (key_at page fields places) (kept_key cells width slots b) i Child f.kind o
      answer whole (length-map (take fields.keys places) (cell_at page) ∙ count ∙ sym size)
      (length-kept cells width slots b ∙ each ∙ sym size) (omega (arith, below, each, size))
      (ap (λ (g : Field). g.kind) is ∙ kind_of_field fields i few (omega (arith, below, each)))
      (compared ∙ ap (λ (v : Option (List ℕ)). cell_cmp f.kind v (get_or cells number None)) x
      ∙ ap (λ (v : Option (List ℕ)). cell_cmp f.kind (get_or (key_at page fields places) i None) v) y) says left

-- a key that is asked for has a value of each kind
pub whole_key : (keys : Asking) (row : ℕ) → AsksWhole keys.list keys.slots
    → length ((table_of keys).key row) ≡ length (table_of keys).kinds
whole_key keys row asks =
    length-kept keys.cells keys.width keys.slots row ∙ asks.each ∙ sym (kinds_size keys.list asks.few)

-- rows in the order that a sort of their numbers gives
pub order_is : (kinds : List FieldType) (cells : Key) (width : ℕ) (slots order : List ℕ) (count : ℕ)
    → IsPermutation (range_with_len 0 count) order
    → IsSortedBy (λ a b. is_lt (key_cmp kinds (kept_key cells width slots a) (kept_key cells width slots b))) order
    → IsOrder kinds (kept_keys cells width slots count) order
unfolding kept_keys
order_is kinds cells width slots order count places sorted =
    let size = length-map-range_with_len (kept_key cells width slots) 0 count in
    let all : All (λ k. k < count) order =
    All-permutation (λ k. k < count) (range_with_len 0 count) order places (below_all count) in
    record {
      places = subst (λ (n : ℕ). IsPermutation (range_with_len 0 n) order) (sym size) places;
      sorted = λ k d least less.
          let key : (n : ℕ) → n < count
          → get_or (map (kept_key cells width slots) (range_with_len 0 count)) n [] ≡ kept_key cells width slots n =
          λ n within. get_or-map-range_with_len (kept_key cells width slots) 0 count n n [] within (omega arith) in
          rw (
            key (get_or order (k + 1) d) (all (k + 1) d (omega (arith, less))),
            key (get_or order k d) (all k d (omega (arith, less))),
          )
          (sorted k d least less);
    }
  where
    below_all : (n : ℕ) → All (λ k. k < n) (range_with_len 0 n)
    below_all n k d inside =
        let here : k < n = omega (arith, inside, length-range_with_len 0 n) in
        omega (arith, here, get_or-range_with_len 0 n k d here)
