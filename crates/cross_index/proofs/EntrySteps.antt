-- The entries of an index beside the rows in the order of their keys, one by one.
use Rattle.std.proofs.Common.{◌≡◌, ℕ, ◌+◌, ◌<◌, ◌≤◌, List, [], length, get_or, All, Contains, sym, ap}
use Rattle.std.proofs.Common.{◌∙◌}
use Rattle.std.proofs.Common.{subst, arith, Option, Some, None, Result, Ok, Err}
use Rattle.std.specs.Ordering.{ordering_reverse}
use Rattle.std.specs.declared.cmp.Ordering.{Ordering}
use Rattle.std.specs.declared.cmp.Ordering.TheVariants.{Less, Equal, Greater}
use Rattle.std.proofs.lemmas.List.{get_or_default, get_or-map, length-map}
use Rattle.std.proofs.lemmas.List.Elements.{All-contains}
use Rattle.std.proofs.lemmas.List.FromFn.{get_or-map-range_with_len, length-map-range_with_len}
use Rattle.page_source.specs.declared.checks.Halt.{Halt}
use Rattle.page_source.specs.declared.checks.Halt.TheVariants as halts
use Rattle.page_source.proofs.Members.{filter_contains}
use Rattle.column_values.specs.declared.field.FieldType.{FieldType}
use Rattle.column_values.specs.Types.{Fields}
use Rattle.column_values.specs.Order.{Key, key_cmp, IsBelow, AreEqualKeys}
use Rattle.column_values.proofs.KeyOrder.{key_total, symmetric}
use Rattle.compact_record.specs.declared.places.Place.{Place}
use Rattle.compact_record.specs.Reading.{Reading, IsReading, key_of}
use Rattle.compact_record.specs.Reading.{key_kinds}
use Rattle.compact_record.specs.Keys.{key_at, LiesBelow}
use Rattle.compact_record.proofs.KeySteps.{count_of_places, key_is}
use Rattle.schema_text.specs.TableDef.{TableDef}
use Rattle.schema_text.specs.IndexFields.{leaf_fields}
use Rattle.tree_walk.specs.declared.leaves.leaf.Leaf.{Leaf}
use Rattle.tree_walk.specs.Index.{Index, Row, no_row, row_at, page_in, leaf_rows, is_live_row}
use Rattle.tree_walk.specs.Index.{index_of}
use Rattle.tree_walk.specs.Leaf.{IsWalked}
use Rattle.tree_walk.specs.Records.{IsRecord}
use Rattle.tree_walk.specs.Laws.{row_key, RowsCanBeRead}
use Rattle.table_check.specs.Trees.{index_in}
use Rattle.table_check.specs.Values.{live_rows}
use Rattle.table_check.specs.Live.{LiveView, HasGivenLive, CanGiveLive, IsRowInHand, FindsLive}
use Rattle.cross_index.specs.declared.crossed.CrossStop.{CrossStop}
use Rattle.cross_index.specs.declared.crossed.CrossStop.TheVariants as stops
use Rattle.cross_index.specs.Entries.{entries_in, entry_kinds, entry_keys}
use Rattle.cross_index.specs.Sides.{IsLeastLone, HaveSameKeys, AreMatched, Rise, AreApart}
use Rattle.cross_index.specs.Differ.{Missing, Extra, IndexDiffers}
use Rattle.cross_index.specs.calls.Order.{IsOrder, in_order}
use Rattle.cross_index.specs.calls.Kept.{kept_key, kept_keys}
use Rattle.cross_index.specs.Stops.{cross_stop_of}
use Rattle.cross_index.specs.calls.Compare.{IsReadKey, Meets, EndsAt, CanCompare, Compares}
use Rattle.cross_index.proofs.Sides.{parts_least, matched_same, matched_back, matched_more}
use Rattle.cross_index.proofs.Merge.{in_order_size, in_order_at, place_within, order_rises, least_in_order}
use Rattle.cross_index.proofs.Merge.{least_beside}
use Rattle.cross_index.proofs.Merge.{same_in_order}

-- the key of a record that was read and ends on its page
pub read_key : (page : List ℕ) (origin : ℕ) (fields : Fields) (reading : Reading)
    → fields.keys ≤ length fields.fields → IsReading page origin fields reading
    → All (LiesBelow reading.end) reading.places → reading.end ≤ 16384 → IsReadKey page origin fields reading
read_key page origin fields reading few read lie ends = record {
  lie = λ k d inside.
      let here = lie k d inside in record { rising = here.rising; inside = omega (arith, here.below, ends) };
  long = omega (arith, few, ap (λ (ps : List Place). length ps) read.holds, count_of_places page origin fields);
  key = ap (λ (ps : List Place). key_at page fields ps) read.holds ∙ key_is page origin fields few;
}

-- the order of so many rows
module _ (kinds : List FieldType) (cells : Key) (width : ℕ) (slots order : List ℕ)
    (is : IsOrder kinds (kept_keys cells width slots (length order)) order) where
  abbrev keys : List Key
  keys = kept_keys cells width slots (length order)

  keys_size : length keys ≡ length order
  unfolding kept_keys
  keys_size = length-map-range_with_len (kept_key cells width slots) 0 (length order)

  pub order_below : All (λ k. k < length order) order
  order_below k d inside =
      let here = place_within kinds keys order is k (omega (arith, inside, keys_size)) in
      omega (arith, here, keys_size, get_or_default order k d 0 inside)

  -- the key that comes next
  next_key : (next d : ℕ) → next < length order
      → get_or (in_order keys order) next [] ≡ kept_key cells width slots (get_or order next d)
  unfolding kept_keys
  next_key next d inside =
      in_order_at kinds keys order is next (omega (arith, inside, keys_size))
      ∙ get_or-map-range_with_len (kept_key cells width slots) 0 (length order) (get_or order next 0) (get_or order next
      0) [] (order_below next 0 inside) (omega arith)
      ∙ ap (kept_key cells width slots) (get_or_default order next 0 d inside)

  pub meets_below : (key : Key) (next d : ℕ) (o : Ordering) → next < length order
      → o ≡ key_cmp kinds key (kept_key cells width slots (get_or order next d)) → o ≡ Less
      → IsBelow kinds key (get_or (in_order keys order) next [])
  meets_below key next d o inside compared says =
      ap (key_cmp kinds key) (next_key next d inside) ∙ sym compared ∙ says

  pub meets_above : (key : Key) (next d : ℕ) (o : Ordering) → next < length order
      → o ≡ key_cmp kinds key (kept_key cells width slots (get_or order next d)) → o ≡ Greater
      → IsBelow kinds (get_or (in_order keys order) next []) key
  meets_above key next d o inside compared says =
      (key_total kinds).antisymm (get_or (in_order keys order) next []) key
      ∙ ap ordering_reverse (ap (key_cmp kinds key) (next_key next d inside) ∙ sym compared ∙ says)

  pub meets_equal : (key : Key) (next d : ℕ) (o : Ordering) → next < length order
      → o ≡ key_cmp kinds key (kept_key cells width slots (get_or order next d)) → o ≡ Equal
      → AreEqualKeys kinds (get_or (in_order keys order) next []) key
  meets_equal key next d o inside compared says =
      symmetric kinds key (get_or (in_order keys order) next [])
      (ap (key_cmp kinds key) (next_key next d inside) ∙ sym compared ∙ says)

-- as many entries were given as rows were met
pub record HasMatched (file : List ℕ) (table : TableDef) (i : ℕ) (keys : List Key) (order : List ℕ)
    (entries : LiveView) (next : ℕ) : Type 0 where
  pub gives : HasGivenLive (index_in file table i) entries next
  pub matched : AreMatched (entry_kinds table i) (in_order keys order) (entry_keys file table i) next

-- the rows can be read on
pub can_give : (file : List ℕ) (table : TableDef) (i : ℕ) (entries start : LiveView) (keys : List Key) (order : List ℕ)
    (next : ℕ) → CanCompare file table i start keys → HasMatched file table i keys order entries next
    → CanGiveLive file entries
unfolding index_in
can_give file table i entries start keys order next can has = record {
  root = (index_in file table i).root;
  fields = (index_in file table i).leaf;
  node = (index_in file table i).node;
  given = next;
  walked = can.walked;
  has = has.gives;
}

-- what the cursor finds, of index i
pub finds : (file : List ℕ) (table : TableDef) (i : ℕ) (entries now start : LiveView) (keys : List Key)
    (order : List ℕ) (next : ℕ) (found : Result (Option ℕ) Halt)
    → ((root : ℕ) (fields node : Fields) (j : ℕ) → IsWalked (index_of file root fields node)
    → HasGivenLive (index_of file root fields node) entries j → FindsLive (index_of file root fields node) j found now)
    → CanCompare file table i start keys → HasMatched file table i keys order entries next
    → FindsLive (index_in file table i) next found now
unfolding index_in
finds file table i entries now start keys order next found exact can has =
    exact (index_in file table i).root (index_in file table i).leaf (index_in file table i).node next can.walked
    has.gives

-- the entry in hand
module _ (file : List ℕ) (table : TableDef) (i : ℕ) (leaf : Leaf) (j origin : ℕ)
    (hand : IsRowInHand (index_in file table i) leaf j origin) where
  abbrev index : Index
  index = index_in file table i

  abbrev row : Row
  row = record { page = leaf.number; origin = origin }

  row_is : get_or (live_rows index) j no_row ≡ row
  unfolding row_at
  row_is = hand.row

  pub entry_within : j < length (entry_keys file table i)
  unfolding entry_keys
  entry_within = omega (arith, hand.within, length-map (live_rows index) (row_key index))

  -- the key of the entry in hand
  pub entry_key : get_or (entry_keys file table i) j [] ≡ key_of leaf.page origin (leaf_fields table i)
  unfolding entry_keys row_key index_in
  entry_key =
      get_or-map (row_key index) (live_rows index) j no_row [] hand.within ∙ ap (row_key index) row_is
      ∙ ap (λ (page : List ℕ). key_of page origin (leaf_fields table i)) (sym hand.held)

  -- the entry in hand can be read
  pub entry_readable : RowsCanBeRead → IsWalked index → IsRecord leaf.page (leaf_fields table i) origin
  unfolding live_rows index_in
  entry_readable law walked =
      let at : Contains (live_rows index) row = (
        j,
        hand.within,
        get_or_default (live_rows index) j row no_row hand.within ∙ row_is,
      ) in
      let there = (filter_contains (is_live_row index) (leaf_rows index) row at).0 in
      let can = All-contains (λ (r : Row). IsRecord (page_in index r.page) index.leaf r.origin) (leaf_rows index) row
      (law index walked) there in
      subst (λ (page : List ℕ). IsRecord page (leaf_fields table i) origin) (sym hand.held) can

-- what an entry beside the next row shows
module _ (file : List ℕ) (table : TableDef) (i : ℕ) (keys : List Key) (order : List ℕ) (start entries : LiveView)
    (next : ℕ) (is : IsOrder (entry_kinds table i) keys order) (can : CanCompare file table i start keys)
    (has : HasMatched file table i keys order entries next) where
  abbrev kinds : List FieldType
  kinds = entry_kinds table i

  abbrev sorted : List Key
  sorted = in_order keys order

  rises : Rise kinds sorted
  rises = order_rises kinds keys order is (subst (AreApart kinds) (sym can.rows) can.apart)

  -- the row comes before the entry, or there is no entry
  pub lacks_entry : (index row : ℕ) → index ≡ i → next < length sorted
      → row ≡ get_or order next 0 + 1
      → (next < length (entry_keys file table i) → IsBelow kinds (get_or sorted next []) (get_or (entry_keys file table
      i) next []))
      → IndexDiffers file table i (Some (Missing index row))
  lacks_entry index row same within row_is below = (
    same,
    record {
      place = get_or order next 0;
      row_is = row_is;
      least = subst (λ (list : List Key). IsLeastLone kinds list (entry_keys file table i) (get_or order next 0))
          can.rows
          (least_in_order kinds keys order is (entry_keys file table i) next
          (parts_least kinds sorted (entry_keys file table i) next rises can.rise has.matched within below));
    },
  )

  -- the entry comes before the row, or there is no row
  pub has_extra : (index page : ℕ) → index ≡ i → next < length (entry_keys file table i)
      → page ≡ (row_at (entries_in file table i) next).page
      → (next < length sorted → IsBelow kinds (get_or (entry_keys file table i) next []) (get_or sorted next []))
      → IndexDiffers file table i (Some (Extra index page))
  has_extra index page same within page_is below = (
    same,
    record {
      place = next;
      page_is = page_is;
      least = subst (λ (list : List Key). IsLeastLone kinds (entry_keys file table i) list next) can.rows
          (least_beside kinds keys order is (entry_keys file table i) next
          (parts_least kinds (entry_keys file table i) sorted next can.rise rises
          (matched_back kinds sorted (entry_keys file table i) next has.matched) within below));
    },
  )

  -- all were met
  pub all_met : length sorted ≤ next → length (entry_keys file table i) ≤ next
      → IndexDiffers file table i None
  all_met few other_few =
      subst (λ (list : List Key). HaveSameKeys kinds list (entry_keys file table i)) can.rows
      (same_in_order kinds keys order is (entry_keys file table i)
      (matched_same kinds sorted (entry_keys file table i) next has.matched few other_few))

-- a halt of the cursor, and what is found at the end
pub halts_so : (file : List ℕ) (table : TableDef) (i next : ℕ) (now : LiveView) (halt : Halt)
    → FindsLive (index_in file table i) next (Err halt) now → Compares file table i (Err (cross_stop_of halt))
halts_so file table i next now (halts.Broken fault) found = found
halts_so file table i next now halts.Source found = tt

module _ (file : List ℕ) (table : TableDef) (i : ℕ) (fields : Fields) (all : List Key) (order : List ℕ)
    (start entries : LiveView) (next : ℕ) (list : fields ≡ leaf_fields table i)
    (is : IsOrder (key_kinds fields) all order) (count : length all ≡ length order)
    (can : CanCompare file table i start all) (has : HasMatched file table i all order entries next) where
  order_is : IsOrder (entry_kinds table i) all order
  order_is = subst (λ (f : Fields). IsOrder (key_kinds f) all order) list is

  in_all : length (in_order all order) ≡ length order
  in_all = in_order_size (entry_kinds table i) all order order_is ∙ count

  entry_count : length (entry_keys file table i) ≡ length (entries_in file table i)
  unfolding entry_keys
  entry_count = length-map (entries_in file table i) (row_key (index_in file table i))

  -- behind the last entry
  pub ends_so : (result : Result ℕ CrossStop) → EndsAt order next i result
      → length (entries_in file table i) ≤ next → Compares file table i result
  ends_so (Ok n) (is_next, few) past = (
    all_met file table i all order start entries next order_is can has (omega (arith, few, in_all))
        (omega (arith, past, entry_count)),
    omega (arith, is_next, past, has.matched.other_few, entry_count),
  )
  ends_so (Err (stops.Missing index row)) (same, within, row_is) past =
      lacks_entry file table i all order start entries next order_is can has index row same
      (omega (arith, within, in_all)) row_is (λ inside. absurd (omega (arith, inside, past, entry_count)))
  ends_so (Err (stops.Extra index page)) at past = absurd at
  ends_so (Err (stops.Broken fault)) at past = absurd at
  ends_so (Err stops.Source) at past = tt
  ends_so (Err stops.Memory) at past = tt

  module _ (leaf : Leaf) (page : List ℕ) (number origin : ℕ) (reading : Reading) (places : List Place)
      (placed : places ≡ reading.places)
      (hand : IsRowInHand (index_in file table i) leaf next origin) (held : page ≡ leaf.page)
      (numbered : number ≡ leaf.number) (read : IsReadKey page origin fields reading) where
    -- the key of the entry in hand
    here : key_at page fields places ≡ get_or (entry_keys file table i) next []
    here =
        ap (key_at page fields) placed ∙ read.key ∙ ap (λ (bytes : List ℕ). key_of bytes origin fields) held
        ∙ ap (key_of leaf.page origin) list ∙ sym (entry_key file table i leaf next origin hand)

    inside : next < length (entry_keys file table i)
    inside = entry_within file table i leaf next origin hand

    -- the entry meets the next row
    pub meets_on : (now : LiveView)
        → Meets (key_kinds fields) all order next (key_at page fields places) i number (Ok tt)
        → HasGivenLive (index_in file table i) now (next + 1)
        → HasMatched file table i all order now (next + 1)
    meets_on now (within, equal) gives = record {
      gives = gives;
      matched = matched_more (entry_kinds table i) (in_order all order) (entry_keys file table i) next has.matched
          (omega (arith, within, in_all)) inside
          (subst (λ (key : Key). AreEqualKeys (entry_kinds table i) (get_or (in_order all order) next []) key) here
          (subst (λ (f : Fields). AreEqualKeys (key_kinds f) (get_or (in_order all order) next []) (key_at page fields
          places)) list equal));
    }

    -- the entry or the row is alone
    pub meets_so : (stop : CrossStop)
        → Meets (key_kinds fields) all order next (key_at page fields places) i number (Err stop)
        → Compares file table i (Err stop)
    unfolding row_at
    meets_so (stops.Extra index p) (same, page_is, below) =
        has_extra file table i all order start entries next order_is can has index p same inside
        (page_is ∙ numbered ∙ sym (ap (λ (r : Row). r.page) hand.row))
        (λ within.
        subst (λ (key : Key). IsBelow (entry_kinds table i) key (get_or (in_order all order) next [])) here
        (subst (λ (f : Fields). IsBelow (key_kinds f) (key_at page fields places) (get_or (in_order all order)
        next [])) list (below (omega (arith, within, in_all)))))
    meets_so (stops.Missing index row) (same, within, row_is, below) =
        lacks_entry file table i all order start entries next order_is can has index row same
        (omega (arith, within, in_all)) row_is
        (λ _.
        subst (λ (key : Key). IsBelow (entry_kinds table i) (get_or (in_order all order) next []) key) here
        (subst (λ (f : Fields). IsBelow (key_kinds f) (get_or (in_order all order) next []) (key_at page fields
        places)) list below))
    meets_so (stops.Broken fault) at = at
    meets_so stops.Source at = tt
    meets_so stops.Memory at = tt

-- how many keys are kept
pub kept_size : (cells : Key) (width : ℕ) (slots : List ℕ) (count : ℕ)
    → length (kept_keys cells width slots count) ≡ count
unfolding kept_keys
kept_size cells width slots count = length-map-range_with_len (kept_key cells width slots) 0 count
