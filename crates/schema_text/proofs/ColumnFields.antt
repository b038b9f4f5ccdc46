-- The fields that hold the columns of a table.
use Rattle.std.proofs.Common.{◌≡◌, ℕ, zero, suc, ◌+◌, ◌-◌, ◌<◌, ◌≤◌, ◌==◌, ltb, ◌||◌, Bool, true, false, not, cond}
use Rattle.std.proofs.Common.{Option, Some, None, List, [], ◌∷◌, ◌++◌, length, map, filter, get_or, All, refl, sym}
use Rattle.std.proofs.Common.{ap, ◌∙◌, subst, arith}
use Rattle.std.specs.Prelude.{position, if◌then◌else◌}
use Rattle.std.specs.List.{list_any, cons_option, range_with_len, position_or_len}
use Rattle.std.proofs.lemmas.Bool.{lt-ltb, eqb-true}
use Rattle.std.proofs.lemmas.Bool.Decides.{nat_tests}
use Rattle.std.proofs.lemmas.Option.{slice_get-get_or}
use Rattle.std.proofs.lemmas.List.{get_or_default, get_or_append_left, get_or_at, get_or-append-add, get_or-map}
use Rattle.std.proofs.lemmas.List.{length-append, length-map, append-nil}
use Rattle.std.proofs.lemmas.List.Elements.{All-head, All-tail, All-filter, filter-append}
use Rattle.std.proofs.lemmas.List.FromFn.{get_or-range_with_len, length-range_with_len, map-range_with_len_more}
use Rattle.std.proofs.lemmas.List.Sums.{position_or_len_is}
use Rattle.std.proofs.lemmas.List.Quantifiers.{position-Some}
use Rattle.column_values.specs.declared.kind.ColumnType.TheVariants.{Year}
use Rattle.column_values.specs.declared.field.Field.{Field}
use Rattle.column_values.specs.declared.field.FieldType.TheVariants as kinds
use Rattle.column_values.specs.Types.{Fields, field_at}
use Rattle.schema_text.specs.declared.table.Column.{Column}
use Rattle.schema_text.specs.declared.table.IndexDef.{IndexDef}
use Rattle.schema_text.specs.TableDef.{TableDef, column_at}
use Rattle.schema_text.specs.Grammar.{IsTable}
use Rattle.schema_text.specs.IndexFields.{kept_field, leaving_field, row_id_field, trx_id_field, roll_pointer_field}
use Rattle.schema_text.specs.IndexFields.{kept_at, leaving_at, columns_at, clustered_positions, other_positions}
use Rattle.schema_text.specs.IndexFields.{clustered_key, clustered_rest, field_of_column, leaf_fields}

-- the fields of a clustered leaf record
abbrev row_fields : TableDef → Fields
row_fields table = leaf_fields table 0

-- the number of the key's fields: one for each column, or the row id
abbrev pub key_count : List ℕ → ℕ
key_count key = if length key == 0 then 1 else length key

-- whether a column is in the key
pub among : List ℕ → ℕ → Bool
among key c = list_any (λ j. j == c) key

pub place_of_column : List ℕ → ℕ → ℕ
place_of_column key c = position_or_len (λ i. i == c) key

ltb_suc : (a b : ℕ) → ltb (suc a) (suc b) ≡ ltb a b
ltb_suc a b = grind (arith, nat_tests)

-- the place that a test finds, or none
any_of : (p : ℕ → Bool) (xs : List ℕ) → list_any p xs ≡ ltb (position_or_len p xs) (length xs)
any_of p [] = refl
any_of p (x ∷ xs) = by_test (p x) (any_of p xs)
  where
    by_test : (b : Bool) → list_any p xs ≡ ltb (position_or_len p xs) (length xs)
        → (b || list_any p xs) ≡ ltb (cond (not b) (1 + position_or_len p xs) 0) (suc (length xs))
    by_test true h = sym (lt-ltb 0 (suc (length xs)) (omega arith))
    by_test false h =
        let e : 1 + position_or_len p xs ≡ suc (position_or_len p xs) = omega arith in
        rw e (h ∙ sym (ltb_suc (position_or_len p xs) (length xs)))

-- a column that was found in the key is there
pub found_among : (key : List ℕ) (c i : ℕ) → Some i ≡ position (λ j. j == c) key
    → (among key c ≡ true) × (place_of_column key c ≡ i)
unfolding among place_of_column
found_among key c i is = by_test (ltb (position_or_len (λ j. j == c) key) (length key)) (any_of (λ j. j == c) key) is
  where
    by_test : (b : Bool) → list_any (λ j. j == c) key ≡ b → Some i ≡ cond b (Some (position_or_len (λ j. j == c)
        key)) None
        → (list_any (λ j. j == c) key ≡ true) × (position_or_len (λ j. j == c) key ≡ i)
    by_test true any some = let e : i ≡ position_or_len (λ j. j == c) key = cc in (any, sym e)
    by_test false any some = absurd (cc)

-- and one that wasn't is not
pub lacks_among : (key : List ℕ) (c : ℕ) → None ≡ position (λ j. j == c) key → among key c ≡ false
unfolding among
lacks_among key c is = by_test (ltb (position_or_len (λ j. j == c) key) (length key)) (any_of (λ j. j == c) key) is
  where
    by_test : (b : Bool) → list_any (λ j. j == c) key ≡ b → None ≡ cond b (Some (position_or_len (λ j. j == c) key))
        None
        → list_any (λ j. j == c) key ≡ false
    by_test true any none = absurd (cc)
    by_test false any none = any

-- the columns below n that aren't in the key
pub others_below : List ℕ → ℕ → List ℕ
others_below key n = filter (λ i. not (among key i)) (range_with_len 0 n)

range_split : (a n k : ℕ) → range_with_len a (n + suc k) ≡ range_with_len a n ++ (a + n) ∷ range_with_len (a + n + 1)
    k
range_split a zero k =
    let e : a + 0 ≡ a = omega arith in
    let f : 0 + suc k ≡ suc k = omega arith in
    ap (range_with_len a) f ∙ rw e refl
range_split a (suc n) k =
    let e : a + suc n ≡ (a + 1) + n = omega arith in
    let f : suc n + suc k ≡ suc (n + suc k) = omega arith in
    ap (range_with_len a) f ∙ ap (λ (rest : List ℕ). a ∷ rest) (rw e (range_split (a + 1) n k))

-- up to a number, that number, and those behind it
pub range_at : (n k : ℕ) → range_with_len 0 (n + suc k) ≡ range_with_len 0 n ++ n ∷ range_with_len (n + 1) k
range_at n k = let e : 0 + n ≡ n = omega arith in
    range_split 0 n k ∙ ap (λ (m : ℕ). range_with_len 0 n ++ m ∷ range_with_len (m + 1) k) e

all_below : (n : ℕ) → All (λ i. i < n) (range_with_len 0 n)
all_below n k d below =
    let size = length-range_with_len 0 n in
    let is = get_or-range_with_len 0 n k d (omega (arith, size)) in omega (arith, is, size)

pub others_are_below : (key : List ℕ) (n : ℕ) → All (λ i. i < n) (others_below key n)
unfolding others_below
others_are_below key n = All-filter (λ i. not (among key i)) (λ i. i < n) (range_with_len 0 n) (all_below n)

-- one column more, in the key or not
pub others_same : (key : List ℕ) (c : ℕ) → among key c ≡ true → others_below key (c + 1) ≡ others_below key c
unfolding others_below
others_same key c is =
    let test : ℕ → Bool = λ i. not (among key i) in
    ap (filter test) (range_at c 0) ∙ filter-append test (range_with_len 0 c) (c ∷ []) ∙ rw is (append-nil _)

pub others_more : (key : List ℕ) (c : ℕ) → among key c ≡ false
    → others_below key (c + 1) ≡ others_below key c ++ c ∷ []
unfolding others_below
others_more key c is =
    let test : ℕ → Bool = λ i. not (among key i) in
    ap (filter test) (range_at c 0) ∙ filter-append test (range_with_len 0 c) (c ∷ []) ∙ rw is refl

-- a column that isn't in the key stands behind the others below it
others_split : (key : List ℕ) (n c : ℕ) → c < n → among key c ≡ false
    → (rest : List ℕ) × (others_below key n ≡ others_below key c ++ c ∷ rest)
unfolding others_below
others_split key n c within is =
    let test : ℕ → Bool = λ i. not (among key i) in
    let rest = range_with_len (c + 1) (n - (c + 1)) in
    let e : n ≡ c + suc (n - (c + 1)) = omega arith in (
      filter test rest,
      ap (λ (k : ℕ). filter test (range_with_len 0 k)) e ∙ ap (filter test) (range_at c (n - (c + 1)))
          ∙ filter-append test (range_with_len 0 c) (c ∷ rest) ∙ rw is refl,
    )

pub other_place : (key : List ℕ) (n c : ℕ) → c < n → among key c ≡ false
    → place_of_column (others_below key n) c ≡ length (others_below key c)
unfolding place_of_column
other_place key n c within is =
    let split = others_split key n c within is in
    let front = others_below key c in
    let all = others_below key n in
    let size : length all ≡ length front + suc (length split.0) =
    ap length split.1 ∙ length-append front (c ∷ split.0) in
    position_or_len_is (λ i. i == c) all (length front) 0 (omega (arith, size))
    (λ k below.
    let here : get_or all k 0 ≡ get_or front k 0 =
    ap (λ (xs : List ℕ). get_or xs k 0) split.1 ∙ get_or_append_left front (c ∷ split.0) 0 k below in
    let less : get_or front k 0 < c = others_are_below key c k 0 below in
    rw here (grind (arith, nat_tests, less)))
    (λ _.
    let here : get_or all (length front) 0 ≡ c =
    ap (λ (xs : List ℕ). get_or xs (length front) 0) split.1 ∙ get_or_at front c split.0 0 (length front) refl in
    rw here (grind (arith, nat_tests)))

-- the others of a table, and the number of its key fields
pub others_of : (table : TableDef) → other_positions table ≡ others_below (clustered_positions table) (length
    table.columns)
unfolding others_below among
others_of table = refl

columns_known : (columns : List Column) (positions : List ℕ) (j : ℕ) (d : Column)
    → All (λ i. i < length columns) positions → j < length positions
    → (get_or (columns_at columns positions) j d ≡ get_or columns (get_or positions j 0) d)
columns_known columns [] j d known within = absurd (omega arith)
columns_known columns (p ∷ positions) j d known within =
    let here : p < length columns = All-head (λ i. i < length columns) p positions known in
    let found = slice_get-get_or columns p d here in
    let split : columns_at columns (p ∷ positions) ≡ get_or columns p d ∷ columns_at columns positions =
    ap (λ (o : Option Column). cons_option o (columns_at columns positions)) found in
    ap (λ (cs : List Column). get_or cs j d) split
    ∙ behind j within (λ i less. columns_known columns positions i d
    (All-tail (λ i. i < length columns) p positions known) less)
  where
    behind : (j : ℕ) → j < length (p ∷ positions)
        → ((i : ℕ) → i < length positions → get_or (columns_at columns positions) i d ≡ get_or columns (get_or
        positions i 0) d)
        → get_or (get_or columns p d ∷ columns_at columns positions) j d ≡ get_or columns (get_or (p ∷ positions) j
        0) d
    behind zero within rest = refl
    behind (suc j) within rest = rest j (omega arith)

pub length_known : (columns : List Column) (positions : List ℕ) → All (λ i. i < length columns) positions
    → length (columns_at columns positions) ≡ length positions
length_known columns [] known = refl
length_known columns (p ∷ positions) known =
    let here : p < length columns = All-head (λ i. i < length columns) p positions known in
    let none : Column = get_or columns p (record { name = []; kind = Year; nullable = false }) in
    ap (λ (o : Option Column). length (cons_option o (columns_at columns positions))) (slice_get-get_or columns p
    none here)
    ∙ ap suc (length_known columns positions (All-tail (λ i. i < length columns) p positions known))

-- the field of a column in the key, and of one that isn't
pub field_in_key : (table : TableDef) (c : ℕ) → among (clustered_positions table) c ≡ true
    → field_of_column table c ≡ place_of_column (clustered_positions table) c
unfolding field_of_column among place_of_column
field_in_key table c is = rw is refl

-- the key's columns are known
pub key_known : (table : TableDef) → IsTable table → All (λ i. i < length table.columns) (clustered_positions table)
key_known table is = (is.keys 0 _ (omega (arith, is.clustered))).known

pub key_size : (table : TableDef) → IsTable table
    → length (clustered_key table) ≡ key_count (clustered_positions table)
key_size table is = by_test (length (clustered_positions table) == 0)
  where
    by_test : (none : Bool)
        → length (cond none (row_id_field ∷ []) (kept_at table.columns (clustered_positions table)))
        ≡ cond none 1 (length (clustered_positions table))
    by_test true = refl
    by_test false =
        length-map (columns_at table.columns (clustered_positions table)) kept_field
        ∙ length_known table.columns (clustered_positions table) (key_known table is)

pub field_behind_key : (table : TableDef) (c : ℕ) → IsTable table → c < length table.columns
    → among (clustered_positions table) c ≡ false
    → field_of_column table c ≡ key_count (clustered_positions table) + 2 + length (others_below (clustered_positions
    table) c)
unfolding field_of_column among place_of_column others_below
field_behind_key table c is within lacks =
    let key = clustered_positions table in
    let place = other_place key (length table.columns) c within lacks in
    rw lacks (omega (arith, key_size table is, place))

-- the fields of the first columns, the next one that isn't in the key, and no more than that
pub record AreFirst (table : TableDef) (key list : List ℕ) (next c : ℕ) : Type 0 where
  pub next_is : next ≡ key_count key + 2 + length (others_below key c)
  pub few : next ≤ key_count key + 2 + c
  pub fields : list ≡ map (field_of_column table) (range_with_len 0 c)

pub first_none : (table : TableDef) (key list : List ℕ) → list ≡ [] → AreFirst table key list (key_count key + 2) 0
unfolding others_below
first_none table key list none = record { next_is = omega arith; few = omega arith; fields = none }

more_fields : (table : TableDef) (list list' : List ℕ) (c field : ℕ) → field_of_column table c ≡ field
    → list' ≡ list ++ field ∷ []
    → list ≡ map (field_of_column table) (range_with_len 0 c)
    → list' ≡ map (field_of_column table) (range_with_len 0 (c + 1))
more_fields table list list' c field is grown before =
    grown ∙ ap (λ (xs : List ℕ). xs ++ field ∷ []) before
    ∙ ap (λ (f : ℕ). map (field_of_column table) (range_with_len 0 c) ++ f ∷ []) (sym is)
    ∙ sym (map-range_with_len_more (field_of_column table) 0 c c (omega arith))

pub first_in_key : (table : TableDef) (key list list' : List ℕ) (next c place : ℕ) → key ≡ clustered_positions table
    → Some place ≡ position (λ i. i == c) key → list' ≡ list ++ place ∷ [] → AreFirst table key list next c
    → AreFirst table key list' next (c + 1)
first_in_key table key list list' next c place same found grown before =
    let here = found_among key c place found in
    let is : among (clustered_positions table) c ≡ true = rw same at here.0 in
    let size = ap length (others_same key c here.0) in
    record {
      next_is = omega (arith, before.next_is, size);
      few = omega (arith, before.few);
      fields = more_fields table list list' c place
          (field_in_key table c is ∙ ap (λ (xs : List ℕ). place_of_column xs c) (sym same) ∙ here.1) grown
          before.fields;
    }

pub first_behind : (table : TableDef) (key list list' : List ℕ) (next next' c : ℕ) → IsTable table
    → c < length table.columns → key ≡ clustered_positions table → None ≡ position (λ i. i == c) key
    → list' ≡ list ++ next ∷ [] → next' ≡ next + 1 → AreFirst table key list next c
    → AreFirst table key list' next' (c + 1)
first_behind table key list list' next next' c is within same lacks grown more before =
    let lacks' = lacks_among key c lacks in
    let lacks'' : among (clustered_positions table) c ≡ false = rw same at lacks' in
    let size = ap length (others_more key c lacks') ∙ length-append (others_below key c) (c ∷ []) in
    let behind = field_behind_key table c is within lacks'' in
    record {
      next_is = omega (arith, before.next_is, size, more);
      few = omega (arith, before.few, more);
      fields = more_fields table list list' c next
          (behind ∙ ap (λ (xs : List ℕ). key_count xs + 2 + length (others_below xs c)) (sym same) ∙ sym
          before.next_is)
          grown before.fields;
    }

-- the columns of the first index are those of the key
pub same_key : (table : TableDef) (indexes : List IndexDef) (index : IndexDef) (key : List ℕ) → IsTable table
    → indexes ≡ table.indexes → key ≡ (get_or indexes 0 index).columns → key ≡ clustered_positions table
same_key table indexes index key is same columns =
    columns ∙ ap (λ (x : IndexDef). x.columns) (ap (λ (xs : List IndexDef). get_or xs 0 index) same
    ∙ get_or_default table.indexes 0 index _ (omega (arith, is.clustered)))

-- the fields of a record of the table
fields_are : (table : TableDef) → (row_fields table).fields ≡ clustered_key table ++ clustered_rest table
unfolding leaf_fields
fields_are table = refl

key_is : (table : TableDef) → 0 < length (clustered_positions table)
    → clustered_key table ≡ kept_at table.columns (clustered_positions table)
key_is table some =
    let keyed : (length (clustered_positions table) == 0) ≡ false = grind (arith, nat_tests, some) in rw keyed refl

-- where a column of the key stands in it
among_at : (key : List ℕ) (c : ℕ) → among key c ≡ true
    → (place_of_column key c < length key) × (get_or key (place_of_column key c) 0 ≡ c)
unfolding among place_of_column
among_at key c is =
    let test : ℕ → Bool = λ i. i == c in
    let below : ltb (position_or_len test key) (length key) ≡ true = sym (any_of test key) ∙ is in
    let found : position test key ≡ Some (position_or_len test key) = rw below refl in
    let here = position-Some test key (position_or_len test key) 0 found in
    (here.0, eqb-true _ _ here.1)

-- a field holds a column
pub record HoldsColumn (table : TableDef) (c i : ℕ) : Type 0 where
  pub inside : i < length (row_fields table).fields
  pub kind : (field_at (row_fields table) i).kind ≡ kinds.Column (column_at table c).kind

-- the field at a place of a list of fields
field_here : (table : TableDef) (list : List Field) (c i : ℕ) (f : Field) → (row_fields table).fields ≡ list
    → i < length list → get_or list i (record { kind = kinds.Child; nullable = false; may_leave = false }) ≡ f
    → f.kind ≡ kinds.Column (column_at table c).kind → HoldsColumn table c i
field_here table list c i f same within here kind =
    record {
      inside = omega (arith, ap length same, within);
      kind = ap (λ (x : Field). x.kind)
          (ap (λ (fs : List Field). get_or fs i (record { kind = kinds.Child; nullable = false; may_leave = false }))
          same ∙ here)
          ∙ kind;
    }

holds_key : (table : TableDef) (c : ℕ) → IsTable table → among (clustered_positions table) c ≡ true
    → HoldsColumn table c (place_of_column (clustered_positions table) c)
holds_key table c is yes' =
    let key = clustered_positions table in
    let columns = table.columns in
    let d = column_at table (length columns) in
    let child : Field = record { kind = kinds.Child; nullable = false; may_leave = false } in
    let i = place_of_column key c in
    let here = among_at key c yes' in
    let known = key_known table is in
    let size = length_known columns key known in
    let front = kept_at columns key in
    let front_size : length front ≡ length key = length-map (columns_at columns key) kept_field ∙ size in
    let all : (row_fields table).fields ≡ front ++ clustered_rest table =
    fields_are table ∙ ap (λ (xs : List Field). xs ++ clustered_rest table) (key_is table (omega (arith, here.0))) in
    let at : get_or (front ++ clustered_rest table) i child ≡ kept_field (get_or columns c (column_at table c)) =
    get_or_append_left front (clustered_rest table) child i (omega (arith, here.0, front_size))
    ∙ get_or-map kept_field (columns_at columns key) i (column_at table c) child (omega (arith, here.0, size))
    ∙ ap kept_field (columns_known columns key i (column_at table c) known here.0
    ∙ ap (λ (j : ℕ). get_or columns j (column_at table c)) here.1) in
    let within : c < length columns = subst (λ (j : ℕ). j < length columns) here.1 (known i 0 here.0) in
    field_here table (front ++ clustered_rest table) c i _ all
    (omega (arith, here.0, front_size, length-append front (clustered_rest table))) at
    (ap (λ (x : Column). kinds.Column x.kind) (get_or_default columns c (column_at table c) _ within))

holds_other : (table : TableDef) (c : ℕ) → IsTable table → c < length table.columns
    → among (clustered_positions table) c ≡ false
    → HoldsColumn table c (key_count (clustered_positions table) + 2 + length (others_below (clustered_positions
    table) c))
holds_other table c is within lacks =
    let key = clustered_positions table in
    let columns = table.columns in
    let child : Field = record { kind = kinds.Child; nullable = false; may_leave = false } in
    let m = length (others_below key c) in
    let others = others_below key (length columns) in
    let split = others_split key (length columns) c within lacks in
    let place : get_or others m 0 ≡ c =
    ap (λ (xs : List ℕ). get_or xs m 0) split.1 ∙ get_or_at (others_below key c) c split.0 0 m refl in
    let others_size : length others ≡ m + suc (length split.0) = ap length split.1 ∙ length-append (others_below key
    c) (c ∷ split.0) in
    let known = others_are_below key (length columns) in
    let size = length_known columns others known in
    let rest = map leaving_field (columns_at columns others) in
    let rest_size : length rest ≡ length others = length-map (columns_at columns others) leaving_field ∙ size in
    let front = clustered_key table in
    let all : (row_fields table).fields ≡ front ++ trx_id_field ∷ roll_pointer_field ∷ rest =
    fields_are table ∙ ap (λ (ps : List ℕ). front ++ trx_id_field ∷ roll_pointer_field ∷ leaving_at columns ps)
    (others_of table) in
    let whole : length (front ++ trx_id_field ∷ roll_pointer_field ∷ rest) ≡ length front + suc (suc (length rest)) =
    length-append front (trx_id_field ∷ roll_pointer_field ∷ rest) in
    let key_length = key_size table is in
    let e : key_count key + 2 + m ≡ length front + suc (suc m) = omega (arith, key_length) in
    let at : get_or (front ++ trx_id_field ∷ roll_pointer_field ∷ rest) (length front + suc (suc m)) child
    ≡ leaving_field (get_or columns c (column_at table c)) =
    get_or-append-add front (trx_id_field ∷ roll_pointer_field ∷ rest) (suc (suc m)) child
    ∙ get_or-map leaving_field (columns_at columns others) m (column_at table c) child (omega (
      arith,
      size,
      others_size,
    ))
    ∙ ap leaving_field (columns_known columns others m (column_at table c) known (omega (arith, others_size))
    ∙ ap (λ (j : ℕ). get_or columns j (column_at table c)) place) in
    subst (HoldsColumn table c) (sym e)
    (field_here table (front ++ trx_id_field ∷ roll_pointer_field ∷ rest) c (length front + suc (suc m)) _ all
    (omega (arith, whole, rest_size, others_size)) at
    (ap (λ (x : Column). kinds.Column x.kind) (get_or_default columns c (column_at table c) _ within)))

-- each column has its field
pub holds_column : (table : TableDef) (c : ℕ) → IsTable table → c < length table.columns
    → HoldsColumn table c (field_of_column table c)
holds_column table c is within = by_test (among (clustered_positions table) c) refl
  where
    by_test : (b : Bool) → among (clustered_positions table) c ≡ b → HoldsColumn table c (field_of_column table c)
    by_test true yes' =
        subst (HoldsColumn table c) (sym (field_in_key table c yes')) (holds_key table c is yes')
    by_test false lacks =
        subst (HoldsColumn table c) (sym (field_behind_key table c is within lacks))
        (holds_other table c is within lacks)

-- a column that isn't in the key, by its place among the others
other_at : (key : List ℕ) (n c : ℕ) → c < n → among key c ≡ false
    → get_or (others_below key n) (length (others_below key c)) 0 ≡ c
other_at key n c within lacks =
    let split = others_split key n c within lacks in
    ap (λ (xs : List ℕ). get_or xs (length (others_below key c)) 0) split.1
    ∙ get_or_at (others_below key c) c split.0 0 (length (others_below key c)) refl

key_count_least : (key : List ℕ) → length key ≤ key_count key
key_count_least key = by_test (length key == 0) refl
  where
    by_test : (b : Bool) → (length key == 0) ≡ b → length key ≤ cond b 1 (length key)
    by_test true none = let e = eqb-true (length key) 0 none in omega arith
    by_test false some = omega arith

-- two columns have two fields
pub one_column : (table : TableDef) (c d : ℕ) → IsTable table → c < length table.columns → d < length table.columns
    → field_of_column table c ≡ field_of_column table d → c ≡ d
one_column table c d is c_within d_within same =
    by_tests (among (clustered_positions table) c) (among (clustered_positions table) d) refl refl
  where
    behind : (e : ℕ) → e < length table.columns → among (clustered_positions table) e ≡ false
        → field_of_column table e ≡ key_count (clustered_positions table) + 2
        + length (others_below (clustered_positions table) e)
    behind e within lacks = field_behind_key table e is within lacks

    by_tests : (p q : Bool) → among (clustered_positions table) c ≡ p → among (clustered_positions table) d ≡ q
        → c ≡ d
    by_tests true true first second =
        let place : place_of_column (clustered_positions table) c ≡ place_of_column (clustered_positions table) d =
        sym (field_in_key table c first) ∙ same ∙ field_in_key table d second in
        sym (among_at (clustered_positions table) c first).1
        ∙ ap (λ (i : ℕ). get_or (clustered_positions table) i 0) place
        ∙ (among_at (clustered_positions table) d second).1
    by_tests true false first second =
        absurd (omega (
          arith,
          same,
          field_in_key table c first,
          (among_at (clustered_positions table) c first).0,
          behind d d_within second,
          key_count_least (clustered_positions table),
        ))
    by_tests false true first second =
        absurd (omega (
          arith,
          same,
          field_in_key table d second,
          (among_at (clustered_positions table) d second).0,
          behind c c_within first,
          key_count_least (clustered_positions table),
        ))
    by_tests false false first second =
        let lengths : length (others_below (clustered_positions table) c)
        ≡ length (others_below (clustered_positions table) d) =
        omega (arith, same, behind c c_within first, behind d d_within second) in
        sym (other_at (clustered_positions table) (length table.columns) c c_within first)
        ∙ ap (λ (i : ℕ). get_or (others_below (clustered_positions table) (length table.columns)) i 0) lengths
        ∙ other_at (clustered_positions table) (length table.columns) d d_within second
