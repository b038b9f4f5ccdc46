-- The fields of an index, one after the other.
use Rattle.std.proofs.Common.{◌≡◌, ◌==◌, ℕ, zero, suc, ◌+◌, ◌<◌, ◌≤◌, Bool, true, false, cond, not, List, [], ◌∷◌, ◌++◌}
use Rattle.std.proofs.Common.{length, map, take, drop, get_or, filter, All, Option, Some, None, inl, inr, refl, sym, ap}
use Rattle.std.proofs.Common.{◌∙◌, subst, arith}
use Rattle.std.specs.Prelude.{slice_get}
use Rattle.std.specs.List.{list_any, cons_option, range_with_len}
use Rattle.std.proofs.lemmas.List.{append_assoc, append-nil, map-append, take_more, length-append, length-take-le}
use Rattle.std.proofs.lemmas.List.{get_or_default, get_or_append_left, get_or_past, take-append-drop, take_at}
use Rattle.std.proofs.lemmas.Bool.{cases_lt, false≢true}
use Rattle.std.proofs.lemmas.List.Elements.{All-nil, All-cons, All-head, All-tail, All-map, All-weaker, All-append}
use Rattle.std.proofs.lemmas.List.Elements.{filter-append, filter_map-append}
use Rattle.std.proofs.lemmas.Option.{slice_get-get_or}
use Rattle.std.proofs.lemmas.Bool.Decides.{nat_tests}
use Rattle.std.proofs.lemmas.List.{length-map}
use Rattle.column_values.specs.declared.field.Field.{Field}
use Rattle.column_values.specs.declared.field.FieldType.TheVariants.{Child}
use Rattle.column_values.specs.Types.{IsColumnType, AreListed, AreFields, CanFollow, IsFieldKind, is_big}
use Rattle.column_values.specs.Types.{nullable_count, child_field}
use Rattle.schema_text.specs.declared.table.Column.{Column}
use Rattle.schema_text.specs.TableDef.{TableDef, index_at}
use Rattle.schema_text.specs.Grammar.{IsTable, IsKeyOf}
use Rattle.schema_text.specs.IndexFields.{kept_field, leaving_field, row_id_field, trx_id_field, roll_pointer_field}
use Rattle.schema_text.specs.IndexFields.{columns_at, positions_without, clustered_positions, other_positions, kept_at}
use Rattle.schema_text.specs.IndexFields.{kept_fields, leaving_at, row_key, clustered_key, row_reference}
use Rattle.schema_text.specs.IndexFields.{clustered_rest, secondary_fields, key_fields, rest_fields, leaf_fields}
use Rattle.schema_text.specs.IndexFields.{node_fields}

abbrev among : List ℕ → ℕ → Bool
among others i = list_any (λ j. j == i) others

abbrev made_at : (Column → Field) → List Column → List ℕ → List Field
made_at f columns positions = map f (columns_at columns positions)

-- one more position that is among the others, or not
pub made_same : (f : Column → Field) (columns : List Column) (xs others : List ℕ) (p : ℕ) → among others p ≡ true
    → made_at f columns (positions_without (xs ++ p ∷ []) others) ≡ made_at f columns (positions_without xs others)
made_same f columns xs others p h =
    let test : ℕ → Bool = λ i. not (list_any (λ j. j == i) others) in
    ap (made_at f columns) (filter-append test xs (p ∷ []) ∙ ap (λ b. filter test xs ++ cond (not b) (p ∷ []) []) h
    ∙ append-nil (filter test xs))

pub made_more : (f : Column → Field) (columns : List Column) (xs others : List ℕ) (p : ℕ) (c : Column)
    → among others p ≡ false → slice_get columns p ≡ Some c
    → made_at f columns (positions_without (xs ++ p ∷ []) others) ≡ made_at f columns (positions_without xs others)
    ++ f c ∷ []
made_more f columns xs others p c h at =
    let test : ℕ → Bool = λ i. not (list_any (λ j. j == i) others) in
    let before = filter test xs in
    ap (made_at f columns) (filter-append test xs (p ∷ []) ∙ ap (λ b. before ++ cond (not b) (p ∷ []) []) h)
    ∙ ap (map f) (filter_map-append (slice_get columns) before (p ∷ [])
    ∙ ap (λ (o : Option Column). columns_at columns before ++ cons_option o []) at)
    ∙ map-append f (columns_at columns before) (c ∷ [])

-- the fields so far, with one more position
pub field_same : (f : Column
    → Field) (columns : List Column) (old now next : List Field) (xs ys others : List ℕ) (p : ℕ)
    → now ≡ old ++ made_at f columns (positions_without xs others) → ys ≡ xs ++ p ∷ [] → among others p ≡ true
    → next ≡ now → next ≡ old ++ made_at f columns (positions_without ys others)
field_same f columns old now next xs ys others p before grown h same =
    same ∙ before ∙ ap (λ made. old ++ made) (sym (made_same f columns xs others p h))
    ∙ ap (λ zs. old ++ made_at f columns (positions_without zs others)) (sym grown)

pub field_more : (f : Column
    → Field) (columns : List Column) (old now next : List Field) (xs ys others : List ℕ) (p : ℕ) (c : Column)
    → now ≡ old ++ made_at f columns (positions_without xs others) → ys ≡ xs ++ p ∷ [] → among others p ≡ false
    → p < length columns → c ≡ get_or columns p c → next ≡ now ++ f c ∷ []
    → next ≡ old ++ made_at f columns (positions_without ys others)
field_more f columns old now next xs ys others p c before grown h within at more =
    let there : slice_get columns p ≡ Some c = slice_get-get_or columns p c within ∙ ap Some (sym at) in
    more ∙ ap (λ fs. fs ++ f c ∷ []) before
    ∙ append_assoc old (made_at f columns (positions_without xs others)) (f c ∷ [])
    ∙ ap (λ made. old ++ made) (sym (made_more f columns xs others p c h there))
    ∙ ap (λ zs. old ++ made_at f columns (positions_without zs others)) (sym grown)

-- how many of a front are nullable
count_nullable : (a b : List Field) → nullable_count (a ++ b) ≡ nullable_count a + nullable_count b
count_nullable a b = ap length (filter-append (λ (f : Field). f.nullable) a b)
    ∙ length-append (filter (λ (f : Field). f.nullable) a) (filter (λ (f : Field). f.nullable) b)

-- each field of a list that goes together may follow those before it
pub may_follow : (fields : List Field) (nullable keys i : ℕ) (f d : Field)
    → AreListed (record { fields = fields; nullable = nullable; keys = keys }) → i < length fields
    → f ≡ get_or fields i d
    → CanFollow (record { fields = take i fields; nullable = nullable; keys = keys }) f
may_follow fields nullable keys i f d are within at =
    let short = length-take-le i fields (omega arith) in
    let grown : take i fields ++ f ∷ [] ≡ take (i + 1) fields = ap (λ g. take i fields ++ g ∷ []) at
    ∙ sym (take_more fields i d within) in
    let whole = sym (take-append-drop (i + 1) fields) in
    let counts = ap nullable_count whole ∙ count_nullable (take (i + 1) fields) (drop (i + 1) fields) in
    let child : Field = record { kind = Child; nullable = false; may_leave = false } in
    let here : f ≡ get_or fields i child = at ∙ get_or_default fields i d child within in
    record {
      few = omega (arith, short, are.few);
      kind = subst (λ (g : Field). IsFieldKind g.kind) (sym at) (are.kinds i d within);
      nullables = omega (arith, ap nullable_count grown, counts, are.nullables);
      leaving = λ leaves.
          let may = are.leaving i (ap (λ (g : Field). g.may_leave) (sym here) ∙ leaves) in
          (ap (λ (g : Field). is_big g.kind) here ∙ may.0, omega (arith, may.1, short));
    }

-- no position is among none
pub without_none : (xs : List ℕ) → positions_without xs [] ≡ xs
without_none [] = refl
without_none (x ∷ xs) = ap (λ rest. x ∷ rest) (without_none xs)

-- as many fields as positions, where these are known
a_column : (columns : List Column) (p : ℕ) → p < length columns → (c : Column) × (slice_get columns p ≡ Some c)
a_column [] p h = absurd (omega arith)
a_column (c ∷ columns) zero h = (c, refl)
a_column (c ∷ columns) (suc p) h = a_column columns p (omega arith)

pub length_made : (f : Column → Field) (columns : List Column) (positions : List ℕ)
    → All (λ i. i < length columns) positions → length (made_at f columns positions) ≡ length positions
length_made f columns [] known = refl
length_made f columns (p ∷ positions) known =
    let c = a_column columns p (All-head (λ i. i < length columns) p positions known) in
    ap (λ (o : Option Column). length (map f (cons_option o (columns_at columns positions)))) c.1
    ∙ ap (λ (n : ℕ). suc n) (length_made f columns positions (All-tail (λ i. i < length columns) p positions known))

-- at most as many fields as positions
few_options : (o : Option Column) (cs : List Column) → length (cons_option o cs) ≤ suc (length cs)
few_options None cs = omega arith
few_options (Some c) cs = omega arith

few_columns : (columns : List Column) (positions : List ℕ) → length (columns_at columns positions) ≤ length positions
few_columns columns [] = omega arith
few_columns columns (p ∷ positions) = omega
    (arith, few_options (slice_get columns p) (columns_at columns positions), few_columns columns positions)

few_filtered : (test : ℕ → Bool) (xs : List ℕ) → length (filter test xs) ≤ length xs
few_filtered test [] = omega arith
few_filtered test (x ∷ xs) = few_cond (test x) x (filter test xs) (length xs) (few_filtered test xs)
  where
    few_cond : (b : Bool) (x : ℕ) (ys : List ℕ) (n : ℕ) → length ys ≤ n → length (cond b (x ∷ ys) ys) ≤ suc n
    few_cond true x ys n h = omega arith
    few_cond false x ys n h = omega arith

pub few_made : (f : Column → Field) (columns : List Column) (positions others : List ℕ)
    → length (made_at f columns (positions_without positions others)) ≤ length positions
few_made f columns positions others =
    omega (
      arith,
      length-map (columns_at columns (positions_without positions others)) f,
      few_columns columns
          (positions_without positions others),
      few_filtered (λ i. not (list_any (λ j. j == i) others)) positions,
    )

-- the columns of a table that stand at some positions have its columns' facts
option_holds : (P : Column → Type 0) (o : Option Column) (cs : List Column) → ((c : Column) → o ≡ Some c → P c)
    → All P cs → All P (cons_option o cs)
option_holds P None cs h all = all
option_holds P (Some c) cs h all = All-cons P c cs (h c refl) all

at_holds : (P : Column → Type 0) (columns : List Column) (p : ℕ) (c : Column) → All P columns
    → slice_get columns p ≡ Some c → P c
at_holds P [] p c h e = cc
at_holds P (x ∷ columns) zero c h e = let same : x ≡ c = cc in subst P same (All-head P x columns h)
at_holds P (x ∷ columns) (suc p) c h e = at_holds P columns p c (All-tail P x columns h) e

columns_hold : (P : Column → Type 0) (columns : List Column) (positions : List ℕ) → All P columns
    → All P (columns_at columns positions)
columns_hold P columns [] h = All-nil P
columns_hold P columns (p ∷ positions) h =
    option_holds P (slice_get columns p) (columns_at columns positions) (λ c e. at_holds P columns p c h e)
    (columns_hold P columns positions h)

-- what a field of such a list is
pub record IsGood (f : Field) : Type 0 where
  pub kind : IsFieldKind f.kind
  pub leaves : f.may_leave ≡ true → is_big f.kind ≡ true

pub made_good : (f : Column → Field) (columns : List Column) (positions : List ℕ)
    → ((c : Column) → IsColumnType c.kind → IsGood (f c)) → All (λ (c : Column). IsColumnType c.kind) columns
    → All IsGood (made_at f columns positions)
made_good f columns positions good kinds =
    All-map IsGood f (columns_at columns positions)
    (All-weaker (λ (c : Column). IsColumnType c.kind) (λ (c : Column). IsGood (f c)) good
    (columns_at columns positions) (columns_hold (λ (c : Column). IsColumnType c.kind) columns positions kinds))

pub made_stays : (columns : List Column) (positions : List ℕ)
    → All (λ (f : Field). f.may_leave ≡ false) (made_at kept_field columns positions)
made_stays columns positions =
    All-map (λ (f : Field). f.may_leave ≡ false) kept_field (columns_at columns positions) (λ k d below. refl)

-- a key of fields that stay, and other fields, as a list that goes together
pub listed_of : (key rest : List Field) (nullable : ℕ) → All IsGood (key ++ rest)
    → All (λ (f : Field). f.may_leave ≡ false) key → length (key ++ rest) ≤ 128
    → nullable_count (key ++ rest) ≤ nullable
    → AreListed (record { fields = key ++ rest; nullable = nullable; keys = length key })
listed_of key rest nullable good stays few counts = record {
  few = few;
  kinds = All-weaker IsGood (λ (f : Field). IsFieldKind f.kind) (λ f h. h.kind) (key ++ rest) good;
  nullables = counts;
  leaving = λ i leaves.
      let child : Field = record { kind = Child; nullable = false; may_leave = false } in
      elim (cases_lt i (length (key ++ rest))) [
        | inl inside ↦ (
          (good i child inside).leaves leaves,
          elim (cases_lt i (length key)) [
            | inl front ↦ absurd (false≢true (sym (stays i child front)
                ∙ sym (ap (λ (f : Field). f.may_leave) (get_or_append_left key rest child i front)) ∙ leaves))
            | inr behind ↦ behind
          ],
        )
        | inr past ↦ absurd
            (false≢true (sym (ap (λ (f : Field). f.may_leave) (get_or_past (key ++ rest) i child past)) ∙ leaves))
      ];
}

length_range : (a n : ℕ) → length (range_with_len a n) ≡ n
length_range a zero = refl
length_range a (suc n) = ap (λ (k : ℕ). suc k) (length_range (a + 1) n)

-- the facts of some fields
pub record AreKept (fields : List Field) : Type 0 where
  pub good : All IsGood fields
  pub stay : All (λ (f : Field). f.may_leave ≡ false) fields

kept_good : (c : Column) → IsColumnType c.kind → IsGood (kept_field c)
kept_good c h = record { kind = h; leaves = λ e. absurd (false≢true e) }

leaving_good : (c : Column) → IsColumnType c.kind → IsGood (leaving_field c)
leaving_good c h = record { kind = h; leaves = λ e. e }

are_kept : (columns : List Column) (positions : List ℕ) → All (λ (c : Column). IsColumnType c.kind) columns
    → AreKept (made_at kept_field columns positions)
are_kept columns positions kinds = record {
  good = made_good kept_field columns positions kept_good kinds;
  stay = made_stays columns positions;
}

one_kept : (f : Field) → IsGood f → f.may_leave ≡ false → AreKept (f ∷ [])
one_kept f good stay = record {
  good = All-cons IsGood f [] good (All-nil IsGood);
  stay = All-cons (λ (f : Field). f.may_leave ≡ false) f [] stay (All-nil (λ (f : Field). f.may_leave ≡ false));
}

row_id_good : IsGood row_id_field
row_id_good = record { kind = tt; leaves = λ e. absurd (false≢true e) }

trx_id_good : IsGood trx_id_field
trx_id_good = record { kind = tt; leaves = λ e. absurd (false≢true e) }

roll_pointer_good : IsGood roll_pointer_field
roll_pointer_good = record { kind = tt; leaves = λ e. absurd (false≢true e) }

child_good : IsGood child_field
child_good = record { kind = tt; leaves = λ e. absurd (false≢true e) }

row_key_kept : (columns : List Column) (key positions : List ℕ) → All (λ (c : Column). IsColumnType c.kind) columns
    → AreKept (row_key columns key positions)
row_key_kept columns key positions kinds = by_test (length key == 0)
  where
    by_test : (b : Bool) → AreKept (cond b (row_id_field ∷ []) (made_at kept_field columns positions))
    by_test true = one_kept row_id_field row_id_good refl
    by_test false = are_kept columns positions kinds

row_key_few : (columns : List Column) (key positions others : List ℕ) → length positions ≤ 16
    → length (row_key columns key (positions_without positions others)) ≤ 16
row_key_few columns key positions others few = by_test (length key == 0)
  where
    by_test : (b : Bool)
        → length (cond b (row_id_field ∷ []) (made_at kept_field columns (positions_without positions others))) ≤ 16
    by_test true = omega arith
    by_test false = omega (arith, few, few_made kept_field columns positions others)

-- the key of an index is kept, and short
pub key_kept : (t : TableDef) (j : ℕ) → IsTable t → AreKept (key_fields t j)
key_kept t j is = by_test (j == 0)
  where
    by_test : (b : Bool) → AreKept (cond b (clustered_key t) (secondary_fields t (index_at t j).columns))
    by_test true = row_key_kept t.columns (clustered_positions t) (clustered_positions t) is.kinds
    by_test false =
        let own = are_kept t.columns (index_at t j).columns is.kinds in
        let row = row_key_kept t.columns (clustered_positions t)
        (positions_without (clustered_positions t) (index_at t j).columns) is.kinds in
        let a = kept_fields t (index_at t j).columns in
        let b = row_reference t (index_at t j).columns in
        record {
          good = All-append IsGood a b own.good row.good;
          stay = All-append (λ (f : Field). f.may_leave ≡ false) a b own.stay row.stay;
        }

index_key : (t : TableDef) (j : ℕ) → IsTable t → j < length t.indexes → IsKeyOf t (index_at t j)
index_key t j is within = is.keys j _ within

pub key_few : (t : TableDef) (j : ℕ) → IsTable t → j < length t.indexes → length (key_fields t j) ≤ 32
key_few t j is within = by_test (j == 0)
  where
    by_test : (b : Bool) → length (cond b (clustered_key t) (secondary_fields t (index_at t j).columns)) ≤ 32
    by_test true =
        let first = index_key t 0 is (omega arith) in
        let few = row_key_few t.columns (clustered_positions t) (clustered_positions t) [] first.most in
        omega (
          arith,
          few,
          ap (λ ps. length (row_key t.columns (clustered_positions t) ps))
              (without_none (clustered_positions t)),
        )
    by_test false =
        let first = index_key t 0 is (omega arith) in
        let own = index_key t j is within in
        let row = row_key_few t.columns (clustered_positions t) (clustered_positions t)
        (index_at t j).columns first.most in
        let mine = few_made kept_field t.columns (index_at t j).columns [] in
        let same = ap (λ ps. length (made_at kept_field t.columns ps)) (without_none (index_at t j).columns) in
        omega (
          arith,
          row,
          mine,
          same,
          own.most,
          length-append (kept_fields t (index_at t j).columns)
              (row_reference t (index_at t j).columns),
        )

pub rest_good : (t : TableDef) (j : ℕ) → IsTable t → All IsGood (rest_fields t j)
rest_good t j is = by_test (j == 0)
  where
    by_test : (b : Bool) → All IsGood (cond b (clustered_rest t) [])
    by_test true =
        let leaving = made_good leaving_field t.columns (other_positions t) leaving_good is.kinds in
        let others = leaving_at t.columns (other_positions t) in
        All-cons IsGood trx_id_field (roll_pointer_field ∷ others) trx_id_good
        (All-cons IsGood roll_pointer_field others roll_pointer_good leaving)
    by_test false = All-nil IsGood

pub rest_few : (t : TableDef) (j : ℕ) → IsTable t → length (rest_fields t j) ≤ 66
rest_few t j is = by_test (j == 0)
  where
    by_test : (b : Bool) → length (cond b (clustered_rest t) []) ≤ 66
    by_test true = omega (
      arith,
      few_made leaving_field t.columns (range_with_len 0 (length t.columns))
          (clustered_positions t),
      length_range 0 (length t.columns),
      is.columns,
    )
    by_test false = omega arith

pub leaf_listed : (t : TableDef) (j : ℕ) → IsTable t → j < length t.indexes
    → AreListed (record {
      fields = key_fields t j ++ rest_fields t j;
      nullable = nullable_count (key_fields t j ++ rest_fields t j);
      keys = length (key_fields t j);
    })
leaf_listed t j is within =
    let key = key_kept t j is in
    listed_of (key_fields t j) (rest_fields t j) _ (All-append IsGood (key_fields t j) (rest_fields t j) key.good
    (rest_good t j is)) key.stay
    (omega (arith, key_few t j is within, rest_few t j is, length-append (key_fields t j) (rest_fields t j)))
    (omega arith)

pub node_listed : (t : TableDef) (j : ℕ) → IsTable t → j < length t.indexes
    → AreListed (record {
      fields = key_fields t j ++ child_field ∷ [];
      nullable = nullable_count (key_fields t j ++ rest_fields t j);
      keys = length (key_fields t j);
    })
node_listed t j is within =
    let key = key_kept t j is in
    let one = one_kept child_field child_good refl in
    listed_of (key_fields t j) (child_field ∷ []) _
    (All-append IsGood (key_fields t j) (child_field ∷ []) key.good one.good) key.stay
    (omega (arith, key_few t j is within, length-append (key_fields t j) (child_field ∷ [])))
    (omega (
      arith,
      count_nullable (key_fields t j) (child_field ∷ []),
      count_nullable (key_fields t j)
          (rest_fields t j),
    ))

-- the list of leaf records, and of node pointers, from its parts
pub are_leaf : (t : TableDef) (j : ℕ) (key fields : List Field) (nullable keys : ℕ) → key ≡ key_fields t j
    → fields ≡ key ++ rest_fields t j → nullable ≡ nullable_count fields → keys ≡ length key
    → record { fields = fields; nullable = nullable; keys = keys } ≡ leaf_fields t j
unfolding leaf_fields
are_leaf t j key fields nullable keys k f n s = rw (n, s, f, k) refl

pub are_node : (t : TableDef) (j : ℕ) (key fields nodes : List Field) (nullable keys : ℕ) → key ≡ key_fields t j
    → fields ≡ key ++ rest_fields t j → nullable ≡ nullable_count fields → keys ≡ length key
    → nodes ≡ take keys fields ++ child_field ∷ []
    → record { fields = nodes; nullable = nullable; keys = keys } ≡ node_fields t j
unfolding node_fields
are_node t j key fields nodes nullable keys k f n s d =
    let front : take keys fields ≡ key = ap (take keys) f ∙ take_at key (rest_fields t j) keys (sym s) in
    rw (d, front, n, s, f, k) refl

pub leaf_good : (t : TableDef) (j : ℕ) → IsTable t → j < length t.indexes → AreFields (leaf_fields t j)
unfolding leaf_fields
leaf_good t j is within = record {
  listed = leaf_listed t j is within;
  has_keys = omega (arith, length-append (key_fields t j) (rest_fields t j));
}

pub node_good : (t : TableDef) (j : ℕ) → IsTable t → j < length t.indexes → AreFields (node_fields t j)
unfolding node_fields
node_good t j is within = record {
  listed = node_listed t j is within;
  has_keys = omega (arith, length-append (key_fields t j) (child_field ∷ []));
}

pub clustered_made : (t : TableDef) (none fields : List Field) (columns : List Column) (key : List ℕ) → none ≡ []
    → columns ≡ t.columns → key ≡ clustered_positions t
    → fields ≡ none ++ row_key columns key (positions_without key []) → fields ≡ clustered_key t
clustered_made t none fields columns key n e k made =
    made ∙ rw (n, e, k) (ap (row_key t.columns (clustered_positions t)) (without_none (clustered_positions t)))

pub secondary_made : (t : TableDef) (j : ℕ) (none before fields : List Field) (a b : List Column) (own key : List ℕ)
    → none ≡ [] → a ≡ t.columns → b ≡ t.columns → own ≡ (index_at t j).columns → key ≡ clustered_positions t
    → before ≡ none ++ kept_at a (positions_without own [])
    → fields ≡ before ++ row_key b key (positions_without key own)
    → fields ≡ secondary_fields t (index_at t j).columns
secondary_made t j none before fields a b own key n x y o k first second =
    second ∙ rw (first, n, x, y, o, k) (ap (λ ps. kept_at t.columns ps ++ row_reference t (index_at t j).columns)
    (without_none (index_at t j).columns))

-- the key of an index, and its leaf fields, as they were built
pub record AreBuilt (t : TableDef) (j : ℕ) (key fields : List Field) (nullable keys : ℕ) : Type 0 where
  pub table : IsTable t
  pub within : j < length t.indexes
  pub key_is : key ≡ key_fields t j
  pub fields_are : fields ≡ key ++ rest_fields t j
  pub count : nullable ≡ nullable_count fields
  pub size : keys ≡ length key

pub built_few : (t : TableDef) (j : ℕ) (key fields : List Field) (nullable keys : ℕ)
    → AreBuilt t j key fields nullable keys → (length fields ≤ 98) × (keys ≤ 32)
built_few t j key fields nullable keys h =
    let key_short = key_few t j h.table h.within in
    let rest_short = rest_few t j h.table in
    let size = ap length h.key_is in
    let whole = ap length h.fields_are in (
      omega (arith, key_short, rest_short, size, whole, length-append key (rest_fields t j)),
      omega
          (arith, key_short, size, h.size),
    )

pub built_leaf : (t : TableDef) (j : ℕ) (key fields : List Field) (nullable keys : ℕ)
    → AreBuilt t j key fields nullable keys
    → record { fields = fields; nullable = nullable; keys = keys } ≡ leaf_fields t j
built_leaf t j key fields nullable keys h = are_leaf t j key fields nullable keys h.key_is h.fields_are h.count h.size

pub built_node : (t : TableDef) (j : ℕ) (key fields nodes : List Field) (nullable keys : ℕ)
    → AreBuilt t j key fields nullable keys → nodes ≡ take keys fields ++ child_field ∷ []
    → record { fields = nodes; nullable = nullable; keys = keys } ≡ node_fields t j
built_node t j key fields nodes nullable keys h d =
    are_node t j key fields nodes nullable keys h.key_is h.fields_are h.count h.size d
