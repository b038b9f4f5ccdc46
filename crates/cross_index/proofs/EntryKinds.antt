-- The kinds of an entry's fields, among which each field of the clustered key is.
use Rattle.std.proofs.Common.{◌≡◌, ◌≢◌, ℕ, ◌+◌, ◌<◌, ◌≤◌, Bool, true, false, not, cond, List, [], ◌∷◌}
use Rattle.std.proofs.Common.{◌++◌}
use Rattle.std.proofs.Common.{length, get_or, map, All, Contains, Option, refl, sym, ap, ◌∙◌}
use Rattle.std.proofs.Common.{subst}
use Rattle.std.proofs.Common.{arith, append_assoc, length-append}
use Rattle.std.specs.Prelude.{◌==◌, if◌then◌else◌}
use Rattle.std.specs.List.{list_any, cons_option, position_or_len}
use Rattle.std.proofs.lemmas.Bool.{eqb-true}
use Rattle.std.proofs.lemmas.Bool.Decides.{nat_tests}
use Rattle.std.proofs.lemmas.Option.{slice_get-get_or}
use Rattle.std.proofs.lemmas.List.{get_or_default, get_or_append_left, get_or_at, get_or-map}
use Rattle.std.proofs.lemmas.List.{append-nil}
use Rattle.std.proofs.lemmas.List.{length-map, map-append, take_at}
use Rattle.std.proofs.lemmas.List.Elements.{All-head, All-tail, All-filter}
use Rattle.std.proofs.lemmas.List.Elements.{Contains-append_left}
use Rattle.std.proofs.lemmas.List.Elements.{Contains-append_right}
use Rattle.std.proofs.lemmas.List.Folds.{Any-from_list_any, list_any-from_Any}
use Rattle.std.proofs.lemmas.List.Sums.{position_or_len_is}
use Rattle.page_source.proofs.Members.{contains_filter}
use Rattle.column_values.specs.declared.field.Field.{Field}
use Rattle.column_values.specs.declared.field.FieldType.{FieldType}
use Rattle.column_values.specs.declared.field.FieldType.TheVariants as kinds
use Rattle.column_values.specs.Types.{field_at}
use Rattle.schema_text.specs.declared.table.Column.{Column}
use Rattle.schema_text.specs.TableDef.{TableDef, index_at, column_at}
use Rattle.schema_text.specs.Grammar.{IsTable, IsKeyOf}
use Rattle.schema_text.specs.IndexFields.{leaf_fields, clustered_positions, clustered_key, field_of_column, kept_at}
use Rattle.schema_text.specs.IndexFields.{kept_field, columns_at, row_key as key_of_row, positions_without}
use Rattle.schema_text.specs.IndexFields.{row_id_field}
use Rattle.schema_text.specs.IndexFields.{secondary_fields}
use Rattle.schema_text.proofs.ColumnFields.{holds_column, length_known}
use Rattle.schema_text.specs.IndexFields.{entry_columns, hidden_fields, entry_fields}
use Rattle.cross_index.specs.Entries.{entry_kinds}

-- the kind of a column's field
abbrev kind_of_column : TableDef → ℕ → FieldType
kind_of_column table c = kinds.Column (column_at table c).kind

-- the kind of the hidden row id, where there is no clustered key
abbrev hidden_kinds : TableDef → List FieldType
hidden_kinds table = if length (clustered_positions table) == 0 then kinds.RowId ∷ [] else []

abbrev pub kind_in : Field → FieldType
kind_in f = f.kind

-- the kinds of the columns at known positions
kept_kinds : (table : TableDef) (positions : List ℕ) → All (λ c. c < length table.columns) positions
    → map kind_in (kept_at table.columns positions) ≡ map (kind_of_column table) positions
kept_kinds table [] known = refl
kept_kinds table (c ∷ positions) known =
    let here : c < length table.columns = All-head (λ c. c < length table.columns) c positions known in
    let rest = kept_kinds table positions (All-tail (λ c. c < length table.columns) c positions known) in
    let found = slice_get-get_or table.columns c (column_at table (length table.columns)) here in
    let split : columns_at table.columns (c ∷ positions)
    ≡ get_or table.columns c (column_at table (length table.columns)) ∷ columns_at table.columns positions =
    ap (λ (o : Option Column). cons_option o (columns_at table.columns positions)) found in
    let first : kind_of_column table c
    ≡ kinds.Column (get_or table.columns c (column_at table (length table.columns))).kind =
    ap (λ (x : Column). kinds.Column x.kind) (get_or_default table.columns c _ _ here) in
    ap (λ (cs : List Column). map kind_in (map kept_field cs)) split ∙ rw (first, rest) refl

-- the positions among some are known where all are
pub all_without : (P : ℕ → Type 0) (all others : List ℕ) → All P all → All P (positions_without all others)
all_without P all others h = All-filter (λ i. not (list_any (λ j. j == i) others)) P all h

-- the kinds of an entry: those of its columns, and that of the hidden row id where it has one
module _ (table : TableDef) (i : ℕ) (is : IsTable table) (within : i < length table.indexes) (second : 1 ≤ i) where
  abbrev key : List ℕ
  key = clustered_positions table

  abbrev own : List ℕ
  own = (index_at table i).columns

  own_key : IsKeyOf table (index_at table i)
  own_key = is.keys i _ within

  clustered_is : IsKeyOf table (index_at table 0)
  clustered_is = is.keys 0 _ (omega (arith, is.clustered))

  key_part : (positions : List ℕ) → All (λ c. c < length table.columns) positions → (none : Bool)
      → (none ≡ true → positions ≡ [])
      → map kind_in (cond none (row_id_field ∷ []) (kept_at table.columns positions))
      ≡ map (kind_of_column table) positions ++ cond none (kinds.RowId ∷ []) []
  key_part positions known true none = rw (none refl) refl
  key_part positions known false none =
      kept_kinds table positions known ∙ sym (append-nil (map (kind_of_column table) positions))

  none_without : (length key == 0) ≡ true → positions_without key own ≡ []
  none_without none = no_positions key (eqb-true (length key) 0 none)
    where
      no_positions : (list : List ℕ) → length list ≡ 0 → positions_without list own ≡ []
      no_positions [] e = refl
      no_positions (x ∷ list) e = absurd (omega (arith, e))

  not_first : (i == 0) ≡ false
  not_first = grind (arith, nat_tests, second)

  key_kinds_are : entry_kinds table i ≡ map kind_in (secondary_fields table own)
  unfolding leaf_fields
  key_kinds_are =
      rw not_first
      (ap (map kind_in) (take_at (secondary_fields table own) [] (length (secondary_fields table own)) refl))

  -- the kinds of an entry
  pub kinds_are : entry_kinds table i ≡ map (kind_of_column table) (entry_columns table i) ++ hidden_kinds table
  kinds_are =
      let rest = positions_without key own in
      let known = own_key.known in
      let rest_known = all_without (λ c. c < length table.columns) key own clustered_is.known in
      key_kinds_are
      ∙ map-append kind_in (kept_at table.columns own) (key_of_row table.columns key rest)
      ∙ ap (λ (list : List FieldType). list ++ map kind_in (key_of_row table.columns key rest)) (kept_kinds table own
      known)
      ∙ ap (λ (list : List FieldType). map (kind_of_column table) own ++ list)
      (key_part rest rest_known (length key == 0) none_without)
      ∙ sym (append_assoc (map (kind_of_column table) own) (map (kind_of_column table) rest) (hidden_kinds table))
      ∙ ap (λ (list : List FieldType). list ++ hidden_kinds table) (sym (map-append (kind_of_column table) own rest))

  hidden_size : (none : Bool) → length (cond none (kinds.RowId ∷ []) []) ≡ length {A = ℕ} (cond none (0 ∷ []) [])
  hidden_size true = refl
  hidden_size false = refl

  -- there are as many as fields
  pub kinds_size : length (entry_kinds table i) ≡ length (entry_fields table i)
  unfolding entry_fields
  kinds_size =
      let list = entry_columns table i in
      ap length kinds_are
      ∙ length-append (map (kind_of_column table) list) (hidden_kinds table)
      ∙ ap (λ (n : ℕ). n + length (hidden_kinds table)) (length-map list (kind_of_column table)
      ∙ sym (length-map list (field_of_column table)))
      ∙ ap (λ (n : ℕ). length (map (field_of_column table) list) + n) (hidden_size (length key == 0))
      ∙ sym (length-append (map (field_of_column table) list) (hidden_fields table))

  -- a column of the clustered key is among those of the entry
  has_key_column : (c : ℕ) → Contains key c → Contains (entry_columns table i) c
  has_key_column c among = by_test (list_any (λ j. j == c) own) refl
    where
      by_test : (b : Bool) → list_any (λ j. j == c) own ≡ b → Contains (entry_columns table i) c
      by_test true any =
          let (n, x, inside, at, same) = Any-from_list_any (λ j. j == c) own any in
          let e : x ≡ c = eqb-true x c same in
          Contains-append_left own (positions_without key own) c
          (subst (Contains own) e (n, inside, at))
      by_test false none =
          Contains-append_right own (positions_without key own) c
          (contains_filter (λ j. not (list_any (λ k. k == j) own)) key c among (ap not none))

  -- field k of the row is one of the entry, of the same kind
  pub record Covers (k : ℕ) : Type 0 where
    pub place : ℕ
    pub inside : place < length (entry_fields table i)
    pub is_field : get_or (entry_fields table i) place 0 ≡ k
    pub is_kind : get_or (entry_kinds table i) place kinds.RowId ≡ (field_at (leaf_fields table 0) k).kind

  field_in_key : (c : ℕ) → list_any (λ j. j == c) key ≡ true
      → field_of_column table c ≡ position_or_len (λ j. j == c) key
  unfolding field_of_column
  field_in_key c among = rw among refl

  -- a column of the key
  covers_column : (k : ℕ) → k < length key → Covers k
  unfolding entry_fields
  covers_column k inside =
      let c = get_or key k 0 in
      let list = entry_columns table i in
      let known : c < length table.columns = clustered_is.known k 0 inside in
      let (n, less, at) = has_key_column c (k, inside, get_or_default key k c 0 inside) in
      let at0 : get_or list n 0 ≡ c = get_or_default list n 0 c less ∙ at in
      let first : position_or_len (λ j. j == c) key ≡ k =
      position_or_len_is (λ j. j == c) key k 0 (omega (arith, inside))
      (λ m before. not_same (get_or key m 0) c (clustered_is.distinct m k 0 before inside))
      (λ _. same_number c) in
      let field : field_of_column table c ≡ k = field_in_key c (in_key c k inside refl) ∙ first in
      let count = length-map list (field_of_column table) in
      let kinds_count = length-map list (kind_of_column table) in
      let all = length-append (map (field_of_column table) list) (hidden_fields table) in
      record {
        place = n;
        inside = omega (arith, less, count, all);
        is_field = get_or_append_left (map (field_of_column table) list) (hidden_fields table) 0 n (omega (
          arith,
          less,
          count,
        ))
            ∙ get_or-map (field_of_column table) list n 0 0 less ∙ ap (field_of_column table) at0 ∙ field;
        is_kind = ap (λ (ks : List FieldType). get_or ks n kinds.RowId) kinds_are
            ∙ get_or_append_left (map (kind_of_column table) list) (hidden_kinds table) kinds.RowId n (omega (
              arith,
              less,
              kinds_count,
            ))
            ∙ get_or-map (kind_of_column table) list n 0 kinds.RowId less ∙ ap (kind_of_column table) at0
            ∙ sym (holds_column table c is known).kind
            ∙ ap (λ (m : ℕ). (field_at (leaf_fields table 0) m).kind) field;
      }
    where
      same_number : (c : ℕ) → (c == c) ≡ true
      same_number c = grind (arith, nat_tests)

      not_same : (a b : ℕ) → a ≢ b → (a == b) ≡ false
      not_same a b differ = by_eq (a == b) refl
        where
          by_eq : (t : Bool) → (a == b) ≡ t → (a == b) ≡ false
          by_eq true e = absurd (differ (eqb-true a b e))
          by_eq false e = e

      in_key : (c k : ℕ) → k < length key → get_or key k 0 ≡ c → list_any (λ j. j == c) key ≡ true
      in_key c k inside at =
          list_any-from_Any (λ j. j == c) key (k, c, inside, get_or_default key k c 0 inside ∙ at, same_number c)

  -- the hidden row id
  covers_hidden : (k : ℕ) → length key ≡ 0 → k < 1 → Covers k
  unfolding entry_fields leaf_fields
  covers_hidden k none inside =
      let list = entry_columns table i in
      let is_none : (length key == 0) ≡ true = grind (arith, nat_tests, none) in
      let e : 0 ≡ k = omega (arith, inside) in
      let count = length-map list (field_of_column table) in
      let kinds_count = length-map list (kind_of_column table) in
      let hidden : hidden_fields table ≡ 0 ∷ [] = rw is_none refl in
      let hidden_kind : hidden_kinds table ≡ kinds.RowId ∷ [] = rw is_none refl in
      let all = length-append (map (field_of_column table) list) (hidden_fields table) in
      let one : length (hidden_fields table) ≡ 1 = ap length hidden in
      record {
        place = length list;
        inside = omega (arith, count, all, one);
        is_field = ap (λ (fs : List ℕ). get_or (map (field_of_column table) list ++ fs) (length list) 0) hidden
            ∙ get_or_at (map (field_of_column table) list) 0 [] 0 (length list) count ∙ e;
        is_kind = ap (λ (ks : List FieldType). get_or ks (length list) kinds.RowId) kinds_are
            ∙ ap (λ (ks : List FieldType). get_or (map (kind_of_column table) list ++ ks) (length list) kinds.RowId)
            hidden_kind
            ∙ get_or_at (map (kind_of_column table) list) kinds.RowId [] kinds.RowId (length list) kinds_count
            ∙ subst (λ (m : ℕ). kinds.RowId ≡ (field_at (leaf_fields table 0) m).kind) e (rw is_none refl);
      }

  -- each field of the clustered key is one of the entry
  pub covers : (k : ℕ) → k < (leaf_fields table 0).keys → Covers k
  unfolding leaf_fields
  covers k inside = by_test (length key == 0) refl
    where
      by_test : (none : Bool) → (length key == 0) ≡ none → Covers k
      by_test true e =
          let one : (leaf_fields table 0).keys ≡ 1 = rw e refl in
          covers_hidden k (eqb-true (length key) 0 e) (omega (arith, inside, one))
      by_test false e =
          let kept : clustered_key table ≡ kept_at table.columns key = rw e refl in
          let count = length-map (columns_at table.columns key) kept_field
          ∙ length_known table.columns key clustered_is.known in
          let all : (leaf_fields table 0).keys ≡ length (kept_at table.columns key) = ap length kept in
          covers_column k (omega (arith, inside, all, count))
