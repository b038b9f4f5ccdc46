-- The fields of the columns of an entry, one by one.
use Rattle.std.proofs.Common.{◌≡◌, ℕ, ◌+◌, ◌<◌, Bool, true, false, not, cond, List, [], ◌∷◌, ◌++◌, length, get_or, map}
use Rattle.std.proofs.Common.{take, filter, refl, sym, ap, ◌∙◌, arith, append_assoc, All}
use Rattle.std.specs.Prelude.{◌==◌}
use Rattle.std.specs.List.{list_any}
use Rattle.std.proofs.lemmas.Bool.{eqb-true}
use Rattle.std.proofs.lemmas.Bool.Decides.{nat_tests}
use Rattle.std.proofs.lemmas.List.{append-nil, map-append}
use Rattle.std.proofs.lemmas.List.Elements.{All-head, All-tail, All-filter, filter_more}
use Rattle.std.proofs.lemmas.List.FromFn.{get_or-map-range_with_len, length-map-range_with_len}
use Rattle.schema_text.specs.TableDef.{TableDef, index_at}
use Rattle.schema_text.specs.IndexFields.{positions_without, field_of_column, clustered_positions, fields_of_columns}
use Rattle.schema_text.specs.IndexFields.{entry_fields, entry_columns, hidden_fields}
use Rattle.schema_text.proofs.FieldLemmas.{without_none}

-- the field of a column, and how many there are, in the list of all columns' fields
pub field_at_column : (table : TableDef) (at : List ℕ) (c d : ℕ) → at ≡ fields_of_columns table
    → c < length table.columns → get_or at c d ≡ field_of_column table c
field_at_column table at c d are within =
    ap (λ (xs : List ℕ). get_or xs c d) are
    ∙ get_or-map-range_with_len (field_of_column table) 0 (length table.columns) c c d within (omega arith)

pub length_fields : (table : TableDef) (at : List ℕ) → at ≡ fields_of_columns table → length at ≡ length table.columns
length_fields table at are =
    ap length are ∙ length-map-range_with_len (field_of_column table) 0 (length table.columns)

module _ (at columns others old now : List ℕ) (n d place : ℕ) (within : n < length columns)
    (is : place ≡ get_or columns n d)
    (so : now ≡ old ++ map (λ c. get_or at c 0) (positions_without (take n columns) others)) where
  abbrev field : ℕ → ℕ
  field c = get_or at c 0

  abbrev passes : ℕ → Bool
  passes i = not (list_any (λ j. j == i) others)

  more : (b : Bool) → list_any (λ j. j == place) others ≡ b
      → positions_without (take (n + 1) columns) others
      ≡ positions_without (take n columns) others ++ cond (not b) (place ∷ []) []
  more b among =
      filter_more passes columns n d within
      ∙ ap (λ (c : ℕ). filter passes (take n columns) ++ cond (passes c) (c ∷ []) []) (sym is)
      ∙ ap (λ (t : Bool). filter passes (take n columns) ++ cond (not t) (place ∷ []) []) among

  -- one of the others adds nothing
  pub column_passed : list_any (λ j. j == place) others ≡ true
      → now ≡ old ++ map field (positions_without (take (n + 1) columns) others)
  column_passed among =
      so ∙ ap (λ (list : List ℕ). old ++ map field list)
      (sym (more true among ∙ append-nil (positions_without (take n columns) others)))

  -- a column that isn't among them adds its field
  pub column_added : (next : List ℕ) (f : ℕ) → list_any (λ j. j == place) others ≡ false → f ≡ get_or at place 0
      → next ≡ now ++ f ∷ [] → next ≡ old ++ map field (positions_without (take (n + 1) columns) others)
  column_added next f among at_place grown =
      let front = positions_without (take n columns) others in
      grown ∙ ap (λ (list : List ℕ). list ++ f ∷ []) so
      ∙ append_assoc old (map field front) (f ∷ [])
      ∙ ap (λ (g : ℕ). old ++ (map field front ++ g ∷ [])) at_place
      ∙ ap (λ (list : List ℕ). old ++ list) (sym (map-append field front (place ∷ [])))
      ∙ ap (λ (list : List ℕ). old ++ map field list) (sym (more false among))

-- the field of a column, by the list of all
fields_same : (table : TableDef) (at columns : List ℕ) → at ≡ fields_of_columns table
    → All (λ c. c < length table.columns) columns
    → map (λ c. get_or at c 0) columns ≡ map (field_of_column table) columns
fields_same table at [] are known = refl
fields_same table at (c ∷ columns) are known =
    rw (
      field_at_column table at c 0 are (All-head (λ c. c < length table.columns) c columns known),
      fields_same table at columns are (All-tail (λ c. c < length table.columns) c columns known),
    )
    refl

-- the fields of an entry: those of its columns, and the row id where there is no clustered key
module _ (table : TableDef) (i : ℕ) (at own key old one two : List ℕ) (are : at ≡ fields_of_columns table)
    (own_is : own ≡ (index_at table i).columns) (key_is : key ≡ clustered_positions table)
    (own_known : All (λ c. c < length table.columns) own) (key_known : All (λ c. c < length table.columns) key)
    (first : one ≡ old ++ map (λ c. get_or at c 0) (positions_without own []))
    (second : two ≡ one ++ map (λ c. get_or at c 0) (positions_without key own)) where
  columns_added : two ≡ old ++ map (field_of_column table) (own ++ positions_without key own)
  columns_added =
      let rest = positions_without key own in
      let rest_known = All-filter (λ i. not (list_any (λ j. j == i) own)) (λ c. c < length table.columns) key
      key_known in
      second
      ∙ ap (λ (list : List ℕ). list ++ map (λ c. get_or at c 0) rest) (first
      ∙ ap (λ (list : List ℕ). old ++ map (λ c. get_or at c 0) list) (without_none own))
      ∙ append_assoc old (map (λ c. get_or at c 0) own) (map (λ c. get_or at c 0) rest)
      ∙ ap (λ (list : List ℕ). old ++ (list ++ map (λ c. get_or at c 0) rest)) (fields_same table at own are own_known)
      ∙ ap (λ (list : List ℕ). old ++ (map (field_of_column table) own ++ list))
      (fields_same table at rest are rest_known)
      ∙ ap (λ (list : List ℕ). old ++ list) (sym (map-append (field_of_column table) own rest))

  pub entry_with_key : (length key == 0) ≡ false → two ≡ old ++ entry_fields table i
  unfolding entry_fields
  entry_with_key some =
      let hidden : hidden_fields table ≡ [] = rw (sym key_is, some) refl in
      columns_added ∙ rw (own_is, key_is) refl
      ∙ sym (ap (λ (list : List ℕ). old ++ (map (field_of_column table) (entry_columns table i) ++ list)) hidden
      ∙ ap (λ (list : List ℕ). old ++ list) (append-nil (map (field_of_column table) (entry_columns table i))))

  pub entry_with_id : (length key == 0) ≡ true → (next : List ℕ) → next ≡ two ++ 0 ∷ []
      → next ≡ old ++ entry_fields table i
  unfolding entry_fields
  entry_with_id none next grown =
      let hidden : hidden_fields table ≡ 0 ∷ [] = rw (sym key_is, none) refl in
      grown ∙ ap (λ (list : List ℕ). list ++ 0 ∷ []) (columns_added ∙ rw (own_is, key_is) refl)
      ∙ append_assoc old (map (field_of_column table) (entry_columns table i)) (0 ∷ [])
      ∙ sym (ap (λ (list : List ℕ). old ++ (map (field_of_column table) (entry_columns table i) ++ list)) hidden)

-- whether there are none
pub is_none : (n : ℕ) → n ≡ 0 → (n == 0) ≡ true
is_none n e = grind (arith, nat_tests, e)

pub is_some : (n : ℕ) → (n ≡ 0 → ⊥) → (n == 0) ≡ false
is_some n some = by_test (n == 0) refl
  where
    by_test : (b : Bool) → (n == 0) ≡ b → (n == 0) ≡ false
    by_test true e = absurd (some (eqb-true n 0 e))
    by_test false e = e
