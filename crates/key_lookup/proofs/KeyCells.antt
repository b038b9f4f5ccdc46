-- The fields of a key, from its values.
use Rattle.std.proofs.Common.{◌≡◌, ℕ, zero, suc, ◌+◌, ◌<◌, ◌≤◌, Bool, true, false, List, [], ◌∷◌, ◌++◌, length, take}
use Rattle.std.proofs.Common.{map, get_or}
use Rattle.std.proofs.Common.{Option, Some, refl, sym, ap, ◌∙◌, subst, cond, eqb, arith}
use Rattle.std.specs.Prelude.{All, slice_get, slice_index_or, filter_map, zip}
use Rattle.std.specs.List.{AllZip, cons_option}
use Rattle.std.proofs.lemmas.List.{length-map}
use Rattle.std.proofs.lemmas.List.Elements.{All-head, All-tail}
use Rattle.std.proofs.lemmas.Option.{slice_get-get_or}
use Rattle.column_values.specs.declared.value.Value.{Value}
use Rattle.column_values.specs.declared.value.Value.TheVariants as values
use Rattle.column_values.specs.Order.{Key}
use Rattle.column_values.specs.Spell.{IsValueOf}
use Rattle.schema_text.specs.declared.table.Column.{Column}
use Rattle.schema_text.specs.declared.table.IndexDef.{IndexDef}
use Rattle.schema_text.specs.TableDef.{TableDef, index_columns}
use Rattle.schema_text.specs.Grammar.{IsTable}
use Rattle.schema_text.specs.IndexFields.{clustered_positions, leaf_fields, row_id_field, kept_field, kept_fields}
use Rattle.row_text.specs.Line.{FitsColumn}
use Rattle.row_text.specs.KeyText.{key_columns, id_cell, column_cell, key_of_values}
use Rattle.row_text.specs.KeyText.{IsRowIdText, IsColumnsText, IsKeyTextOf}
use Rattle.std.specs.Prelude.{MatchBool, IfOk, Result, Ok, Err}
use Rattle.std.proofs.Math.Seq.{take-length}

abbrev no_index : IndexDef
no_index = record { name = []; root = 0; columns = []; line = 0 }

abbrev IsPlace : List Column → ℕ → Type 0
IsPlace columns i = i < length columns

-- the columns at places: the first one, and the others
places_step : (columns : List Column) (i : ℕ) (places : List ℕ) (d : Column) → All (IsPlace columns) (i ∷ places)
    → filter_map (slice_get columns) (i ∷ places) ≡ get_or columns i d ∷ filter_map (slice_get columns) places
places_step columns i places d within =
    ap (λ (o : Option Column). cons_option o (filter_map (slice_get columns) places))
    (slice_get-get_or columns i d (All-head (IsPlace columns) i places within))

pub places_count : (columns : List Column) (places : List ℕ) → All (IsPlace columns) places
    → length (filter_map (slice_get columns) places) ≡ length places
places_count [] [] within = refl
places_count [] (i ∷ places) within = absurd (omega (arith, All-head (IsPlace []) i places within))
places_count (c ∷ columns) [] within = refl
places_count (c ∷ columns) (i ∷ places) within =
    ap length (places_step (c ∷ columns) i places c within)
    ∙ ap suc (places_count (c ∷ columns) places (All-tail (IsPlace (c ∷ columns)) i places within))

pub places_at : (columns : List Column) (places : List ℕ) (k : ℕ) (d : Column) → All (IsPlace columns) places
    → k < length places → slice_get (filter_map (slice_get columns) places) k
    ≡ Some (get_or columns (get_or places k 0) d)
places_at columns [] k d within lt = absurd (omega (arith, lt))
places_at columns (i ∷ places) zero d within lt =
    ap (λ (cs : List Column). slice_get cs 0) (places_step columns i places d within)
places_at columns (i ∷ places) (suc k) d within lt =
    ap (λ (cs : List Column). slice_get cs (suc k)) (places_step columns i places d within)
    ∙ places_at columns places k d (All-tail (IsPlace columns) i places within) (omega (arith, lt))

pub places_size : (columns : List Column) (places items : List ℕ) → items ≡ places → All (IsPlace columns) items
    → length (filter_map (slice_get columns) places) ≡ length items
places_size columns places items same within =
    ap (λ (ps : List ℕ). length (filter_map (slice_get columns) ps)) (sym same) ∙ places_count columns items within

-- the column that was read by its place
pub column_read : (columns cols : List Column) (places items : List ℕ) (k index : ℕ) (column : Column) → items ≡ places
    → cols ≡ columns → All (IsPlace columns) items → k < length items → index ≡ get_or items k 0
    → column ≡ get_or cols index column → slice_get (filter_map (slice_get columns) places) k ≡ Some column
column_read columns cols places items k index column same whole within lt place is =
    let here : column ≡ get_or columns (get_or items k 0) column =
    is ∙ ap (λ (cs : List Column). get_or cs index column) whole ∙ ap (λ (i : ℕ). get_or columns i column) place in
    ap (λ (ps : List ℕ). slice_get (filter_map (slice_get columns) ps) k) (sym same)
    ∙ places_at columns items k column within lt ∙ ap Some (sym here)

-- none of them can be null
pub held_at : (columns : List Column) (k : ℕ) (c : Column) → All (λ (column : Column). column.nullable ≡ false) columns
    → slice_get columns k ≡ Some c → c.nullable ≡ false
held_at [] k c all e = absurd (cc)
held_at (d ∷ columns) zero c all e =
    let x : d ≡ c = cc in
    subst (λ (q : Column). q.nullable ≡ false) x (All-head (λ (column : Column). column.nullable ≡ false) d columns all)
held_at (d ∷ columns) (suc k) c all e =
    held_at columns k c (All-tail (λ (column : Column). column.nullable ≡ false) d columns all) e

-- values of columns are as many
pub fitting_count : (columns : List Column) (row : List Value) → AllZip FitsColumn columns row
    → length row ≡ length columns
fitting_count [] [] fits = refl
fitting_count [] (v ∷ row) fits = absurd fits
fitting_count (c ∷ columns) [] fits = absurd fits
fitting_count (c ∷ columns) (v ∷ row) fits = ap suc (fitting_count columns row fits.1)

-- each fits its column
pub fits_at : (columns : List Column) (row : List Value) (k : ℕ) (c : Column) (v : Value)
    → AllZip FitsColumn columns row → slice_get columns k ≡ Some c → slice_get row k ≡ Some v → FitsColumn c v
fits_at [] row k c v fits e f = absurd (cc)
fits_at (d ∷ columns) [] k c v fits e f = absurd (cc)
fits_at (d ∷ columns) (w ∷ row) zero c v fits e f =
    let x : d ≡ c = cc in
    let y : w ≡ v = cc in
    subst (λ (q : Column). FitsColumn q v) x (subst (FitsColumn d) y fits.0)
fits_at (d ∷ columns) (w ∷ row) (suc k) c v fits e f = fits_at columns row k c v fits.1 e f

-- a value that isn't null is one of its column's type
pub value_of : (c : Column) (v : Value) → FitsColumn c v → c.nullable ≡ false → IsValueOf c.kind v
value_of c values.Null fits held = absurd (cc)
value_of c (values.Signed z) fits held = fits
value_of c (values.Unsigned n) fits held = fits
value_of c (values.Date year month day) fits held = fits
value_of c (values.Text text) fits held = fits
value_of c (values.Bytes bytes) fits held = fits
value_of c (values.DateTime year month day hour minute second micro) fits held = fits
value_of c (values.Timestamp seconds micro) fits held = fits
value_of c (values.Year year) fits held = fits
value_of c (values.Decimal units) fits held = fits

-- the fields of the values of these columns
abbrev pub cells : List Column → List Value → Key
cells columns row = map column_cell (zip columns row)

-- one field more
pub cells_more : (columns : List Column) (row : List Value) (k : ℕ) (c : Column) (v : Value)
    → slice_get columns k ≡ Some c → slice_get row k ≡ Some v
    → take (suc k) (cells columns row) ≡ take k (cells columns row) ++ column_cell (c, v) ∷ []
cells_more [] row k c v e f = absurd (cc)
cells_more (d ∷ columns) [] k c v e f = absurd (cc)
cells_more (d ∷ columns) (w ∷ row) zero c v e f =
    let x : d ≡ c = cc in
    let y : w ≡ v = cc in
    rw (x, y) refl
cells_more (d ∷ columns) (w ∷ row) (suc k) c v e f =
    ap (λ (fields : Key). column_cell (d, w) ∷ fields) (cells_more columns row k c v e f)

pub cells_count : (columns : List Column) (row : List Value) → length row ≡ length columns
    → length (cells columns row) ≡ length columns
cells_count [] [] same = refl
cells_count [] (v ∷ row) same = absurd (cc)
cells_count (c ∷ columns) [] same = absurd (cc)
cells_count (c ∷ columns) (v ∷ row) same = ap suc (cells_count columns row (omega (arith, same)))

-- the value that was read by its place
pub value_read : (row items : List Value) (i : ℕ) (v : Value) → items ≡ row → i < length items → v ≡ get_or items i v
    → slice_get row i ≡ Some v
value_read row items i v same lt is =
    ap (λ (vs : List Value). slice_get vs i) (sym same) ∙ slice_get-get_or items i v lt ∙ ap Some (sym is)

-- the key has one field more
pub key_more : (columns : List Column) (row : List Value) (old new : Key) (i : ℕ) (c : Column) (v : Value)
    → old ≡ take i (cells columns row) → new ≡ old ++ column_cell (c, v) ∷ [] → slice_get columns i ≡ Some c
    → slice_get row i ≡ Some v → new ≡ take (i + 1) (cells columns row)
key_more columns row old new i c v before more e f =
    let one : suc i ≡ i + 1 = omega arith in
    more ∙ ap (λ (key : Key). key ++ column_cell (c, v) ∷ []) before ∙ sym (cells_more columns row i c v e f)
    ∙ ap (λ (n : ℕ). take n (cells columns row)) one

pub key_whole : (columns : List Column) (row : List Value) (key : Key) (i : ℕ) → AllZip FitsColumn columns row
    → key ≡ take i (cells columns row) → i ≡ length row → key ≡ cells columns row
key_whole columns row key i fits is all =
    let many = fitting_count columns row fits in
    let count : i ≡ length (cells columns row) = omega (arith, all, many, cells_count columns row many) in
    is ∙ ap (λ (n : ℕ). take n (cells columns row)) count ∙ take-length (cells columns row)

-- how many fields the clustered key has
pub keys_of_id : (table : TableDef) → eqb (length (clustered_positions table)) 0 ≡ true
    → (leaf_fields table 0).keys ≡ 1
unfolding leaf_fields
keys_of_id table e =
    ap (λ (b : Bool). length (cond b (row_id_field ∷ []) (kept_fields table (clustered_positions table)))) e

pub keys_of_columns : (table : TableDef) → eqb (length (clustered_positions table)) 0 ≡ false
    → (leaf_fields table 0).keys ≡ length (key_columns table)
unfolding leaf_fields
keys_of_columns table e =
    ap (λ (b : Bool). length (cond b (row_id_field ∷ []) (kept_fields table (clustered_positions table)))) e
    ∙ length-map (key_columns table) kept_field

pub values_of_id : (table : TableDef) (row : List Value) → eqb (length (clustered_positions table)) 0 ≡ true
    → map id_cell row ≡ key_of_values table row
unfolding key_of_values
values_of_id table row e = sym (ap (λ (b : Bool). cond b (map id_cell row) (cells (key_columns table) row)) e)

pub values_of_columns : (table : TableDef) (row : List Value) → eqb (length (clustered_positions table)) 0 ≡ false
    → cells (key_columns table) row ≡ key_of_values table row
unfolding key_of_values
values_of_columns table row e = sym (ap (λ (b : Bool). cond b (map id_cell row) (cells (key_columns table) row)) e)

-- what the text of a key is, by whether rows have a hidden id
pub is_id_text : (table : TableDef) (row : List Value) (text : List ℕ)
    → eqb (length (clustered_positions table)) 0 ≡ true → IsKeyTextOf table row text → IsRowIdText row text
is_id_text table row text e is =
    subst (λ (b : Bool). MatchBool b (IsRowIdText row text) (IsColumnsText (key_columns table) row text)) e is

pub is_columns_text : (table : TableDef) (row : List Value) (text : List ℕ)
    → eqb (length (clustered_positions table)) 0 ≡ false → IsKeyTextOf table row text
    → IsColumnsText (key_columns table) row text
is_columns_text table row text e is =
    subst (λ (b : Bool). MatchBool b (IsRowIdText row text) (IsColumnsText (key_columns table) row text)) e is

-- what holds of a value that there is
pub if_ok : {A E : Type 0} {P Q : A → Type 0} (result : Result A E) → ((x : A) → P x → Q x) → IfOk result P
    → IfOk result Q
if_ok (Ok x) f p = f x p
if_ok (Err e) f p = tt

-- how many fields a key has
pub id_count : (table : TableDef) (row : List Value) (text : List ℕ) (key : Key)
    → eqb (length (clustered_positions table)) 0 ≡ true → IsRowIdText row text → key ≡ map id_cell row
    → length key ≡ (leaf_fields table 0).keys
id_count table row text key e is same =
    ap length same ∙ length-map row id_cell ∙ ap length is.only ∙ sym (keys_of_id table e)

pub columns_count : (table : TableDef) (row : List Value) (key : Key)
    → eqb (length (clustered_positions table)) 0 ≡ false → AllZip FitsColumn (key_columns table) row
    → key ≡ cells (key_columns table) row → length key ≡ (leaf_fields table 0).keys
columns_count table row key e fits same =
    ap length same ∙ cells_count (key_columns table) row (fitting_count (key_columns table) row fits)
    ∙ sym (keys_of_columns table e)
