-- The line of a row, value by value.
use Rattle.std.proofs.Common.{◌≡◌, ℕ, zero, suc, ◌+◌, ◌-◌, ◌<◌, ◌≤◌, List, [], ◌∷◌, ◌++◌, length, take}
use Rattle.std.proofs.Common.{map, flat_map, get_or, refl, sym, ap, ◌∙◌, subst, arith, append_assoc, length-append}
use Rattle.std.proofs.Common.{Option, Err}
use Rattle.std.specs.List.{join_with_byte, zip, range_with_len}
use Rattle.std.proofs.lemmas.List.{append-nil, take_more, take_all, map-append, length-map, length-take-le}
use Rattle.std.proofs.lemmas.List.Concat.{flat_map-append}
use Rattle.page_source.specs.Objects.{GrowsBy, GrowsByPart}
use Rattle.column_values.specs.declared.value.Value.{Value}
use Rattle.column_values.specs.declared.value.Value.TheVariants.{Null}
use Rattle.schema_text.specs.declared.table.Column.{Column}
use Rattle.schema_text.specs.TableDef.{TableDef, column_at}
use Rattle.row_text.specs.Values.{value_text}
use Rattle.row_text.specs.Line.{comma, texts_of, joined_values, values_of, line_of}
use Rattle.row_text.specs.Writer.{line_open, line_close, before_value}
use Rattle.row_text.proofs.Lines.{behind_value}
use Rattle.sql_dump.specs.Cells.{RowView, cell_of_column, pages_of_cell, pages_of_columns}
use Rattle.page_source.proofs.Texts.{grows_on, grows_part}
use Rattle.sql_dump.specs.declared.stop.WriteStop.{WriteStop}
use Rattle.sql_dump.specs.Stops.{Writes}
use Rattle.column_values.specs.declared.kind.ColumnType.{ColumnType}
use Rattle.schema_text.proofs.ColumnFields.{range_at}
use Rattle.sql_dump.proofs.Written.{part_more, ends_in_piece}

-- one piece more
pub join_more : (pieces : List (List ℕ)) (piece : List ℕ)
    → join_with_byte comma (pieces ++ piece ∷ []) ≡ join_with_byte comma pieces ++ (before_value (length pieces) ++
    piece)
join_more [] piece = refl
join_more (x ∷ []) piece = refl
join_more (x ∷ y ∷ pieces) piece =
    let all = join_with_byte comma (x ∷ y ∷ pieces) in
    ap (λ (text : List ℕ). x ++ (comma ∷ text)) (join_more (y ∷ pieces) piece) ∙ sym (append_assoc x _ _)
    ∙ ap (λ (before : List ℕ). all ++ (before ++ piece))
    (behind_value (length pieces) ∙ sym (behind_value (suc (length pieces))))

pub zip_more : {A B : Type 0} (xs : List A) (ys : List B) (x : A) (y : B) → length xs ≡ length ys
    → zip (xs ++ x ∷ []) (ys ++ y ∷ []) ≡ zip xs ys ++ (x, y) ∷ []
zip_more [] [] x y same = refl
zip_more [] (b ∷ ys) x y same = absurd (omega arith)
zip_more (a ∷ xs) [] x y same = absurd (omega arith)
zip_more {A = A} {B = B} (a ∷ xs) (b ∷ ys) x y same =
    ap (λ (ps : List (A × B)). (a, b) ∷ ps) (zip_more xs ys x y (omega arith))

pub zip_size : {A B : Type 0} (xs : List A) (ys : List B) → length xs ≡ length ys → length (zip xs ys) ≡ length xs
zip_size [] ys same = refl
zip_size (a ∷ xs) [] same = absurd (omega arith)
zip_size (a ∷ xs) (b ∷ ys) same = ap suc (zip_size xs ys (omega arith))

-- one value more
pub joined_more : (columns : List Column) (row : List Value) (column : Column) (value : Value)
    → length columns ≡ length row
    → joined_values (columns ++ column ∷ []) (row ++ value ∷ [])
    ≡ joined_values columns row ++ (before_value (length row) ++ value_text column.kind value)
joined_more columns row column value same =
    let text : Column × Value → List ℕ = λ pair. value_text (pair.0).kind pair.1 in
    let pieces = texts_of columns row in
    let size : length pieces ≡ length row = length-map (zip columns row) text ∙ zip_size columns row same ∙ same in
    ap (λ (ps : List (Column × Value)). join_with_byte comma (map text ps)) (zip_more columns row column value same)
    ∙ ap (join_with_byte comma) (map-append text (zip columns row) ((column, value) ∷ []))
    ∙ join_more pieces (value_text column.kind value)
    ∙ ap (λ (n : ℕ). join_with_byte comma pieces ++ (before_value n ++ value_text column.kind value)) size

-- a value as it stands in the line
pub value_piece : TableDef → List Value → ℕ → List ℕ
value_piece table row c = before_value c ++ value_text (column_at table c).kind (get_or row c Null)

-- over the first numbers, one more
pub range_more : {A : Type 0} (f : ℕ → List A) (c : ℕ)
    → flat_map f (range_with_len 0 (c + 1)) ≡ flat_map f (range_with_len 0 c) ++ f c
range_more f c =
    ap (flat_map f) (range_at c 0) ∙ flat_map-append f (range_with_len 0 c) (c ∷ [])
    ∙ ap (λ t. flat_map f (range_with_len 0 c) ++ t) (append-nil (f c))

-- a list in three parts: what comes before place c, what comes there, and what comes after it
pub range_split_at : {A : Type 0} (f : ℕ → List A) (c n : ℕ) → c < n
    → flat_map f (range_with_len 0 n)
    ≡ flat_map f (range_with_len 0 c) ++ (f c ++ flat_map f (range_with_len (c + 1) (n - (c + 1))))
range_split_at f c n within =
    let e : n ≡ c + suc (n - (c + 1)) = omega arith in
    ap (λ (k : ℕ). flat_map f (range_with_len 0 k)) e ∙ ap (flat_map f) (range_at c (n - (c + 1)))
    ∙ flat_map-append f (range_with_len 0 c) (c ∷ range_with_len (c + 1) (n - (c + 1)))

-- the first values of a row are its first pieces
first_values : (table : TableDef) (row : List Value) (c : ℕ) → length row ≡ length table.columns
    → c ≤ length table.columns
    → joined_values (take c table.columns) (take c row) ≡ flat_map (value_piece table row) (range_with_len 0 c)
unfolding value_piece
first_values table row zero count within = refl
first_values table row (suc c) count within =
    let columns = table.columns in
    let e : c + 1 ≡ suc c = omega arith in
    let front = take c row in
    let size : length (take c columns) ≡ length front =
    length-take-le c columns (omega arith) ∙ sym (length-take-le c row (omega arith)) in
    let less : c < length columns = omega arith in
    subst (λ (k : ℕ). joined_values (take k columns) (take k row) ≡ flat_map (value_piece table row) (range_with_len
    0 k)) e
    (ap (λ (cs : List Column). joined_values cs (take (c + 1) row)) (take_more columns c _ less)
    ∙ ap (λ (vs : List Value). joined_values (take c columns ++ column_at table c ∷ []) vs)
    (take_more row c Null (omega arith))
    ∙ joined_more (take c columns) front (column_at table c) (get_or row c Null) size
    ∙ ap (λ (n : ℕ). joined_values (take c columns) front
    ++ (before_value n ++ value_text (column_at table c).kind (get_or row c Null))) (length-take-le c row (omega
    arith))
    ∙ ap (λ (t : List ℕ). t ++ value_piece table row c) (first_values table row c count (omega arith))
    ∙ sym (range_more (value_piece table row) c))

-- the line up to some value
pub line_so_far : TableDef → List Value → ℕ → List ℕ
line_so_far table row c = line_open table ++ flat_map (value_piece table row) (range_with_len 0 c)

pub line_starts : (table : TableDef) (row : List Value) → line_so_far table row 0 ≡ line_open table
unfolding line_so_far
line_starts table row = append-nil (line_open table)

pub line_goes_on : (table : TableDef) (row : List Value) (c : ℕ)
    → line_so_far table row (c + 1) ≡ line_so_far table row c ++ value_piece table row c
unfolding line_so_far
line_goes_on table row c =
    ap (λ (t : List ℕ). line_open table ++ t) (range_more (value_piece table row) c)
    ∙ sym (append_assoc (line_open table) _ _)

pub regroup_behind : (o a b l d : List ℕ) → (o ++ (a ++ (b ++ l))) ++ d ≡ ((o ++ a) ++ b) ++ (l ++ d)
regroup_behind o a b l d = simp append_assoc

pub line_is : (table : TableDef) (row : List Value) → length row ≡ length table.columns
    → line_of table row ≡ line_so_far table row (length table.columns) ++ line_close
unfolding line_of line_so_far
line_is table row count =
    let n = length table.columns in
    let columns : take n table.columns ≡ table.columns = take_all n table.columns (omega arith) in
    let values : take n row ≡ row = take_all n row (omega arith) in
    let whole : values_of table row ≡ flat_map (value_piece table row) (range_with_len 0 n) =
    sym (ap (λ (cs : List Column). joined_values cs (take n row)) columns
    ∙ ap (λ (vs : List Value). joined_values table.columns vs) values)
    ∙ first_values table row n count (omega arith) in
    ap (λ (v : List ℕ). (line_open table ++ v) ++ line_close) whole

-- what is still to come of a line
pub record LineRest (table : TableDef) (row : List Value) (front : List ℕ) : Type 0 where
  pub rest : List ℕ
  pub same : line_of table row ≡ front ++ rest

pub rest_behind : (table : TableDef) (row : List Value) (c : ℕ) → length row ≡ length table.columns
    → c < length table.columns → LineRest table row (line_so_far table row c ++ value_piece table row c)
unfolding line_so_far
rest_behind table row c count within =
    let f = value_piece table row in
    let n = length table.columns in
    let last = flat_map f (range_with_len (c + 1) (n - (c + 1))) in
    record {
      rest = last ++ line_close;
      same = line_is table row count
          ∙ ap (λ (t : List ℕ). (line_open table ++ t) ++ line_close) (range_split_at f c n within)
          ∙ regroup_behind (line_open table) (flat_map f (range_with_len 0 c)) (f c) last line_close;
    }

pub rest_at_start : (table : TableDef) (row : List Value) → length row ≡ length table.columns
    → LineRest table row (line_open table)
unfolding line_so_far
rest_at_start table row count =
    let all = flat_map (value_piece table row) (range_with_len 0 (length table.columns)) in
    record {
      rest = all ++ line_close;
      same = line_is table row count ∙ append_assoc (line_open table) all line_close;
    }

-- the pages of the first columns, one column more, and those behind it
pub pages_more : (file : List ℕ) (row : RowView) (c : ℕ)
    → length (pages_of_columns file row (c + 1))
    ≡ length (pages_of_columns file row c) + length (pages_of_cell file (cell_of_column row c))
unfolding pages_of_columns
pages_more file row c =
    let f : ℕ → List ℕ = λ c. pages_of_cell file (cell_of_column row c) in
    ap length (range_more f c) ∙ length-append (flat_map f (range_with_len 0 c)) (f c)

pub pages_within : (file : List ℕ) (row : RowView) (c n : ℕ) → c < n
    → length (pages_of_columns file row c) + length (pages_of_cell file (cell_of_column row c))
    ≤ length (pages_of_columns file row n)
unfolding pages_of_columns
pages_within file row c n within =
    let f : ℕ → List ℕ = λ c. pages_of_cell file (cell_of_column row c) in
    let last = flat_map f (range_with_len (c + 1) (n - (c + 1))) in
    omega (
      arith,
      ap length (range_split_at f c n within),
      length-append (flat_map f (range_with_len 0 c)) (f c ++ last),
      length-append (f c) last,
    )

pub pages_none : (file : List ℕ) (row : RowView) → length (pages_of_columns file row 0) ≡ 0
unfolding pages_of_columns
pages_none file row = refl

-- a value as it was put
abbrev pub put_piece : ℕ → ColumnType → List Value → ℕ → List ℕ
put_piece came kind row c = before_value came ++ value_text kind (get_or row c Null)

piece_is : (table : TableDef) (row : List Value) (c came : ℕ) (kind : ColumnType) → came ≡ c
    → kind ≡ (column_at table c).kind → put_piece came kind row c ≡ value_piece table row c
unfolding value_piece
piece_is table row c came kind count same =
    ap (λ (n : ℕ). put_piece n kind row c) count ∙ ap (λ (k : ColumnType). put_piece c k row c) same

-- the line begins, and fails at once
pub line_begins : (table : TableDef) (row : List Value) (a b : Option (List ℕ)) → GrowsBy a b (line_open table)
    → GrowsBy a b (line_so_far table row 0)
line_begins table row a b grown = rw (line_starts table row) grown

pub line_cut : (table : TableDef) (row : List Value) (a b : Option (List ℕ)) → length row ≡ length table.columns
    → GrowsByPart a b (line_open table) → GrowsByPart a b (line_of table row)
line_cut table row a b count part =
    let rest = rest_at_start table row count in rw rest.same (part_more a b (line_open table) rest.rest part)

-- one value more, or one that ends the writing
pub line_more : (table : TableDef) (row : List Value) (c came : ℕ) (kind : ColumnType) (a b d : Option (List ℕ))
    → came ≡ c
    → kind ≡ (column_at table c).kind → GrowsBy a b (line_so_far table row c)
    → GrowsBy b d (put_piece came kind row c)
    → GrowsBy a d (line_so_far table row (c + 1))
line_more table row c came kind a b d count same before grown =
    let piece = subst (λ (t : List ℕ). GrowsBy b d t) (piece_is table row c came kind count same) grown in
    rw (line_goes_on table row c) (grows_on a b d (line_so_far table row c) (value_piece table row c) before piece)

pub line_ends : (table : TableDef) (row : List Value) (c came : ℕ) (kind : ColumnType) (a b d : Option (List ℕ)) (e :
    WriteStop)
    → length row ≡ length table.columns → c < length table.columns → came ≡ c
    → kind ≡ (column_at table c).kind → GrowsBy a b (line_so_far table row c)
    → Writes {A = Unit {0}} (Err e) b d (put_piece came kind row c)
    → Writes {A = Unit {0}} (Err e) a d (line_of table row)
line_ends table row c came kind a b d e all within count same before ends =
    let piece = subst (λ (t : List ℕ). Writes {A = Unit {0}} (Err e) b d t) (piece_is table row c came kind count
    same) ends in
    let rest = rest_behind table row c all within in
    let whole = rest.same ∙ append_assoc (line_so_far table row c) (value_piece table row c) rest.rest in
    rw whole (ends_in_piece a b d (line_so_far table row c) (value_piece table row c) rest.rest e before piece)

-- the close of the line, whole or cut
pub line_closes : (table : TableDef) (row : List Value) (c : ℕ) (a b d : Option (List ℕ))
    → length row ≡ length table.columns
    → c ≡ length table.columns → GrowsBy a b (line_so_far table row c) → GrowsBy b d line_close
    → GrowsBy a d (line_of table row)
line_closes table row c a b d all last before grown =
    let so : GrowsBy a b (line_so_far table row (length table.columns)) =
    subst (λ (n : ℕ). GrowsBy a b (line_so_far table row n)) last before in
    rw (line_is table row all) (grows_on a b d (line_so_far table row (length table.columns)) line_close so grown)

pub close_cut : (table : TableDef) (row : List Value) (c : ℕ) (a b d : Option (List ℕ))
    → length row ≡ length table.columns
    → c ≡ length table.columns → GrowsBy a b (line_so_far table row c) → GrowsByPart b d line_close
    → GrowsByPart a d (line_of table row)
close_cut table row c a b d all last before part =
    let so : GrowsBy a b (line_so_far table row (length table.columns)) =
    subst (λ (n : ℕ). GrowsBy a b (line_so_far table row n)) last before in
    rw (line_is table row all) (grows_part a b d (line_so_far table row (length table.columns)) line_close [] so part)
