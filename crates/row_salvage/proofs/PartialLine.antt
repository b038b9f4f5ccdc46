-- The line of a row of which something is lost, value by value.
use Rattle.std.proofs.Common.{◌≡◌, ℕ, zero, suc, ◌+◌, ◌-◌, ◌<◌, ◌≤◌, Bool, true, false, ◌&&◌, if◌then◌else◌}
use Rattle.std.proofs.Common.{List, [], ◌∷◌, ◌++◌, length, take, map, flat_map, get_or, codes, refl, sym, ap, ◌∙◌}
use Rattle.std.proofs.Common.{subst}
use Rattle.std.proofs.Common.{arith, append_assoc, length-append, Option, Some, None, is_some, Err}
use Rattle.std.specs.Prelude.{is_none}
use Rattle.std.specs.List.{join_with_byte, zip, range_with_len, list_all}
use Rattle.std.proofs.lemmas.List.{append-nil, take_more, take_all, map-append, length-map, length-take-le}
use Rattle.page_source.specs.Objects.{GrowsBy, GrowsByPart}
use Rattle.page_source.proofs.Texts.{grows_on, grows_part}
use Rattle.column_values.specs.declared.kind.ColumnType.{ColumnType}
use Rattle.column_values.specs.declared.value.Value.{Value}
use Rattle.schema_text.specs.declared.table.Column.{Column}
use Rattle.schema_text.specs.TableDef.{TableDef, column_at}
use Rattle.row_text.specs.Line.{comma}
use Rattle.row_text.specs.Writer.{line_open, line_close, before_value}
use Rattle.sql_dump.specs.declared.stop.WriteStop.{WriteStop}
use Rattle.sql_dump.specs.Stops.{Writes}
use Rattle.sql_dump.specs.Cells.{CellView, RowView, ReadsValue, cell_of_column, pages_of_cell}
use Rattle.sql_dump.proofs.Written.{part_more, ends_in_piece}
use Rattle.sql_dump.proofs.RowLines.{range_more, range_split_at, join_more, zip_more, zip_size, regroup_behind}
use Rattle.salvage_model.specs.declared.loss.Loss.{Loss}
use Rattle.salvage_model.specs.SavedRow.{SavesValue, SavesRow, is_whole_row, pages_unless, saved_pages}
use Rattle.salvage_model.specs.SavedLine.{saved_text, saved_values, comment_open, saved_line}

-- one value more
saved_more : (columns : List Column) (row : List (Option Value)) (column : Column) (value : Option Value)
    → length columns ≡ length row
    → saved_values (columns ++ column ∷ []) (row ++ value ∷ [])
    ≡ saved_values columns row ++ (before_value (length row) ++ saved_text column.kind value)
saved_more columns row column value same =
    let text : Column × Option Value → List ℕ = λ pair. saved_text (pair.0).kind pair.1 in
    let pieces = map text (zip columns row) in
    let size : length pieces ≡ length row = length-map (zip columns row) text ∙ zip_size columns row same ∙ same in
    ap (λ (ps : List (Column × Option Value)). join_with_byte comma (map text ps))
    (zip_more columns row column value same)
    ∙ ap (join_with_byte comma) (map-append text (zip columns row) ((column, value) ∷ []))
    ∙ join_more pieces (saved_text column.kind value)
    ∙ ap (λ (n : ℕ). join_with_byte comma pieces ++ (before_value n ++ saved_text column.kind value)) size

-- a value as it stands in the line, and as it was put
pub saved_piece : TableDef → List (Option Value) → ℕ → List ℕ
saved_piece table row c = before_value c ++ saved_text (column_at table c).kind (get_or row c None)

first_saved : (table : TableDef) (row : List (Option Value)) (c : ℕ) → length row ≡ length table.columns
    → c ≤ length table.columns
    → saved_values (take c table.columns) (take c row) ≡ flat_map (saved_piece table row) (range_with_len 0 c)
unfolding saved_piece
first_saved table row zero count within = refl
first_saved table row (suc c) count within =
    let columns = table.columns in
    let e : c + 1 ≡ suc c = omega arith in
    let front = take c row in
    let size : length (take c columns) ≡ length front =
    length-take-le c columns (omega arith) ∙ sym (length-take-le c row (omega arith)) in
    let less : c < length columns = omega arith in
    subst (λ (k : ℕ). saved_values (take k columns) (take k row)
    ≡ flat_map (saved_piece table row) (range_with_len 0 k)) e
    (ap (λ (cs : List Column). saved_values cs (take (c + 1) row)) (take_more columns c _ less)
    ∙ ap (λ (vs : List (Option Value)). saved_values (take c columns ++ column_at table c ∷ []) vs)
    (take_more row c None (omega arith))
    ∙ saved_more (take c columns) front (column_at table c) (get_or row c None) size
    ∙ ap (λ (n : ℕ). saved_values (take c columns) front
    ++ (before_value n ++ saved_text (column_at table c).kind (get_or row c None))) (length-take-le c row (omega arith))
    ∙ ap (λ (t : List ℕ). t ++ saved_piece table row c) (first_saved table row c count (omega arith))
    ∙ sym (range_more (saved_piece table row) c))

-- the opening of a comment, and the line up to some value
abbrev pub partial_open : TableDef → List ℕ
partial_open table = codes "-- " ++ line_open table

pub partial_so_far : TableDef → List (Option Value) → ℕ → List ℕ
partial_so_far table row c = partial_open table ++ flat_map (saved_piece table row) (range_with_len 0 c)

partial_goes_on : (table : TableDef) (row : List (Option Value)) (c : ℕ)
    → partial_so_far table row (c + 1) ≡ partial_so_far table row c ++ saved_piece table row c
unfolding partial_so_far
partial_goes_on table row c =
    ap (λ (t : List ℕ). partial_open table ++ t) (range_more (saved_piece table row) c)
    ∙ sym (append_assoc (partial_open table) _ _)

-- of a row of which something is lost
pub record IsPartial (table : TableDef) (row : List (Option Value)) : Type 0 where
  pub count : length row ≡ length table.columns
  pub comment : comment_open row ≡ codes "-- "

partial_is : (table : TableDef) (row : List (Option Value)) → IsPartial table row
    → saved_line table row ≡ partial_so_far table row (length table.columns) ++ line_close
unfolding saved_line partial_so_far
partial_is table row is =
    let n = length table.columns in
    let count = is.count in
    let columns : take n table.columns ≡ table.columns = take_all n table.columns (omega arith) in
    let values : take n row ≡ row = take_all n row (omega arith) in
    let whole : saved_values table.columns row ≡ flat_map (saved_piece table row) (range_with_len 0 n) =
    sym (ap (λ (cs : List Column). saved_values cs (take n row)) columns
    ∙ ap (λ (vs : List (Option Value)). saved_values table.columns vs) values)
    ∙ first_saved table row n count (omega arith) in
    ap (λ (o : List ℕ). ((o ++ line_open table) ++ saved_values table.columns row) ++ line_close) is.comment
    ∙ ap (λ (v : List ℕ). (partial_open table ++ v) ++ line_close) whole

-- what is still to come of the line
record Rest (line front : List ℕ) : Type 0 where
  rest : List ℕ
  same : line ≡ front ++ rest

rest_after : (table : TableDef) (row : List (Option Value)) (c : ℕ) → IsPartial table row → c < length table.columns
    → Rest (saved_line table row) (partial_so_far table row c ++ saved_piece table row c)
unfolding partial_so_far
rest_after table row c is within =
    let f = saved_piece table row in
    let n = length table.columns in
    let last = flat_map f (range_with_len (c + 1) (n - (c + 1))) in
    record {
      rest = last ++ line_close;
      same = partial_is table row is
          ∙ ap (λ (t : List ℕ). (partial_open table ++ t) ++ line_close) (range_split_at f c n within)
          ∙ regroup_behind (partial_open table) (flat_map f (range_with_len 0 c)) (f c) last line_close;
    }

rest_at_start : (table : TableDef) (row : List (Option Value)) → IsPartial table row
    → Rest (saved_line table row) (partial_open table)
unfolding partial_so_far
rest_at_start table row is =
    let all = flat_map (saved_piece table row) (range_with_len 0 (length table.columns)) in
    record {
      rest = all ++ line_close;
      same = partial_is table row is ∙ append_assoc (partial_open table) all line_close;
    }

-- something of it is lost
none_is_some : (file : List ℕ) (cell : CellView) (loss : Option Loss) (value : Option Value)
    → SavesValue file cell loss value → is_none loss ≡ is_some value
none_is_some file cell None (Some value) saves = refl
none_is_some file cell None None saves = absurd saves
none_is_some file cell (Some loss) None saves = refl
none_is_some file cell (Some loss) (Some value) saves = absurd saves

all_same : (losses : List (Option Loss)) (values : List (Option Value)) → length losses ≡ length values
    → ((c : ℕ) → c < length losses → is_none (get_or losses c None) ≡ is_some (get_or values c None))
    → list_all is_none losses ≡ list_all is_some values
all_same [] [] same each = refl
all_same [] (v ∷ vs) same each = absurd (omega arith)
all_same (x ∷ xs) [] same each = absurd (omega arith)
all_same (x ∷ xs) (v ∷ vs) same each =
    ap (λ (b : Bool). b && list_all is_none xs) (each 0 (omega arith))
    ∙ ap (λ (b : Bool). is_some v && b) (all_same xs vs (omega arith) (λ c below. each (suc c) (omega (arith, below))))

pub is_partial : (file : List ℕ) (row : RowView) (losses : List (Option Loss)) (values : List (Option Value))
    → length losses ≡ length row.table.columns → is_whole_row losses ≡ false → SavesRow file row losses values
    → IsPartial row.table values
is_partial file row losses values all lost saves = record {
  count = saves.count;
  comment = ap (λ (whole : Bool). if whole then [] else codes "-- ")
      (sym (all_same losses values (all ∙ sym saves.count)
      (λ c below. none_is_some file (cell_of_column row c) (get_or losses c None) (get_or values c None)
      (saves.each c (subst (λ (n : ℕ). c < n) all below)))) ∙ lost);
}

-- the comment fails at once, or the line after it
pub open_cut : (table : TableDef) (row : List (Option Value)) (a b : Option (List ℕ)) → IsPartial table row
    → GrowsByPart a b (codes "-- ") → GrowsByPart a b (saved_line table row)
open_cut table row a b is part =
    let rest = rest_at_start table row is in
    rw (rest.same ∙ append_assoc (codes "-- ") (line_open table) rest.rest)
    (part_more a b (codes "-- ") (line_open table ++ rest.rest) part)

pub begin_cut : (table : TableDef) (row : List (Option Value)) (a b d : Option (List ℕ)) → IsPartial table row
    → GrowsBy a b (codes "-- ") → GrowsByPart b d (line_open table) → GrowsByPart a d (saved_line table row)
begin_cut table row a b d is first part =
    let rest = rest_at_start table row is in
    rw (rest.same ∙ append_assoc (codes "-- ") (line_open table) rest.rest)
    (grows_part a b d (codes "-- ") (line_open table) rest.rest first part)

pub partial_begins : (table : TableDef) (row : List (Option Value)) (a b d : Option (List ℕ))
    → GrowsBy a b (codes "-- ") → GrowsBy b d (line_open table) → GrowsBy a d (partial_so_far table row 0)
unfolding partial_so_far
partial_begins table row a b d first next =
    subst (λ (t : List ℕ). GrowsBy a d t) (sym (append-nil (partial_open table)))
    (grows_on a b d (codes "-- ") (line_open table) first next)

-- a value as it was put
abbrev pub put_piece : ℕ → ColumnType → Option Value → List ℕ
put_piece came kind value = before_value came ++ saved_text kind value

piece_is : (table : TableDef) (row : List (Option Value)) (c came : ℕ) (kind : ColumnType) (value : Option Value)
    → came ≡ c → kind ≡ (column_at table c).kind → value ≡ get_or row c None
    → put_piece came kind value ≡ saved_piece table row c
unfolding saved_piece
piece_is table row c came kind value count same is =
    ap (λ (n : ℕ). put_piece n kind value) count ∙ ap (λ (k : ColumnType). put_piece c k value) same
    ∙ ap (put_piece c (column_at table c).kind) is

-- one value more, or one that ends the writing
pub partial_more : (table : TableDef) (row : List (Option Value)) (c came : ℕ) (kind : ColumnType)
    (value : Option Value) (a b d : Option (List ℕ)) → came ≡ c → kind ≡ (column_at table c).kind
    → value ≡ get_or row c None → GrowsBy a b (partial_so_far table row c) → GrowsBy b d (put_piece came kind value)
    → GrowsBy a d (partial_so_far table row (c + 1))
partial_more table row c came kind value a b d count same is before grown =
    let piece = subst (λ (t : List ℕ). GrowsBy b d t) (piece_is table row c came kind value count same is) grown in
    rw (partial_goes_on table row c)
    (grows_on a b d (partial_so_far table row c) (saved_piece table row c) before piece)

pub partial_ends : (table : TableDef) (row : List (Option Value)) (c came : ℕ) (kind : ColumnType)
    (value : Option Value) (a b d : Option (List ℕ)) (e : WriteStop) → IsPartial table row
    → c < length table.columns → came ≡ c → kind ≡ (column_at table c).kind → value ≡ get_or row c None
    → GrowsBy a b (partial_so_far table row c) → Writes {A = Unit {0}} (Err e) b d (put_piece came kind value)
    → Writes {A = Unit {0}} (Err e) a d (saved_line table row)
partial_ends table row c came kind value a b d e all within count same is before ends =
    let piece = subst (λ (t : List ℕ). Writes {A = Unit {0}} (Err e) b d t)
    (piece_is table row c came kind value count same is) ends in
    let rest = rest_after table row c all within in
    let whole = rest.same ∙ append_assoc (partial_so_far table row c) (saved_piece table row c) rest.rest in
    rw whole (ends_in_piece a b d (partial_so_far table row c) (saved_piece table row c) rest.rest e before piece)

-- the close of the line, whole or cut
pub partial_closes : (table : TableDef) (row : List (Option Value)) (c : ℕ) (a b d : Option (List ℕ))
    → IsPartial table row → c ≡ length table.columns → GrowsBy a b (partial_so_far table row c)
    → GrowsBy b d line_close → GrowsBy a d (saved_line table row)
partial_closes table row c a b d all last before grown =
    let so : GrowsBy a b (partial_so_far table row (length table.columns)) =
    subst (λ (n : ℕ). GrowsBy a b (partial_so_far table row n)) last before in
    rw (partial_is table row all)
    (grows_on a b d (partial_so_far table row (length table.columns)) line_close so grown)

pub close_cut : (table : TableDef) (row : List (Option Value)) (c : ℕ) (a b d : Option (List ℕ))
    → IsPartial table row → c ≡ length table.columns → GrowsBy a b (partial_so_far table row c)
    → GrowsByPart b d line_close → GrowsByPart a d (saved_line table row)
close_cut table row c a b d all last before part =
    let so : GrowsBy a b (partial_so_far table row (length table.columns)) =
    subst (λ (n : ℕ). GrowsBy a b (partial_so_far table row n)) last before in
    rw (partial_is table row all)
    (grows_part a b d (partial_so_far table row (length table.columns)) line_close [] so part)

-- the pages of the first columns that aren't lost
abbrev pub pages_kept : List ℕ → RowView → List (Option Loss) → ℕ → List ℕ
pages_kept file row losses c = pages_unless (get_or losses c None) (pages_of_cell file (cell_of_column row c))

pub first_pages : List ℕ → RowView → List (Option Loss) → ℕ → List ℕ
first_pages file row losses c = flat_map (pages_kept file row losses) (range_with_len 0 c)

pub first_none : (file : List ℕ) (row : RowView) (losses : List (Option Loss))
    → length (first_pages file row losses 0) ≡ 0
unfolding first_pages
first_none file row losses = refl

pub first_more : (file : List ℕ) (row : RowView) (losses : List (Option Loss)) (c : ℕ)
    → length (first_pages file row losses (c + 1))
    ≡ length (first_pages file row losses c) + length (pages_kept file row losses c)
unfolding first_pages
first_more file row losses c =
    ap length (range_more (pages_kept file row losses) c)
    ∙ length-append (flat_map (pages_kept file row losses) (range_with_len 0 c)) (pages_kept file row losses c)

pub first_within : (file : List ℕ) (row : RowView) (losses : List (Option Loss)) (c : ℕ)
    → c < length row.table.columns
    → length (first_pages file row losses c) + length (pages_kept file row losses c)
    ≤ length (saved_pages file row losses)
unfolding first_pages saved_pages
first_within file row losses c within =
    let f = pages_kept file row losses in
    let n = length row.table.columns in
    let last = flat_map f (range_with_len (c + 1) (n - (c + 1))) in
    omega (
      arith,
      ap length (range_split_at f c n within),
      length-append (flat_map f (range_with_len 0 c)) (f c ++ last),
      length-append (f c) last,
    )

pub first_all : (file : List ℕ) (row : RowView) (losses : List (Option Loss)) (c : ℕ)
    → c ≡ length row.table.columns → first_pages file row losses c ≡ saved_pages file row losses
unfolding first_pages saved_pages
first_all file row losses c last =
    ap (λ (n : ℕ). flat_map (pages_kept file row losses) (range_with_len 0 n)) last

-- the pages and the value of a column that is lost, and of one that isn't
pub kept_lost : (file : List ℕ) (row : RowView) (losses : List (Option Loss)) (c : ℕ)
    → is_some (get_or losses c None) ≡ true → length (pages_kept file row losses c) ≡ 0
kept_lost file row losses c lost = by_loss (get_or losses c None) lost where
  by_loss : (loss : Option Loss) → is_some loss ≡ true
      → length (pages_unless loss (pages_of_cell file (cell_of_column row c))) ≡ 0
  by_loss None lost = cc
  by_loss (Some loss) lost = refl

pub kept_whole : (file : List ℕ) (row : RowView) (losses : List (Option Loss)) (c : ℕ) (cell : CellView)
    → is_some (get_or losses c None) ≡ false → cell ≡ cell_of_column row c
    → length (pages_kept file row losses c) ≡ length (pages_of_cell file cell)
kept_whole file row losses c cell whole is = by_loss (get_or losses c None) whole where
  by_loss : (loss : Option Loss) → is_some loss ≡ false
      → length (pages_unless loss (pages_of_cell file (cell_of_column row c))) ≡ length (pages_of_cell file cell)
  by_loss None whole = ap (λ (x : CellView). length (pages_of_cell file x)) (sym is)
  by_loss (Some loss) whole = cc

pub value_lost : (file : List ℕ) (row : RowView) (losses : List (Option Loss)) (values : List (Option Value)) (c : ℕ)
    → SavesRow file row losses values → c < length row.table.columns → is_some (get_or losses c None) ≡ true
    → None ≡ get_or values c None
value_lost file row losses values c saves within lost =
    by_loss (get_or losses c None) (get_or values c None) lost (saves.each c within)
  where
    by_loss : (loss : Option Loss) (value : Option Value) → is_some loss ≡ true
        → SavesValue file (cell_of_column row c) loss value → None ≡ value
    by_loss None value lost saves = cc
    by_loss (Some loss) None lost saves = refl
    by_loss (Some loss) (Some value) lost saves = absurd saves

pub record IsReadAt (file : List ℕ) (cell : CellView) (values : List (Option Value)) (c : ℕ) : Type 0 where
  pub value : Value
  pub is : Some value ≡ get_or values c None
  pub reads : ReadsValue file cell value

pub value_whole : (file : List ℕ) (row : RowView) (losses : List (Option Loss)) (values : List (Option Value)) (c : ℕ)
    (cell : CellView) → SavesRow file row losses values → c < length row.table.columns
    → is_some (get_or losses c None) ≡ false → cell ≡ cell_of_column row c → IsReadAt file cell values c
value_whole file row losses values c cell saves within whole is =
    let there = by_loss (get_or losses c None) (get_or values c None) whole (saves.each c within) in
    record {
      value = there.0;
      is = there.1;
      reads = subst (λ (x : CellView). ReadsValue file x there.0) (sym is) there.2;
    }
  where
    by_loss : (loss : Option Loss) (value : Option Value) → is_some loss ≡ false
        → SavesValue file (cell_of_column row c) loss value
        → (v : Value) × (Some v ≡ value) × ReadsValue file (cell_of_column row c) v
    by_loss None (Some value) whole saves = (value, refl, saves)
    by_loss None None whole saves = absurd saves
    by_loss (Some loss) value whole saves = cc
