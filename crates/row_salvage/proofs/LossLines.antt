-- The lines of what was lost, piece by piece.
use Rattle.std.proofs.Common.{◌≡◌, ℕ, ◌+◌, ◌-◌, ◌<◌, List, [], ◌∷◌, ◌++◌, length, flat_map, get_or, Option, Some, None}
use Rattle.std.proofs.Common.{suc, codes, refl, sym, ap, ◌∙◌, arith, append_assoc}
use Rattle.std.specs.Prelude.{decimal}
use Rattle.std.specs.List.{zip, range_with_len}
use Rattle.std.proofs.lemmas.List.{append-nil, get_or_default}
use Rattle.schema_text.specs.declared.table.Column.{Column}
use Rattle.schema_text.specs.TableDef.{TableDef, column_at}
use Rattle.sql_dump.proofs.RowLines.{range_more, range_split_at}
use Rattle.salvage_model.specs.declared.loss.Loss.{Loss}
use Rattle.salvage_model.specs.declared.loss.Loss.TheVariants.{Unread}
use Rattle.salvage_model.specs.Losses.{loss_line, value_line, value_losses, row_losses}

pub unread_pieces : (loss : Loss) (n : ℕ) (a b : List ℕ) → loss ≡ Unread n → a ≡ codes " unread page " → b ≡ decimal n
    → a ++ (b ++ 10 ∷ []) ≡ loss_line loss
unread_pieces loss n a b is first number = rw (is, first, number) refl

regroup : (a b c d e f l : List ℕ)
    → (a ++ (b ++ (c ++ (d ++ (e ++ (f ++ [])))))) ++ l ≡ ((((a ++ b) ++ (c ++ d)) ++ e) ++ f) ++ l
regroup a b c d e f l = simp (append_assoc, append-nil)

pub value_pieces : (n k : ℕ) (column : Column) (loss : Loss) (a b d f : List ℕ) → a ≡ codes "page " → b ≡ decimal n
    → d ≡ decimal k → f ≡ column.name
    → (a ++ (b ++ (codes " row " ++ (d ++ (codes " column " ++ (f ++ [])))))) ++ loss_line loss
    ≡ value_line n k column loss
value_pieces n k column loss a b d f first page row name =
    rw (first, page, row, name) (regroup (codes "page ") (decimal n) (codes " row ") (decimal k) (codes " column ")
    column.name (loss_line loss))

-- the line of a column, none if it isn't lost
abbrev pub line_at : TableDef → ℕ → ℕ → List (Option Loss) → ℕ → List ℕ
line_at table n k losses c = value_losses n k (column_at table c) (get_or losses c None)

flat_zip : (f : Column × Option Loss → List ℕ) (g : ℕ → List ℕ) (columns : List Column) (losses : List (Option Loss))
    (from : ℕ) → length losses ≡ length columns
    → ((i : ℕ) (d : Column) → i < length columns → g (from + i) ≡ f (get_or columns i d, get_or losses i None))
    → flat_map f (zip columns losses) ≡ flat_map g (range_with_len from (length columns))
flat_zip f g [] losses from all same = refl
flat_zip f g (x ∷ xs) [] from all same = absurd (omega arith)
flat_zip f g (x ∷ xs) (y ∷ ys) from all same =
    let first : from + 0 ≡ from = omega arith in
    let here : f (x, y) ≡ g from = sym (same 0 x (omega arith)) ∙ ap g first in
    let rest = flat_zip f g xs ys (from + 1) (omega arith)
    (λ i d below. let next : from + 1 + i ≡ from + suc i = omega arith in ap g next ∙ same (suc i) d (omega arith)) in
    rw (here, rest) refl

-- the lines of a row are those of its columns
pub lines_are : (table : TableDef) (n k : ℕ) (losses : List (Option Loss)) → length losses ≡ length table.columns
    → row_losses table n k losses
    ≡ flat_map (line_at table n k losses) (range_with_len 0 (length table.columns))
unfolding row_losses
lines_are table n k losses all =
    flat_zip (λ (pair : Column × Option Loss). value_losses n k pair.0 pair.1) (line_at table n k losses) table.columns
    losses 0 all
    (λ i d below. let here : 0 + i ≡ i = omega arith in
    ap (line_at table n k losses) here
    ∙ ap (λ (column : Column). value_losses n k column (get_or losses i None))
    (get_or_default table.columns i _ d below))

-- those before a column, its own, and those after it
pub line_after : TableDef → ℕ → ℕ → List (Option Loss) → ℕ → List ℕ
line_after table n k losses c =
    flat_map (line_at table n k losses) (range_with_len (c + 1) (length table.columns - (c + 1)))

pub lines_split : (table : TableDef) (n k : ℕ) (losses : List (Option Loss)) (c : ℕ)
    → length losses ≡ length table.columns → c < length table.columns
    → row_losses table n k losses ≡ flat_map (line_at table n k losses) (range_with_len 0 c)
    ++ (line_at table n k losses c ++ line_after table n k losses c)
unfolding line_after
lines_split table n k losses c all within =
    lines_are table n k losses all
    ∙ range_split_at (line_at table n k losses) c (length table.columns) within

-- the line of a column that is lost
pub line_is : (table : TableDef) (n k : ℕ) (losses : List (Option Loss)) (c : ℕ) (column d : Column) (loss : Loss)
    → column ≡ get_or table.columns c d → c < length table.columns → get_or losses c None ≡ Some loss
    → line_at table n k losses c ≡ value_line n k column loss
line_is table n k losses c column d loss is within lost =
    ap (value_losses n k (column_at table c)) lost
    ∙ ap (λ (x : Column). value_line n k x loss) (get_or_default table.columns c _ d within ∙ sym is)

-- of one that isn't
line_none : (table : TableDef) (n k : ℕ) (losses : List (Option Loss)) (c : ℕ) → get_or losses c None ≡ None
    → line_at table n k losses c ≡ []
line_none table n k losses c none = ap (value_losses n k (column_at table c)) none

-- the lines of the first columns, one column more
pub lines_lost : (table : TableDef) (n k : ℕ) (losses items : List (Option Loss)) (columns : List Column) (c : ℕ)
    (column : Column) (loss : Loss)
    → columns ≡ table.columns → items ≡ losses → column ≡ get_or columns c column → c < length table.columns
    → get_or items c None ≡ Some loss
    → line_at table n k losses c ≡ value_line n k column loss
lines_lost table n k losses items columns c column loss same are is within lost =
    line_is table n k losses c column column loss
    (is ∙ ap (λ (xs : List Column). get_or xs c column) same) within
    (ap (λ (xs : List (Option Loss)). get_or xs c None) (sym are) ∙ lost)

pub lines_more : (table : TableDef) (n k : ℕ) (losses : List (Option Loss)) (c : ℕ) (line : List ℕ)
    → line_at table n k losses c ≡ line
    → flat_map (line_at table n k losses) (range_with_len 0 c) ++ line
    ≡ flat_map (line_at table n k losses) (range_with_len 0 (c + 1))
lines_more table n k losses c line is =
    ap (λ (t : List ℕ). flat_map (line_at table n k losses) (range_with_len 0 c) ++ t) (sym is)
    ∙ sym (range_more (line_at table n k losses) c)

pub lines_skip : (table : TableDef) (n k : ℕ) (losses items : List (Option Loss)) (c : ℕ) → items ≡ losses
    → get_or items c None ≡ None
    → flat_map (line_at table n k losses) (range_with_len 0 c)
    ≡ flat_map (line_at table n k losses) (range_with_len 0 (c + 1))
lines_skip table n k losses items c are none =
    sym (append-nil (flat_map (line_at table n k losses) (range_with_len 0 c)))
    ∙ lines_more table n k losses c []
    (line_none table n k losses c (ap (λ (xs : List (Option Loss)). get_or xs c None) (sym are) ∙ none))

-- the last column was passed
pub lines_all : (table : TableDef) (n k : ℕ) (losses : List (Option Loss)) (c : ℕ)
    → length losses ≡ length table.columns → c ≡ length table.columns
    → flat_map (line_at table n k losses) (range_with_len 0 c) ≡ row_losses table n k losses
lines_all table n k losses c all last =
    ap (λ (m : ℕ). flat_map (line_at table n k losses) (range_with_len 0 m)) last ∙ sym (lines_are table n k losses all)
