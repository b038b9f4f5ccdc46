-- The lines of all rows, one after another.
use Rattle.std.proofs.Common.{◌≡◌, ℕ, zero, suc, ◌+◌, ◌<◌, ◌≤◌, List, [], ◌∷◌, ◌++◌, length, take, drop}
use Rattle.std.proofs.Common.{flat_map, get_or, Option, Result, Err, refl, sym, ap, ◌∙◌, subst, arith, length-append}
use Rattle.std.specs.List.{AllZip}
use Rattle.std.proofs.lemmas.List.{append-nil, take_more, take_all, take-append-drop}
use Rattle.std.proofs.lemmas.List.Concat.{flat_map-append}
use Rattle.std.proofs.lemmas.List.Folds.{length-flat_map-take}
use Rattle.page_source.specs.declared.checks.Halt.{Halt}
use Rattle.page_source.specs.declared.checks.Halt.TheVariants as halts
use Rattle.page_source.specs.Objects.{GrowsByPart}
use Rattle.page_source.proofs.Texts.{pieces_at}
use Rattle.column_values.specs.Types.{Fields}
use Rattle.column_values.specs.declared.value.Value.{Value}
use Rattle.compact_record.specs.declared.places.Place.{Place}
use Rattle.compact_record.specs.Reading.{places_of}
use Rattle.schema_text.specs.TableDef.{TableDef, index_at}
use Rattle.schema_text.specs.Grammar.{IsTable}
use Rattle.schema_text.specs.IndexFields.{leaf_fields, node_fields}
use Rattle.row_text.specs.Line.{line_of, text_of}
use Rattle.tree_walk.specs.Index.{Row, index_of, no_row, row_at, page_in}
use Rattle.tree_walk.specs.Leaf.{IsWalked}
use Rattle.tree_walk.specs.Records.{IsRecord}
use Rattle.table_check.specs.Trees.{index_in, clustered_tree}
use Rattle.table_check.specs.Values.{live_rows, pages_of_row, pages_of_rows, all_chain_pages}
use Rattle.table_check.specs.Live.{LiveView, HasGivenLive, CanGiveLive, FindsLive, IsRowInHand}
use Rattle.sql_dump.specs.declared.stop.WriteStop.{WriteStop}
use Rattle.sql_dump.specs.Stops.{Writes, write_stop_of}
use Rattle.sql_dump.specs.Cells.{RowView, ReadsRow, CanReadRow, row_on, pages_of_all}
use Rattle.sql_dump.specs.Lines.{ReadsRecord, ReadsRows}
use Rattle.sql_dump.specs.Buffer.{IsSent, Moves}
use Rattle.sql_dump.proofs.Sends.{sent_more, moves_end, sent_part}
use Rattle.sql_dump.proofs.RowPages.{columns_within}

-- the first rows were given, and their lines put but for those that are held
pub record RowsSoFar (file : List ℕ) (table : TableDef) (rows : LiveView) (left : ℕ) (old now : Option (List ℕ))
    (held : List ℕ) : Type 0 where
  pub j : ℕ
  pub given : HasGivenLive (clustered_tree file table) rows j
  pub few : length (all_chain_pages (clustered_tree file table))
      ≤ left + length (pages_of_rows (clustered_tree file table) (take j (live_rows (clustered_tree file table))))
  pub text : (all : List (List Value)) → ReadsRows file table all → IsSent old now (flat_map (line_of table) (take j
      all)) held

-- the rows can be given
pub can_give : {file : List ℕ} {table : TableDef} {rows : LiveView} {left : ℕ} {old now : Option (List ℕ)}
    {held : List ℕ} → IsWalked (clustered_tree file table) → RowsSoFar file table rows left old now held
    → CanGiveLive file rows
unfolding index_in
can_give {table = table} walked so = record {
  root = (index_at table 0).root;
  fields = leaf_fields table 0;
  node = node_fields table 0;
  given = so.j;
  walked = walked;
  has = so.given;
}

-- what is found of any tree of the file is found of this one
pub found_here : {file : List ℕ} {table : TableDef} {rows : LiveView} {left : ℕ} {old now : Option (List ℕ)}
    {held : List ℕ} (result : Result (Option ℕ) Halt) (new : LiveView) → IsWalked (clustered_tree file table)
    → (so : RowsSoFar file table rows left old now held)
    → ((root : ℕ) (fields node : Fields) (j : ℕ) → IsWalked (index_of file root fields node)
    → HasGivenLive (index_of file root fields node) rows j → FindsLive (index_of file root fields node) j result new)
    → FindsLive (clustered_tree file table) so.j result new
unfolding index_in
found_here {table = table} result new walked so finds =
    finds (index_at table 0).root (leaf_fields table 0) (node_fields table 0) so.j walked so.given

-- the values of a row of the list
zip_at : {A B : Type 0} (R : A → B → Type 0) (xs : List A) (ys : List B) (i : ℕ) (d : A) (e : B) → AllZip R xs ys
    → i < length xs
    → R (get_or xs i d) (get_or ys i e)
zip_at R [] ys i d e all within = absurd (omega arith)
zip_at R (x ∷ xs) [] i d e all within = absurd all
zip_at R (x ∷ xs) (y ∷ ys) zero d e all within = all.0
zip_at R (x ∷ xs) (y ∷ ys) (suc i) d e all within = zip_at R xs ys i d e all.1 (omega arith)

pub zip_length : {A B : Type 0} (R : A → B → Type 0) (xs : List A) (ys : List B) → AllZip R xs ys
    → length xs ≡ length ys
zip_length R [] [] all = refl
zip_length R [] (y ∷ ys) all = absurd all
zip_length R (x ∷ xs) [] all = absurd all
zip_length R (x ∷ xs) (y ∷ ys) all = ap suc (zip_length R xs ys all.1)

-- the record in hand, and its values
pub record RowHere (file : List ℕ) (table : TableDef) (page : List ℕ) (origin : ℕ) (row_values : List Value) : Type 0
  where
    pub readable : IsRecord page (leaf_fields table 0) origin
    pub reads : ReadsRow file (row_on table page origin) row_values

pub row_here : (file : List ℕ) (table : TableDef) (rows : LiveView) (j origin : ℕ) (all : List (List Value))
    → IsRowInHand (clustered_tree file table) rows.leaf j origin → ReadsRows file table all
    → RowHere file table rows.leaf.page origin (get_or all j [])
unfolding row_at
row_here file table rows j origin all is reads =
    let here : ReadsRecord file table (record { page = rows.leaf.number; origin = origin }) (get_or all j []) =
    subst (λ (row : Row). ReadsRecord file table row (get_or all j [])) is.row
    (zip_at (ReadsRecord file table) (live_rows (clustered_tree file table)) all j no_row [] reads is.within) in
    rw is.held (record { readable = here.readable; reads = here.reads })

-- the columns of a row go on in no more pages than the row
tree_pages_of : (file : List ℕ) (table : TableDef) (page origin : ℕ) → IsTable table
    → length (pages_of_all file (row_on table (page_in (clustered_tree file table) page) origin))
    ≤ length (pages_of_row (clustered_tree file table) (record { page = page; origin = origin }))
unfolding index_in
tree_pages_of file table page origin is = columns_within file table _ origin is

pub record PagesHere (file : List ℕ) (table : TableDef) (j columns : ℕ) : Type 0 where
  pub more : columns + length (pages_of_rows (clustered_tree file table) (take j (live_rows (clustered_tree file
      table))))
      ≤ length (pages_of_rows (clustered_tree file table) (take (j + 1) (live_rows (clustered_tree file table))))
  pub within : columns + length (pages_of_rows (clustered_tree file table) (take j (live_rows (clustered_tree file
      table))))
      ≤ length (all_chain_pages (clustered_tree file table))

pub pages_here : (file : List ℕ) (table : TableDef) (rows : LiveView) (j origin : ℕ) → IsTable table
    → IsRowInHand (clustered_tree file table) rows.leaf j origin
    → PagesHere file table j (length (pages_of_all file (row_on table rows.leaf.page origin)))
unfolding row_at pages_of_rows
pages_here file table rows j origin is hand =
    let tree = clustered_tree file table in
    let live = live_rows tree in
    let f : Row → List ℕ = pages_of_row tree in
    let row = get_or live j no_row in
    let size : length (f row) ≡ length (f (record { page = rows.leaf.number; origin = origin })) =
    ap (λ (r : Row). length (f r)) hand.row in
    let columns = tree_pages_of file table rows.leaf.number origin is in
    let part = length-flat_map-take f live j no_row hand.within in
    let step : flat_map f (take (j + 1) live) ≡ flat_map f (take j live) ++ f row =
    ap (flat_map f) (take_more live j no_row hand.within) ∙ flat_map-append f (take j live) (row ∷ [])
    ∙ ap (λ t. flat_map f (take j live) ++ t) (append-nil (f row)) in
    let more = ap length step ∙ length-append (flat_map f (take j live)) (f row) in
    rw hand.held (record {
      more = omega (arith, columns, size, more);
      within = omega (arith, columns, size, part);
    })

-- one row more
pub rows_more : {file : List ℕ} {table : TableDef} {rows : LiveView} {left : ℕ} {old now : Option (List ℕ)}
    {held : List ℕ} (new : LiveView) (less columns : ℕ) (next : Option (List ℕ)) (kept : List ℕ) (origin : ℕ)
    (so : RowsSoFar file table rows left old now held)
    → IsRowInHand (clustered_tree file table) new.leaf so.j origin
    → HasGivenLive (clustered_tree file table) new (so.j + 1)
    → PagesHere file table so.j columns → less + columns ≡ left
    → ((row_values : List Value) → RowHere file table new.leaf.page origin row_values
    → IsSent now next (held ++ line_of table row_values) kept)
    → RowsSoFar file table new less old next kept
rows_more {file = file} {table = table} {old = old} {now = now} {held = held} new less columns next kept origin so
    hand given pages used moved =
    record {
      j = so.j + 1;
      given = given;
      few = omega (arith, so.few, pages.more, used);
      text = λ all reads.
          let within : so.j < length all =
          omega (
            arith,
            hand.within,
            zip_length (ReadsRecord file table) (live_rows (clustered_tree file table)) all
                reads,
          ) in
          let row = get_or all so.j [] in
          let line = line_of table in
          let step : flat_map line (take (so.j + 1) all) ≡ flat_map line (take so.j all) ++ line row =
          ap (flat_map line) (take_more all so.j [] within) ∙ flat_map-append line (take so.j all) (row ∷ [])
          ∙ ap (λ t. flat_map line (take so.j all) ++ t) (append-nil (line row)) in
          rw step (sent_more old now next (flat_map line (take so.j all)) held kept (line row) (so.text all reads)
          (moved row (row_here file table new so.j origin all hand reads)));
    }

-- a row whose line ended the writing
pub rows_end : {file : List ℕ} {table : TableDef} {rows : LiveView} {left : ℕ} {old now : Option (List ℕ)}
    {held : List ℕ} (new : LiveView) (next : Option (List ℕ)) (kept : List ℕ) (origin : ℕ) (e : WriteStop)
    (all : List (List Value)) (so : RowsSoFar file table rows left old now held)
    → IsRowInHand (clustered_tree file table) new.leaf so.j origin → ReadsRows file table all
    → ((row_values : List Value) → RowHere file table new.leaf.page origin row_values
    → Moves {A = Unit {0}} (Err e) now next held kept (line_of table row_values))
    → Writes {A = Unit {0}} (Err e) old next (text_of table all)
unfolding text_of
rows_end {file = file} {table = table} {old = old} {now = now} {held = held} new next kept origin e all so hand reads
    ends =
    let within : so.j < length all =
    omega (arith, hand.within, zip_length (ReadsRecord file table) (live_rows (clustered_tree file table)) all reads)
    in
    let row = get_or all so.j [] in
    rw (pieces_at (line_of table) all so.j [] within)
    (moves_end old now next (flat_map (line_of table) (take so.j all)) held kept (line_of table row)
    (flat_map (line_of table) (drop (suc so.j) all)) e (so.text all reads)
    (ends row (row_here file table new so.j origin all hand reads)))

-- what was sent is a part of all
part_so_far : {file : List ℕ} {table : TableDef} {rows : LiveView} {left : ℕ} {old now : Option (List ℕ)}
    {held : List ℕ} (all : List (List Value)) (so : RowsSoFar file table rows left old now held)
    → ReadsRows file table all → GrowsByPart old now (text_of table all)
unfolding text_of
part_so_far {table = table} {old = old} {now = now} {held = held} all so reads =
    let line = line_of table in
    let whole : flat_map line all ≡ flat_map line (take so.j all) ++ flat_map line (drop so.j all) =
    ap (flat_map line) (sym (take-append-drop so.j all)) ∙ flat_map-append line (take so.j all) (drop so.j all) in
    rw whole (sent_part old now (flat_map line (take so.j all)) held (flat_map line (drop so.j all)) (so.text all
    reads))

-- the rows broke off: never by a rule
pub rows_halt : {file : List ℕ} {table : TableDef} {rows : LiveView} {left : ℕ} {old now : Option (List ℕ)}
    {held : List ℕ} (new : LiveView) (halt : Halt) (all : List (List Value))
    (so : RowsSoFar file table rows left old now held)
    → FindsLive (clustered_tree file table) so.j (Err halt) new → ReadsRows file table all
    → Writes {A = Unit {0}} (Err (write_stop_of halt)) old now (text_of table all)
rows_halt new (halts.Broken f) all so finds reads = absurd finds
rows_halt new halts.Source all so finds reads = part_so_far all so reads

-- no row is left
pub rows_last : {file : List ℕ} {table : TableDef} {rows : LiveView} {left : ℕ} {old now : Option (List ℕ)}
    {held : List ℕ} (all : List (List Value)) (so : RowsSoFar file table rows left old now held)
    → length (live_rows (clustered_tree file table)) ≤ so.j → ReadsRows file table all
    → IsSent old now (text_of table all) held
unfolding text_of
rows_last {file = file} {table = table} {old = old} {now = now} {held = held} all so last reads =
    let size = zip_length (ReadsRecord file table) (live_rows (clustered_tree file table)) all reads in
    subst (λ (rows : List (List Value)). IsSent old now (flat_map (line_of table) rows) held)
    (take_all so.j all (omega (arith, size))) (so.text all reads)

-- the row that a reader gives is that of the record at this origin of the leaf in hand
abbrev row_with : TableDef → List ℕ → List Place → RowView
row_with table page places = record { table = table; page = page; places = places }

pub row_given : {row : RowView} {given table : TableDef} {page leaf : List ℕ} {places : List Place} (origin : ℕ)
    → row ≡ record { table = given; page = page; places = places } → given ≡ table → page ≡ leaf
    → places ≡ places_of page origin (leaf_fields table 0) → row ≡ row_on table leaf origin
row_given {table = table} {page = page} {places = places} origin is table_is page_is places_are =
    is ∙ ap (λ (t : TableDef). row_with t page places) table_is ∙ ap (row_with table page) places_are
    ∙ ap (λ (p : List ℕ). row_on table p origin) page_is

-- the row in hand can be read in the fetches that are left
pub can_read_row : {file : List ℕ} {table : TableDef} {rows : LiveView} {left : ℕ} {old now : Option (List ℕ)}
    {held : List ℕ} (new : LiveView) (origin : ℕ) (all : List (List Value)) → IsTable table → ReadsRows file table all
    → (so : RowsSoFar file table rows left old now held)
    → IsRowInHand (clustered_tree file table) new.leaf so.j origin
    → CanReadRow file (row_on table new.leaf.page origin) left
can_read_row {file = file} {table = table} new origin all is reads so hand =
    let pages = pages_here file table new so.j origin is hand in
    record {
      row_values = get_or all so.j [];
      reads = (row_here file table new so.j origin all hand reads).reads;
      few = omega (arith, pages.within, so.few);
    }
