-- What is read of a rows text.
use Rattle.std.specs.Prelude.{◌≡◌, ℕ, ◌+◌, ◌-◌, ◌<◌, ◌≤◌, List, [], length, drop, Option, Some, IfSome, ⊤}
use Rattle.std.specs.Prelude.{Result, Ok, Err}
use Rattle.page_source.specs.declared.objects.ByteSource.{Ghosts as TextOf}
use Rattle.page_source.specs.Faults.{Rose}
use Rattle.schema_text.specs.TableDef.{TableDef}
use Rattle.row_layout.specs.StoredRow.{Stored}
use Rattle.row_layout.specs.RowKeys.{AreTableRows, RowsRise}
use Rattle.row_store.specs.declared.stop.RowsStop.{RowsStop}
use Rattle.row_store.specs.declared.stop.RowsStop.TheVariants as stops
use Rattle.row_store.specs.StoredRows.{Rows, stored_rows, HaveFittedRows}
use Rattle.row_store.specs.BadLine.{line_start, line_end, RowsChecks, AreRowsOf}

-- rows of a table whose keys rise, each with a record that fits: there is a row id of six bytes for each
pub record AreGoodRows (table : TableDef) (rows : Rows) : Type 0 where
  pub are_rows : AreTableRows table rows
  pub rise : RowsRise table rows
  pub fitted : HaveFittedRows table rows
  pub few : length rows < 281474976710656

-- these rows, as they are stored, are those of the text, which was read to its end
pub record AreReadRows {R : Type 0} (g : TextOf R) (table : TableDef) (old new : R) (stored : List (List Stored))
    : Type 0 where
  pub rows : Rows
  pub good : AreGoodRows table rows
  pub same : stored ≡ stored_rows table rows
  pub of_text : IfSome (g.left old) (λ text. AreRowsOf table text rows × (g.left new ≡ Some []))

-- how many bytes are read at a time
abbrev pub buffer_size : ℕ
buffer_size = 65536

-- what was read of a text whose line k is refused: at most a buffer behind that line, and at most a buffer behind the
-- most bytes that a line may have
pub record ReadsNear (text : List ℕ) (left : Option (List ℕ)) (k : ℕ) : Type 0 where
  pub count : ℕ
  pub rest : left ≡ Some (drop count text)
  pub most : count ≤ line_end text k + buffer_size
  pub longest : count ≤ line_start text k + (16777216 + buffer_size)

-- what reading the rows of a text answers
abbrev pub FindsRows : {R : Type 0} → TextOf R → TableDef → R → R → Result (List (List Stored)) RowsStop → Type 0
FindsRows g table old new (Ok stored) = AreReadRows g table old new stored
FindsRows g table old new (Err (stops.Refused line why)) =
    IfSome (g.left old) (λ text. RowsChecks table text (Some (record { line = line; why = why }))
    × ReadsNear text (g.left new) (line - 1))
FindsRows g table old new (Err stops.Source) = ⊤
FindsRows g table old new (Err stops.Memory) = ⊤

-- the text is blamed only where its count of faults rose
pub record ReadsRows {R : Type 0} (g : TextOf R) (table : TableDef) (old new : R)
    (result : Result (List (List Stored)) RowsStop) : Type 0 where
  pub finds : FindsRows g table old new result
  pub later : g.faults old ≤ g.faults new
  pub rose : result ≡ Err stops.Source → Rose (g.faults old) (g.faults new)
