-- The text of a table's rows, and what a dump did.
use Rattle.std.specs.Prelude.{◌≡◌, ◌≤◌, ◌+◌, ℕ, ⊤, List, length, Option, Some, None, Result, Ok, Err}
use Rattle.page_source.specs.declared.objects.PageSource.{Ghosts as FileOf}
use Rattle.page_source.specs.declared.objects.ByteSink.{Ghosts as SinkOf}
use Rattle.page_source.specs.Faults.{Rose}
use Rattle.page_source.specs.Objects.{GrowsBy, GrowsByPart}
use Rattle.page_source.specs.Calls.{AsksNoMore}
use Rattle.column_values.specs.declared.value.Value.{Value}
use Rattle.schema_text.specs.TableDef.{TableDef}
use Rattle.row_text.specs.Line.{text_of}
use Rattle.tree_walk.specs.Index.{leaf_pages}
use Rattle.table_check.specs.declared.table.Checked.{Checked}
use Rattle.table_check.specs.First.{First, IsChecked}
use Rattle.table_check.specs.Rows.{AreRows}
use Rattle.table_check.specs.Trees.{clustered_tree}
use Rattle.table_check.specs.Values.{all_chain_pages}
use Rattle.table_check.specs.Valid.{IsValid}
use Rattle.sql_dump.specs.declared.stop.DumpStop.{DumpStop}
use Rattle.sql_dump.specs.declared.stop.DumpStop.TheVariants.{Broken, Source, Sink, Memory}

-- the lines of the rows that the file holds
pub record IsDumpOf (file : List ℕ) (table : TableDef) (text : List ℕ) : Type 0 where
  pub rows : List (List Value)
  pub are : AreRows file table rows
  pub is : text ≡ text_of table rows

-- how many pages the rows are read of: the leaves, and the pages in which long values go on
abbrev pub row_pages : List ℕ → TableDef → ℕ
row_pages file table =
    length (leaf_pages (clustered_tree file table)) + length (all_chain_pages (clustered_tree file table))

-- a text grew by the dump, and by a prefix of it
abbrev pub GrewByDump : List ℕ → TableDef → Option (List ℕ) → Option (List ℕ) → Type 0
GrewByDump file table old new = (text : List ℕ) × IsDumpOf file table text × GrowsBy old new text

abbrev pub GrewByPart : List ℕ → TableDef → Option (List ℕ) → Option (List ℕ) → Type 0
GrewByPart file table old new = (text : List ℕ) × IsDumpOf file table text × GrowsByPart old new text

-- no rule of the file is broken, it is sound, these are its numbers, and its dump was written
pub record IsDumped (file : List ℕ) (table : TableDef) (checked : Checked) (old new : Option (List ℕ)) : Type 0 where
  pub sound : First file table None
  pub valid : IsValid file table
  pub numbers : IsChecked file table checked
  pub written : GrewByDump file table old new

-- what a dump answered over a file that is told, and what its sink then holds: if a rule is broken, the sink itself is
-- as before
abbrev pub Dumps : {O : Type 0} → SinkOf O → List ℕ → TableDef → Result Checked DumpStop → O → O → Type 0
Dumps o file table (Ok checked) sink sink_now = IsDumped file table checked (o.written sink) (o.written sink_now)
Dumps o file table (Err (Broken fault)) sink sink_now = First file table (Some fault) × (sink_now ≡ sink)
Dumps o file table (Err Source) sink sink_now =
    (First file table None → GrewByPart file table (o.written sink) (o.written sink_now))
    × (¬ (First file table None) → sink_now ≡ sink)
Dumps o file table (Err Sink) sink sink_now =
    First file table None × GrewByPart file table (o.written sink) (o.written sink_now)
Dumps o file table (Err Memory) sink sink_now = ⊤

-- what a dump leaves of the two objects, told or not: the file is as before, a fault is answered only if the count of
-- that object rose, for want of memory nothing is written, and each page that the file was asked for was counted
pub record DumpsOver {S O : Type 0} (g : FileOf S) (o : SinkOf O) (old new : S) (sink sink_now : O)
    (steps steps_now : ℕ) (result : Result Checked DumpStop) : Type 0 where
  pub same : g.content new ≡ g.content old
  pub source_later : g.faults old ≤ g.faults new
  pub sink_later : o.faults sink ≤ o.faults sink_now
  pub source_rose : result ≡ Err Source → Rose (g.faults old) (g.faults new)
  pub sink_rose : result ≡ Err Sink → Rose (o.faults sink) (o.faults sink_now)
  pub unwritten : result ≡ Err Memory → sink_now ≡ sink
  pub asked : AsksNoMore g old new steps steps_now
