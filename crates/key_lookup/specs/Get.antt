-- What a look-up answers, and what its sink then holds.
use Rattle.std.specs.Prelude.{◌≡◌, ℕ, ⊤, ◌+◌, ◌*◌, ◌≤◌, ◌⊎◌, List, length, Option, Some, None, Result, Ok, Err}
use Rattle.page_source.specs.declared.objects.PageSource.{Ghosts as FileOf}
use Rattle.page_source.specs.declared.objects.ByteSink.{Ghosts as SinkOf}
use Rattle.page_source.specs.Faults.{Rose}
use Rattle.page_source.specs.Objects.{GrowsBy, GrowsByPart}
use Rattle.page_source.specs.Calls.{AsksNoMore}
use Rattle.column_values.specs.declared.value.Value.{Value}
use Rattle.column_values.specs.Order.{Key}
use Rattle.schema_text.specs.TableDef.{TableDef}
use Rattle.row_text.specs.Line.{line_of}
use Rattle.tree_walk.specs.Index.{Row, root_level}
use Rattle.table_check.specs.Trees.{clustered_tree}
use Rattle.key_lookup.specs.declared.stop.GetStop.{GetStop}
use Rattle.key_lookup.specs.declared.stop.GetStop.TheVariants.{Refused, Absent, Broken, Source, Sink, Memory}
use Rattle.key_lookup.specs.Record.{found_row, found_pages, IsFoundRow}
use Rattle.key_lookup.specs.GetFirst.{GetFirst}
use Rattle.key_lookup.specs.KeyOfText.{SpellsKey, IsNoKey}

-- the line of the row that is found, if all checks hold
pub record IsLineFound (file : List ℕ) (table : TableDef) (key : Key) (line : List ℕ) : Type 0 where
  pub good : GetFirst file table key None
  pub row : Row
  pub found : found_row (clustered_tree file table) key ≡ Some row
  pub row_values : List Value
  pub are : IsFoundRow file table row row_values
  pub is : line ≡ line_of table row_values

-- all checks hold, and no row is found
pub record IsAbsent (file : List ℕ) (table : TableDef) (key : Key) : Type 0 where
  pub good : GetFirst file table key None
  pub none : found_row (clustered_tree file table) key ≡ None

-- a text grew by the line, and by a prefix of it
abbrev pub GrewByLine : List ℕ → TableDef → Key → Option (List ℕ) → Option (List ℕ) → Type 0
GrewByLine file table key old new = (line : List ℕ) × IsLineFound file table key line × GrowsBy old new line

abbrev pub GrewByPart : List ℕ → TableDef → Key → Option (List ℕ) → Option (List ℕ) → Type 0
GrewByPart file table key old new = (line : List ℕ) × IsLineFound file table key line × GrowsByPart old new line

-- the answer over a file that is told, of a key that the table may have: if no line is found, the sink itself is as
-- before
abbrev pub GetsByKey : {O : Type 0} → SinkOf O → List ℕ → TableDef → Key → Result (Unit {0}) GetStop → O → O → Type 0
GetsByKey o file table key (Ok done) sink sink_now = GrewByLine file table key (o.written sink) (o.written sink_now)
GetsByKey o file table key (Err Refused) sink sink_now = ⊥
GetsByKey o file table key (Err Absent) sink sink_now = IsAbsent file table key
GetsByKey o file table key (Err (Broken fault)) sink sink_now =
    GetFirst file table key (Some fault) × (sink_now ≡ sink)
GetsByKey o file table key (Err Source) sink sink_now =
    ((line : List ℕ) → IsLineFound file table key line → GrowsByPart (o.written sink) (o.written sink_now) line)
    × (((line : List ℕ) → ¬ (IsLineFound file table key line)) → sink_now ≡ sink)
GetsByKey o file table key (Err Sink) sink sink_now =
    GrewByPart file table key (o.written sink) (o.written sink_now)
GetsByKey o file table key (Err Memory) sink sink_now = ⊤

-- the answer over a file that is told, of the text of a key
abbrev pub Gets : {O : Type 0} → SinkOf O → List ℕ → TableDef → List ℕ → Result (Unit {0}) GetStop → O → O → Type 0
Gets o file table text (Err Refused) sink sink_now = IsNoKey table text
Gets o file table text (Err Memory) sink sink_now = ⊤
Gets o file table text result sink sink_now =
    (key : Key) × SpellsKey table text key × GetsByKey o file table key result sink sink_now

-- a text that is no key's is refused before any object is called
pub record TouchesNothing {S O : Type 0} (old new : S) (sink sink_now : O) (steps steps_now : ℕ)
    (result : Result (Unit {0}) GetStop) : Type 0 where
  pub ends : (result ≡ Err Refused) ⊎ (result ≡ Err Memory)
  pub file : new ≡ old
  pub out : sink_now ≡ sink
  pub steps_same : steps_now ≡ steps

-- what a look-up leaves of the two objects, told or not: the file is as before, a fault of an object is answered only
-- if the count of that object rose, nothing is written if there is no row or no memory, and each page that the file
-- was asked for was counted
pub record GetsOver {S O : Type 0} (g : FileOf S) (o : SinkOf O) (old new : S) (sink sink_now : O)
    (steps steps_now : ℕ) (result : Result (Unit {0}) GetStop) : Type 0 where
  pub same : g.content new ≡ g.content old
  pub source_later : g.faults old ≤ g.faults new
  pub sink_later : o.faults sink ≤ o.faults sink_now
  pub source_rose : result ≡ Err Source → Rose (g.faults old) (g.faults new)
  pub sink_rose : result ≡ Err Sink → Rose (o.faults sink) (o.faults sink_now)
  pub absent : result ≡ Err Absent → sink_now ≡ sink
  pub unwritten : result ≡ Err Memory → sink_now ≡ sink
  pub asked : AsksNoMore g old new steps steps_now

-- the most steps of a look-up in so many pages, and those of one for a key: the head, the way, and the chains twice
abbrev pub get_steps : ℕ → ℕ
get_steps pages = 2 * pages + 64

abbrev pub steps_for : List ℕ → TableDef → Key → ℕ
steps_for file table key =
    root_level (clustered_tree file table) + 2
    + 2 * length (found_pages (clustered_tree file table) (found_row (clustered_tree file table) key))
