-- What the command `build` answers, and what it leaves.
use Rattle.std.specs.Prelude.{◌≡◌, ℕ, ◌-◌, ◌<◌, ◌⊎◌, ⊤, List, [], ◌++◌, length, codes, Option, Some, None, IfSome}
use Rattle.std.specs.Prelude.{Ok, Err}
use Rattle.page_source.specs.declared.objects.ByteSource.{Ghosts as SourceOf}
use Rattle.page_source.specs.declared.objects.ByteSink.{Ghosts as SinkOf}
use Rattle.page_source.specs.declared.objects.PageStore.{Ghosts as StoreOf}
use Rattle.page_source.specs.Faults.{Rose}
use Rattle.page_source.specs.Objects.{Store, GrowsBy, GrowsByPart, file_of}
use Rattle.schema_text.specs.declared.errors.SchemaWhy.{SchemaWhy}
use Rattle.schema_text.specs.declared.errors.SchemaWhy.TheVariants as whys
use Rattle.schema_text.specs.TableDef.{TableDef}
use Rattle.schema_text.specs.Grammar.{IsTextOf}
use Rattle.space_builder.specs.declared.built.BuildStop.TheVariants as stops
use Rattle.row_store.specs.StoredRows.{Rows}
use Rattle.space_builder.specs.layout.Layout.{FitsSpace, layout_extents, layout_size}
use Rattle.space_builder.specs.build.RootOrder.{RootOrderChecks}
use Rattle.row_store.specs.BadLine.{RowsChecks}
use Rattle.row_store.specs.ReadRows.{ReadsNear}
use Rattle.space_builder.specs.build.Build.{HoldsLayout, HoldsPart, LacksHead, IsSizedFor, OfRows}
use Rattle.space_builder.specs.build.Outcome.{ComesTo}
use Rattle.ibd_cli.specs.declared.status.Status.{Status}
use Rattle.ibd_cli.specs.declared.status.Status.TheVariants.{Done, SchemaRefused, RowsRefused}
use Rattle.ibd_cli.specs.declared.status.Status.TheVariants.{SourceFault, SinkFault, StoreFault, Memory, Full}
use Rattle.ibd_cli.specs.declared.forms.Task.TheVariants.{Dump}
use Rattle.command_line.specs.Lines.{counted}
use Rattle.command_line.specs.Reading.{IsReadUpTo}
use Rattle.command_line.specs.SchemaFile.{IsRefusedText, IsOfNoTable}
use Rattle.ibd_cli.specs.Outcome.{Told, OfSchema, Gives}
use Rattle.ibd_cli.specs.Run.{EndsAs}

-- the objects that a build names
pub record Objects (Q R O T : Type 0) : Type 0 where
  pub schema : Q
  pub rows : R
  pub out : O
  pub target : T

-- what the objects of a build tell
pub record Meanings (Q R O T : Type 0) : Type 1 where
  pub schema : SourceOf Q
  pub rows : SourceOf R
  pub out : SinkOf O
  pub target : StoreOf T

-- the texts that a build reads
pub record Texts : Type 0 where
  pub schema : List ℕ
  pub rows : List ℕ

-- the objects tell the texts that a build reads
pub record TellsTexts {Q R O T : Type 0} (g : Meanings Q R O T) (objects : Objects Q R O T) (texts : Texts)
    : Type 0 where
  pub schema : g.schema.left objects.schema ≡ Some texts.schema
  pub rows : g.rows.left objects.rows ≡ Some texts.rows

-- the line of a build
abbrev pub built_line : ℕ → ℕ → List ℕ
built_line pages rows = counted (codes "pages=") pages ++ counted (codes " rows=") rows ++ codes "\n"

-- a root of the schema isn't the page behind the root before it
abbrev pub HasMisplacedRoot : List ℕ → ℕ → Type 0
HasMisplacedRoot schema line = (table : TableDef) × IsTextOf table schema × RootOrderChecks table (Some line)

-- the schema text is refused, as such or by a root
abbrev pub IsRefusedForBuild : List ℕ → ℕ → SchemaWhy → Type 0
IsRefusedForBuild schema line why =
    IsRefusedText schema line why ⊎ ((why ≡ whys.Root) × HasMisplacedRoot schema line)

-- a fact of some table and some rows, those of the schema text and of the rows text if these are told
abbrev pub OfTableRows : Option (List ℕ) → Option (List ℕ) → (TableDef → Rows → Type 0) → Type 0
OfTableRows schema rows Fact = OfSchema schema (λ table. OfRows table rows (Fact table))

-- how a build of these texts ends, and what it writes
abbrev pub GivesBuilt : Texts → Status → List ℕ → Type 0
GivesBuilt texts Done output =
    OfSchema (Some texts.schema)
    (λ table. (rows : Rows) × ComesTo table texts.rows (Ok rows)
    × (output ≡ built_line (layout_size table rows) (length rows)))
GivesBuilt texts (SchemaRefused line why) output = IsRefusedForBuild texts.schema line why × (output ≡ [])
GivesBuilt texts (RowsRefused line why) output =
    OfSchema (Some texts.schema) (λ table. ComesTo table texts.rows (Err (stops.RowsRefused line why)))
    × (output ≡ [])
GivesBuilt texts Full output =
    OfSchema (Some texts.schema) (λ table. ComesTo table texts.rows (Err stops.Full)) × (output ≡ [])
GivesBuilt texts _ output = ⊥

-- nothing is written
pub record WritesNothing {Q R O T : Type 0} (old now : Objects Q R O T) : Type 0 where
  pub out : now.out ≡ old.out
  pub target : now.target ≡ old.target

-- both texts were read to their ends
pub record ReadsTexts {Q R O T : Type 0} (g : Meanings Q R O T) (old now : Objects Q R O T) : Type 0 where
  pub schema : IfSome (g.schema.left old.schema) (λ text. g.schema.left now.schema ≡ Some [])
  pub rows : IfSome (g.rows.left old.rows) (λ text. g.rows.left now.rows ≡ Some [])

-- a fact of the table and the rows that a build read
abbrev pub OfBuilt : {Q R O T : Type 0} → Meanings Q R O T → Objects Q R O T → (TableDef → Rows → Type 0) → Type 0
OfBuilt g old Fact = OfTableRows (g.schema.left old.schema) (g.rows.left old.rows) Fact

-- the target holds the layout of the rows, and the line of their numbers was written so
abbrev pub BuildsWhole : {Q R O T : Type 0} → Meanings Q R O T → Objects Q R O T → Objects Q R O T
    → (Option (List ℕ) → Option (List ℕ) → List ℕ → Type 0) → Type 0
BuildsWhole g old now Writes =
    OfBuilt g old (λ table rows. FitsSpace table rows
    × HoldsLayout table rows (g.target.told old.target) (g.target.told now.target)
    × Writes (g.out.written old.out) (g.out.written now.out) (built_line (layout_size table rows) (length rows)))

-- the target wasn't called, or all rows were good and it was sized for them
abbrev pub LeavesUncalledOrSized : {Q R O T : Type 0} → Meanings Q R O T → Objects Q R O T → Objects Q R O T → Type 0
LeavesUncalledOrSized g old now =
    (now.target ≡ old.target) ⊎ OfBuilt g old (λ table rows. FitsSpace table rows
    × IsSizedFor table rows (g.target.told old.target) (g.target.told now.target))

-- how a build ends, and how its objects stand
abbrev pub EndsBuild : {Q R O T : Type 0} → Meanings Q R O T → Objects Q R O T → Objects Q R O T → Status → Type 0
EndsBuild g old now Done = BuildsWhole g old now GrowsBy × ReadsTexts g old now
EndsBuild g old now (SchemaRefused line why) =
    IfSome (g.schema.left old.schema) (λ text. IsRefusedForBuild text line why) × (now.rows ≡ old.rows)
    × WritesNothing old now
EndsBuild g old now (RowsRefused line why) =
    OfSchema (g.schema.left old.schema) (λ table. RootOrderChecks table None
    × IfSome (g.rows.left old.rows) (λ text. RowsChecks table text (Some (record { line = line; why = why }))
    × ReadsNear text (g.rows.left now.rows) (line - 1)))
    × WritesNothing old now
EndsBuild g old now Full = OfBuilt g old (λ table rows. 256 < layout_extents table rows) × WritesNothing old now
EndsBuild g old now SourceFault = WritesNothing old now
EndsBuild g old now SinkFault = BuildsWhole g old now GrowsByPart
EndsBuild g old now StoreFault =
    OfBuilt g old (λ table rows. FitsSpace table rows
    × HoldsPart table rows (g.target.told old.target) (g.target.told now.target))
    × (now.out ≡ old.out)
EndsBuild g old now Memory =
    LacksHead (g.target.told now.target) × LeavesUncalledOrSized g old now × (now.out ≡ old.out)
EndsBuild g old now _ = ⊥

-- a status that ends a build after all pages were put
abbrev pub HasBuilt : Status → Type 0
HasBuilt Done = ⊤
HasBuilt SinkFault = ⊤
HasBuilt _ = ⊥

-- what is said of the bytes that a store holds, where it tells them
abbrev pub OfStore : Store → (List ℕ → Type 0) → Type 0
OfStore store Fact = IfSome store.size (λ size. IfSome store.held (λ held. Fact (file_of size held)))

-- what the command `dump` is told of a file, with the schema text of a build
abbrev pub told_of : Texts → List ℕ → Told
told_of texts file = record { schema = texts.schema; file = file }

-- a dump of the file with the schema text of a build is done with the text of its rows, and ends in no other way
pub record DumpsAsRead (texts : Texts) (file : List ℕ) : Type 0 where
  pub gives : (key : List ℕ) → Gives Dump key (told_of texts file) Done texts.rows
  pub only : (key : List ℕ) (status : Status) (output : List ℕ) → Gives Dump key (told_of texts file) status output
      → (status ≡ Done) × (output ≡ texts.rows)

-- the whole promise of a build
pub record ServesBuild {Q R O T : Type 0} (g : Meanings Q R O T) (old now : Objects Q R O T) (status : Status)
    : Type 0 where
  -- the schema text is read first, and at most one byte more than it may have
  pub read : IfSome (g.schema.left old.schema) (λ text. IsReadUpTo 65537 text (g.schema.left now.schema))
  -- if the schema text is that of no table, no row is read and nothing is written
  pub untouched : (text : List ℕ) → g.schema.left old.schema ≡ Some text → IsOfNoTable text
      → (now.rows ≡ old.rows) × WritesNothing old now
  -- a refusal of the schema text, as such or by a root, ends the build
  pub alone : (text : List ℕ) (line : ℕ) (why : SchemaWhy) → g.schema.left old.schema ≡ Some text
      → IsRefusedForBuild text line why → EndsAs (SchemaRefused line why) status
  -- how the build ends, and how its objects stand
  pub ends : EndsBuild g old now status
  -- where the texts are told, the status is the one that they define
  pub complete : (texts : Texts) (given : Status) (output : List ℕ) → TellsTexts g old texts
      → GivesBuilt texts given output → EndsAs given status
  -- a fault was counted of the object that the status blames
  pub source : status ≡ SourceFault
      → Rose (g.schema.faults old.schema) (g.schema.faults now.schema)
      ⊎ Rose (g.rows.faults old.rows) (g.rows.faults now.rows)
  pub sink : status ≡ SinkFault → Rose (g.out.faults old.out) (g.out.faults now.out)
  pub store : status ≡ StoreFault → Rose (g.target.faults old.target) (g.target.faults now.target)
  -- what the target then holds is dumped as the text of rows that was read
  pub dumps : HasBuilt status → (texts : Texts) → TellsTexts g old texts
      → OfStore (g.target.told now.target) (DumpsAsRead texts)
