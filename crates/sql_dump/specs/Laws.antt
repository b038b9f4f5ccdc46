-- A sound file has one dump of its table; and the laws of the crates below by which what was checked can be read.
use Rattle.std.specs.Prelude.{◌≡◌, ℕ, List}
use Rattle.space_audit.specs.Laws.{AuditIsSoundness}
use Rattle.offpage_chain.specs.Laws.{HasOneChain, ChecksAreWhole, ChainGoesOn}
use Rattle.schema_text.specs.TableDef.{TableDef}
use Rattle.schema_text.specs.Grammar.{IsTable}
use Rattle.tree_walk.specs.Laws.{RowsCanBeRead}
use Rattle.table_check.specs.Valid.{IsValid}
use Rattle.sql_dump.specs.Dump.{IsDumpOf}

-- an audited space is sound, a row of a checked tree can be read, and so can a checked value, along its one chain
pub record CheckedCanBeRead : Type 0 where
  pub audit : AuditIsSoundness
  pub readable : RowsCanBeRead
  pub one : HasOneChain
  pub whole : ChecksAreWhole
  pub goes_on : ChainGoesOn

-- a file has a dump of this table, and no other
pub record HasOneDump (file : List ℕ) (table : TableDef) : Type 0 where
  pub text : List ℕ
  pub is_dump : IsDumpOf file table text
  pub only : (other : List ℕ) → IsDumpOf file table other → other ≡ text

-- each sound file has one dump
abbrev pub SoundFilesHaveOneDump : Type 0
SoundFilesHaveOneDump = (file : List ℕ) (table : TableDef) → IsTable table → IsValid file table → HasOneDump file table
