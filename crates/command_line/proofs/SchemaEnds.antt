-- What is known once the reading of a schema text has ended, for what a program says then.
use Rattle.std.proofs.Common.{◌≡◌, ℕ, List, [], Option, Some, Err, IfSome, subst}
use Rattle.page_source.specs.declared.objects.ByteSource.{Ghosts as SourceOf}
use Rattle.page_source.specs.Faults.{Rose}
use Rattle.schema_text.specs.TableDef.{TableDef}
use Rattle.schema_text.specs.Grammar.{IsTextOf}
use Rattle.command_line.specs.declared.schema_file.SchemaStop.{SchemaStop}
use Rattle.command_line.specs.declared.schema_file.SchemaStop.TheVariants.{Source}
use Rattle.command_line.specs.Reading.{IsReadUpTo}
use Rattle.command_line.specs.SchemaFile.{ReadsSchema}

-- what holds of a told content holds where it is told
pub at_told : {X : Type 0} (P : X → Type 0) (o : Option X) (x : X) → o ≡ Some x → IfSome o P → P x
at_told {X = X} P o x is holds = subst (λ (p : Option X). IfSome p P) is holds

-- the schema text was refused, or couldn't be read
pub record Stopped {Q : Type 0} (q : SourceOf Q) (schema schema_now : Q) (stop : SchemaStop) : Type 0 where
  pub reads : IfSome (q.left schema) (λ text. ReadsSchema text (q.left schema_now) (Err stop))
  pub read : IfSome (q.left schema) (λ text. IsReadUpTo 65537 text (q.left schema_now))
  pub cause : stop ≡ Source → Rose (q.faults schema) (q.faults schema_now)

-- the text was read to its end, and is that of a table
pub record HasTable {Q : Type 0} (q : SourceOf Q) (schema schema_now : Q) (table : TableDef) : Type 0 where
  pub reads : IfSome (q.left schema) (λ text. IsTextOf table text × (q.left schema_now ≡ Some []))
  pub read : IfSome (q.left schema) (λ text. IsReadUpTo 65537 text (q.left schema_now))
