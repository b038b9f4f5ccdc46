-- The inputs of a command on a table define one outcome: one status, and one output.
use Rattle.std.proofs.Common.{◌≡◌, ℕ, List, None, refl, sym, ◌∙◌, subst}
use Rattle.column_values.specs.Order.{Key}
use Rattle.schema_text.specs.TableDef.{TableDef}
use Rattle.schema_text.specs.Grammar.{IsTable}
use Rattle.table_check.specs.declared.table.Checked.{Checked}
use Rattle.table_check.specs.First.{IsChecked}
use Rattle.sql_dump.specs.Laws.{SoundFilesHaveOneDump}
use Rattle.cross_index.specs.declared.crossed.Crossed.{Crossed}
use Rattle.cross_index.specs.Cross.{IsCrossed}
use Rattle.key_lookup.specs.Get.{IsLineFound}
use Rattle.key_lookup.specs.Laws.{FindsOneLine}
use Rattle.ibd_cli.specs.declared.status.Status.{Status}
use Rattle.ibd_cli.specs.declared.status.Status.TheVariants.{Done, SchemaRefused, Broken}
use Rattle.ibd_cli.specs.declared.status.Status.TheVariants.{CrossMissing, CrossExtra, KeyRefused, Absent}
use Rattle.ibd_cli.specs.declared.forms.Task.{Task}
use Rattle.ibd_cli.specs.declared.forms.Task.TheVariants.{Check, Dump, Cross, Get}
use Rattle.command_line.proofs.OneAnswer.{HasOneAnswer}
use Rattle.ibd_cli.specs.Outcome.{checked_line, crossed_line, IsDone, Told, Gives}
use Rattle.ibd_cli.proofs.Outcomes.{AnswersOnce, same_key, of_table, refused_gives, ends_as}

-- a sound file has one dump, and a row that is found one line
pub record WritesOnce : Type 0 where
  pub dump : SoundFilesHaveOneDump
  pub line : FindsOneLine

-- the lines of numbers that are those of one file are the same
same_checked : (file : List ℕ) (table : TableDef) (a b : Checked) → IsChecked file table a → IsChecked file table b
    → checked_line a ≡ checked_line b
same_checked file table a b p q =
    rw (p.has_pages, p.has_used, p.has_rows, p.has_deleted, p.has_unreached)
    (rw (q.has_pages, q.has_used, q.has_rows, q.has_deleted, q.has_unreached) refl)

same_crossed : (file : List ℕ) (table : TableDef) (a b : Crossed) → IsCrossed file table a → IsCrossed file table b
    → crossed_line a ≡ crossed_line b
same_crossed file table a b p q = rw (p.has_indexes, p.has_entries) (rw (q.has_indexes, q.has_entries) refl)

-- what a task writes of a file of a table is one text
one_output : (once : AnswersOnce) (writes : WritesOnce) (task : Task) (key file : List ℕ) (table : TableDef)
    → IsTable table → (a b : List ℕ) → IsDone task key file table a → IsDone task key file table b → a ≡ b
one_output once writes Check key file table is a b p q =
    p.written.2 ∙ same_checked file table p.written.0 q.written.0 p.written.1 q.written.1 ∙ sym q.written.2
one_output once writes Dump key file table is a b p q =
    let one = writes.dump file table is p.valid in one.only a p.written ∙ sym (one.only b q.written)
one_output once writes Cross key file table is a b p q =
    p.written.written
    ∙ same_crossed file table p.written.crossed q.written.crossed p.written.numbers q.written.numbers
    ∙ sym q.written.written
one_output once writes Get key file table is a b p q =
    writes.line file table p.written.0 a b is p.written.2
    (same_key once table key is (λ (k : Key). IsLineFound file table k b) p.written.0 p.written.1 q.written)

module _ (once : AnswersOnce) (task : Task) (key : List ℕ) (told : Told) (one : HasOneAnswer told.schema) where
  -- what the inputs define is one status
  pub one_status : (a b : Status) (x y : List ℕ) → Gives task key told a x → Gives task key told b y → a ≡ b
  one_status Done b x y p q =
      ends_as once task key told one p.0 p.1 Done None None (x, p.2, refl) b y q
  one_status (SchemaRefused line why) b x y p q = refused_gives task key told one line why p.0 b y q
  one_status (Broken fault) b x y p q =
      ends_as once task key told one p.0.0 p.0.1 (Broken fault) None None (p.0.2, refl) b y q
  one_status KeyRefused b x y p q = ends_as once task key told one p.0.0 p.0.1 KeyRefused None None (p.0.2, refl) b y q
  one_status Absent b x y p q = ends_as once task key told one p.0.0 p.0.1 Absent None None (p.0.2, refl) b y q
  one_status (CrossMissing index row) b x y p q =
      ends_as once task key told one p.0.0 p.0.1 (CrossMissing index row) None None (p.0.2, refl) b y q
  one_status (CrossExtra index page) b x y p q =
      ends_as once task key told one p.0.0 p.0.1 (CrossExtra index page) None None (p.0.2, refl) b y q
  one_status _ b x y p q = absurd p

  same_output : (writes : WritesOnce) (status : Status) (x y : List ℕ) → Gives task key told status x
      → Gives task key told status y → x ≡ y
  same_output writes Done x y p q =
      one_output once writes task key told.file p.0 p.1.is x y p.2
      (of_table told one p.0 (λ t. IsDone task key told.file t y) p.1 q)
  same_output writes (SchemaRefused line why) x y p q = p.1 ∙ sym q.1
  same_output writes (Broken fault) x y p q = p.1 ∙ sym q.1
  same_output writes KeyRefused x y p q = p.1 ∙ sym q.1
  same_output writes Absent x y p q = p.1 ∙ sym q.1
  same_output writes (CrossMissing index row) x y p q = p.1 ∙ sym q.1
  same_output writes (CrossExtra index page) x y p q = p.1 ∙ sym q.1
  same_output writes _ x y p q = absurd p

  -- and one output with it
  pub one_outcome : (writes : WritesOnce) (a b : Status) (x y : List ℕ) → Gives task key told a x
      → Gives task key told b y → (a ≡ b) × (x ≡ y)
  one_outcome writes a b x y p q =
      let same = one_status a b x y p q in
      (same, same_output writes b x y (subst (λ (s : Status). Gives task key told s x) same p) q)
