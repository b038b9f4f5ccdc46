-- The inputs define one status.
use Rattle.std.proofs.Common.{◌≡◌, ℕ, List, Option, Some, None, Result, Ok, Err, refl, sym, ap, ◌∙◌, subst}
use Rattle.page_source.specs.declared.rule.Fault.{Fault}
use Rattle.page_source.proofs.Unique.{some_is_not_none}
use Rattle.schema_text.specs.TableDef.{TableDef}
use Rattle.schema_text.specs.Grammar.{IsTable, IsTextOf}
use Rattle.schema_text.specs.declared.errors.SchemaWhy.{SchemaWhy}
use Rattle.schema_text.specs.Refusals.{BadLine}
use Rattle.column_values.specs.Order.{Key}
use Rattle.tree_walk.specs.Index.{Row}
use Rattle.table_check.specs.Trees.{clustered_tree}
use Rattle.table_check.specs.Laws.{FirstHasOneAnswer, ChecksAreValidity}
use Rattle.cross_index.specs.Differ.{Difference, Missing, Extra, Differ}
use Rattle.cross_index.specs.Laws.{HasOneDifference}
use Rattle.key_lookup.specs.KeyOfText.{SpellsKey}
use Rattle.key_lookup.specs.GetFirst.{GetFirst}
use Rattle.key_lookup.specs.Record.{found_row}
use Rattle.key_lookup.specs.Laws.{GetFirstHasOneAnswer, SpellsOneKey}
use Rattle.ibd_cli.specs.declared.status.Status.{Status}
use Rattle.ibd_cli.specs.declared.status.Status.TheVariants.{Done, SchemaRefused, Broken}
use Rattle.ibd_cli.specs.declared.status.Status.TheVariants.{SourceFault, SinkFault, Memory}
use Rattle.ibd_cli.specs.declared.status.Status.TheVariants.{CrossMissing, CrossExtra, KeyRefused, Absent}
use Rattle.ibd_cli.specs.declared.forms.Task.{Task}
use Rattle.ibd_cli.specs.declared.forms.Task.TheVariants.{Cross, Get}
use Rattle.command_line.specs.SchemaFile.{IsRefusedText}
use Rattle.ibd_cli.specs.Outcome.{OfTable, OfKey, FirstOf, IsNoKeyOf, IsAbsentOf, IsDone, Told, Gives}
use Rattle.ibd_cli.specs.Outcome.{FindsDifference}
use Rattle.ibd_cli.specs.Answers.{Ends}
use Rattle.ibd_cli.specs.Run.{EndsAs}
use Rattle.command_line.proofs.OneAnswer.{HasOneAnswer, no_table, some_table, some_bad}

-- a refused text is refused in one way
pub one_refusal : (text : List ℕ) (one : HasOneAnswer text) (line other : ℕ) (why reason : SchemaWhy)
    → IsRefusedText text line why → IsRefusedText text other reason
    → SchemaRefused line why ≡ SchemaRefused other reason
one_refusal text one line other why reason p q =
    let a : BadLine = record { line = line; why = why } in
    let b : BadLine = record { line = other; why = reason } in
    ap (λ (bad : BadLine). SchemaRefused bad.line bad.why) (some_bad a b (one (Err a) (Err b) p q))

-- what holds of a text's table holds of each table that it is of
pub of_table : (told : Told) (one : HasOneAnswer told.schema) (table : TableDef) (P : TableDef → Type 0)
    → IsTextOf table told.schema → OfTable told P → P table
of_table told one table P is of =
    subst P (some_table of.0 table (one (Ok of.0) (Ok table) of.1 is)) of.2

-- where the text is refused, so is the outcome
pub refused_gives : (task : Task) (key : List ℕ) (told : Told) (one : HasOneAnswer told.schema) (line : ℕ)
    (why : SchemaWhy) → IsRefusedText told.schema line why → (given : Status) (output : List ℕ)
    → Gives task key told given output → EndsAs given (SchemaRefused line why)
refused_gives task key told one line why refused Done output gives =
    absurd (no_table told.schema one line why gives.0 refused gives.1)
refused_gives task key told one line why refused (SchemaRefused other reason) output gives =
    one_refusal told.schema one line other why reason refused gives.0
refused_gives task key told one line why refused (Broken fault) output gives =
    absurd (no_table told.schema one line why gives.0.0 refused gives.0.1)
refused_gives task key told one line why refused KeyRefused output gives =
    absurd (no_table told.schema one line why gives.0.0 refused gives.0.1)
refused_gives task key told one line why refused Absent output gives =
    absurd (no_table told.schema one line why gives.0.0 refused gives.0.1)
refused_gives task key told one line why refused (CrossMissing index row) output gives =
    absurd (no_table told.schema one line why gives.0.0 refused gives.0.1)
refused_gives task key told one line why refused (CrossExtra index page) output gives =
    absurd (no_table told.schema one line why gives.0.0 refused gives.0.1)
refused_gives task key told one line why refused _ output gives = absurd gives

-- a file has one first broken check, or none; so has the way to a row, and a text spells one key
pub record AnswersOnce : Type 0 where
  pub first : FirstHasOneAnswer
  pub row : GetFirstHasOneAnswer
  pub spelled : SpellsOneKey
  pub valid : ChecksAreValidity
  pub differ : HasOneDifference

-- what holds of a key that the text spells holds of each one
pub same_key : (once : AnswersOnce) (table : TableDef) (key : List ℕ) → IsTable table → (P : Key → Type 0) (a : Key)
    → SpellsKey table key a → OfKey table key P → P a
same_key once table key is P a spells of = subst P (once.spelled table key of.0 a is of.1 spells) of.2

first_once : (once : AnswersOnce) (task : Task) (key file : List ℕ) (table : TableDef) → IsTable table
    → (a b : Option Fault) → FirstOf task key file table a → FirstOf task key file table b → a ≡ b
first_once once Get key file table is a b x y =
    once.row file table x.0 a b x.2 (same_key once table key is (λ (k : Key). GetFirst file table k b) x.0 x.1 y)
first_once once _ key file table is a b x y = once.first file table a b x y

-- the row that a task names is there, or no index differs from the rows that it compares
abbrev HasRowOf : Task → List ℕ → List ℕ → TableDef → Type 0
HasRowOf Get key file table =
    OfKey table key (λ sought. (row : Row) × (found_row (clustered_tree file table) sought ≡ Some row))
HasRowOf Cross key file table = Differ file table None
HasRowOf _ key file table = Unit {0}

done_row : (task : Task) (key file : List ℕ) (table : TableDef) (output : List ℕ) → IsDone task key file table output
    → HasRowOf task key file table
done_row Get key file table output done =
    (done.written.0, done.written.1, (done.written.2.row, done.written.2.found))
done_row Cross key file table output done = done.written.same
done_row _ key file table output done = tt

-- a text that is no key's leads to no check, and a row isn't there and absent
no_key_first : (task : Task) (key file : List ℕ) (table : TableDef) (v : Option Fault) → IsNoKeyOf task key table
    → FirstOf task key file table v → ⊥
no_key_first Get key file table v none x = none x.0 x.1
no_key_first _ key file table v none x = none

absent_first : (task : Task) (key file : List ℕ) (table : TableDef) → IsAbsentOf task key file table
    → FirstOf task key file table None
absent_first Get key file table none = (none.0, none.1, none.2.good)
absent_first _ key file table none = absurd none

none_is_some : (o : Option Row) (row : Row) → o ≡ None → o ≡ Some row → ⊥
none_is_some o row e f = cc

absent_row : (once : AnswersOnce) (task : Task) (key file : List ℕ) (table : TableDef) → IsTable table
    → IsAbsentOf task key file table → HasRowOf task key file table → ⊥
absent_row once Get key file table is none row =
    let at = same_key once table key is
    (λ (k : Key). (r : Row) × (found_row (clustered_tree file table) k ≡ Some r)) none.0 none.1 row in
    none_is_some (found_row (clustered_tree file table) none.0) at.0 none.2.none at.1
absent_row once _ key file table is none row = none

-- a file in which a difference is found is sound, and has this one alone
found_sound : (once : AnswersOnce) (task : Task) (key file : List ℕ) (table : TableDef) (difference : Difference)
    → FindsDifference task file difference table → FirstOf task key file table None
found_sound once Cross key file table difference finds = (once.valid file table).1 finds.valid
found_sound once _ key file table difference finds = absurd finds

found_none : (once : AnswersOnce) (task : Task) (key file : List ℕ) (table : TableDef) (difference : Difference)
    → IsTable table → FindsDifference task file difference table → HasRowOf task key file table → ⊥
found_none once Cross key file table difference is finds none =
    let one = once.differ file table is finds.valid in
    some_is_not_none difference (one.only (Some difference) finds.differ ∙ sym (one.only None none))
found_none once _ key file table difference is finds none = finds

some_difference : (d e : Difference) → Some d ≡ Some e → d ≡ e
some_difference d e same = cc

found_one : (once : AnswersOnce) (task : Task) (file : List ℕ) (table : TableDef) (a b : Difference) → IsTable table
    → FindsDifference task file a table → FindsDifference task file b table → a ≡ b
found_one once Cross file table a b is p q =
    let one = once.differ file table is p.valid in
    some_difference a b (one.only (Some a) p.differ ∙ sym (one.only (Some b) q.differ))
found_one once _ file table a b is p q = absurd p

absent_found : (task : Task) (key file : List ℕ) (table : TableDef) (difference : Difference)
    → IsAbsentOf task key file table → FindsDifference task file difference table → ⊥
absent_found Get key file table difference none finds = finds
absent_found _ key file table difference none finds = none

-- the status of a difference
abbrev difference_status : Difference → Status
difference_status (Missing index row) = CrossMissing index row
difference_status (Extra index page) = CrossExtra index page

-- the outcome of a table is that of the file
abbrev FileGives : Task → List ℕ → List ℕ → TableDef → Status → Type 0
FileGives task key file table Done = FirstOf task key file table None × HasRowOf task key file table
FileGives task key file table (Broken fault) = FirstOf task key file table (Some fault)
FileGives task key file table KeyRefused = IsNoKeyOf task key table
FileGives task key file table Absent = IsAbsentOf task key file table
FileGives task key file table (CrossMissing index row) = FindsDifference task file (Missing index row) table
FileGives task key file table (CrossExtra index page) = FindsDifference task file (Extra index page) table
FileGives task key file table _ = ⊥

file_gives : (task : Task) (key : List ℕ) (told : Told) (one : HasOneAnswer told.schema) (table : TableDef)
    → IsTextOf table told.schema → (given : Status) (output : List ℕ) → Gives task key told given output
    → FileGives task key told.file table given
file_gives task key told one table is Done output gives =
    of_table told one table (λ t. FirstOf task key told.file t None × HasRowOf task key told.file t) is
    (gives.0, gives.1, (gives.2.sound, done_row task key told.file gives.0 output gives.2))
file_gives task key told one table is (SchemaRefused line why) output gives =
    absurd (no_table told.schema one line why table gives.0 is)
file_gives task key told one table is (Broken fault) output gives =
    of_table told one table (λ t. FirstOf task key told.file t (Some fault)) is gives.0
file_gives task key told one table is KeyRefused output gives =
    of_table told one table (IsNoKeyOf task key) is gives.0
file_gives task key told one table is Absent output gives =
    of_table told one table (IsAbsentOf task key told.file) is gives.0
file_gives task key told one table is (CrossMissing index row) output gives =
    of_table told one table (FindsDifference task told.file (Missing index row)) is gives.0
file_gives task key told one table is (CrossExtra index page) output gives =
    of_table told one table (FindsDifference task told.file (Extra index page)) is gives.0
file_gives task key told one table is _ output gives = absurd gives

some_fault : (f g : Fault) → Some f ≡ Some g → f ≡ g
some_fault f g e = cc

-- and it is one
module _ (once : AnswersOnce) (task : Task) (key file : List ℕ) (table : TableDef) (is : IsTable table) where
  sound_ends : FirstOf task key file table None → HasRowOf task key file table → (given : Status)
      → FileGives task key file table given → EndsAs given Done
  sound_ends sound row Done gives = refl
  sound_ends sound row (Broken fault) gives =
      some_is_not_none fault (first_once once task key file table is (Some fault) None gives sound)
  sound_ends sound row KeyRefused gives = absurd (no_key_first task key file table None gives sound)
  sound_ends sound row Absent gives = absurd (absent_row once task key file table is gives row)
  sound_ends sound row (CrossMissing index place) gives =
      absurd (found_none once task key file table (Missing index place) is gives row)
  sound_ends sound row (CrossExtra index page) gives =
      absurd (found_none once task key file table (Extra index page) is gives row)
  sound_ends sound row _ gives = absurd gives

  broken_found : {A : Type 0} (fault : Fault) (difference : Difference) → FirstOf task key file table (Some fault)
      → FindsDifference task file difference table → A
  broken_found fault difference first finds =
      some_is_not_none fault (first_once once task key file table is (Some fault) None first
      (found_sound once task key file table difference finds))

  broken_ends : (fault : Fault) → FirstOf task key file table (Some fault) → (given : Status)
      → FileGives task key file table given → EndsAs given (Broken fault)
  broken_ends fault first Done gives =
      some_is_not_none fault (first_once once task key file table is (Some fault) None first gives.0)
  broken_ends fault first (Broken other) gives =
      ap Broken (some_fault fault other (first_once once task key file table is (Some fault) (Some other) first gives))
  broken_ends fault first KeyRefused gives = absurd (no_key_first task key file table (Some fault) gives first)
  broken_ends fault first Absent gives =
      some_is_not_none fault
      (first_once once task key file table is (Some fault) None first (absent_first task key file table gives))
  broken_ends fault first (CrossMissing index row) gives = broken_found fault (Missing index row) first gives
  broken_ends fault first (CrossExtra index page) gives = broken_found fault (Extra index page) first gives
  broken_ends fault first _ gives = absurd gives

  unkeyed_found : (difference : Difference) → IsNoKeyOf task key table → FindsDifference task file difference table → ⊥
  unkeyed_found difference none finds =
      no_key_first task key file table None none (found_sound once task key file table difference finds)

  unkeyed_ends : IsNoKeyOf task key table → (given : Status) → FileGives task key file table given
      → EndsAs given KeyRefused
  unkeyed_ends none Done gives = absurd (no_key_first task key file table None none gives.0)
  unkeyed_ends none (Broken fault) gives = absurd (no_key_first task key file table (Some fault) none gives)
  unkeyed_ends none KeyRefused gives = refl
  unkeyed_ends none (CrossMissing index row) gives = absurd (unkeyed_found (Missing index row) none gives)
  unkeyed_ends none (CrossExtra index page) gives = absurd (unkeyed_found (Extra index page) none gives)
  unkeyed_ends none Absent gives =
      absurd (no_key_first task key file table None none (absent_first task key file table gives))
  unkeyed_ends none _ gives = absurd gives

  absent_ends : IsAbsentOf task key file table → (given : Status) → FileGives task key file table given
      → EndsAs given Absent
  absent_ends none Done gives = absurd (absent_row once task key file table is none gives.1)
  absent_ends none (Broken fault) gives =
      some_is_not_none fault
      (first_once once task key file table is (Some fault) None gives (absent_first task key file table none))
  absent_ends none KeyRefused gives =
      absurd (no_key_first task key file table None gives (absent_first task key file table none))
  absent_ends none Absent gives = refl
  absent_ends none (CrossMissing index row) gives =
      absurd (absent_found task key file table (Missing index row) none gives)
  absent_ends none (CrossExtra index page) gives =
      absurd (absent_found task key file table (Extra index page) none gives)
  absent_ends none _ gives = absurd gives

  found_ends : (difference : Difference) → FindsDifference task file difference table → (given : Status)
      → FileGives task key file table given → difference_status difference ≡ given
  found_ends difference finds Done gives = absurd (found_none once task key file table difference is finds gives.1)
  found_ends difference finds (Broken fault) gives = broken_found fault difference gives finds
  found_ends difference finds KeyRefused gives = absurd (unkeyed_found difference gives finds)
  found_ends difference finds Absent gives = absurd (absent_found task key file table difference gives finds)
  found_ends difference finds (CrossMissing index row) gives =
      ap difference_status (found_one once task file table difference (Missing index row) is finds gives)
  found_ends difference finds (CrossExtra index page) gives =
      ap difference_status (found_one once task file table difference (Extra index page) is finds gives)
  found_ends difference finds _ gives = absurd gives

  -- and so is the status
  file_ends : (status : Status) (old new : Option (List ℕ)) → Ends task key file table status old new
      → (given : Status) → FileGives task key file table given → EndsAs given status
  file_ends Done old new ends given gives =
      sound_ends ends.1.sound (done_row task key file table ends.0 ends.1) given gives
  file_ends (Broken fault) old new ends given gives = broken_ends fault ends.0 given gives
  file_ends SourceFault old new ends given gives = tt
  file_ends SinkFault old new ends given gives = tt
  file_ends Memory old new ends given gives = tt
  file_ends KeyRefused old new ends given gives = unkeyed_ends ends.0 given gives
  file_ends Absent old new ends given gives = absent_ends ends.0 given gives
  file_ends (CrossMissing index row) old new ends given gives = found_ends (Missing index row) ends.0 given gives
  file_ends (CrossExtra index page) old new ends given gives = found_ends (Extra index page) ends.0 given gives
  file_ends _ old new ends given gives = absurd ends

pub ends_as : (once : AnswersOnce) (task : Task) (key : List ℕ) (told : Told) (one : HasOneAnswer told.schema)
    (table : TableDef) → IsTextOf table told.schema → (status : Status) (old new : Option (List ℕ))
    → Ends task key told.file table status old new → (given : Status) (output : List ℕ)
    → Gives task key told given output → EndsAs given status
ends_as once task key told one table is status old new ends given output gives =
    file_ends once task key told.file table is.is status old new ends given
    (file_gives task key told one table is given output gives)

-- where no rule is broken for some output, none is broken for this table
pub sound_of : (task : Task) (key : List ℕ) (told : Told) (one : HasOneAnswer told.schema) (table : TableDef)
    → IsTextOf table told.schema → (output : List ℕ) → Gives task key told Done output
    → FirstOf task key told.file table None
sound_of task key told one table is output gives = (file_gives task key told one table is Done output gives).0
