-- A schema text is that of one schema, or refused in one way.
use Rattle.std.proofs.Common.{◌≡◌, ℕ, List, Option, Some, None, Result, Ok, Err, ap}
use Rattle.schema_text.specs.TableDef.{TableDef}
use Rattle.schema_text.specs.Grammar.{IsTextOf}
use Rattle.schema_text.specs.declared.errors.SchemaWhy.{SchemaWhy}
use Rattle.schema_text.specs.Refusals.{BadLine, SchemaOf}
use Rattle.schema_text.specs.Laws.{HasOneSchema, TextsPass, ChecksHaveOneAnswer}
use Rattle.command_line.specs.SchemaFile.{IsRefusedText}

abbrev pub HasOneAnswer : List ℕ → Type 0
HasOneAnswer schema = (a b : Result TableDef BadLine) → SchemaOf schema a → SchemaOf schema b → a ≡ b

abbrev AreSameBad : Option BadLine → Option BadLine → Type 0
AreSameBad x y = x ≡ y

none_is_some : (bad : BadLine) → AreSameBad None (Some bad) → ⊥
none_is_some bad e = cc

same_bad : (a b : BadLine) → AreSameBad (Some a) (Some b) → a ≡ b
same_bad a b e = cc

pub one_answer : HasOneSchema → TextsPass → ChecksHaveOneAnswer → (text : List ℕ) → HasOneAnswer text
one_answer schema pass one text (Ok a) (Ok b) p q = ap Ok (schema a b text p q)
one_answer schema pass one text (Ok a) (Err bad) p q =
    absurd (none_is_some bad (one text None (Some bad) (pass a text p) q))
one_answer schema pass one text (Err bad) (Ok b) p q =
    absurd (none_is_some bad (one text None (Some bad) (pass b text q) p))
one_answer schema pass one text (Err a) (Err b) p q = ap Err (same_bad a b (one text (Some a) (Some b) p q))

-- a refused text is that of no table
err_is_not_ok : (table : TableDef) (bad : BadLine) → Ok table ≡ Err bad → ⊥
err_is_not_ok table bad e = cc

pub no_table : (text : List ℕ) (one : HasOneAnswer text) (line : ℕ) (why : SchemaWhy) (table : TableDef)
    → IsRefusedText text line why → IsTextOf table text → ⊥
no_table text one line why table refused is =
    let bad : BadLine = record { line = line; why = why } in
    err_is_not_ok table bad (one (Ok table) (Err bad) is refused)

-- another text is that of one table, and a refused one is refused in one way
abbrev AreSame : Result TableDef BadLine → Result TableDef BadLine → Type 0
AreSame x y = x ≡ y

pub some_table : (a b : TableDef) → AreSame (Ok a) (Ok b) → a ≡ b
some_table a b e = cc

pub some_bad : (a b : BadLine) → AreSame (Err a) (Err b) → a ≡ b
some_bad a b e = cc
