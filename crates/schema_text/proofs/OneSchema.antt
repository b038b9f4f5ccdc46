-- A text is that of one schema at the most.
use Rattle.std.proofs.Common.{◌≡◌, ℕ, List, sym, ap, ◌∙◌}
use Rattle.schema_text.specs.TableDef.{TableDef}
use Rattle.schema_text.specs.Grammar.{IsTable, IsTextOf}
use Rattle.schema_text.specs.Parts.{IsPart}
use Rattle.schema_text.specs.Refusals.{Line, lines_of, AreLinesOf}
use Rattle.schema_text.proofs.WordsBack.{text_back}
use Rattle.schema_text.proofs.ReadBack.{table_of, table_is}

pub is_part : (t : TableDef) → IsTable t → IsPart t
is_part t is = record {
  columns = record {
    name = is.name;
    few = is.columns;
    names = is.column_names;
    kinds = is.kinds;
    differ = is.columns_differ;
  };
  indexes = record {
    behind = λ _. is.some_column;
    few = is.indexes;
    unnamed = is.unnamed;
    named = is.named;
    differ = is.indexes_differ;
    keys = is.keys;
    not_null = is.not_null;
    roots = is.roots;
    roots_differ = is.roots_differ;
    lines = is.lines;
  };
}

-- the same of lines
pub one_table : (t u : TableDef) (lines : List Line) → AreLinesOf t lines → AreLinesOf u lines → t ≡ u
one_table t u lines a b =
    sym (table_is t a.part) ∙ ap table_of (sym a.spelled ∙ b.spelled) ∙ table_is u b.part

pub text_lines : (t : TableDef) (text : List ℕ) → IsTextOf t text → AreLinesOf t (lines_of text)
text_lines t text h =
    let part = is_part t h.is in
    record { part = part; spelled = ap lines_of h.text_is ∙ (text_back t part).lines }

pub one_schema : (t u : TableDef) (text : List ℕ) → IsTextOf t text → IsTextOf u text → t ≡ u
one_schema t u text a b = one_table t u (lines_of text) (text_lines t text a) (text_lines u text b)
