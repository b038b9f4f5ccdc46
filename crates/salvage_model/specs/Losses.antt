-- The lines that name what was lost.
use Rattle.std.specs.Prelude.{ℕ, List, [], ◌++◌, flat_map, zip, codes, decimal, Option, Some, None}
use Rattle.page_source.specs.declared.rule.Rule.{Rule}
use Rattle.page_source.specs.Rules.{rule_number, rule_name}
use Rattle.schema_text.specs.declared.table.Column.{Column}
use Rattle.schema_text.specs.TableDef.{TableDef}
use Rattle.salvage_model.specs.declared.loss.Loss.{Loss}
use Rattle.salvage_model.specs.declared.loss.Loss.TheVariants.{Broken, Unread}

-- a number after its name
abbrev pub counted : List ℕ → ℕ → List ℕ
counted name n = name ++ decimal n

abbrev pub broken_text : Rule → List ℕ
broken_text rule = counted (codes " broken ") (rule_number rule) ++ codes " " ++ rule_name rule

-- a page that couldn't be fetched, and one that is broken
abbrev pub unread_line : ℕ → List ℕ
unread_line n = counted (codes "page ") n ++ codes " unread\n"

abbrev pub broken_line : ℕ → Rule → List ℕ
broken_line n rule = counted (codes "page ") n ++ broken_text rule ++ codes "\n"

-- why a value is lost, and the page that this is about
abbrev pub loss_line : Loss → List ℕ
loss_line (Broken fault) = broken_text fault.rule ++ counted (codes " page ") fault.page ++ codes "\n"
loss_line (Unread n) = counted (codes " unread page ") n ++ codes "\n"

-- the value of a column of record k of page n
abbrev pub value_line : ℕ → ℕ → Column → Loss → List ℕ
value_line n k column loss =
    counted (codes "page ") n ++ counted (codes " row ") k ++ codes " column " ++ column.name ++ loss_line loss

abbrev pub value_losses : ℕ → ℕ → Column → Option Loss → List ℕ
value_losses n k column None = []
value_losses n k column (Some loss) = value_line n k column loss

-- all that is lost of the record, column by column
unfoldable pub row_losses : TableDef → ℕ → ℕ → List (Option Loss) → List ℕ
row_losses table n k losses =
    flat_map (λ (pair : Column × Option Loss). value_losses n k pair.0 pair.1) (zip table.columns losses)
