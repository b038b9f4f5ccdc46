-- The lines that refuse what a program was given.
use Rattle.std.specs.Prelude.{ℕ, List, ◌++◌, codes, decimal}
use Rattle.page_source.specs.declared.rule.Fault.{Fault}
use Rattle.page_source.specs.Rules.{rule_number, rule_name}
use Rattle.schema_text.specs.declared.errors.SchemaWhy.{SchemaWhy}
use Rattle.schema_text.specs.declared.errors.SchemaWhy.TheVariants as whys

-- a number after its name
abbrev pub counted : List ℕ → ℕ → List ℕ
counted name n = name ++ decimal n

-- the word for why a line of a schema text is refused
abbrev pub why_word : SchemaWhy → List ℕ
why_word whys.Size = codes "size"
why_word whys.End = codes "end"
why_word whys.Form = codes "form"
why_word whys.Name = codes "name"
why_word whys.Number = codes "number"
why_word whys.Count = codes "count"
why_word whys.Twice = codes "twice"
why_word whys.Unknown = codes "unknown"
why_word whys.Key = codes "key"
why_word whys.Root = codes "root"

-- a line of a text that is refused, and why
abbrev pub refusal_line : List ℕ → ℕ → List ℕ → List ℕ
refusal_line text line why = counted text line ++ codes " " ++ why ++ codes "\n"

-- a rule that is broken, and the page that it names
abbrev pub fault_line : Fault → List ℕ
fault_line fault =
    counted (codes "broken ") (rule_number fault.rule) ++ codes " " ++ rule_name fault.rule
    ++ counted (codes " page ") fault.page ++ codes "\n"
