use Rattle.std.proofs.Common.{ℕ, subst}
use Rattle.column_values.specs.declared.kind.ColumnType.{ColumnType}
use Rattle.column_values.specs.declared.kind.ColumnType.TheVariants.{Char}
use Rattle.column_values.specs.declared.value.Value.{Value}
use Rattle.column_values.specs.declared.value.Value.TheVariants.{Text}
use Rattle.column_values.specs.Types.{IsColumnType}
use Rattle.column_values.specs.Spell.{Spell, SpellsChar}
use Rattle.page_source.specs.Calls.{Puts}
use Rattle.row_text.specs.Values.{value_text}
use Rattle.row_text.proofs.Chars.{char_size}
use Rattle.row_text.proofs.write.values.put_spelled.Goals as goal

pub returns-in-Char : goal.returns-in-Char
returns-in-Char g c value spell =
    let kind = c.args.kind.now in
    let bytes = c.args.bytes.now in
    let n = c.in-Char.n in
    let text = c.trimmed.result.now in
    let is = subst (λ (k : ColumnType). Spell k value bytes) c.in-Char.is spell in
    let trimmed = subst (λ (size : ℕ). SpellsChar size text bytes) (char_size n value bytes is) c.trimmed.ensures in
    let same = c.spellings_are_unique.ensures.one_value (Char n) (Text text) value bytes
    (subst IsColumnType c.in-Char.is c.requires.known) trimmed is in
    subst (λ (v : Value). Puts g.O.ByteSink c.args.sink.now c.put_quoted.new.sink (value_text kind v)
    c.put_quoted.result) same c.put_quoted.ensures
