use Rattle.std.proofs.Common.{◌≡◌, ℕ, List, OnOk, ap, ◌∙◌, ap₂, subst}
use Rattle.compact_record.specs.declared.places.Place.{Place}
use Rattle.schema_text.specs.TableDef.{TableDef}
use Rattle.sql_dump.specs.Cells.{RowOnLeaf, BreaksRow}
use Rattle.sql_dump.specs.SomeRows.{GrowsByRows}
use Rattle.key_lookup.proofs.OneRow.{one_row}
use Rattle.key_lookup.proofs.by_key.write_row.Goals as goal

-- a row of a page that is leaf n
abbrev row_with : List ℕ → ℕ → TableDef → List Place → RowOnLeaf
row_with page n table places = record { row = record { table = table; page = page; places = places }; leaf = n }

pub returns-clause-broken : goal.returns-clause-broken
returns-clause-broken g c =
    λ fault is.
    subst (λ (on : RowOnLeaf). BreaksRow on fault)
    (c.row-row.ensures
    ∙ ap₂ (row_with c.args.room.now.walk.child c.args.found.number) c.in_ok-read.ensures.table
    c.in_ok-read.ensures.read)
    (c.put_row.ensures.broken fault is)

pub returns-clause-some : goal.returns-clause-some
returns-clause-some g c =
    let table = ap (λ (on : RowOnLeaf). on.row.table) c.row-row.ensures ∙ c.in_ok-read.ensures.table in
    subst (λ (t : TableDef). OnOk c.put_row.result (GrowsByRows t (g.O.ByteSink.written c.args.sink.now)
    (g.O.ByteSink.written c.put_row.new.sink) 1)) table
    (one_row _ _ _ c.put_row.result c.put_row.ensures.some)
