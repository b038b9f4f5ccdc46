use Rattle.std.proofs.Common.{◌∙◌, ◌++◌, ◌∷◌, List, [], ap}
use Rattle.row_layout.specs.StoredRow.{Stored}
use Rattle.row_store.specs.calls.Stored.{row_of}
use Rattle.row_store.specs.calls.Arena.{arena_of}
use Rattle.row_store.proofs.RowsIn.{row_added, rows_lie}
use Rattle.row_store.proofs.stored.StoredRows.push.Goals as goal

pub invariant_of-self-2 : goal.invariant_of-self-2
invariant_of-self-2 c =
    rows_lie (arena_of c.self.inside.lists) (arena_of c.push.new.self) c.self.invariant c.args.fields.now
    c.args.bytes.now c.requires c.in_ok-push.ensures.ok

pub returns-clause-ok : goal.returns-clause-ok
returns-clause-ok c =
    row_added (arena_of c.self.inside.lists) (arena_of c.push.new.self) c.self.invariant c.args.fields.now
    c.args.bytes.now c.requires c.in_ok-push.ensures.ok
    ∙ ap (λ (rows : List (List Stored)). rows ++ row_of c.args.fields.now c.args.bytes.now ∷ []) c.self.view_is
