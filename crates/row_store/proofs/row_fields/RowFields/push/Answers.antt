use Rattle.std.proofs.Common.{List, [], ◌∷◌, ◌++◌, false, ap, ◌∙◌, arith}
use Rattle.row_layout.specs.StoredRow.{Stored}
use Rattle.row_store.specs.declared.marks.FieldSpot.{FieldSpot}
use Rattle.row_store.specs.calls.Stored.{row_of}
use Rattle.row_store.proofs.Spots.{row_more}
use Rattle.row_store.proofs.row_fields.RowFields.push.Goals as goal

pub returns : goal.returns
returns c =
    let spots = c.self.inside.spots.items in
    let bytes = c.self.inside.bytes.items in
    let more = c.args.bytes.now in
    let spot : FieldSpot = record { null = c.args.null; off = false; end = c.len-end.result } in
    let field : Stored = record { null = c.args.null; off = false; bytes = more } in
    let size = c.in_ok-extend_from_slice.ensures.len in
    ap (λ (s : List FieldSpot). row_of s c.extend_from_slice.new.self.items) c.in_default.ensures.items
    ∙ ap (row_of (spots ++ spot ∷ [])) c.in_ok-extend_from_slice.ensures.items
    ∙ row_more spots bytes more c.args.null c.len-end.result c.self.invariant
    (omega (arith, c.len-end.ensures, c.self.inside.bytes.ok.0))
    ∙ ap (λ (row : List Stored). row ++ field ∷ []) c.self.view_is
