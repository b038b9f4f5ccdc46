use Rattle.std.proofs.Common.{ℕ, List, [], ◌∙◌, subst}
use Rattle.std.proofs.lemmas.List.{append-nil}
use Rattle.page_source.specs.Calls.{Puts}
use Rattle.row_text.specs.Values.{value_text}
use Rattle.row_text.specs.Writer.{before_value}
use Rattle.page_source.proofs.Texts.{put_none, put_more, put_last}
use Rattle.row_text.proofs.write.put_next.Goals as goal

pub returns : goal.returns
returns g c =
    let s = g.O.ByteSink in
    let front = before_value c.args.came in
    let comma : Puts s c.args.sink.now c.put_pieces.new.sink front c.put_pieces.result =
    subst (λ (t : List ℕ). Puts s c.args.sink.now c.put_pieces.new.sink t c.put_pieces.result)
    (append-nil _ ∙ c.comma.ensures) c.put_pieces.ensures in
    put_last s c.args.sink.now c.put_pieces.new.sink c.put_column.new.sink front
    (value_text c.args.column.now.kind c.args.value.now) c.put_column.result
    (put_more s c.args.sink.now c.args.sink.now c.put_pieces.new.sink [] front c.put_pieces.result
    c.in_ok-put_pieces.field-0 (put_none s c.args.sink.now) comma c.in_ok-put_pieces.was) c.put_column.ensures
