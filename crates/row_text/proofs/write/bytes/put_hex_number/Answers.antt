use Rattle.std.proofs.Common.{[], ◌∷◌}
use Rattle.hex.specs.Hex.{encode_lower}
use Rattle.page_source.proofs.Texts.{put_none, put_more, put_last}
use Rattle.row_text.proofs.write.bytes.put_hex_number.Goals as goal

pub returns : goal.returns
returns g c =
    let s = g.O.ByteSink in
    let first = c.put.ensures in
    let front = put_more s c.args.sink.now c.args.sink.now c.put.new.self [] (48 ∷ 120 ∷ []) c.put.result
    c.in_ok-put.field-0 (put_none s c.args.sink.now)
    (record { ok = first.ok; failed = first.failed; cause = first.cause }) c.in_ok-put.was in
    put_last s c.args.sink.now c.put.new.self c.put_hex.new.sink (48 ∷ 120 ∷ []) (encode_lower c.args.bytes.now)
    c.put_hex.result front c.put_hex.ensures
