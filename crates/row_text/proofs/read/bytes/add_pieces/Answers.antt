use Rattle.std.proofs.Common.{◌≡◌, ℕ, List, ◌++◌, take, ap, ◌∙◌, sym}
use Rattle.std.proofs.lemmas.List.{take-append-drop}
use Rattle.row_text.proofs.LeadingBytes.{takes_none, takes_more}
use Rattle.row_text.proofs.read.bytes.add_pieces.Goals as goal

pub loop-rest-init : goal.loop-rest-init
loop-rest-init c = takes_none c.args.list.now c.args.text.now

pub loop-rest-preserved : goal.loop-rest-preserved
loop-rest-preserved c =
    let rest = c.loop-rest.rest.now in
    let digits = c.split_at.result.0.now in
    let more = c.split_at.result.1.now in
    let cut : digits ++ more ≡ rest = ap (λ (t : List ℕ). t ++ more) c.split_at.ensures.front
    ∙ ap (λ (t : List ℕ). take 512 rest ++ t) c.split_at.ensures.back ∙ take-append-drop 512 rest in
    let are = c.write_bytes.ensures.are c.if-not-write_bytes.false in
    takes_more c.args.list.now c.loop-rest.list c.extend.new.self c.args.text.now rest digits more
    c.write_bytes.new.room
    c.loop-rest.invariant (sym cut) are.0 are.1 c.in_ok-extend.ensures.ok
