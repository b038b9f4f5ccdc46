use Rattle.std.proofs.Common.{ℕ, List, ◌∷◌, ◌++◌, refl, sym, ap, ◌∙◌}
use Rattle.row_text.specs.Values.{escaped_text}
use Rattle.row_text.proofs.Unquoted.{byte_taken, read_more, quote_read, none_left}
use Rattle.row_text.proofs.read.texts.unquoted.Goals as goal

pub loop-byte-init : goal.loop-byte-init
unfolding escaped_text
loop-byte-init c = c.in-Some.ensures.found
    ∙ ap (λ (list : List ℕ). 39 ∷ (escaped_text list ++ c.in-Some.rest.now)) (sym c.new-list.ensures)

pub loop-byte-preserved : goal.loop-byte-preserved
loop-byte-preserved c =
    let text = c.args.text.now in
    let l = c.loop-byte in
    let behind_byte = c.split_at.result.1.now in
    let more = c.in_ok-more.more.now in
    let pushed = read_more text l.list c.push.new.self l.rest.now behind_byte l.invariant
    (byte_taken l.list c.push.new.self l.rest.now behind_byte _ _ c.in-Some-first_byte.ensures c.in_ok-push.ensures.ok
    c.split_at.ensures.back) in
    let plain = read_more text c.push.new.self c.add_plain.new.list behind_byte more pushed
    c.in_ok-more.ensures.takes in
    read_more text c.add_plain.new.list c.add_some.new.list more c.in_ok-rest.rest.now plain c.in_ok-rest.ensures.takes

pub returns-in_default-behind-clause-found : goal.returns-in_default-behind-clause-found
returns-in_default-behind-clause-found c =
    none_left c.args.text.now c.loop-byte.list c.loop-byte.rest.now c.loop-byte.invariant
    c.in_default-first_byte.ensures (c.in_default-behind.ensures.none refl)

pub returns-clause-found : goal.returns-clause-found
returns-clause-found c =
    quote_read c.args.text.now c.loop-byte.list c.loop-byte.rest.now c.in-Some-behind.behind_quote.now _
    c.loop-byte.invariant c.in-Some-behind.ensures.found refl
