use Rattle.std.proofs.Common.{◌≡◌, ℕ, List, take, subst, ap, ◌∙◌, arith}
use Rattle.std.proofs.lemmas.List.{take-take}
use Rattle.row_text.specs.Values.{IsPlain}
use Rattle.row_text.proofs.Unquoted.{plain_taken}
use Rattle.row_text.proofs.read.texts.add_plain.Goals as goal

pub returns-clause-takes : goal.returns-clause-takes
returns-clause-takes c =
    let text = c.args.text.now in
    let most = c.min.result in
    let n = c.plain_front.result in
    let front = c.split_at.result.0.now in
    let same : take n front ≡ take n text = ap (take n) c.split_at.ensures.front
    ∙ take-take n most text (omega (arith, c.plain_front.ensures.within, c.split_at.ensures.front_len)) in
    plain_taken c.args.list.now c.extend.new.self text c.split_at-2.result.0.now c.split_at-2.result.1.now n
    (subst (λ (t : List ℕ). IsPlain t) same c.plain_front.ensures.plain) c.split_at-2.ensures.front
    c.split_at-2.ensures.back c.in_ok-extend.ensures.ok
