use Rattle.std.proofs.Common.{List, ℕ, take, drop, subst, ap, ◌∙◌, arith}
use Rattle.std.proofs.lemmas.List.{drop-drop}
use Rattle.row_text.specs.Values.{IsPlain}
use Rattle.row_text.proofs.Escapes.{plain_run}
use Rattle.row_text.proofs.plain.front_by.Goals as goal

pub loop-rest-preserved : goal.loop-rest-preserved
loop-rest-preserved c =
    let text = c.args.text.now in
    let size = c.args.size in
    let front = c.loop-rest.front in
    let done = c.loop-rest.invariant in
    let run = subst (λ (t : List ℕ). IsPlain t) (c.split_at.ensures.front
    ∙ ap (λ (t : List ℕ). take size t) done.rest) (c.is_plain.ensures c.if-not-is_plain.false) in
    record {
      size = omega (arith, done.size, c.split_at.ensures.back_len);
      rest = c.split_at.ensures.back ∙ ap (λ (t : List ℕ). drop size t) done.rest ∙ drop-drop size front text;
      plain = plain_run text front size done.plain run;
    }
