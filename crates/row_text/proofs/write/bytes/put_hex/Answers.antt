use Rattle.std.proofs.Common.{◌≡◌, ℕ, List, [], ◌++◌, take, drop, subst, sym, ap, ◌∙◌, refl, append_assoc}
use Rattle.std.proofs.lemmas.List.{take-append-drop}
use Rattle.page_source.specs.Calls.{Puts}
use Rattle.hex.specs.Hex.{encode_lower, encode_with, lower_digits}
use Rattle.row_text.proofs.Hex.{encode_append}
use Rattle.page_source.proofs.Texts.{HasPut, put_none, put_more, put_cut}
use Rattle.row_text.proofs.write.bytes.put_hex.Goals as goal

pub loop-rest-init : goal.loop-rest-init
unfolding encode_with
loop-rest-init g c = record { before = []; same = refl; put = put_none g.O.ByteSink c.args.sink.now }

pub returns-in_err-put : goal.returns-in_err-put
returns-in_err-put g c =
    let s = g.O.ByteSink in
    let done = c.loop-rest.invariant in
    let n = c.min.result in
    let rest = c.loop-rest.rest.now in
    let chunk = c.split_at.result.0.now in
    let digits : c.write_hex.new.room ≡ encode_lower chunk = c.write_hex.ensures in
    let now = c.put.ensures in
    let cut : chunk ++ drop n rest ≡ rest = ap (λ (t : List ℕ). t ++ drop n rest) c.split_at.ensures.front ∙
    take-append-drop n rest in
    let whole : encode_lower c.args.bytes.now ≡ encode_lower done.before ++
    (c.write_hex.new.room ++ encode_lower (drop n rest)) =
    ap encode_lower (done.same ∙ ap (λ (t : List ℕ). done.before ++ t) (sym cut))
    ∙ encode_append lower_digits done.before (chunk ++ drop n rest)
    ∙ ap (λ (t : List ℕ). encode_lower done.before ++ t) (encode_append lower_digits chunk (drop n rest)
    ∙ ap (λ (t : List ℕ). t ++ encode_lower (drop n rest)) (sym digits)) in
    subst (λ (t : List ℕ). Puts s c.args.sink.now c.put.new.self t c.from_residual.result) (sym whole)
    (put_cut s c.args.sink.now c.loop-rest.sink c.put.new.self (encode_lower done.before)
    c.write_hex.new.room (encode_lower (drop n rest))
    c.put.result _ c.from_residual.result done.put (record { ok = now.ok; failed = now.failed; cause = now.cause })
    c.in_err-put.was c.from_residual.ensures.0)

pub loop-rest-preserved : goal.loop-rest-preserved
loop-rest-preserved g c =
    let s = g.O.ByteSink in
    let done = c.loop-rest.invariant in
    let n = c.min.result in
    let rest = c.loop-rest.rest.now in
    let chunk = c.split_at.result.0.now in
    let more = c.split_at.result.1.now in
    let cut : chunk ++ more ≡ rest = ap (λ (t : List ℕ). t ++ more) c.split_at.ensures.front
    ∙ ap (λ (t : List ℕ). take n rest ++ t) c.split_at.ensures.back ∙ take-append-drop n rest in
    let digits : c.write_hex.new.room ≡ encode_lower chunk = c.write_hex.ensures in
    let now = c.put.ensures in
    let put = put_more s c.args.sink.now c.loop-rest.sink c.put.new.self (encode_lower done.before)
    c.write_hex.new.room
    c.put.result c.in_ok-put.field-0 done.put (record { ok = now.ok; failed = now.failed; cause = now.cause })
    c.in_ok-put.was in
    record {
      before = done.before ++ chunk;
      same = done.same ∙ ap (λ (t : List ℕ). done.before ++ t) (sym cut) ∙ sym (append_assoc done.before chunk more);
      put = subst (λ (t : List ℕ). HasPut s c.args.sink.now c.put.new.self t)
          (ap (λ (t : List ℕ). encode_lower done.before ++ t) digits ∙ sym
          (encode_append lower_digits done.before chunk)) put;
    }
