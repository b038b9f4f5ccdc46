use Rattle.std.proofs.Common.{◌≡◌, ℕ, List, [], ◌++◌, take, drop, subst, sym, ap, ◌∙◌, refl, append_assoc}
use Rattle.std.proofs.lemmas.List.{take-append-drop}
use Rattle.page_source.specs.Calls.{Puts}
use Rattle.row_text.specs.Values.{escaped_text}
use Rattle.page_source.proofs.Texts.{HasPut, put_none, put_more, put_last, put_cut}
use Rattle.row_text.proofs.Escapes.{escaped_append}
use Rattle.row_text.proofs.write.texts.put_chunks.Goals as goal

pub loop-rest-init : goal.loop-rest-init
unfolding escaped_text
loop-rest-init g c = record { before = []; same = refl; put = put_none g.O.ByteSink c.args.sink.now }

pub returns-in_err-put_chunk : goal.returns-in_err-put_chunk
returns-in_err-put_chunk g c =
    let s = g.O.ByteSink in
    let done = c.loop-rest.invariant in
    let rest = c.loop-rest.rest.now in
    let chunk = c.split_at.result.0.now in
    let cut : chunk ++ drop 256 rest ≡ rest = ap (λ (t : List ℕ). t ++ drop 256 rest) c.split_at.ensures.front
    ∙ take-append-drop 256 rest in
    let whole : escaped_text c.args.text.now ≡ escaped_text done.before ++
    (escaped_text chunk ++ escaped_text (drop 256 rest)) =
    ap escaped_text (done.same ∙ ap (λ (t : List ℕ). done.before ++ t) (sym cut))
    ∙ escaped_append done.before (chunk ++ drop 256 rest)
    ∙ ap (λ (t : List ℕ). escaped_text done.before ++ t) (escaped_append chunk (drop 256 rest)) in
    subst (λ (t : List ℕ). Puts s c.args.sink.now c.put_chunk.new.sink t c.from_residual.result) (sym whole)
    (put_cut s c.args.sink.now c.loop-rest.sink c.put_chunk.new.sink (escaped_text done.before) (escaped_text chunk)
    (escaped_text (drop 256 rest)) c.put_chunk.result _ c.from_residual.result done.put c.put_chunk.ensures.puts
    c.in_err-put_chunk.was c.from_residual.ensures.0)

pub loop-rest-preserved : goal.loop-rest-preserved
loop-rest-preserved g c =
    let s = g.O.ByteSink in
    let done = c.loop-rest.invariant in
    let rest = c.loop-rest.rest.now in
    let chunk = c.split_at.result.0.now in
    let more = c.split_at.result.1.now in
    let cut : chunk ++ more ≡ rest = ap (λ (t : List ℕ). t ++ more) c.split_at.ensures.front
    ∙ ap (λ (t : List ℕ). take 256 rest ++ t) c.split_at.ensures.back ∙ take-append-drop 256 rest in
    let put = put_more s c.args.sink.now c.loop-rest.sink c.put_chunk.new.sink (escaped_text done.before)
    (escaped_text chunk) c.put_chunk.result c.in_ok-put_chunk.field-0 done.put c.put_chunk.ensures.puts
    c.in_ok-put_chunk.was in
    record {
      before = done.before ++ chunk;
      same = done.same ∙ ap (λ (t : List ℕ). done.before ++ t) (sym cut) ∙ sym (append_assoc done.before chunk more);
      put = subst (λ (t : List ℕ). HasPut s c.args.sink.now c.put_chunk.new.sink t)
          (sym (escaped_append done.before chunk)) put;
    }

pub returns : goal.returns
returns g c =
    let s = g.O.ByteSink in
    let done = c.loop-rest.invariant in
    let rest = c.loop-rest.rest.now in
    let whole : escaped_text c.args.text.now ≡ escaped_text done.before ++ escaped_text rest =
    ap escaped_text done.same ∙ escaped_append done.before rest in
    subst (λ (t : List ℕ). Puts s c.args.sink.now c.put_between.new.sink t c.put_between.result) (sym whole)
    (put_last s c.args.sink.now c.loop-rest.sink c.put_between.new.sink (escaped_text done.before) (escaped_text rest)
    c.put_between.result done.put c.put_between.ensures)
