use Rattle.std.proofs.Common.{◌≡◌, ◌+◌, ℕ, List, [], ◌∷◌, ◌++◌, take, drop, subst, sym, ap, ◌∙◌, refl}
use Rattle.std.proofs.Common.{append_assoc}
use Rattle.std.proofs.lemmas.List.{take-append-drop}
use Rattle.page_source.specs.Calls.{Puts}
use Rattle.row_text.specs.Values.{escaped_text}
use Rattle.page_source.proofs.Texts.{HasPut, put_none, put_more, put_last, put_cut}
use Rattle.row_text.proofs.Escapes.{escaped_append, escaped_plain, escape_step}
use Rattle.row_text.proofs.write.texts.put_between.Goals as goal

pub loop-at-init : goal.loop-at-init
unfolding escaped_text
loop-at-init g c = record { before = []; same = refl; put = put_none g.O.ByteSink c.args.sink.now }

pub returns-in_err-put_pieces : goal.returns-in_err-put_pieces
returns-in_err-put_pieces g c =
    let s = g.O.ByteSink in
    let done = c.loop-at.invariant in
    let rest = c.loop-at.rest.now in
    let at = c.in-Some.at in
    let letter = c.in-Some.letter in
    let found = c.in-Some.ensures.found in
    let step = escape_step rest at letter found.1 found.2 in
    let more = drop (at + 1) rest in
    let whole : escaped_text c.args.text.now ≡ escaped_text done.before ++
    ((take at rest ++ 92 ∷ letter ∷ []) ++ escaped_text more) =
    ap escaped_text (done.same ∙ ap (λ (t : List ℕ). done.before ++ t) (sym (take-append-drop (at + 1) rest)))
    ∙ escaped_append done.before (take (at + 1) rest ++ more)
    ∙ ap (λ (t : List ℕ). escaped_text done.before ++ t) (escaped_append (take (at + 1) rest) more
    ∙ ap (λ (t : List ℕ). t ++ escaped_text more) step) in
    subst (λ (t : List ℕ). Puts s c.args.sink.now c.put_pieces.new.sink t c.from_residual.result) (sym whole)
    (put_cut s c.args.sink.now c.loop-at.sink c.put_pieces.new.sink (escaped_text done.before)
    (take at rest ++ 92 ∷ letter ∷ [])
    (escaped_text more) c.put_pieces.result _ c.from_residual.result done.put c.put_pieces.ensures
    c.in_err-put_pieces.was
    c.from_residual.ensures.0)

pub loop-at-preserved : goal.loop-at-preserved
loop-at-preserved g c =
    let s = g.O.ByteSink in
    let done = c.loop-at.invariant in
    let rest = c.loop-at.rest.now in
    let at = c.in-Some.at in
    let letter = c.in-Some.letter in
    let found = c.in-Some.ensures.found in
    let step = escape_step rest at letter found.1 found.2 in
    let front = take (at + 1) rest in
    let put = put_more s c.args.sink.now c.loop-at.sink c.put_pieces.new.sink (escaped_text done.before)
    (take at rest ++ 92 ∷ letter ∷ [])
    c.put_pieces.result c.in_ok-put_pieces.field-0 done.put c.put_pieces.ensures c.in_ok-put_pieces.was in
    record {
      before = done.before ++ front;
      same = done.same ∙ ap (λ (t : List ℕ). done.before ++ t) (sym (take-append-drop (at + 1) rest)
          ∙ ap (λ (t : List ℕ). front ++ t) (sym c.split_at.ensures.back)) ∙ sym (append_assoc done.before front _);
      put = subst (λ (t : List ℕ). HasPut s c.args.sink.now c.put_pieces.new.sink t)
          (ap (λ (t : List ℕ). escaped_text done.before ++ t) (sym step) ∙ sym (escaped_append done.before front)) put;
    }

pub returns : goal.returns
returns g c =
    let s = g.O.ByteSink in
    let done = c.loop-at.invariant in
    let rest = c.loop-at.rest.now in
    let now = c.put.ensures in
    let plain : escaped_text rest ≡ rest = escaped_plain rest
    (c.in_default.ensures.none refl) in
    let whole : escaped_text c.args.text.now ≡ escaped_text done.before ++ rest =
    ap escaped_text done.same ∙ escaped_append done.before rest ∙ ap (λ (t : List ℕ). escaped_text done.before ++ t)
    plain in
    subst (λ (t : List ℕ). Puts s c.args.sink.now c.put.new.self t c.put.result) (sym whole)
    (put_last s c.args.sink.now c.loop-at.sink c.put.new.self (escaped_text done.before) rest c.put.result done.put
    (record { ok = now.ok; failed = now.failed; cause = now.cause }))
