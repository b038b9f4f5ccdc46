use Rattle.std.proofs.Common.{◌++◌, arith}
use Rattle.std.proofs.lemmas.Bool.{iff_false}
use Rattle.std.proofs.lemmas.Result.{err_from_is_err_and}
use Rattle.page_source.proofs.Told.{if_told, map_told, map_told2, map_told3}
use Rattle.column_values.specs.Utf8Reader.{TakesText}
use Rattle.space_audit.specs.Marks.{is_set}
use Rattle.offpage_chain.proofs.Stages.{chain_empty, chain_elsewhere, chain_halts, chain_untold, chain_holds, text_says}
use Rattle.offpage_chain.specs.Places.{PlaceIn}
use Rattle.offpage_chain.proofs.check.check_chain_in.Goals as goal

pub returns-then-reference-eq0-clause-exact : goal.returns-then-reference-eq0-clause-exact
returns-then-reference-eq0-clause-exact g c =
    if_told (g.S.PageSource.content c.args.source.now)
    (λ file fed was. rw c.at.ensures
    (chain_empty file (PlaceIn file c.args.pages.now) c.args.holder c.args.reference.now
    (is_set c.args.marks.now)
    (λ bytes. TakesText c.args.text.now (fed ++ bytes)) c.if-reference-eq0.true))

pub returns-then-not-refers_here-clause-exact : goal.returns-then-not-refers_here-clause-exact
returns-then-not-refers_here-clause-exact g c =
    map_told (g.S.PageSource.content c.args.source.now)
    (λ file header fed was. rw c.at-then-not-refers_here.ensures
    (chain_elsewhere file (PlaceIn file c.args.pages.now) c.args.holder c.args.reference.now (is_set c.args.marks.now)
    (λ bytes. TakesText c.args.text.now (fed ++ bytes)) (omega (arith, c.if-reference-eq0.false))
    (iff_false (c.refers_here.ensures file header) c.if-not-refers_here.true)))
    c.requires.ready.told

pub returns-then-reference-eq0-clause-steps_if_told : goal.returns-then-reference-eq0-clause-steps_if_told
returns-then-reference-eq0-clause-steps_if_told g c =
    if_told (g.S.PageSource.content c.args.source.now) (λ file. omega arith)

pub returns-then-not-refers_here-clause-steps_if_told : goal.returns-then-not-refers_here-clause-steps_if_told
returns-then-not-refers_here-clause-steps_if_told g c =
    if_told (g.S.PageSource.content c.args.source.now) (λ file. omega arith)

pub returns-in_err-count-clause-exact : goal.returns-in_err-count-clause-exact
returns-in_err-count-clause-exact g c =
    let r = err_from_is_err_and c.from_residual.result c.from_residual.ensures.1 in
    rw (r.1, r.2) (map_told2 (g.S.PageSource.content c.args.source.now)
    (λ file header halts fed was. chain_halts file (PlaceIn file c.args.pages.now) c.args.holder c.args.reference.now
    (is_set c.args.marks.now)
    (λ bytes. TakesText c.args.text.now (fed ++ bytes)) c.in_err-count.field-0.0 (omega (
      arith,
      c.if-reference-eq0.false,
    ))
    ((c.refers_here.ensures file header).0 c.if-not-refers_here.false) halts)
    c.requires.ready.told c.in_err-count.ensures.exact)

pub returns-then-not-is_text-clause-exact : goal.returns-then-not-is_text-clause-exact
returns-then-not-is_text-clause-exact g c =
    map_told3 (g.S.PageSource.content c.args.source.now)
    (λ file header holds fills fed was. rw c.at-then-not-is_text.ensures
    (chain_untold file (PlaceIn file c.args.pages.now) c.args.holder c.args.reference.now (is_set c.args.marks.now)
    (λ bytes. TakesText c.args.text.now (fed ++ bytes)) (omega (arith, c.if-reference-eq0.false))
    ((c.refers_here.ensures file header).0 c.if-not-refers_here.false) holds
    (iff_false (text_says c.args.text.now c.check_pages.new.text fed _ c.is_text.result fills was
    c.is_text.ensures.text) c.if-not-is_text.true)))
    c.requires.ready.told c.in_ok-count.ensures.exact c.in_ok-count.ensures.fed

pub returns-clause-exact : goal.returns-clause-exact
returns-clause-exact g c =
    map_told3 (g.S.PageSource.content c.args.source.now)
    (λ file header holds fills fed was. chain_holds file
    (PlaceIn file c.args.pages.now) c.args.holder c.args.reference.now
    (is_set c.args.marks.now)
    (λ bytes. TakesText c.args.text.now (fed ++ bytes)) (omega (arith, c.if-reference-eq0.false))
    ((c.refers_here.ensures file header).0 c.if-not-refers_here.false) holds
    ((text_says c.args.text.now c.check_pages.new.text fed _ c.is_text.result fills was c.is_text.ensures.text).0
    c.if-not-is_text.false))
    c.requires.ready.told c.in_ok-count.ensures.exact c.in_ok-count.ensures.fed
