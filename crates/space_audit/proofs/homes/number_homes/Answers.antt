use Rattle.std.proofs.Common.{◌≡◌, ◌++◌, ◌∷◌, [], map, sym, ◌∙◌, ap, get_or, arith}
use Rattle.std.specs.List.{range_with_len}
use Rattle.space_audit.specs.Lists.{home_number, home_by}
use Rattle.space_audit.specs.Numbering.{place_in}
use Rattle.space_audit.proofs.ReadExtents.{homes_more, homes_are, home_is, extent_is, use_at}
use Rattle.extent_map.proofs.Readers.{extents_count}
use Rattle.space_audit.proofs.homes.number_homes.Goals as goal

pub loop-e-preserved : goal.loop-e-preserved
loop-e-preserved c = record {
  count = omega (arith, c.in_ok-push.ensures.len, c.loop-e.invariant.count);
  told = λ file are used ids.
      let x = c.extent-extent.result.now in
      let is = extent_is file c.args.extents.now c.loop-e.e x are c.extent-extent.ensures in
      let count = get_or c.args.uses.now c.loop-e.e 0 in
      let here : c.home_by-home.result ≡ home_number file c.loop-e.e =
      c.home_by-home.ensures
      ∙ (ap (λ k. home_by x.state k count) c.find.ensures.place
      ∙ home_is file c.loop-e.e x c.args.ids.now count is.1
      (ap (λ xs. get_or xs c.loop-e.e 0) used ∙ use_at file c.loop-e.e 0 is.0) ids) in
      c.in_ok-push.ensures.items
      ∙ (ap (λ xs. xs ++ c.home_by-home.result ∷ []) (c.loop-e.invariant.told file are used ids)
      ∙ (ap (λ k. map (home_number file) (range_with_len 0 c.loop-e.e) ++ k ∷ []) here
      ∙ sym (homes_more file c.loop-e.e)));
}

pub returns-clause-told : goal.returns-clause-told
returns-clause-told c = λ file are used ids.
    homes_are file c.loop-e.homes.items c.loop-e.e (c.loop-e.invariant.told file are used ids)
    (omega (
      arith,
      c.loop-e-test.false,
      c.loop-e.auto.e-end,
      c.count-e-end.ensures.count,
      extents_count file
          c.args.extents.now are,
    ))
