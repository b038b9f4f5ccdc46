use Rattle.std.proofs.Common.{◌+◌, ◌*◌, ◌∷◌, [], ◌++◌, map, ap, sym, refl, ◌∙◌, arith, length-append, append_assoc}
use Rattle.std.proofs.Common.{below_more, None}
use Rattle.std.specs.List.{range_with_len}
use Rattle.std.proofs.lemmas.Result.{err_from_is_err_and}
use Rattle.std.proofs.lemmas.List.FromFn.{map-range_with_len_more}
use Rattle.extent_map.specs.Extents.{extent_of, IsDescribed}
use Rattle.extent_map.specs.Descriptors.{ExtentCheckOn}
use Rattle.extent_map.proofs.Readers.{described}
use Rattle.extent_map.proofs.descriptors.read_page.Goals as goal

pub returns-in_err-check_extent-clause-exact : goal.returns-in_err-check_extent-clause-exact
returns-in_err-check_extent-clause-exact c = λ file here size limit.
    let is : IsDescribed file (256 * c.args.k + c.loop-i.i) c.read_extent-extent.result =
    described file c.args.k c.loop-i.i c.args.page.now c.read_extent-extent.result here c.read_extent-extent.ensures
    (omega arith) (omega (arith, limit)) in
    let r = err_from_is_err_and c.from_residual.result c.from_residual.ensures.1 in
    rw (r.1, r.2) (
      c.loop-i.i,
      omega
          (arith, limit),
      c.loop-i.invariant.checks file here size limit,
      c.in_err-check_extent.ensures file is size,
    )

pub loop-i-preserved : goal.loop-i-preserved
loop-i-preserved c =
    let k = c.args.k in
    let i = c.loop-i.i in
    let x = c.read_extent-extent.result in
    let inv = c.loop-i.invariant in
    record {
      count = rw c.in_ok-push.ensures.ok (omega (arith, length-append c.loop-i.extents (x ∷ []), inv.count));
      checks = λ file here size limit.
          let is : IsDescribed file (256 * k + i) x =
          described file k i c.args.page.now x here c.read_extent-extent.ensures (omega arith) (omega (arith, limit)) in
          below_more (λ j. ExtentCheckOn file k j None) i (inv.checks file here size limit)
          (c.in_ok-check_extent.ensures file is size);
      read = λ file here limit.
          let is : IsDescribed file (256 * k + i) x =
          described file k i c.args.page.now x here c.read_extent-extent.ensures (omega arith) (omega (arith, limit)) in
          c.in_ok-push.ensures.ok ∙ ap (λ xs. xs ++ x ∷ []) (inv.read file here limit)
          ∙ append_assoc c.args.extents.now (map (extent_of file) (range_with_len (256 * k) i)) (x ∷ [])
          ∙ ap (λ xs. c.args.extents.now ++ xs) (ap (λ y. map (extent_of file) (range_with_len
          (256 * k) i) ++ y ∷ []) (sym is.same)
          ∙ sym (map-range_with_len_more (extent_of file) (256 * k) i (256 * k + i) refl));
    }
