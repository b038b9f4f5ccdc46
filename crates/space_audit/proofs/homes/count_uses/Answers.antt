use Rattle.std.proofs.Common.{◌≡◌, ◌++◌, ◌∷◌, [], ◌≤◌, subst, map, All, length, sym, ◌∙◌, ap, arith}
use Rattle.std.specs.List.{range_with_len}
use Rattle.std.proofs.lemmas.List.Elements.{All-push}
use Rattle.extent_map.specs.Extents.{used_count}
use Rattle.extent_map.proofs.Readers.{extents_count}
use Rattle.space_audit.specs.Lists.{uses_of}
use Rattle.space_audit.proofs.ReadExtents.{uses_more, uses_is}
use Rattle.space_audit.proofs.homes.count_uses.Goals as goal

pub loop-e-preserved : goal.loop-e-preserved
loop-e-preserved c = record {
  count = omega (arith, c.in_ok-push.ensures.len, c.loop-e.invariant.count);
  small =
      subst (λ xs. All (λ count. count ≤ 64) xs) (sym c.in_ok-push.ensures.items)
      (All-push (λ count. count ≤ 64) c.loop-e.uses.items c.used_count.result c.loop-e.invariant.small
      c.used_count.ensures.few);
  told = λ file are.
      c.in_ok-push.ensures.items
      ∙ (ap (λ xs. xs ++ c.used_count.result ∷ []) (c.loop-e.invariant.told file are)
      ∙ (ap (λ k. map (used_count file) (range_with_len 0 c.loop-e.e) ++ k ∷ []) (c.used_count.ensures.told file are)
      ∙ sym (uses_more file c.loop-e.e)));
}

pub returns-clause-told : goal.returns-clause-told
returns-clause-told c = λ file are.
    uses_is file c.loop-e.uses.items c.loop-e.e (c.loop-e.invariant.told file are)
    (omega (
      arith,
      c.loop-e-test.false,
      c.loop-e.auto.e-end,
      c.count-e-end.ensures.count,
      extents_count file
          c.args.extents.now are,
    ))
