use Rattle.std.proofs.Common.{◌+◌, ap, ◌∙◌, arith, refl, slice_range, List, ℕ, ◌++◌}
use Rattle.std.specs.Prelude.{⊤}
use Rattle.std.proofs.lemmas.Result.{err_from_is_err_and}
use Rattle.page_source.proofs.Told.{map_told, map_told2, map_told3}
use Rattle.cross_index.proofs.ChainSteps.{chain_start, chain_reads, chain_ends, chain_more}
use Rattle.page_source.specs.declared.rule.Fault.{Fault}
use Rattle.cross_index.proofs.Named.{chain_names}
use Rattle.cross_index.proofs.long.read_chain.Goals as goal

pub loop-length-init : goal.loop-length-init
loop-length-init g c = record {
  same = refl;
  later = omega arith;
  asked = omega arith;
  cost = refl;
  told = map_told (g.S.PageSource.content c.args.source.now)
      (λ file can. chain_start file c.args.reference.now c.new-reader.result c.args.room.now.value.items
      c.args.room.now.left c.new-reader.ensures can)
      c.requires.told;
}

pub returns-in_err-length-clause-exact : goal.returns-in_err-length-clause-exact
returns-in_err-length-clause-exact g c =
    let i = c.loop-length.invariant in
    let never = rw i.same at c.in_err-length.ensures.never in
    let r = err_from_is_err_and c.from_residual.result c.from_residual.ensures.1 in
    rw (r.1, r.2)
    (map_told3 (g.S.PageSource.content c.args.source.now)
    (λ file can so never. chain_reads file c.args.reference.now c.loop-length.reader c.args.room.now.value.items
    c.loop-length.room.value.items c.args.room.now.left c.loop-length.room.left c.in_err-length.field-0.0 so can.few
    (λ pages fault goes few e. never pages fault goes few (cc)))
    c.requires.told i.told never)

pub loop-length-preserved : goal.loop-length-preserved
loop-length-preserved g c =
    let i = c.loop-length.invariant in
    let next = rw (c.in-Some.is, i.same) at c.in_ok-length.ensures.next in
    let gives = rw c.in-Some.is at c.in_ok-length.ensures.gives in
    record {
      same = c.in_ok-length.ensures.over.same ∙ i.same;
      later = omega (arith, i.later, c.in_ok-length.ensures.over.cause.later);
      asked = omega (arith, i.asked, c.in_ok-length.ensures.over.asked);
      cost = c.in_ok-length.ensures.cost ∙ i.cost;
      told = map_told2 (g.S.PageSource.content c.args.source.now)
          (λ file so next. chain_more file c.args.reference.now c.loop-length.reader c.part.new.self
          c.args.room.now.value.items c.loop-length.room.value.items c.append.new.value.items c.args.room.now.left
          c.loop-length.room.left c.part.new.left c.in-Some.length c.part.new.page so next
          (c.in_ok-append.ensures ∙ ap (λ (page : List ℕ). c.loop-length.room.value.items ++ slice_range page 46
          (46 + c.in-Some.length)) c.bytes.ensures.same)
          gives.3)
          i.told next;
    }

pub returns-clause-value : goal.returns-clause-value
returns-clause-value g c =
    let i = c.loop-length.invariant in
    let next = rw (c.in_default.is, i.same) at c.in_ok-length.ensures.next in
    map_told2 (g.S.PageSource.content c.args.source.now)
    (λ file so next. (chain_ends file c.args.reference.now c.loop-length.reader c.part.new.self
    c.args.room.now.value.items c.loop-length.room.value.items c.args.room.now.left c.loop-length.room.left
    c.part.new.page so next).0)
    i.told next

pub returns-in_err-length-clause-broken : goal.returns-in_err-length-clause-broken
returns-in_err-length-clause-broken g c =
    let r = err_from_is_err_and c.from_residual.result c.from_residual.ensures.1 in
    rw (r.1, r.2)
    (chain_names ⊤ c.in_err-length.field-0.0
    (λ fault is. ap (λ (f : Fault). f.rule) (c.in_err-length.ensures.lacks fault (cc)).fault_is))
