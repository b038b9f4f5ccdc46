use Rattle.std.proofs.Common.{arith, eq-eqb, eqb-true}
use Rattle.index_page.proofs.ChainWalk.{chain_place, chain_ends, chain_ended}
use Rattle.index_page.proofs.chain.has_chain.Goals as goal

pub returns-then-not-is_origin : goal.returns-then-not-is_origin
returns-then-not-is_origin c =
    let page = c.args.page.now in
    let i = c.loop.counter in (
      λ sound. (cc),
      λ is. c.if-not-is_origin.ensures.1
          (chain_place page i c.loop.origin is c.loop.invariant.place (omega arith)),
    )

pub returns : goal.returns
returns c =
    let page = c.args.page.now in
    let i = c.loop.counter in (
      λ last. chain_ended page i c.loop.origin (omega arith) c.loop.invariant.place c.loop.invariant.origins
          (eqb-true _ _ last),
      λ is. eq-eqb _ _ (chain_ends page i c.loop.origin (omega arith) c.loop.invariant.place is),
    )
