use Rattle.std.proofs.Common.{ℕ, ◌+◌, List, length, Ok, Err, ap, ◌∙◌, sym, subst}
use Rattle.std.proofs.lemmas.List.FromFn.{length-map-range_with_len}
use Rattle.std.proofs.lemmas.Result.{err_from_is_err_and}
use Rattle.page_source.specs.Lists.{AreDistinct}
use Rattle.offpage_chain.specs.ValuePage.{pages_for}
use Rattle.offpage_chain.specs.Writing.{AreBelow, WritesValue}
use Rattle.space_layout.specs.Numbers.{segment_page}
use Rattle.space_builder.specs.layout.ValuePage.{pages_of_bytes}
use Rattle.space_builder.proofs.Puts.{puts_all}
use Rattle.space_builder.proofs.Puts.{nothing_put}
use Rattle.space_builder.proofs.ValuePuts.{chain_put, chain_failed, distinct_from, below_from}
use Rattle.space_builder.proofs.values.put_value.Goals as goal

pub returns-in_err-list_numbers-clause-puts : goal.returns-in_err-list_numbers-clause-puts
returns-in_err-list_numbers-clause-puts g c =
    let r = err_from_is_err_and c.from_residual.result c.from_residual.ensures.1 in
    rw (r.1, r.2)
    (nothing_put g.T.PageStore c.args.store.now
    (pages_of_bytes (λ k. segment_page c.args.sizes.now 1 (c.args.at + k)) c.args.bytes.now))

pub returns-in_err-list_first-clause-puts : goal.returns-in_err-list_first-clause-puts
returns-in_err-list_first-clause-puts g c =
    let r = err_from_is_err_and c.from_residual-in_err-list_first.result
    c.from_residual-in_err-list_first.ensures.1 in
    rw (r.1, r.2)
    (nothing_put g.T.PageStore c.args.store.now
    (pages_of_bytes (λ k. segment_page c.args.sizes.now 1 (c.args.at + k)) c.args.bytes.now))

pub write_chain-requires-clause-count : goal.write_chain-requires-clause-count
write_chain-requires-clause-count g c =
    ap length (c.deref-2.ensures.value ∙ c.in_ok-list_numbers.ensures)
    ∙ length-map-range_with_len (λ k. segment_page c.args.sizes.now 1 (c.args.at + k)) 0
    (pages_for (length c.args.bytes.now))

pub write_chain-requires-clause-distinct : goal.write_chain-requires-clause-distinct
write_chain-requires-clause-distinct g c =
    subst AreDistinct (sym (c.deref-2.ensures.value ∙ c.in_ok-list_numbers.ensures))
    (distinct_from c.args.sizes.now (c.numbers_differ.ensures c.args.sizes.now c.requires.takes.shape) c.args.at
    (pages_for (length c.args.bytes.now)) c.requires.has)

pub write_chain-requires-clause-below : goal.write_chain-requires-clause-below
write_chain-requires-clause-below g c =
    subst (AreBelow g.T.PageStore c.args.store.now)
    (sym (c.deref-2.ensures.value ∙ c.in_ok-list_numbers.ensures))
    (below_from c.args.sizes.now (c.numbers_differ.ensures c.args.sizes.now c.requires.takes.shape) c.args.at
    (pages_for (length c.args.bytes.now)) c.requires.has g.T.PageStore c.args.store.now c.requires.takes)

pub returns-in_err-write_chain-clause-puts : goal.returns-in_err-write_chain-clause-puts
returns-in_err-write_chain-clause-puts g c =
    let r = err_from_is_err_and c.from_residual-in_err-write_chain.result
    c.from_residual-in_err-write_chain.ensures.1 in
    rw (r.1, r.2)
    (chain_failed g.T.PageStore c.args.store.now c.write_chain.new.store
    (λ k. segment_page c.args.sizes.now 1 (c.args.at + k)) c.args.bytes.now c.in_err-write_chain.field-0.0
    (subst (λ (numbers : List ℕ). WritesValue g.T.PageStore c.args.store.now c.write_chain.new.store 1 numbers
    c.args.bytes.now (Err c.in_err-write_chain.field-0.0))
    (c.deref-2.ensures.value ∙ c.in_ok-list_numbers.ensures) c.in_err-write_chain.ensures))

pub returns-clause-puts : goal.returns-clause-puts
returns-clause-puts g c =
    puts_all g.T.PageStore c.args.store.now c.write_chain.new.store
    (pages_of_bytes (λ k. segment_page c.args.sizes.now 1 (c.args.at + k)) c.args.bytes.now)
    (c.args.at + pages_for (length c.args.bytes.now))
    (chain_put g.T.PageStore c.args.store.now c.write_chain.new.store
    (λ k. segment_page c.args.sizes.now 1 (c.args.at + k)) c.args.bytes.now c.in_ok-write_chain.field-0
    (subst (λ (numbers : List ℕ). WritesValue g.T.PageStore c.args.store.now c.write_chain.new.store 1 numbers
    c.args.bytes.now (Ok c.in_ok-write_chain.field-0))
    (c.deref-2.ensures.value ∙ c.in_ok-list_numbers.ensures) c.in_ok-write_chain.ensures))
