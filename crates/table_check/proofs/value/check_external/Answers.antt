use Rattle.std.proofs.Common.{◌≡◌, ◌≤◌, ◌+◌, ◌-◌, List, ℕ, [], ◌++◌, length, ap, sym, ◌∙◌, subst, arith}
use Rattle.std.specs.Prelude.{IfOk, OnOk}
use Rattle.page_source.specs.Checks.{Halts}
use Rattle.page_source.specs.Calls.{OfFile}
use Rattle.page_source.proofs.Told.{if_told, map_told}
use Rattle.column_values.specs.Utf8Reader.{TakesText, WasFed, IsFed}
use Rattle.space_audit.specs.Marks.{is_set, Marked}
use Rattle.offpage_chain.specs.declared.reference.Reference.{Reference}
use Rattle.offpage_chain.specs.Chain.{chain_pages}
use Rattle.offpage_chain.specs.ChainChecks.{ChainChecksBy}
use Rattle.table_check.specs.Leaf.{place_on}
use Rattle.table_check.specs.Values.{FitsKind, front_of}
use Rattle.table_check.proofs.ValueStages.{counts_most, text_behind, value_goes_on}
use Rattle.table_check.proofs.value.check_external.Goals as goal

pub check_chain_in-requires-clause-count : goal.check_chain_in-requires-clause-count
check_chain_in-requires-clause-count g c =
    counts_most c.feed.new.self (0 + length c.split_local.result.0.now) 16384 (omega
    (arith, c.split_local.ensures.size, c.requires.most))
    (c.feed.ensures.counts 0 c.text_of-text.ensures.count)

pub returns-then-front-reference-clause-steps_if_told : goal.returns-then-front-reference-clause-steps_if_told
returns-then-front-reference-clause-steps_if_told g c =
    if_told (g.S.PageSource.content c.args.source.now) (λ file. omega arith)

pub returns-clause-steps_if_told : goal.returns-clause-steps_if_told
returns-clause-steps_if_told g c =
    map_told (g.S.PageSource.content c.args.source.now)
    (λ file few. subst (λ (r : Reference). c.check_chain_in.new.steps ≤ c.args.steps.now + length (chain_pages file r))
    c.split_local.ensures.reference few) c.check_chain_in.ensures.steps_if_told

pub returns-clause-checks : goal.returns-clause-checks
returns-clause-checks g c =
    let leaf = c.args.leaf.now in
    let local = c.args.local.now in
    let kind = c.args.kind.now in
    let size = ap (λ (r : Reference). r.length) c.split_local.ensures.reference in
    let feeds = subst (λ (b : List ℕ). IsFed c.text_of-text.result c.feed.new.self b) c.split_local.ensures.front
    c.feed.ensures.feeds in
    let front : length (front_of local) ≡ length local - 20 = sym (ap length c.split_local.ensures.front)
    ∙ c.split_local.ensures.size in
    let fits : FitsKind kind local = omega
    (arith, c.if-front-reference.false, c.greatest_length.ensures.value, c.split_local.ensures.size, size) in
    let was : WasFed c.feed.new.self (front_of local) = feeds.fed [] c.text_of-text.ensures.fresh in
    record {
      exact =
          map_told (g.S.PageSource.content c.args.source.now)
          (λ file chain. value_goes_on file (place_on file leaf) leaf.number kind local (is_set c.args.marks.now)
          (λ bytes. TakesText c.feed.new.self (front_of local ++ bytes)) fits
          (text_behind kind local c.text_of-text.result c.feed.new.self c.text_of-text.ensures.takes feeds)
          c.check_chain_in.result
          (subst (λ (r : Reference). Halts c.check_chain_in.result
          (ChainChecksBy file (place_on file leaf) leaf.number r
          (is_set c.args.marks.now) (λ bytes. TakesText c.feed.new.self (front_of local ++ bytes))))
          c.split_local.ensures.reference (chain (front_of local) was)))
          c.check_chain_in.ensures.exact;
      count = subst (λ (r : Reference). IfOk c.check_chain_in.result (λ count. OfFile g.S.PageSource c.args.source.now
          (λ file. count ≡ length (chain_pages file r)))) c.split_local.ensures.reference
          c.check_chain_in.ensures.count;
      grew = subst (λ (r : Reference). OnOk c.check_chain_in.result (OfFile g.S.PageSource c.args.source.now
          (λ file. Marked (is_set c.args.marks.now) c.check_chain_in.new.marks
          (chain_pages file r)))) c.split_local.ensures.reference c.check_chain_in.ensures.grew;
      members = c.check_chain_in.ensures.members;
      fewer = c.check_chain_in.ensures.fewer;
      cost = c.check_chain_in.ensures.cost;
      exactly = c.check_chain_in.ensures.exactly;
      same = c.check_chain_in.ensures.over.same;
      cause = c.check_chain_in.ensures.over.cause;
    }
