use Rattle.std.proofs.Common.{refl, inl, inr, None, Some}
use Rattle.std.proofs.lemmas.Bool.{iff_false}
use Rattle.std.proofs.lemmas.Result.{err_from_is_err_and}
use Rattle.page_source.proofs.Told.{map_told, map_told2}
use Rattle.space_audit.specs.Marks.{is_set}
use Rattle.tree_walk.proofs.Audit.{new_iff, leaf_is, top_is, root_within}
use Rattle.tree_walk.proofs.Root.{spot_root, top_of}
use Rattle.tree_walk.proofs.tree.root.check_root.Goals as goal

pub fetch-requires : goal.fetch-requires
fetch-requires g c =
    map_told (g.S.PageSource.content c.args.source.now)
    (λ file a. root_within file c.args.tree.now.space.now _ c.args.tree.now.root a
    ((c.if-not-is_root.ensures.place file a).0 refl))
    c.requires.ready.audit

pub returns-then-not-are_new-clause-exact : goal.returns-then-not-are_new-clause-exact
returns-then-not-are_new-clause-exact g c =
    map_told2 (g.S.PageSource.content c.args.source.now)
    (λ file a p. inr (
      (c.if-not-is_root.ensures.place file a).0 refl,
      inl (
        iff_false (new_iff file c.args.tree.now c.fetch.new.page
            (is_set c.args.named.now) c.segment_in-lowest.result c.segment_in-upper.result
            a p c.segment_in-lowest.ensures c.segment_in-upper.ensures c.are_new.result (c.are_new.ensures.told file a))
            c.if-not-are_new.true,
        c.at-then-not-are_new.ensures,
      ),
    ))
    c.requires.ready.audit c.in_ok-fetch.ensures.bytes

pub returns-in_err-tally-clause-exact : goal.returns-in_err-tally-clause-exact
returns-in_err-tally-clause-exact g c =
    let r = err_from_is_err_and c.from_residual-in_err-tally.result c.from_residual-in_err-tally.ensures.1 in
    rw (r.1, r.2)
    (map_told2 (g.S.PageSource.content c.args.source.now)
    (λ file a p. inr (
      (c.if-not-is_root.ensures.place file a).0 refl,
      inr (
        (new_iff file c.args.tree.now c.fetch.new.page
            (is_set c.args.named.now) c.segment_in-lowest.result c.segment_in-upper.result
            a p c.segment_in-lowest.ensures c.segment_in-upper.ensures c.are_new.result
            (c.are_new.ensures.told file a)).0
            c.if-not-are_new.false,
        spot_root file c.args.tree.now c.fields_on-fields.result.now c.fetch.new.page
            c.read_be-level.result c.read_be-id.result p c.read_be-level.ensures.number c.read_be-id.ensures.number
            c.fields_on-fields.ensures (Some c.in_err-tally.field-0.0)
            c.in_err-tally.ensures.exact,
      ),
    ))
    c.requires.ready.audit c.in_ok-fetch.ensures.bytes)

pub returns-clause-exact : goal.returns-clause-exact
returns-clause-exact g c =
    map_told2 (g.S.PageSource.content c.args.source.now)
    (λ file a p. (
      (c.if-not-is_root.ensures.place file a).0 refl,
      (
        (new_iff file c.args.tree.now c.fetch.new.page
            (is_set c.args.named.now) c.segment_in-lowest.result c.segment_in-upper.result
            a p c.segment_in-lowest.ensures c.segment_in-upper.ensures c.are_new.result
            (c.are_new.ensures.told file a)).0
            c.if-not-are_new.false,
        spot_root file c.args.tree.now c.fields_on-fields.result.now c.fetch.new.page
            c.read_be-level.result c.read_be-id.result p c.read_be-level.ensures.number c.read_be-id.ensures.number
            c.fields_on-fields.ensures None
            c.in_ok-tally.ensures.exact,
      ),
    ))
    c.requires.ready.audit c.in_ok-fetch.ensures.bytes

pub returns-clause-top : goal.returns-clause-top
returns-clause-top g c =
    map_told2 (g.S.PageSource.content c.args.source.now)
    (λ file a p. top_of file c.args.tree.now c.fields_on-fields.result.now
    c.fetch.new.page c.read_be-level.result c.read_be-id.result p c.read_be-level.ensures.number
    c.read_be-id.ensures.number c.fields_on-fields.ensures
    c.segment_in-lowest.result c.segment_in-upper.result
    (leaf_is file c.args.tree.now c.fetch.new.page
    (is_set c.args.named.now) c.segment_in-lowest.result c.segment_in-upper.result
    a p c.segment_in-lowest.ensures c.segment_in-upper.ensures)
    (top_is file c.args.tree.now c.fetch.new.page
    (is_set c.args.named.now) c.segment_in-lowest.result c.segment_in-upper.result
    a p c.segment_in-lowest.ensures c.segment_in-upper.ensures)
    c.in_ok-tally.tally c.in_ok-tally.ensures.tally)
    c.requires.ready.audit c.in_ok-fetch.ensures.bytes
