use Rattle.std.proofs.Common.{◌∙◌, ℕ, List, Bool, false, length, refl, sym, ap, subst, arith}
use Rattle.std.proofs.lemmas.Result.{err_from_is_err_and}
use Rattle.std.proofs.lemmas.List.{length-replicate}
use Rattle.page_source.proofs.Told.{map_told}
use Rattle.salvage_model.specs.IndexId.{IsId}
use Rattle.salvage_model.specs.Causes.{counts_of}
use Rattle.salvage_model.specs.Salvage.{Wanted}
use Rattle.table_salvage.proofs.SalvageEnds.{id_stops, over_since}
use Rattle.table_salvage.proofs.file.save_file.Goals as goal

pub returns-in_err-id-clause-told : goal.returns-in_err-id-clause-told
returns-in_err-id-clause-told g c =
    let r = err_from_is_err_and c.from_residual-in_err-id.result c.from_residual-in_err-id.ensures.1 in
    let rootless = rw c.in-Ok.ensures.same at c.in_err-id.ensures.rootless in
    let wanted : Wanted = record { table = c.args.schema.now; kind = c.args.wish.kind; given = c.args.wish.index } in
    rw (r.1, r.2)
    (id_stops (g.S.PageSource.content c.args.source.now) c.args.wish.heeds wanted _ _ _ _ _ _ c.in_err-id.field-0.0
    refl rootless (λ is. omega (arith, c.in_err-id.ensures.found_by is, c.in-Ok.ensures.asked))
    c.in_err-id.ensures.unwritten.0 c.in_err-id.ensures.unwritten.1 c.in_err-id.ensures.unchanged)

pub save_pages-requires-clause-ready : goal.save_pages-requires-clause-ready
save_pages-requires-clause-ready g c =
    let room = c.in_ok-room.ensures in
    let search = c.in_ok-search.ensures in
    let members = ap (λ (l : List Bool). length l) room.new.marks ∙ length-replicate c.min-pages.result false in
    let same = c.in_ok-id.ensures.same ∙ c.in-Ok.ensures.same in
    record {
      look = record {
        told = rw (same, search.pages) (map_told (g.S.PageSource.content c.args.source.now)
            (λ file tells. omega (arith, tells, c.min-pages.ensures)) c.in-Ok.ensures.count);
        members = members ∙ sym search.pages;
      };
      table = room.reader ∙ sym search.table;
      columns = rw search.table room.losses;
      fields = rw search.table search.fields;
      keys = search.keys;
      scratch = omega (arith, search.few, room.scratch);
    }

pub save_pages-requires-clause-new : goal.save_pages-requires-clause-new
save_pages-requires-clause-new g c = rw c.in_ok-search.ensures.pages c.in_ok-room.ensures.new

pub save_pages-requires-clause-found : goal.save_pages-requires-clause-found
save_pages-requires-clause-found g c =
    let search = c.in_ok-search.ensures in
    let found = rw c.in-Ok.ensures.same at c.in_ok-id.ensures.found in
    let same = c.in_ok-id.ensures.same ∙ c.in-Ok.ensures.same in
    rw (same, search.table)
    (map_told (g.S.PageSource.content c.args.source.now)
    (λ file is. subst (λ (id : ℕ). IsId file c.args.schema.now c.args.wish.index id) (sym search.id) is) found)

pub returns-clause-told : goal.returns-clause-told
returns-clause-told g c =
    let search = c.in_ok-search.ensures in
    let same = c.in_ok-id.ensures.same ∙ c.in-Ok.ensures.same in
    let told = rw (same, search.table, search.kind) at c.save_pages.ensures.told in
    map_told (g.S.PageSource.content c.args.source.now)
    (λ file told. told (counts_of g.S.PageSource c.args.source.now)
    (omega (arith, c.in_ok-id.ensures.later, c.in-Ok.ensures.cause.later))) told

pub returns-clause-over : goal.returns-clause-over
returns-clause-over g c =
    over_since g.S.PageSource g.O.ByteSink g.E.ByteSink (c.in_ok-id.ensures.same ∙ c.in-Ok.ensures.same)
    (omega (arith, c.in_ok-id.ensures.later, c.in-Ok.ensures.cause.later))
    (omega (arith, c.in_ok-id.ensures.asked, c.in-Ok.ensures.asked)) c.save_pages.ensures.over

pub returns-clause-steps : goal.returns-clause-steps
returns-clause-steps g c = record {
  told = map_told (g.S.PageSource.content c.args.source.now)
      (λ file tells. omega (
        arith,
        c.save_pages.ensures.cost,
        c.in_ok-id.ensures.cost,
        c.in_ok-search.ensures.pages,
        tells,
        c.min-pages.ensures,
      )) c.in-Ok.ensures.count;
  always = omega (
    arith,
    c.save_pages.ensures.cost,
    c.in_ok-id.ensures.cost,
    c.in_ok-search.ensures.pages,
    c.min-pages.ensures,
  );
}

pub returns-clause-fetches : goal.returns-clause-fetches
returns-clause-fetches g c = record {
  told = map_told (g.S.PageSource.content c.args.source.now)
      (λ file tells. omega (
        arith,
        c.save_pages.ensures.cost,
        c.save_pages.ensures.over.asked,
        c.in_ok-id.ensures.cost,
        c.in_ok-id.ensures.asked,
        c.in-Ok.ensures.asked,
        c.in_ok-search.ensures.pages,
        tells,
        c.min-pages.ensures,
      )) c.in-Ok.ensures.count;
  always = omega (
    arith,
    c.save_pages.ensures.cost,
    c.save_pages.ensures.over.asked,
    c.in_ok-id.ensures.cost,
    c.in_ok-id.ensures.asked,
    c.in-Ok.ensures.asked,
    c.in_ok-search.ensures.pages,
    c.min-pages.ensures,
  );
}
