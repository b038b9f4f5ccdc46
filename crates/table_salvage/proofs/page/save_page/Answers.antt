use Rattle.std.proofs.Common.{◌∙◌, refl, sym, arith}
use Rattle.std.proofs.lemmas.Bool.{false≢true}
use Rattle.page_source.proofs.Told.{map_told, map_told2, map_told3}
use Rattle.table_salvage.proofs.RowSteps.{of_ok, of_err}
use Rattle.table_salvage.proofs.PageSteps.{page_unused, page_unread, page_other, page_lost}
use Rattle.table_salvage.proofs.PageSteps.{leaf_begins, add_lost, add_leaf, IsUsed}
use Rattle.table_salvage.proofs.page.save_page.Goals as goal

pub returns-then-is_unused-clause-goes : goal.returns-then-is_unused-clause-goes
returns-then-is_unused-clause-goes g c =
    record {
      told = map_told (g.S.PageSource.content c.args.source.now)
          (λ file pages. λ start met.
          page_unused (λ f missed knows. (c.is_unused.ensures.told f missed knows).0 c.if-is_unused.true)
          (λ f missed knows. c.is_unused.ensures.next f missed knows c.if-is_unused.true)
          (omega (arith, pages, c.requires.below)) met)
          c.requires.ready.look.told;
    }

pub returns-in-Other-clause-goes : goal.returns-in-Other-clause-goes
returns-in-Other-clause-goes g c =
    let used : IsUsed c.args.n c.args.room.now.descriptors =
    λ f missed knows free.
    false≢true (sym c.if-is_unused.false ∙ (c.is_unused.ensures.told f missed knows).1 free) in
    record {
      told = map_told2 (g.S.PageSource.content c.args.source.now)
          (λ file pages bytes. λ start met.
          page_other (record {
            below = omega (arith, pages, c.requires.below);
            page = c.fetch.new.page;
            fields = c.args.search.now.fields;
            page_is = bytes;
            fields_are = c.requires.ready.fields;
            verdict = c.in-Other.ensures.exact;
            used = used;
            on = c.learn.ensures;
          }) c.fetch.ensures.cause.later refl (record { marks = refl; held = refl; sink = refl })
          (record { losses = refl; unheard = refl }) met)
          c.requires.ready.look.told (of_ok c.fetch.result (sym c.if-is_err.ensures.value) c.fetch.ensures.bytes);
    }

pub returns-then-is_err-clause-goes : goal.returns-then-is_err-clause-goes
returns-then-is_err-clause-goes g c =
    let used : IsUsed c.args.n c.args.room.now.descriptors =
    λ f missed knows free.
    false≢true (sym c.if-is_unused.false ∙ (c.is_unused.ensures.told f missed knows).1 free) in
    record {
      told = map_told (g.S.PageSource.content c.args.source.now)
          (λ file pages. λ start met.
          page_unread used c.miss.ensures (omega (arith, pages, c.requires.below)) c.fetch.ensures.cause.later
          (of_err c.fetch.result (sym c.if-is_err.ensures.value) c.fetch.ensures.cause.failed)
          (add_lost c.args.room.now.saved) (record { marks = refl; held = refl; sink = refl })
          c.report_unread.ensures.got met)
          c.requires.ready.look.told;
    }

pub returns-in-Lost-clause-goes : goal.returns-in-Lost-clause-goes
returns-in-Lost-clause-goes g c =
    let used : IsUsed c.args.n c.args.room.now.descriptors =
    λ f missed knows free.
    false≢true (sym c.if-is_unused.false ∙ (c.is_unused.ensures.told f missed knows).1 free) in
    record {
      told = map_told2 (g.S.PageSource.content c.args.source.now)
          (λ file pages bytes. λ start met.
          page_lost c.in-Lost.rule (record {
            below = omega (arith, pages, c.requires.below);
            page = c.fetch.new.page;
            fields = c.args.search.now.fields;
            page_is = bytes;
            fields_are = c.requires.ready.fields;
            verdict = c.in-Lost.ensures.exact;
            used = used;
            on = c.learn.ensures;
          }) c.fetch.ensures.cause.later (add_lost c.args.room.now.saved)
          (record { marks = refl; held = refl; sink = refl })
          c.report_broken.ensures.got met)
          c.requires.ready.look.told (of_ok c.fetch.result (sym c.if-is_err.ensures.value) c.fetch.ensures.bytes);
    }

pub returns-in-Leaf-clause-goes : goal.returns-in-Leaf-clause-goes
returns-in-Leaf-clause-goes g c =
    let used : IsUsed c.args.n c.args.room.now.descriptors =
    λ f missed knows free.
    false≢true (sym c.if-is_unused.false ∙ (c.is_unused.ensures.told f missed knows).1 free) in
    let goes = rw c.fetch.ensures.same at c.save_rows.ensures.goes.told in
    record {
      told = map_told3 (g.S.PageSource.content c.args.source.now)
          (λ file pages bytes goes. λ start met.
          goes start
          (leaf_begins (record {
            below = omega (arith, pages, c.requires.below);
            page = c.fetch.new.page;
            fields = c.args.search.now.fields;
            page_is = bytes;
            fields_are = c.requires.ready.fields;
            verdict = c.in-Leaf.ensures.exact;
            used = used;
            on = c.learn.ensures;
          }) c.fetch.ensures.cause.later (add_leaf c.args.room.now.saved)
          (record { marks = refl; held = refl; sink = refl })
          (record { losses = refl; unheard = refl }) met))
          c.requires.ready.look.told (of_ok c.fetch.result (sym c.if-is_err.ensures.value) c.fetch.ensures.bytes) goes;
    }
