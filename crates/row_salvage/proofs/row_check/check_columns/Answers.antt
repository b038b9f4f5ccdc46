use Rattle.std.proofs.Common.{◌≡◌, ◌<◌, ◌+◌, ℕ, length, set, refl, sym, ap, ◌∙◌, subst, Option, Some, None, arith}
use Rattle.std.proofs.Common.{length-set}
use Rattle.page_source.proofs.Told.{if_told, map_told, map_told2, map_told3}
use Rattle.sql_dump.specs.Cells.{RowOnLeaf}
use Rattle.sql_dump.proofs.Cells.{column_count}
use Rattle.salvage_model.specs.declared.loss.Loss.{Loss}
use Rattle.row_salvage.specs.declared.row_check.ColumnLosses.TheInside.{Inside}
use Rattle.row_salvage.proofs.FirstColumns.{judged_none, judged_more, judged_all, saves_none, saves_whole, saves_lost}
use Rattle.row_salvage.proofs.FirstColumns.{SavesFirst, saves_count, saves_all}
use Rattle.row_salvage.proofs.row_check.check_columns.Goals as goal
use Rattle.row_salvage.proofs.row_check.check_columns.Goals.{in-Ok, in-Err}

pub loop-c-init : goal.loop-c-init
loop-c-init g c = record {
  same = refl;
  later = omega arith;
  asked = omega arith;
  members = refl;
  cost = omega arith;
  fewer = omega arith;
  room = ap length c.losses.view_is;
  judged = if_told (g.S.PageSource.content c.args.source.now)
      (λ file. judged_none file c.args.row.now c.args.marks.now (g.S.PageSource.faults c.args.source.now)
      c.losses.inside.losses.items);
  saves = if_told (g.S.PageSource.content c.args.source.now)
      (λ file. saves_none file c.args.row.now.row c.losses.inside.losses.items);
}

pub loop-c-preserved : goal.loop-c-preserved
loop-c-preserved g c =
    let i = c.loop-c.invariant in
    let faults = g.S.PageSource.faults in
    let row = c.args.row.now in
    let old = c.loop-c.losses-inside.losses.items in
    let new = c.match-check_cell.losses-inside.losses.items in
    let count = column_count (ap (λ (on : RowOnLeaf). on.row) c.row.view_is) c.columns-c-end.ensures.same in
    let all : length old ≡ length row.row.table.columns = i.room ∙ c.requires.room in
    let within : c.loop-c.c < length old = omega (arith, all, count, c.loop-c-test.true) in
    let leaf = ap (λ (on : RowOnLeaf). on.leaf) c.row.view_is in
    elim c.match-check_cell.branch [
      | in-Ok w ↦
          let set_is : new ≡ set old c.loop-c.c None = ap (λ (l : Inside). l.losses.items) w.losses-inside-is in
          let answers = rw i.same at w.in-Ok.ensures.answers in
          let reads = rw i.same at w.in-Ok.ensures.reads in
          let pages = rw i.same at w.in-Ok.ensures.count in
          record {
            same = c.check_cell.ensures.over.same ∙ i.same;
            later = omega (arith, i.later, c.check_cell.ensures.over.later);
            asked = omega (arith, i.asked, c.check_cell.ensures.over.asked);
            members = c.check_cell.ensures.over.members ∙ i.members;
            cost = omega (arith, i.cost, c.check_cell.ensures.over.cost);
            fewer = omega (arith, i.fewer, w.in-Ok.ensures.fewer, w.count-is);
            room = ap (length {A = Option Loss}) set_is ∙ length-set old c.loop-c.c None ∙ i.room;
            judged = map_told2 (g.S.PageSource.content c.args.source.now)
                (λ file judged answers. judged_more file row c.args.marks.now c.loop-c.marks c.check_cell.new.marks
                (faults c.args.source.now) (faults c.loop-c.source) (faults c.check_cell.new.source) old new c.loop-c.c
                None c.cell-cell.result c.row.inside.number within c.cell-cell.ensures leaf set_is judged answers)
                i.judged answers;
            saves = map_told3 (g.S.PageSource.content c.args.source.now)
                (λ file saves reads pages.
                subst (λ (n : ℕ). SavesFirst file row.row new (c.loop-c.c + 1) n) (sym w.count-is)
                (saves_whole file row.row old new c.loop-c.c c.loop-c.count w.in-Ok.parts c.cell-cell.result within
                set_is c.cell-cell.ensures reads pages saves))
                i.saves reads pages;
          }
      | in-Err w ↦
          let set_is : new ≡ set old c.loop-c.c (Some w.in-Err.loss) =
          ap (λ (l : Inside). l.losses.items) w.losses-inside-is in
          let answers = rw i.same at w.in-Err.ensures.answers in
          record {
            same = c.check_cell.ensures.over.same ∙ i.same;
            later = omega (arith, i.later, c.check_cell.ensures.over.later);
            asked = omega (arith, i.asked, c.check_cell.ensures.over.asked);
            members = c.check_cell.ensures.over.members ∙ i.members;
            cost = omega (arith, i.cost, c.check_cell.ensures.over.cost);
            fewer = omega (arith, i.fewer, c.check_cell.ensures.over.fewer, w.count-is);
            room = ap (length {A = Option Loss}) set_is ∙ length-set old c.loop-c.c (Some w.in-Err.loss) ∙ i.room;
            judged = map_told2 (g.S.PageSource.content c.args.source.now)
                (λ file judged answers. judged_more file row c.args.marks.now c.loop-c.marks c.check_cell.new.marks
                (faults c.args.source.now) (faults c.loop-c.source) (faults c.check_cell.new.source) old new c.loop-c.c
                (Some w.in-Err.loss) c.cell-cell.result c.row.inside.number within c.cell-cell.ensures
                leaf set_is judged answers)
                i.judged answers;
            saves = map_told (g.S.PageSource.content c.args.source.now)
                (λ file saves.
                subst (λ (n : ℕ). SavesFirst file row.row new (c.loop-c.c + 1) n) (sym w.count-is)
                (saves_lost file row.row old new c.loop-c.c c.loop-c.count w.in-Err.loss within set_is saves))
                i.saves;
          }
    ]

pub returns-clause-answers : goal.returns-clause-answers
returns-clause-answers g c =
    let row = c.args.row.now.row in
    let count = column_count (ap (λ (on : RowOnLeaf). on.row) c.row.view_is) c.columns-c-end.ensures.same in
    let last : c.loop-c.c ≡ length row.table.columns = omega (arith, count, c.loop-c-test.false, c.loop-c.auto.c-end) in
    map_told (g.S.PageSource.content c.args.source.now)
    (λ file judged. judged_all file c.args.row.now c.args.marks.now c.loop-c.marks
    (g.S.PageSource.faults c.args.source.now) (g.S.PageSource.faults c.loop-c.source)
    c.loop-c.losses-inside.losses.items c.loop-c.c last (c.loop-c.invariant.room ∙ c.requires.room) judged)
    c.loop-c.invariant.judged

pub returns-clause-saves : goal.returns-clause-saves
returns-clause-saves g c =
    let row = c.args.row.now.row in
    let count = column_count (ap (λ (on : RowOnLeaf). on.row) c.row.view_is) c.columns-c-end.ensures.same in
    let last : c.loop-c.c ≡ length row.table.columns = omega (arith, count, c.loop-c-test.false, c.loop-c.auto.c-end) in
    map_told (g.S.PageSource.content c.args.source.now)
    (λ file saves. saves_all file row c.loop-c.losses-inside.losses.items c.loop-c.c c.loop-c.count last saves)
    c.loop-c.invariant.saves

pub returns-clause-count : goal.returns-clause-count
returns-clause-count g c =
    let row = c.args.row.now.row in
    let count = column_count (ap (λ (on : RowOnLeaf). on.row) c.row.view_is) c.columns-c-end.ensures.same in
    let last : c.loop-c.c ≡ length row.table.columns = omega (arith, count, c.loop-c-test.false, c.loop-c.auto.c-end) in
    map_told (g.S.PageSource.content c.args.source.now)
    (λ file saves. saves_count file row c.loop-c.losses-inside.losses.items c.loop-c.c c.loop-c.count last saves)
    c.loop-c.invariant.saves
