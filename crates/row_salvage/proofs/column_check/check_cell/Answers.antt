use Rattle.std.proofs.Common.{◌↔◌, ◌++◌, ℕ, List, Result, [], sym, ap, ◌∙◌, refl, subst, inl, inr, arith}
use Rattle.std.proofs.lemmas.Bool.{false≢true}
use Rattle.page_source.proofs.Told.{if_told, map_told}
use Rattle.fil_frame.specs.Frame.{space_of}
use Rattle.column_values.specs.declared.kind.ColumnType.{ColumnType}
use Rattle.column_values.specs.Characters.{IsTextOfKind}
use Rattle.column_values.specs.Utf8Reader.{TakesText}
use Rattle.offpage_chain.specs.Reference.{reference_of}
use Rattle.table_check.specs.Values.{front_of}
use Rattle.sql_dump.specs.Cells.{CellView}
use Rattle.salvage_model.specs.declared.loss.Loss.{Loss}
use Rattle.salvage_model.specs.ColumnChecks.{GoesOn}
use Rattle.row_salvage.specs.Missed.{UnderMissed}
use Rattle.row_salvage.specs.Calls.{loss_of}
use Rattle.row_salvage.proofs.ColumnVerdict.{counts_to, cell_unsound, StaysHere, cell_near, near_reads, ChainAnswers}
use Rattle.row_salvage.proofs.ColumnVerdict.{cell_long, long_reads, if_ok}
use Rattle.row_salvage.proofs.column_check.check_cell.Goals as goal
use Rattle.row_salvage.proofs.column_check.check_cell.Goals.{then-cell-via-then-cell}
use Rattle.row_salvage.proofs.column_check.check_cell.Goals.{then-cell-via-else-cell+then-not-cell}

pub returns-then-not-is_sound-clause-answers : goal.returns-then-not-is_sound-clause-answers
returns-then-not-is_sound-clause-answers g c =
    if_told (g.S.PageSource.content c.args.source.now)
    (λ file. cell_unsound file c.args.leaf c.args.cell.now c.args.marks.now (g.S.PageSource.faults c.args.source.now)
    c.at.result (λ sound. false≢true (c.if-not-is_sound.ensures.1 sound)) c.at.ensures)

pub returns-then-cell-clause-answers : goal.returns-then-cell-clause-answers
returns-then-cell-clause-answers g c =
    let cell = c.args.cell.now in
    let sound = c.if-not-is_sound.ensures.0 refl in
    if_told (g.S.PageSource.content c.args.source.now)
    (λ file.
    let here : StaysHere file c.args.leaf cell = elim c.then-cell.branch [
      | then-cell-via-then-cell w ↦ inl (sym (ap (λ (v : CellView). v.place.null) c.cell.view_is) ∙ w.if-cell.true)
      | then-cell-via-else-cell+then-not-cell w ↦
          inr (sym (ap (λ (v : CellView). v.place.external) c.cell.view_is) ∙ w.if-not-cell.true)
    ] in
    cell_near file c.args.leaf cell c.args.marks.now (g.S.PageSource.faults c.args.source.now) sound here)

pub returns-then-cell-clause-reads : goal.returns-then-cell-clause-reads
returns-then-cell-clause-reads g c =
    let cell = c.args.cell.now in
    let sound = c.if-not-is_sound.ensures.0 refl in
    if_told (g.S.PageSource.content c.args.source.now)
    (λ file.
    let here : StaysHere file c.args.leaf cell = elim c.then-cell.branch [
      | then-cell-via-then-cell w ↦ inl (sym (ap (λ (v : CellView). v.place.null) c.cell.view_is) ∙ w.if-cell.true)
      | then-cell-via-else-cell+then-not-cell w ↦
          inr (sym (ap (λ (v : CellView). v.place.external) c.cell.view_is) ∙ w.if-not-cell.true)
    ] in
    near_reads file c.args.leaf cell sound here)

pub check_parts-requires-clause-count : goal.check_parts-requires-clause-count
check_parts-requires-clause-count g c =
    counts_to c.feed.new.self _ 16384 (omega (arith, c.split_local.ensures.size, c.local.ensures.short))
    (c.feed.ensures.counts 0 c.text_of-text.ensures.count)

pub returns-clause-answers : goal.returns-clause-answers
returns-clause-answers g c =
    let cell = c.args.cell.now in
    let sound = c.if-not-is_sound.ensures.0 refl in
    let goes : GoesOn cell = record {
      some_value = sym (ap (λ (v : CellView). v.place.null) c.cell.view_is) ∙ c.if-cell.false;
      external = sym (ap (λ (v : CellView). v.place.external) c.cell.view_is) ∙ c.if-not-cell.false;
    } in
    let text = c.feed.new.self in
    let front = c.split_local.result.0.now in
    let takes : (bytes : List ℕ) → TakesText text (front ++ bytes) ↔ IsTextOfKind cell.kind (front ++ bytes) =
    λ bytes. let i = c.feed.ensures.feeds.same (front ++ bytes) in
    let j = subst (λ (kind : ColumnType). TakesText c.text_of-text.result (front ++ bytes)
    ↔ IsTextOfKind kind (front ++ bytes)) (ap (λ (v : CellView). v.kind) c.cell.view_is)
    (c.text_of-text.ensures.takes (front ++ bytes)) in
    ((λ t. j.0 (i.0 t)), (λ t. i.1 (j.1 t))) in
    map_told (g.S.PageSource.content c.args.source.now)
    (λ file answers. cell_long file c.args.leaf cell sound goes c.args.marks.now c.check_parts.new.marks
    (g.S.PageSource.faults c.args.source.now) (g.S.PageSource.faults c.check_parts.new.source) text front
    c.space_id.result c.split_local.result.1
    (c.space_id.ensures ∙ ap (λ (v : CellView). space_of v.page) c.cell.view_is)
    (c.split_local.ensures.reference ∙ ap reference_of c.local.ensures.bytes)
    (c.split_local.ensures.front ∙ ap front_of c.local.ensures.bytes) takes (loss_of c.check_parts.result)
    (answers front (c.feed.ensures.feeds.fed [] c.text_of-text.ensures.fresh)))
    c.check_parts.ensures.answers

pub returns-clause-reads : goal.returns-clause-reads
returns-clause-reads g c =
    let cell = c.args.cell.now in
    let sound = c.if-not-is_sound.ensures.0 refl in
    let goes : GoesOn cell = record {
      some_value = sym (ap (λ (v : CellView). v.place.null) c.cell.view_is) ∙ c.if-cell.false;
      external = sym (ap (λ (v : CellView). v.place.external) c.cell.view_is) ∙ c.if-not-cell.false;
    } in
    let text = c.feed.new.self in
    let front = c.split_local.result.0.now in
    let takes : (bytes : List ℕ) → TakesText text (front ++ bytes) ↔ IsTextOfKind cell.kind (front ++ bytes) =
    λ bytes. let i = c.feed.ensures.feeds.same (front ++ bytes) in
    let j = subst (λ (kind : ColumnType). TakesText c.text_of-text.result (front ++ bytes)
    ↔ IsTextOfKind kind (front ++ bytes)) (ap (λ (v : CellView). v.kind) c.cell.view_is)
    (c.text_of-text.ensures.takes (front ++ bytes)) in
    ((λ t. j.0 (i.0 t)), (λ t. i.1 (j.1 t))) in
    let before = c.args.marks.now in
    let after = c.check_parts.new.marks in
    let f = g.S.PageSource.faults c.args.source.now in
    let h = g.S.PageSource.faults c.check_parts.new.source in
    let space_is = c.space_id.ensures ∙ ap (λ (v : CellView). space_of v.page) c.cell.view_is in
    let reference_is = c.split_local.ensures.reference ∙ ap reference_of c.local.ensures.bytes in
    let front_is = c.split_local.ensures.front ∙ ap front_of c.local.ensures.bytes in
    if_ok c.check_parts.result _
    (λ count is. map_told (g.S.PageSource.content c.args.source.now)
    (λ file answers. long_reads file c.args.leaf cell sound goes before after f h text front
    c.space_id.result c.split_local.result.1 space_is reference_is front_is takes
    (subst (λ (r : Result ℕ Loss). UnderMissed before after f h (ChainAnswers file c.args.leaf cell sound goes before
    after f h text front c.space_id.result c.split_local.result.1 space_is reference_is front_is takes (loss_of r))) is
    (answers front (c.feed.ensures.feeds.fed [] c.text_of-text.ensures.fresh))))
    c.check_parts.ensures.answers)
