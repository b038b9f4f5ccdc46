use Rattle.std.proofs.Common.{◌∙◌}
use Rattle.sample_table.proofs.Files.{built_file, is_full, never_misplaced, never_refused_line}
use Rattle.sample_table.proofs.answer.built.Goals as goal

pub returns-in-Ok : goal.returns-in-Ok
returns-in-Ok g c =
    built_file c.lines_are_unique.ensures.one_row c.good_texts_build_a_valid_tablespace.ensures c.args.rows
    c.requires.count c.args.schema.now c.requires.table c.in_ok-lines.lines
    (c.in_ok-lines.ensures ∙ c.in_ok-text_of.ensures) c.in-Ok.field-0 c.new-store.result.size c.build.new.store.size
    c.new-store.result.held c.build.new.store.held c.new-store.result.asked c.build.new.store.asked
    c.in-Ok.ensures.built c.in_ok-into_pages-in-Ok.field-0 c.in_ok-into_pages-in-Ok.ensures

pub returns-in-Err-Full : goal.returns-in-Err-Full
returns-in-Err-Full g c =
    is_full c.lines_are_unique.ensures.one_row c.args.rows c.requires.count c.args.schema.now c.requires.table
    c.in_ok-lines.lines (c.in_ok-lines.ensures ∙ c.in_ok-text_of.ensures) _ _ c.in-Err-Full.field-0
    c.in-Err-Full.ensures.built c.in-Err-Full.field-0-is

pub unreachable-requires : goal.unreachable-requires
unreachable-requires g c =
    never_misplaced c.lines_are_unique.ensures.one_row c.args.rows c.requires.count c.args.schema.now c.requires.table
    c.in_ok-lines.lines (c.in_ok-lines.ensures ∙ c.in_ok-text_of.ensures) _ _ c.in-Err-RootPlace.field-0
    c.in-Err-RootPlace.ensures.built c.in-Err-RootPlace.field-0-0 c.in-Err-RootPlace.field-0-is

pub unreachable-requires-in-Err-RowsRefused : goal.unreachable-requires-in-Err-RowsRefused
unreachable-requires-in-Err-RowsRefused g c =
    never_refused_line c.lines_are_unique.ensures.one_row c.args.rows c.requires.count c.args.schema.now
    c.requires.table c.in_ok-lines.lines (c.in_ok-lines.ensures ∙ c.in_ok-text_of.ensures) _ _
    c.in-Err-RowsRefused.field-0 c.in-Err-RowsRefused.ensures.built c.in-Err-RowsRefused.field-0-0
    c.in-Err-RowsRefused.field-0-1 c.in-Err-RowsRefused.field-0-is
