use Rattle.sql_dump.proofs.Dumps.{sound_table}
use Rattle.salvage_laws.proofs.WholeSalvage.{loses_nothing}
use Rattle.salvage_laws.proofs.laws.sound_files_lose_nothing.Goals as goal

pub returns : goal.returns
returns c =
    λ file table outcomes is valid own saved.
    loses_nothing
    (record {
      used = c.used_pages_are_of_extents.ensures;
      one = c.has_one_chain.ensures;
      whole = c.checks_are_whole.ensures;
      leaves = c.index_leaves_are_whole.ensures;
    })
    c.page_has_one_verdict.ensures c.whole_lines_are_lines.ensures c.whole_rows_are_read.ensures
    c.spellings_are_unique.ensures.one_value file table is valid own
    (sound_table file table is
    (record {
      audit = c.audit_is_soundness.ensures;
      readable = c.rows_can_be_read.ensures;
      one = c.has_one_chain.ensures;
      whole = c.checks_are_whole.ensures;
      goes_on = c.chain_goes_on.ensures;
    })
    ((c.checks_are_validity.ensures file table).1 valid))
    outcomes saved
