use Rattle.sql_dump.proofs.Dumps.{sound_table}
use Rattle.salvage_laws.proofs.SomeOutcome.{some_outcomes}
use Rattle.salvage_laws.proofs.laws.sound_files_have_outcomes.Goals as goal

pub returns : goal.returns
returns c =
    λ file table is valid own.
    let found =
    (sound_table file table is
    (record {
      audit = c.audit_is_soundness.ensures;
      readable = c.rows_can_be_read.ensures;
      one = c.has_one_chain.ensures;
      whole = c.checks_are_whole.ensures;
      goes_on = c.chain_goes_on.ensures;
    })
    ((c.checks_are_validity.ensures file table).1 valid)).found in
    some_outcomes
    (record {
      used = c.used_pages_are_of_extents.ensures;
      one = c.has_one_chain.ensures;
      whole = c.checks_are_whole.ensures;
      leaves = c.index_leaves_are_whole.ensures;
    })
    file table is valid own found.all found.reads
