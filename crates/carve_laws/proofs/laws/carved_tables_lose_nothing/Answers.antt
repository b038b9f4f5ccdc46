use Rattle.std.proofs.Common.{subst}
use Rattle.schema_text.specs.Formats.{flags_of}
use Rattle.sql_dump.proofs.Dumps.{sound_table}
use Rattle.salvage_laws.proofs.Nothing.{HasLaws}
use Rattle.carve_laws.specs.Laws.{carved_job}
use Rattle.carve_laws.proofs.Held.{few_held, held_same}
use Rattle.carve_laws.proofs.Carved.{saved_there, all_alike}
use Rattle.carve_laws.proofs.Alike.{AreAlike, loses_alike}
use Rattle.carve_laws.proofs.laws.carved_tables_lose_nothing.Goals as goal

pub returns : goal.returns
returns c =
    λ image file carved space table held outcomes is valid own occur is_carved is_file saved.
    let laws : HasLaws = record {
      used = c.used_pages_are_of_extents.ensures;
      one = c.has_one_chain.ensures;
      whole = c.checks_are_whole.ensures;
      leaves = c.index_leaves_are_whole.ensures;
    } in
    let found =
    (sound_table file table is
    (record {
      audit = c.audit_is_soundness.ensures;
      readable = c.rows_can_be_read.ensures;
      one = c.has_one_chain.ensures;
      whole = c.checks_are_whole.ensures;
      goes_on = c.chain_goes_on.ensures;
    })
    ((c.checks_are_validity.ensures file table).1 valid)).found in
    let some = c.sound_files_have_outcomes.ensures file table is valid own in
    let few = few_held c.carved_pages_stand.ensures image carved space held is_carved is_file in
    let same = held_same c.what_stood_is_carved.ensures c.carved_pages_stand.ensures laws.used image file carved space
    (flags_of table.format) valid.space held occur is_carved is_file in
    let there = saved_there laws file table is valid own found.all found.reads carved same few some.outcomes
    some.is_saved in
    let one = c.salvage_has_one_outcome.ensures (carved_job file table carved) _ outcomes is there saved in
    loses_alike some.outcomes outcomes
    (subst (AreAlike some.outcomes) one
    (all_alike laws file table is valid own found.all found.reads carved same few some.outcomes some.is_saved))
    file table (c.sound_files_lose_nothing.ensures file table some.outcomes is valid own some.is_saved)
