use Rattle.sql_dump.proofs.OneDump.{one_dump}
use Rattle.sql_dump.proofs.laws.sound_files_have_one_dump.Goals as goal

pub returns : goal.returns
returns c =
    λ file table is valid.
    one_dump c.spellings_are_unique.ensures.one_value file table is valid c.checked_can_be_read.ensures
    ((c.checks_are_validity.ensures file table).1 valid)
