use Rattle.ibd_cli.proofs.BuiltDumps.{dumps_as_read}
use Rattle.ibd_cli.proofs.laws.built_files_dump_as_read.Goals as goal

pub returns : goal.returns
returns c =
    dumps_as_read
    (record {
      valid = c.checks_are_validity.ensures;
      builds = c.good_texts_build_a_valid_tablespace.ensures;
      lines = c.good_texts_are_of_rows.ensures;
    })
    c.inputs_have_one_outcome.ensures
