use Rattle.command_line.proofs.OneAnswer.{one_answer}
use Rattle.ibd_cli.proofs.OneOutcome.{one_outcome}
use Rattle.ibd_cli.proofs.laws.inputs_have_one_outcome.Goals as goal

pub returns : goal.returns
returns c =
    λ task key told.
    one_outcome
    (record {
      first = c.first_has_one_answer.ensures;
      row = c.look_up_has_one_answer.ensures;
      spelled = c.text_spells_one_key.ensures;
      valid = c.checks_are_validity.ensures;
      differ = c.has_one_difference.ensures;
    })
    task key told
    (one_answer c.has_one_schema.ensures.texts c.texts_pass.ensures.pass c.texts_pass.ensures.one_answer told.schema)
    (record { dump = c.sound_files_have_one_dump.ensures; line = c.finds_one_line.ensures })
