use Rattle.command_line.proofs.OneAnswer.{one_answer}
use Rattle.ibd_cli.proofs.OneBuild.{one_outcome}
use Rattle.ibd_cli.proofs.laws.texts_have_one_outcome.Goals as goal

pub returns : goal.returns
returns c =
    λ texts.
    one_outcome c.a_build_has_one_outcome.ensures.roots c.a_build_has_one_outcome.ensures.outcome texts
    (one_answer c.has_one_schema.ensures.texts c.texts_pass.ensures.pass c.texts_pass.ensures.one_answer texts.schema)
