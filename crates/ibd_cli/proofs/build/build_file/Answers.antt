use Rattle.std.proofs.Common.{Err, ap, refl}
use Rattle.command_line.proofs.OneAnswer.{one_answer}
use Rattle.ibd_cli.proofs.BuildEnds.{build_unread, build_stopped, build_done, build_unput}
use Rattle.ibd_cli.proofs.build.build_file.Goals as goal

pub returns-in-Ok-put_built-clause-builds : goal.returns-in-Ok-put_built-clause-builds
returns-in-Ok-put_built-clause-builds g c =
    build_done
    (record {
      texts = one_answer c.has_one_schema.ensures.texts c.texts_pass.ensures.pass c.texts_pass.ensures.one_answer;
      roots = c.a_build_has_one_outcome.ensures.roots;
      outcome = c.a_build_has_one_outcome.ensures.outcome;
      dumps = c.built_files_dump_as_read.ensures;
    })
    _ _ _ c.in-Ok.table c.in-Ok-build.built
    (record {
      has = record { reads = c.in-Ok.ensures.exact; read = c.in-Ok.ensures.read };
      builds = c.in-Ok-build.ensures.built;
      reads = c.in-Ok-build.ensures.read;
      cause = c.in-Ok-build.ensures.cause;
      untouched = c.in-Ok-build.ensures.untouched;
      memory = c.in-Ok-build.ensures.memory;
    })
    c.in-Ok-put_built.ensures.ok

pub returns-in-Ok-build-clause-builds : goal.returns-in-Ok-build-clause-builds
returns-in-Ok-build-clause-builds g c =
    build_unput
    (record {
      texts = one_answer c.has_one_schema.ensures.texts c.texts_pass.ensures.pass c.texts_pass.ensures.one_answer;
      roots = c.a_build_has_one_outcome.ensures.roots;
      outcome = c.a_build_has_one_outcome.ensures.outcome;
      dumps = c.built_files_dump_as_read.ensures;
    })
    _ _ _ c.in-Ok.table c.in-Ok-build.built
    (record {
      has = record { reads = c.in-Ok.ensures.exact; read = c.in-Ok.ensures.read };
      builds = c.in-Ok-build.ensures.built;
      reads = c.in-Ok-build.ensures.read;
      cause = c.in-Ok-build.ensures.cause;
      untouched = c.in-Ok-build.ensures.untouched;
      memory = c.in-Ok-build.ensures.memory;
    })
    c.in-Err-put_built.ensures.failed c.in-Err-put_built.ensures.cause.failed

pub returns-in-Ok-clause-builds : goal.returns-in-Ok-clause-builds
returns-in-Ok-clause-builds g c =
    rw c.from.ensures
    (build_stopped
    (record {
      texts = one_answer c.has_one_schema.ensures.texts c.texts_pass.ensures.pass c.texts_pass.ensures.one_answer;
      roots = c.a_build_has_one_outcome.ensures.roots;
      outcome = c.a_build_has_one_outcome.ensures.outcome;
      dumps = c.built_files_dump_as_read.ensures;
    })
    _ _ _ c.in-Ok.table c.in-Err-build.stop
    (record {
      has = record { reads = c.in-Ok.ensures.exact; read = c.in-Ok.ensures.read };
      builds = c.in-Err-build.ensures.built;
      reads = c.in-Err-build.ensures.read;
      cause = c.in-Err-build.ensures.cause;
      untouched = c.in-Err-build.ensures.untouched;
      memory = c.in-Err-build.ensures.memory;
    })
    refl)

pub returns-clause-builds : goal.returns-clause-builds
returns-clause-builds g c =
    rw c.from-in-Err.ensures
    (build_unread
    (record {
      texts = one_answer c.has_one_schema.ensures.texts c.texts_pass.ensures.pass c.texts_pass.ensures.one_answer;
      roots = c.a_build_has_one_outcome.ensures.roots;
      outcome = c.a_build_has_one_outcome.ensures.outcome;
      dumps = c.built_files_dump_as_read.ensures;
    })
    _ _ _ c.in-Err.stop
    (record {
      schema = record {
        reads = c.in-Err.ensures.exact;
        read = c.in-Err.ensures.read;
        cause = λ is. c.in-Err.ensures.cause (ap Err is);
      };
      rows = refl;
      nothing = record { out = refl; target = refl };
      fresh = c.requires.fresh;
    }))
