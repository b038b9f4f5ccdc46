use Rattle.std.proofs.Common.{rules, refl, sym, subst, ◌∙◌}
use Rattle.ibd_cli.specs.Forms.{IsForm}
use Rattle.ibd_cli.specs.declared.forms.Form.TheVariants.{Table, Build, Sample}
use Rattle.ibd_cli.proofs.WordLists.{same_task, same_count, never_build, never_sample, build_and_sample}
use Rattle.ibd_cli.proofs.WordLists.{asks_table, asks_build, asks_sample}
use Rattle.ibd_cli.proofs.Serving.{never_usage}
use Rattle.ibd_cli.proofs.BuildEnds.{build_never_usage}
use Rattle.ibd_cli.proofs.SampleEnds.{sample_never_usage}
use Rattle.ibd_cli.proofs.run.run.Goals as goal
use Rattle.ibd_cli.proofs.run.run.Goals.{in-None, in-Some-Table, in-Some-Build, in-Some-Sample}

pub build_file-status-requires : goal.build_file-status-requires
build_file-status-requires g c =
    let fresh = c.requires.fresh (subst (IsForm _) c.in-Some-Build.field-0-is c.in-Some-Build.ensures) in
    search (rules, fresh)

pub take_sample-status-requires : goal.take_sample-status-requires
take_sample-status-requires g c =
    let form = subst (IsForm _) c.in-Some-Sample.field-0-is c.in-Some-Sample.ensures in
    search (rules, form.0)

pub returns : goal.returns
returns g c = record {
  usage = (
    λ usage.
        elim c.match-form_of.branch [
          | in-None w ↦ w.in-None.ensures
          | in-Some-Table w ↦ absurd (never_usage _ _ w.serve-status.ensures.of_task (sym w.status-is ∙ usage))
          | in-Some-Build w ↦
              absurd (build_never_usage _ _ _ _ w.build_file-status.ensures.builds (sym w.status-is ∙ usage))
          | in-Some-Sample w ↦
              absurd (sample_never_usage _ _ _ _ _ w.take_sample-status.ensures (sym w.status-is ∙ usage))
        ],
    λ none.
        elim c.match-form_of.branch [
          | in-None w ↦ w.status-is
          | in-Some-Table w ↦ absurd (none _ w.in-Some-Table.ensures)
          | in-Some-Build w ↦ absurd (none _ w.in-Some-Build.ensures)
          | in-Some-Sample w ↦ absurd (none _ w.in-Some-Sample.ensures)
        ],
  );
  file = λ none.
      elim c.match-form_of.branch [
        | in-None w ↦ w.file-is
        | in-Some-Table w ↦ absurd (asks_table _ _ _ none w.in-Some-Table.field-0-is w.in-Some-Table.ensures)
        | in-Some-Build w ↦ w.file-is
        | in-Some-Sample w ↦ w.file-is
      ];
  schema = λ none no_build.
      elim c.match-form_of.branch [
        | in-None w ↦ w.schema-is
        | in-Some-Table w ↦ absurd (asks_table _ _ _ none w.in-Some-Table.field-0-is w.in-Some-Table.ensures)
        | in-Some-Build w ↦ absurd (asks_build _ _ no_build w.in-Some-Build.field-0-is w.in-Some-Build.ensures)
        | in-Some-Sample w ↦ w.schema-is
      ];
  steps = λ none no_sample.
      elim c.match-form_of.branch [
        | in-None w ↦ w.steps-is
        | in-Some-Table w ↦ absurd (asks_table _ _ _ none w.in-Some-Table.field-0-is w.in-Some-Table.ensures)
        | in-Some-Build w ↦ w.steps-is ∙ w.build_file-status.ensures.steps
        | in-Some-Sample w ↦ absurd (asks_sample _ _ _ no_sample w.in-Some-Sample.field-0-is w.in-Some-Sample.ensures)
      ];
  out = λ none no_build no_sample.
      elim c.match-form_of.branch [
        | in-None w ↦ w.out-is
        | in-Some-Table w ↦ absurd (asks_table _ _ _ none w.in-Some-Table.field-0-is w.in-Some-Table.ensures)
        | in-Some-Build w ↦ absurd (asks_build _ _ no_build w.in-Some-Build.field-0-is w.in-Some-Build.ensures)
        | in-Some-Sample w ↦ absurd (asks_sample _ _ _ no_sample w.in-Some-Sample.field-0-is w.in-Some-Sample.ensures)
      ];
  rows = λ no_build.
      elim c.match-form_of.branch [
        | in-None w ↦ w.rows-is
        | in-Some-Table w ↦ w.rows-is
        | in-Some-Build w ↦ absurd (asks_build _ _ no_build w.in-Some-Build.field-0-is w.in-Some-Build.ensures)
        | in-Some-Sample w ↦ w.rows-is
      ];
  target = λ no_build.
      elim c.match-form_of.branch [
        | in-None w ↦ w.target-is
        | in-Some-Table w ↦ w.target-is
        | in-Some-Build w ↦ absurd (asks_build _ _ no_build w.in-Some-Build.field-0-is w.in-Some-Build.ensures)
        | in-Some-Sample w ↦ w.target-is
      ];
  serves = λ task is_task.
      elim c.match-form_of.branch [
        | in-None w ↦ absurd (w.in-None.ensures (Table task) is_task)
        | in-Some-Table w ↦
            let e = same_task _ _ _ task w.in-Some-Table.field-0-is w.in-Some-Table.ensures is_task in
            rw (w.status-is, w.file-is, w.schema-is, w.out-is, w.steps-is)
            (rw (e, w.key_of.ensures) at w.serve-status.ensures)
        | in-Some-Build w ↦ absurd (never_build _ _ task w.in-Some-Build.field-0-is w.in-Some-Build.ensures is_task)
        | in-Some-Sample w ↦
            absurd (never_sample _ _ _ task w.in-Some-Sample.field-0-is w.in-Some-Sample.ensures is_task)
      ];
  builds = λ is_build.
      elim c.match-form_of.branch [
        | in-None w ↦ absurd (w.in-None.ensures Build is_build)
        | in-Some-Table w ↦
            absurd (never_build _ Build _ refl is_build
            (subst (IsForm _) w.in-Some-Table.field-0-is w.in-Some-Table.ensures))
        | in-Some-Build w ↦
            rw (w.status-is, w.schema-is, w.rows-is, w.out-is, w.target-is) w.build_file-status.ensures.builds
        | in-Some-Sample w ↦
            absurd (build_and_sample _ Build _ refl is_build
            (subst (IsForm _) w.in-Some-Sample.field-0-is w.in-Some-Sample.ensures))
      ];
  samples = λ n is_sample.
      elim c.match-form_of.branch [
        | in-None w ↦ absurd (w.in-None.ensures (Sample n) is_sample)
        | in-Some-Table w ↦
            absurd (never_sample _ (Sample n) n _ refl is_sample
            (subst (IsForm _) w.in-Some-Table.field-0-is w.in-Some-Table.ensures))
        | in-Some-Build w ↦
            absurd (build_and_sample _ _ n w.in-Some-Build.field-0-is w.in-Some-Build.ensures is_sample)
        | in-Some-Sample w ↦
            let e = same_count _ _ _ n w.in-Some-Sample.field-0-is w.in-Some-Sample.ensures is_sample in
            rw (w.status-is, w.out-is) (rw e at w.take_sample-status.ensures)
      ];
  report = c.report.ensures.text;
}
