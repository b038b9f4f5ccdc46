use Rattle.std.proofs.Common.{refl, sym, ◌∙◌}
use Rattle.ibd_salvage.proofs.OneForm.{same_form}
use Rattle.ibd_salvage.proofs.run.run_salvage.Goals as goal
use Rattle.ibd_salvage.proofs.run.run_salvage.Goals.{in-None, in-Some}

pub returns : goal.returns
returns g c = record {
  usage = (
    λ usage.
        elim c.match-form_of.branch [
          | in-None w ↦ w.in-None.ensures
          | in-Some w ↦ absurd (w.serve-status.ensures.asked (sym w.status-is ∙ usage))
        ],
    λ none.
        elim c.match-form_of.branch [
          | in-None w ↦ w.status-is
          | in-Some w ↦ absurd (none _ _ w.in-Some.ensures)
        ],
  );
  between = c.match-form_of.err;
  line = record { got = c.report.ensures.text; later = c.report.ensures.later };
  untouched = λ none.
      elim c.match-form_of.branch [
        | in-None w ↦
            rw (w.file-is, w.schema-is, w.out-is, w.err-is) (record { objects = refl; uncounted = w.steps-is })
        | in-Some w ↦ absurd (none _ _ w.in-Some.ensures)
      ];
  serves = λ form is.
      elim c.match-form_of.branch [
        | in-None w ↦ absurd (w.in-None.ensures form.kind form.index is)
        | in-Some w ↦
            let same = same_form _ _ form w.in-Some.ensures is in
            rw (w.status-is, w.file-is, w.schema-is, w.out-is, w.err-is, w.steps-is)
            (rw same at w.serve-status.ensures)
      ];
}
