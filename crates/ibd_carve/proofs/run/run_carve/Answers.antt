use Rattle.std.proofs.Common.{sym, ◌∙◌}
use Rattle.ibd_carve.proofs.Commands.{same_form}
use Rattle.ibd_carve.proofs.Asked.{is_asked}
use Rattle.ibd_carve.proofs.run.run_carve.Goals as goal
use Rattle.ibd_carve.proofs.run.run_carve.Goals.{in-None, in-Some}

pub returns : goal.returns
returns g c = record {
  usage = (
    λ usage.
        elim c.match-form_of.branch [
          | in-None w ↦ w.in-None.ensures
          | in-Some w ↦ absurd (is_asked g.Q.ByteSource g.F.PageFile g.O.ByteSink _ _ _ _ _ _ _ _
              w.serve-status.ensures (sym w.status-is ∙ usage))
        ],
    λ none.
        elim c.match-form_of.branch [
          | in-None w ↦ w.status-is
          | in-Some w ↦ absurd (none _ w.in-Some.ensures)
        ],
  );
  untouched = λ none.
      elim c.match-form_of.branch [
        | in-None w ↦ record { image = w.image-is; file = w.file-is; out = w.out-is }
        | in-Some w ↦ absurd (none _ w.in-Some.ensures)
      ];
  serves = λ form is.
      elim c.match-form_of.branch [
        | in-None w ↦ absurd (w.in-None.ensures form is)
        | in-Some w ↦
            let same = same_form _ _ form w.in-Some.ensures is in
            rw (w.status-is, w.image-is, w.file-is, w.out-is) (rw same at w.serve-status.ensures)
      ];
  report = c.report.ensures.text;
}
