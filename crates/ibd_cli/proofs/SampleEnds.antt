-- How a sample ends, by how far it came.
use Rattle.std.proofs.Common.{◌≡◌, ℕ, List, Err, refl, sym, ◌∙◌, subst, arith}
use Rattle.page_source.specs.declared.objects.ByteSink.{Ghosts as SinkOf}
use Rattle.page_source.specs.Faults.{Rose}
use Rattle.page_source.specs.Objects.{GrowsBy, GrowsByPart}
use Rattle.sample_table.specs.declared.made.Sample.{Sample}
use Rattle.sample_table.specs.declared.made.SampleStop.{SampleStop}
use Rattle.sample_table.specs.declared.made.SampleStop.TheVariants as stops
use Rattle.sample_table.specs.Sample.{sample_rows, IsSampled, Samples}
use Rattle.ibd_cli.specs.declared.status.Status.{Status}
use Rattle.ibd_cli.specs.declared.status.Status.TheVariants.{Done, Usage, SinkFault, Full}
use Rattle.ibd_cli.specs.Run.{EndsAs}
use Rattle.ibd_cli.specs.Sample.{sample_line, IsTooMany, GivesSample, EndsSample, ServesSample}
use Rattle.ibd_cli.specs.Answers.{status_of_sample}

module _ (n : ℕ) where
  -- the numbers of two samples of the same rows are the same
  same_line : (a b : Sample) → IsSampled (sample_rows n) a → IsSampled (sample_rows n) b → sample_line a ≡ sample_line b
  same_line a b p q =
      let of_a = p.checked in
      let of_b = q.checked in
      rw (of_a.has_pages, of_a.has_used, of_a.has_rows, of_a.has_deleted, of_a.has_unreached, p.bytes, p.sum)
      (rw (of_b.has_pages, of_b.has_used, of_b.has_rows, of_b.has_deleted, of_b.has_unreached, q.bytes, q.sum) refl)

  one_line : (a b : List ℕ) → GivesSample n Done a → GivesSample n Done b → a ≡ b
  one_line a b p q = p.2 ∙ same_line p.0 q.0 p.1 q.1 ∙ sym q.2

  -- where the rows fit, that is what n defines
  done_complete : (sample : Sample) → IsSampled (sample_rows n) sample → (given : Status) (output : List ℕ)
      → GivesSample n given output → EndsAs given Done
  done_complete sample is Done output gives = refl
  done_complete sample is Full output gives = absurd (omega (arith, is.fits, gives.0))
  done_complete sample is _ output gives = absurd gives

  -- and where they don't
  full_complete : IsTooMany n → (given : Status) (output : List ℕ) → GivesSample n given output → EndsAs given Full
  full_complete many Done output gives = absurd (omega (arith, gives.1.fits, many))
  full_complete many Full output gives = refl
  full_complete many _ output gives = absurd gives

  module _ {O : Type 0} (o : SinkOf O) where
    -- the line was put
    pub sample_done : (out out_now : O) (sample : Sample) → IsSampled (sample_rows n) sample
        → GrowsBy (o.written out) (o.written out_now) (sample_line sample) → ServesSample o n out out_now Done
    sample_done out out_now sample is grows =
        record {
          ends = (sample_line sample, (sample, is, refl), grows);
          complete = λ given output gives. done_complete sample is given output gives;
          line = one_line;
          sink = λ is. absurd (cc);
        }

    -- a part of it was
    pub sample_unput : (out out_now : O) (sample : Sample) → IsSampled (sample_rows n) sample
        → GrowsByPart (o.written out) (o.written out_now) (sample_line sample)
        → Rose (o.faults out) (o.faults out_now) → ServesSample o n out out_now SinkFault
    sample_unput out out_now sample is grows rose =
        record {
          ends = (sample_line sample, (sample, is, refl), grows);
          complete = λ given output gives. tt;
          line = one_line;
          sink = λ is. rose;
        }

    -- there is none
    pub sample_stopped : (out : O) (stop : SampleStop) → Samples n (Err stop)
        → ServesSample o n out out (status_of_sample stop)
    sample_stopped out stops.Full many =
        record {
          ends = (many, refl);
          complete = λ given output gives. full_complete many given output gives;
          line = one_line;
          sink = λ is. absurd (cc);
        }
    sample_stopped out stops.Memory none =
        record {
          ends = refl;
          complete = λ given output gives. tt;
          line = one_line;
          sink = λ is. absurd (cc);
        }

    -- no other command's status ends it
    pub sample_never_usage : (out out_now : O) (status : Status) → ServesSample o n out out_now status
        → status ≡ Usage → ⊥
    sample_never_usage out out_now status serves same = subst (EndsSample o n out out_now) same serves.ends
