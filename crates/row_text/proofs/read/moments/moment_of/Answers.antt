use Rattle.std.proofs.Common.{sym, ap, ◌∙◌, refl}
use Rattle.row_text.specs.Values.{moment_text, quoted}
use Rattle.row_text.proofs.OneNumber.{inside_one}
use Rattle.row_text.proofs.MomentWords.{clock_part, fraction_part, date_part, whole_moment}
use Rattle.row_text.proofs.read.moments.moment_of.Goals as goal

pub returns-in_err-inside : goal.returns-in_err-inside
returns-in_err-inside c = rw c.from_residual.ensures (λ y mo d h mi s n e.
    c.in_err-inside.ensures.none refl (moment_text c.args.f y mo d h mi s n) e)

pub returns-in_err-date : goal.returns-in_err-date
returns-in_err-date c = rw c.from_residual-in_err-date.ensures (λ y mo d h mi s n e.
    let inside = c.in_ok-inside.inside.now in
    let is = inside_one inside (moment_text c.args.f y mo d h mi s n) (sym c.in_ok-inside.ensures.found ∙ e) in
    c.in_err-date.ensures y mo d
    (date_part c.args.f y mo d h mi s n inside c.split_at.result.0.now is c.split_at.ensures.front))

pub returns-in_err-time : goal.returns-in_err-time
returns-in_err-time c = rw c.from_residual-in_err-time.ensures (λ y mo d h mi s n e.
    let inside = c.in_ok-inside.inside.now in
    let is = inside_one inside (moment_text c.args.f y mo d h mi s n) (sym c.in_ok-inside.ensures.found ∙ e) in
    c.in_err-time.ensures h mi s
    (clock_part c.args.f y mo d h mi s n inside c.split_at.result.1.now c.split_at-2.result.0.now
    is c.split_at.ensures.back c.split_at-2.ensures.front))

pub returns-in_err-micro : goal.returns-in_err-micro
returns-in_err-micro c = rw c.from_residual-in_err-micro.ensures (λ y mo d h mi s n e.
    let inside = c.in_ok-inside.inside.now in
    let is = inside_one inside (moment_text c.args.f y mo d h mi s n) (sym c.in_ok-inside.ensures.found ∙ e) in
    c.in_err-micro.ensures n
    (fraction_part c.args.f y mo d h mi s n inside c.split_at.result.1.now c.split_at-2.result.1.now
    is c.split_at.ensures.back c.split_at-2.ensures.back))

pub returns : goal.returns
returns c =
    let inside = c.in_ok-inside.inside.now in
    let date = c.in_ok-date.date in
    let time = c.in_ok-time.time in
    let is_date = c.in_ok-date.ensures in
    let is_time = c.in_ok-time.ensures in
    let part = c.in_ok-micro.ensures in
    record {
      fraction = part.0;
      year = is_date.0;
      month = is_date.1;
      day = is_date.2;
      hour = is_time.0;
      minute = is_time.1;
      second = is_time.2;
      spelled = c.in_ok-inside.ensures.found ∙ ap quoted (whole_moment c.args.f date.year date.month date.day time.hour
          time.minute time.second c.in_ok-micro.micro inside c.split_at.result.0.now c.split_at.result.1.now
          c.split_at-2.result.0.now c.split_at-2.result.1.now c.split_at.ensures.front c.split_at.ensures.back
          c.split_at-2.ensures.front c.split_at-2.ensures.back is_date.3 is_time.3 part.1);
    }
