use Rattle.std.proofs.Common.{◌≡◌, ℕ, length, sym, ap, ◌∙◌, arith}
use Rattle.page_source.specs.Pages.{be_bytes, with_bytes}
use Rattle.compact_record.proofs.WriteSteps.{with_bytes-none}
use Rattle.page_packer.proofs.FinishSteps.{numbers_put}
use Rattle.page_packer.proofs.parts.put_numbers.Goals as goal

pub loop-i-init : goal.loop-i-init
loop-i-init c = record { written = with_bytes-none c.args.page.now c.args.at; ends = omega arith }

pub loop-i-preserved : goal.loop-i-preserved
loop-i-preserved c =
    let long : length c.args.page.now ≡ 16384 = ap length (sym c.bytes.ensures.same) ∙ c.bytes.ensures.size in
    let ends = c.loop-i.invariant.ends in
    record {
      written = numbers_put c.args.numbers.now c.args.page.now c.loop-i.page c.write_be.new.page c.args.at c.loop-i.end
          c.loop-i.i c.loop-i-test.true (omega arith) c.loop-i.invariant.written ends
          (c.write_be.ensures.others
          ∙ ap (λ (n : ℕ). with_bytes c.loop-i.page c.loop-i.end (be_bytes 2 n)) c.from.ensures);
      ends = omega arith;
    }
