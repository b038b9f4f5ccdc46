use Rattle.std.proofs.Common.{◌≡◌, ◌<◌, List, ℕ, length, sym, ap, ◌∙◌, arith}
use Rattle.page_source.specs.Pages.{with_bytes}
use Rattle.compact_record.specs.Writing.{part_at, local_bytes}
use Rattle.compact_record.proofs.WriteSteps.{with_bytes-none, values_put, values_done, values_within, values_step}
use Rattle.compact_record.proofs.WriteSteps.{values_all}
use Rattle.compact_record.proofs.writing.put_values.Goals as goal

pub loop-i-init : goal.loop-i-init
loop-i-init c = record { written = with_bytes-none c.args.page.now c.args.at; ends = omega arith }

pub put_bytes-requires : goal.put_bytes-requires
put_bytes-requires c =
    let parts = c.args.parts.now in
    let below : c.loop-i.i < length parts = omega (arith, c.count-i-end.ensures) in
    let here : c.bytes-bytes.result.now ≡ local_bytes (part_at parts c.loop-i.i) =
    c.bytes-bytes.ensures ∙ ap local_bytes c.at.ensures in
    let ends = c.loop-i.invariant.ends in
    omega (arith, ap length here, values_within parts c.loop-i.i below)

pub overflow_add-end : goal.overflow_add-end
overflow_add-end c =
    let parts = c.args.parts.now in
    let below : c.loop-i.i < length parts = omega (arith, c.count-i-end.ensures) in
    let here : c.bytes-bytes.result.now ≡ local_bytes (part_at parts c.loop-i.i) =
    c.bytes-bytes.ensures ∙ ap local_bytes c.at.ensures in
    let ends = c.loop-i.invariant.ends in
    omega (arith, ap length here, values_within parts c.loop-i.i below)

pub loop-i-preserved : goal.loop-i-preserved
loop-i-preserved c =
    let parts = c.args.parts.now in
    let i : ℕ = c.loop-i.i in
    let below : i < length parts = omega (arith, c.count-i-end.ensures) in
    let here : c.bytes-bytes.result.now ≡ local_bytes (part_at parts i) =
    c.bytes-bytes.ensures ∙ ap local_bytes c.at.ensures in
    let ends = c.loop-i.invariant.ends in
    let long : length c.args.page.now ≡ 16384 = ap length (sym c.bytes.ensures.same) ∙ c.bytes.ensures.size in
    record {
      written = values_put parts c.args.page.now c.loop-i.page c.put_bytes.new.self c.args.at c.loop-i.end i below
          (omega arith) c.loop-i.invariant.written ends
          (c.put_bytes.ensures ∙ ap (λ (xs : List ℕ). with_bytes c.loop-i.page c.loop-i.end xs) here);
      ends = omega (arith, ap length here, values_step parts i below);
    }

pub returns-clause-end : goal.returns-clause-end
returns-clause-end c =
    let ends = c.loop-i.invariant.ends in
    omega (arith, values_all c.args.parts.now c.loop-i.i (omega (arith, c.count-i-end.ensures)))

pub returns-clause-page : goal.returns-clause-page
returns-clause-page c =
    c.loop-i.invariant.written
    ∙ ap (λ (xs : List ℕ). with_bytes c.args.page.now c.args.at xs)
    (values_done c.args.parts.now c.loop-i.i (omega (arith, c.count-i-end.ensures)))
