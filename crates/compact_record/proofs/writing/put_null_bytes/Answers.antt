use Rattle.std.proofs.Common.{◌≡◌, ◌+◌, ◌/◌, List, ℕ, length, reverse, sym, ap, ◌∙◌, arith}
use Rattle.page_source.specs.Pages.{with_bytes}
use Rattle.compact_record.specs.Reading.{null_bytes}
use Rattle.compact_record.proofs.WriteSteps.{nulls_start, nulls_put, nulls_done}
use Rattle.compact_record.proofs.writing.put_null_bytes.Goals as goal

pub loop-k-init : goal.loop-k-init
loop-k-init c =
    nulls_start c.args.fields.now c.args.parts.now c.args.page.now c.args.at ((c.nullable.result + 7) / 8)
    (ap (λ (n : ℕ). (n + 7) / 8) c.nullable.ensures)

pub loop-k-preserved : goal.loop-k-preserved
loop-k-preserved c =
    let count : ℕ = (c.nullable.result + 7) / 8 in
    let counted : count ≡ null_bytes c.args.fields.now = ap (λ (n : ℕ). (n + 7) / 8) c.nullable.ensures in
    let long : length c.args.page.now ≡ 16384 = ap length (sym c.bytes.ensures.same) ∙ c.bytes.ensures.size in
    let inside = c.requires.inside in
    nulls_put c.args.fields.now c.args.parts.now c.args.page.now c.loop-k.page c.put_bytes.new.self c.args.at c.loop-k.k
    count c.null_byte.result counted c.loop-k-test.true (omega (arith, inside, long, counted)) c.loop-k.invariant
    c.null_byte.ensures c.put_bytes.ensures

pub returns-clause-page : goal.returns-clause-page
returns-clause-page c =
    let count : ℕ = (c.nullable.result + 7) / 8 in
    c.loop-k.invariant
    ∙ ap (λ (xs : List ℕ). with_bytes c.args.page.now c.args.at (reverse xs))
    (nulls_done c.args.fields.now c.args.parts.now count c.loop-k.k c.loop-k-test.false)
