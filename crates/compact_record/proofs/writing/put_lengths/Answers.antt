use Rattle.std.proofs.Common.{◌≡◌, ◌<◌, ◌+◌, ◌-◌, List, ℕ, length, reverse, sym, ap, ◌∙◌, subst, arith}
use Rattle.page_source.specs.Pages.{with_bytes}
use Rattle.column_values.specs.Types.{field_at}
use Rattle.compact_record.specs.declared.parts.Part.{Part}
use Rattle.compact_record.specs.Writing.{FitsField, part_at, length_of_part}
use Rattle.compact_record.proofs.FieldFits.{fit_same, fit_at}
use Rattle.compact_record.proofs.WriteSteps.{lengths_start, lengths_put, lengths_end, lengths_done, lengths_within}
use Rattle.compact_record.proofs.writing.put_lengths.Goals as goal

pub loop-k-init : goal.loop-k-init
loop-k-init c =
    let start = lengths_start c.args.fields.now c.args.parts.now c.args.page.now c.args.at
    (length c.fields-count.result.now) c.requires.fit (ap length c.fields-count.ensures.same) in
    record { written = start.0; ends = start.1 }

pub at-requires : goal.at-requires
at-requires c =
    omega (arith, fit_same c.args.fields.now c.args.parts.now c.requires.fit, ap length c.fields-count.ensures.same)

pub put_length-end-requires-clause-fits : goal.put_length-end-requires-clause-fits
put_length-end-requires-clause-fits c =
    let fields = c.args.fields.now in
    let parts = c.args.parts.now in
    let i : ℕ = length c.fields-count.result.now - 1 - c.loop-k.k in
    let below : i < length fields.fields = omega (arith, ap length c.fields-count.ensures.same) in
    subst (λ (p : Part). FitsField (field_at fields i) p) (sym c.at.ensures)
    (fit_at fields parts i c.requires.fit below)

pub put_length-end-requires-clause-inside : goal.put_length-end-requires-clause-inside
put_length-end-requires-clause-inside c =
    let fields = c.args.fields.now in
    let parts = c.args.parts.now in
    let count : ℕ = length c.fields-count.result.now in
    let k : ℕ = c.loop-k.k in
    let i : ℕ = count - 1 - k in
    let counted : count ≡ length fields.fields = ap length c.fields-count.ensures.same in
    let same : length (length_of_part (field_at fields i, c.at.result.now))
    ≡ length (length_of_part (field_at fields i, part_at parts i)) =
    ap (λ (p : Part). length (length_of_part (field_at fields i, p))) c.at.ensures in
    let ends = lengths_end fields parts c.args.at c.loop-k.end k count c.requires.fit counted c.loop-k-test.true
    c.loop-k.invariant.ends in
    let within = lengths_within fields parts (count - (k + 1)) in
    let inside = c.requires.inside in
    omega (arith, same, ends, within, inside)

pub loop-k-preserved : goal.loop-k-preserved
loop-k-preserved c =
    let fields = c.args.fields.now in
    let parts = c.args.parts.now in
    let count : ℕ = length c.fields-count.result.now in
    let k : ℕ = c.loop-k.k in
    let i : ℕ = count - 1 - k in
    let counted : count ≡ length fields.fields = ap length c.fields-count.ensures.same in
    let same : length_of_part (field_at fields i, c.at.result.now)
    ≡ length_of_part (field_at fields i, part_at parts i) =
    ap (λ (p : Part). length_of_part (field_at fields i, p)) c.at.ensures in
    let long : length c.args.page.now ≡ 16384 = ap length (sym c.bytes.ensures.same) ∙ c.bytes.ensures.size in
    let inside = c.requires.inside in
    record {
      written = lengths_put fields parts c.args.page.now c.loop-k.page c.put_length-end.new.page
          c.args.at c.loop-k.end k
          count c.requires.fit counted c.loop-k-test.true (omega (arith, inside, long)) c.loop-k.invariant.written
          c.loop-k.invariant.ends
          (c.put_length-end.ensures.page
          ∙ ap (λ (xs : List ℕ). with_bytes c.loop-k.page c.loop-k.end (reverse xs)) same);
      ends = c.put_length-end.ensures.end ∙ ap (λ (xs : List ℕ). c.loop-k.end + length xs) same
          ∙ lengths_end fields parts c.args.at c.loop-k.end k count c.requires.fit counted c.loop-k-test.true
          c.loop-k.invariant.ends;
    }

pub returns-clause-page : goal.returns-clause-page
returns-clause-page c =
    let count : ℕ = length c.fields-count.result.now in
    c.loop-k.invariant.written
    ∙ ap (λ (xs : List ℕ). with_bytes c.args.page.now c.args.at (reverse xs))
    (lengths_done c.args.fields.now c.args.parts.now count c.loop-k.k c.loop-k-test.false)

pub returns-clause-end : goal.returns-clause-end
returns-clause-end c =
    let count : ℕ = length c.fields-count.result.now in
    c.loop-k.invariant.ends
    ∙ ap (λ (xs : List ℕ). c.args.at + length xs)
    (lengths_done c.args.fields.now c.args.parts.now count c.loop-k.k c.loop-k-test.false)
