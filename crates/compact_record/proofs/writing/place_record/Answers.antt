use Rattle.std.proofs.Common.{◌≡◌, ◌+◌, ℕ, List, length, reverse, sym, ap, ◌∙◌, subst, arith}
use Rattle.page_source.specs.Pages.{with_bytes}
use Rattle.compact_record.specs.Reading.{null_bytes}
use Rattle.compact_record.specs.Writing.{all_lengths, all_null_bytes, header_bytes, value_bytes}
use Rattle.compact_record.proofs.ReadParts.{length-bytes_below}
use Rattle.compact_record.specs.Laws.{IsReadAgain}
use Rattle.compact_record.proofs.Placed.{size_is, origin_is, reads_what_is_placed}
use Rattle.compact_record.proofs.WriteSteps.{record_put}
use Rattle.compact_record.proofs.writing.place_record.Goals as goal

pub put_lengths-nulls-requires-clause-inside : goal.put_lengths-nulls-requires-clause-inside
put_lengths-nulls-requires-clause-inside c =
    let fields = c.args.fields.now in
    let parts = c.args.parts.now in
    let most = c.requires.most in
    omega (arith, size_is fields parts, length-bytes_below fields parts)

pub put_null_bytes-header-requires-clause-inside : goal.put_null_bytes-header-requires-clause-inside
put_null_bytes-header-requires-clause-inside c =
    let fields = c.args.fields.now in
    let parts = c.args.parts.now in
    let most = c.requires.most in
    let nulls = c.put_lengths-nulls.ensures.end in
    omega (arith, size_is fields parts, length-bytes_below fields parts)

pub put_header-origin-requires-clause-inside : goal.put_header-origin-requires-clause-inside
put_header-origin-requires-clause-inside c =
    let fields = c.args.fields.now in
    let parts = c.args.parts.now in
    let most = c.requires.most in
    let nulls = c.put_lengths-nulls.ensures.end in
    let header = c.put_null_bytes-header.ensures.end in
    omega (arith, size_is fields parts, length-bytes_below fields parts)

pub put_values-end-requires : goal.put_values-end-requires
put_values-end-requires c =
    let fields = c.args.fields.now in
    let parts = c.args.parts.now in
    let most = c.requires.most in
    let nulls = c.put_lengths-nulls.ensures.end in
    let header = c.put_null_bytes-header.ensures.end in
    let origin = c.put_header-origin.ensures.end in
    omega (arith, size_is fields parts, length-bytes_below fields parts)

pub returns-clause-page : goal.returns-clause-page
returns-clause-page c =
    let fields = c.args.fields.now in
    let parts = c.args.parts.now in
    let most = c.requires.most in
    let long : length c.args.page.now ≡ 16384 = ap length (sym c.bytes.ensures.same) ∙ c.bytes.ensures.size in
    let nulls = c.put_lengths-nulls.ensures.end in
    let header : c.put_null_bytes-header.result ≡ c.args.at + length (all_lengths fields parts) + null_bytes fields =
    c.put_null_bytes-header.ensures.end ∙ ap (λ (n : ℕ). n + null_bytes fields) nulls in
    let origin : c.put_header-origin.result ≡ c.args.at + length (all_lengths fields parts) + null_bytes fields + 5 =
    c.put_header-origin.ensures.end ∙ ap (λ (n : ℕ). n + 5) header in
    record_put fields parts c.args.page.now c.put_lengths-nulls.new.page c.put_null_bytes-header.new.page
    c.put_header-origin.new.page c.put_values-end.new.page c.args.at c.args.heap c.args.kind c.args.minimum
    (omega (arith, most, long)) c.put_lengths-nulls.ensures.page
    (c.put_null_bytes-header.ensures.page
    ∙ ap (λ (n : ℕ). with_bytes c.put_lengths-nulls.new.page n (reverse (all_null_bytes fields parts))) nulls)
    (c.put_header-origin.ensures.page
    ∙ ap (λ (n : ℕ). with_bytes c.put_null_bytes-header.new.page n
    (header_bytes c.args.heap c.args.kind c.args.minimum)) header)
    (c.put_values-end.ensures.page
    ∙ ap (λ (n : ℕ). with_bytes c.put_header-origin.new.page n (value_bytes parts)) origin)

pub returns-clause-origin : goal.returns-clause-origin
returns-clause-origin c =
    let fields = c.args.fields.now in
    let parts = c.args.parts.now in
    let nulls = c.put_lengths-nulls.ensures.end in
    let header = c.put_null_bytes-header.ensures.end in
    let origin = c.put_header-origin.ensures.end in
    omega (arith, origin_is fields parts, length-bytes_below fields parts)

pub returns-clause-end : goal.returns-clause-end
returns-clause-end c =
    let fields = c.args.fields.now in
    let parts = c.args.parts.now in
    let nulls = c.put_lengths-nulls.ensures.end in
    let header = c.put_null_bytes-header.ensures.end in
    let origin = c.put_header-origin.ensures.end in
    let end = c.put_values-end.ensures.end in
    omega (arith, size_is fields parts, length-bytes_below fields parts)

pub returns-clause-read : goal.returns-clause-read
returns-clause-read c = λ are.
    let fields = c.args.fields.now in
    let parts = c.args.parts.now in
    let long : length c.args.page.now ≡ 16384 = ap length (sym c.bytes.ensures.same) ∙ c.bytes.ensures.size in
    subst (λ (page : List ℕ). IsReadAgain page c.args.at c.args.heap c.args.kind c.args.minimum fields parts)
    (sym (returns-clause-page c))
    (reads_what_is_placed c.args.page.now c.args.at c.args.heap c.args.kind c.args.minimum fields parts long are
    c.requires)
