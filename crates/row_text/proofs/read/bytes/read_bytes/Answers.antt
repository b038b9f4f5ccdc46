use Rattle.std.proofs.Common.{◌≡◌, ◌≤◌, ℕ, List, length, drop, sym, ◌∙◌, refl, subst}
use Rattle.std.proofs.lemmas.Bool.{iff_false}
use Rattle.column_values.specs.Spell.{IsSpelling}
use Rattle.row_text.specs.calls.Values.{EndsValue}
use Rattle.row_text.specs.calls.Bytes.{AreLeadingBytes}
use Rattle.row_text.proofs.RawValues.{no_raw, not_quoted, is_leading, bytes_found}
use Rattle.row_text.proofs.read.bytes.read_bytes.Goals as goal

pub returns-then-not-are_raw-clause-found : goal.returns-then-not-are_raw-clause-found
returns-then-not-are_raw-clause-found c =
    let kind = c.args.kind.now in
    let text = c.args.text.now in
    let digits = c.in-Some.digits.now in
    let hex = c.in-Some.ensures.found in
    no_raw kind text c.requires.known c.requires.raw
    (λ other rest e ends. not_quoted text digits rest hex e)
    (λ raw rest are some spells e ends.
    let same = is_leading text digits c.in_ok-bytes.bytes (drop c.in_ok-bytes.size digits) raw rest hex
    c.in_ok-bytes.ensures.found are e ends in
    let all : raw ≡ c.bytes-2.result.now = same.0 ∙ sym c.bytes-2.ensures in
    iff_false c.are_raw.ensures c.if-not-are_raw.true
    (subst (λ (t : List ℕ). 1 ≤ length t) all some, subst (IsSpelling kind) all spells))

pub returns-then-not-ends_value-clause-found : goal.returns-then-not-ends_value-clause-found
returns-then-not-ends_value-clause-found c =
    let text = c.args.text.now in
    let digits = c.in-Some.digits.now in
    let hex = c.in-Some.ensures.found in
    no_raw c.args.kind.now text c.requires.known c.requires.raw
    (λ other rest e ends. not_quoted text digits rest hex e)
    (λ raw rest are some spells e ends.
    let same = is_leading text digits c.in_ok-bytes.bytes (drop c.in_ok-bytes.size digits) raw rest hex
    c.in_ok-bytes.ensures.found are e ends in
    iff_false c.ends_value.ensures c.if-not-ends_value.true
    (subst EndsValue (same.1 ∙ sym c.split_at.ensures.back) ends))

pub returns-clause-found : goal.returns-clause-found
returns-clause-found c =
    let kind = c.args.kind.now in
    let bytes = c.in_ok-bytes.bytes in
    let digits = c.in-Some.digits.now in
    let is = c.are_raw.ensures.0 c.if-not-are_raw.false in
    let leads = subst (AreLeadingBytes bytes digits) (sym c.split_at.ensures.back) c.in_ok-bytes.ensures.found in
    bytes_found kind c.args.text.now digits bytes c.split_at.result.1.now _ c.requires.raw c.in-Some.ensures.found leads
    (subst (λ (t : List ℕ). 1 ≤ length t) c.bytes-2.ensures is.0) (subst (IsSpelling kind) c.bytes-2.ensures is.1)
    (c.ends_value.ensures.0 c.if-not-ends_value.false) refl
