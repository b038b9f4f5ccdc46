use Rattle.std.proofs.Common.{ℕ, List, ◌↔◌, subst, ◌/◌, ◌%◌, ◌^◌, ◌*◌, ◌-◌, ◌≡◌, ◌∙◌, ap, sym, set, bit_and, bit_or}
use Rattle.std.proofs.Common.{eq-eqb, eqb-true, get_or, arith}
use Rattle.std.proofs.lemmas.List.{get_or_read}
use Rattle.index_page.specs.Marks.{bits_of, with_span, IsUnmarked}
use Rattle.index_page.proofs.MarkBits.{bits_of_span, span_is_free}
use Rattle.index_page.proofs.marks.Marks.set_in_word.Goals as goal

pub returns-clause-exact : goal.returns-clause-exact
returns-clause-exact c =
    let from = c.args.from in
    let to = c.args.to in
    let words = c.self.inside.words.items in
    let word = get_or_read words _ _ (omega (arith, c.self.invariant)) c.index.ensures 0 in
    let same : bit_and c.index.result.now c.span_of-span.result ≡ bit_and (get_or words (from / 64) 0)
    (2 ^ (to - 64 * (from / 64)) - 2 ^ (from % 64)) =
    ap (λ w. bit_and w c.span_of-span.result) word ∙ ap (λ m. bit_and (get_or words (from / 64) 0) m)
    c.span_of-span.ensures in
    let P : List ℕ → Type 0 = λ xs. (bit_and (get_or words (from / 64) 0)
    (2 ^ (to - 64 * (from / 64)) - 2 ^ (from % 64)) ≡ 0) ↔ IsUnmarked (bits_of xs) from to in
    let free = subst P c.self.view_is (span_is_free words from to c.requires.rising c.requires.one_word) in
    (λ sound. free.0 (sym same ∙ eqb-true _ _ sound), λ unmarked. eq-eqb _ _ (same ∙ free.1 unmarked))

pub returns-clause-marks : goal.returns-clause-marks
returns-clause-marks c =
    let from = c.args.from in
    let to = c.args.to in
    let words = c.self.inside.words.items in
    let word = get_or_read words _ _ (omega (arith, c.self.invariant)) c.index_mut.ensures.value 0 in
    ap (λ w. bits_of (set words (from / 64) (bit_or w c.span_of-span.result))) word
    ∙ ap (λ m. bits_of (set words (from / 64) (bit_or (get_or words (from / 64) 0) m))) c.span_of-span.ensures
    ∙ bits_of_span words from to c.requires.rising c.requires.one_word (omega (arith, c.self.invariant))
    ∙ ap (λ xs. with_span (bits_of xs) from to) c.self.view_is
