use Rattle.std.proofs.Common.{◌≡◌, ◌∙◌, ◌++◌, ◌∷◌, [], ℕ, length, map, take, ap, arith}
use Rattle.std.proofs.lemmas.List.{map-append, length-map, take-map}
use Rattle.row_store.specs.calls.Arena.{Span, spot_of, span_of}
use Rattle.row_store.proofs.stored.Lists.add.Goals as goal

pub returns-clause-ok : goal.returns-clause-ok
returns-clause-ok c =
    let lists = c.args.self.now in
    let fields = c.args.fields.now in
    let old = map span_of lists.spans.items in
    let start : c.len.result ≡ length lists.bytes.items = omega (arith, c.len.ensures, lists.bytes.ok) in
    record {
      first = c.in_ok-first.first;
      begins =
          ap (λ (n : ℕ). take n (map spot_of c.marks_for.new.marks.items)) (length-map lists.marks.items spot_of)
          ∙ take-map spot_of (length lists.marks.items) c.marks_for.new.marks.items
          ∙ ap (map spot_of) c.marks_for.ensures.begins;
      marked = c.in_ok-first.ensures.ok;
      bytes =
          c.in_ok-extend_from_slice.ensures.items
          ∙ ap (λ (n : ℕ). lists.bytes.items ++ take n c.args.row.now) c.end_of.ensures;
      spans =
          ap (map span_of) c.in_ok-push.ensures.items ∙ map-append span_of lists.spans.items (c.in_ok-span.span ∷ [])
          ∙ ap (λ (s : Span). old ++ s ∷ []) c.in_ok-span.ensures
          ∙ ap (λ (n : ℕ). old
          ++ (let s : Span = record { start = n; first = c.in_ok-first.first; width = length fields } in s) ∷ []) start;
    }
