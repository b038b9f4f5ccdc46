use Rattle.std.proofs.Common.{◌+◌, List, ℕ, length, map, false, Option, Some, [], ◌∷◌, ◌++◌, ap, ◌∙◌}
use Rattle.compact_record.specs.declared.places.Place.{Place}
use Rattle.compact_record.specs.Reading.{cell_at}
use Rattle.key_lookup.proofs.Keys.{key_more}
use Rattle.key_lookup.proofs.key.SearchKey.push.Goals as goal

pub returns : goal.returns
returns c =
    let old = c.self.inside.bytes.items in
    let places = c.self.inside.places.items in
    let bytes = c.args.bytes.now in
    let at : ℕ → Place = λ n. record { null = false; external = false; from = n; until = n + length bytes } in
    let first = ap (λ (ps : List Place). map (cell_at c.extend_from_slice.new.self.items) ps)
    c.in_ok-push.ensures.items in
    let second = ap (λ (b : List ℕ). map (cell_at b) (places ++ at (length c.as_slice-from.result.now) ∷ []))
    c.in_ok-extend_from_slice.ensures.items in
    first ∙ second
    ∙ key_more old bytes places (at (length c.as_slice-from.result.now)) c.self.invariant
    (ap at (ap length c.as_slice-from.ensures.value))
    ∙ ap (λ (cells : List (Option (List ℕ))). cells ++ Some bytes ∷ []) c.self.view_is
