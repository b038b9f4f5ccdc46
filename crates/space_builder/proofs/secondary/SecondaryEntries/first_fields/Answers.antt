use Rattle.std.proofs.Common.{◌≡◌, ◌∙◌, ℕ, take, ap, sym, arith}
use Rattle.std.proofs.lemmas.List.{take-map}
use Rattle.row_layout.specs.StoredRow.{stored_at}
use Rattle.row_layout.specs.HoldsValues.{stored_in}
use Rattle.space_builder.specs.calls.Picked.{whole_part, picked_entry}
use Rattle.space_builder.proofs.secondary.SecondaryEntries.first_fields.Goals as goal

pub returns : goal.returns
returns c =
    let fields = c.args.self.now.fields.now in
    let row = stored_in c.args.self.now.rows.now c.args.r in
    let all : c.loop-k.k ≡ c.args.count = omega (arith, c.loop-k-test.false, c.loop-k.auto.k-end) in
    c.loop-k.invariant ∙ ap (λ (n : ℕ). picked_entry (take n fields) row) all
    ∙ sym (take-map (λ i. whole_part (stored_at row i)) c.args.count fields)
