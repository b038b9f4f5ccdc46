use Rattle.std.proofs.Common.{◌≡◌, ◌∙◌, ◌++◌, ◌∷◌, [], ℕ, map, ap, sym, arith}
use Rattle.std.specs.List.{range_with_len}
use Rattle.std.proofs.lemmas.List.FromFn.{map-range_with_len_more}
use Rattle.compact_record.specs.declared.parts.Part.{Part}
use Rattle.page_packer.specs.Entries.{Entry}
use Rattle.space_builder.specs.calls.Picked.{first_page_in, clustered_part}
use Rattle.space_builder.proofs.building.PickedParts.{first_parts}
use Rattle.space_builder.proofs.clustered.ClusteredEntries.first_fields.Goals as goal

pub loop-i-preserved : goal.loop-i-preserved
loop-i-preserved c =
    let e = c.args.self.now in
    let i = c.loop-i.i in
    let f : ℕ → Part = clustered_part e.format (first_page_in e.starts.now e.first_pages.now) e.rows.now c.args.r in
    c.in_ok-push_field.ensures ∙ ap (λ (parts : Entry). parts ++ f i ∷ []) c.loop-i.invariant
    ∙ sym (map-range_with_len_more f 0 i i (omega arith))

pub returns : goal.returns
returns c =
    let e = c.args.self.now in
    let f : ℕ → Part = clustered_part e.format (first_page_in e.starts.now e.first_pages.now) e.rows.now c.args.r in
    let all : c.loop-i.i ≡ c.args.count = omega (arith, c.loop-i-test.false, c.loop-i.auto.i-end) in
    c.loop-i.invariant ∙ ap (λ (n : ℕ). map f (range_with_len 0 n)) all
    ∙ first_parts e.format (first_page_in e.starts.now e.first_pages.now) e.rows.now c.args.r c.args.count
    c.requires.count
