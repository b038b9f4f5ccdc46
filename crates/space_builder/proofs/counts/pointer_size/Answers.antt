use Rattle.std.proofs.Common.{◌≡◌, ◌∙◌, ℕ, sym, ap, subst, arith, []}
use Rattle.compact_record.specs.Writing.{FitFields, size_of_record}
use Rattle.page_packer.specs.Entries.{entry_at}
use Rattle.tree_layout.specs.Division.{pointer_with}
use Rattle.space_builder.proofs.building.Weights.{pointer_fits}
use Rattle.space_builder.proofs.counts.pointer_size.Goals as goal

pub record_size-requires : goal.record_size-requires
record_size-requires g c =
    let entries = g.E.Entries.entries c.args.entries.now in
    let is : c.in_ok-parts.parts ≡ pointer_with c.args.node.now.keys (entry_at entries c.args.k) 0 =
    c.in_ok-parts.ensures ∙ ap (λ (n : ℕ). pointer_with n (entry_at entries c.args.k) 0) c.keys.ensures in
    subst (FitFields c.args.node.now) (sym is)
    (pointer_fits c.pointers_lead_to_their_pages.ensures c.args.leaf.now c.args.node.now entries c.requires.divide
    c.args.k c.requires.inside)

pub overflow_cast-result : goal.overflow_cast-result
overflow_cast-result g c =
    let entries = g.E.Entries.entries c.args.entries.now in
    let is : c.in_ok-parts.parts ≡ pointer_with c.args.node.now.keys (entry_at entries c.args.k) 0 =
    c.in_ok-parts.ensures ∙ ap (λ (n : ℕ). pointer_with n (entry_at entries c.args.k) 0) c.keys.ensures in
    omega (
      arith,
      c.record_size.ensures,
      ap (size_of_record c.args.node.now) is,
      c.requires.divide.pointers c.args.k [] c.requires.inside 0,
    )
