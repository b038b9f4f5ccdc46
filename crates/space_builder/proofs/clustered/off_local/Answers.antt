use Rattle.std.proofs.Common.{◌∙◌, ◌++◌, ◌-◌, List, ℕ, ap, take, arith}
use Rattle.space_builder.proofs.building.PickedParts.{off_local_is}
use Rattle.space_builder.proofs.clustered.off_local.Goals as goal

pub returns : goal.returns
returns c =
    let bytes = c.args.bytes.now in
    let n = c.min-prefix.result in
    c.in_ok-extend-2.ensures.ok
    ∙ ap (λ (l : List ℕ). l ++ c.write_reference.new.out)
    (c.in_ok-extend.ensures.ok ∙ ap (λ (l : List ℕ). l ++ take n bytes) c.new-local.ensures)
    ∙ ap (λ (r : List ℕ). take n bytes ++ r) c.write_reference.ensures.exact
    ∙ off_local_is c.args.format c.args.page bytes n _ (omega (arith, c.min-prefix.ensures, c.kept_prefix.ensures))
    (ap (λ (m : ℕ). m - n) c.requires)
