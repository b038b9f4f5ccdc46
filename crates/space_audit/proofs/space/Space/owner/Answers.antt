use Rattle.std.proofs.Common.{◌≡◌, ◌<◌, get_or, map, length, sym, ◌∙◌, ap, arith}
use Rattle.space_audit.specs.Owners.{owner_by}
use Rattle.space_audit.specs.Space.{SpaceView}
use Rattle.space_audit.proofs.Audited.{audited_owner}
use Rattle.space_audit.proofs.FindOwner.{owner_kept}
use Rattle.space_audit.proofs.space.Space.owner.Goals as goal

pub returns-clause-told : goal.returns-clause-told
returns-clause-told c = λ file a.
    let s = c.self.inside in
    let n = c.args.n in
    let result = c.owner_by.result in
    let owners : map owner_by s.owners.items ≡ c.args.self.now.owners = ap (λ (v : SpaceView). v.owners)
    c.self.view_is in
    let size : s.size ≡ c.args.self.now.size = ap (λ (v : SpaceView). v.size) c.self.view_is in
    let below : n < length s.owners.items = omega (arith, c.requires, size, c.self.invariant.2) in
    let kept : result ≡ get_or c.args.self.now.owners n result =
    c.owner_by.ensures ∙ (ap owner_by c.index.ensures
    ∙ (sym (owner_kept s.owners.items n c.index.result.now result below)
    ∙ ap (λ xs. get_or xs n result) owners)) in
    audited_owner file c.args.self.now n result c.requires kept a
