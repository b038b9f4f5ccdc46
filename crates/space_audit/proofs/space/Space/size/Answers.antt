use Rattle.std.proofs.Common.{ap}
use Rattle.space_audit.specs.Space.{SpaceView}
use Rattle.space_audit.proofs.Audited.{audited_size}
use Rattle.space_audit.proofs.space.Space.size.Goals as goal

pub returns-clause-told : goal.returns-clause-told
returns-clause-told c file a =
    audited_size file c.args.self.now c.self.inside.size (ap (λ (v : SpaceView). v.size) c.self.view_is) a
