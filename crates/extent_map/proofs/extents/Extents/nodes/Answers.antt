use Rattle.std.proofs.Common.{map, ap, ◌∙◌}
use Rattle.extent_map.specs.declared.extent.Extent.{Extent}
use Rattle.extent_map.proofs.Readers.{nodes_there}
use Rattle.extent_map.proofs.extents.Extents.nodes.Goals as goal

pub returns-clause-exact : goal.returns-clause-exact
returns-clause-exact c =
    c.deref.ensures.value ∙ c.self.invariant.0 ∙ ap (map (λ (x : Extent). x.node)) c.self.view_is

pub returns-clause-told : goal.returns-clause-told
returns-clause-told c = λ file are. returns-clause-exact c ∙ nodes_there file c.args.self.now are
