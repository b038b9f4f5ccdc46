use Rattle.std.proofs.Common.{◌≡◌, ◌≤◌, ℕ, List, ◌++◌, drop, take, length, map, sym, ◌∙◌, ap, subst, arith}
use Rattle.std.specs.List.{range_with_len}
use Rattle.std.proofs.lemmas.List.FromFn.{length-map-range_with_len}
use Rattle.space_audit.specs.Lists.{IsListed}
use Rattle.space_audit.specs.Holders.{first_holder}
use Rattle.space_audit.specs.Owners.{AreOwners}
use Rattle.space_audit.proofs.AuditStages.{whole_slice}
use Rattle.space_audit.proofs.audit_file.find_owners.Goals as goal

pub settle_use-requires-clause-size : goal.settle_use-requires-clause-size
settle_use-requires-clause-size g c =
    sym (ap length (c.deref_mut.ensures.value ∙ c.in_ok-owners.ensures)
    ∙ length-map-range_with_len (first_holder c.args.inodes.now.pages) 0 c.args.header.now.size)

pub returns-clause-owners : goal.returns-clause-owners
returns-clause-owners g c = λ file h has.
    let slice = c.settle_use.new.holders in
    let len : c.in_ok-owners.owners.len ≡ length slice = sym (c.settle_use.auto.holders ∙ c.deref_mut.ensures.len) in
    let homes = c.in_ok-homes.ensures.told file h in
    let listed : IsListed file c.args.header.now c.args.inodes.now c.nodes.result.now c.in_ok-homes.homes.numbers =
    record {
      header_is = has.same;
      inodes_are = h.inodes_are;
      nodes_are = c.nodes.ensures.told file h.extents_are;
      homes_are = homes.numbers_are;
      extents = h.extents_sound;
      distinct = h.inodes_sound.distinct;
    } in
    subst (λ xs. AreOwners file xs) (sym (whole_slice slice (drop (length slice) c.in_ok-owners.owners.items)
    c.in_ok-owners.owners.len len))
    (c.in_ok-settle_use.ensures.owners file h homes has.same (c.in_ok-check_lists.ensures.exact file listed))

pub returns-clause-count : goal.returns-clause-count
returns-clause-count g c =
    let slice = c.settle_use.new.holders in
    let len : c.in_ok-owners.owners.len ≡ length slice = sym (c.settle_use.auto.holders ∙ c.deref_mut.ensures.len) in
    ap length (whole_slice slice (drop (length slice) c.in_ok-owners.owners.items) c.in_ok-owners.owners.len len)
    ∙ (c.settle_use.auto.holders
    ∙ (ap length (c.deref_mut.ensures.value ∙ c.in_ok-owners.ensures)
    ∙ length-map-range_with_len (first_holder c.args.inodes.now.pages) 0 c.args.header.now.size))
