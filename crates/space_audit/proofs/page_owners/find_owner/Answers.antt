use Rattle.std.proofs.Common.{◌≡◌, ◌≢◌, ◌/◌, ◌≤◌, length, get_or, sym, ◌∙◌, ap, arith}
use Rattle.space_audit.specs.Owners.{owner_at_home}
use Rattle.space_audit.proofs.FindOwner.{found_beyond, found_free, found_own, found_fragment}
use Rattle.space_audit.proofs.page_owners.find_owner.Goals as goal

pub returns-then-e-count : goal.returns-then-e-count
returns-then-e-count c = λ file inodes h e.
    let past : length c.args.extents.now ≤ c.args.n / 64 = omega (arith, c.if-e-count.true, c.count.ensures.count) in
    found_beyond file c.args.extents.now inodes c.args.homes.now c.args.n h past

pub returns-then-state-eq-FREE : goal.returns-then-state-eq-FREE
returns-then-state-eq-FREE c = λ file inodes h e.
    found_free file c.args.extents.now inodes c.args.homes.now c.args.n c.extent.result.now h c.extent.ensures
    c.if-state-eq-FREE.true

pub returns-then-state-eq-FSEG : goal.returns-then-state-eq-FSEG
returns-then-state-eq-FSEG c = λ file inodes h e.
    c.segment_owner.ensures
    ∙ found_own file c.args.extents.now inodes c.args.homes.now c.args.n c.extent.result.now c.is_used-used.result h
    c.extent.ensures
    c.if-state-eq-FSEG.true (c.is_used-used.ensures.told file h.read.extents_are)

pub returns : goal.returns
returns c = λ file inodes h e.
    c.fragment_owner.ensures
    ∙ found_fragment file c.args.extents.now inodes c.args.homes.now c.args.n c.args.holder c.extent.result.now
    c.is_used-used.result h
    c.extent.ensures c.if-state-eq-FREE.false c.if-state-eq-FSEG.false
    (c.is_used-used.ensures.told file h.read.extents_are) e
