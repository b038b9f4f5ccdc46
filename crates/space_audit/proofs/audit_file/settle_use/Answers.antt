use Rattle.std.proofs.Common.{◌≡◌, ◌≤◌, length, get_or, sym, ◌∙◌, ap, subst, arith}
use Rattle.std.proofs.lemmas.Result.{err_from_is_err_and}
use Rattle.inode_segments.specs.Inodes.{segments}
use Rattle.space_audit.specs.Read.{IsOwned}
use Rattle.space_audit.proofs.audit_file.settle_use.Goals as goal

pub returns-clause-owners : goal.returns-clause-owners
returns-clause-owners c = λ file h are head lists.
    let few : length (segments file) ≤ 356515840 = omega (arith, c.requires.few, ap length h.inodes_are.places) in
    let owned : IsOwned file c.args.extents.now c.args.inodes.now c.numbers.result.now = record {
      read = h;
      homes_are = c.numbers.ensures.same ∙ are.numbers_are;
      few = few;
      lists = lists;
      uses = c.in_ok-check_use.ensures.exact file h are head;
    } in
    c.settle_owners.ensures file c.args.inodes.now owned (c.in_ok-check_use.ensures.held file h)
