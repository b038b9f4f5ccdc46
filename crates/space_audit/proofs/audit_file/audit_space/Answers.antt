use Rattle.std.proofs.Common.{◌≡◌, List, ℕ, None, ◌∙◌, ap, subst}
use Rattle.std.proofs.lemmas.Result.{err_from_is_err_and}
use Rattle.page_source.specs.Lists.{flag_in}
use Rattle.page_source.specs.Checks.{Stops}
use Rattle.page_source.proofs.Told.{map_told3, map_told4, map_told5}
use Rattle.extent_map.specs.Extents.{AreExtents, is_fragment_page}
use mathlib.Core.Path.{fun_ext}
use Rattle.inode_segments.specs.InodeChecks.{AllInodeChecks}
use Rattle.space_audit.proofs.AuditStages.{inodes_stop, pages_answer, is_read}
use Rattle.space_audit.proofs.audit_file.audit_space.Goals as goal

pub returns-in_err-inodes-clause-exact : goal.returns-in_err-inodes-clause-exact
returns-in_err-inodes-clause-exact g c =
    let o = g.S.PageSource.content c.args.source.now in
    let r = err_from_is_err_and c.from_residual-in_err-inodes.result c.from_residual-in_err-inodes.ensures.1 in
    let flags : (file : List ℕ) → AreExtents file c.in_ok-extents.extents
    → flag_in c.flags.result.now ≡ is_fragment_page file =
    λ file are. ap flag_in (c.flags.ensures ∙ c.in_ok-fragments.ensures file are)
    ∙ fun_ext (c.flags_are_fragment_pages.ensures file) in
    let found = rw c.in_ok-extents.ensures.over.same at c.in_err-inodes.ensures.exact in
    rw (r.1, r.2) (map_told3 o (λ file extents are stop.
    inodes_stop file c.in_err-inodes.field-0.0 extents
    (subst (λ f. Stops c.in_err-inodes.field-0.0 (AllInodeChecks file f)) (flags file are) stop))
    c.in_ok-extents.ensures.exact c.in_ok-extents.ensures.read found)

pub audit_pages-requires-clause-read : goal.audit_pages-requires-clause-read
audit_pages-requires-clause-read g c =
    let o = g.S.PageSource.content c.args.source.now in
    let flags : (file : List ℕ) → AreExtents file c.in_ok-extents.extents
    → flag_in c.flags.result.now ≡ is_fragment_page file =
    λ file are. ap flag_in (c.flags.ensures ∙ c.in_ok-fragments.ensures file are)
    ∙ fun_ext (c.flags_are_fragment_pages.ensures file) in
    let found = rw c.in_ok-extents.ensures.over.same at c.in_ok-inodes.ensures.exact in
    let kept = rw c.in_ok-extents.ensures.over.same at c.in_ok-inodes.ensures.kept in
    rw (c.in_ok-inodes.ensures.over.same, c.in_ok-extents.ensures.over.same)
    (map_told5 o (λ file has extents are inodes are_kept.
    is_read c.descriptor_checks_are_sound.ensures c.inode_checks_are_sound.ensures file c.args.header.now
    c.in_ok-extents.extents c.in_ok-inodes.inodes
    has c.requires.bounds.most are are_kept extents
    (subst (λ f. AllInodeChecks file f None) (flags file are) inodes))
    c.requires.told c.in_ok-extents.ensures.exact c.in_ok-extents.ensures.read found kept)

pub returns-clause-exact : goal.returns-clause-exact
returns-clause-exact g c =
    let o = g.S.PageSource.content c.args.source.now in
    let flags : (file : List ℕ) → AreExtents file c.in_ok-extents.extents
    → flag_in c.flags.result.now ≡ is_fragment_page file =
    λ file are. ap flag_in (c.flags.ensures ∙ c.in_ok-fragments.ensures file are)
    ∙ fun_ext (c.flags_are_fragment_pages.ensures file) in
    let found = rw c.in_ok-extents.ensures.over.same at c.in_ok-inodes.ensures.exact in
    let same = c.in_ok-inodes.ensures.over.same ∙ c.in_ok-extents.ensures.over.same in
    let pages = rw same at c.audit_pages.ensures.exact in
    map_told4 o (λ file extents are inodes answer.
    pages_answer file c.audit_pages.result extents (subst (λ f. AllInodeChecks file f None) (flags file are) inodes)
    answer)
    c.in_ok-extents.ensures.exact c.in_ok-extents.ensures.read found pages
