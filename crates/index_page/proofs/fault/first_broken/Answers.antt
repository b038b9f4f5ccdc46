use Rattle.std.proofs.Common.{refl, inl}
use Rattle.std.proofs.lemmas.Bool.{false≢true}
use Rattle.page_source.proofs.Chains.{passed}
use Rattle.index_page.specs.PageChecks.{PageChecks}
use Rattle.index_page.proofs.fault.first_broken.Goals as goal

pub returns-then-not-have_room-clause-exact : goal.returns-then-not-have_room-clause-exact
unfolding PageChecks
returns-then-not-have_room-clause-exact c =
    let header = c.has_header.ensures.0 c.if-not-has_header.false in
    let ends = c.has_ends.ensures.0 c.if-not-has_ends.false in
    let chain = c.in_default.ensures.exact.0 in
    let numbers = c.in_default.ensures.exact.1 in
    let free = c.has_free_list.ensures.0 c.if-not-has_free_list.false in
    let directory = c.has_directory.ensures.0 c.if-not-has_directory.false in
    let kind = c.have_kind.ensures.0 c.if-not-have_kind.false in
    let spelled = c.heap_is_spelled.ensures.exact.0 c.if-not-heap_is_spelled.false in
    passed header (passed ends (passed chain (passed numbers (passed free (passed directory (passed kind (passed spelled
    (inl (λ room. false≢true (c.if-not-have_room.ensures.exact.1 room), refl)))))))))

pub returns-then-not-may_be_empty-clause-exact : goal.returns-then-not-may_be_empty-clause-exact
unfolding PageChecks
returns-then-not-may_be_empty-clause-exact c =
    let header = c.has_header.ensures.0 c.if-not-has_header.false in
    let ends = c.has_ends.ensures.0 c.if-not-has_ends.false in
    let chain = c.in_default.ensures.exact.0 in
    let numbers = c.in_default.ensures.exact.1 in
    let free = c.has_free_list.ensures.0 c.if-not-has_free_list.false in
    let directory = c.has_directory.ensures.0 c.if-not-has_directory.false in
    let kind = c.have_kind.ensures.0 c.if-not-have_kind.false in
    let spelled = c.heap_is_spelled.ensures.exact.0 c.if-not-heap_is_spelled.false in
    let room = c.have_room.ensures.exact.0 c.if-not-have_room.false in
    passed header (passed ends (passed chain (passed numbers (passed free (passed directory (passed kind (passed spelled
    (passed room (inl (λ empty. false≢true (c.if-not-may_be_empty.ensures.1 empty), refl))))))))))

pub returns-then-not-keys_rise-clause-exact : goal.returns-then-not-keys_rise-clause-exact
unfolding PageChecks
returns-then-not-keys_rise-clause-exact c =
    let header = c.has_header.ensures.0 c.if-not-has_header.false in
    let ends = c.has_ends.ensures.0 c.if-not-has_ends.false in
    let chain = c.in_default.ensures.exact.0 in
    let numbers = c.in_default.ensures.exact.1 in
    let free = c.has_free_list.ensures.0 c.if-not-has_free_list.false in
    let directory = c.has_directory.ensures.0 c.if-not-has_directory.false in
    let kind = c.have_kind.ensures.0 c.if-not-have_kind.false in
    let spelled = c.heap_is_spelled.ensures.exact.0 c.if-not-heap_is_spelled.false in
    let room = c.have_room.ensures.exact.0 c.if-not-have_room.false in
    let empty = c.may_be_empty-2.ensures.0 c.if-not-may_be_empty.false in
    passed header (passed ends (passed chain (passed numbers (passed free (passed directory (passed kind (passed spelled
    (passed room (passed empty (
      λ rise.
          false≢true (c.if-not-keys_rise.ensures.exact.1 (rw (c.is_lowest_first-lowest.ensures) rise)),
      refl,
    ))))))))))
