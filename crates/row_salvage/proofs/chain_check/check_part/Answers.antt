use Rattle.std.proofs.Common.{◌<◌, ◌≡◌, false, length, sym, ◌∙◌, refl, arith}
use Rattle.std.proofs.lemmas.Bool.{false≢true}
use Rattle.page_source.proofs.Told.{map_told, map_told2}
use Rattle.space_audit.specs.Marks.{is_set}
use Rattle.row_salvage.proofs.Missed.{newly_set}
use Rattle.row_salvage.proofs.PartVerdict.{where_ok, where_err, part_taken, part_unread, part_unframed, part_kind}
use Rattle.row_salvage.proofs.PartVerdict.{part_short, part_holds}
use Rattle.row_salvage.proofs.chain_check.check_part.Goals as goal
use Rattle.row_salvage.proofs.chain_check.check_part.Goals.{then-due-chain-via-then-due-chain}
use Rattle.row_salvage.proofs.chain_check.check_part.Goals.{then-due-chain-via-else-due-chain+then-has}

pub returns-then-due-chain-clause-answers : goal.returns-then-due-chain-clause-answers
returns-then-due-chain-clause-answers g c =
    let content = g.S.PageSource.content c.args.source.now in
    let marks = c.args.marks.now in
    let faults = g.S.PageSource.faults c.args.source.now in
    let due = c.args.due in
    elim c.then-due-chain.branch [
      | then-due-chain-via-then-due-chain w ↦
          map_told content
          (λ file reach. part_taken file marks marks faults faults c.args.chain.space due.holder due.left due.page
          c.at.result refl (omega arith) (λ part. omega (arith, reach, part.below, w.if-due-chain.true)) c.at.ensures)
          c.requires.ready.told
      | then-due-chain-via-else-due-chain+then-has w ↦
          map_told content
          (λ file reach. part_taken file marks marks faults faults c.args.chain.space due.holder due.left due.page
          c.at.result refl (omega arith)
          (λ part. false≢true (sym part.new ∙ sym w.has.ensures ∙ w.if-has.true)) c.at.ensures)
          c.requires.ready.told
    ]

pub returns-then-is_err-clause-answers : goal.returns-then-is_err-clause-answers
returns-then-is_err-clause-answers g c =
    let marks = c.args.marks.now in
    let due = c.args.due in
    let none : is_set marks due.page ≡ false = sym c.has.ensures ∙ c.if-has.false in
    let below : due.page < length marks = omega (arith, c.requires.ready.members, c.if-due-chain.false) in
    let newly = newly_set marks c.mark.new.self due.page below none c.mark.ensures.exact in
    map_told (g.S.PageSource.content c.args.source.now)
    (λ file reach. part_unread file marks c.mark.new.self (g.S.PageSource.faults c.args.source.now)
    (g.S.PageSource.faults c.fetch.new.self) c.args.chain.space due.holder due.left due.page
    (record { below = omega (arith, reach, c.if-due-chain.false); new = none }) newly
    (where_err c.fetch.result c.if-is_err.ensures.value c.fetch.ensures.cause.failed))
    c.requires.ready.told

pub returns-then-frame_fault-clause-answers : goal.returns-then-frame_fault-clause-answers
returns-then-frame_fault-clause-answers g c =
    let marks = c.args.marks.now in
    let due = c.args.due in
    let none : is_set marks due.page ≡ false = sym c.has.ensures ∙ c.if-has.false in
    let below : due.page < length marks = omega (arith, c.requires.ready.members, c.if-due-chain.false) in
    let newly = newly_set marks c.mark.new.self due.page below none c.mark.ensures.exact in
    map_told2 (g.S.PageSource.content c.args.source.now)
    (λ file reach is. part_unframed file marks c.mark.new.self (g.S.PageSource.faults c.args.source.now)
    (g.S.PageSource.faults c.fetch.new.self) c.args.chain.space due.holder due.left due.page
    (record { below = omega (arith, reach, c.if-due-chain.false); new = none }) newly
    c.fetch.new.page is c.fetch.ensures.cause.later
    c.at-then-frame_fault.result c.if-frame_fault.ensures.broken c.at-then-frame_fault.ensures)
    c.requires.ready.told (where_ok c.fetch.result c.if-is_err.ensures.value c.fetch.ensures.bytes)

pub returns-then-kind-ne-FIL_PAGE_TYPE_BLOB-clause-answers : goal.returns-then-kind-ne-FIL_PAGE_TYPE_BLOB-clause-answers
returns-then-kind-ne-FIL_PAGE_TYPE_BLOB-clause-answers g c =
    let marks = c.args.marks.now in
    let due = c.args.due in
    let none : is_set marks due.page ≡ false = sym c.has.ensures ∙ c.if-has.false in
    let below : due.page < length marks = omega (arith, c.requires.ready.members, c.if-due-chain.false) in
    let newly = newly_set marks c.mark.new.self due.page below none c.mark.ensures.exact in
    map_told2 (g.S.PageSource.content c.args.source.now)
    (λ file reach is. part_kind file marks c.mark.new.self (g.S.PageSource.faults c.args.source.now)
    (g.S.PageSource.faults c.fetch.new.self) c.args.chain.space due.holder due.left due.page
    (record { below = omega (arith, reach, c.if-due-chain.false); new = none }) newly
    c.fetch.new.page is c.fetch.ensures.cause.later
    c.if-frame_fault.ensures.whole c.at-then-kind-ne-FIL_PAGE_TYPE_BLOB.result
    (λ blob. c.if-kind-ne-FIL_PAGE_TYPE_BLOB.true (c.kind.ensures ∙ blob))
    c.at-then-kind-ne-FIL_PAGE_TYPE_BLOB.ensures)
    c.requires.ready.told (where_ok c.fetch.result c.if-is_err.ensures.value c.fetch.ensures.bytes)

pub returns-then-not-is_part-clause-answers : goal.returns-then-not-is_part-clause-answers
returns-then-not-is_part-clause-answers g c =
    let marks = c.args.marks.now in
    let due = c.args.due in
    let none : is_set marks due.page ≡ false = sym c.has.ensures ∙ c.if-has.false in
    let below : due.page < length marks = omega (arith, c.requires.ready.members, c.if-due-chain.false) in
    let newly = newly_set marks c.mark.new.self due.page below none c.mark.ensures.exact in
    map_told2 (g.S.PageSource.content c.args.source.now)
    (λ file reach is. part_short file marks c.mark.new.self (g.S.PageSource.faults c.args.source.now)
    (g.S.PageSource.faults c.fetch.new.self) c.args.chain.space due.holder due.left due.page
    (record { below = omega (arith, reach, c.if-due-chain.false); new = none }) newly
    c.fetch.new.page is c.fetch.ensures.cause.later
    c.if-frame_fault.ensures.whole (sym c.kind.ensures ∙ c.if-kind-ne-FIL_PAGE_TYPE_BLOB.false)
    c.at-then-not-is_part.result (λ part. false≢true (c.if-not-is_part.ensures.1 part)) c.at-then-not-is_part.ensures)
    c.requires.ready.told (where_ok c.fetch.result c.if-is_err.ensures.value c.fetch.ensures.bytes)

pub returns-clause-answers : goal.returns-clause-answers
returns-clause-answers g c =
    let marks = c.args.marks.now in
    let due = c.args.due in
    let none : is_set marks due.page ≡ false = sym c.has.ensures ∙ c.if-has.false in
    let below : due.page < length marks = omega (arith, c.requires.ready.members, c.if-due-chain.false) in
    let newly = newly_set marks c.mark.new.self due.page below none c.mark.ensures.exact in
    map_told2 (g.S.PageSource.content c.args.source.now)
    (λ file reach is. part_holds file marks c.mark.new.self (g.S.PageSource.faults c.args.source.now)
    (g.S.PageSource.faults c.fetch.new.self) c.args.chain.space due.holder due.left due.page
    (record { below = omega (arith, reach, c.if-due-chain.false); new = none }) newly
    c.fetch.new.page is c.fetch.ensures.cause.later
    c.if-frame_fault.ensures.whole (sym c.kind.ensures ∙ c.if-kind-ne-FIL_PAGE_TYPE_BLOB.false)
    (c.if-not-is_part.ensures.0 refl))
    c.requires.ready.told (where_ok c.fetch.result c.if-is_err.ensures.value c.fetch.ensures.bytes)

pub returns-clause-newly : goal.returns-clause-newly
returns-clause-newly g c =
    newly_set c.args.marks.now c.mark.new.self c.args.due.page
    (omega (arith, c.requires.ready.members, c.if-due-chain.false)) (sym c.has.ensures ∙ c.if-has.false)
    c.mark.ensures.exact
