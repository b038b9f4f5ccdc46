use Rattle.std.proofs.Common.{◌≡◌, ℕ, ◌+◌, ◌<◌, ◌++◌, List, [], ◌∷◌, length, Ok, Err, ap, ◌∙◌, refl, sym, subst, arith}
use Rattle.std.proofs.lemmas.Result.{err_from_is_err_and}
use Rattle.space_layout.specs.Numbers.{segment_page}
use Rattle.row_layout.specs.HoldsValues.{stored_in}
use Rattle.space_builder.specs.layout.ValuePage.{pages_of_bytes}
use Rattle.space_builder.specs.build.Puts.{PutsPages}
use Rattle.space_builder.specs.calls.Room.{HasLeafPages, first_page}
use Rattle.offpage_chain.specs.ValuePage.{pages_for}
use Rattle.space_builder.proofs.ValueSteps.{FieldsPut, fields_none, fields_more, fields_all, fields_place, field_has}
use Rattle.space_builder.proofs.ValueSteps.{field_takes, field_failed}
use Rattle.space_builder.proofs.values.put_row.Goals as goal

pub loop-i-init : goal.loop-i-init
loop-i-init g c =
    record {
      fields =
          fields_none g.T.PageStore c.args.format c.args.sizes.now c.args.at (stored_in c.args.stored.now c.args.r)
          c.args.store.now c.args.room.now.first_pages.items;
      starts = refl;
    }

pub put_value-requires-clause-takes : goal.put_value-requires-clause-takes
put_value-requires-clause-takes g c =
    field_takes g.T.PageStore c.args.format c.args.sizes.now c.args.at (stored_in c.args.stored.now c.args.r)
    c.args.store.now c.loop-i.store c.loop-i.i c.loop-i.next c.args.room.now.first_pages.items
    c.loop-i.room.first_pages.items c.requires.takes c.loop-i.invariant.fields

pub put_value-requires-clause-has : goal.put_value-requires-clause-has
put_value-requires-clause-has g c =
    let inside : c.loop-i.i < length (stored_in c.args.stored.now c.args.r) = omega (
      arith,
      c.width-i-end.ensures,
      c.loop-i-test.true,
    ) in
    subst (λ (bytes : List ℕ). HasLeafPages c.args.sizes.now (c.loop-i.next + pages_for (length bytes)))
    (sym c.gone_bytes-bytes.ensures)
    (field_has g.T.PageStore c.args.format c.args.sizes.now c.args.at (stored_in c.args.stored.now c.args.r)
    (g.T.PageStore.told c.args.store.now) c.requires.takes c.args.store.now c.loop-i.store c.loop-i.i c.loop-i.next
    c.args.room.now.first_pages.items c.loop-i.room.first_pages.items inside c.loop-i.invariant.fields)

pub returns-in_err-next-clause-puts : goal.returns-in_err-next-clause-puts
returns-in_err-next-clause-puts g c =
    let inside : c.loop-i.i < length (stored_in c.args.stored.now c.args.r) = omega (
      arith,
      c.width-i-end.ensures,
      c.loop-i-test.true,
    ) in
    let r = err_from_is_err_and c.from_residual.result c.from_residual.ensures.1 in
    rw (r.1, r.2)
    (field_failed g.T.PageStore c.args.format c.args.sizes.now c.args.at (stored_in c.args.stored.now c.args.r)
    c.args.store.now c.loop-i.store c.put_value.new.store c.loop-i.i c.loop-i.next c.args.room.now.first_pages.items
    c.loop-i.room.first_pages.items c.in_err-next.field-0.0 inside c.loop-i.invariant.fields
    (subst (λ (bytes : List ℕ). PutsPages {A = ℕ} g.T.PageStore c.loop-i.store c.put_value.new.store
    (pages_of_bytes (λ k. segment_page c.args.sizes.now 1 (c.loop-i.next + k)) bytes) (Err c.in_err-next.field-0.0))
    c.gone_bytes-bytes.ensures c.in_err-next.ensures.puts))

pub loop-i-preserved : goal.loop-i-preserved
loop-i-preserved g c =
    let inside : c.loop-i.i < length (stored_in c.args.stored.now c.args.r) = omega (
      arith,
      c.width-i-end.ensures,
      c.loop-i-test.true,
    ) in
    record {
      fields =
          fields_more g.T.PageStore c.args.format c.args.sizes.now c.args.at (stored_in c.args.stored.now c.args.r)
          c.args.store.now c.loop-i.store c.put_value.new.store c.loop-i.i c.loop-i.next c.in_ok-next.next
          c.args.room.now.first_pages.items c.loop-i.room.first_pages.items c.put_value.new.room.first_pages.items
          c.requires.takes.one inside c.loop-i.invariant.fields
          (subst (λ (bytes : List ℕ). PutsPages {A = ℕ} g.T.PageStore c.loop-i.store c.put_value.new.store
          (pages_of_bytes (λ k. segment_page c.args.sizes.now 1 (c.loop-i.next + k)) bytes) (Ok c.in_ok-next.next))
          c.gone_bytes-bytes.ensures c.in_ok-next.ensures.puts)
          (c.in_ok-next.ensures.next
          ∙ ap (λ (bytes : List ℕ). c.loop-i.next + pages_for (length bytes)) c.gone_bytes-bytes.ensures)
          (c.in_ok-next.ensures.first
          ∙ ap (λ (bytes : List ℕ). c.loop-i.room.first_pages.items
          ++ first_page (λ k. segment_page c.args.sizes.now 1 (c.loop-i.next + k)) (pages_for (length bytes)) ∷ [])
          c.gone_bytes-bytes.ensures);
      starts = c.put_value.ensures.starts ∙ c.loop-i.invariant.starts;
    }

pub returns-clause-next : goal.returns-clause-next
returns-clause-next g c =
    let all : c.loop-i.i ≡ length (stored_in c.args.stored.now c.args.r) = omega (
      arith,
      c.width-i-end.ensures,
      c.loop-i-test.false,
      c.loop-i.auto.i-end,
    ) in
    fields_place g.T.PageStore c.args.format c.args.sizes.now c.args.at (stored_in c.args.stored.now c.args.r)
    c.args.store.now c.loop-i.store c.loop-i.next c.args.room.now.first_pages.items c.loop-i.room.first_pages.items
    (subst (λ (i : ℕ). FieldsPut g.T.PageStore c.args.format c.args.sizes.now c.args.at
    (stored_in c.args.stored.now c.args.r) c.args.store.now c.loop-i.store i c.loop-i.next
    c.args.room.now.first_pages.items c.loop-i.room.first_pages.items) all c.loop-i.invariant.fields)

pub returns-clause-puts : goal.returns-clause-puts
returns-clause-puts g c =
    let all : c.loop-i.i ≡ length (stored_in c.args.stored.now c.args.r) = omega (
      arith,
      c.width-i-end.ensures,
      c.loop-i-test.false,
      c.loop-i.auto.i-end,
    ) in
    fields_all g.T.PageStore c.args.format c.args.sizes.now c.args.at (stored_in c.args.stored.now c.args.r)
    c.args.store.now c.loop-i.store c.loop-i.next c.args.room.now.first_pages.items c.loop-i.room.first_pages.items
    c.loop-i.next
    (subst (λ (i : ℕ). FieldsPut g.T.PageStore c.args.format c.args.sizes.now c.args.at
    (stored_in c.args.stored.now c.args.r) c.args.store.now c.loop-i.store i c.loop-i.next
    c.args.room.now.first_pages.items c.loop-i.room.first_pages.items) all c.loop-i.invariant.fields)

pub returns-clause-first : goal.returns-clause-first
returns-clause-first g c =
    let all : c.loop-i.i ≡ length (stored_in c.args.stored.now c.args.r) = omega (
      arith,
      c.width-i-end.ensures,
      c.loop-i-test.false,
      c.loop-i.auto.i-end,
    ) in
    (subst (λ (i : ℕ). FieldsPut g.T.PageStore c.args.format c.args.sizes.now c.args.at
    (stored_in c.args.stored.now c.args.r) c.args.store.now c.loop-i.store i c.loop-i.next
    c.args.room.now.first_pages.items c.loop-i.room.first_pages.items) all c.loop-i.invariant.fields).first

pub returns-in_err-next-clause-starts : goal.returns-in_err-next-clause-starts
returns-in_err-next-clause-starts g c = c.put_value.ensures.starts ∙ c.loop-i.invariant.starts

pub returns-clause-starts : goal.returns-clause-starts
returns-clause-starts g c = c.loop-i.invariant.starts
