use Rattle.std.proofs.Common.{◌≡◌, ◌+◌, ◌*◌, ◌<◌, length, ap, refl, sym, ◌∙◌, arith}
use Rattle.page_source.specs.Pages.{with_bytes}
use Rattle.extent_map.specs.declared.extent.Extent.{Extent}
use Rattle.extent_map.specs.Writing.{extent_bytes}
use Rattle.space_layout.specs.Numbers.{size_at, extents_of, fragment_extents}
use Rattle.space_layout.specs.calls.Written.{with_descriptors}
use Rattle.space_layout.proofs.PageNumbers.{extents_none, own_below, extents_follow}
use Rattle.space_layout.proofs.HeadWrites.{no_descriptors, one_fragment, one_own}
use Rattle.space_layout.proofs.heads.put_descriptors.Goals as goal

pub loop-e-init : goal.loop-e-init
loop-e-init c = sym (no_descriptors c.args.page.now c.args.sizes.now)

pub loop-e-preserved : goal.loop-e-preserved
loop-e-preserved c =
    let size : length c.args.page.now ≡ 16384 = ap length (sym c.bytes.ensures.same) ∙ c.bytes.ensures.size in
    let below : c.loop-e.e < fragment_extents c.args.sizes.now =
    let l = c.loop-e-test.true in let f = c.fragment_extents-e-end.ensures.exact in omega arith in
    c.write_extent.ensures.exact
    ∙ ap (λ (x : Extent). with_bytes c.loop-e.page (150 + 40 * c.loop-e.e) (extent_bytes x))
    c.fragment_descriptor-extent.ensures
    ∙ one_fragment c.args.page.now c.args.sizes.now c.loop-e.page c.loop-e.e
    (150 + 40 * c.loop-e.e) c.requires size below
    refl c.loop-e.invariant

pub loop-s-init : goal.loop-s-init
loop-s-init c =
    let none = extents_none c.args.sizes.now in
    let f = c.fragment_extents-e-end.ensures.exact in
    let l = c.loop-e-test.false in
    let m = c.loop-e.auto.e-end in
    c.loop-e.invariant ∙ ap (with_descriptors c.args.page.now c.args.sizes.now) (omega arith)

inside : (c : goal.After-extent-in-loop-k-1) → c.loop-k.k < extents_of (size_at c.args.sizes.now c.loop-s.s)
inside c = let l = c.loop-k-test.true in let e = c.extents_of-k-end.ensures in omega arith

small : (c : goal.After-extent-in-loop-k-1) → c.extent_start-start.result + c.loop-k.k < 256
small c =
    let start = c.extent_start-start.ensures in
    let below = own_below c.args.sizes.now c.loop-s.s c.loop-k.k c.loop-s-test.true (inside c) in
    let fits = c.requires.fits in
    omega arith

pub overflow_add-start : goal.overflow_add-start
overflow_add-start c =
    let start = c.extent_start-start.ensures in
    let l = c.loop-k-test.true in
    let e = c.extents_of-k-end.ensures in
    let below = own_below c.args.sizes.now c.loop-s.s c.loop-k.k c.loop-s-test.true (omega arith) in
    let fits = c.requires.fits in
    omega arith

pub write_extent-requires-in-loop-k : goal.write_extent-requires-in-loop-k
write_extent-requires-in-loop-k c = omega (arith, small c)

pub loop-k-preserved : goal.loop-k-preserved
loop-k-preserved c =
    let size : length c.args.page.now ≡ 16384 = ap length (sym c.bytes.ensures.same) ∙ c.bytes.ensures.size in
    let start = c.extent_start-start.ensures in
    let l = c.loop-k-test.true in
    let e = c.extents_of-k-end.ensures in
    let at = 150 + 40 * (c.extent_start-start.result + c.loop-k.k) in
    c.write_extent-in-loop-k.ensures.exact
    ∙ ap (λ (x : Extent). with_bytes c.loop-k.page at (extent_bytes x)) c.own_descriptor-extent.ensures
    ∙ one_own c.args.page.now c.args.sizes.now c.loop-k.page c.loop-s.s c.loop-k.k at c.requires size c.loop-s-test.true
    (omega arith) (omega arith) c.loop-k.invariant

pub loop-s-preserved : goal.loop-s-preserved
loop-s-preserved c =
    let next = (extents_follow c.args.sizes.now).next c.loop-s.s c.loop-s-test.true in
    let l = c.loop-k-test.false in
    let m = c.loop-k.auto.k-end in
    let e = c.extents_of-k-end.ensures in
    c.loop-k.invariant ∙ ap (with_descriptors c.args.page.now c.args.sizes.now) (omega arith)
