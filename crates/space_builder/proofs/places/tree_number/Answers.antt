use Rattle.std.proofs.Common.{◌+◌, ◌*◌, ◌<◌, ℕ, List, length, slice_index, arith}
use Rattle.space_layout.specs.Numbers.{IsShape, size_at, segment_page}
use Rattle.tree_layout.specs.Places.{pages_above, FitsSegments}
use Rattle.tree_layout.specs.PlaceLaws.{FillPlaces}
use Rattle.space_builder.proofs.layout.Sizes.{size_small}
use Rattle.space_builder.proofs.places.tree_number.Goals as goal

small_place : (sizes counts : List ℕ) (j l k : ℕ) → IsShape sizes → FitsSegments counts (size_at sizes) j
    → FillPlaces counts j → l < length counts → k < slice_index counts l → pages_above counts l + k < 4294967296
small_place sizes counts j l k shape fits fill inside within =
    let top = fits.top in
    let leaf = fits.leaf in
    let top_small = size_small sizes (2 * j) shape.fits in
    let leaf_small = size_small sizes (2 * j + 1) shape.fits in
    let fewer = fill.fewer l k inside within in
    omega arith

pub place_for-place-requires-clause-small : goal.place_for-place-requires-clause-small
place_for-place-requires-clause-small c =
    small_place c.args.sizes.now c.args.counts.now c.args.j c.args.l c.args.k c.requires.shape c.requires.fits
    (c.pages_fill_places.ensures c.args.counts.now (size_at c.args.sizes.now) c.args.j c.requires.fits)
    c.requires.level c.requires.place

pub segment_page-requires-clause-inside : goal.segment_page-requires-clause-inside
segment_page-requires-clause-inside c =
    let sizes = c.args.sizes.now in
    let stand = c.numbers_are_different.ensures (segment_page sizes) (size_at sizes) c.args.counts.now c.args.j
    (c.numbers_differ.ensures sizes c.requires.shape).one c.requires.fits in
    rw (c.place_for-place.ensures, c.segment_for-segment.ensures)
    (stand.within c.args.l c.args.k c.requires.level c.requires.place)
