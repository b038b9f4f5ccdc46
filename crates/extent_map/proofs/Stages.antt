-- The checks of the descriptor pages, page by page.
use Rattle.std.proofs.Common.{◌≡◌, ℕ, zero, suc, ◌+◌, ◌*◌, ◌<◌, List, ◌∷◌, ◌++◌, map, Some, None, sym, ◌∙◌, ap, inl}
use Rattle.std.proofs.Common.{inr, arith, below_more}
use Rattle.std.specs.List.{range_with_len}
use Rattle.page_source.specs.declared.rule.Fault.{Fault}
use Rattle.page_source.specs.declared.checks.Stop.{Stop}
use Rattle.page_source.specs.declared.checks.Stop.TheVariants.{Broken, Source, Memory}
use Rattle.page_source.specs.Checks.{Stops}
use Rattle.page_source.specs.Verdict.{AllBelow, Each}
use Rattle.space_header.specs.declared.header.SpaceHeader.{SpaceHeader}
use Rattle.space_header.specs.Header.{size_of, limit_of, header_of}
use Rattle.extent_map.specs.Head.{HasHeader}
use Rattle.extent_map.specs.Descriptors.{descriptor_pages, DescriptorPageChecks, DescriptorChecks, AllDescriptorChecks}
use Rattle.extent_map.specs.Descriptors.{ExtentCheckOn, extents_on}

pub header_size : (file : List ℕ) (header : SpaceHeader) → HasHeader file header → size_of file ≡ header.size
unfolding header_of
header_size file header has = sym (ap (λ (h : SpaceHeader). h.size) has.same)

pub header_limit : (file : List ℕ) (header : SpaceHeader) → HasHeader file header → limit_of file ≡ header.limit
unfolding header_of
header_limit file header has = sym (ap (λ (h : SpaceHeader). h.limit) has.same)

-- a fault of the page itself
pub page_stops : (file : List ℕ) (k : ℕ) (fault : Fault) → k < descriptor_pages file
    → AllBelow (DescriptorChecks file) k → 0 < k
    → DescriptorPageChecks file (16384 * k) (Some fault) → AllDescriptorChecks file (Some fault)
unfolding DescriptorChecks
page_stops file k fault inside below later broken = (k, inside, below, inl (later, broken))

-- a fault of an extent on it
pub extent_stops : (file : List ℕ) (k : ℕ) (fault : Fault) → k < descriptor_pages file
    → AllBelow (DescriptorChecks file) k
    → (0 < k → DescriptorPageChecks file (16384 * k) None) → Each (extents_on file k) (ExtentCheckOn file k)
    (Some fault)
    → AllDescriptorChecks file (Some fault)
unfolding DescriptorChecks
extent_stops file k fault inside below page broken = (k, inside, below, inr (page, broken))

-- a stop there
pub stage_stops : (file : List ℕ) (k : ℕ) (stop : Stop) → k < descriptor_pages file → AllBelow (DescriptorChecks file) k
    → (0 < k → DescriptorPageChecks file (16384 * k) None) → Stops stop (Each (extents_on file k)
    (ExtentCheckOn file k))
    → Stops stop (AllDescriptorChecks file)
stage_stops file k (Broken fault) inside below page broken = extent_stops file k fault inside below page broken
stage_stops file k Source inside below page broken = tt
stage_stops file k Memory inside below page broken = tt

-- one more page
pub page_holds : (file : List ℕ) (k : ℕ) → AllBelow (DescriptorChecks file) k
    → (0 < k → DescriptorPageChecks file (16384 * k) None) → Each (extents_on file k) (ExtentCheckOn file k) None
    → AllBelow (DescriptorChecks file) (k + 1)
unfolding DescriptorChecks
page_holds file k below page extents = below_more (λ j. DescriptorChecks file j None) k below (page, extents)

-- numbers in two parts
pub map_range_split : {X : Type 0} (f : ℕ → X) (a m n : ℕ)
    → map f (range_with_len a (m + n)) ≡ map f (range_with_len a m) ++ map f (range_with_len (a + m) n)
map_range_split f a zero n = ap (λ (k : ℕ). map f (range_with_len a k)) (omega arith)
    ∙ ap (λ (k : ℕ). map f (range_with_len k n)) (omega arith)
map_range_split f a (suc m) n =
    let more : suc m + n ≡ suc (m + n) = omega arith in
    let place : a + 1 + m ≡ a + suc m = omega arith in
    ap (λ (k : ℕ). map f (range_with_len a k)) more
    ∙ ap (λ xs. f a ∷ xs) (map_range_split f (a + 1) m n ∙ ap (λ (k : ℕ). map f (range_with_len (a + 1) m) ++ map f
    (range_with_len k n)) place)
