-- The checks of the head and of the descriptors find nothing exactly where these are sound.
use Rattle.std.proofs.Common.{◌≡◌, ℕ, ◌+◌, ◌*◌, ◌/◌, ◌%◌, ◌<◌, List, None, subst, arith}
use Rattle.extent_map.specs.Head.{HeaderChecks, HeadChecks, IsHead}
use Rattle.extent_map.specs.Extents.{extent_count}
use Rattle.extent_map.specs.Descriptors.{ExtentChecks, IsExtent, DescriptorChecks, AllDescriptorChecks}
use Rattle.extent_map.specs.Descriptors.{descriptor_pages, extents_on}
use Rattle.extent_map.specs.Laws.{HasDescriptors}

pub head_sound : (file : List ℕ) (flags : ℕ) → HeadChecks file flags None → IsHead file flags
unfolding HeaderChecks
head_sound file flags h = record {
  pages = h.0;
  framed = h.1.0;
  kind = h.1.1.0;
  space = h.1.1.1.0;
  has_flags =
      h.1.1.1.1.0;
  size = h.1.1.1.1.1.0;
  limit = h.1.1.1.1.1.1;
}

pub head_checks : (file : List ℕ) (flags : ℕ) → IsHead file flags → HeadChecks file flags None
unfolding HeaderChecks
head_checks file flags h = (h.pages, (h.framed, (h.kind, (h.space, (h.has_flags, (h.size, h.limit))))))

extent_sound : (file : List ℕ) (e : ℕ) → ExtentChecks file e None → IsExtent file e
unfolding ExtentChecks
extent_sound file e h = record { state = h.0; fits = h.1.0; within = h.1.1.0; system = h.1.1.1 }

extent_checks : (file : List ℕ) (e : ℕ) → IsExtent file e → ExtentChecks file e None
unfolding ExtentChecks
extent_checks file e h = (h.state, (h.fits, (h.within, h.system)))

extents_sound : (file : List ℕ) → AllDescriptorChecks file None → (e : ℕ) → e < extent_count file → IsExtent file e
unfolding DescriptorChecks
extents_sound file h e l =
    let page : e / 256 < descriptor_pages file = omega arith in
    let place : e % 256 < extents_on file (e / 256) = omega arith in
    let there : 256 * (e / 256) + e % 256 ≡ e = omega arith in
    subst (λ x. IsExtent file x) there (extent_sound file (256 * (e / 256) + e % 256) ((h (e / 256) page).1
    (e % 256) place))

pub descriptors_sound : (file : List ℕ) → AllDescriptorChecks file None → HasDescriptors file
unfolding DescriptorChecks
descriptors_sound file h = record {
  pages = λ k p l. let r = (h k l).0 p in (r.0, r.1);
  extents = extents_sound file h;
}

pub descriptor_checks : (file : List ℕ) → HasDescriptors file → AllDescriptorChecks file None
unfolding DescriptorChecks
descriptor_checks file h = λ k l. (
  λ p. let r = h.pages k p l in (r.0, r.1),
  λ i m. extent_checks file (256 * k + i) (h.extents
      (256 * k + i) (omega arith)),
)
