-- The orders of pages and of lines tell all keys apart.
use Rattle.std.proofs.Common.{◌≡◌, ◌≢◌, ◌<◌, ℕ, Bool, true, false, cond, Option, Some, None, Bor, refl, sym, ap, ◌∙◌}
use Rattle.std.specs.declared.cmp.Ordering.{Ordering}
use Rattle.std.specs.Ordering.{nat_cmp, is_eq}
use Rattle.std.specs.Option.{option_cmp, option_copied}
use Rattle.std.specs.Cmp.{IsTotalOrder, nat_cmp_total, on_total, then_total}
use Rattle.std.specs.Cmp.Lexicographic.{options_total}
use Rattle.std.specs.BTreeMap.{BTreeMap, Updates}
use Rattle.std.proofs.lemmas.Map.Lookups.{CmpEqualImpliesEq, exact_unsigned, exact_pairs}
use Rattle.std.proofs.lemmas.Map.Views.{tells_apart}
use Rattle.std.proofs.lemmas.Bool.{lt-ltb}
use Rattle.image_listing.specs.declared.catalogue.Version.{Version}
use Rattle.image_listing.specs.Versions.{Puts, page_cmp, newer}
use Rattle.image_listing.specs.Tallies.{line_cmp}

pub page_total : IsTotalOrder page_cmp
page_total = then_total (on_total (λ (k : ℕ × ℕ). k.0) nat_cmp_total) (on_total (λ (k : ℕ × ℕ). k.1) nat_cmp_total)

pub page_exact : CmpEqualImpliesEq page_cmp
page_exact = exact_pairs nat_cmp nat_cmp exact_unsigned exact_unsigned

option_exact : CmpEqualImpliesEq (option_cmp nat_cmp)
option_exact None None e = refl
option_exact None (Some y) e = absurd (cc)
option_exact (Some x) None e = absurd (cc)
option_exact (Some x) (Some y) e = ap Some (exact_unsigned x y e)

pub line_total : IsTotalOrder line_cmp
line_total = then_total (on_total (λ (k : ℕ × Option ℕ). k.0) nat_cmp_total)
    (on_total (λ (k : ℕ × Option ℕ). k.1) (options_total nat_cmp_total))

pub line_exact : CmpEqualImpliesEq line_cmp
line_exact = exact_pairs nat_cmp (option_cmp nat_cmp) exact_unsigned option_exact

apart : {K : Type 0} {cmp : K → K → Ordering} → CmpEqualImpliesEq cmp → (key q : K) (same : Bool)
    → is_eq (cmp key q) ≡ same → q ≢ key → is_eq (cmp key q) ≡ false
apart exact key q true is other = absurd (other (sym (tells_apart exact key q is)))
apart exact key q false is other = is

-- an insert puts one value
pub puts_from_updates : {K X : Type 0} {cmp : K → K → Ordering} → CmpEqualImpliesEq cmp → (old now : BTreeMap K X)
    (key : K) (value : X) → Updates cmp old now key (Some value) → Puts cmp old now key value
puts_from_updates exact old now key value updates = record {
  here = updates.1;
  others = λ q other. updates.2 q (apart exact key q _ refl other);
}

-- a version that is met counts if none was kept, or an older one
pub counts_first : (found : Option (Bor Version)) (kept : Option Version) (version : Version)
    → option_copied found ≡ kept → found ≡ None → newer kept version ≡ version
counts_first found kept version told none =
    ap (λ (old : Option Version). newer old version) (sym told ∙ ap option_copied none)

pub counts_newer : (found : Option (Bor Version)) (kept : Option Version) (version : Version) (old : Bor Version)
    → option_copied found ≡ kept → found ≡ Some old → old.now.lsn < version.lsn → newer kept version ≡ version
counts_newer found kept version old told is less =
    ap (λ (other : Option Version). newer other version) (sym told ∙ ap option_copied is)
    ∙ ap (λ (test : Bool). cond test version old.now) (lt-ltb old.now.lsn version.lsn less)
