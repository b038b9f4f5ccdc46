-- Bytes that are a page, and bytes that are none.
use Rattle.std.proofs.Common.{◌≡◌, ◌+◌, ℕ, List, [], ◌++◌, length, drop, sym, ap, ◌∙◌}
use Rattle.std.proofs.Common.{subst, arith, refl}
use Rattle.std.proofs.lemmas.List.{drop_all, append-nil}
use Rattle.page_source.specs.Pages.{num, with_bytes}
use Rattle.fil_frame.specs.Frame.{space_of}
use Rattle.leaf_salvage.specs.Standing.{Stands}
use Rattle.page_scan.specs.Found.{IsPageOf}
use Rattle.page_scan.specs.Window.{LooksLikePage, IsNoPage}

-- all bytes of a page are replaced
pub with_all : (page bytes : List ℕ) → length page ≡ 16384 → length bytes ≡ 16384 → with_bytes page 0 bytes ≡ bytes
unfolding with_bytes
with_all page bytes whole size =
    let end : drop (0 + length bytes) page ≡ [] = drop_all (0 + length bytes) page (omega arith) in
    ap (λ (rest : List ℕ). bytes ++ rest) end ∙ append-nil bytes

pub no_page_by_frame : (bytes : List ℕ) → ¬ (Stands bytes (num bytes 4 4)) → IsNoPage bytes
no_page_by_frame bytes not =
    λ space n is. not (subst (λ (k : ℕ). Stands bytes k) (sym is.stands.has_number) is.stands)

pub page_by_frame : (bytes : List ℕ) → LooksLikePage bytes → Stands bytes (num bytes 4 4)
    → IsPageOf bytes (space_of bytes) (num bytes 4 4)
page_by_frame bytes looks stands = record {
  stands = stands;
  below = looks.below;
  has_space = refl;
  some_space = looks.some_space;
  has_kind = looks.has_kind;
}

pub stands_as : (page same : List ℕ) (n k : ℕ) → page ≡ same → n ≡ k → Stands page n → Stands same k
stands_as page same n k bytes number stands =
    subst (λ (m : ℕ). Stands same m) number (subst (λ (p : List ℕ). Stands p n) bytes stands)

pub page_as : (page same : List ℕ) (space n : ℕ) → page ≡ same → space_of page ≡ space → num page 4 4 ≡ n
    → IsPageOf page (space_of page) (num page 4 4) → IsPageOf same space n
page_as page same space n bytes has number is =
    subst (λ (p : List ℕ). IsPageOf p space n) bytes
    (subst (λ (m : ℕ). IsPageOf page space m) number
    (subst (λ (s : ℕ). IsPageOf page s (num page 4 4)) has is))
