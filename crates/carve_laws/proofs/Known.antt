-- Two files that agree on the pages that aren't known to be free agree on which these are.
use Rattle.std.proofs.Common.{◌≡◌, ℕ, ◌<◌, ◌≤◌, Bool, true, false, List, inl, inr, refl, sym, ap, ◌∙◌}
use Rattle.std.proofs.Common.{subst, arith}
use Rattle.std.proofs.lemmas.Bool.{cases_lt}
use Rattle.page_source.specs.Pages.{page_of}
use Rattle.fil_frame.specs.Frame.{kind_of}
use Rattle.space_header.specs.Header.{free_limit, limit_of}
use Rattle.extent_map.specs.Extents.{is_used, IsUsed}
use Rattle.extent_map.specs.Laws.{UsedPagesAreOfExtents}
use Rattle.extent_map.proofs.Used.{used_below}
use Rattle.space_audit.specs.Audit.{IsSoundSpace}
use Rattle.leaf_salvage.specs.Standing.{Stands}
use Rattle.leaf_salvage.specs.Unused.{map_page, IsMap, IsMarkedFree, is_clear_on, IsUnused}
use Rattle.salvage_laws.proofs.Used.{all_fetched, framed_stands, unused_known}
use Rattle.carve_laws.proofs.Moves.{IsSame}

-- what one file knows to be free, the other one does
module _ (a b : List ℕ) (head : page_of b 0 ≡ page_of a 0) (zero : IsMap b all_fetched 0) (some : 0 < limit_of b) where
  marked_moves : (n : ℕ) → page_of b (map_page n) ≡ page_of a (map_page n) → IsMarkedFree a all_fetched n
      → IsMarkedFree b all_fetched n
  marked_moves n same marked = record {
    other = marked.other;
    map = record {
      read = refl;
      stands = subst (λ (page : List ℕ). Stands page (map_page n)) (sym same) marked.map.stands;
      kind = ap kind_of same ∙ marked.map.kind;
    };
    free = ap (λ (page : List ℕ). is_clear_on page n) same ∙ marked.free;
  }

  unused_moves : (n : ℕ) → (n < limit_of a → page_of b (map_page n) ≡ page_of a (map_page n))
      → IsUnused a all_fetched n → IsUnused b all_fetched n
  unused_moves n same unused = elim (cases_lt n (limit_of a)) [
    | inl below ↦ by_kind below unused
    | inr past ↦
        inr (record {
          other = λ e. omega (arith, e, past, limit, some);
          map = zero;
          past = omega (arith, past, limit);
        })
  ]
    where
      limit : limit_of b ≡ limit_of a
      limit = ap free_limit head

      by_kind : n < limit_of a → IsUnused a all_fetched n → IsUnused b all_fetched n
      by_kind below (inl marked) = inl (marked_moves n (same below) marked)
      by_kind below (inr past) = absurd (omega (arith, below, past.past))

module _ (law : UsedPagesAreOfExtents) (file : List ℕ) (flags : ℕ) (space : IsSoundSpace file flags) where
  -- a page that isn't known to be free is used
  pub known_used : (n : ℕ) → ¬ (IsUnused file all_fetched n) → IsUsed file n
  known_used n known = by_test (is_used file n) refl
    where
      by_test : (b : Bool) → is_used file n ≡ b → IsUsed file n
      by_test true e = e
      by_test false e = absurd (known (unused_known law file flags space.extents n e))

  -- page 0 isn't, nor is a descriptor page below the free limit
  zero_known : ¬ (IsUnused file all_fetched 0)
  zero_known (inl marked) = marked.other (omega arith)
  zero_known (inr past) = past.other refl

  map_known : (n : ℕ) → n < limit_of file → ¬ (IsUnused file all_fetched (map_page n))
  map_known n below (inl marked) = marked.other (omega arith)
  map_known n below (inr past) = omega (arith, below, past.past)

  zero_map : IsMap file all_fetched 0
  zero_map = record {
    read = refl;
    stands = framed_stands _ 0 _ space.extents.head.framed;
    kind = space.extents.head.kind;
  }

  some_limit : 0 < limit_of file
  some_limit = used_below file 0 (known_used 0 zero_known)

  module _ (other : List ℕ) (same : (n : ℕ) → ¬ (IsUnused file all_fetched n) → IsSame file other n) where
    head_same : page_of other 0 ≡ page_of file 0
    head_same = (same 0 zero_known).bytes

    pub limit_same : limit_of other ≡ limit_of file
    limit_same = ap free_limit head_same

    pub there_zero : IsMap other all_fetched 0
    there_zero = record {
      read = refl;
      stands = subst (λ (page : List ℕ). Stands page 0) (sym head_same) zero_map.stands;
      kind = ap kind_of head_same ∙ zero_map.kind;
    }

    there_limit : 0 < limit_of other
    there_limit = let limit = limit_same in let some = some_limit in omega (arith, limit, some)

    pub unused_there : (n : ℕ) → IsUnused file all_fetched n → IsUnused other all_fetched n
    unused_there n =
        unused_moves file other head_same there_zero there_limit n
        (λ below. (same (map_page n) (map_known n below)).bytes)

    pub known_there : (n : ℕ) → ¬ (IsUnused file all_fetched n) → ¬ (IsUnused other all_fetched n)
    known_there n known unused =
        known (unused_moves other file (sym head_same) zero_map some_limit n
        (λ below.
        let limit = limit_same in
        sym (same (map_page n) (map_known n (omega (arith, below, limit)))).bytes)
        unused)

    -- from the free limit on all pages are known to be free
    pub past_there : (n : ℕ) → limit_of file ≤ n → IsUnused other all_fetched n
    past_there n past =
        let limit = limit_same in
        let some = some_limit in
        inr (record {
          other = λ e. omega (arith, e, past, some);
          map = there_zero;
          past = omega (arith, past, limit);
        })
