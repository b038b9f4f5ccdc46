-- The pages that nothing reaches, one after another.
use Rattle.std.proofs.Common.{◌≡◌, nat_eq, get_or, Contains, ℕ, ◌+◌, ◌<◌, Bool, true, false, ◌&&◌, not, List, []}
use Rattle.std.proofs.Common.{◌∷◌, ◌++◌, length, filter, refl, sym, ap, ◌∙◌, arith, length-append}
use Rattle.std.specs.List.{range_with_len}
use Rattle.std.proofs.lemmas.List.Elements.{filter-append}
use Rattle.std.proofs.lemmas.Bool.{true≢false, eqb-true}
use Rattle.page_source.specs.Verdict.{AllBelow}
use Rattle.page_source.proofs.Lists.{range_next}
use Rattle.schema_text.specs.TableDef.{TableDef}
use Rattle.space_audit.specs.declared.owner.Owner.{Owner}
use Rattle.space_audit.specs.declared.owner.Owner.TheVariants as owners
use Rattle.space_audit.specs.Owners.{owner_of}
use Rattle.table_check.specs.First.{is_segment_owner, is_reached, is_unreached, UnreachedCheck, IsLeftOver}
use Rattle.table_check.proofs.RecordSteps.{below_more}

-- an owner that is no segment
pub no_segment : (owner : Owner) → ((segment : ℕ) → ¬ (owner ≡ owners.Used segment)) → is_segment_owner owner ≡ false
no_segment owners.System other = refl
no_segment owners.InodePage other = refl
no_segment (owners.Used segment) other = absurd (other segment refl)
no_segment (owners.Spare segment) other = refl
no_segment owners.FragmentFree other = refl
no_segment owners.FreeExtent other = refl
no_segment owners.Beyond other = refl

and_false : (a : Bool) → (a && false) ≡ false
and_false true = refl
and_false false = refl

filter_more : (p : ℕ → Bool) (n : ℕ)
    → filter p (range_with_len 0 (n + 1)) ≡ filter p (range_with_len 0 n) ++ filter p (n ∷ [])
filter_more p n =
    let e : 0 + n ≡ n = omega arith in
    ap (filter p) (range_next 0 n ∙ ap (λ (x : ℕ). range_with_len 0 n ++ x ∷ []) e)
    ∙ filter-append p (range_with_len 0 n) (n ∷ [])

filter_no : (p : ℕ → Bool) (n : ℕ) → p n ≡ false → filter p (n ∷ []) ≡ []
filter_no p n isnt = rw isnt refl

filter_yes : (p : ℕ → Bool) (n : ℕ) → p n ≡ true → filter p (n ∷ []) ≡ n ∷ []
filter_yes p n yes' = rw yes' refl

module _ (file : List ℕ) (table : TableDef) (n : ℕ) where
  pub not_used : is_segment_owner (owner_of file n) ≡ false → is_unreached file table n ≡ false
  unfolding is_unreached
  not_used isnt = rw isnt refl

  pub reached : is_reached file table n ≡ true → is_unreached file table n ≡ false
  unfolding is_unreached
  reached is = ap (λ (b : Bool). is_segment_owner (owner_of file n) && not b) is ∙ and_false _

  pub unreached : (segment : ℕ) → owner_of file n ≡ owners.Used segment → is_reached file table n ≡ false
      → is_unreached file table n ≡ true
  unfolding is_unreached
  unreached segment used is =
      ap (λ (b : Bool). is_segment_owner (owner_of file n) && not b) is
      ∙ ap (λ (o : Owner). is_segment_owner o && true) used

  -- a page that is no such one
  pub held_no : AllBelow (UnreachedCheck file table) n → is_unreached file table n ≡ false
      → AllBelow (UnreachedCheck file table) (n + 1)
  held_no before isnt = below_more (UnreachedCheck file table) n before (λ is. absurd (true≢false (sym is ∙ isnt)))

  pub held_yes : AllBelow (UnreachedCheck file table) n → IsLeftOver file table n → AllBelow
      (UnreachedCheck file table) (n + 1)
  held_yes before left = below_more (UnreachedCheck file table) n before (λ is. left)

  pub count_no : (count : ℕ) → count ≡ length (filter (is_unreached file table) (range_with_len 0 n))
      → is_unreached file table n ≡ false → count ≡ length (filter (is_unreached file table) (range_with_len 0 (n + 1)))
  count_no count before isnt =
      let p = is_unreached file table in
      let e = ap length (filter_more p n) ∙ length-append (filter p (range_with_len 0 n)) (filter p (n ∷ [])) in
      let z = ap length (filter_no p n isnt) in
      omega (arith, before, e, z)

  pub count_yes : (count : ℕ) → count ≡ length (filter (is_unreached file table) (range_with_len 0 n))
      → is_unreached file table n ≡ true → count + 1 ≡ length (filter (is_unreached file table) (range_with_len 0
      (n + 1)))
  count_yes count before is =
      let p = is_unreached file table in
      let e = ap length (filter_more p n) ∙ length-append (filter p (range_with_len 0 n)) (filter p (n ∷ [])) in
      let z = ap length (filter_yes p n is) in
      omega (arith, before, e, z)

-- a number that was found in a list
pub contains_found : (list : List ℕ) (n : ℕ)
    → ((i : ℕ) × (i < length list) × ((d : ℕ) → nat_eq (get_or list i d) n ≡ true)) → Contains list n
contains_found list n (i, below, is) = (i, below, eqb-true (get_or list i n) n (is n))
