-- No check is broken exactly in an index page.
use Rattle.std.proofs.Common.{◌≡◌, ◌↔◌, ℕ, suc, Bool, List, [], ◌∷◌, ◌++◌, length, All, Option, Some, None, IsNone}
use Rattle.std.proofs.Common.{refl, sym, ap, ◌∙◌, arith}
use Rattle.std.proofs.lemmas.Bool.{false≢true}
use Rattle.page_source.specs.declared.rule.Rule.{Rule}
use Rattle.page_source.proofs.Unique.{IsUnique, some_is_not_none, Check-unique, Then-unique}
use Rattle.column_values.specs.Types.{Fields}
use Rattle.compact_record.specs.Header.{next_origin}
use Rattle.index_page.specs.Header.{first_free, free_count, records_from, records_of, free_of, heap_of}
use Rattle.index_page.specs.Page.{IsChain, LeadsToEnd, IsFreeList, IsIndexPage, HasHeapNumbers, IsDirectory, HasKind}
use Rattle.index_page.specs.Page.{AreSpelled, LieApart, MayBeEmpty, KeysRise, is_lowest_first}
use Rattle.index_page.specs.Marks.{none_seen, IsNew, with_number}
use Rattle.index_page.proofs.Turns.{PassInTurn-append}
use Rattle.index_page.proofs.HeapNumbers.{numbers_of_turns}
use Rattle.index_page.specs.PageChecks.{PageChecks, HasFreeList}
use Rattle.index_page.specs.Laws.{HasOneChain, HasOneFreeList, ChecksAreIndexPage}
use Rattle.index_page.proofs.ChainWalk.{chain_is}

-- records that lead to an end are those of the walk
free_from : (page free : List ℕ) (first : ℕ) → LeadsToEnd page first free
    → free ≡ records_from page first (length free)
unfolding records_from
free_from page [] first leads = refl
free_from page (o ∷ []) first leads = ap (λ (x : ℕ). x ∷ []) (sym leads.0)
free_from page (o ∷ p ∷ rest) first leads =
    let behind = free_from page (p ∷ rest) (next_origin page o) leads.1 in
    ap (λ (xs : List ℕ). o ∷ xs) behind ∙ ap (λ (x : ℕ).
    x ∷ records_from page (next_origin page x) (suc (length rest))) (sym leads.0)

pub one_chain : HasOneChain
one_chain page chain is = chain_is page chain is

pub one_free_list : HasOneFreeList
one_free_list page chain free is free-is =
    let n : length free ≡ free_count page = omega (arith, is.counted, free-is.all) in
    free_from page free (first_free page) free-is.leads ∙ ap (λ (k : ℕ). records_from page (first_free page) k) n

page_of_checks : (page : List ℕ) (fields : Fields) (leaf root leftmost : Bool)
    → PageChecks page fields leaf root leftmost None
    → IsIndexPage page fields leaf root leftmost (records_of page)
unfolding PageChecks
page_of_checks page fields leaf root leftmost c =
    let numbers = c.1.1.1.1.0 in
    let c5 = c.1.1.1.1.1 in
    let c9 = c5.1.1.1 in
    record {
      header = c.0;
      ends = c.1.0;
      is_chain = c.1.1.0;
      free = free_of page;
      is_free = numbers.list;
      heap_numbers = numbers.numbers;
      directory = c5.0;
      kinds = c5.1.0;
      spelled = c5.1.1.0;
      room = c9.0;
      some_record = c9.1.0;
      rise = c9.1.1;
    }

-- the first of two lists has its own heap numbers where both together do
front_numbers : (page xs ys : List ℕ) → HasHeapNumbers page (xs ++ ys) → HasHeapNumbers page xs
front_numbers page xs ys has =
    (numbers_of_turns page xs).0 ((PassInTurn-append (IsNew page) (with_number page) none_seen xs ys).0
    ((numbers_of_turns page (xs ++ ys)).1 has)).0

checks_of_page : (page : List ℕ) (fields : Fields) (leaf root leftmost : Bool) (chain : List ℕ)
    → IsIndexPage page fields leaf root leftmost chain
    → PageChecks page fields leaf root leftmost None
unfolding PageChecks
checks_of_page page fields leaf root leftmost chain is =
    let same = one_chain page chain is.is_chain in
    let frees = one_free_list page chain is.free is.is_chain is.is_free in
    let list : IsFreeList page (records_of page) (free_of page) = rw (same, frees) at is.is_free in
    let numbers : HasHeapNumbers page (heap_of page) = rw (same, frees) at is.heap_numbers in
    let spelled : AreSpelled page fields (heap_of page) = rw (same, frees) at is.spelled in
    let room : LieApart page fields (heap_of page) = rw (same, frees) at is.room in
    let free : HasFreeList page = record { list = list; numbers = numbers } in
    let chain' : IsChain page (records_of page) = rw same at is.is_chain in
    let directory : IsDirectory page (records_of page) = rw same at is.directory in
    let kinds : All (HasKind page leaf) (records_of page) = rw same at is.kinds in
    let some : MayBeEmpty leaf root (records_of page) = rw same at is.some_record in
    let rise : KeysRise page fields (is_lowest_first leaf leftmost) (records_of page) = rw same at is.rise in (
      is.header,
      (
        is.ends,
        (
          chain',
          (
            front_numbers page (records_of page) (free_of page) numbers,
            (free, (directory, (kinds, (spelled, (room, (some, rise)))))),
          ),
        ),
      ),
    )

-- checks have one answer
pub checks_unique : (page : List ℕ) (fields : Fields) (leaf root leftmost : Bool)
    → IsUnique (PageChecks page fields leaf root leftmost)
unfolding PageChecks
checks_unique page fields leaf root leftmost =
    Then-unique _ _ (Check-unique _ _) (Then-unique _ _ (Check-unique _ _)
    (Then-unique _ _ (Check-unique _ _) (Then-unique _ _ (Check-unique _ _) (Then-unique _ _ (Check-unique _ _)
    (Then-unique _ _ (Check-unique _ _) (Then-unique _ _ (Check-unique _ _)
    (Then-unique _ _ (Check-unique _ _) (Then-unique _ _ (Check-unique _ _)
    (Then-unique _ _ (Check-unique _ _) (Check-unique _ _))))))))))

-- so an answer is none exactly in an index page
pub none_is_sound : (page : List ℕ) (fields : Fields) (leaf root leftmost : Bool) (answer : Option Rule)
    → PageChecks page fields leaf root leftmost answer
    → IsNone answer ↔ IsIndexPage page fields leaf root leftmost (records_of page)
none_is_sound page fields leaf root leftmost None checks =
    (λ _. page_of_checks page fields leaf root leftmost checks, λ _. refl)
none_is_sound page fields leaf root leftmost (Some rule) checks = (
  λ none. absurd (false≢true (sym none)),
  λ is. some_is_not_none rule (checks_unique page fields leaf root leftmost (Some rule) None checks
      (checks_of_page page fields leaf root leftmost (records_of page) is)),
)

pub checks_law : ChecksAreIndexPage
checks_law page fields leaf root leftmost = (
  λ checks. (records_of page, page_of_checks page fields leaf root leftmost checks),
  λ is. checks_of_page page fields leaf root leftmost is.0 is.1,
)
