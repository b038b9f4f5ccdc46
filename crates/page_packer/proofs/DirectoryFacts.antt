-- The directory of a packed page cuts its records into groups.
use Rattle.std.proofs.Common.{◌≡◌, ℕ, zero, suc, ◌+◌, ◌-◌, ◌*◌, ◌<◌, ◌≤◌, ◌==◌, true, false, List, [], ◌∷◌}
use Rattle.std.proofs.Common.{◌++◌, length, get_or, take, map, reverse, flat_map, slice_index, if◌then◌else◌, Option}
use Rattle.std.proofs.Common.{refl, sym, ap}
use Rattle.std.proofs.Common.{◌∙◌, subst, arith, eq-eqb, All}
use Rattle.std.specs.List.{range_with_len}
use Rattle.std.proofs.lemmas.Bool.{cond_both, ne_eqb}
use Rattle.std.proofs.lemmas.List.{length-take-le, length-reverse, get_or-reverse}
use Rattle.std.proofs.lemmas.List.Concat.{get_or-flat_map}
use Rattle.std.proofs.lemmas.List.Elements.{All-from_recursion}
use Rattle.std.proofs.lemmas.List.FromFn.{length-map-range_with_len, get_or-map-range_with_len, map-range_with_len_more}
use Rattle.page_source.specs.Pages.{num, be_bytes}
use Rattle.page_source.proofs.Written.{num_from_bytes}
use Rattle.compact_record.specs.Header.{owned_by}
use Rattle.index_page.specs.Header.{infimum, supremum, slot_count, slot_at}
use Rattle.index_page.specs.Page.{Cuts, IsDirectory}
use Rattle.page_packer.specs.declared.packer.Heads.{Heads}
use Rattle.page_packer.specs.Packing.{Pushed, Packing, slots_for, origin_at, owned_at, owned_by_supremum}
use Rattle.page_packer.specs.Packing.{slot_origin, directory_bytes, packed_chain}
use Rattle.page_packer.proofs.Sizes.{pairs_length, slots_least, slots_middle}
use Rattle.page_packer.proofs.Sizes.{supremum_most, origin_behind}
use Rattle.page_packer.proofs.PagePieces.{HasPieces}
use Rattle.page_packer.proofs.RecordFacts.{AreLaid, origin_facts, origin_fits, owned_none, owned_past, owned_four}

two_read : (x : ℕ) → x < 65536 → num (be_bytes 2 x) 0 2 ≡ x
unfolding num
two_read x fits = omega arith

-- number j of many, each in two bytes
pair_num : (xs : List ℕ) (j : ℕ) → j < length xs → get_or xs j 0 < 65536
    → num (flat_map (be_bytes 2) xs) (2 * j) 2 ≡ get_or xs j 0
pair_num xs j below fits =
    let front : length (flat_map (be_bytes 2) (take j xs)) ≡ 2 * j =
    omega (arith, pairs_length (take j xs), length-take-le j xs (omega arith)) in
    num_from_bytes (flat_map (be_bytes 2) xs) (be_bytes 2 (get_or xs j 0)) (2 * j) 0 2
    (λ b inside.
    let zero' : 0 + b ≡ b = omega arith in
    ap (λ (n : ℕ). get_or (flat_map (be_bytes 2) xs) (n + b) 0) (sym front)
    ∙ get_or-flat_map (be_bytes 2) xs j b 0 0 below inside
    ∙ ap (λ (n : ℕ). get_or (be_bytes 2 (get_or xs j 0)) n 0) (sym zero'))
    ∙ two_read (get_or xs j 0) fits

slot_fits : (records : List Pushed) (i : ℕ) → AreLaid records → slot_origin records i ≤ 16376
unfolding slot_origin
slot_fits records i laid =
    cond_both (i == 0) infimum
    (if i + 1 == slots_for (length records) then supremum else origin_at records (4 * i - 1)) (λ (m : ℕ). m ≤ 16376)
    (λ is. omega arith)
    (λ is.
    cond_both (i + 1 == slots_for (length records)) supremum (origin_at records (4 * i - 1)) (λ (m : ℕ). m ≤ 16376)
    (λ last. omega arith) (λ other. origin_fits records (4 * i - 1) laid))

pub slot_first : (records : List Pushed) → slot_origin records 0 ≡ infimum
unfolding slot_origin
slot_first records = refl

pub slot_last : (records : List Pushed) (i : ℕ) → 0 < i → i + 1 ≡ slots_for (length records)
    → slot_origin records i ≡ supremum
unfolding slot_origin
slot_last records i some last =
    let a : (i == 0) ≡ false = ne_eqb i 0 (λ e. omega (arith, e)) in
    let b : (i + 1 == slots_for (length records)) ≡ true = eq-eqb (i + 1) (slots_for (length records)) last in
    rw (a, b) refl

pub slot_middle : (records : List Pushed) (i : ℕ) → 0 < i → i + 1 < slots_for (length records)
    → slot_origin records i ≡ origin_at records (4 * i - 1)
unfolding slot_origin
slot_middle records i some more =
    let a : (i == 0) ≡ false = ne_eqb i 0 (λ e. omega (arith, e)) in
    let b : (i + 1 == slots_for (length records)) ≡ false =
    ne_eqb (i + 1) (slots_for (length records)) (λ e. omega (arith, e)) in
    rw (a, b) refl

-- directory slot i
slot_in : (records : List Pushed) (i : ℕ) → AreLaid records → i < slots_for (length records)
    → num (directory_bytes records) (2 * (slots_for (length records) - 1 - i)) 2 ≡ slot_origin records i
unfolding directory_bytes
slot_in records i laid below =
    let s : ℕ = slots_for (length records) in
    let slots : List ℕ = map (slot_origin records) (range_with_len 0 s) in
    let size : length slots ≡ s = length-map-range_with_len (slot_origin records) 0 s in
    let j : ℕ = s - 1 - i in
    let here : length slots - 1 - j ≡ i = omega arith in
    let is : get_or (reverse slots) j 0 ≡ slot_origin records i =
    get_or-reverse slots j 0 (omega arith) ∙ ap (λ (n : ℕ). get_or slots n 0) here
    ∙ get_or-map-range_with_len (slot_origin records) 0 s i i 0 below (omega arith) in
    let small = slot_fits records i laid in
    pair_num (reverse slots) j (omega (arith, length-reverse slots)) (omega arith) ∙ is

pub slot_is : (page : List ℕ) (packing : Packing) (index_id : ℕ) (heads : Option Heads) (i : ℕ)
    → HasPieces page packing index_id heads → AreLaid packing.records → i < slots_for (length packing.records)
    → slot_at page i ≡ slot_origin packing.records i
slot_is page packing index_id heads i has laid below =
    let s : ℕ = slots_for (length packing.records) in
    let fits = has.fits in
    let j : ℕ = s - 1 - i in
    num_from_bytes page (directory_bytes packing.records) (16374 - 2 * i) (2 * j) 2
    (λ b inside.
    let place : 16374 - 2 * i + b ≡ 16376 - 2 * s + (2 * j + b) = omega arith in
    ap (λ (n : ℕ). slice_index page n) place ∙ has.directory (2 * j + b) (omega arith))
    ∙ slot_in packing.records i laid below

-- what the groups stand on: the slots name these origins, and the records own so many
pub record OwnsGroups (page : List ℕ) (records : List Pushed) : Type 0 where
  pub laid : AreLaid records
  pub slots : slot_count page ≡ slots_for (length records)
  pub named : (i : ℕ) → i < slots_for (length records) → slot_at page i ≡ slot_origin records i
  pub owns : (k : ℕ) → k < length records → owned_by page (origin_at records k) ≡ owned_at (length records) k
  pub first : owned_by page infimum ≡ 1
  pub last : owned_by page supremum ≡ owned_by_supremum (length records)

-- the list from record k on, with the supremum
abbrev from_record : List Pushed → ℕ → List ℕ
from_record records k = map (origin_at records) (range_with_len k (length records + 1 - k))

four_first : (g : ℕ → ℕ) (a r : ℕ) → map g (range_with_len a (suc (suc (suc (suc r)))))
    ≡ g a ∷ g (a + 1) ∷ g (a + 2) ∷ g (a + 3) ∷ map g (range_with_len (a + 4) r)
four_first g a r =
    let e2 : a + 1 + 1 ≡ a + 2 = omega arith in
    let e3 : a + 2 + 1 ≡ a + 3 = omega arith in
    let e4 : a + 3 + 1 ≡ a + 4 = omega arith in
    rw (e2, e3, e4) refl

-- the supremum owns the records behind the last other slot, and itself
own_size : (n k l : ℕ) → l ≡ n - k → k ≡ 4 * (slots_for n - 2) → owned_by_supremum n ≡ l + 1
unfolding owned_by_supremum
own_size n k l size is = omega (arith, slots_middle n)

-- the group of the supremum
last_group : (page : List ℕ) (records : List Pushed) (j : ℕ) → OwnsGroups page records
    → j + 2 ≡ slots_for (length records)
    → Cuts page (j + 1) (suc zero) (from_record records (4 * j))
last_group page records j has last =
    let n : ℕ = length records in
    let g : ℕ → ℕ = origin_at records in
    let k : ℕ = 4 * j in
    let middle : k ≤ n = omega (arith, slots_middle n) in
    let front : List ℕ = map g (range_with_len k (n - k)) in
    let size : length front ≡ n - k = length-map-range_with_len g k (n - k) in
    let slot : slot_at page (j + 1) ≡ supremum =
    has.named (j + 1) (omega arith) ∙ slot_last records (j + 1) (omega arith) (omega arith) in
    let count : n + 1 - k ≡ n - k + 1 = omega arith in
    let whole : from_record records k ≡ front ++ slot_at page (j + 1) ∷ [] =
    ap (λ (m : ℕ). map g (range_with_len k m)) count ∙ map-range_with_len_more g k (n - k) n (omega arith)
    ∙ ap (λ (o : ℕ). front ++ o ∷ []) (origin_behind records n (omega arith) ∙ sym slot) in
    let owned : owned_by page (slot_at page (j + 1)) ≡ length front + 1 =
    ap (λ (o : ℕ). owned_by page o) slot ∙ has.last ∙ own_size n k (length front) size (omega arith) in
    let unowned : All (λ origin. owned_by page origin ≡ 0) front =
    λ i d inside.
    let below : i < n - k = omega (arith, size) in
    let place : get_or front i d ≡ g (k + i) = get_or-map-range_with_len g k (n - k) i (k + i) d below refl in
    ap (λ (o : ℕ). owned_by page o) place ∙ has.owns (k + i) (omega arith) ∙ owned_past n (k + i) (omega arith) in
    let most = supremum_most n in
    let few : length front + 1 ≤ 7 = omega (arith, own_size n k (length front) size (omega arith)) in (
      front,
      [],
      whole,
      record {
        unowned = unowned;
        owned = owned;
        size = record {
          first = λ e. absurd (omega (arith, e, slot));
          last = λ e. (omega arith, omega arith);
          other = λ not_first not_last. absurd (not_last slot);
        };
      },
      refl,
    )

-- the groups from slot j + 1 on
cuts_from : (page : List ℕ) (records : List Pushed) (j m : ℕ) → OwnsGroups page records
    → j + 1 + m ≡ slots_for (length records) → 0 < m
    → Cuts page (j + 1) m (from_record records (4 * j))
cuts_from page records j zero has all some = absurd (omega arith)
cuts_from page records j (suc zero) has all some = last_group page records j has (omega arith)
cuts_from page records j (suc (suc m)) has all some =
    let n : ℕ = length records in
    let g : ℕ → ℕ = origin_at records in
    let a : ℕ = 4 * j in
    let middle : 4 * (slots_for n - 2) ≤ n = slots_middle n in
    let inside : a + 4 ≤ n = omega arith in
    let r : ℕ = n + 1 - (a + 4) in
    let slot : slot_at page (j + 1) ≡ g (a + 3) =
    has.named (j + 1) (omega arith) ∙ slot_middle records (j + 1) (omega arith) (omega arith)
    ∙ ap g (let e : 4 * (j + 1) - 1 ≡ a + 3 = omega arith in e) in
    let count : n + 1 - a ≡ suc (suc (suc (suc r))) = omega arith in
    let rest : List ℕ = map g (range_with_len (a + 4) r) in
    let front : List ℕ = g a ∷ g (a + 1) ∷ g (a + 2) ∷ [] in
    let whole : from_record records a ≡ front ++ slot_at page (j + 1) ∷ rest =
    ap (λ (m : ℕ). map g (range_with_len a m)) count ∙ four_first g a r
    ∙ ap (λ (o : ℕ). g a ∷ g (a + 1) ∷ g (a + 2) ∷ o ∷ rest) (sym slot) in
    let none : (i : ℕ) → i < 3 → owned_by page (g (a + i)) ≡ 0 =
    λ i few. has.owns (a + i) (omega arith) ∙ owned_none n (a + i) (λ e. omega (arith, e)) in
    let e0 : a + 0 ≡ a = omega arith in
    let unowned : All (λ origin. owned_by page origin ≡ 0) front =
    All-from_recursion (λ (origin : ℕ). owned_by page origin ≡ 0) front
    (rw e0 at (none 0 (omega arith)), (none 1 (omega arith), (none 2 (omega arith), tt))) in
    let facts = origin_facts records (a + 3) has.laid (omega arith) in
    let least = facts.least in
    let low = facts.first in
    let owned : owned_by page (slot_at page (j + 1)) ≡ 4 =
    ap (λ (o : ℕ). owned_by page o) slot ∙ has.owns (a + 3) (omega arith)
    ∙ owned_four n (a + 3) (omega arith) (omega arith) in
    let step : 4 * (j + 1) ≡ a + 4 = omega arith in
    let behind : Cuts page (j + 1 + 1) (suc m) (from_record records (4 * (j + 1))) =
    cuts_from page records (j + 1) (suc m) has (omega arith) (omega arith) in (
      front,
      rest,
      whole,
      record {
        unowned = unowned;
        owned = owned;
        size = record {
          first = λ e. absurd (omega (arith, e, slot));
          last = λ e. absurd (omega (arith, e, slot));
          other = λ not_first not_last. (omega arith, omega arith);
        };
      },
      subst (λ (b : ℕ). Cuts page (j + 1 + 1) (suc m) (map g (range_with_len b (n + 1 - b)))) step behind,
    )

-- the slots cut the chain, its ends counted
pub is_cut : (page : List ℕ) (records : List Pushed) → OwnsGroups page records
    → IsDirectory page (packed_chain records)
is_cut page records has =
    let n : ℕ = length records in
    let g : ℕ → ℕ = origin_at records in
    let s : ℕ = slots_for n in
    let least : 2 ≤ s = slots_least n in
    let slot : slot_at page 0 ≡ infimum = has.named 0 (omega arith) ∙ slot_first records in
    let slots = has.slots in
    let count : slot_count page ≡ suc (s - 1) = omega arith in
    let rest : List ℕ = map g (range_with_len 0 (n + 1)) in
    let chain : packed_chain records ++ supremum ∷ [] ≡ rest =
    ap (λ (o : ℕ). packed_chain records ++ o ∷ []) (sym (origin_behind records n (omega arith)))
    ∙ sym (map-range_with_len_more g 0 n n (omega arith)) in
    let whole : infimum ∷ packed_chain records ++ supremum ∷ [] ≡ slot_at page 0 ∷ rest =
    ap (λ (xs : List ℕ). infimum ∷ xs) chain ∙ ap (λ (o : ℕ). o ∷ rest) (sym slot) in
    let all : n + 1 - 0 ≡ n + 1 = omega arith in
    let behind : Cuts page 1 (s - 1) rest =
    subst (λ (m : ℕ). Cuts page 1 (s - 1) (map g (range_with_len 0 m))) all
    (cuts_from page records 0 (s - 1) has (omega arith) (omega arith)) in
    let cut : Cuts page 0 (suc (s - 1)) (infimum ∷ packed_chain records ++ supremum ∷ []) = (
      [],
      rest,
      whole,
      record {
        unowned = All-from_recursion (λ (origin : ℕ). owned_by page origin ≡ 0) [] tt;
        owned = ap (λ (o : ℕ). owned_by page o) slot ∙ has.first;
        size = record {
          first = λ e. refl;
          last = λ e. absurd (omega (arith, e, slot));
          other = λ not_first not_last. absurd (not_first slot);
        };
      },
      behind,
    ) in
    record {
      first = slot;
      last = has.named (slot_count page - 1) (omega arith)
          ∙ slot_last records (slot_count page - 1) (omega arith) (omega arith);
      cut = subst (λ (m : ℕ). Cuts page 0 m (infimum ∷ packed_chain records ++ supremum ∷ [])) (sym count) cut;
    }
