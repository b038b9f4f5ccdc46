-- Pages are counted by sizes.
use Rattle.std.proofs.Common.{◌≡◌, ℕ, zero, suc, ◌+◌, ◌<◌, ◌≤◌, Bool, true, false, cond, eqb, nat_le, List, [], ◌∷◌}
use Rattle.std.proofs.Common.{◌++◌}
use Rattle.std.proofs.Common.{length, map, get_or, take, refl, sym, ap, ◌∙◌, subst, arith, append_assoc, length-append}
use Rattle.std.specs.List.{All}
use Rattle.std.proofs.lemmas.Bool.{true≢false, lt-leb, le-leb, ne_eqb}
use Rattle.std.proofs.lemmas.List.{length-map, get_or-map, map-append, same_lists, append-nil, take_more}
use Rattle.std.proofs.lemmas.List.Elements.{All-head, All-tail}
use Rattle.std.proofs.lemmas.List.Sums.{sum_by-append, sum_by-cons}
use Rattle.column_values.specs.Types.{Fields}
use Rattle.compact_record.specs.Writing.{size_of_record}
use Rattle.page_packer.specs.Packing.{sizes_fit}
use Rattle.tree_layout.specs.declared.cuts.Weight.{Weight}
use Rattle.tree_layout.specs.Entries.{Entry}
use Rattle.tree_layout.specs.Division.{Level, total_of, has_room_for, divided, levels_from, tree_levels, level_counts}
use Rattle.tree_layout.specs.Division.{pointer_with, pointer_to_page, pointers_to, FitsAlone}
use Rattle.tree_layout.specs.Steps.{StandsOpen}
use Rattle.tree_layout.specs.Counting.{weight_of, Cutting, nothing_cut, one_more, cut_more, pages_of}
use Rattle.tree_layout.specs.Counting.{level_above, counts_from, cut_leaves, CountsAreCut}
use Rattle.tree_layout.proofs.Alike.{alike_entry, size_same, pointer_same}
use Rattle.tree_layout.proofs.Divided.{CanClimb, alone_pointers, climbs, leaves_climb}
use Rattle.tree_layout.proofs.Offsets.{all_within}
use Rattle.tree_layout.proofs.Pushing.{goes_on_law}
use Rattle.tree_layout.proofs.Rise.{length-pointers, get_or-pointers, key_of_pointer}

-- the size of the pointer to a page
abbrev pub pointer_size : Fields → List Entry → ℕ
pointer_size node page = size_of_record node (pointer_to_page node.keys page 0)

-- what was cut is what was divided
record IsCut (fields node : Fields) (entries : List Entry) (cutting : Cutting) : Type 0 where
  closed : Level
  last : List Entry
  stands : StandsOpen fields entries closed last
  closed_is : cutting.closed ≡ map (pointer_size node) closed
  count_is : cutting.count ≡ length last
  total_is : cutting.total ≡ total_of fields last
  first_is : 0 < length last → cutting.first ≡ pointer_size node last
  filled : 0 < length entries → 0 < length last

start_cut : (fields node : Fields) → IsCut fields node [] nothing_cut
start_cut fields node = record {
  closed = [];
  last = [];
  stands = (goes_on_law fields).start;
  closed_is = refl;
  count_is = refl;
  total_is = refl;
  first_is = λ some. absurd (omega arith);
  filled = λ some. some;
}

-- one more entry
total_push : (fields : Fields) (page : List Entry) (entry : Entry)
    → total_of fields (page ++ entry ∷ []) ≡ total_of fields page + size_of_record fields entry
total_push fields page entry =
    sum_by-append (size_of_record fields) page (entry ∷ [])
    ∙ ap (λ n. total_of fields page + n) (sum_by-cons (size_of_record fields) entry [])
    ∙ omega arith

first_push : (node : Fields) (page : List Entry) (entry : Entry) (first : ℕ)
    → (0 < length page → first ≡ pointer_size node page)
    → cond (eqb (length page) 0) (size_of_record node (pointer_with node.keys entry 0)) first
    ≡ pointer_size node (page ++ entry ∷ [])
first_push node [] entry first is = refl
first_push node (x ∷ xs) entry first is = rw (ne_eqb (suc (length xs)) 0 (λ e. omega arith)) (is (omega arith))

step_cut : (fields node : Fields) (entries : List Entry) (entry : Entry) (cutting : Cutting)
    → IsCut fields node entries cutting → FitsAlone fields entry
    → IsCut fields node (entries ++ entry ∷ []) (one_more cutting (weight_of fields node entry))
unfolding one_more
step_cut fields node entries entry cutting h alone =
    subst (λ b. IsCut fields node (entries ++ entry ∷ []) (cond b grown turned)) (sym room_is)
    (by_room (has_room_for fields h.last entry) refl)
  where
    weight : Weight
    weight = weight_of fields node entry

    grown : Cutting
    grown = record {
      closed = cutting.closed;
      count = cutting.count + 1;
      total = cutting.total + weight.size;
      first = cond (eqb cutting.count 0) weight.pointer cutting.first;
    }

    turned : Cutting
    turned = record {
      closed = cutting.closed ++ cutting.first ∷ [];
      count = 1;
      total = weight.size;
      first = weight.pointer;
    }

    room_is : sizes_fit (cutting.count + 1) (cutting.total + size_of_record fields entry)
        ≡ has_room_for fields h.last entry
    room_is = rw (h.count_is, h.total_is) refl

    next : divided fields (entries ++ entry ∷ [])
        ≡ cond (has_room_for fields h.last entry) (h.closed ++ (h.last ++ entry ∷ []) ∷ [])
        ((h.closed ++ h.last ∷ []) ++ (entry ∷ []) ∷ [])
    next = (goes_on_law fields).more entries h.closed h.last entry h.stands

    -- a page is closed only once it has an entry
    some_there : has_room_for fields h.last entry ≡ false → 0 < length h.last
    some_there test = some_if h.last test
      where
        some_if : (last : List Entry) → has_room_for fields last entry ≡ false → 0 < length last
        some_if [] test =
            let zero : 0 + size_of_record fields entry ≡ size_of_record fields entry = omega arith in
            absurd (true≢false (sym alone ∙ ap (sizes_fit 1) (sym zero) ∙ test))
        some_if (x ∷ xs) test = omega arith

    by_room : (b : Bool) → has_room_for fields h.last entry ≡ b
        → IsCut fields node (entries ++ entry ∷ []) (cond b grown turned)
    by_room true test = record {
      closed = h.closed;
      last = h.last ++ entry ∷ [];
      stands = next ∙ ap (λ b. cond b (h.closed ++ (h.last ++ entry ∷ []) ∷ [])
          ((h.closed ++ h.last ∷ []) ++ (entry ∷ []) ∷ [])) test;
      closed_is = h.closed_is;
      count_is = ap (λ n. n + 1) h.count_is ∙ sym (length-append h.last (entry ∷ []));
      total_is = ap (λ n. n + size_of_record fields entry) h.total_is ∙ sym (total_push fields h.last entry);
      first_is = λ some.
          ap (λ n. cond (eqb n 0) weight.pointer cutting.first) h.count_is
          ∙ first_push node h.last entry cutting.first h.first_is;
      filled = λ some. let size = length-append h.last (entry ∷ []) in omega arith;
    }
    by_room false test = record {
      closed = h.closed ++ h.last ∷ [];
      last = entry ∷ [];
      stands = next ∙ ap (λ b. cond b (h.closed ++ (h.last ++ entry ∷ []) ∷ [])
          ((h.closed ++ h.last ∷ []) ++ (entry ∷ []) ∷ [])) test;
      closed_is = rw (h.closed_is, h.first_is (some_there test))
          (sym (map-append (pointer_size node) h.closed (h.last ∷ [])));
      count_is = refl;
      total_is = sym (sum_by-cons (size_of_record fields) entry [] ∙ omega arith);
      first_is = λ some. refl;
      filled = λ some. omega arith;
    }

all_cut : (fields node : Fields) (before entries : List Entry) (cutting : Cutting) → All (FitsAlone fields) entries
    → IsCut fields node before cutting
    → IsCut fields node (before ++ entries) (cut_more cutting (map (weight_of fields node) entries))
all_cut fields node before [] cutting alone h =
    subst (λ list. IsCut fields node list cutting) (sym (append-nil before)) h
all_cut fields node before (entry ∷ entries) cutting alone h =
    subst (λ list. IsCut fields node list (cut_more cutting (map (weight_of fields node) (entry ∷ entries))))
    (append_assoc before (entry ∷ []) entries)
    (all_cut fields node (before ++ entry ∷ []) entries (one_more cutting (weight_of fields node entry))
    (All-tail (FitsAlone fields) entry entries alone)
    (step_cut fields node before entry cutting h (All-head (FitsAlone fields) entry entries alone)))

-- the pages of some entries
cut_is : (fields node : Fields) (entries : List Entry) → All (FitsAlone fields) entries → 0 < length entries
    → pages_of (cut_more nothing_cut (map (weight_of fields node) entries))
    ≡ map (pointer_size node) (divided fields entries)
cut_is fields node entries alone some =
    let h = all_cut fields node [] entries nothing_cut alone (start_cut fields node) in
    let cutting = cut_more nothing_cut (map (weight_of fields node) entries) in
    let first : cutting.first ≡ pointer_size node h.last = h.first_is (h.filled some) in
    let joined : cutting.closed ++ cutting.first ∷ [] ≡ map (pointer_size node) h.closed ++ pointer_size node h.last
    ∷ [] =
    rw (h.closed_is, first) refl in
    joined ∙ sym (map-append (pointer_size node) h.closed (h.last ∷ []))
    ∙ ap (map (pointer_size node)) (sym h.stands)

-- a pointer's weight: itself, and a pointer by its key
pointer_alike : (node : Fields) (entry : Entry) (n m : ℕ)
    → size_of_record node (pointer_with node.keys entry n) ≡ size_of_record node (pointer_with node.keys entry m)
pointer_alike node entry n m =
    size_same node (pointer_with node.keys entry n) (pointer_with node.keys entry m)
    (pointer_same node.keys entry entry n m (alike_entry entry))

again : (node : Fields) (entry : Entry) (n : ℕ) → node.keys ≤ length entry
    → pointer_with node.keys (pointer_with node.keys entry n) 0 ≡ pointer_with node.keys entry 0
again node entry n enough = rw (key_of_pointer node.keys entry n enough) refl

abbrev both : ℕ → Weight
both size = record { size = size; pointer = size }

module _ (node : Fields) (pages : Level) (number : ℕ → ℕ) (can : CanClimb node pages) where
  weight_at : (k : ℕ) → k < length pages
      → weight_of node node (pointer_to_page node.keys (get_or pages k []) (number k))
      ≡ both (pointer_size node (get_or pages k []))
  weight_at k inside =
      let first = get_or (get_or pages k []) 0 [] in
      let filled = can.filled k [] inside in
      let enough = all_within (λ (entry : Entry). node.keys ≤ length entry) pages k can.keys inside 0 [] filled in
      ap (λ (size : ℕ). let w : Weight = record {
        size = size;
        pointer = size_of_record node (pointer_with node.keys (pointer_with node.keys first (number k)) 0);
      } in w) (pointer_alike node first (number k) 0)
      ∙ ap (λ (size : ℕ). let w : Weight = record {
        size = size_of_record node (pointer_with node.keys first 0);
        pointer = size;
      } in w) (ap (size_of_record node) (again node first (number k) enough))

  weights_are : map (weight_of node node) (pointers_to node.keys pages number)
      ≡ map both (map (pointer_size node) pages)
  weights_are =
      let size = length-pointers node.keys pages number in
      let left = length-map (pointers_to node.keys pages number) (weight_of node node) in
      let right = length-map (map (pointer_size node) pages) both in
      let inner = length-map pages (pointer_size node) in
      same_lists (map (weight_of node node) (pointers_to node.keys pages number))
      (map both (map (pointer_size node) pages)) (omega arith)
      (λ k d below.
      get_or-map (weight_of node node) (pointers_to node.keys pages number) k [] d (omega arith)
      ∙ ap (weight_of node node) (get_or-pointers node.keys pages number k [] (omega arith))
      ∙ weight_at k (omega arith)
      ∙ sym (get_or-map both (map (pointer_size node) pages) k 0 d (omega arith)
      ∙ ap both (get_or-map (pointer_size node) pages k [] 0 (omega arith))))

  above_is : map (pointer_size node) (divided node (pointers_to node.keys pages number))
      ≡ level_above (map (pointer_size node) pages)
  unfolding level_above
  above_is =
      let size = length-pointers node.keys pages number in
      let some = can.some in
      sym (cut_is node node (pointers_to node.keys pages number) (alone_pointers node pages number can) (omega arith))
      ∙ ap (λ ws. pages_of (cut_more nothing_cut ws)) weights_are

counts_up : (node : Fields) (numbers : ℕ → ℕ → ℕ) (most level : ℕ) (pages : Level) → CanClimb node pages
    → level_counts (levels_from node numbers most level pages) ≡ counts_from most (map (pointer_size node) pages)
counts_up node numbers zero level pages can = ap (λ n. n ∷ []) (sym (length-map pages (pointer_size node)))
counts_up node numbers (suc most) level pages can =
    let up = divided node (pointers_to node.keys pages (numbers level)) in
    let size = length-map pages (pointer_size node) in
    let rest = counts_up node numbers most (level + 1) up (climbs node pages (numbers level) can)
    ∙ ap (counts_from most) (above_is node pages (numbers level) can) in
    rw size
    (elim (nat_le (length pages) 1) as (λ b.
    level_counts (cond b (pages ∷ []) (pages ∷ levels_from node numbers most (level + 1) up))
    ≡ cond b (length pages ∷ []) (length pages ∷ counts_from most (level_above (map (pointer_size node) pages))))
    [ true ↦ refl | false ↦ ap (λ ns. length pages ∷ ns) rest ])

pub counts_cut : CountsAreCut
unfolding tree_levels cut_leaves divided
counts_cut leaf node numbers [] can = refl
counts_cut leaf node numbers (entry ∷ entries) can =
    let all = entry ∷ entries in
    let cut = cut_is leaf node all can.alone (omega arith) in
    let size = length-map (divided leaf all) (pointer_size node) in
    counts_up node numbers (length (divided leaf all)) 0 (divided leaf all)
    (leaves_climb leaf node all can (omega arith))
    ∙ rw (cut, size) refl

-- how code comes to them
pub cut_snoc : (cutting : Cutting) (weights : List Weight) (weight : Weight)
    → cut_more cutting (weights ++ weight ∷ []) ≡ one_more (cut_more cutting weights) weight
cut_snoc cutting [] weight = refl
cut_snoc cutting (x ∷ xs) weight = cut_snoc (one_more cutting x) xs weight

abbrev pub even : List ℕ → List Weight
even pages = map (λ (size : ℕ). let w : Weight = record { size = size; pointer = size } in w) pages

pub cut_one_more : (pages : List ℕ) (k d : ℕ) → k < length pages
    → one_more (cut_more nothing_cut (even (take k pages))) (record {
      size = get_or pages k d;
      pointer = get_or pages k
          d;
    })
    ≡ cut_more nothing_cut (even (take (k + 1) pages))
cut_one_more pages k d below =
    sym (ap (λ list. cut_more nothing_cut (even list)) (take_more pages k d below)
    ∙ ap (cut_more nothing_cut) (map-append (λ (size : ℕ). let w : Weight = record { size = size; pointer = size } in w)
    (take k pages) (get_or pages k d ∷ []))
    ∙ cut_snoc nothing_cut (even (take k pages)) (record { size = get_or pages k d; pointer = get_or pages k d }))

pub counts_few : (most : ℕ) (pages : List ℕ) → length pages ≤ 1 → counts_from most pages ≡ length pages ∷ []
counts_few zero pages few = refl
counts_few (suc most) pages few = rw (le-leb (length pages) 1 few) refl

pub counts_many : (most : ℕ) (pages : List ℕ) → 1 < length pages
    → counts_from (suc most) pages ≡ length pages ∷ counts_from most (level_above pages)
counts_many most pages many = rw (lt-leb (length pages) 1 many) refl

-- one more level is counted, or none is left
pub level_counted : (done target pages : List ℕ) (n m : ℕ) → n ≡ suc m → 1 < length pages
    → done ++ counts_from n pages ≡ target
    → (done ++ length pages ∷ []) ++ counts_from m (level_above pages) ≡ target
level_counted done target pages n m next many so_far =
    append_assoc done (length pages ∷ []) (counts_from m (level_above pages))
    ∙ ap (λ rest. done ++ rest) (sym (counts_many m pages many))
    ∙ ap (λ k. done ++ counts_from k pages) (sym next) ∙ so_far

pub no_level_left : (done target pages : List ℕ) (n m : ℕ) → length pages ≤ 1
    → done ++ counts_from n pages ≡ target → done ++ counts_from m pages ≡ target
no_level_left done target pages n m few so_far =
    ap (λ rest. done ++ rest) (counts_few m pages few ∙ sym (counts_few n pages few)) ∙ so_far
