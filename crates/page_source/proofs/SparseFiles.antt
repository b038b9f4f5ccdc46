-- Maps of pages, and the bytes of a file whose pages they hold.
use Rattle.std.proofs.Common.{◌≡◌, ℕ, ◌+◌, ◌*◌, ◌<◌, ◌≤◌, Bool, true, false, cond, eqb, List, [], ◌∷◌, length, get_or}
use Rattle.std.proofs.Common.{take, replicate, slice_range, Option, Some, None, unwrap_or, MatchOption, refl, sym, ap}
use Rattle.std.proofs.Common.{◌∙◌, arith, length-append}
use Rattle.std.specs.Borrow.{Bor}
use Rattle.std.specs.List.{flat_map, range_with_len}
use Rattle.std.specs.Map.{lookup}
use Rattle.std.specs.Option.{option_copied}
use Rattle.std.specs.Ordering.{nat_cmp}
use Rattle.std.specs.Cmp.{nat_cmp_total, unsigned_tied}
use Rattle.std.specs.BTreeMap.{is_at}
use Rattle.std.specs.FinMap.{get, find, insert, empty, from_entries, get-empty, get-from_entries, same_map}
use Rattle.std.specs.FinMap.{nat_cmp-IsAntisymmetric}
use Rattle.std.proofs.lemmas.Bool.Decides.{nat_tests}
use Rattle.std.proofs.lemmas.List.{places, same_lists, length-replicate, length-take-le}
use Rattle.std.proofs.lemmas.List.FromFn.{length-range_with_len, get_or-range_with_len}
use Rattle.std.proofs.lemmas.List.Concat.{get_or-flat_map}
use Rattle.page_source.specs.Pages.{page_size, page_count, page_of}
use Rattle.page_source.specs.Objects.{PageMap, held_page, file_of}
use Rattle.page_source.specs.Sources.{AreWhole}
use Rattle.page_source.proofs.Slots.{get-insert_at}

find_is_lookup : (q : ℕ) (es : List (ℕ × List ℕ)) → find nat_cmp q es ≡ lookup (is_at (nat_cmp q)) es
find_is_lookup q [] = refl
find_is_lookup q (e ∷ es) =
    ap (λ (rest : Option (List ℕ)). cond (is_at (nat_cmp q) e.0) (Some e.1) rest) (find_is_lookup q es)

-- what a map of these entries has at a number
pub get_of_entries : (es : List (ℕ × List ℕ)) (q : ℕ)
    → get (from_entries {R = nat_cmp} es) q ≡ lookup (is_at (nat_cmp q)) es
get_of_entries es q = get-from_entries nat_cmp_total es q ∙ find_is_lookup q es

same_test : (n q : ℕ) → is_at (nat_cmp n) q ≡ eqb q n
same_test n q = unsigned_tied n q ∙ grind (arith, nat_tests)

-- the entries after one was put under its number
pub entries_put : (old new : List (ℕ × List ℕ)) (n : ℕ) (page : List ℕ)
    → ((q : ℕ) → lookup (is_at (nat_cmp q)) new ≡ cond (is_at (nat_cmp n) q) (Some page) (lookup
    (is_at (nat_cmp q)) old))
    → from_entries {R = nat_cmp} new ≡ insert (from_entries old) n page
entries_put old new n page put =
    same_map nat_cmp_total nat_cmp-IsAntisymmetric _ _
    (λ q.
    get_of_entries new q ∙ put q
    ∙ ap (λ (b : Bool). cond b (Some page) (lookup (is_at (nat_cmp q)) old)) (same_test n q)
    ∙ ap (λ (rest : Option (List ℕ)). cond (eqb q n) (Some page) rest) (sym (get_of_entries old q))
    ∙ sym (get-insert_at (from_entries old) n page q))

-- the page that a search of the entries found
pub found_is : (es : List (ℕ × List ℕ)) (n : ℕ) (found : Option (Bor (List ℕ)))
    → option_copied found ≡ lookup (is_at (nat_cmp n)) es
    → MatchOption found (get (from_entries {R = nat_cmp} es) n ≡ None)
    (λ page. get (from_entries {R = nat_cmp} es) n ≡ Some page.now)
found_is es n None is = get_of_entries es n ∙ sym is
found_is es n (Some page) is = get_of_entries es n ∙ sym is

-- no page is held, or one more is
pub whole_none : AreWhole empty
unfolding held_page
whole_none n = rw (get-empty nat_cmp n) (length-replicate {A = ℕ} page_size 0)

whole_if : (b : Bool) (page : List ℕ) (rest : Option (List ℕ)) → length page ≡ page_size
    → length (unwrap_or rest (replicate page_size 0)) ≡ page_size
    → length (unwrap_or (cond b (Some page) rest) (replicate page_size 0)) ≡ page_size
whole_if true page rest size others = size
whole_if false page rest size others = others

pub whole_put : (held : PageMap) (n : ℕ) (page : List ℕ) → AreWhole held → length page ≡ page_size
    → AreWhole (insert held n page)
unfolding held_page
whole_put held n page whole size q =
    rw (get-insert_at held n page q) (whole_if (eqb q n) page (get held q) size (whole q))

-- pages one behind the other
length-pages : (f : ℕ → List ℕ) → ((n : ℕ) → length (f n) ≡ page_size) → (xs : List ℕ)
    → length (flat_map f xs) ≡ page_size * length xs
length-pages f each [] = omega arith
length-pages f each (x ∷ xs) =
    let e = length-append (f x) (flat_map f xs) in
    let rest = length-pages f each xs in
    omega (arith, e, rest, each x)

page_at : (f : ℕ → List ℕ) → ((n : ℕ) → length (f n) ≡ page_size) → (xs : List ℕ) (i : ℕ) → i < length xs
    → slice_range (flat_map f xs) (page_size * i) (page_size * i + page_size) ≡ f (get_or xs i 0)
page_at f each xs i inside =
    let whole = flat_map f xs in
    let size = each (get_or xs i 0) in
    let fits : page_size * i + page_size ≤ length whole = omega (arith, length-pages f each xs) in
    let before : length (flat_map f (take i xs)) ≡ page_size * i =
    omega (arith, length-pages f each (take i xs), length-take-le i xs (omega arith)) in
    let cut : length (slice_range whole (page_size * i) (page_size * i + page_size)) ≡ page_size =
    grind (arith, places) in
    same_lists _ _ (cut ∙ sym size)
    (λ k d below.
    let within : k < page_size = omega (arith, cut, below) in
    let there : get_or (slice_range whole (page_size * i) (page_size * i + page_size)) k d ≡ get_or whole
    (page_size * i + k) d = grind (arith, places) in
    there ∙ rw before at (get_or-flat_map f xs i k 0 d inside (omega (arith, size, within))))

-- the file of a map has as many pages as are stated, and they are those of the map
pub pages_of_file : (size : ℕ) (held : PageMap) → AreWhole held → page_count (file_of size held) ≡ size
unfolding file_of page_count
pages_of_file size held whole =
    omega (arith, length-pages (held_page held) whole (range_with_len 0 size), length-range_with_len 0 size)

pub page_of_file : (size : ℕ) (held : PageMap) (n : ℕ) → AreWhole held → n < size
    → page_of (file_of size held) n ≡ held_page held n
unfolding file_of page_of
page_of_file size held n whole inside =
    let number : get_or (range_with_len 0 size) n 0 ≡ n = omega (arith, get_or-range_with_len 0 size n 0 inside) in
    page_at (held_page held) whole (range_with_len 0 size) n (omega (arith, length-range_with_len 0 size))
    ∙ ap (held_page held) number

-- a page of it that was found in the map, or wasn't
pub found_page : (held : PageMap) (n : ℕ) (page found : List ℕ) → get held n ≡ Some found → page ≡ found
    → page ≡ held_page held n
unfolding held_page
found_page held n page found is same = same ∙ ap (λ (o : Option (List ℕ)). unwrap_or o (replicate page_size 0)) (sym is)

pub missing_page : (held : PageMap) (n : ℕ) (page : List ℕ) → get held n ≡ None → page ≡ replicate page_size 0
    → page ≡ held_page held n
unfolding held_page
missing_page held n page is same = same ∙ ap (λ (o : Option (List ℕ)). unwrap_or o (replicate page_size 0)) (sym is)
