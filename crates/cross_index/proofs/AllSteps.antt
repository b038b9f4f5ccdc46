-- All secondary indexes, one after another, and then the whole answer.
use Rattle.std.proofs.Common.{◌≡◌, ℕ, ◌+◌, ◌*◌, ◌^◌, ◌<◌, ◌≤◌, min, List, [], ◌∷◌, ◌++◌, length, get_or, drop}
use Rattle.std.proofs.Common.{Some, None, Ok, Err}
use Rattle.std.proofs.Common.{sym, ap, ◌∙◌, subst, inl, inr, arith}
use Rattle.std.specs.Prelude.{◌-◌, sum_by}
use Rattle.std.specs.List.{range_with_len}
use Rattle.std.proofs.lemmas.Bool.{cases_lt}
use Rattle.std.proofs.lemmas.List.Sums.{sum_by-append, sum_by-drop_more}
use Rattle.page_source.specs.Verdict.{AllBelow, Each}
use Rattle.schema_text.specs.TableDef.{TableDef}
use Rattle.page_source.specs.declared.objects.PageSource.{Ghosts as FileOf}
use Rattle.page_source.specs.Calls.{OfFile}
use Rattle.page_source.specs.Pages.{page_count}
use Rattle.page_source.proofs.Told.{map_told}
use Rattle.page_source.proofs.Lists.{range_next}
use Rattle.tree_walk.specs.declared.ends.TreeEnds.{TreeEnds}
use Rattle.table_check.specs.First.{TakesSteps, dump_steps}
use Rattle.table_check.specs.Taken.{leaves_of}
use Rattle.table_check.specs.Trees.{index_count}
use Rattle.cross_index.specs.declared.crossed.CrossStop.{CrossStop}
use Rattle.cross_index.specs.declared.crossed.CrossStop.TheVariants as stops
use Rattle.cross_index.specs.Entries.{entries_in}
use Rattle.cross_index.specs.Differ.{Difference, Missing, Extra, IndexDiffers, SecondaryDiffers, Differ}
use Rattle.cross_index.specs.Cross.{entries_of}
use Rattle.cross_index.specs.calls.Compare.{Compares}
use Rattle.cross_index.specs.calls.Indexes.{ComparesAll}

-- the secondary indexes before index j have the keys of the rows, and so many entries
pub record HaveMatched (file : List ℕ) (table : TableDef) (j entries : ℕ) : Type 0 where
  pub same : AllBelow (SecondaryDiffers file table) (j - 1)
  pub counted : entries ≡ entries_of file table (j - 1)
  pub few : entries ≤ j * 2 ^ 47

entries_more : (file : List ℕ) (table : TableDef) (j : ℕ) → 1 ≤ j
    → entries_of file table (j + 1 - 1) ≡ entries_of file table (j - 1) + length (entries_in file table j)
entries_more file table j some =
    let count : ℕ → ℕ = λ i. length (entries_in file table i) in
    let next : j + 1 - 1 ≡ (j - 1) + 1 = omega arith in
    let last : 1 + (j - 1) ≡ j = omega arith in
    let one : sum_by count (j ∷ []) ≡ count j = omega arith in
    ap (λ (n : ℕ). sum_by count (range_with_len 1 n)) next
    ∙ ap (sum_by count) (range_next 1 (j - 1) ∙ ap (λ (i : ℕ). range_with_len 1 (j - 1) ++ i ∷ []) last)
    ∙ sum_by-append count (range_with_len 1 (j - 1)) (j ∷ [])
    ∙ ap (λ (n : ℕ). sum_by count (range_with_len 1 (j - 1)) + n) one

-- one index more
pub matched_more : (file : List ℕ) (table : TableDef) (j entries here now : ℕ) → 1 ≤ j → j < 16
    → HaveMatched file table j entries → Compares file table j (Ok here) → here ≤ 2 ^ 47
    → now ≡ min (entries + here) (2 ^ 64 - 1) → HaveMatched file table (j + 1) now
matched_more file table j entries here now some most so compares few sum =
    let fits : now ≡ entries + here = omega (arith, so.few, few, most, sum) in
    record {
      same = λ k below. elim (cases_lt k (j - 1)) [
        | inl before ↦ so.same k before
        | inr last ↦
            let e : j ≡ k + 1 = omega (arith, below, last, some) in
            subst (λ (i : ℕ). IndexDiffers file table i None) e compares.0
      ];
      counted = omega (arith, fits, so.counted, compares.1, entries_more file table j some);
      few = omega (arith, fits, so.few, few);
    }

-- an index that differs, or can't be read, ends the comparison
pub ends_here : (file : List ℕ) (table : TableDef) (j entries : ℕ) (stop : CrossStop) → 1 ≤ j → j < index_count table
    → HaveMatched file table j entries → Compares file table j (Err stop) → ComparesAll file table (Err stop)
unfolding Differ
ends_here file table j entries stop some inside so = by_stop stop
  where
    first : (fault : Difference) → IndexDiffers file table j (Some fault)
        → Each (index_count table - 1) (SecondaryDiffers file table) (Some fault)
    first fault here =
        let e : j ≡ (j - 1) + 1 = omega (arith, some) in (
          j - 1,
          omega (arith, some, inside),
          so.same,
          subst (λ (i : ℕ). IndexDiffers file table i (Some fault)) e here,
        )

    by_stop : (stop : CrossStop) → Compares file table j (Err stop) → ComparesAll file table (Err stop)
    by_stop (stops.Broken fault) here = here
    by_stop (stops.Missing index row) here = first (Missing index row) here
    by_stop (stops.Extra index page) here = first (Extra index page) here
    by_stop stops.Source here = tt
    by_stop stops.Memory here = tt

-- none differs
pub all_matched : (file : List ℕ) (table : TableDef) (j entries : ℕ) → j ≡ index_count table
    → HaveMatched file table j entries → ComparesAll file table (Ok entries)
unfolding Differ
all_matched file table j entries all so = (
  subst (λ (n : ℕ). AllBelow (SecondaryDiffers file table) (n - 1)) all so.same,
  so.counted ∙ ap (λ (n : ℕ). entries_of file table (n - 1)) all,
)

-- the leaves of one tree more
leaves_more : (ends all : List TreeEnds) (i : ℕ) (d : TreeEnds) → all ≡ ends → i < length ends
    → leaves_of (drop i ends) ≡ (get_or all i d).leaves + leaves_of (drop (i + 1) ends)
leaves_more ends all i d same inside =
    sum_by-drop_more (λ (e : TreeEnds). e.leaves) ends i d inside
    ∙ ap (λ (list : List TreeEnds). (get_or list i d).leaves + leaves_of (drop (i + 1) ends)) (sym same)

pub cost_more : (ends all : List TreeEnds) (i : ℕ) (d : TreeEnds) (most steps spent : ℕ) → all ≡ ends
    → i < length ends → steps + leaves_of (drop i ends) ≤ most → spent ≤ steps + (get_or all i d).leaves
    → spent + leaves_of (drop (i + 1) ends) ≤ most
cost_more ends all i d most steps spent same inside before here =
    omega (arith, leaves_more ends all i d same inside, before, here)

-- all leaves were read once more: those of the first tree by the rows, the others by the entries
pub all_cost : (ends all : List TreeEnds) (d : TreeEnds) (steps checked found spent pages chain_pages : ℕ)
    → all ≡ ends → 1 ≤ length ends → checked + leaves_of ends + chain_pages ≤ steps + dump_steps pages
    → found ≤ checked + (get_or all 0 d).leaves + chain_pages → spent ≤ found + leaves_of (drop 1 ends)
    → spent ≤ steps + dump_steps pages
all_cost ends all d steps checked found spent pages chain_pages same some whole rows entries =
    omega (arith, leaves_more ends all 0 d same some, whole, rows, entries)

pub takes_steps : {S : Type 0} {g : FileOf S} {source : S} {pages steps spent : ℕ}
    → OfFile g source (λ file. pages ≤ page_count file) → pages ≤ 4194304 → spent ≤ steps + dump_steps pages
    → TakesSteps g source dump_steps steps spent
takes_steps {g = g} {source = source} within most few = record {
  told = map_told (g.content source) (λ file less. omega (arith, less, few)) within;
  always = omega (arith, most, few);
}
