-- What stands on a page of a built tree.
use Rattle.std.proofs.Common.{◌≡◌, ℕ, zero, suc, ◌+◌, ◌^◌, ◌<◌, true, false, ◌==◌, cond, List, [], ◌∷◌}
use Rattle.std.proofs.Common.{length, get_or, Some, None, arith, lit<, inr}
use Rattle.std.proofs.lemmas.Bool.{eq-eqb}
use Rattle.page_source.specs.Pages.{fil_null}
use Rattle.fil_frame.specs.Kinds.{index_kind}
use Rattle.fil_frame.specs.Frame.{Seals}
use Rattle.fil_frame.specs.Laws.{IsSealed}
use Rattle.column_values.specs.Types.{Fields, AreFields}
use Rattle.compact_record.specs.Writing.{key_of_parts, FitsField}
use Rattle.compact_record.specs.Reading.{place_of}
use Rattle.index_page.specs.Header.{records_of}
use Rattle.tree_walk.specs.Place.{is_leaf_level}
use Rattle.tree_walk.specs.TreeChecks.{before, after}
use Rattle.page_packer.specs.Entries.{Entry, MakePage}
use Rattle.page_packer.specs.Laws.{HasBodyOf, HoldsEntries, HasNumbers, NumbersFit, HaveRoom}
use Rattle.tree_layout.specs.Entries.{HoldsEntry}
use Rattle.tree_layout.specs.Division.{Level}
use Rattle.tree_layout.specs.DivisionLaws.{AreTheLevels}
use Rattle.tree_layout.specs.Levels.{EachPage, width_at, page_entries, is_top, top_of, numbers_at}
use Rattle.tree_layout.specs.Built.{IsBuiltPage}
use Rattle.space_builder.specs.layout.LowerLaws.{PageLaws}
use Rattle.space_builder.specs.layout.TreePage.{heads_of, heads_on, fields_of_level, tree_body, tree_page}
use Rattle.tree_layout.proofs.Zips.{zip_length}
use Rattle.tree_layout.proofs.TreeRows.{length-numbers, number_at}

-- the neighbours' numbers fit
beside_small : (xs : List ℕ) (k : ℕ) → ((i : ℕ) → i < length xs → get_or xs i fil_null < 2 ^ 32)
    → get_or xs k fil_null < 2 ^ 32
beside_small [] k each = lit< tt
beside_small (x ∷ xs) zero each = each 0 (omega arith)
beside_small (x ∷ xs) (suc k) each = beside_small xs k (λ i below. each (suc i) (omega arith))

module _ (laws : PageLaws) (leaf node : Fields) (numbers : ℕ → ℕ → ℕ) (levels : List Level) (entries : List Entry)
    (tree : AreTheLevels leaf node numbers entries levels) (leaf_good : AreFields leaf) (node_good : AreFields node)
    (j : ℕ) (few : j < 16) (small : EachPage levels (λ l k. numbers l k < fil_null)) where
  good_fields : (l : ℕ) → AreFields (fields_of_level leaf node l)
  good_fields l = elim (l == 0) as (λ b. AreFields (cond b leaf node)) [ true ↦ leaf_good | false ↦ node_good ]

  module _ (l k : ℕ) (inside : l < length levels) (within : k < width_at levels l) where
    abbrev fields : Fields
    fields = fields_of_level leaf node l

    abbrev list : List Entry
    list = page_entries levels l k

    makes : MakePage fields l (is_top levels l) (k == 0) list
    unfolding key_of_parts
    makes = record {
      suit = record {
        are_fields = good_fields l;
        fit = tree.fit l k inside within;
        rise = λ i below. inr (tree.rise l k inside within i (i + 1) [] (omega arith) below);
        some_entry = λ none.
            let alone = tree.empty l k inside within none in
            (eq-eqb l 0 alone.0, eq-eqb l (top_of levels) (let one = alone.1 in omega arith));
      };
      room = tree.sizes l k inside within;
    }

    body_long : length (tree_body leaf node numbers levels j l k) ≡ 16384
    unfolding tree_body
    body_long =
        laws.whole fields l (is_top levels l) (k == 0) list (before (numbers_at levels numbers l) k)
        (after (numbers_at levels numbers l) k) (j + 1) (heads_on levels j l) makes

    abbrev page : List ℕ
    page = tree_page leaf node numbers levels j l k

    sealed_here : IsSealed (tree_body leaf node numbers levels j l k) (numbers l k) 1 1 index_kind
    sealed_here =
        let below = small l k inside within in
        laws.sealed (tree_body leaf node numbers levels j l k) (numbers l k) 1 1 index_kind body_long (omega arith)
        (lit< tt) (lit< tt) (lit< tt)

    pub page_seals : Seals (tree_body leaf node numbers levels j l k) page (numbers l k) 1 1 index_kind
    unfolding tree_page
    page_seals = sealed_here.seals

    body_kept : HasBodyOf (tree_body leaf node numbers levels j l k) page
    body_kept = laws.seals (tree_body leaf node numbers levels j l k) page (numbers l k) 1 1 index_kind page_seals

    pub page_long : length page ≡ 16384
    unfolding tree_page
    page_long = sealed_here.whole

    holds : HoldsEntries page fields (is_leaf_level l) (is_top levels l) (k == 0) list
    unfolding tree_body
    holds =
        laws.packs page fields l (is_top levels l) (k == 0) list (before (numbers_at levels numbers l) k)
        (after (numbers_at levels numbers l) k) (j + 1) (heads_on levels j l) makes body_kept

    numbers_small : (i : ℕ) → i < length (numbers_at levels numbers l)
        → get_or (numbers_at levels numbers l) i fil_null < 2 ^ 32
    numbers_small i below =
        let size = length-numbers levels numbers l in
        let is = number_at levels numbers l i fil_null (omega arith) in
        let number = small l i inside (omega arith) in
        omega arith

    room : HaveRoom (heads_on levels j l)
    room = elim (is_top levels l) as (λ b. HaveRoom (cond b (Some (heads_of j)) None)) [
      | true ↦ record { space = omega arith; inode_page = omega arith; leaf = omega arith; top = omega arith }
      | false ↦ tt
    ]

    numbers_fit : NumbersFit l (before (numbers_at levels numbers l) k) (after (numbers_at levels numbers l) k) (j + 1)
        (heads_on levels j l)
    numbers_fit =
        let most = tree.few in record {
          level_fits = omega arith;
          prev_fits = beside_small (fil_null ∷ numbers_at levels numbers l) k (λ i below. prev_small i below);
          next_fits = beside_small (numbers_at levels numbers l) (k + 1) numbers_small;
          id_fits = omega arith;
          heads_fit = room;
        }
      where
        prev_small : (i : ℕ) → i < length (fil_null ∷ numbers_at levels numbers l)
            → get_or (fil_null ∷ numbers_at levels numbers l) i fil_null < 2 ^ 32
        prev_small zero below = lit< tt
        prev_small (suc i) below = numbers_small i (omega arith)

    pub numbers_held : HasNumbers page l (before (numbers_at levels numbers l) k)
        (after (numbers_at levels numbers l) k)
        (j + 1) (heads_on levels j l)
    unfolding tree_body
    numbers_held =
        laws.numbers page fields l (is_top levels l) (k == 0) list (before (numbers_at levels numbers l) k)
        (after (numbers_at levels numbers l) k) (j + 1) (heads_on levels j l) makes numbers_fit body_kept

    entry_held : (i : ℕ) → i < length list → HoldsEntry page fields (get_or (records_of page) i 0) (get_or list i [])
    unfolding place_of
    entry_held i below =
        let read = holds.held.read i below in
        let all : length fields.fields ≡ length (get_or list i []) =
        zip_length FitsField fields.fields (get_or list i []) (tree.fit l k inside within i [] below) in
        record {
          cells = λ n less. (read.each n (omega arith)).cell;
          external = λ n less. (read.each n (omega arith)).external;
          live = holds.held.live i below;
        }

    pub built_page : IsBuiltPage fields page l (is_top levels l) (k == 0) list
    built_page = record {
      at_level = numbers_held.has_level;
      is_page = holds.held.is_page;
      marks = holds.mark;
      count = holds.held.count;
      holds = entry_held;
    }
