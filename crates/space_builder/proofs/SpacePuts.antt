-- What a store holds once the pages of a tablespace are put.
use Rattle.std.proofs.Common.{◌≡◌, ◌≢◌, ℕ, ◌≤◌, ◌++◌, ◌⊎◌, cond, List, []}
use Rattle.std.proofs.Common.{◌∷◌, Contains, get_or, Option, Some, None, IfSome, IsNone, IsSome}
use Rattle.std.proofs.Common.{sym, ap, ◌∙◌, subst, arith, inl, inr}
use Rattle.std.specs.FinMap.{get, empty, from_entries, get-empty, same_map, nat_cmp-IsAntisymmetric}
use Rattle.std.specs.List.{All}
use Rattle.std.specs.Cmp.{nat_cmp_total}
use Rattle.std.specs.Option.{is_some}
use Rattle.std.specs.Ordering.{nat_cmp}
use Rattle.std.proofs.lemmas.Bool.{false≢true, ne_eqb}
use Rattle.std.proofs.lemmas.Bool.Decides.{eqb_tells}
use Rattle.std.proofs.lemmas.List.Elements.{All-head, All-tail, Contains-append_cases}
use Rattle.std.proofs.lemmas.List.Elements.{Contains-append_left, Contains-append_right, All-contains, Contains-get_or}
use Rattle.page_source.specs.declared.objects.PageStore.{Ghosts as StoreOf}
use Rattle.page_source.specs.Objects.{PageMap, Store, IsFresh, IsTold, Asks, KeepsSizes}
use Rattle.page_source.proofs.Members.{contains_none, contains_here, contains_there, contains_cases}
use Rattle.page_source.proofs.Slots.{get-insert_at}
use Rattle.page_source.proofs.Told.{map_told}
use Rattle.offpage_chain.specs.Writing.{HoldsAllBut, KeepsAllBut}
use Rattle.schema_text.specs.Formats.{flags_of}
use Rattle.schema_text.specs.TableDef.{TableDef}
use Rattle.space_layout.specs.Numbers.{IsShape, space_pages}
use Rattle.space_layout.specs.HeadPages.{header_page, bitmap_page, inode_page}
use Rattle.space_layout.specs.NumberedPages.{Numbered, IsNumbered, numbered_pages, numbered_map}
use Rattle.row_store.specs.StoredRows.{Rows}
use Rattle.space_builder.specs.layout.Layout.{segment_sizes, segment_pages, system_pages, layout_size, layout_map}
use Rattle.space_builder.specs.build.Build.{HoldsLayout, HoldsPart, LacksHead, IsSizedFor}
use Rattle.space_builder.specs.build.Puts.{numbers_of, IsHeld, HaveOnePage}
use Rattle.space_builder.specs.calls.Room.{TakesPages}
use Rattle.space_builder.specs.calls.Space.{pages_behind_head}
use Rattle.space_builder.specs.layout.LowerLaws.{LowerLaws}
use Rattle.space_builder.specs.layout.Laws.{CanBuild}
use Rattle.space_builder.proofs.layout.Laid.{numbers}
use Rattle.space_builder.proofs.layout.Pages.{IsLaid, all_laid, are_pages}
use Rattle.space_builder.proofs.layout.File.{one_page}
use Rattle.space_builder.proofs.Puts.{ArePut, HaveOtherNumbers, both_put, keeps_wider}
use Rattle.space_builder.proofs.PutSteps.{AreSome, has_page, some_among}

-- the same pages in another order
pub same_put : {T : Type 0} (g : StoreOf T) (old now : T) (pages all : List Numbered) → AreSome pages all
    → AreSome all pages → ArePut g old now pages → ArePut g old now all
same_put g old now pages all some every put = record {
  held = map_told (g.told now).held
      (λ held each k d below.
      All-contains (IsHeld held) pages (get_or all k d) each
      (every (get_or all k d) (Contains-get_or all k d below)))
      put.held;
  others = keeps_wider (numbers_of pages) (numbers_of all) (g.told old) (g.told now) (some_among pages all some)
      put.others;
  later = put.later;
}

-- the map of these pages
abbrev pub map_of : List Numbered → PageMap
map_of pages = from_entries pages

-- a map of pages that a map holds has these, and no others
says : (held : PageMap) (pages : List Numbered) (n : ℕ) → All (IsHeld held) pages
    → (get (map_of pages) n ≡ get held n)
    ⊎ ((get (map_of pages) n ≡ None) × (¬ (Contains (numbers_of pages) n)))
says held [] n all = inr (get-empty nat_cmp n, contains_none n)
says held (x ∷ pages) n all =
    let put = get-insert_at (map_of pages) x.0 x.1 n in
    elim (eqb_tells n x.0) [
      | inl same ↦
          inl (put ∙ ap (λ b. cond b (Some x.1) (get (map_of pages) n)) same.0
          ∙ sym (ap (get held) same.1 ∙ All-head (IsHeld held) x pages all))
      | inr differ ↦
          let behind = put ∙ ap (λ b. cond b (Some x.1) (get (map_of pages) n)) differ.0 in
          elim (says held pages n (All-tail (IsHeld held) x pages all)) [
            | inl alike ↦ inl (behind ∙ alike)
            | inr none ↦ inr (
              behind ∙ none.0,
              λ among. elim (contains_cases x.0 (numbers_of pages) n among) [
                | inl here ↦ differ.1 (sym here)
                | inr there ↦ none.1 there
              ],
            )
          ]
    ]

pub map_is : (held : PageMap) (pages : List Numbered) → All (IsHeld held) pages
    → ((n : ℕ) → ¬ (Contains (numbers_of pages) n) → get held n ≡ None) → held ≡ map_of pages
map_is held pages all none =
    same_map nat_cmp_total nat_cmp-IsAntisymmetric held (map_of pages)
    (λ n. elim (says held pages n all) [
      | inl alike ↦ sym alike
      | inr out ↦ none n out.1 ∙ sym out.0
    ])

-- a fresh store in which these pages are put
fresh_kept : (numbers : List ℕ) (old new : Option PageMap) → IfSome old (λ held. held ≡ empty)
    → HoldsAllBut numbers old new
    → IfSome new (λ held. (n : ℕ) → ¬ (Contains numbers n) → get held n ≡ None)
fresh_kept numbers None new fresh kept =
    subst (λ (o : Option PageMap). IfSome o (λ held. (n : ℕ) → ¬ (Contains numbers n) → get held n ≡ None)) (sym kept)
    tt
fresh_kept numbers (Some old) new fresh kept =
    subst (λ (o : Option PageMap). IfSome o (λ held. (n : ℕ) → ¬ (Contains numbers n) → get held n ≡ None))
    (sym kept.1)
    (λ n other. kept.2 n other ∙ ap (λ (map : PageMap). get map n) fresh ∙ get-empty nat_cmp n)

told_is : (pages : List Numbered) (old new : Option PageMap) → IfSome old (λ held. held ≡ empty)
    → HoldsAllBut (numbers_of pages) old new → IfSome new (λ held. All (IsHeld held) pages)
    → IsTold old new (map_of pages)
told_is pages None new fresh kept held = kept
told_is pages (Some old) new fresh kept held =
    kept.1 ∙ ap (λ (map : PageMap). Some map) (map_is kept.0 pages here none)
  where
    here : All (IsHeld kept.0) pages
    here = subst (λ (o : Option PageMap). IfSome o (λ held. All (IsHeld held) pages)) kept.1 held

    none : (n : ℕ) → ¬ (Contains (numbers_of pages) n) → get kept.0 n ≡ None
    none n other = kept.2 n other ∙ ap (λ (map : PageMap). get map n) fresh ∙ get-empty nat_cmp n

-- what is told stays told along several steps
pub told_over : {A : Type 0} (old now new : Option A) (x y : A) → IsTold old now x → new ≡ now → x ≡ y
    → IsTold old new y
told_over None now new x y told same is = same ∙ told
told_over {A} (Some old) now new x y told same is = same ∙ told ∙ ap (λ (v : A). Some v) is

-- the store takes the pages once its size is set
pub takes_sized : (old now : Store) (sizes : List ℕ) (pages : ℕ) → IsShape sizes → pages ≡ space_pages sizes
    → IsTold old.size now.size pages → TakesPages now sizes
takes_sized old now sizes pages shape is told = record { shape = shape; below = below_size old.size now.size told }
  where
    below_size : (old now : Option ℕ) → IsTold old now pages → IfSome now (λ size. space_pages sizes ≤ size)
    below_size None now told = subst (λ (o : Option ℕ). IfSome o (λ size. space_pages sizes ≤ size)) (sym told) tt
    below_size (Some size) now told =
        subst (λ (o : Option ℕ). IfSome o (λ size. space_pages sizes ≤ size)) (sym told) (omega arith)

-- a fresh store that keeps all but pages with other numbers lacks page 0
pub lacks_head : (numbers : List ℕ) (old now : Option PageMap) → IfSome old (λ held. held ≡ empty)
    → HoldsAllBut numbers old now → ¬ (Contains numbers 0) → IfSome now (λ held. IsNone (get held 0))
lacks_head numbers old now fresh kept other =
    map_told now (λ held none. ap is_some (none 0 other)) (fresh_kept numbers old now fresh kept)

pub only_member : {A : Type 0} (x y : A) → Contains (x ∷ []) y → x ≡ y
only_member x y among =
    elim (contains_cases x [] y among) [ inl same ↦ same | inr none ↦ absurd (contains_none y none) ]

pair_same : (a b : Numbered) → a.0 ≡ b.0 → a.1 ≡ b.1 → a ≡ b
pair_same a b number page = ap (λ (n : ℕ). (n, a.1)) number ∙ ap (λ (p : List ℕ). (b.0, p)) page

module _ (laws : LowerLaws) (table : TableDef) (rows : Rows) (can : CanBuild table rows) where
  abbrev sizes : List ℕ
  sizes = segment_sizes table rows

  abbrev head_page : Numbered
  head_page = (0, header_page sizes (flags_of table.format))

  abbrev behind : List Numbered
  behind = pages_behind_head table rows

  abbrev all_pages : List Numbered
  all_pages = numbered_pages sizes (flags_of table.format) (segment_pages table rows)

  -- the pages of segments lie behind the first three, and those with one number are one
  pub segment_low : (page : Numbered) → Contains (segment_pages table rows) page → 3 ≤ page.0
  segment_low page among =
      let is = All-contains (IsNumbered sizes) (segment_pages table rows) page
      (are_pages laws table rows can).each among in
      (numbers laws table rows can).low is.segment is.at page.0 is.place

  pub segment_one : HaveOnePage (segment_pages table rows)
  segment_one a b first second same =
      let laid = all_laid laws table rows can in
      let at_a = All-contains (IsLaid table rows) (segment_pages table rows) a laid first in
      let at_b = All-contains (IsLaid table rows) (segment_pages table rows) b laid second in
      let there : IsLaid table rows (a.0, b.1) =
      subst (λ (n : ℕ). IsLaid table rows (n, b.1)) (sym same) at_b in
      pair_same a b same (one_page laws table rows can a.0 a.1 b.1 at_a there)

  system_is : (page : Numbered) → Contains (system_pages sizes) page
      → (page ≡ (2, inode_page sizes)) ⊎ (page ≡ (1, bitmap_page))
  system_is page among =
      elim (contains_cases (2, inode_page sizes) ((1, bitmap_page) ∷ []) page among) [
        | inl second ↦ inl (sym second)
        | inr later ↦ inr (sym (only_member (1, bitmap_page) page later))
      ]

  pub behind_one : HaveOnePage behind
  behind_one a b first second same =
      elim (Contains-append_cases (segment_pages table rows) (system_pages sizes) a first) [
        | inl a_segment ↦
            elim (Contains-append_cases (segment_pages table rows) (system_pages sizes) b second) [
              | inl b_segment ↦ segment_one a b a_segment b_segment same
              | inr b_system ↦
                  absurd (segment_or_system a.0 b (segment_low a a_segment) same (system_is b b_system))
            ]
        | inr a_system ↦
            elim (Contains-append_cases (segment_pages table rows) (system_pages sizes) b second) [
              | inl b_segment ↦
                  absurd (segment_or_system b.0 a (segment_low b b_segment) (sym same) (system_is a a_system))
              | inr b_system ↦ system_one a b (system_is a a_system) (system_is b b_system) same
            ]
      ]
    where
      segment_or_system : (n : ℕ) (page : Numbered) → 3 ≤ n → n ≡ page.0
          → (page ≡ (2, inode_page sizes)) ⊎ (page ≡ (1, bitmap_page)) → ⊥
      segment_or_system n page low same (inl is) =
          let number : page.0 ≡ 2 = ap (λ (page : Numbered). page.0) is in absurd (omega arith)
      segment_or_system n page low same (inr is) =
          let number : page.0 ≡ 1 = ap (λ (page : Numbered). page.0) is in absurd (omega arith)

      system_one : (a b : Numbered) → (a ≡ (2, inode_page sizes)) ⊎ (a ≡ (1, bitmap_page))
          → (b ≡ (2, inode_page sizes)) ⊎ (b ≡ (1, bitmap_page)) → a.0 ≡ b.0 → a ≡ b
      system_one a b (inl first) (inl second) same = first ∙ sym second
      system_one a b (inr first) (inr second) same = first ∙ sym second
      system_one a b (inl first) (inr second) same =
          let two : a.0 ≡ 2 = ap (λ (page : Numbered). page.0) first in
          let one : b.0 ≡ 1 = ap (λ (page : Numbered). page.0) second in
          absurd (omega arith)
      system_one a b (inr first) (inl second) same =
          let one : a.0 ≡ 1 = ap (λ (page : Numbered). page.0) first in
          let two : b.0 ≡ 2 = ap (λ (page : Numbered). page.0) second in
          absurd (omega arith)

  not_head : ¬ (Contains (numbers_of behind) 0)
  not_head among =
      let has = has_page behind 0 among in
      let number = has.number in
      elim (Contains-append_cases (segment_pages table rows) (system_pages sizes) has.page has.is) [
        | inl segment ↦ (let low = segment_low has.page segment in absurd (omega arith))
        | inr system ↦ system_head has.page has.number (system_is has.page system)
      ]
    where
      system_head : (page : Numbered) → page.0 ≡ 0
          → (page ≡ (2, inode_page sizes)) ⊎ (page ≡ (1, bitmap_page)) → ⊥
      system_head page none (inl is) =
          let number : page.0 ≡ 2 = ap (λ (page : Numbered). page.0) is in absurd (omega arith)
      system_head page none (inr is) =
          let number : page.0 ≡ 1 = ap (λ (page : Numbered). page.0) is in absurd (omega arith)

  -- the pages as they are put, and as they are numbered
  all_put : AreSome (behind ++ head_page ∷ []) all_pages
  all_put page among =
      elim (Contains-append_cases behind (head_page ∷ []) page among) [
        | inl before ↦
            elim (Contains-append_cases (segment_pages table rows) (system_pages sizes) page before) [
              | inl segment ↦
                  contains_there head_page ((1, bitmap_page) ∷ (2, inode_page sizes) ∷ segment_pages table rows) page
                  (contains_there (1, bitmap_page) ((2, inode_page sizes) ∷ segment_pages table rows) page
                  (contains_there (2, inode_page sizes) (segment_pages table rows) page segment))
              | inr system ↦ system_put page (system_is page system)
            ]
        | inr head ↦
            subst (Contains all_pages) (only_member head_page page head)
            (contains_here head_page ((1, bitmap_page) ∷ (2, inode_page sizes) ∷ segment_pages table rows))
      ]
    where
      system_put : (page : Numbered) → (page ≡ (2, inode_page sizes)) ⊎ (page ≡ (1, bitmap_page))
          → Contains all_pages page
      system_put page (inl is) =
          subst (Contains all_pages) (sym is)
          (contains_there head_page ((1, bitmap_page) ∷ (2, inode_page sizes) ∷ segment_pages table rows)
          (2, inode_page sizes)
          (contains_there (1, bitmap_page) ((2, inode_page sizes) ∷ segment_pages table rows) (2, inode_page sizes)
          (contains_here (2, inode_page sizes) (segment_pages table rows))))
      system_put page (inr is) =
          subst (Contains all_pages) (sym is)
          (contains_there head_page ((1, bitmap_page) ∷ (2, inode_page sizes) ∷ segment_pages table rows)
          (1, bitmap_page)
          (contains_here (1, bitmap_page) ((2, inode_page sizes) ∷ segment_pages table rows)))

  abbrev behind_numbered : List Numbered
  behind_numbered = (1, bitmap_page) ∷ (2, inode_page sizes) ∷ segment_pages table rows

  behind_put : AreSome behind_numbered behind
  behind_put page among =
      elim (contains_cases (1, bitmap_page) ((2, inode_page sizes) ∷ segment_pages table rows) page among) [
        | inl is ↦
            subst (Contains behind) is
            (Contains-append_right (segment_pages table rows) (system_pages sizes) (1, bitmap_page)
            (contains_there (2, inode_page sizes) ((1, bitmap_page) ∷ []) (1, bitmap_page)
            (contains_here (1, bitmap_page) [])))
        | inr later ↦
            elim (contains_cases (2, inode_page sizes) (segment_pages table rows) page later) [
              | inl is ↦
                  subst (Contains behind) is
                  (Contains-append_right (segment_pages table rows) (system_pages sizes) (2, inode_page sizes)
                  (contains_here (2, inode_page sizes) ((1, bitmap_page) ∷ [])))
              | inr segment ↦ Contains-append_left (segment_pages table rows) (system_pages sizes) page segment
            ]
      ]

  put_all : AreSome all_pages (behind ++ head_page ∷ [])
  put_all page among =
      elim (contains_cases head_page behind_numbered page among) [
        | inl head ↦
            subst (Contains (behind ++ head_page ∷ [])) head
            (Contains-append_right behind (head_page ∷ []) head_page (contains_here head_page []))
        | inr later ↦ Contains-append_left behind (head_page ∷ []) page (behind_put page later)
      ]

  -- the store after a size was set, all pages behind page 0 were put, and page 0
  module _ {T : Type 0} (g : StoreOf T) (old sized : T) (pages : ℕ) (fresh : IsFresh (g.told old))
      (asks : Asks (g.told old) (g.told sized) pages) (size : pages ≡ layout_size table rows) where
    fresh_sized : IfSome (g.told sized).held (λ held. held ≡ empty)
    fresh_sized = subst (λ (o : Option PageMap). IfSome o (λ held. held ≡ empty)) (sym asks.held) fresh.held

    told_asked : (new : T) → KeepsSizes (g.told sized) (g.told new)
        → IsTold (g.told old).asked (g.told new).asked (Some (layout_size table rows))
    told_asked new keeps =
        told_over (g.told old).asked (g.told sized).asked (g.told new).asked (Some pages)
        (Some (layout_size table rows)) asks.asked keeps.asked (ap (λ (n : ℕ). Some n) size)

    -- nothing was put yet, or not all pages behind page 0
    pub lacks_behind : (new : T) → KeepsAllBut (numbers_of behind) (g.told sized) (g.told new)
        → LacksHead (g.told new)
    lacks_behind new kept =
        lacks_head (numbers_of behind) (g.told sized).held (g.told new).held fresh_sized kept.others not_head

    pub part_behind : (new : T) → KeepsAllBut (numbers_of behind) (g.told sized) (g.told new)
        → HoldsPart table rows (g.told old) (g.told new)
    part_behind new kept = record {
      asked = told_asked new kept.sizes;
      held = map_told (g.told new).held (λ held none. inl none) (lacks_behind new kept);
    }

    pub sized_behind : (new : T) → IsTold (g.told old).size (g.told sized).size pages
        → KeepsAllBut (numbers_of behind) (g.told sized) (g.told new)
        → IsSizedFor table rows (g.told old) (g.told new)
    sized_behind new told kept = record {
      asked = told_asked new kept.sizes;
      size = told_over (g.told old).size (g.told sized).size (g.told new).size pages (layout_size table rows) told
          kept.sizes.size size;
      head = lacks_behind new kept;
    }

    -- page 0 couldn't be put behind all others
    others_stay : (now new : Option PageMap) → IfSome now (λ held. All (IsHeld held) behind)
        → HoldsAllBut (0 ∷ []) now new
        → IfSome new (λ held. (n : ℕ) → n ≢ 0 → IsSome (get (layout_map table rows) n)
        → get held n ≡ get (layout_map table rows) n)
    unfolding layout_map numbered_map
    others_stay None new held kept =
        subst (λ (o : Option PageMap). IfSome o (λ held. (n : ℕ) → n ≢ 0 → IsSome (get (layout_map table rows) n)
        → get held n ≡ get (layout_map table rows) n)) (sym kept) tt
    others_stay (Some now) new held kept =
        subst (λ (o : Option PageMap). IfSome o (λ held. (n : ℕ) → n ≢ 0 → IsSome (get (layout_map table rows) n)
        → get held n ≡ get (layout_map table rows) n)) (sym kept.1)
        (λ n other some. kept.2 n (λ among. other (sym (only_member 0 n among)))
        ∙ by_says now n other some (says now behind_numbered n (all_behind now held)))
      where
        all_behind : (now : PageMap) → All (IsHeld now) behind → All (IsHeld now) behind_numbered
        all_behind now held k d below =
            All-contains (IsHeld now) behind (get_or behind_numbered k d) held
            (behind_put (get_or behind_numbered k d) (Contains-get_or behind_numbered k d below))

        map_behind : (n : ℕ) → n ≢ 0 → get (layout_map table rows) n ≡ get (map_of behind_numbered) n
        map_behind n other =
            get-insert_at (map_of behind_numbered) 0 (header_page sizes (flags_of table.format)) n
            ∙ ap (λ b. cond b (Some (header_page sizes (flags_of table.format))) (get (map_of behind_numbered) n))
            (ne_eqb n 0 other)

        by_says : (now : PageMap) (n : ℕ) → n ≢ 0 → IsSome (get (layout_map table rows) n)
            → (get (map_of behind_numbered) n ≡ get now n)
            ⊎ ((get (map_of behind_numbered) n ≡ None)
            × (¬ (Contains (numbers_of behind_numbered) n)))
            → get now n ≡ get (layout_map table rows) n
        by_says now n other some (inl alike) = sym (map_behind n other ∙ alike)
        by_says now n other some (inr none) =
            absurd (false≢true (sym (ap is_some (map_behind n other ∙ none.0)) ∙ some))

    both_kept : (now new : T) → ArePut g sized now behind → KeepsAllBut (0 ∷ []) (g.told now) (g.told new)
        → KeepsSizes (g.told sized) (g.told new)
    both_kept now new put kept = record {
      size = kept.sizes.size ∙ put.others.sizes.size;
      asked = kept.sizes.asked ∙ put.others.sizes.asked;
    }

    pub part_head : (now new : T) → ArePut g sized now behind → KeepsAllBut (0 ∷ []) (g.told now) (g.told new)
        → HoldsPart table rows (g.told old) (g.told new)
    part_head now new put kept = record {
      asked = told_asked new (both_kept now new put kept);
      held = map_told (g.told new).held (λ held others. inr others)
          (others_stay (g.told now).held (g.told new).held put.held kept.others);
    }

    -- it could
    pub holds_layout : (now new : T) → IsTold (g.told old).size (g.told sized).size pages → ArePut g sized now behind
        → ArePut g now new (head_page ∷ []) → HoldsLayout table rows (g.told old) (g.told new)
    unfolding layout_map numbered_map
    holds_layout now new told put head =
        let keeps = both_kept now new put head.others in
        let both = both_put g sized now new behind (head_page ∷ []) head_differs put head in
        let all = same_put g sized new (behind ++ head_page ∷ []) all_pages all_put put_all both in
        record {
          size = told_over (g.told old).size (g.told sized).size (g.told new).size pages (layout_size table rows) told
              keeps.size size;
          held = subst (λ (o : Option PageMap). IsTold o (g.told new).held (layout_map table rows)) asks.held
              (told_is all_pages (g.told sized).held (g.told new).held fresh_sized all.others.others all.held);
        }
      where
        head_differs : HaveOtherNumbers behind (head_page ∷ [])
        head_differs n among is = not_head (subst (Contains (numbers_of behind)) (sym (only_member 0 n is)) among)
