-- What is read and judged of a value in one file is so in another one that has the same pages of it.
use Rattle.std.proofs.Common.{◌≡◌, ℕ, zero, suc, ◌-◌, ◌<◌, ◌&&◌, ◌==◌, not, Bool, true, false, cond, List, [], ◌∷◌}
use Rattle.std.proofs.Common.{◌++◌, length, take, get_or, flat_map, sum_by, Contains, Option, Some, None}
use Rattle.std.proofs.Common.{refl, sym, ap, ap₂, ◌∙◌, subst, arith}
use Rattle.std.proofs.lemmas.List.Sums.{sum_by-cons}
use Rattle.std.proofs.lemmas.List.Elements.{Contains-get_or}
use Rattle.page_source.specs.Pages.{page_of}
use Rattle.page_source.specs.Verdict.{EachOf}
use Rattle.page_source.proofs.Members.{contains_here, contains_there}
use Rattle.column_values.specs.declared.kind.ColumnType.{ColumnType}
use Rattle.column_values.specs.declared.value.Value.{Value}
use Rattle.column_values.specs.Spell.{Spell}
use Rattle.fil_frame.specs.Kinds.{blob_kind}
use Rattle.fil_frame.specs.Frame.{IsFramed, space_of, kind_of}
use Rattle.offpage_chain.specs.declared.reference.Reference.{Reference}
use Rattle.offpage_chain.specs.Reference.{reference_of}
use Rattle.offpage_chain.specs.Chain.{part_length, next_part, part_bytes, pages_from, chain_pages, bytes_on, total_on}
use Rattle.offpage_chain.specs.ChainChecks.{IsChainPart}
use Rattle.offpage_chain.specs.Reader.{GoesOn}
use Rattle.table_check.specs.Values.{pages_of_value, front_of, IsTextBehind}
use Rattle.sql_dump.specs.Cells.{CellView, ReadsValue, local_bytes, pages_of_cell}
use Rattle.sql_dump.specs.Long.{chain_bytes, whole_bytes}
use Rattle.leaf_salvage.specs.Standing.{reach_of}
use Rattle.salvage_model.specs.declared.loss.Loss.{Loss}
use Rattle.salvage_model.specs.ColumnChecks.{GoesOn as CellGoesOn, PartCheck, PartsChecksBy, PartsChecks, CellChecks}
use Rattle.salvage_model.specs.Judged.{Judged, IsJudged, lost_by}
use Rattle.salvage_model.specs.SavedRow.{SavesValue}
use Rattle.salvage_laws.proofs.Lists.{contains_take}
use Rattle.salvage_laws.proofs.Used.{all_fetched}

-- pages of which the same is told
flat_same : {X Y : Type 0} (f g : X → List Y) (xs : List X) → ((x : X) → Contains xs x → f x ≡ g x)
    → flat_map f xs ≡ flat_map g xs
flat_same f g [] same = refl
flat_same {Y = Y} f g (x ∷ xs) same =
    ap₂ (λ (a b : List Y). a ++ b) (same x (contains_here x xs))
    (flat_same f g xs (λ y c. same y (contains_there x xs y c)))

sum_same : {X : Type 0} (f g : X → ℕ) (xs : List X) → ((x : X) → Contains xs x → f x ≡ g x)
    → sum_by f xs ≡ sum_by g xs
sum_same f g [] same = refl
sum_same f g (x ∷ xs) same =
    let here = same x (contains_here x xs) in
    let rest = sum_same f g xs (λ y c. same y (contains_there x xs y c)) in
    let a = sum_by-cons f x xs in
    let b = sum_by-cons g x xs in
    omega (arith, here, rest, a, b)

-- the other file has this page, with the same bytes
pub record IsSame (file other : List ℕ) (n : ℕ) : Type 0 where
  pub below : n < reach_of other
  pub bytes : page_of other n ≡ page_of file n

-- and so each of these
abbrev pub AreSame : List ℕ → List ℕ → List ℕ → Type 0
AreSame file other pages = (n : ℕ) → Contains pages n → IsSame file other n

-- the pages of a chain that come after page n
abbrev behind : List ℕ → ℕ → ℕ → ℕ → List ℕ
behind any most n left = pages_from any most (next_part (page_of any n)) (left - part_length (page_of any n))

module _ (file other : List ℕ) where
  -- a chain has the same pages
  from_same : (most n left : ℕ) → AreSame file other (pages_from file most n left)
      → pages_from other most n left ≡ pages_from file most n left
  from_same zero n left same = refl
  from_same (suc most) n left same =
      by_test (left == 0) (from_same most (next_part (page_of file n)) (left - part_length (page_of file n))) same
    where
      by_test : (b : Bool)
          → (AreSame file other (behind file most n left)
          → pages_from other most (next_part (page_of file n)) (left - part_length (page_of file n))
          ≡ behind file most n left)
          → AreSame file other (cond b [] (n ∷ behind file most n left))
          → cond b [] (n ∷ behind other most n left) ≡ cond b [] (n ∷ behind file most n left)
      by_test true rest same = refl
      by_test false rest same =
          ap (λ (page : List ℕ). n ∷ pages_from other most (next_part page) (left - part_length page))
          (same n (contains_here n (behind file most n left))).bytes
          ∙ ap (λ (pages : List ℕ). n ∷ pages)
          (rest (λ m c. same m (contains_there n (behind file most n left) m c)))

  chain_same : (reference : Reference) → AreSame file other (chain_pages file reference)
      → chain_pages other reference ≡ chain_pages file reference
  unfolding chain_pages
  chain_same reference same = from_same reference.length reference.page reference.length same

  total_same : (pages : List ℕ) → AreSame file other pages → total_on other pages ≡ total_on file pages
  unfolding total_on
  total_same pages same =
      sum_same (λ n. part_length (page_of other n)) (λ n. part_length (page_of file n)) pages
      (λ n c. ap part_length (same n c).bytes)

  bytes_same : (pages : List ℕ) → AreSame file other pages → bytes_on other pages ≡ bytes_on file pages
  unfolding bytes_on
  bytes_same pages same =
      flat_same (λ n. part_bytes (page_of other n)) (λ n. part_bytes (page_of file n)) pages
      (λ n c. ap part_bytes (same n c).bytes)

  chain_bytes_same : (reference : Reference) → AreSame file other (chain_pages file reference)
      → bytes_on other (chain_pages other reference) ≡ bytes_on file (chain_pages file reference)
  chain_bytes_same reference same =
      ap (bytes_on other) (chain_same reference same) ∙ bytes_same (chain_pages file reference) same

  -- its checks hold
  part_moves : (space leaf : ℕ) (reference : Reference) (taken : ℕ → Bool) (before : List ℕ) (n : ℕ)
      → IsSame file other n → AreSame file other before
      → PartCheck file all_fetched space leaf reference taken before n None
      → PartCheck other all_fetched space leaf reference taken before n None
  part_moves space leaf reference taken before n here same h = (
    record { below = here.below; new = h.0.new },
    (
      h.1.0,
      (
        subst (λ (page : List ℕ). IsFramed page n space) (sym here.bytes) h.1.1.0,
        (
          subst (λ (page : List ℕ). kind_of page ≡ blob_kind) (sym here.bytes) h.1.1.1.0,
          subst (λ (page : List ℕ). IsChainPart page (reference.length - total_on other before)) (sym here.bytes)
              (subst (λ (t : ℕ). IsChainPart (page_of file n) (reference.length - t)) (sym (total_same before same))
              h.1.1.1.1),
        ),
      ),
    ),
  )

  parts_move : (space leaf : ℕ) (kind : ColumnType) (local : List ℕ) (taken : ℕ → Bool)
      → AreSame file other (chain_pages file (reference_of local))
      → PartsChecks file all_fetched space leaf kind local taken None
      → PartsChecks other all_fetched space leaf kind local taken None
  unfolding PartsChecksBy
  parts_move space leaf kind local taken same h =
      let reference = reference_of local in
      let pages = chain_pages file reference in (
        h.0,
        (
          h.1.0,
          (
            subst (λ (list : List ℕ). EachOf list (PartCheck other all_fetched space leaf reference taken) None)
                (sym (chain_same reference same))
                (λ j d below.
                part_moves space leaf reference taken (take j pages) (get_or pages j d)
                (same (get_or pages j d) (Contains-get_or pages j d below))
                (λ m c. same m (contains_take j pages m c)) (h.1.1.0 j d below)),
            subst (IsTextBehind kind local) (sym (chain_bytes_same reference same)) h.1.1.1,
          ),
        ),
      )

  -- the pages of a column that goes on
  cell_chain : (any : List ℕ) (cell : CellView) → CellGoesOn cell
      → pages_of_cell any cell ≡ chain_pages any (reference_of (local_bytes cell))
  cell_chain any cell goes =
      ap (λ (u : Bool). pages_of_value any (local_bytes cell) (not u && cell.place.external)) goes.some_value
      ∙ ap (λ (e : Bool). pages_of_value any (local_bytes cell) e) goes.external

  long_same : (cell : CellView) → AreSame file other (pages_of_cell file cell) → CellGoesOn cell
      → AreSame file other (chain_pages file (reference_of (local_bytes cell)))
  long_same cell same goes m c =
      same m (subst (λ (pages : List ℕ). Contains pages m) (sym (cell_chain file cell goes)) c)

  cell_same : (cell : CellView) → AreSame file other (pages_of_cell file cell)
      → pages_of_cell other cell ≡ pages_of_cell file cell
  cell_same cell same = by_test (not cell.place.null && cell.place.external) same
    where
      by_test : (b : Bool) → AreSame file other (pages_of_value file (local_bytes cell) b)
          → pages_of_value other (local_bytes cell) b ≡ pages_of_value file (local_bytes cell) b
      by_test true same = chain_same (reference_of (local_bytes cell)) same
      by_test false same = refl

  cell_moves : (leaf : ℕ) (cell : CellView) (taken : ℕ → Bool) → AreSame file other (pages_of_cell file cell)
      → CellChecks file all_fetched leaf cell taken None → CellChecks other all_fetched leaf cell taken None
  cell_moves leaf cell taken same h = (
    h.0,
    λ goes. parts_move (space_of cell.page) leaf cell.kind (local_bytes cell) taken (long_same cell same goes)
        (h.1 goes),
  )

  -- so a column that is whole is so judged
  pub judged_moves : (leaf : ℕ) (cell : CellView) (taken : ℕ → Bool) (judged : Judged) → judged.loss ≡ None
      → AreSame file other (pages_of_cell file cell) → IsJudged file all_fetched leaf cell taken judged
      → IsJudged other all_fetched leaf cell taken judged
  judged_moves leaf cell taken judged none same h = record {
    checks = subst (λ (loss : Option Loss). CellChecks other all_fetched leaf cell taken (lost_by loss judged.looked))
        (sym none)
        (cell_moves leaf cell taken same
        (subst (λ (loss : Option Loss). CellChecks file all_fetched leaf cell taken (lost_by loss judged.looked)) none
        h.checks));
    whole = λ e. h.whole e ∙ sym (cell_same cell same);
  }

  -- and is read as the same value
  goes_moves : (n left : ℕ) (pages : List ℕ) → AreSame file other pages → GoesOn file n left pages
      → GoesOn other n left pages
  goes_moves n left [] same g = g
  goes_moves n left (p ∷ pages) same g =
      let here = same p (contains_here p pages) in (
        g.0,
        omega (arith, here.below),
        subst (λ (page : List ℕ). IsChainPart page left) (sym here.bytes) g.2,
        subst (λ (page : List ℕ). GoesOn other (next_part page) (left - part_length page) pages) (sym here.bytes)
            (goes_moves (next_part (page_of file p)) (left - part_length (page_of file p)) pages
            (λ m c. same m (contains_there p pages m c)) g.3),
      )

  reads_move : (cell : CellView) (value : Value) → AreSame file other (pages_of_cell file cell)
      → ReadsValue file cell value → ReadsValue other cell value
  unfolding chain_bytes
  reads_move cell value same h = record {
    null = h.null;
    local = h.local;
    long = λ some external.
        let long = h.long some external in
        let reference = reference_of (local_bytes cell) in
        let pages = long_same cell same (record { some_value = some; external = external }) in
        let bytes : whole_bytes other (local_bytes cell) ≡ whole_bytes file (local_bytes cell) =
        ap (λ (rest : List ℕ). front_of (local_bytes cell) ++ rest) (chain_bytes_same reference pages) in
        record {
          fits = long.fits;
          follow = record {
            goes_on = subst (λ (list : List ℕ). GoesOn other reference.page reference.length list)
                (sym (chain_same reference pages))
                (goes_moves reference.page reference.length (chain_pages file reference) pages long.follow.goes_on);
          };
          size = ap length bytes ∙ long.size;
          spelled = subst (Spell cell.kind value) (sym bytes) long.spelled;
        };
  }

  pub saves_move : (cell : CellView) (loss : Option Loss) (value : Option Value)
      → AreSame file other (pages_of_cell file cell) → SavesValue file cell loss value
      → SavesValue other cell loss value
  saves_move cell None (Some value) same h = reads_move cell value same h
  saves_move cell None None same h = h
  saves_move cell (Some loss) None same h = h
  saves_move cell (Some loss) (Some value) same h = h
