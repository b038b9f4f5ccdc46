-- With which leaf entries the pages of a level begin: the pointers to them have their keys.
use Rattle.std.proofs.Common.{◌≡◌, ℕ, zero, suc, ◌+◌, ◌<◌, ◌≤◌, List, [], ◌∷◌}
use Rattle.std.proofs.Common.{length, map, get_or, take, slice_index}
use Rattle.std.proofs.Common.{sym, ap, ◌∙◌, subst, arith}
use Rattle.std.proofs.lemmas.List.{length-map}
use Rattle.std.proofs.lemmas.List.{get_or-map}
use Rattle.column_values.specs.Types.{Fields}
use Rattle.page_packer.specs.Entries.{Entry, entry_at}
use Rattle.tree_layout.specs.Division.{Level, divided}
use Rattle.tree_layout.specs.Division.{pointers_to}
use Rattle.tree_layout.specs.Levels.{level_at}
use Rattle.tree_layout.specs.Steps.{StandOnEachOther}
use Rattle.tree_layout.proofs.Rise.{key_of_pointer}
use Rattle.space_builder.specs.declared.entries.Pointer.{Pointer}
use Rattle.space_builder.specs.calls.Pointing.{pointing, pointer_at, PointInto}
use Rattle.space_builder.specs.calls.TreePlan.{BeginAt}

-- each level has the pointers to the one below it
pub stand_at : (node : Fields) (numbers : ℕ → ℕ → ℕ) (levels : List Level) (level l : ℕ)
    → StandOnEachOther node numbers level levels → l + 1 < length levels
    → level_at levels (l + 1) ≡ divided node (pointers_to node.keys (level_at levels l) (numbers (level + l)))
stand_at node numbers [] level l stands inside = absurd (omega arith)
stand_at node numbers (pages ∷ []) level l stands inside = absurd (omega arith)
stand_at node numbers (pages ∷ next ∷ rest) level zero stands inside =
    let here : level ≡ level + 0 = omega arith in
    stands.1 ∙ ap (λ n. divided node (pointers_to node.keys pages (numbers n))) here
stand_at node numbers (pages ∷ next ∷ rest) level (suc l) stands inside =
    let more : suc l + 1 ≡ suc (l + 1) = omega arith in
    let here : level + 1 + l ≡ level + suc l = omega arith in
    ap (level_at (pages ∷ next ∷ rest)) more
    ∙ stand_at node numbers (next ∷ rest) (level + 1) l stands.2 (omega arith)
    ∙ ap (λ n. divided node (pointers_to node.keys (level_at (next ∷ rest) l) (numbers n))) here

abbrev pub no_pointer : Pointer
no_pointer = record { first = 0; page = 0 }

-- the pages of a level begin with the keys of these leaf entries
pub record AreFirsts (keys : ℕ) (leaves : List Entry) (pages : Level) (firsts : List ℕ) : Type 0 where
  pub count : length firsts ≡ length pages
  pub below : (k : ℕ) → k < length pages → slice_index firsts k < length leaves
  pub key : (k : ℕ) → k < length pages
      → take keys (entry_at (get_or pages k []) 0) ≡ take keys (entry_at leaves (slice_index firsts k))

-- no page is empty
abbrev pub AreFilled : Level → Type 0
AreFilled pages = (k : ℕ) → k < length pages → 0 < length (get_or pages k [])

pub leaf_firsts : (keys : ℕ) (leaves : List Entry) (pages : Level) (starts : List ℕ) → AreFilled pages
    → BeginAt leaves pages starts → AreFirsts keys leaves pages starts
leaf_firsts keys leaves pages starts filled begins = record {
  count = begins.count;
  below = λ k inside. (begins.each k inside (filled k inside)).0;
  key = λ k inside. ap (take keys) (begins.each k inside (filled k inside)).1;
}

-- the pages above begin with the keys of the pages below
pub upper_firsts : (keys : ℕ) (leaves : List Entry) (pointers : List Pointer) (pages : Level) (starts firsts : List ℕ)
    → ((i : ℕ) → i < length leaves → keys ≤ length (entry_at leaves i)) → AreFilled pages → PointInto leaves pointers
    → BeginAt (map (pointing keys leaves) pointers) pages starts
    → firsts ≡ map (λ s. (pointer_at pointers s).first) starts → AreFirsts keys leaves pages firsts
upper_firsts keys leaves pointers pages starts firsts long filled into begins same =
    let size = length-map starts (λ s. (pointer_at pointers s).first) in
    let all = ap length same in
    let count = begins.count in record {
      count = omega arith;
      below = λ k inside. subst (λ n. n < length leaves) (sym (first_is k inside)) (low k inside);
      key = λ k inside.
          ap (take keys) (begins.each k inside (filled k inside)).1
          ∙ ap (take keys) (get_or-map (pointing keys leaves) pointers (slice_index starts k) no_pointer []
          (inner k inside))
          ∙ key_of_pointer keys (entry_at leaves (pointer_at pointers (slice_index starts k)).first)
          (pointer_at pointers (slice_index starts k)).page
          (long (pointer_at pointers (slice_index starts k)).first (low k inside))
          ∙ ap (λ n. take keys (entry_at leaves n)) (sym (first_is k inside));
    }
  where
    inner : (k : ℕ) → k < length pages → slice_index starts k < length pointers
    inner k inside =
        let size = length-map pointers (pointing keys leaves) in
        let below = (begins.each k inside (filled k inside)).0 in
        omega arith

    low : (k : ℕ) → k < length pages → (pointer_at pointers (slice_index starts k)).first < length leaves
    low k inside = into (slice_index starts k) no_pointer (inner k inside)

    first_is : (k : ℕ) → k < length pages → slice_index firsts k ≡ (pointer_at pointers (slice_index starts k)).first
    first_is k inside =
        let count = begins.count in
        ap (λ xs. slice_index xs k) same
        ∙ get_or-map (λ s. (pointer_at pointers s).first) starts k 0 0 (omega arith)
