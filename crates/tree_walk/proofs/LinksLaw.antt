-- the links of a checked tree say what its descent says
use Rattle.std.proofs.Common.{◌≡◌, ◌-◌, ℕ, suc, ◌+◌, ◌<◌, ◌≤◌, List, [], ◌∷◌, length, get_or, refl, arith, add-one}
use Rattle.std.specs.List.{All}
use Rattle.std.proofs.lemmas.List.Elements.{All-head, All-tail}
use Rattle.std.proofs.lemmas.List.{get_or_default}
use Rattle.page_source.specs.Pages.{fil_null}
use Rattle.fil_frame.specs.Frame.{next_page}
use Rattle.tree_walk.specs.Index.{Index, page_in, fields_on, root_level, pages_at}
use Rattle.tree_walk.specs.Facts.{LevelFacts}
use Rattle.tree_walk.specs.Leaf.{IsWalked}
use Rattle.tree_walk.specs.Descent.{below}
use Rattle.tree_walk.specs.Laws.{IsLinkedByNext, LinksEqualDescent, LinksAreDescent}
use Rattle.tree_walk.proofs.Levels.{level_facts}
use Rattle.tree_walk.proofs.Descents.{below_is, rows_law}
use Rattle.tree_walk.proofs.Fresh.{distinct_tree}
use Rattle.space_audit.proofs.Audited.{head_size}

linked_by : (index : Index) (pages : List ℕ) → All (λ n. n < fil_null) pages
    → ((i : ℕ) → i < length pages → next_page (page_in index (get_or pages i 0)) ≡ get_or pages (i + 1) fil_null)
    → IsLinkedByNext index (get_or pages 0 fil_null) pages
linked_by index [] a h = refl
linked_by index (x ∷ xs) a h =
    let small : x < fil_null = All-head (λ n. n < fil_null) x xs a in
    let here = h 0 (omega arith) in
    let q : next_page (page_in index x) ≡ get_or xs 0 fil_null = here in
    let rest : (i : ℕ) → i < length xs → next_page (page_in index (get_or xs i 0)) ≡ get_or xs (i + 1) fil_null =
    λ i m. rw add-one (rw add-one at (h (suc i) (omega arith))) in (
      refl,
      (λ e. let z : x ≡ fil_null = e in absurd (omega arith)),
      rw q
          (linked_by index xs (All-tail (λ n. n < fil_null) x xs a) rest),
    )

module _ (index : Index) (w : IsWalked index) where
  facts : (d : ℕ) → d ≤ root_level index → LevelFacts index (fields_on index (root_level index - d)) d
  facts d h = level_facts index w.taken w.named (head_size index.file w.space w.audit) d h w.holds.0
      (λ e l. w.holds.1 e (omega arith))

  levels : (d : ℕ) → d ≤ root_level index → IsLinkedByNext index (get_or (pages_at index d) 0 0)
      (below index d index.root)
  levels d h =
      let f = facts d h in
      rw (below_is, get_or_default (pages_at index d) 0 0 fil_null f.some)
      (linked_by index (pages_at index d) f.small f.linked)

  pub links : LinksEqualDescent index
  links = record {
    levels = levels;
    rows = rows_law index;
    once = distinct_tree index w.taken (root_level index) w.holds.0.0.new (λ d j h m. (w.holds.1 d h j m).0.new);
  }

pub links_law : LinksAreDescent
links_law index w = links index w
