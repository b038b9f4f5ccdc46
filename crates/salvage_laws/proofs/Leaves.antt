-- The pages of a sound file that are leaves of its clustered index by what they say themselves are those of its tree.
use Rattle.std.proofs.Common.{◌≡◌, ◌≢◌, ℕ, ◌-◌, ◌/◌, ◌%◌, ◌<◌, ◌≤◌, ◌&&◌, ◌==◌, nat_lt, not, Bool, true, false}
use Rattle.std.proofs.Common.{cond, List, All, Contains, inl, inr, refl, sym, ap, ◌∙◌}
use Rattle.std.proofs.Common.{subst, arith, lt-ltb}
use Rattle.std.specs.List.{range_with_len, list_any}
use Rattle.std.proofs.lemmas.Bool.{true≢false, false≢true, cases_lt}
use Rattle.std.proofs.lemmas.Bool.Decides.{eqb_tells}
use Rattle.std.proofs.lemmas.List.Elements.{All-contains}
use Rattle.page_source.specs.Pages.{page_of}
use Rattle.page_source.proofs.Members.{contains_none, contains_flat_map, range_contains}
use Rattle.page_source.proofs.Times.{contains_times}
use Rattle.column_values.specs.declared.field.FieldType.{FieldType}
use Rattle.column_values.specs.declared.field.FieldType.TheVariants.{Column, RowId, TrxId, RollPointer, Child}
use Rattle.column_values.specs.Types.{field_at}
use Rattle.compact_record.specs.declared.places.Place.{Place}
use Rattle.compact_record.specs.Reading.{place_of, field_count}
use Rattle.fil_frame.specs.Kinds.{index_kind, header_kind, descriptor_kind, bitmap_kind}
use Rattle.fil_frame.specs.Frame.{kind_of}
use Rattle.space_header.specs.Header.{size_of, limit_of}
use Rattle.extent_map.specs.Extents.{extent_state, is_used, IsUsed, used_in, is_system_page}
use Rattle.extent_map.specs.Laws.{UsedPagesAreOfExtents}
use Rattle.extent_map.proofs.Used.{used_below}
use Rattle.inode_segments.specs.Inodes.{inode_pages}
use Rattle.space_audit.specs.declared.owner.Owner.{Owner}
use Rattle.space_audit.specs.declared.owner.Owner.TheVariants.{System, InodePage, Used, Spare, FragmentFree, FreeExtent}
use Rattle.space_audit.specs.declared.owner.Owner.TheVariants.{Beyond}
use Rattle.space_audit.specs.Owners.{owner_of}
use Rattle.space_audit.specs.Audit.{IsKindFor, IsSoundSpace, system_kind}
use Rattle.space_audit.specs.Marks.{is_in}
use Rattle.space_audit.proofs.Fragments.{used_extent}
use Rattle.space_audit.proofs.OwnerFacts.{used_by}
use Rattle.offpage_chain.specs.Reference.{reference_of}
use Rattle.offpage_chain.specs.Chain.{IsBlobPage}
use Rattle.offpage_chain.specs.Laws.{HasOneChain}
use Rattle.schema_text.specs.Formats.{flags_of}
use Rattle.schema_text.specs.TableDef.{TableDef}
use Rattle.schema_text.specs.Grammar.{IsTable}
use Rattle.schema_text.specs.IndexFields.{leaf_fields}
use Rattle.index_page.specs.Header.{index_id_of}
use Rattle.tree_walk.specs.Index.{Index, page_in, root_level, index_id, leaf_pages, reached, tree_pages}
use Rattle.tree_walk.specs.Segments.{leaf_segment}
use Rattle.tree_walk.specs.Laws.{IsWhole}
use Rattle.tree_walk.proofs.Occurs.{occurs_some}
use Rattle.table_check.specs.Trees.{index_in, clustered_tree, index_count, pages_of_trees, all_tree_pages}
use Rattle.table_check.specs.Values.{bytes_at, pages_of_value, pages_of_field, pages_of_record, pages_of_row}
use Rattle.table_check.specs.Values.{pages_of_rows, all_chain_pages, live_rows}
use Rattle.table_check.specs.First.{is_segment_owner, is_reached, is_unreached}
use Rattle.table_check.specs.Valid.{IsSoundField, IsSoundRow, IsValid}
use Rattle.leaf_salvage.specs.Leaf.{IsLeafOf, IsWholeLeaf}
use Rattle.leaf_salvage.specs.Laws.{IndexLeavesAreWhole}
use Rattle.salvage_model.specs.Laws.{HasOwnId}
use Rattle.salvage_laws.proofs.Used.{framed_stands}
use Rattle.salvage_laws.proofs.Levels.{IsAt, IsOwn, nodes_at, own_at, own_is, leaf_is}

pub is_in_contains : (xs : List ℕ) (n : ℕ) → is_in xs n ≡ true → Contains xs n
is_in_contains xs n e = let some = occurs_some n xs e in contains_times xs n (omega (arith, some))

-- the owners of used pages
abbrev CanOwn : Owner → Type 0
CanOwn System = Unit {0}
CanOwn InodePage = Unit {0}
CanOwn (Used s) = Unit {0}
CanOwn _ = ⊥

can_own : (below free own used system inode : Bool) (a b c : ℕ) → below ≡ true → free ≡ false → used ≡ true
    → CanOwn (cond below (cond free FreeExtent (cond own (cond used (Used a) (Spare b))
    (cond used (cond system System (cond inode InodePage (Used c))) FragmentFree))) Beyond)
can_own false free own used system inode a b c p q r = absurd (false≢true p)
can_own true true own used system inode a b c p q r = absurd (true≢false q)
can_own true false own false system inode a b c p q r = absurd (false≢true r)
can_own true false true true system inode a b c p q r = tt
can_own true false false true true inode a b c p q r = tt
can_own true false false true false true a b c p q r = tt
can_own true false false true false false a b c p q r = tt

system_no_index : (n : ℕ) → system_kind n ≢ index_kind
system_no_index n = by_tests (n == 0) (n % 16384 == 0)
  where
    by_tests : (a b : Bool) → cond a header_kind (cond b descriptor_kind bitmap_kind) ≢ index_kind
    by_tests true b e = omega (arith, e)
    by_tests false true e = omega (arith, e)
    by_tests false false e = omega (arith, e)

-- a page of an index has a segment, where its owner may have such a page
segment_owner : (n : ℕ) (owner : Owner) (kind : ℕ) → CanOwn owner → IsKindFor n owner kind → kind ≡ index_kind
    → is_segment_owner owner ≡ true
segment_owner n System kind can is same = absurd (system_no_index n (sym is ∙ same))
segment_owner n InodePage kind can is same = absurd (omega (arith, is, same))
segment_owner n (Used s) kind can is same = refl
segment_owner n (Spare s) kind can is same = absurd can
segment_owner n FragmentFree kind can is same = absurd can
segment_owner n FreeExtent kind can is same = absurd can
segment_owner n Beyond kind can is same = absurd can

-- each page that a sound value goes on in is one of a chain
pub field_blob : HasOneChain → (file : List ℕ) (segment : ℕ) → size_of file ≤ 4194304 → (kind : FieldType)
    (page : List ℕ) (place : Place) → IsSoundField file segment kind page place → (n : ℕ)
    → Contains (pages_of_field file kind page place) n → IsBlobPage file segment n
field_blob one file segment most (Column kind) page place sound n c =
    by_tests place.null place.external refl refl c
  where
    by_tests : (u e : Bool) → place.null ≡ u → place.external ≡ e
        → Contains (pages_of_value file (bytes_at page place) (not u && e)) n → IsBlobPage file segment n
    by_tests true e null external c = absurd (contains_none n c)
    by_tests false false null external c = absurd (contains_none n c)
    by_tests false true null external c =
        let chain = (sound.external null external).whole.chain in
        let same = one file segment (reference_of (bytes_at page place)) _ most chain in
        All-contains (IsBlobPage file segment) _ n chain.blobs
        (subst (λ (pages : List ℕ). Contains pages n) (sym same) c)
field_blob one file segment most RowId page place sound n c = absurd (contains_none n c)
field_blob one file segment most TrxId page place sound n c = absurd (contains_none n c)
field_blob one file segment most RollPointer page place sound n c = absurd (contains_none n c)
field_blob one file segment most Child page place sound n c = absurd (contains_none n c)

-- so is each page of all values
chain_blob : HasOneChain → (index : Index) → size_of index.file ≤ 4194304
    → All (IsSoundRow index) (live_rows index) → (n : ℕ) → Contains (all_chain_pages index) n
    → IsBlobPage index.file (leaf_segment index) n
unfolding pages_of_rows pages_of_record
chain_blob one index most sound n c =
    let row = contains_flat_map (pages_of_row index) (live_rows index) n c in
    let field = contains_flat_map (λ i. pages_of_field index.file (field_at index.leaf i).kind
    (page_in index row.piece.page) (place_of (page_in index row.piece.page) row.piece.origin index.leaf i))
    (range_with_len 0 (field_count index.leaf)) n row.member in
    field_blob one index.file (leaf_segment index) most (field_at index.leaf field.piece).kind _ _
    (All-contains (IsSoundRow index) (live_rows index) row.piece sound row.among field.piece
    (range_contains (field_count index.leaf) field.piece field.among))
    n field.member

module _ (law : UsedPagesAreOfExtents) (one : HasOneChain) (leaves : IndexLeavesAreWhole) (file : List ℕ)
    (table : TableDef) (is : IsTable table) (valid : IsValid file table) where
  abbrev tree : Index
  tree = clustered_tree file table

  abbrev space : IsSoundSpace file (flags_of table.format)
  space = valid.space

  whole_tree : IsWhole tree (λ page. false) (λ segment. false)
  whole_tree = valid.trees.whole 0 is.clustered

  -- a page of the trees is used, and has the id of its index
  pub record IsTreePage (j n : ℕ) : Type 0 where
    pub used : IsUsed file n
    pub kind : kind_of (page_of file n) ≡ index_kind
    pub id : index_id_of (page_of file n) ≡ index_id (index_in file table j)

  tree_page : (j n : ℕ) → IsOwn (index_in file table j) n → IsTreePage j n
  unfolding index_in
  tree_page j n own = record { used = used_by file n _ own.page.used; kind = own.page.has_kind; id = own.id }

  -- a leaf of the clustered tree stands whole by itself
  pub leaf_stands : (n : ℕ) → Contains (leaf_pages tree) n
      → IsUsed file n × IsWholeLeaf (page_of file n) n (index_id tree) (leaf_fields table 0)
  unfolding index_in
  leaf_stands n c =
      let zero_level : root_level tree - root_level tree ≡ 0 = omega arith in
      let at : IsAt tree 0 n =
      subst (λ (l : ℕ). IsAt tree l n) zero_level
      (All-contains (IsAt tree (root_level tree - root_level tree)) (leaf_pages tree) n
      (nodes_at tree _ _ whole_tree (root_level tree) (omega arith)) c) in
      let own = All-contains (IsOwn tree) (leaf_pages tree) n
      (own_at tree _ _ whole_tree (root_level tree) (omega arith)) c in
      let page = tree_page 0 n own in (
        page.used,
        record {
          stands = framed_stands (page_of file n) n _ (space.frames.framed n page.used);
          of = record { kind = page.kind; level = at.at_level; same = page.id };
          records = leaves (page_of file n) (leaf_fields table 0) at.root at.leftmost at.page;
        },
      )

  used_owner : (n : ℕ) → IsUsed file n → CanOwn (owner_of file n)
  unfolding owner_of
  used_owner n u =
      let inside = used_extent file n space.extents.head.limit.whole (used_below file n u) in
      let among : Contains (used_in file (n / 64)) n = ((law file (n / 64)).members n).1 (refl, u) in
      let in_use : (extent_state file (n / 64) == 1) ≡ false = elim (eqb_tells (extent_state file (n / 64)) 1) [
        | inl q ↦
            let none = (space.extents.extents (n / 64) inside).fits.free q.1 in
            absurd (omega (arith, none, among.1))
        | inr q ↦ q.0
      ] in
      can_own (nat_lt n (limit_of file)) (extent_state file (n / 64) == 1) (extent_state file (n / 64) == 4)
      (is_used file n) (is_system_page n) (list_any (λ m. m == n) (inode_pages file)) _ _ _
      (lt-ltb n (limit_of file) (used_below file n u)) in_use u

  -- a used page of an index is one of a tree or of a value
  index_reached : (n : ℕ) → IsUsed file n → n < size_of file → kind_of (page_of file n) ≡ index_kind
      → is_reached file table n ≡ true
  unfolding is_unreached
  index_reached n u below kind = by_test (is_reached file table n) refl
    where
      owner : is_segment_owner (owner_of file n) ≡ true
      owner = segment_owner n (owner_of file n) _ (used_owner n u) (space.frames.kinds n u) kind

      by_test : (b : Bool) → is_reached file table n ≡ b → b ≡ true
      by_test true e = refl
      by_test false e =
          let left = valid.rest n below
          (ap (λ (b : Bool). b && not (is_reached file table n)) owner ∙ ap (λ (b : Bool). not b) e) in
          elim left.kind [ inl k ↦ absurd (omega (arith, k, kind)) | inr k ↦ absurd (omega (arith, k, kind)) ]

  -- so it is one of a tree, where it isn't one of a value
  in_some_tree : (n : ℕ) → is_reached file table n ≡ true → kind_of (page_of file n) ≡ index_kind
      → Contains (all_tree_pages file table) n
  unfolding index_in
  in_some_tree n reached kind =
      by_test (is_in (all_tree_pages file table) n) refl reached
    where
      not_blob : Contains (all_chain_pages tree) n → ⊥
      not_blob c =
          let blob = chain_blob one tree space.extents.head.size.most valid.values.rows n c in
          omega (arith, blob.has_kind, kind)

      by_test : (b : Bool) → is_in (all_tree_pages file table) n ≡ b
          → cond b true (is_in (all_chain_pages tree) n) ≡ true → Contains (all_tree_pages file table) n
      by_test true e h = is_in_contains (all_tree_pages file table) n e
      by_test false e h = absurd (not_blob (is_in_contains (all_chain_pages tree) n h))

  -- a used page that says that it is a leaf of the clustered index is one
  pub leaf_known : HasOwnId file table → (n : ℕ) → IsUsed file n → n < size_of file
      → IsLeafOf (page_of file n) (index_id tree) → Contains (leaf_pages tree) n
  unfolding pages_of_trees index_in
  leaf_known own n u below leaf =
      let some = in_some_tree n (index_reached n u below leaf.kind) leaf.kind in
      let piece = contains_flat_map (λ j. tree_pages (index_in file table j)) (range_with_len 0 (index_count table)) n
      some in
      let j = piece.piece in
      let inside : j < index_count table = range_contains (index_count table) j piece.among in
      let page = tree_page j n (own_is (index_in file table j) _ _ (valid.trees.whole j inside) n piece.member) in
      let same_id : index_id (index_in file table j) ≡ index_id tree = sym page.id ∙ leaf.same in
      elim (cases_lt 0 j) [
        | inl later ↦ absurd (own j later inside same_id)
        | inr first ↦
            let e : j ≡ 0 = omega (arith, first) in
            leaf_is tree _ _ whole_tree n
            (subst (λ (i : ℕ). Contains (tree_pages (index_in file table i)) n) e piece.member) leaf.level
      ]
