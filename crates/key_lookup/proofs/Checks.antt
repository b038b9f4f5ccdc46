-- In a sound file the checks on the way to a key find nothing, nor do those of a row.
use Rattle.std.proofs.Common.{◌≡◌, ℕ, zero, suc, ◌+◌, ◌-◌, ◌==◌, ◌<◌, Bool, true, false, cond, None}
use Rattle.std.proofs.Common.{List, get_or, take, refl, arith}
use Rattle.std.proofs.lemmas.Bool.{true≢false}
use Rattle.std.proofs.lemmas.List.Elements.{All-contains}
use Rattle.page_source.specs.Pages.{page_of}
use Rattle.fil_frame.specs.Kinds.{index_kind, blob_kind}
use Rattle.fil_frame.specs.Frame.{Framed, kind_of}
use Rattle.space_header.specs.Header.{size_of}
use Rattle.column_values.specs.declared.kind.ColumnType.{ColumnType}
use Rattle.column_values.specs.declared.field.FieldType.{FieldType}
use Rattle.column_values.specs.declared.field.FieldType.TheVariants.{Column, RowId, TrxId, RollPointer, Child}
use Rattle.column_values.specs.Types.{Fields, field_at}
use Rattle.column_values.specs.Order.{Key}
use Rattle.compact_record.specs.declared.places.Place.{Place}
use Rattle.compact_record.specs.Reading.{place_of}
use Rattle.index_page.specs.Header.{records_of, index_id_of}
use Rattle.index_page.specs.Laws.{ChecksAreIndexPage, KeysRiseThroughout}
use Rattle.space_audit.specs.Audit.{IsSoundSpace}
use Rattle.space_audit.specs.Marks.{is_in, seen}
use Rattle.space_audit.specs.Space.{IsPageOf}
use Rattle.space_audit.proofs.Audited.{used_is}
use Rattle.offpage_chain.specs.declared.reference.Reference.{Reference}
use Rattle.offpage_chain.specs.Reference.{reference_of}
use Rattle.offpage_chain.specs.Chain.{chain_pages}
use Rattle.offpage_chain.specs.ChainChecks.{AuditedPlace, UnauditedPlace, PartCheck, ChainChecksBy, ChainChecks}
use Rattle.tree_walk.specs.Index.{Index, page_in, fields_on, root_level, index_id, pages_at}
use Rattle.tree_walk.specs.Place.{NodeAt}
use Rattle.tree_walk.specs.Descent.{spot_on, Bounded, IsNode}
use Rattle.tree_walk.specs.Laws.{IsOwnPage}
use Rattle.tree_walk.proofs.DescentLaw.{node_of}
use Rattle.table_check.specs.Values.{bytes_at, IsTextBehind, ValueChecks, FieldChecks, RecordChecks, pages_of_part}
use Rattle.table_check.specs.Values.{ValueChecksBy, FieldChecksBy, RecordChecksBy}
use Rattle.table_check.specs.Valid.{HasWholeTree}
use Rattle.key_lookup.specs.Path.{way}
use Rattle.key_lookup.specs.GetFirst.{WayChecksAt, WayChecks, AllWayChecks, FoundRecordChecks}
use Rattle.key_lookup.proofs.Between.{HasOneKind}
use Rattle.key_lookup.proofs.Ways.{tree_at, page_at}

-- a page that a segment uses in a sound space is framed
framed : (file : List ℕ) (flags segment kind n : ℕ) → IsSoundSpace file flags → IsPageOf file segment kind n
    → Framed file n
framed file flags segment kind n sound is = sound.frames.framed n (used_is file segment n is.used)

-- a node passes the checks of its place
node_checks : ChecksAreIndexPage → (index : Index) (level : ℕ) (root : Bool) (b : Bounded) → IsNode index level root b
    → NodeAt (page_in index b.page) (fields_on index level) (spot_on level root b) None
node_checks law index level root b node = (
  node.at_level,
  (
    (law (page_in index b.page) (fields_on index level) (level == 0) root b.leftmost).1
        (records_of (page_in index b.page), node.page),
    (node.keys, node.marks),
  ),
)

-- a page of the way that is an index page of this index
pub record IsOnWay (index : Index) (n : ℕ) : Type 0 where
  pub below : n < size_of index.file
  pub frame : Framed index.file n
  pub kind : kind_of (page_of index.file n) ≡ index_kind
  pub id : index_id_of (page_in index n) ≡ index_id index

module _ (law : ChecksAreIndexPage) (rise : KeysRiseThroughout) (index : Index) (one : HasOneKind index) (flags : ℕ)
    (sound : IsSoundSpace index.file flags) (whole : HasWholeTree index) (key : Key) where
  on_way : (d l : ℕ) → l + d ≡ root_level index → IsOnWay index (way index key d).page
  on_way zero l e =
      let is = whole.root.page.1 in
      record {
        below = is.below;
        frame = framed index.file flags whole.root.page.0 index_kind index.root sound is;
        kind = is.has_kind;
        id = refl;
      }
  on_way (suc d) l e =
      let there = page_at rise index one whole.tree key (suc d) l e in
      let own = All-contains (IsOwnPage index (root_level index - suc d)) (pages_at index (suc d))
      (way index key (suc d)).page (whole.own d (omega arith)) there in
      record {
        below = own.page.below;
        frame = framed index.file flags _ index_kind (way index key (suc d)).page sound own.page;
        kind = own.page.has_kind;
        id = own.id;
      }

  way_checks : (d l : ℕ) → l + d ≡ root_level index → WayChecksAt index key d l None
  way_checks d l e =
      let is = on_way d l e in
      let at = tree_at rise index one whole.tree key d l e in (
        (is.below, (is.frame, is.kind)),
        (
          is.id,
          node_checks law index l (d == 0) (way index key d)
              (node_of index l (d == 0) (way index key d) at.0),
        ),
      )

  -- no check of the way is broken
  pub all_way_checks : AllWayChecks index key None
  unfolding WayChecks
  all_way_checks d m = way_checks d (root_level index - d) (omega arith)

-- what wasn't seen of more wasn't seen of less
unseen_less : (taken less : ℕ → Bool) (list : List ℕ) (n : ℕ) → (taken n ≡ false → less n ≡ false)
    → seen taken list n ≡ false → seen less list n ≡ false
unseen_less taken less list n h e = by_flag (taken n) refl e
  where
    by_flag : (b : Bool) → taken n ≡ b → cond b true (is_in list n) ≡ false → seen less list n ≡ false
    by_flag true t s = absurd (true≢false s)
    by_flag false t s = rw (h t) s

module _ (file : List ℕ) (flags segment leaf : ℕ) (sound : IsSoundSpace file flags) where
  -- a page of a chain passes here where it passes there
  part_check : (holder : ℕ) (reference : Reference) (taken less : ℕ → Bool) (before : List ℕ) (n : ℕ)
      → (taken n ≡ false → less n ≡ false)
      → PartCheck file (AuditedPlace file segment) holder reference taken before n None
      → PartCheck file (UnauditedPlace file) holder reference less before n None
  part_check holder reference taken less before n h c = (
    (
      record { below = c.0.blob.below; new = unseen_less taken less before n h c.0.new },
      (framed file flags segment blob_kind n sound c.0.blob, c.0.blob.has_kind),
    ),
    c.1,
  )

  -- the checks of a chain hold without the audit too
  chain_checks : (reference : Reference) (taken less : ℕ → Bool) (IsText : List ℕ → Type 0)
      → ((n : ℕ) → taken n ≡ false → less n ≡ false)
      → ChainChecks file segment leaf reference taken IsText None
      → ChainChecksBy file (UnauditedPlace file) leaf reference less IsText None
  unfolding ChainChecksBy
  chain_checks reference taken less IsText h c = (
    c.0,
    (
      c.1.0,
      (
        λ j d m. part_check leaf reference taken less (take j (chain_pages file reference))
            (get_or (chain_pages file reference) j d) (h _) (c.1.1.0 j d m),
        c.1.1.1,
      ),
    ),
  )

  value_checks : (kind : ColumnType) (local : List ℕ) (external : Bool) (taken less : ℕ → Bool)
      → ((n : ℕ) → taken n ≡ false → less n ≡ false) → ValueChecks file segment leaf kind local external taken None
      → ValueChecksBy file (UnauditedPlace file) leaf kind local external less None
  value_checks kind local false taken less h c = c
  value_checks kind local true taken less h c =
      (c.0, chain_checks (reference_of local) taken less (IsTextBehind kind local) h c.1)

  field_checks : (kind : FieldType) (page : List ℕ) (place : Place) (taken less : ℕ → Bool)
      → ((n : ℕ) → taken n ≡ false → less n ≡ false) → FieldChecks file segment leaf kind page place taken None
      → FieldChecksBy file (UnauditedPlace file) leaf kind page place less None
  field_checks (Column kind) page place taken less h c =
      λ e. value_checks kind (bytes_at page place) place.external taken less h (c e)
  field_checks RowId page place taken less h c = tt
  field_checks TrxId page place taken less h c = tt
  field_checks RollPointer page place taken less h c = tt
  field_checks Child page place taken less h c = tt

  -- the checks of a record hold without the audit too
  pub record_checks : (page : List ℕ) (origin : ℕ) (fields : Fields) (taken : ℕ → Bool)
      → RecordChecks file segment leaf page origin fields taken None
      → FoundRecordChecks file leaf page origin fields (λ n. false) None
  unfolding RecordChecksBy
  record_checks page origin fields taken c i m =
      let part = pages_of_part file page origin fields i in
      field_checks (field_at fields i).kind page (place_of page origin fields i) (seen taken part)
      (seen (λ n. false) part) (λ n. unseen_less taken (λ n. false) part n (λ e. refl)) (c i m)
