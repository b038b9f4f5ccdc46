-- A record's fields are checked one after another.
use Rattle.std.proofs.Common.{◌≡◌, ℕ, ◌+◌, ◌<◌, ◌≤◌, Bool, List, length, get_or, Option, Some, None}
use Rattle.std.proofs.Common.{IfSome, Result, Ok, Err, refl, sym, ap, ◌∙◌, subst, arith, length-append}
use Rattle.std.proofs.lemmas.List.FromFn.{get_or-map-range_with_len}
use Rattle.std.proofs.lemmas.List.{get_or_default}
use Rattle.std.proofs.Math.Path.{fun_ext}
use Rattle.page_source.specs.declared.objects.PageSource.{Ghosts as FileOf}
use Rattle.page_source.specs.declared.rule.Fault.{Fault}
use Rattle.page_source.specs.declared.checks.Halt.{Halt}
use Rattle.page_source.specs.declared.checks.Halt.TheVariants.{Broken, Source}
use Rattle.page_source.specs.Verdict.{AllBelow}
use Rattle.page_source.specs.Checks.{HaltsAt}
use Rattle.page_source.specs.Calls.{OfFile}
use Rattle.page_source.proofs.Told.{if_told, map_told, map_told2, map_told3}
use Rattle.column_values.specs.declared.field.Field.{Field}
use Rattle.column_values.specs.Types.{Fields, field_at}
use Rattle.compact_record.specs.declared.places.Place.{Place}
use Rattle.compact_record.specs.Reading.{place_of, places_of, field_count}
use Rattle.space_audit.specs.Marks.{is_set, Marked}
use Rattle.table_check.specs.Marking.{ChecksPages}
use Rattle.table_check.specs.declared.leaf.RowLeaf.{RowLeaf}
use Rattle.table_check.specs.Values.{FieldCheckBy, pages_of_part}
use Rattle.table_check.specs.Leaf.{place_on, FieldChecksOn, RowChecksOn, pages_of_field_on, pages_of_row_on}
use Rattle.table_check.proofs.Progress.{HasMarked, none_marked, more_marked, all_marked, breaks_off}
use Rattle.table_check.proofs.RecordSteps.{part_more, part_most, record_breaks, whole_record, record_holds, below_more}

-- the field and the place that were read
pub place_read : (page : List ℕ) (origin : ℕ) (fields : Fields) (places : List Place) (i : ℕ) (d : Place)
    → places ≡ places_of page origin fields → i < field_count fields → get_or places i d ≡ place_of page origin fields i
unfolding places_of
place_read page origin fields places i d same within =
    ap (λ (ps : List Place). get_or ps i d) same
    ∙ get_or-map-range_with_len (place_of page origin fields) 0 (field_count fields) i i d within (omega arith)

pub field_read : (fields : Fields) (list : List Field) (i : ℕ) (d : Field) → list ≡ fields.fields
    → i < field_count fields → get_or list i d ≡ field_at fields i
field_read fields list i d same within =
    ap (λ (fs : List Field). get_or fs i d) same ∙ get_or_default fields.fields i d _ within

pub halts_as : (halt : Halt) (A B : Option Fault → Type 0) → ((v : Option Fault) → A v → B v) → HaltsAt halt A
    → HaltsAt halt B
halts_as (Broken fault) A B gives at = gives (Some fault) at
halts_as Source A B gives at = tt

-- the fields before field i hold, and their pages were marked
pub record FieldsHeld {S : Type 0} (g : FileOf S) (first now : S) (start marks : List Bool) (steps spent count : ℕ)
    (leaf : RowLeaf) (origin i : ℕ) : Type 0 where
  pub has : HasMarked g first now start marks steps spent count
      (λ file. pages_of_part file leaf.page.now origin leaf.fields.now i)
  pub held : OfFile g first (λ file. AllBelow (FieldCheckBy file (place_on file leaf) leaf.number leaf.page.now origin
      leaf.fields.now (is_set start)) i)

-- none was checked yet
pub none_held : {S : Type 0} {g : FileOf S} {first : S} {leaf : RowLeaf} {origin : ℕ} (start : List Bool) (steps : ℕ)
    → FieldsHeld g first first start start steps steps 0 leaf origin 0
none_held {g = g} {first = first} start steps = record {
  has = none_marked g first start steps _ (λ file. refl);
  held = if_told (g.content first) (λ file. λ i below. absurd (omega (arith, below)));
}

-- all were checked
pub all_held : {S : Type 0} {g : FileOf S} {first now : S} {start marks : List Bool} {steps spent count i : ℕ}
    {leaf : RowLeaf} {origin : ℕ} → FieldsHeld g first now start marks steps spent count leaf origin i
    → i ≡ field_count leaf.fields.now
    → ChecksPages g first now start marks steps spent (Ok count)
    (λ file. RowChecksOn file leaf origin (is_set start)) (λ file. pages_of_row_on file leaf origin)
all_held {g = g} {first = first} {now = now} {start = start} {marks = marks} {steps = steps} {spent = spent}
    {count = count} {i = i} {leaf = leaf} {origin = origin} have all =
    let page = leaf.page.now in
    let fields = leaf.fields.now in
    all_marked g first now start marks steps spent count (λ file. pages_of_part file page origin fields i)
    (λ file. pages_of_row_on file leaf origin) (λ file. RowChecksOn file leaf origin (is_set start))
    (if_told (g.content first)
    (λ file. whole_record file page origin fields
    ∙ ap (pages_of_part file page origin fields) (sym all)))
    (map_told (g.content first)
    (λ file below. record_holds file (place_on file leaf) leaf.number page origin fields (is_set start)
    (subst (AllBelow (FieldCheckBy file (place_on file leaf) leaf.number page origin fields (is_set start))) all below))
    have.held)
    have.has

pub steps_held : {S : Type 0} (g : FileOf S) (first : S) (steps spent i : ℕ) (leaf : RowLeaf) (origin : ℕ)
    → OfFile g first (λ file. spent ≤ steps + length (pages_of_part file leaf.page.now origin leaf.fields.now i))
    → i ≡ field_count leaf.fields.now
    → OfFile g first (λ file. spent ≤ steps + length (pages_of_row_on file leaf origin))
steps_held g first steps spent i leaf origin few all =
    map_told (g.content first)
    (λ file few. omega (
      arith,
      few,
      ap (λ (k : ℕ). length (pages_of_part file leaf.page.now origin leaf.fields.now k)) all,
      ap length (whole_record file leaf.page.now origin leaf.fields.now),
    ))
    few

module _ {S : Type 0} {g : FileOf S} {first old : S} {start before : List Bool} {steps mid count i : ℕ} {leaf : RowLeaf}
    {origin : ℕ} (have : FieldsHeld g first old start before steps mid count leaf origin i)
    (within : i < field_count leaf.fields.now) (field : Field) (place : Place)
    (is_field : field ≡ field_at leaf.fields.now i)
    (is_place : place ≡ place_of leaf.page.now origin leaf.fields.now i) where
  -- the leaf's page and fields
  abbrev page : List ℕ
  page = leaf.page.now

  abbrev fields : Fields
  fields = leaf.fields.now

  -- the checks of this field, and its pages
  abbrev Here : List ℕ → Option Fault → Type 0
  Here file = FieldChecksOn file leaf (field_at fields i).kind (place_of page origin fields i) (is_set before)

  abbrev pages_here : List ℕ → List ℕ
  pages_here file = pages_of_field_on file leaf (field_at fields i).kind (place_of page origin fields i)

  here_as : (file : List ℕ) (v : Option Fault) → Marked (is_set start) before (pages_of_part file page origin fields i)
      → Here file v → FieldCheckBy file (place_on file leaf) leaf.number page origin fields (is_set start) i v
  here_as file v marked check =
      subst (λ (taken : ℕ → Bool). FieldChecksOn file leaf (field_at fields i).kind (place_of page origin fields i)
      taken v) (fun_ext marked) check

  module _ (new : S) (after : List Bool) (spent : ℕ) where
    abbrev Checked : Result ℕ Halt → Field → Place → Type 0
    Checked result f p = ChecksPages g old new before after mid spent result
        (λ file. FieldChecksOn file leaf f.kind p (is_set before)) (λ file. pages_of_field_on file leaf f.kind p)

    read_here : (result : Result ℕ Halt) → Checked result field place
        → Checked result (field_at fields i) (place_of page origin fields i)
    read_here result call =
        subst (λ (p : Place). Checked result (field_at fields i) p) is_place
        (subst (λ (f : Field). Checked result f place) is_field call)

    -- so many steps were taken up to here
    pub field_steps : OfFile g first (λ file. mid ≤ steps + length (pages_of_part file page origin fields i))
        → OfFile g old (λ file. spent ≤ mid + length (pages_of_field_on file leaf field.kind place))
        → OfFile g first (λ file. spent ≤ steps + length (pages_of_part file page origin fields (i + 1)))
    field_steps before here =
        let one = subst (λ (p : Place). OfFile g old
        (λ file. spent ≤ mid + length (pages_of_field_on file leaf field.kind p))) is_place here in
        let two = subst (λ (f : Field). OfFile g old
        (λ file. spent ≤ mid + length (pages_of_field_on file leaf f.kind (place_of page origin fields i)))) is_field
        one
        in
        let three = subst (λ (o : Option (List ℕ)). IfSome o (λ file. spent ≤ mid + length (pages_here file)))
        have.has.same two in
        map_told2 (g.content first)
        (λ file few last. omega (
          arith,
          few,
          last,
          ap length (part_more file page origin fields i),
          length-append (pages_of_part file page origin fields i) (pages_here file),
        ))
        before three

    pub all_steps : OfFile g first (λ file. mid ≤ steps + length (pages_of_part file page origin fields i))
        → OfFile g old (λ file. spent ≤ mid + length (pages_of_field_on file leaf field.kind place))
        → OfFile g first (λ file. spent ≤ steps + length (pages_of_row_on file leaf origin))
    all_steps before here =
        map_told (g.content first)
        (λ file few. omega (
          arith,
          few,
          part_most file page origin fields (i + 1) (omega arith),
        ))
        (field_steps before here)

    -- they break off
    pub field_breaks : (halt : Halt) → Checked (Err halt) field place
        → ChecksPages g first new start after steps spent (Err halt)
        (λ file. RowChecksOn file leaf origin (is_set start)) (λ file. pages_of_row_on file leaf origin)
    field_breaks halt call =
        let here = read_here (Err halt) call in
        let exact = subst (λ (o : Option (List ℕ)). IfSome o (λ file. HaltsAt halt (Here file))) have.has.same
        here.exact in
        breaks_off g first old new start before after steps mid spent count
        (λ file. pages_of_part file page origin fields i) pages_here Here have.has halt
        (λ file. RowChecksOn file leaf origin (is_set start)) (λ file. pages_of_row_on file leaf origin)
        (map_told3 (g.content first)
        (λ file marked below at. record_breaks file (place_on file leaf) leaf.number page origin fields
        (is_set start) i halt within
        below
        (halts_as halt (Here file)
        (FieldCheckBy file (place_on file leaf) leaf.number page origin fields (is_set start) i)
        (λ v check. here_as file v marked check) at))
        have.has.grew have.held exact) here

    -- or hold
    pub field_holds : (n : ℕ) → Checked (Ok n) field place
        → FieldsHeld g first new start after steps spent (count + n) leaf origin (i + 1)
    field_holds n call =
        let here = read_here (Ok n) call in
        let exact = subst (λ (o : Option (List ℕ)). IfSome o (λ file. Here file None)) have.has.same here.exact in
        record {
          has = more_marked g first old new start before after steps mid spent count
              (λ file. pages_of_part file page origin fields i)
              pages_here Here have.has n (λ file. pages_of_part file page origin fields (i + 1))
              (if_told (g.content first)
              (λ file. part_more file page origin fields i)) here;
          held =
              map_told3 (g.content first)
              (λ file marked below check. below_more
              (FieldCheckBy file (place_on file leaf) leaf.number page origin fields (is_set start)) i below
              (here_as file None marked check))
              have.has.grew have.held exact;
        }
