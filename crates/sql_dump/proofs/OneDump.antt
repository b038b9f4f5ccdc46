-- A sound file has one dump of its table: each place has one value at the most, and each checked one has a value.
use Rattle.std.proofs.Common.{◌≡◌, ℕ, suc, ◌<◌, ◌≤◌, Bool, true, false, List, [], ◌∷◌, ◌++◌, length, get_or, None, refl}
use Rattle.std.proofs.Common.{sym}
use Rattle.std.proofs.Common.{◌∙◌, ap, ap₂, subst, arith}
use Rattle.std.specs.List.{AllZip}
use Rattle.std.proofs.lemmas.Bool.{false≢true}
use Rattle.column_values.specs.declared.kind.ColumnType.{ColumnType}
use Rattle.column_values.specs.declared.value.Value.{Value}
use Rattle.column_values.specs.declared.value.Value.TheVariants.{Null}
use Rattle.column_values.specs.Types.{IsColumnType}
use Rattle.column_values.specs.Spell.{Spell}
use Rattle.column_values.specs.Laws.{HasOneValue}
use Rattle.compact_record.specs.declared.places.Place.{Place}
use Rattle.space_header.specs.Header.{size_of}
use Rattle.offpage_chain.specs.Reference.{reference_of}
use Rattle.offpage_chain.specs.Chain.{bytes_on}
use Rattle.offpage_chain.specs.Laws.{HasOneChain}
use Rattle.schema_text.specs.TableDef.{TableDef, column_at}
use Rattle.schema_text.specs.Grammar.{IsTable}
use Rattle.row_text.specs.Line.{text_of}
use Rattle.tree_walk.specs.Index.{Row, page_in}
use Rattle.tree_walk.specs.Segments.{leaf_segment}
use Rattle.table_check.specs.Trees.{clustered_tree}
use Rattle.table_check.specs.Values.{bytes_at, front_of, live_rows}
use Rattle.table_check.specs.Rows.{IsWholeValue, HasValue, place_of_column, IsRow}
use Rattle.table_check.specs.First.{First}
use Rattle.table_check.specs.Valid.{IsValid}
use Rattle.sql_dump.specs.Laws.{CheckedCanBeRead, HasOneDump}
use Rattle.sql_dump.proofs.Dumps.{sound_table}

-- lists of values that are equal place by place are equal
pub same_list : (xs ys : List Value) → length xs ≡ length ys
    → ((c : ℕ) → c < length xs → get_or xs c Null ≡ get_or ys c Null) → xs ≡ ys
same_list [] [] size same = refl
same_list [] (y ∷ ys) size same = absurd (omega (arith, size))
same_list (x ∷ xs) [] size same = absurd (omega (arith, size))
same_list (x ∷ xs) (y ∷ ys) size same =
    ap₂ (λ (z : Value) (zs : List Value). z ∷ zs) (same 0 (omega arith))
    (same_list xs ys (omega (arith, size)) (λ c below. same (suc c) (omega (arith, below))))

-- lists beside one list are equal, if each member has one beside it at the most
same_beside : {A B : Type 0} (P : A → B → Type 0) → ((x : A) (y z : B) → P x y → P x z → y ≡ z) → (xs : List A)
    (ys zs : List B) → AllZip P xs ys → AllZip P xs zs → ys ≡ zs
same_beside P one [] [] [] first second = refl
same_beside P one [] [] (z ∷ zs) first second = absurd second
same_beside P one [] (y ∷ ys) zs first second = absurd first
same_beside P one (x ∷ xs) [] zs first second = absurd first
same_beside P one (x ∷ xs) (y ∷ ys) [] first second = absurd second
same_beside {A} {B} P one (x ∷ xs) (y ∷ ys) (z ∷ zs) first second =
    ap₂ (λ (b : B) (bs : List B). b ∷ bs) (one x y z first.0 second.0)
    (same_beside P one xs ys zs first.1 second.1)

module _ (chain : HasOneChain) (spelled : HasOneValue) (file : List ℕ) (most : size_of file ≤ 4194304) where
  -- the bytes of a value that goes on in pages of its own are one list
  same_bytes : (segment : ℕ) (local a b : List ℕ) → IsWholeValue file segment local a
      → IsWholeValue file segment local b → a ≡ b
  same_bytes segment local a b x y =
      let first = chain file segment (reference_of local) x.pages most x.chain in
      let second = chain file segment (reference_of local) y.pages most y.chain in
      x.is ∙ ap (λ (pages : List ℕ). front_of local ++ bytes_on file pages) (first ∙ sym second) ∙ sym y.is

  -- a place has one value at the most
  same_value : (segment : ℕ) (kind : ColumnType) (page : List ℕ) (place : Place) (v w : Value) → IsColumnType kind
      → HasValue file segment kind page place v → HasValue file segment kind page place w → v ≡ w
  same_value segment kind page place v w known x y = by_tests place.null place.external refl refl
    where
      by_tests : (n e : Bool) → place.null ≡ n → place.external ≡ e → v ≡ w
      by_tests true e null external = x.null null ∙ sym (y.null null)
      by_tests false false null external =
          spelled kind v w (bytes_at page place) known (x.local null external) (y.local null external)
      by_tests false true null external =
          let a = x.external null external in
          let b = y.external null external in
          let same = same_bytes segment (bytes_at page place) a.0 b.0 a.1 b.1 in
          spelled kind v w b.0 known (subst (Spell kind v) same a.2) b.2

  -- a row has one list of values
  same_row : (table : TableDef) → IsTable table → (row : Row) (a b : List Value) → IsRow file table row a
      → IsRow file table row b → a ≡ b
  same_row table is row a b x y =
      same_list a b (x.count ∙ sym y.count)
      (λ c below.
      let within : c < length table.columns = omega (arith, below, x.count) in
      same_value (leaf_segment (clustered_tree file table)) (column_at table c).kind
      (page_in (clustered_tree file table) row.page) (place_of_column (clustered_tree file table) table row c)
      (get_or a c Null) (get_or b c Null) (is.kinds c _ within) (x.each c within) (y.each c within))

pub one_dump : HasOneValue → (file : List ℕ) (table : TableDef) → IsTable table → IsValid file table
    → CheckedCanBeRead → First file table None → HasOneDump file table
one_dump spelled file table is valid laws first =
    let found = (sound_table file table is laws first).found in
    let most = valid.space.extents.head.size.most in
    record {
      text = text_of table found.all;
      is_dump = record { rows = found.all; are = found.are; is = refl };
      only = λ other dump.
          dump.is
          ∙ ap (text_of table) (same_beside (IsRow file table) (same_row laws.one spelled file most table is)
          (live_rows (clustered_tree file table)) dump.rows found.all dump.are found.are);
    }
