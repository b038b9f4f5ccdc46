-- The line of a column or an index that may be the next one passes its checks.
use Rattle.std.proofs.Common.{◌≡◌, ◌≢◌, ℕ, ◌<◌, ◌≤◌, true, false, List, [], ◌∷◌, length, map, get_or, All, Some, None}
use Rattle.std.proofs.Common.{inl, refl, sym, ap, ◌∙◌, subst, arith}
use Rattle.std.specs.Prelude.{AllPairs, bytes_eq, codes, decimal, position, slice_get}
use Rattle.std.specs.List.{filter_map}
use Rattle.std.proofs.lemmas.Bool.{lt-ltb}
use Rattle.std.proofs.lemmas.Fmt.{decimal_injective}
use Rattle.std.proofs.lemmas.List.{get_or_default, length-append}
use Rattle.std.proofs.lemmas.List.Elements.{All-head, All-tail}
use Rattle.std.proofs.lemmas.Option.{slice_get-get_or}
use Rattle.column_values.specs.declared.kind.ColumnType.{ColumnType}
use Rattle.column_values.specs.declared.kind.ColumnType.TheVariants.{Int, Date, Char, Varchar, Binary, Varbinary, Text}
use Rattle.column_values.specs.declared.kind.ColumnType.TheVariants.{Blob, Utf8Varchar, Utf8Text, DateTime, Timestamp}
use Rattle.column_values.specs.declared.kind.ColumnType.TheVariants.{Year, Decimal}
use Rattle.schema_text.specs.declared.table.Column.{Column}
use Rattle.schema_text.specs.declared.table.IndexDef.{IndexDef}
use Rattle.schema_text.specs.TableDef.{TableDef, index_columns}
use Rattle.schema_text.specs.Grammar.{type_words, nullity_word, column_words, column_names, clustered_words}
use Rattle.schema_text.specs.Grammar.{index_words, FitsKey}
use Rattle.schema_text.specs.Parts.{IsPart, IsNextColumn, IsNextIndex}
use Rattle.schema_text.specs.Refusals.{Line, type_part, IsTypePart, IsDeclared, IndexLine, KeyChecks}
use Rattle.schema_text.specs.Refusals.{ClusteredLineChecks, IndexLineChecks, NextChecks, columns_named}
use Rattle.schema_text.specs.Cuts.{IsPlaceOf, ArePlacesOf}
use Rattle.schema_text.proofs.CheckLemmas.{column_good, key_good}
use Rattle.schema_text.proofs.ColumnCheckLemmas.{is_nullity}
use Rattle.schema_text.proofs.IndexLemmas.{columns_of_places, found_at, length_places, place_at}
use Rattle.schema_text.proofs.ReadBack.{Differ, no_column, place_is, type_part_is, last_word_is}
use Rattle.schema_text.proofs.ReadLemmas.{by_column, by_clustered, by_index}
use Rattle.schema_text.proofs.WordsBack.{names_are_names}

some_type_words : (kind : ColumnType) → 1 ≤ length (type_words kind)
some_type_words (Int w true) = omega arith
some_type_words (Int w false) = omega arith
some_type_words Date = omega arith
some_type_words (Char n) = omega arith
some_type_words (Varchar n) = omega arith
some_type_words (Binary n) = omega arith
some_type_words (Varbinary n) = omega arith
some_type_words (Text n) = omega arith
some_type_words (Blob n) = omega arith
some_type_words (Utf8Varchar n) = omega arith
some_type_words (Utf8Text n) = omega arith
some_type_words (DateTime f) = omega arith
some_type_words (Timestamp f) = omega arith
some_type_words Year = omega arith
some_type_words (Decimal p s) = omega arith

-- a column
pub column_passes : (t : TableDef) (c : Column) → IsNextColumn t c → NextChecks t (column_words c) None
column_passes t c next =
    let words = type_words c.kind in
    let last = nullity_word c.nullable in
    let kind : IsTypePart (type_part (column_words c)) =
    (c.kind, next.kind, type_part_is (codes "column") c.name last words) in
    let long : 4 ≤ length (column_words c) =
    omega (arith, length-append words (last ∷ []), some_type_words c.kind) in
    let nullity = is_nullity _ c.nullable (last_word_is (codes "column") c.name last words) in
    by_column t (column_words c) None refl
    (column_good t (column_words c) (next.before, (long, inl kind, nullity)) next.name kind next.few next.new)

-- the places of the columns of an index
place_found : (columns : List Column) (p : ℕ) → Differ columns → p < length columns
    → IsPlaceOf columns (get_or columns p no_column).name p
place_found columns p differ within =
    rw (place_is columns p differ within, lt-ltb p (length columns) within) refl

pub places_found : (columns : List Column) (places : List ℕ) → Differ columns → All (λ i. i < length columns) places
    → ArePlacesOf columns (map (λ (c : Column). c.name) (filter_map (slice_get columns) places)) places
places_found columns [] differ known = tt
places_found columns (p ∷ places) differ known =
    let within = All-head (λ i. i < length columns) p places known in
    rw (slice_get-get_or columns p no_column within) (
      place_found columns p differ within,
      places_found columns places differ (All-tail (λ i. i < length columns) p places known),
    )

one_place : (columns : List Column) (a b : List ℕ) (p q : ℕ) → IsPlaceOf columns a p → IsPlaceOf columns b q → a ≡ b
    → p ≡ q
one_place columns a b p q ha hb same =
    let both : Some p ≡ Some q =
    sym ha ∙ ap (λ (name : List ℕ). position (λ (c : Column). bytes_eq c.name name) columns) same ∙ hb in
    cc

distinct_names : (columns : List Column) (names : Line) (places : List ℕ) → ArePlacesOf columns names places
    → AllPairs (λ (i j : ℕ). i ≢ j) places → AllPairs (λ (a b : List ℕ). a ≢ b) names
distinct_names columns names places h differ = λ i j d before within same.
    let size = length_places columns names places h in
    let a = place_at columns names places i h (omega (arith, size)) in
    let b = place_at columns names places j h (omega (arith, size)) in
    let e : get_or names i [] ≡ get_or names j [] =
    get_or_default names i [] d (omega arith) ∙ same ∙ get_or_default names j d [] within in
    differ i j 0 before (omega (arith, size)) (one_place columns _ _ _ _ a b e)

declared : (t : TableDef) (names : Line) (places : List ℕ) → ArePlacesOf t.columns names places
    → All (IsDeclared t) names
declared t names places h = λ k d below.
    let size = length_places t.columns names places h in
    let place = get_or places k 0 in
    let name = get_or names k [] in
    let found = found_at t.columns name place (place_at t.columns names places k h (omega (arith, size))) in
    let some : Some found.column ≡ Some (get_or t.columns place found.column) =
    sym found.at ∙ slice_get-get_or t.columns place found.column found.within in
    let here : get_or t.columns place found.column ≡ found.column = cc in
    subst (IsDeclared t) (get_or_default names k [] d below) (place, found.column, found.within, here, found.named)

-- the key of an index
key_passes : (t : TableDef) (x : IndexDef) (line : IndexLine) → IsPart t → IsNextIndex t x → line.name ≡ x.name
    → line.root ≡ decimal x.root → line.keys ≡ column_names t x → KeyChecks t line None
key_passes t x line part next name root keys =
    let places = places_found t.columns x.columns part.columns.differ next.key.known in
    let h : ArePlacesOf t.columns line.keys x.columns =
    subst (λ (names : Line). ArePlacesOf t.columns names x.columns) (sym keys) places in
    let size = length_places t.columns line.keys x.columns h in
    let columns : index_columns t x ≡ columns_named t.columns line.keys =
    columns_of_places t.columns line.keys x.columns h in
    key_good t line (x.root, root, next.root) (next.few, omega (arith, size, next.key.most)) (
      λ k d below same. next.new k d below (same ∙ name),
      distinct_names t.columns line.keys x.columns h
          next.key.distinct,
    )
    (declared t line.keys x.columns h) (
      subst (FitsKey t.format) columns next.key.fits,
      λ none. subst (All (λ (c : Column). c.nullable ≡ false)) columns (next.not_null none),
    )
    (λ k d below same. next.new_root k d below (decimal_injective _ x.root
    (let bounds = part.indexes.roots k d below in omega (arith, bounds.1)) (omega (arith, next.root.1)) (same ∙ root)))

pub clustered_passes : (t : TableDef) (x : IndexDef) → IsPart t → IsNextIndex t x → length t.indexes ≡ 0
    → NextChecks t (clustered_words t x) None
unfolding ClusteredLineChecks
clustered_passes t x part next none =
    let key = key_passes t x (record { name = []; root = decimal x.root; keys = column_names t x }) part next
    (sym (next.unnamed none)) refl refl in
    by_clustered t (clustered_words t x) None refl refl
    ((next.behind, none, (omega arith, refl)), (names_are_names t.columns x.columns part.columns.names, key))

pub index_passes : (t : TableDef) (x : IndexDef) → IsPart t → IsNextIndex t x → 1 ≤ length t.indexes
    → NextChecks t (index_words t x) None
unfolding IndexLineChecks
index_passes t x part next some =
    let places = places_found t.columns x.columns part.columns.differ next.key.known in
    let size = length_places t.columns (column_names t x) x.columns places in
    let key = key_passes t x (record { name = x.name; root = decimal x.root; keys = column_names t x }) part next
    refl refl refl in
    let named = next.named some in
    by_index t (index_words t x) None refl refl refl (
      (some, (omega (arith, size, named.1), refl)),
      ((named.0, names_are_names t.columns x.columns part.columns.names), key),
    )
