-- Each row of the made table has a record that fits: where it is too long its note goes off the page.
use Rattle.std.proofs.Common.{◌≡◌, ℕ, ◌+◌, ◌<◌, ◌≤◌, Bool, true, false, ◌&&◌, cond, eqb, ltb}
use Rattle.std.proofs.Common.{List}
use Rattle.std.proofs.Common.{[], ◌∷◌, ◌++◌, length, replicate, None, Some, Option, IsSome, refl, sym, ap}
use Rattle.std.proofs.Common.{◌∙◌}
use Rattle.std.proofs.Common.{subst, arith, inl, inr}
use Rattle.std.specs.List.{position_or_len}
use Rattle.std.proofs.lemmas.Bool.{cases_lt, cond_both, cond-false, true≢false, leb-true, lt-leb, lt-ltb, ne_eqb}
use Rattle.std.proofs.lemmas.Bool.{eq-eqb}
use Rattle.std.proofs.lemmas.List.{length-append}
use Rattle.page_source.specs.Pages.{be_bytes}
use Rattle.column_values.specs.declared.kind.ColumnType.TheVariants as types
use Rattle.column_values.specs.declared.field.Field.{Field}
use Rattle.column_values.specs.declared.value.Value.{Value}
use Rattle.column_values.specs.declared.value.Value.TheVariants.{Null, Text}
use Rattle.column_values.specs.Spell.{spelling_of}
use Rattle.column_values.specs.Types.{is_variable, is_big}
use Rattle.schema_text.specs.declared.table.Format.TheVariants.{Dynamic}
use Rattle.schema_text.specs.IndexFields.{leaf_fields, leaving_field}
use Rattle.compact_record.specs.declared.parts.Part.{Part}
use Rattle.compact_record.specs.declared.parts.Part.TheVariants as parts
use Rattle.compact_record.specs.Writing.{size_of_record, origin_in, bytes_below, value_bytes, length_of_part}
use Rattle.compact_record.specs.Writing.{length_bytes}
use Rattle.compact_record.specs.Writing.{local_bytes}
use Rattle.offpage_chain.specs.Reference.{reference_bytes}
use Rattle.row_layout.specs.StoredRow.{Stored, kept, stored_row, stored_value, fitted_row, fitted, is_too_long}
use Rattle.row_layout.specs.StoredRow.{size_of_row}
use Rattle.row_layout.specs.StoredRow.{parts_of_row, part_of_field, going_lengths, greatest, longest_off, with_off}
use Rattle.row_layout.specs.StoredRow.{is_null_value}
use Rattle.row_store.specs.StoredRows.{HaveFittedRows}
use Rattle.sample_table.specs.Sample.{tag_column, note_column, sample_table, sample_tag, sample_note, sample_row}
use Rattle.sample_table.specs.Sample.{sample_rows}
use Rattle.sample_table.proofs.Letters.{IsPlainValue, tag_plain}
use Rattle.sample_table.proofs.MadeRows.{length-rows, row_at}

-- a row as it is stored, by its id, its tag and its note
abbrev stored_as : ℕ → Stored → Stored → List Stored
stored_as id tag note = kept (be_bytes 4 id) ∷ kept (replicate 6 0) ∷ kept (replicate 7 0) ∷ tag ∷ note ∷ []

-- a length takes two bytes at the most
few_lengths : (field : Field) (bytes : List ℕ) (external : Bool) → length (length_bytes field bytes external) ≤ 2
few_lengths field bytes true = omega arith
few_lengths field bytes false =
    cond_both (is_big field.kind && ltb 127 (length bytes)) _ _ (λ (xs : List ℕ). length xs ≤ 2)
    (λ long. omega arith) (λ short. omega arith)

few_length_bytes : (field : Field) (part : Part) → length (length_of_part (field, part)) ≤ 2
few_length_bytes field parts.Null = omega arith
few_length_bytes field (parts.Bytes bytes external) =
    cond_both (is_variable field.kind) _ [] (λ (xs : List ℕ). length xs ≤ 2)
    (λ variable. few_lengths field bytes external) (λ fixed. omega arith)

-- how long a record is
size_at_most : (id : ℕ) (tag note : Part) (m n : ℕ) → length (local_bytes tag) ≤ m → length (local_bytes note) ≤ n
    → size_of_record (leaf_fields sample_table 0) (parts.Bytes (be_bytes 4 id) false ∷ parts.Bytes (replicate 6 0) false
    ∷ parts.Bytes (replicate 7 0) false ∷ tag ∷ note ∷ []) ≤ 27 + m + n
unfolding sample_table leaf_fields size_of_record origin_in bytes_below value_bytes
size_at_most id tag note m n small few =
    let tag_lengths = few_length_bytes (leaving_field tag_column) tag in
    let note_lengths = few_length_bytes (leaving_field note_column) note in
    let rest = length-append (length_of_part (leaving_field note_column, note)) [] in
    let all = length-append (length_of_part (leaving_field tag_column, tag))
    (length_of_part (leaving_field note_column, note) ++ []) in
    let note_bytes = length-append (local_bytes note) [] in
    let bytes = length-append (local_bytes tag) (local_bytes note ++ []) in
    omega arith

-- a field on the page
part_on_page : (null : Bool) (bytes : List ℕ) (m : ℕ) → length bytes ≤ m
    → length (local_bytes (part_of_field Dynamic 0 (record { null = null; off = false; bytes = bytes }))) ≤ m
part_on_page true bytes m few = omega arith
part_on_page false bytes m few = few

-- and one that went off it
part_gone : (bytes : List ℕ)
    → length (local_bytes (part_of_field Dynamic 0 (record { null = false; off = true; bytes = bytes }))) ≤ 20
unfolding reference_bytes
part_gone bytes = omega arith

module _ (id : ℕ) (tag_null : Bool) (tag : List ℕ) (few : length tag ≤ 20) where
  abbrev tag_field : Stored
  tag_field = record { null = tag_null; off = false; bytes = tag }

  abbrev on_page : Bool → List ℕ → List Stored
  on_page null note = stored_as id tag_field (record { null = null; off = false; bytes = note })

  abbrev gone : List ℕ → List Stored
  gone note = stored_as id tag_field (record { null = false; off = true; bytes = note })

  -- a row whose note is short or null isn't too long, nor is one whose note went
  short_size : (null : Bool) (note : List ℕ) → length note ≤ 40 → size_of_row sample_table (on_page null note) ≤ 87
  unfolding sample_table parts_of_row
  short_size null note small =
      size_at_most id (part_of_field Dynamic 0 tag_field)
      (part_of_field Dynamic 0 (record { null = null; off = false; bytes = note })) 20 40
      (part_on_page tag_null tag 20 few) (part_on_page null note 40 small)

  null_size : (note : List ℕ) → size_of_row sample_table (on_page true note) ≤ 87
  unfolding sample_table parts_of_row
  null_size note =
      size_at_most id (part_of_field Dynamic 0 tag_field) parts.Null 20 40 (part_on_page tag_null tag 20 few)
      (omega arith)

  gone_size : (note : List ℕ) → size_of_row sample_table (gone note) ≤ 67
  unfolding sample_table parts_of_row
  gone_size note =
      size_at_most id (part_of_field Dynamic 0 tag_field)
      (part_of_field Dynamic 0 (record { null = false; off = true; bytes = note })) 20 20
      (part_on_page tag_null tag 20 few) (part_gone note)

  -- so the note of one that is too long is long
  long_note : (null : Bool) (note : List ℕ) → is_too_long sample_table (on_page null note) ≡ true
      → (null ≡ false) × (40 < length note)
  long_note true note long =
      let least = leb-true 8126 (size_of_row sample_table (on_page true note)) long in
      let most = null_size note in
      absurd (omega arith)
  long_note false note long = (
    refl,
    elim (cases_lt 40 (length note)) [
      | inl more ↦ more
      | inr small ↦
          let least = leb-true 8126 (size_of_row sample_table (on_page false note)) long in
          let most = short_size false note small in
          absurd (omega arith)
    ],
  )

  -- it goes
  lengths_are : (note : List ℕ) → 40 < length note
      → going_lengths sample_table (on_page false note) ≡ 0 ∷ 0 ∷ 0 ∷ 0 ∷ length note ∷ []
  unfolding sample_table leaf_fields going_lengths
  lengths_are note long =
      ap (λ (b : Bool). 0 ∷ 0 ∷ 0 ∷ 0 ∷ cond b (length note) 0 ∷ []) (lt-ltb 40 (length note) long)

  place_is : (n : ℕ) → 0 < n → position_or_len (λ k. eqb k n) (0 ∷ 0 ∷ 0 ∷ 0 ∷ n ∷ []) ≡ 4
  place_is n some =
      let other : eqb 0 n ≡ false = ne_eqb 0 n (λ same. omega arith) in
      let same : eqb n n ≡ true = eq-eqb n n refl in
      rw (other, same) refl

  greatest_is : (n : ℕ) → greatest (0 ∷ 0 ∷ 0 ∷ 0 ∷ n ∷ []) ≡ n
  greatest_is n = omega arith

  note_goes : (note : List ℕ) → 40 < length note → longest_off sample_table (on_page false note) ≡ gone note
  unfolding longest_off
  note_goes note long =
      ap (λ (ls : List ℕ). with_off (position_or_len (λ k. eqb k (greatest ls)) ls) (on_page false note))
      (lengths_are note long)
      ∙ ap (λ g. with_off (position_or_len (λ k. eqb k g) (0 ∷ 0 ∷ 0 ∷ 0 ∷ length note ∷ [])) (on_page false note))
      (greatest_is (length note))
      ∙ ap (λ k. with_off k (on_page false note)) (place_is (length note) (omega arith))

  -- and then it isn't too long
  gone_fits : (note : List ℕ) → fitted sample_table 4 (gone note) ≡ Some (gone note)
  gone_fits note =
      let size = gone_size note in
      cond-false (is_too_long sample_table (gone note))
      (cond (eqb (greatest (going_lengths sample_table (gone note))) 0) None
      (fitted sample_table 3 (longest_off sample_table (gone note)))) (Some (gone note))
      (lt-leb 8126 (size_of_row sample_table (gone note)) (omega arith))

  -- what comes of a row that is too long
  abbrev shorter : Bool → List ℕ → Option (List Stored)
  shorter null note =
      cond (eqb (greatest (going_lengths sample_table (on_page null note))) 0) None
      (fitted sample_table 4 (longest_off sample_table (on_page null note)))

  goes : (null : Bool) (note : List ℕ) → null ≡ false → 40 < length note → IsSome (shorter null note)
  goes true note same long = absurd (true≢false same)
  goes false note same long =
      let most = greatest_is (length note) in
      let some : eqb (greatest (going_lengths sample_table (on_page false note))) 0 ≡ false =
      ap (λ (ls : List ℕ). eqb (greatest ls) 0) (lengths_are note long)
      ∙ ap (λ g. eqb g 0) most ∙ ne_eqb (length note) 0 (λ none. omega arith) in
      subst (λ (o : Option (List Stored)). IsSome o)
      (sym (cond-false (eqb (greatest (going_lengths sample_table (on_page false note))) 0) None
      (fitted sample_table 4 (longest_off sample_table (on_page false note))) some
      ∙ ap (fitted sample_table 4) (note_goes note long) ∙ gone_fits note)) refl

  fits_as : (null : Bool) (note : List ℕ) → IsSome (fitted sample_table 5 (on_page null note))
  fits_as null note =
      cond_both (is_too_long sample_table (on_page null note)) (shorter null note) (Some (on_page null note))
      (λ (o : Option (List Stored)). IsSome o)
      (λ long. let has = long_note null note long in goes null note has.0 has.1) (λ short. refl)

tag_few : (value : Value) → IsPlainValue 6 value → length (spelling_of (types.Varchar 20) value) ≤ 20
tag_few Null plain = omega arith
tag_few (Text text) plain = let few = plain.0 in omega arith
tag_few value plain = absurd plain

-- a row as it is stored
stored_is : (r i : ℕ) → stored_row sample_table r (sample_row i)
    ≡ stored_as i (stored_value (types.Varchar 20) (sample_tag i)) (stored_value (types.Text 65535) (sample_note i))
unfolding sample_table sample_row stored_row
stored_is r i = refl

fits : (r i : ℕ) → IsSome (fitted_row sample_table r (sample_row i))
unfolding fitted_row
fits r i =
    subst (λ (row : List Stored). IsSome (fitted sample_table (length row) row)) (sym (stored_is r i))
    (fits_as i (is_null_value (sample_tag i)) (spelling_of (types.Varchar 20) (sample_tag i))
    (tag_few (sample_tag i) (tag_plain i)) (is_null_value (sample_note i))
    (spelling_of (types.Text 65535) (sample_note i)))

pub fitted_rows : (n : ℕ) → HaveFittedRows sample_table (sample_rows n)
fitted_rows n r inside =
    let size = length-rows n in
    subst (λ (row : List Value). IsSome (fitted_row sample_table r row)) (sym (row_at n r (omega arith)))
    (fits r (r + 1))
