-- The value of a field, by the part that its place has and the pages that it goes on in.
use Rattle.std.proofs.Common.{◌≡◌, ℕ, ◌+◌, ◌-◌, ◌<◌, ◌≤◌, Bool, true, false, cond, not, ◌&&◌, List}
use Rattle.std.proofs.Common.{◌++◌, length, take, drop, Some, None, refl, sym, ap, ◌∙◌, subst}
use Rattle.std.proofs.Common.{arith, length-append, length-drop}
use Rattle.std.proofs.Math.Seq.{drop-append_seam, take-append_seam}
use Rattle.std.proofs.lemmas.Bool.{true≢false}
use Rattle.std.proofs.lemmas.List.{length-take-le, take-append-drop}
use Rattle.page_source.specs.Pages.{page_of}
use Rattle.fil_frame.specs.Frame.{space_of}
use Rattle.column_values.specs.declared.kind.ColumnType.{ColumnType}
use Rattle.column_values.specs.declared.value.Value.{Value}
use Rattle.column_values.specs.declared.value.Value.TheVariants.{Null}
use Rattle.column_values.specs.Types.{IsColumnType}
use Rattle.column_values.specs.Spell.{Spell}
use Rattle.compact_record.specs.declared.places.Place.{Place}
use Rattle.compact_record.specs.Reading.{cell_at}
use Rattle.space_header.specs.Header.{size_of}
use Rattle.offpage_chain.specs.declared.reference.Reference.{Reference}
use Rattle.offpage_chain.specs.Reference.{reference_in, reference_of, reference_bytes, FitsReference}
use Rattle.offpage_chain.specs.Chain.{IsChain}
use Rattle.offpage_chain.specs.Laws.{HasOneChain}
use Rattle.offpage_chain.proofs.References.{reference_read}
use Rattle.schema_text.specs.declared.table.Format.{Format}
use Rattle.schema_text.specs.declared.table.Format.TheVariants.{Compact, Dynamic}
use Rattle.table_check.specs.Values.{bytes_at, front_of, FitsKind, pages_of_value}
use Rattle.table_check.specs.Rows.{IsWholeValue, HasValue}
use Rattle.table_check.specs.Valid.{IsSoundValue}
use Rattle.compact_record.specs.declared.parts.Part.TheVariants as parts
use Rattle.compact_record.specs.Writing.{part_cell, is_external_part}
use Rattle.row_layout.specs.StoredRow.{Stored, kept_prefix, going_over, off_bytes, reference_to, off_local}
use Rattle.row_layout.specs.StoredRow.{part_of_field}
use Rattle.row_layout.specs.Fitting.{WentOff}
use Rattle.column_values.specs.declared.field.Field.{Field}
use Rattle.row_layout.specs.HoldsValues.{HoldsBytes, field_page_numbers}
use Rattle.row_layout.proofs.Chains.{pages_in, bytes_are, is_chain}
use Rattle.row_layout.proofs.Lengths.{spell_fits, kind_fits, spell_text}

-- a field holds this value of this type
pub record StoresValue (kind : ColumnType) (stored : Stored) (value : Value) : Type 0 where
  pub none : stored.null ≡ true → value ≡ Null
  pub spelled : stored.null ≡ false → Spell kind value stored.bytes

-- what a place shows
cell_none : (null : Bool) (bytes : List ℕ) → cond null None (Some bytes) ≡ None → null ≡ true
cell_none true bytes same = refl
cell_none false bytes same = cc

cell_some : (null : Bool) (bytes known : List ℕ) → cond null None (Some bytes) ≡ Some known
    → (null ≡ false) × (bytes ≡ known)
cell_some true bytes known same = absurd (cc)
cell_some false bytes known same = (refl, cc)

over_prefix : (format : Format) → kept_prefix format + 20 ≤ going_over format
over_prefix Compact = omega arith
over_prefix Dynamic = omega arith

pub length-reference : (r : Reference) → length (reference_bytes r) ≡ 20
unfolding reference_bytes
length-reference r = refl

-- local bytes of a value that goes on elsewhere: how many, what they begin the value with, and their reference
module _ (format : Format) (n : ℕ) (field : Field) (stored : Stored) (went : WentOff format field stored) where
  front_size : length (take (kept_prefix format) stored.bytes) ≡ kept_prefix format
  front_size =
      let over = over_prefix format in
      length-take-le (kept_prefix format) stored.bytes (let long = went.long in omega arith)

  pub local_size : length (off_local format n stored) ≡ kept_prefix format + 20
  local_size =
      let front = take (kept_prefix format) stored.bytes in
      let last = reference_bytes (reference_to format n stored) in
      length-append front last
      ∙ rw (front_size, length-reference (reference_to format n stored)) refl

  back_to_front : length (off_local format n stored) - 20 ≡ length (take (kept_prefix format) stored.bytes)
  back_to_front = let size = local_size in let front = front_size in omega arith

  pub front_is : front_of (off_local format n stored) ≡ take (kept_prefix format) stored.bytes
  front_is =
      ap (λ k. take k (off_local format n stored)) back_to_front
      ∙ take-append_seam (take (kept_prefix format) stored.bytes) (reference_bytes (reference_to format n stored))

  pub reference_is : FitsReference (reference_to format n stored)
      → reference_of (off_local format n stored) ≡ reference_to format n stored
  reference_is fits =
      ap (λ k. reference_in (drop k (off_local format n stored))) back_to_front
      ∙ ap reference_in
      (drop-append_seam (take (kept_prefix format) stored.bytes) (reference_bytes (reference_to format n stored)))
      ∙ reference_read (reference_to format n stored) fits

  pub off_size : length (off_bytes format stored) + kept_prefix format ≡ length stored.bytes
  off_size =
      let over = over_prefix format in
      let size = length-drop (kept_prefix format) stored.bytes in
      let long = went.long in omega arith

-- what is known of a place: it has the part of a field, and the bytes that went stand on their pages
pub record IsPlaceOf (file : List ℕ) (segment : ℕ) (page : List ℕ) (place : Place) (format : Format)
    (number : ℕ → ℕ) (field : Field) (stored : Stored) : Type 0 where
  pub space : space_of (page_of file 0) ≡ 1
  pub most : size_of file ≤ 4194304
  pub cell : cell_at page place ≡ part_cell (part_of_field format (number 0) stored)
  pub external : place.external ≡ is_external_part (part_of_field format (number 0) stored)
  pub went : stored.off ≡ true → WentOff format field stored
  pub pages : stored.off ≡ true → HoldsBytes file segment number (off_bytes format stored)

-- and what follows: it has the value, is sound, and goes on in these pages
pub record HasHeld (file : List ℕ) (segment : ℕ) (kind : ColumnType) (page : List ℕ) (place : Place) (format : Format)
    (number : ℕ → ℕ) (stored : Stored) (value : Value) : Type 0 where
  pub has : HasValue file segment kind page place value
  pub sound : IsSoundValue file segment kind page place
  pub pages : pages_of_value file (bytes_at page place) (not place.null && place.external)
      ≡ field_page_numbers format number stored

module _ (one : HasOneChain) (file : List ℕ) (segment : ℕ) (kind : ColumnType) (page : List ℕ) (place : Place)
    (format : Format) (number : ℕ → ℕ) (field : Field) (stored : Stored) (value : Value) (is : IsColumnType kind)
    (stores : StoresValue kind stored value) (at : IsPlaceOf file segment page place format number field stored) where
  -- a null
  held_null : stored.null ≡ true → HasHeld file segment kind page place format number stored value
  held_null null =
      let here : place.null ≡ true = cell_none place.null (bytes_at page place)
      (at.cell ∙ ap (λ (b : Bool). part_cell (cond b parts.Null
      (cond stored.off (parts.Bytes (off_local format (number 0) stored) true) (parts.Bytes stored.bytes false)))) null)
      in
      record {
        has = record {
          null = λ _. stores.none null;
          local = λ some. absurd (true≢false (sym here ∙ some));
          external = λ some. absurd (true≢false (sym here ∙ some));
        };
        sound = record {
          local = λ some. absurd (true≢false (sym here ∙ some));
          external = λ some. absurd (true≢false (sym here ∙ some));
        };
        pages = by_off stored.off refl here;
      }
    where
      by_off : (o : Bool) → stored.off ≡ o → place.null ≡ true
          → pages_of_value file (bytes_at page place) (not place.null && place.external)
          ≡ field_page_numbers format number stored
      by_off true off here = absurd (true≢false (sym null ∙ (at.went off).some))
      by_off false off here = rw (here, off) refl

  -- one whose bytes are all on the page
  held_local : stored.null ≡ false → stored.off ≡ false
      → HasHeld file segment kind page place format number stored value
  held_local some near =
      let part : part_of_field format (number 0) stored ≡ parts.Bytes stored.bytes false = rw (some, near) refl in
      let here = cell_some place.null (bytes_at page place) stored.bytes (at.cell ∙ ap part_cell part) in
      let external : place.external ≡ false = at.external ∙ ap is_external_part part in
      let spelled : Spell kind value (bytes_at page place) =
      subst (Spell kind value) (sym here.1) (stores.spelled some) in
      record {
        has = record {
          null = λ none. absurd (true≢false (sym none ∙ here.0));
          local = λ _ _. spelled;
          external = λ _ away. absurd (true≢false (sym away ∙ external));
        };
        sound = record {
          local = λ _ _. (value, spelled);
          external = λ _ away. absurd (true≢false (sym away ∙ external));
        };
        pages = rw (here.0, external, near) refl;
      }

  -- one that goes on elsewhere
  module _ (some : stored.null ≡ false) (off : stored.off ≡ true) where
    went : WentOff format field stored
    went = at.went off

    spelled : Spell kind value stored.bytes
    spelled = stores.spelled some

    some_off : 0 < length (off_bytes format stored)
    some_off =
        let over = over_prefix format in
        let size = off_size format (number 0) field stored went in
        let long = went.long in omega arith

    fits : FitsReference (reference_to format (number 0) stored)
    fits =
        let first = (at.pages off 0 (let any = some_off in omega arith)).blob.below in
        let size = off_size format (number 0) field stored went in
        let most = at.most in
        let long = spell_fits kind value stored.bytes is spelled in
        let limit = kind_fits kind is in
        record { space = omega arith; page = omega arith; offset = omega arith; length = omega arith }

    local_is : (place.null ≡ false) × (bytes_at page place ≡ off_local format (number 0) stored)
    local_is =
        let part : part_of_field format (number 0) stored ≡ parts.Bytes (off_local format (number 0) stored) true =
        rw (some, off) refl in
        cell_some place.null (bytes_at page place) (off_local format (number 0) stored) (at.cell ∙ ap part_cell part)

    external_is : place.external ≡ true
    external_is =
        let part : part_of_field format (number 0) stored ≡ parts.Bytes (off_local format (number 0) stored) true =
        rw (some, off) refl in
        at.external ∙ ap is_external_part part

    refers : reference_of (bytes_at page place) ≡ reference_to format (number 0) stored
    refers = ap reference_of local_is.1 ∙ reference_is format (number 0) field stored went fits

    chain : IsChain file segment (reference_of (bytes_at page place)) (pages_in number (off_bytes format stored))
    chain =
        rw refers
        (is_chain file segment number (off_bytes format stored) (at.pages off) (reference_to format (number 0) stored)
        (sym at.space, refl) some_off refl refl)

    whole : IsWholeValue file segment (bytes_at page place) stored.bytes
    whole = record {
      pages = pages_in number (off_bytes format stored);
      chain = chain;
      is = sym (take-append-drop (kept_prefix format) stored.bytes)
          ∙ ap (λ xs. xs ++ off_bytes format stored)
          (sym (ap front_of local_is.1 ∙ front_is format (number 0) field stored went))
          ∙ ap (λ xs. front_of (bytes_at page place) ++ xs)
          (sym (bytes_are file segment number (off_bytes format stored) (at.pages off)));
    }

    fits_kind : FitsKind kind (bytes_at page place)
    fits_kind =
        let size = off_size format (number 0) field stored went in
        let local = ap length local_is.1 ∙ local_size format (number 0) field stored went in
        let stated : (reference_of (bytes_at page place)).length ≡ length (off_bytes format stored) =
        ap (λ (r : Reference). r.length) refers in
        let long = spell_fits kind value stored.bytes is spelled in omega arith

    held_long : HasHeld file segment kind page place format number stored value
    unfolding pages_in
    held_long = record {
      has = record {
        null = λ none. absurd (true≢false (sym none ∙ local_is.0));
        local = λ _ near. absurd (true≢false (sym external_is ∙ near));
        external = λ _ _. (stored.bytes, whole, spelled);
      };
      sound = record {
        local = λ _ near. absurd (true≢false (sym external_is ∙ near));
        external = λ _ _. record {
          fits = fits_kind;
          value = stored.bytes;
          whole = whole;
          text = spell_text kind value stored.bytes is spelled;
        };
      };
      pages = rw (local_is.0, external_is, off)
          (sym (one file segment (reference_of (bytes_at page place)) (pages_in number (off_bytes format stored))
          at.most chain));
    }

  pub held : HasHeld file segment kind page place format number stored value
  held = by_tests stored.null stored.off refl refl
    where
      by_tests : (n o : Bool) → stored.null ≡ n → stored.off ≡ o
          → HasHeld file segment kind page place format number stored value
      by_tests true o null off = held_null null
      by_tests false false null off = held_local null off
      by_tests false true null off = held_long null off
