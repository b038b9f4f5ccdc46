-- Numbers that were written one after the other are read again.
use Rattle.std.specs.Prelude.{⊤}
use Rattle.std.proofs.Common.{◌≡◌, ℕ, ◌+◌, ◌<◌, ◌≤◌, ◌^◌, List, [], ◌∷◌, ◌++◌, length, drop, sym, ap, ◌∙◌}
use Rattle.std.proofs.Common.{append_assoc}
use Rattle.std.proofs.Math.Seq.{drop_at}
use Rattle.std.proofs.lemmas.List.{drop-drop}
use Rattle.byteorder.specs.Endian.{big_from}
use Rattle.byteorder.specs.Numbers.{big_number-reads_back, length-bytes_high_first}
use Rattle.page_source.specs.Pages.{num, be_bytes, with_bytes}
use Rattle.page_source.proofs.Numbers.{num-is_big, drop-with_bytes}

-- the bytes of numbers, each of which stands after its width
abbrev pub fields_bytes : List (ℕ × ℕ) → List ℕ
fields_bytes [] = []
fields_bytes (field ∷ fields) = be_bytes field.0 field.1 ++ fields_bytes fields

-- each number fits its width
abbrev pub AllFit : List (ℕ × ℕ) → Type 0
AllFit [] = ⊤
AllFit (field ∷ fields) = (field.1 < 256 ^ field.0) × AllFit fields

-- each number is read, one after the other from a place on
abbrev pub AreRead : List ℕ → ℕ → List (ℕ × ℕ) → Type 0
AreRead page at [] = ⊤
AreRead page at (field ∷ fields) = (num page at field.0 ≡ field.1) × AreRead page (at + field.0) fields

numbers_read : (page : List ℕ) (at : ℕ) (fields : List (ℕ × ℕ)) (rest : List ℕ)
    → drop at page ≡ fields_bytes fields ++ rest → AllFit fields → AreRead page at fields
numbers_read page at [] rest is fit = tt
numbers_read page at (field ∷ fields) rest is fit =
    let here = be_bytes field.0 field.1 in
    let later = fields_bytes fields ++ rest in
    let whole : drop at page ≡ here ++ later = is ∙ append_assoc here (fields_bytes fields) rest in
    let next : drop (at + field.0) page ≡ later =
    sym (drop-drop field.0 at page) ∙ ap (drop field.0) whole
    ∙ drop_at here later field.0 (length-bytes_high_first field.0 field.1) in (
      num-is_big page at field.0 ∙ ap (big_from 0 field.0) whole ∙ big_number-reads_back field.0 field.1 later fit.0,
      numbers_read page (at + field.0) fields rest next fit.1,
    )

-- what was written is read
pub fields_read : (page : List ℕ) (at : ℕ) (bytes : List ℕ) (fields : List (ℕ × ℕ)) → bytes ≡ fields_bytes fields
    → at ≤ length page → AllFit fields → AreRead (with_bytes page at bytes) at fields
fields_read page at bytes fields is inside fit =
    numbers_read (with_bytes page at bytes) at fields _
    (drop-with_bytes page bytes at inside ∙ ap (λ (xs : List ℕ). xs ++ drop (at + length bytes) page) is) fit
