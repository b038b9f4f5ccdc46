-- The text of some value, of a file that may not tell its bytes.
use Rattle.std.proofs.Common.{◌≡◌, ℕ, ◌+◌, ◌==◌, true, false, List, [], ◌∷◌, ◌++◌, length, take, Option, Some, None}
use Rattle.std.proofs.Common.{Result, Ok, Err, refl, sym, ap, ◌∙◌, subst, arith, append_assoc, length-append}
use Rattle.std.specs.Prelude.{codes}
use Rattle.std.proofs.lemmas.List.{append-nil}
use Rattle.std.proofs.lemmas.Bool.Decides.{nat_tests}
use Rattle.hex.specs.Hex.{encode_with, encode_lower}
use Rattle.page_source.specs.declared.objects.ByteSink.{Ghosts as SinkOf}
use Rattle.page_source.specs.Objects.{GrowsBy, GrowsByPart}
use Rattle.page_source.specs.Calls.{Puts}
use Rattle.page_source.proofs.Texts.{grows_on}
use Rattle.column_values.specs.declared.kind.ColumnType.{ColumnType}
use Rattle.column_values.specs.declared.kind.ColumnType.TheVariants as types
use Rattle.column_values.specs.declared.value.Value.{Value}
use Rattle.column_values.specs.declared.value.Value.TheVariants.{Null, Text, Bytes}
use Rattle.row_text.specs.Values.{escaped_text, quoted, value_text}
use Rattle.row_text.specs.Writer.{before_value, is_long, long_open, long_part, long_close}
use Rattle.row_text.specs.Laws.{NoPart, PartsJoin, in_one_part}
use Rattle.sql_dump.specs.declared.stop.WriteStop.{WriteStop}
use Rattle.sql_dump.specs.Long.{IsSplit}
use Rattle.sql_dump.specs.SomeRows.{Grows, PutsSomeBytes, PutsSomeValue}

pub grows_none : (a : Option (List ℕ)) → GrowsBy a a []
grows_none None = refl
grows_none (Some old) = ap Some (sym (append-nil old))

-- a part of a text is some text
pub part_grows : (a b : Option (List ℕ)) (text : List ℕ) → GrowsByPart a b text → Grows a b
part_grows None b text part = record { text = []; grown = part }
part_grows (Some old) b text part = record { text = take part.0 text; grown = part.2 }

pub grows_more : (a b c : Option (List ℕ)) (text : List ℕ) → GrowsBy a b text → Grows b c → Grows a c
grows_more a b c text first next =
    record { text = text ++ next.text; grown = grows_on a b c text next.text first next.grown }

-- some bytes of a long value, with so many to follow
pub record SomeSoFar (kind : ColumnType) (old new : Option (List ℕ)) (all left : ℕ) : Type 0 where
  pub bytes : List ℕ
  pub size : length bytes + left ≡ all
  pub grown : GrowsBy old new (long_part kind bytes)

pub no_bytes : (kind : ColumnType) (a : Option (List ℕ)) (all left : ℕ) → NoPart → left ≡ all
    → SomeSoFar kind a a all left
no_bytes kind a all left none is = record {
  bytes = [];
  size = omega (arith, is);
  grown = subst (λ (t : List ℕ). GrowsBy a a t) (sym (none kind)) (grows_none a);
}

pub more_bytes : (kind : ColumnType) (a b c : Option (List ℕ)) (all left less : ℕ) (part : List ℕ) → PartsJoin
    → SomeSoFar kind a b all left → GrowsBy b c (long_part kind part) → less + length part ≡ left
    → SomeSoFar kind a c all less
more_bytes kind a b c all left less part join so grown is = record {
  bytes = so.bytes ++ part;
  size = omega (arith, so.size, is, length-append so.bytes part);
  grown =
      subst (λ (t : List ℕ). GrowsBy a c t) (sym (join kind so.bytes part))
      (grows_on a b c (long_part kind so.bytes) (long_part kind part) so.grown grown);
}

pub bytes_end : (kind : ColumnType) (a b : Option (List ℕ)) (all left : ℕ) → SomeSoFar kind a b all left → left ≡ 0
    → (bytes : List ℕ) × (length bytes ≡ all) × GrowsBy a b (long_part kind bytes)
bytes_end kind a b all left so none = (so.bytes, omega (arith, so.size, none), so.grown)

pub bytes_break : (kind : ColumnType) (a b : Option (List ℕ)) (all left : ℕ) → SomeSoFar kind a b all left → Grows a b
bytes_break kind a b all left so = record { text = long_part kind so.bytes; grown = so.grown }

pub bytes_cut : (kind : ColumnType) (a b c : Option (List ℕ)) (all left : ℕ) (text : List ℕ)
    → SomeSoFar kind a b all left → GrowsByPart b c text → Grows a c
bytes_cut kind a b c all left text so part =
    grows_more a b c (long_part kind so.bytes) so.grown (part_grows b c text part)

-- the bytes of a long value are those of a value
one_text : (bytes : List ℕ)
    → codes "'" ++ (escaped_text bytes ++ codes "'") ≡ quoted (escaped_text bytes)
one_text bytes = refl

none_encoded : encode_lower [] ≡ []
unfolding encode_with
none_encoded = refl

one_number : (bytes : List ℕ) → in_one_part (types.Blob 0) bytes ≡ value_text (types.Blob 0) (Bytes bytes)
one_number [] = ap (λ (t : List ℕ). codes "''" ++ (t ++ [])) none_encoded
one_number (b ∷ bytes) =
    let some : (length (b ∷ bytes) == 0) ≡ false = grind (arith, nat_tests) in
    rw some (ap (λ (t : List ℕ). codes "0x" ++ t) (append-nil (encode_lower (b ∷ bytes))))

pub one_value : (kind : ColumnType) (bytes : List ℕ) → is_long kind ≡ true
    → (value : Value) × (in_one_part kind bytes ≡ value_text kind value)
one_value (types.Varchar n) bytes long = (Text bytes, one_text bytes)
one_value (types.Text n) bytes long = (Text bytes, one_text bytes)
one_value (types.Utf8Varchar n) bytes long = (Text bytes, one_text bytes)
one_value (types.Utf8Text n) bytes long = (Text bytes, one_text bytes)
one_value (types.Varbinary n) bytes long = (Bytes bytes, one_number bytes)
one_value (types.Blob n) bytes long = (Bytes bytes, one_number bytes)
one_value _ bytes long = absurd (cc long)

-- a long value in four pieces
pub long_value : (kind : ColumnType) (came size stated : ℕ) (front : List ℕ)
    (a b c d e : Option (List ℕ)) → PartsJoin → is_long kind ≡ true → stated ≡ length front + size
    → GrowsBy a b (before_value came ++ long_open kind stated) → GrowsBy b c (long_part kind front)
    → (bytes : List ℕ) × (length bytes ≡ size) × GrowsBy c d (long_part kind bytes)
    → GrowsBy d e (long_close kind) → (value : Value) × GrowsBy a e (before_value came ++ value_text kind value)
long_value kind came size stated front a b c d e join long is first second third last =
    let bytes = third.0 in
    let before = before_value came in
    let opened = long_open kind stated in
    let x = long_part kind front in
    let y = long_part kind bytes in
    let close = long_close kind in
    let count : stated ≡ length (front ++ bytes) = omega (arith, is, third.1, length-append front bytes) in
    let value = one_value kind (front ++ bytes) long in
    let whole : GrowsBy a e (((before ++ opened) ++ x) ++ (y ++ close)) =
    grows_on a c e ((before ++ opened) ++ x) (y ++ close) (grows_on a b c (before ++ opened) x first second)
    (grows_on c d e y close third.2 last) in
    let same : ((before ++ opened) ++ x) ++ (y ++ close) ≡ before ++ value_text kind value.0 =
    append_assoc (before ++ opened) x (y ++ close) ∙ append_assoc before opened (x ++ (y ++ close))
    ∙ ap (λ (t : List ℕ). before ++ (opened ++ t))
    (sym (append_assoc x y close) ∙ ap (λ (t : List ℕ). t ++ close) (sym (join kind front bytes)))
    ∙ ap (λ n. before ++ (long_open kind n ++ (long_part kind (front ++ bytes) ++ close))) count
    ∙ ap (λ (t : List ℕ). before ++ t) value.1 in
    (value.0, subst (λ (t : List ℕ). GrowsBy a e t) same whole)
