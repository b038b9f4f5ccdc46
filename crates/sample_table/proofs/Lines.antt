-- The lines of the made rows: short, and with one LF each, at the end.
use Rattle.std.proofs.Common.{◌≡◌, ◌≢◌, ℕ, ◌+◌, ◌<◌, ◌≤◌, Bool, true, not, ◌&&◌, eqb, List, [], ◌∷◌, ◌++◌}
use Rattle.std.proofs.Common.{length, codes, decimal, refl, sym, ap}
use Rattle.std.proofs.Common.{◌∙◌, subst, arith, append_assoc}
use Rattle.std.specs.List.{All}
use Rattle.std.proofs.lemmas.Bool.{and_parts, not-true, eqb-false}
use Rattle.std.proofs.lemmas.Fmt.{length-decimal-le}
use Rattle.std.proofs.lemmas.List.{length-append}
use Rattle.std.proofs.lemmas.List.Elements.{All-nil, All-cons, All-append, All-weaker}
use Rattle.column_values.specs.declared.kind.ColumnType.TheVariants as types
use Rattle.column_values.specs.declared.value.Value.{Value}
use Rattle.column_values.specs.declared.value.Value.TheVariants.{Null, Text}
use Rattle.schema_text.specs.Grammar.{line_feed}
use Rattle.schema_text.specs.Cuts.{Lacks}
use Rattle.row_text.specs.Values.{value_text, escaped_text, quoted}
use Rattle.row_text.specs.Line.{line_of, values_of, IsLineOf}
use Rattle.sample_table.specs.Sample.{sample_table, sample_tag, sample_note, sample_row}
use Rattle.sample_table.proofs.Letters.{IsPlainByte, IsPlainValue, tag_plain, note_plain, plain_text, plain_lacks}
use Rattle.sample_table.proofs.Letters.{decimal_plain}
use Rattle.sample_table.proofs.MadeRows.{table_row}

-- at most so many bytes, and no LF
record IsPiece (most : ℕ) (piece : List ℕ) : Type 0 where
  few : length piece ≤ most
  lacks : Lacks line_feed piece

joined : (m n : ℕ) (xs ys : List ℕ) → IsPiece m xs → IsPiece n ys → IsPiece (m + n) (xs ++ ys)
joined m n xs ys first second =
    let size = length-append xs ys in
    let front = first.few in
    let rest = second.few in
    record {
      few = omega arith;
      lacks = All-append (λ b. b ≢ line_feed) xs ys first.lacks second.lacks;
    }

one_byte : (b : ℕ) → b ≢ line_feed → IsPiece 1 (b ∷ [])
one_byte b other = record {
  few = omega arith;
  lacks = All-cons (λ x. x ≢ line_feed) b [] other (All-nil (λ x. x ≢ line_feed));
}

plain : (text : List ℕ) → All IsPlainByte text → Lacks line_feed text
plain text each = All-weaker IsPlainByte (λ b. b ≢ line_feed) plain_lacks text each

-- a text, null, and a value
in_quotes : (most : ℕ) (text : List ℕ) → length text ≤ most → All IsPlainByte text
    → IsPiece (most + 2) (quoted (escaped_text text))
in_quotes most text few each =
    subst (λ (t : List ℕ). IsPiece (most + 2) (quoted t)) (sym (plain_text text each))
    (let all = joined 1 (most + 1) (39 ∷ []) (text ++ 39 ∷ []) (one_byte 39 (λ same. omega arith))
    (joined most 1 text (39 ∷ []) (record { few = few; lacks = plain text each })
    (one_byte 39 (λ same. omega arith))) in
    let few_bytes = all.few in record { few = omega arith; lacks = all.lacks })

null_text : (most : ℕ) → 4 ≤ most → IsPiece most (codes "NULL")
null_text most some = record {
  few = omega arith;
  lacks = plain (codes "NULL")
      (All-cons IsPlainByte 78 (85 ∷ 76 ∷ 76 ∷ []) (omega arith, refl)
      (All-cons IsPlainByte 85 (76 ∷ 76 ∷ []) (omega arith, refl)
      (All-cons IsPlainByte 76 (76 ∷ []) (omega arith, refl)
      (All-cons IsPlainByte 76 [] (omega arith, refl) (All-nil IsPlainByte)))));
}

tag_text : (value : Value) → IsPlainValue 6 value → IsPiece 8 (value_text (types.Varchar 20) value)
tag_text Null each = null_text 8 (omega arith)
tag_text (Text text) each = in_quotes 6 text each.0 each.1
tag_text value each = absurd each

note_text : (value : Value) → IsPlainValue 20000 value → IsPiece 20002 (value_text (types.Text 65535) value)
note_text Null each = null_text 20002 (omega arith)
note_text (Text text) each = in_quotes 20000 text each.0 each.1
note_text value each = absurd each

-- the line of row i, without its LF
opening : List ℕ
opening = codes "INSERT INTO `sample` VALUES ("

values_text : ℕ → List ℕ
values_text i =
    decimal i ++ 44 ∷ (value_text (types.Varchar 20) (sample_tag i) ++ 44
    ∷ value_text (types.Text 65535) (sample_note i))

pub bare_line : ℕ → List ℕ
bare_line i = opening ++ (values_text i ++ codes ");")

values_are : (i : ℕ) → values_of sample_table (sample_row i) ≡ values_text i
unfolding sample_table sample_row values_text
values_are i = refl

line_is : (i : ℕ) → bare_line i ++ line_feed ∷ [] ≡ line_of sample_table (sample_row i)
unfolding bare_line opening line_of sample_table
line_is i =
    append_assoc (codes "INSERT INTO `sample` VALUES (") (values_text i ++ codes ");") (line_feed ∷ [])
    ∙ ap (λ (rest : List ℕ). codes "INSERT INTO `sample` VALUES (" ++ rest)
    (append_assoc (values_text i) (codes ");") (line_feed ∷ [])
    ∙ ap (λ (v : List ℕ). v ++ codes ");\n") (sym (values_are i)))

pub has_line : (i : ℕ) → i < 4294967296 → IsLineOf sample_table (sample_row i) (bare_line i)
has_line i fits = record { is_row = table_row i fits; spelled = line_is i }

values_piece : (i : ℕ) → i ≤ 200000 → IsPiece 20018 (values_text i)
unfolding values_text
values_piece i few =
    joined 6 20012 (decimal i) _
    (record {
      few = length-decimal-le 6 i (omega arith) (omega arith) (omega arith);
      lacks = plain (decimal i) (decimal_plain i (omega arith));
    })
    (joined 1 20011 (44 ∷ []) _ (one_byte 44 (λ same. omega arith))
    (joined 8 20003 (value_text (types.Varchar 20) (sample_tag i)) _ (tag_text (sample_tag i) (tag_plain i))
    (joined 1 20002 (44 ∷ []) _ (one_byte 44 (λ same. omega arith)) (note_text (sample_note i) (note_plain i)))))

-- of a written text it is tested that it has no LF
lacks_feed : List ℕ → Bool
lacks_feed [] = true
lacks_feed (b ∷ bs) = not (eqb b line_feed) && lacks_feed bs

tested : (bytes : List ℕ) → lacks_feed bytes ≡ true → Lacks line_feed bytes
unfolding lacks_feed
tested [] passes = All-nil (λ x. x ≢ line_feed)
tested (b ∷ bs) passes =
    let parts = and_parts (not (eqb b line_feed)) (lacks_feed bs) passes in
    All-cons (λ x. x ≢ line_feed) b bs (eqb-false b line_feed (not-true (eqb b line_feed) parts.0)) (tested bs parts.1)

line_piece : (i : ℕ) → i ≤ 200000 → IsPiece 20060 (bare_line i)
unfolding bare_line opening lacks_feed
line_piece i few =
    let all = joined 29 20020 (codes "INSERT INTO `sample` VALUES (") _
    (record { few = omega arith; lacks = tested (codes "INSERT INTO `sample` VALUES (") refl })
    (joined 20018 2 (values_text i) (codes ");") (values_piece i few)
    (joined 1 1 (41 ∷ []) (59 ∷ []) (one_byte 41 (λ same. omega arith)) (one_byte 59 (λ same. omega arith)))) in
    let size = all.few in
    record { few = omega arith; lacks = all.lacks }

pub line_short : (i : ℕ) → i ≤ 200000 → length (bare_line i) ≤ 20060
line_short i few = (line_piece i few).few

pub line_lacks : (i : ℕ) → i ≤ 200000 → Lacks line_feed (bare_line i)
line_lacks i few = (line_piece i few).lacks
