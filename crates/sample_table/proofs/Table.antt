-- The made table is a table, and this is its schema's text.
use Rattle.std.proofs.Common.{◌≡◌, ◌≢◌, ℕ, zero, suc, ◌+◌, ◌<◌, ◌≤◌, false, List, [], ◌∷◌, ◌++◌, length}
use Rattle.std.proofs.Common.{get_or, slice_get, IfSome, flat_map, codes, decimal, refl, sym, ap, ◌∙◌, subst, arith}
use Rattle.std.proofs.Common.{inl, inr, Result, Ok, Err}
use Rattle.std.specs.List.{All, AllPairs, sum_by}
use Rattle.std.proofs.lemmas.Bool.{leb-true}
use Rattle.std.proofs.lemmas.Fmt.{decimal_digit, decimal_step}
use Rattle.std.proofs.lemmas.List.Elements.{All-cons, All-nil}
use Rattle.column_values.specs.Types.{IsColumnType, is_long_kind, greatest_length}
use Rattle.schema_text.specs.declared.table.Column.{Column}
use Rattle.schema_text.specs.declared.table.IndexDef.{IndexDef}
use Rattle.schema_text.specs.declared.errors.SchemaError.{SchemaError}
use Rattle.schema_text.specs.declared.errors.SchemaError.TheVariants.{Refused}
use Rattle.schema_text.specs.declared.errors.SchemaWhy.{SchemaWhy}
use Rattle.schema_text.specs.Laws.{IsReadBack, TextsReadBack}
use Rattle.schema_text.specs.Refusals.{ReadsAs}
use Rattle.schema_text.specs.TableDef.{TableDef, index_at, index_columns}
use Rattle.schema_text.specs.Grammar.{IsName, IsNameByte, IsKeyOf, IsRoot, IsTable, IsTextOf, schema_text, schema_words}
use Rattle.schema_text.specs.Grammar.{line_of, table_words}
use Rattle.sample_table.specs.Sample.{id_column, tag_column, note_column, by_id, by_tag, sample_table}

-- lists of one, two and three
one : {A : Type 0} (P : A → Type 0) (x : A) → P x → All P (x ∷ [])
one P x first = All-cons P x [] first (All-nil P)

two : {A : Type 0} (P : A → Type 0) (x y : A) → P x → P y → All P (x ∷ y ∷ [])
two P x y first second = All-cons P x (y ∷ []) first (one P y second)

three : {A : Type 0} (P : A → Type 0) (x y z : A) → P x → P y → P z → All P (x ∷ y ∷ z ∷ [])
three P x y z first second third = All-cons P x (y ∷ z ∷ []) first (two P y z second third)

pair : {A : Type 0} (R : A → A → Type 0) (x y : A) → R x y → AllPairs R (x ∷ y ∷ [])
pair R x y is zero zero d before within = absurd (omega arith)
pair R x y is zero (suc zero) d before within = is
pair R x y is zero (suc (suc j)) d before within = absurd (omega arith)
pair R x y is (suc i) j d before within = absurd (omega arith)

pairs : {A : Type 0} (R : A → A → Type 0) (x y z : A) → R x y → R x z → R y z → AllPairs R (x ∷ y ∷ z ∷ [])
pairs R x y z xy xz yz zero zero d before within = absurd (omega arith)
pairs R x y z xy xz yz zero (suc zero) d before within = xy
pairs R x y z xy xz yz zero (suc (suc zero)) d before within = xz
pairs R x y z xy xz yz zero (suc (suc (suc j))) d before within = absurd (omega arith)
pairs R x y z xy xz yz (suc zero) zero d before within = absurd (omega arith)
pairs R x y z xy xz yz (suc zero) (suc zero) d before within = absurd (omega arith)
pairs R x y z xy xz yz (suc zero) (suc (suc zero)) d before within = yz
pairs R x y z xy xz yz (suc zero) (suc (suc (suc j))) d before within = absurd (omega arith)
pairs R x y z xy xz yz (suc (suc i)) j d before within = absurd (omega arith)

-- names
letter : (b : ℕ) → 97 ≤ b → b ≤ 122 → IsNameByte b
letter b least most = inr (inl (least, most))

name_id : IsName (codes "id")
name_id = record {
  least = omega arith;
  most = omega arith;
  bytes = two IsNameByte 105 100 (letter 105 (omega arith) (omega arith)) (letter 100 (omega arith) (omega arith));
}

name_tag : IsName (codes "tag")
name_tag = record {
  least = omega arith;
  most = omega arith;
  bytes = three IsNameByte 116 97 103 (letter 116 (omega arith) (omega arith)) (letter 97 (omega arith) (omega arith))
      (letter 103 (omega arith) (omega arith));
}

name_note : IsName (codes "note")
name_note = record {
  least = omega arith;
  most = omega arith;
  bytes = All-cons IsNameByte 110 (111 ∷ 116 ∷ 101 ∷ []) (letter 110 (omega arith) (omega arith))
      (three IsNameByte 111 116 101 (letter 111 (omega arith) (omega arith)) (letter 116 (omega arith) (omega arith))
      (letter 101 (omega arith) (omega arith)));
}

name_sample : IsName (codes "sample")
name_sample = record {
  least = omega arith;
  most = omega arith;
  bytes = All-cons IsNameByte 115 (97 ∷ 109 ∷ 112 ∷ 108 ∷ 101 ∷ []) (letter 115 (omega arith) (omega arith))
      (All-cons IsNameByte 97 (109 ∷ 112 ∷ 108 ∷ 101 ∷ []) (letter 97 (omega arith) (omega arith))
      (All-cons IsNameByte 109 (112 ∷ 108 ∷ 101 ∷ []) (letter 109 (omega arith) (omega arith))
      (three IsNameByte 112 108 101 (letter 112 (omega arith) (omega arith)) (letter 108 (omega arith) (omega arith))
      (letter 101 (omega arith) (omega arith)))));
}

name_by_tag : IsName (codes "by_tag")
name_by_tag = record {
  least = omega arith;
  most = omega arith;
  bytes = All-cons IsNameByte 98 (121 ∷ 95 ∷ 116 ∷ 97 ∷ 103 ∷ []) (letter 98 (omega arith) (omega arith))
      (All-cons IsNameByte 121 (95 ∷ 116 ∷ 97 ∷ 103 ∷ []) (letter 121 (omega arith) (omega arith))
      (All-cons IsNameByte 95 (116 ∷ 97 ∷ 103 ∷ []) (inr (inr (inr (inl refl))))
      (three IsNameByte 116 97 103 (letter 116 (omega arith) (omega arith)) (letter 97 (omega arith) (omega arith))
      (letter 103 (omega arith) (omega arith)))));
}

-- keys of one short column
key_of : (index : IndexDef) (i : ℕ) (column : Column) → index.columns ≡ i ∷ [] → i < 3
    → index_columns sample_table index ≡ column ∷ [] → is_long_kind column.kind ≡ false
    → greatest_length column.kind ≤ 767 → IsKeyOf sample_table index
unfolding sample_table
key_of index i column only below is short_kind small = record {
  most = let size = ap length only in omega arith;
  known = subst (All (λ (k : ℕ). k < 3)) (sym only) (one (λ (k : ℕ). k < 3) i below);
  distinct = subst (AllPairs (λ (a b : ℕ). a ≢ b)) (sym only) (λ a b d before within. absurd (omega arith));
  fits = record {
    short_kinds = subst (All (λ (c : Column). is_long_kind c.kind ≡ false)) (sym is)
        (one (λ (c : Column). is_long_kind c.kind ≡ false) column short_kind);
    total = subst (λ (columns : List Column). sum_by (λ (c : Column). greatest_length c.kind) columns ≤ 3072) (sym is)
        (omega arith);
    each = λ compact. subst (All (λ (c : Column). greatest_length c.kind ≤ 767)) (sym is)
        (one (λ (c : Column). greatest_length c.kind ≤ 767) column small);
  };
}

-- its text, where the numbers are written so
text_with : List ℕ → List ℕ → List ℕ → List ℕ
text_with first second length =
    flat_map line_of
    (table_words sample_table
    ∷ (codes "column" ∷ codes "id" ∷ codes "int" ∷ codes "unsigned" ∷ codes "notnull" ∷ [])
    ∷ (codes "column" ∷ codes "tag" ∷ codes "varchar" ∷ length ∷ codes "null" ∷ [])
    ∷ (codes "column" ∷ codes "note" ∷ codes "text" ∷ codes "null" ∷ [])
    ∷ (codes "clustered" ∷ codes "root" ∷ first ∷ codes "id" ∷ [])
    ∷ (codes "index" ∷ codes "by_tag" ∷ codes "root" ∷ second ∷ codes "tag" ∷ []) ∷ [])

text_of_words : schema_text sample_table ≡ text_with (decimal 3) (decimal 4) (decimal 20)
unfolding sample_table schema_text schema_words text_with
text_of_words = refl

twenty : decimal 20 ≡ 50 ∷ 48 ∷ []
twenty =
    decimal_step 20 (omega arith) (omega arith)
    ∙ ap (λ (front : List ℕ). front ++ 48 ∷ []) (decimal_digit 2 (omega arith))

-- the text of the made table
pub made_text : List ℕ
made_text = text_with (51 ∷ []) (52 ∷ []) (50 ∷ 48 ∷ [])

-- as it is written
pub written : codes "table sample dynamic\ncolumn id int unsigned notnull\n"
    ++ codes "column tag varchar 20 null\ncolumn note text null\n"
    ++ codes "clustered root 3 id\nindex by_tag root 4 tag\n" ≡ made_text
unfolding made_text text_with sample_table
written = refl

text_is : schema_text sample_table ≡ made_text
unfolding made_text
text_is =
    text_of_words
    ∙ ap (λ (n : List ℕ). text_with n (decimal 4) (decimal 20)) (decimal_digit 3 (omega arith))
    ∙ ap (λ (n : List ℕ). text_with (51 ∷ []) n (decimal 20)) (decimal_digit 4 (omega arith))
    ∙ ap (text_with (51 ∷ []) (52 ∷ [])) twenty

short_text : length made_text ≤ 65536
unfolding made_text text_with sample_table
short_text = leb-true (length made_text) 65536 refl

pub is_table : IsTable sample_table
unfolding sample_table
is_table = record {
  name = name_sample;
  some_column = omega arith;
  columns = omega arith;
  column_names = three (λ (c : Column). IsName c.name) id_column tag_column note_column name_id name_tag name_note;
  kinds = three (λ (c : Column). IsColumnType c.kind) id_column tag_column note_column (inr (inr (inr (inl refl))))
      (omega arith, omega arith) (inr (inl refl));
  columns_differ = pairs (λ (c d : Column). c.name ≢ d.name) id_column tag_column note_column
      (λ same. let e : 105 ≡ 116 = ap (λ (xs : List ℕ). get_or xs 0 0) same in absurd (omega arith))
      (λ same. let e : 105 ≡ 110 = ap (λ (xs : List ℕ). get_or xs 0 0) same in absurd (omega arith))
      (λ same. let e : 116 ≡ 110 = ap (λ (xs : List ℕ). get_or xs 0 0) same in absurd (omega arith));
  clustered = omega arith;
  indexes = omega arith;
  unnamed = one (λ (x : IndexDef). x.name ≡ []) by_id refl;
  named = one (λ (x : IndexDef). IsName x.name × (1 ≤ length x.columns)) by_tag (name_by_tag, omega arith);
  indexes_differ = pair (λ (x y : IndexDef). x.name ≢ y.name) by_id by_tag
      (λ same. let e : 0 ≡ 6 = ap (λ (xs : List ℕ). length xs) same in absurd (omega arith));
  keys = two (IsKeyOf sample_table) by_id by_tag
      (key_of by_id 0 id_column refl (omega arith) refl refl (omega arith))
      (key_of by_tag 1 tag_column refl (omega arith) refl refl (omega arith));
  not_null = one (λ (x : IndexDef). All (λ (c : Column). c.nullable ≡ false) (index_columns sample_table x)) by_id
      (one (λ (c : Column). c.nullable ≡ false) id_column refl);
  roots = two (λ (x : IndexDef). IsRoot x.root) by_id by_tag (omega arith, omega arith) (omega arith, omega arith);
  roots_differ = pair (λ (x y : IndexDef). x.root ≢ y.root) by_id by_tag (λ same. absurd (omega arith));
  lines = lines_are;
  short = subst (λ (text : List ℕ). length text ≤ 65536) (sym text_is) short_text;
}
  where
    lines_are : (j : ℕ) → IfSome (slice_get sample_table.indexes j)
        (λ (x : IndexDef). x.line ≡ length sample_table.columns + 2 + j)
    lines_are zero = refl
    lines_are (suc zero) = refl
    lines_are (suc (suc j)) = tt

pub is_text : IsTextOf sample_table made_text
is_text = record { is = is_table; text_is = sym text_is }

-- its roots are 3 and 4
pub roots_in_order : (j : ℕ) → j < length sample_table.indexes → (index_at sample_table j).root ≡ 3 + j
unfolding sample_table
roots_in_order zero inside = refl
roots_in_order (suc zero) inside = refl
roots_in_order (suc (suc j)) inside = absurd (omega arith)

-- what is read of it is the made table
pub text_read : TextsReadBack → (text : List ℕ) → text ≡ made_text → (result : Result TableDef SchemaError)
    → ReadsAs text result → IsReadBack sample_table result
text_read back text is result reads =
    back sample_table text result (subst (IsTextOf sample_table) (sym is) is_text) reads

pub never_refused : TextsReadBack → (text : List ℕ) → text ≡ made_text → (result : Result TableDef SchemaError)
    → ReadsAs text result → (line : ℕ) (why : SchemaWhy) → result ≡ Err (Refused line why) → ⊥
never_refused back text is result reads line why refused =
    subst (IsReadBack sample_table) refused (text_read back text is result reads)

pub is_read : TextsReadBack → (text : List ℕ) → text ≡ made_text → (result : Result TableDef SchemaError)
    → ReadsAs text result → (table : TableDef) → result ≡ Ok table → table ≡ sample_table
is_read back text is result reads table ok = subst (IsReadBack sample_table) ok (text_read back text is result reads)
