-- What comes of a line, put together from its parts.
use Rattle.std.proofs.Common.{◌≡◌, ℕ, ◌≤◌, true, false, List, [], ◌∷◌, length, drop, All, Option, Some, None, Result}
use Rattle.std.proofs.Common.{Ok, Err, inl, inr, refl, sym, ap, ◌∙◌, subst, arith}
use Rattle.std.specs.Prelude.{codes, decimal, OnOk, IfErr, IsErrAnd, MatchResult}
use Rattle.schema_text.specs.declared.errors.SchemaWhy.{SchemaWhy}
use Rattle.schema_text.specs.declared.errors.SchemaWhy.TheVariants.{Form, Name}
use Rattle.schema_text.specs.declared.errors.SchemaError.{SchemaError}
use Rattle.schema_text.specs.declared.errors.SchemaError.TheVariants.{Refused, Memory}
use Rattle.schema_text.specs.declared.table.Format.{Format}
use Rattle.schema_text.specs.TableDef.{TableDef}
use Rattle.schema_text.specs.Grammar.{IsName, IsRoot, format_word}
use Rattle.schema_text.specs.Parts.{IsPart}
use Rattle.schema_text.specs.Refusals.{Line, word, is_column_line, is_clustered_line, is_index_line, IsTableForm}
use Rattle.schema_text.specs.Refusals.{FirstChecks, IsClusteredForm, IsIndexForm, IndexLine, KeyChecks, ColumnChecks}
use Rattle.schema_text.specs.Refusals.{ClusteredLineChecks, IndexLineChecks, NextChecks, AreLinesOf, RefusedAt}
use Rattle.schema_text.specs.Cuts.{IsClusteredRead, IsIndexLineRead}
use Rattle.schema_text.proofs.PartLemmas.{part_begun, words_begun}

-- the first line
pub first_form : (line : Line) → (IsTableForm line → ⊥) → FirstChecks line (Some Form)
unfolding FirstChecks
first_form line bad = inl (bad, refl)

pub first_name : (line : Line) → IsTableForm line → (IsName (word line 1) → ⊥) → FirstChecks line (Some Name)
unfolding FirstChecks
first_name line form bad = inr (form, (bad, refl))

pub first_good : (line : Line) → IsTableForm line → IsName (word line 1) → FirstChecks line None
unfolding FirstChecks
first_good line form name = (form, name)

pub three_words_are : (line : Line) → length line ≡ 3 → line ≡ word line 0 ∷ word line 1 ∷ word line 2 ∷ []
three_words_are (a ∷ b ∷ c ∷ []) h = refl
three_words_are _ h = absurd (omega arith)

pub table_begun : (name own : List ℕ) (format : Format) (line : Line) (t : TableDef) → IsName name → own ≡ name
    → line ≡ codes "table" ∷ name ∷ format_word format ∷ []
    → t ≡ record { table = own; format = format; columns = []; indexes = [] } → AreLinesOf t (line ∷ [])
table_begun name own format line t is same spelled made =
    let begun : t ≡ record { table = name; format = format; columns = []; indexes = [] } = made
    ∙ ap (λ n. record { table = n; format = format; columns = []; indexes = [] }) same in
    subst (λ v. AreLinesOf v (line ∷ [])) (sym begun)
    (record { part = part_begun name format is; spelled = ap (λ w. w ∷ []) spelled ∙ sym (words_begun name format) })

-- the clustered line
abbrev pub HasClusteredForm : TableDef → Line → Type 0
HasClusteredForm t line = (1 ≤ length t.columns) × (length t.indexes ≡ 0) × IsClusteredForm line

pub clustered_form : (t : TableDef) (line : Line) → (HasClusteredForm t line → ⊥)
    → ClusteredLineChecks t line (Some Form)
unfolding ClusteredLineChecks
clustered_form t line bad = inl (bad, refl)

pub clustered_name : (t : TableDef) (line : Line) → HasClusteredForm t line → (All IsName (drop 3 line) → ⊥)
    → ClusteredLineChecks t line (Some Name)
unfolding ClusteredLineChecks
clustered_name t line form bad = inr (form, inl (bad, refl))

pub clustered_result : (t : TableDef) (line : Line) (number : List ℕ) (r : Result ℕ SchemaWhy) → IsPart t
    → HasClusteredForm t line → All IsName (drop 3 line) → number ≡ word line 2
    → MatchResult r (λ root. IsRoot root × (number ≡ decimal root) × KeyChecks t (record {
      name = [];
      root = number;
      keys = drop 3 line;
    }) None) (λ why. KeyChecks t (record {
      name = [];
      root = number;
      keys = drop 3 line;
    }) (Some why))
    → MatchResult r (λ root. IsClusteredRead t line root) (λ why. ClusteredLineChecks t line (Some why))
unfolding ClusteredLineChecks
clustered_result t line number (Ok root) part form names e h =
    let key = subst (λ n. KeyChecks t (record { name = []; root = n; keys = drop 3 line }) None) e h.2 in
    record {
      part = part;
      is_root = h.0;
      number = sym e
          ∙ h.1;
      columns = form.0;
      first = form.1;
      form = form.2;
      key = key;
      checked = (form, (names, key));
    }
clustered_result t line number (Err why) part form names e h =
    inr (
      form,
      inr (
        names,
        subst (λ n. KeyChecks t (record { name = []; root = n; keys = drop 3 line }) (Some why)) e
            h,
      ),
    )

-- the line of another index
abbrev pub HasIndexForm : TableDef → Line → Type 0
HasIndexForm t line = (1 ≤ length t.indexes) × IsIndexForm line

pub index_form : (t : TableDef) (line : Line) → (HasIndexForm t line → ⊥) → IndexLineChecks t line (Some Form)
unfolding IndexLineChecks
index_form t line bad = inl (bad, refl)

pub index_name : (t : TableDef) (line : Line) → HasIndexForm t line → (IsName (word line 1) × All IsName (drop 4 line)
    → ⊥) → IndexLineChecks t line (Some Name)
unfolding IndexLineChecks
index_name t line form bad = inr (form, inl (bad, refl))

pub index_result : (t : TableDef) (line : Line) (name number : List ℕ) (r : Result ℕ SchemaWhy) → IsPart t
    → HasIndexForm t line → IsName (word line 1) → All IsName (drop 4 line) → name ≡ word line 1 → number ≡ word line 3
    → MatchResult r (λ root. IsRoot root × (number ≡ decimal root) × KeyChecks t (record {
      name = name;
      root = number;
      keys = drop 4 line;
    }) None) (λ why. KeyChecks t (record {
      name = name;
      root = number;
      keys = drop 4 line;
    }) (Some why))
    → MatchResult r (λ root. IsIndexLineRead t line root) (λ why. IndexLineChecks t line (Some why))
unfolding IndexLineChecks
index_result t line name number (Ok root) part form is names n e h =
    let key = subst (λ m. KeyChecks t (record { name = m; root = word line 3; keys = drop 4 line }) None) n
    (subst (λ m. KeyChecks t (record { name = name; root = m; keys = drop 4 line }) None) e h.2) in
    record {
      part = part;
      is_root = h.0;
      number = sym e
          ∙ h.1;
      name = is;
      behind = form.0;
      form = form.1;
      key = key;
      checked = (form, ((is, names), key));
    }
index_result t line name number (Err why) part form is names n e h =
    inr (
      form,
      inr (
        (is, names),
        subst (λ m. KeyChecks t (record {
          name = m;
          root = word line 3;
          keys = drop 4 line;
        }) (Some why)) n (subst (λ m. KeyChecks t (record {
          name = name;
          root = m;
          keys = drop 4 line;
        }) (Some why)) e h),
      ),
    )

-- the checks by the first word
pub by_column : (t : TableDef) (line : Line) (why : Option SchemaWhy) → is_column_line line ≡ true
    → ColumnChecks t line why → NextChecks t line why
unfolding NextChecks
by_column t line why first h = rw first h

pub by_clustered : (t : TableDef) (line : Line) (why : Option SchemaWhy) → is_column_line line ≡ false
    → is_clustered_line line ≡ true → ClusteredLineChecks t line why → NextChecks t line why
unfolding NextChecks
by_clustered t line why a first h = rw (a, first) h

pub by_index : (t : TableDef) (line : Line) (why : Option SchemaWhy) → is_column_line line ≡ false
    → is_clustered_line line ≡ false → is_index_line line ≡ true → IndexLineChecks t line why → NextChecks t line why
unfolding NextChecks
by_index t line why a b first h = rw (a, b, first) h

pub by_none : (t : TableDef) (line : Line) → is_column_line line ≡ false → is_clustered_line line ≡ false
    → is_index_line line ≡ false → NextChecks t line (Some Form)
unfolding NextChecks
by_none t line a b c = rw (a, b, c) ((λ h. h, refl))

-- the same result, for checks that say the same
pub on_ok_as : {A E : Type 0} (r : Result A E) (P Q : Type 0) → (P → Q) → OnOk r P → OnOk r Q
on_ok_as (Ok a) P Q f h = f h
on_ok_as (Err e) P Q f h = tt

pub refused_as : {A : Type 0} (n : ℕ) (r : Result A SchemaError) (P Q : Option SchemaWhy → Type 0)
    → ((why : Option SchemaWhy) → P why → Q why) → IfErr r (RefusedAt n P) → IfErr r (RefusedAt n Q)
refused_as n (Ok a) P Q f h = tt
refused_as n (Err (Refused line why)) P Q f h = (h.0, f (Some why) h.1)
refused_as n (Err Memory) P Q f h = tt

-- the value, or another one in place of an error
value_or : {T D : Type 0} → T → Result T D → T
value_or other (Ok x) = x
value_or other (Err e) = other

-- what a check found, where its error becomes another one
pub found_where : {T E D : Type 0} (P : T → Type 0) (Q : E → Type 0) (F : E → D → Type 0) (checked : Result T E)
    (turned : Result T D) (x : T) → MatchResult checked (λ y. turned ≡ Ok y) (λ e. IsErrAnd turned (F e))
    → turned ≡ Ok x → MatchResult checked P Q → P x
unfolding value_or
found_where P Q F (Ok y) turned x same is found = subst P (ap (value_or x) (sym same ∙ is)) found
found_where P Q F (Err e) turned x same is found = absurd (subst (λ t. IsErrAnd t (F e)) is same)
