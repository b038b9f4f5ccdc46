-- The first check that fails, and all that hold.
use Rattle.std.proofs.Common.{◌≡◌, ◌<◌, ◌≤◌, length, All, Some, None, inl, inr, refl, arith}
use Rattle.schema_text.specs.declared.errors.SchemaWhy.TheVariants.{Form, Name, Number, Count, Twice, Unknown, Key}
use Rattle.schema_text.specs.declared.errors.SchemaWhy.TheVariants.{Root}
use Rattle.schema_text.specs.TableDef.{TableDef}
use Rattle.schema_text.specs.Grammar.{IsName}
use Rattle.schema_text.specs.Refusals.{Line, word, type_part, IsColumnForm, IsTypePart, IsNewColumn, ColumnChecks}
use Rattle.schema_text.specs.Refusals.{IndexLine, IsRootWord, HasCounts, HasNewNames, IsDeclared, HasKey, IsNewRoot}
use Rattle.schema_text.specs.Refusals.{KeyChecks}

pub column_form : (t : TableDef) (line : Line) → ((length t.indexes ≡ 0) × IsColumnForm line → ⊥)
    → ColumnChecks t line (Some Form)
unfolding ColumnChecks
column_form t line bad = inl (bad, refl)

-- the checks of a column line that hold, up to one
pub column_name : (t : TableDef) (line : Line) → (length t.indexes ≡ 0) × IsColumnForm line
    → (IsName (word line 1) → ⊥) → ColumnChecks t line (Some Name)
unfolding ColumnChecks
column_name t line form bad = inr (form, inl (bad, refl))

pub column_number : (t : TableDef) (line : Line) → (length t.indexes ≡ 0) × IsColumnForm line → IsName (word line 1)
    → (IsTypePart (type_part line) → ⊥) → ColumnChecks t line (Some Number)
unfolding ColumnChecks
column_number t line form name bad = inr (form, inr (name, inl (bad, refl)))

pub column_count : (t : TableDef) (line : Line) → (length t.indexes ≡ 0) × IsColumnForm line → IsName (word line 1)
    → IsTypePart (type_part line) → 64 ≤ length t.columns → ColumnChecks t line (Some Count)
unfolding ColumnChecks
column_count t line form name number bad = inr (form, inr (name, inr (number, inl (λ h. omega arith, refl))))

pub column_twice : (t : TableDef) (line : Line) → (length t.indexes ≡ 0) × IsColumnForm line → IsName (word line 1)
    → IsTypePart (type_part line) → length t.columns < 64 → (IsNewColumn t (word line 1) → ⊥)
    → ColumnChecks t line (Some Twice)
unfolding ColumnChecks
column_twice t line form name number count bad = inr (form, inr (name, inr (number, inr (count, (bad, refl)))))

pub column_good : (t : TableDef) (line : Line) → (length t.indexes ≡ 0) × IsColumnForm line → IsName (word line 1)
    → IsTypePart (type_part line) → length t.columns < 64 → IsNewColumn t (word line 1) → ColumnChecks t line None
unfolding ColumnChecks
column_good t line form name number count new = (form, (name, (number, (count, new))))

pub key_number : (t : TableDef) (line : IndexLine) → (IsRootWord line.root → ⊥) → KeyChecks t line (Some Number)
unfolding KeyChecks
key_number t line bad = inl (bad, refl)

pub key_count : (t : TableDef) (line : IndexLine) → IsRootWord line.root → (HasCounts t line.keys → ⊥)
    → KeyChecks t line (Some Count)
unfolding KeyChecks
key_count t line number bad = inr (number, inl (bad, refl))

pub key_twice : (t : TableDef) (line : IndexLine) → IsRootWord line.root → HasCounts t line.keys
    → (HasNewNames t line.name line.keys → ⊥) → KeyChecks t line (Some Twice)
unfolding KeyChecks
key_twice t line number count bad = inr (number, inr (count, inl (bad, refl)))

pub key_unknown : (t : TableDef) (line : IndexLine) → IsRootWord line.root → HasCounts t line.keys
    → HasNewNames t line.name line.keys → (All (IsDeclared t) line.keys → ⊥) → KeyChecks t line (Some Unknown)
unfolding KeyChecks
key_unknown t line number count new bad = inr (number, inr (count, inr (new, inl (bad, refl))))

pub key_key : (t : TableDef) (line : IndexLine) → IsRootWord line.root → HasCounts t line.keys
    → HasNewNames t line.name line.keys → All (IsDeclared t) line.keys → (HasKey t line.keys → ⊥)
    → KeyChecks t line (Some Key)
unfolding KeyChecks
key_key t line number count new known bad = inr (number, inr (count, inr (new, inr (known, inl (bad, refl)))))

pub key_root : (t : TableDef) (line : IndexLine) → IsRootWord line.root → HasCounts t line.keys
    → HasNewNames t line.name line.keys → All (IsDeclared t) line.keys → HasKey t line.keys
    → (IsNewRoot t line.root → ⊥) → KeyChecks t line (Some Root)
unfolding KeyChecks
key_root t line number count new known key bad = inr
    (number, inr (count, inr (new, inr (known, inr (key, (bad, refl))))))

pub key_good : (t : TableDef) (line : IndexLine) → IsRootWord line.root → HasCounts t line.keys
    → HasNewNames t line.name line.keys → All (IsDeclared t) line.keys → HasKey t line.keys → IsNewRoot t line.root
    → KeyChecks t line None
unfolding KeyChecks
key_good t line number count new known key root = (number, (count, (new, (known, (key, root)))))
