-- Laws of the order of keys (rem0cmp), of spellings, and of the order of values.
use Rattle.std.specs.Prelude.{◌≡◌, ℕ, ⊤, List, [], ◌∷◌}
use Rattle.std.specs.declared.cmp.Ordering.{Ordering}
use Rattle.std.specs.declared.cmp.Ordering.TheVariants.{Equal}
use Rattle.std.specs.Ordering.{nat_cmp, int_cmp}
use Rattle.std.specs.Cmp.Lexicographic.{slice_cmp}
use Rattle.page_source.specs.Pages.{AreBytes}
use Rattle.column_values.specs.declared.kind.ColumnType.{ColumnType}
use Rattle.column_values.specs.declared.kind.ColumnType.TheVariants as types
use Rattle.column_values.specs.declared.field.FieldType.{FieldType}
use Rattle.column_values.specs.declared.value.Value.{Value}
use Rattle.column_values.specs.declared.value.Value.TheVariants.{DateTime, Timestamp, Year, Decimal}
use Rattle.column_values.specs.Types.{IsColumnType}
use Rattle.column_values.specs.Spell.{Spell, IsValueOf, spelling_of}
use Rattle.column_values.specs.Order.{bytes_cmp, Key, IsBelow, AreEqualKeys}

-- no key is below itself
abbrev pub IsStrict : List FieldType → Type 0
IsStrict kinds = (a : Key) → IsBelow kinds a a → ⊥

-- what is below a key is below each key above that
abbrev pub IsTransitive : List FieldType → Type 0
IsTransitive kinds = (a b c : Key) → IsBelow kinds a b → IsBelow kinds b c → IsBelow kinds a c

-- each key is equal to itself
abbrev pub IsReflexive : List FieldType → Type 0
IsReflexive kinds = (a : Key) → AreEqualKeys kinds a a

-- if one key is equal to another, the other is equal to it
abbrev pub Symmetric : List FieldType → Type 0
Symmetric kinds = (s t : Key) → AreEqualKeys kinds s t → AreEqualKeys kinds t s

-- a key below a separator is below each equal one, and so is one above it
pub record Agrees (kinds : List FieldType) : Type 0 where
  pub before : (a s t : Key) → AreEqualKeys kinds s t → IsBelow kinds a s → IsBelow kinds a t
  pub after : (s t b : Key) → AreEqualKeys kinds s t → IsBelow kinds s b → IsBelow kinds t b
  pub equal : (s t u : Key) → AreEqualKeys kinds s t → AreEqualKeys kinds t u → AreEqualKeys kinds s u

-- a key below a separator is below each key that isn't
abbrev pub Splits : List FieldType → Type 0
Splits kinds = (a s b : Key) → IsBelow kinds a s → (IsBelow kinds b s → ⊥) → IsBelow kinds a b

-- of two keys that aren't equal one is below the other
abbrev pub IsTotal : List FieldType → Type 0
IsTotal kinds = (a b : Key) → (IsBelow kinds a b → ⊥) → (IsBelow kinds b a → ⊥) → AreEqualKeys kinds a b

-- a value of a type has one list of bytes at the most
abbrev pub HasOneSpelling : Type 0
HasOneSpelling =
    (kind : ColumnType) (value : Value) (a b : List ℕ) → IsColumnType kind → AreBytes a → AreBytes b
    → Spell kind value a → Spell kind value b → a ≡ b

-- bytes spell one value of a type at the most
abbrev pub HasOneValue : Type 0
HasOneValue =
    (kind : ColumnType) (v w : Value) (bytes : List ℕ) → IsColumnType kind
    → Spell kind v bytes → Spell kind w bytes → v ≡ w

-- the bytes that are written spell the value
abbrev pub SpellingSpells : Type 0
SpellingSpells =
    (kind : ColumnType) (value : Value) → IsColumnType kind → IsValueOf kind value
    → Spell kind value (spelling_of kind value)

-- the types whose values order as their bytes do, though these aren't the values themselves
abbrev pub IsMeasure : ColumnType → Type 0
IsMeasure (types.DateTime f) = ⊤
IsMeasure (types.Timestamp f) = ⊤
IsMeasure types.Year = ⊤
IsMeasure (types.Decimal p s) = ⊤
IsMeasure _ = ⊥

-- moments from their greatest part down, years and decimals as numbers
abbrev pub value_cmp : Value → Value → Ordering
value_cmp (DateTime y1 mo1 d1 h1 mi1 s1 u1) (DateTime y2 mo2 d2 h2 mi2 s2 u2) =
    slice_cmp nat_cmp (y1 ∷ mo1 ∷ d1 ∷ h1 ∷ mi1 ∷ s1 ∷ u1 ∷ []) (y2 ∷ mo2 ∷ d2 ∷ h2 ∷ mi2 ∷ s2 ∷ u2 ∷ [])
value_cmp (Timestamp s1 u1) (Timestamp s2 u2) = slice_cmp nat_cmp (s1 ∷ u1 ∷ []) (s2 ∷ u2 ∷ [])
value_cmp (Year y1) (Year y2) = nat_cmp y1 y2
value_cmp (Decimal n1) (Decimal n2) = int_cmp n1 n2
value_cmp _ _ = Equal

-- the bytes of measures order as the values do
abbrev pub OrdersValues : Type 0
OrdersValues =
    (kind : ColumnType) (v w : Value) (a b : List ℕ) → IsColumnType kind → IsMeasure kind → AreBytes a → AreBytes b
    → Spell kind v a → Spell kind w b → bytes_cmp a b ≡ value_cmp v w
