-- What a build answers, and what its store then holds.
use Rattle.std.specs.Prelude.{◌≡◌, ◌≢◌, ℕ, ◌-◌, ◌<◌, ◌≤◌, ◌⊎◌, List, length, Some, None, Option, IfSome, IsNone, IsSome}
use Rattle.std.specs.Prelude.{Result}
use Rattle.std.specs.Prelude.{Ok, Err, [], ⊤}
use Rattle.std.specs.FinMap.{get}
use Rattle.page_source.specs.Faults.{Rose}
use Rattle.page_source.specs.Objects.{IsTold, Store}
use Rattle.schema_text.specs.TableDef.{TableDef}
use Rattle.space_builder.specs.declared.built.Built.{Built}
use Rattle.space_builder.specs.declared.built.BuildStop.{BuildStop}
use Rattle.space_builder.specs.declared.built.BuildStop.TheVariants as stops
use Rattle.row_store.specs.StoredRows.{Rows}
use Rattle.space_builder.specs.layout.Layout.{FitsSpace, layout_extents, layout_size, layout_map}
use Rattle.space_builder.specs.build.RootOrder.{RootOrderChecks}
use Rattle.row_store.specs.BadLine.{RowsChecks, AreRowsOf}
use Rattle.row_store.specs.ReadRows.{AreGoodRows, ReadsNear}

-- the store has the layout's size, and holds its pages
pub record HoldsLayout (table : TableDef) (rows : Rows) (before now : Store) : Type 0 where
  pub size : IsTold before.size now.size (layout_size table rows)
  pub held : IsTold before.held now.held (layout_map table rows)

-- what a failed build leaves: the size that it asked for, and page 0 only where all others are there
pub record HoldsPart (table : TableDef) (rows : Rows) (before now : Store) : Type 0 where
  pub asked : IsTold before.asked now.asked (Some (layout_size table rows))
  pub held : IfSome now.held (λ held. IsNone (get held 0)
      ⊎ ((n : ℕ) → n ≢ 0 → IsSome (get (layout_map table rows) n) → get held n ≡ get (layout_map table rows) n))

abbrev pub LacksHead : Store → Type 0
LacksHead store = IfSome store.held (λ held. IsNone (get held 0))

-- a store that was sized for these rows, and lacks page 0
pub record IsSizedFor (table : TableDef) (rows : Rows) (before now : Store) : Type 0 where
  pub asked : IsTold before.asked now.asked (Some (layout_size table rows))
  pub size : IsTold before.size now.size (layout_size table rows)
  pub head : LacksHead now

-- rows that are good, and those of the text where it is told
pub record AreRowsRead (table : TableDef) (text : Option (List ℕ)) (rows : Rows) : Type 0 where
  pub good : AreGoodRows table rows
  pub of_text : IfSome text (λ text. AreRowsOf table text rows)

-- the roots are in order, and the fact holds of some good rows, those of the text if it is told
abbrev pub OfRows : TableDef → Option (List ℕ) → (Rows → Type 0) → Type 0
OfRows table text Fact = RootOrderChecks table None × ((rows : Rows) × AreRowsRead table text rows × Fact rows)

-- the store wasn't called, or all rows were read and fit, and it was sized for them
abbrev pub IsUncalledOrSized : {T : Type 0} → (T → Store) → TableDef → Option (List ℕ) → T → T → Type 0
IsUncalledOrSized told table text old new =
    (new ≡ old) ⊎ OfRows table text (λ rows. FitsSpace table rows × IsSizedFor table rows (told old) (told new))

-- what a build over a rows text answers, which may be told, and what it leaves in its store
abbrev pub Builds : TableDef → Option (List ℕ) → Result Built BuildStop → Store → Store → Type 0
Builds table text (Ok built) before now =
    OfRows table text (λ rows. FitsSpace table rows × HoldsLayout table rows before now
    × (built.pages ≡ layout_size table rows) × (built.rows ≡ length rows))
Builds table text (Err (stops.RootPlace line)) before now = RootOrderChecks table (Some line) × (now ≡ before)
Builds table text (Err (stops.RowsRefused line why)) before now =
    RootOrderChecks table None
    × IfSome text (λ text. RowsChecks table text (Some (record { line = line; why = why }))) × (now ≡ before)
Builds table text (Err stops.Full) before now =
    OfRows table text (λ rows. 256 < layout_extents table rows) × (now ≡ before)
Builds table text (Err stops.Source) before now = RootOrderChecks table None × (now ≡ before)
Builds table text (Err stops.Store) before now =
    OfRows table text (λ rows. FitsSpace table rows × HoldsPart table rows before now)
Builds table text (Err stops.Memory) before now = LacksHead now

-- what is left of the text: all of it if the roots aren't in order, all but a buffer behind a line that is refused, and
-- nothing if it was built
abbrev pub ReadsText : {R : Type 0} → (R → Option (List ℕ)) → R → R → Result Built BuildStop → Type 0
ReadsText left old new (Ok built) = IfSome (left old) (λ text. left new ≡ Some [])
ReadsText left old new (Err (stops.RootPlace line)) = new ≡ old
ReadsText left old new (Err (stops.RowsRefused line why)) =
    IfSome (left old) (λ text. ReadsNear text (left new) (line - 1))
ReadsText left old new (Err stop) = ⊤

-- a fault of an object is answered only if the count of that object rose
pub record BuildsWithCause (source source_now store store_now : ℕ) (result : Result Built BuildStop) : Type 0 where
  pub source_later : source ≤ source_now
  pub store_later : store ≤ store_now
  pub source_rose : result ≡ Err stops.Source → Rose source source_now
  pub store_rose : result ≡ Err stops.Store → Rose store store_now
