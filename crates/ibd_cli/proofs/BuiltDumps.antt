-- What is built of a schema text and a text of rows is dumped as that text.
use Rattle.std.proofs.Common.{ℕ, List, Option, Some, None, Ok, IfSome, sym, subst}
use Rattle.page_source.specs.Objects.{Store, IsTold, file_of}
use Rattle.schema_text.specs.TableDef.{TableDef}
use Rattle.schema_text.specs.Grammar.{IsTextOf}
use Rattle.table_check.specs.Laws.{ChecksAreValidity}
use Rattle.row_store.specs.StoredRows.{Rows}
use Rattle.space_builder.specs.layout.Layout.{layout_size, layout_map, layout_file}
use Rattle.space_builder.specs.build.Build.{HoldsLayout}
use Rattle.space_builder.specs.build.Laws.{GoodTextsBuildValid, GoodTextsAreOfRows}
use Rattle.space_builder.specs.build.Outcome.{ComesTo}
use Rattle.ibd_cli.specs.declared.status.Status.TheVariants.{Done}
use Rattle.ibd_cli.specs.declared.forms.Task.TheVariants.{Dump}
use Rattle.ibd_cli.specs.Outcome.{IsDone}
use Rattle.ibd_cli.specs.Build.{Texts, OfStore, told_of, DumpsAsRead}
use Rattle.ibd_cli.specs.Laws.{InputsHaveOneOutcome}

-- what the crates below say of a text whose lines are good
pub record BuildingLaws : Type 0 where
  pub valid : ChecksAreValidity
  pub builds : GoodTextsBuildValid
  pub lines : GoodTextsAreOfRows

module _ (laws : BuildingLaws) (once : InputsHaveOneOutcome) (texts : Texts) (table : TableDef) (rows : Rows)
    (is : IsTextOf table texts.schema) (comes : ComesTo table texts.rows (Ok rows)) where
  -- the layout of the rows is sound, and its dump is the text
  dumped : (key : List ℕ) → IsDone Dump key (layout_file table rows) table texts.rows
  dumped key =
      let built = laws.builds table texts.rows rows (record {
        is_table = is.is;
        roots = comes.0;
        are_rows = comes.1;
        fits = comes.2;
      }) in
      record {
        sound = (laws.valid (layout_file table rows) table).1 built.0;
        valid = built.0;
        written = record {
          rows = rows;
          are = built.1;
          is = sym (laws.lines table texts.rows rows comes.1);
        };
      }

  pub dumps_as_read : DumpsAsRead texts (layout_file table rows)
  dumps_as_read = record {
    gives = λ key. (table, is, dumped key);
    only = λ key status output gives.
        once Dump key (told_of texts (layout_file table rows)) status Done output texts.rows gives
        (table, is, dumped key);
  }

-- what a told value became, where it is told
told_now : {A : Type 0} (old new : Option A) (v : A) → IsTold old new v → (P : A → Type 0) → P v → IfSome new P
told_now {A = A} None new v is P holds = subst (λ (o : Option A). IfSome o P) (sym is) tt
told_now {A = A} (Some o) new v is P holds = subst (λ (o : Option A). IfSome o P) (sym is) holds

-- a store that holds the layout of the rows holds its file
pub holds_file : (table : TableDef) (rows : Rows) (before now : Store) → HoldsLayout table rows before now
    → (P : List ℕ → Type 0) → P (layout_file table rows) → OfStore now P
unfolding layout_file
holds_file table rows before now holds P of =
    told_now before.size now.size (layout_size table rows) holds.size
    (λ (size : ℕ). IfSome now.held (λ held. P (file_of size held)))
    (told_now before.held now.held (layout_map table rows) holds.held
    (λ held. P (file_of (layout_size table rows) held)) of)
