-- The texts of a build define one outcome: one status, and one output.
use Rattle.std.proofs.Common.{◌≡◌, ℕ, List, length, Result, Ok, Err, refl, sym, ap, ◌∙◌, subst, inl, inr}
use Rattle.schema_text.specs.declared.errors.SchemaWhy.{SchemaWhy}
use Rattle.schema_text.specs.declared.errors.SchemaWhy.TheVariants as whys
use Rattle.space_builder.specs.declared.built.BuildStop.{BuildStop}
use Rattle.space_builder.specs.declared.built.BuildStop.TheVariants as stops
use Rattle.row_store.specs.StoredRows.{Rows}
use Rattle.space_builder.specs.layout.Layout.{layout_size}
use Rattle.space_builder.specs.build.Outcome.{ComesTo, RootsHaveOneAnswer, BuildHasOneOutcome}
use Rattle.command_line.specs.SchemaFile.{IsRefusedText}
use Rattle.command_line.proofs.OneAnswer.{HasOneAnswer, no_table}
use Rattle.ibd_cli.specs.declared.status.Status.{Status}
use Rattle.ibd_cli.specs.declared.status.Status.TheVariants.{Done, SchemaRefused, RowsRefused, Full}
use Rattle.ibd_cli.specs.Build.{Texts, HasMisplacedRoot, built_line, GivesBuilt}
use Rattle.ibd_cli.proofs.Outcomes.{one_refusal}
use Rattle.ibd_cli.proofs.Serving.{same_table}
use Rattle.ibd_cli.proofs.BuildOutcomes.{defines_one}

abbrev AreSame : Result Rows BuildStop → Result Rows BuildStop → Type 0
AreSame x y = x ≡ y

same_rows : (a b : Rows) → AreSame (Ok a) (Ok b) → a ≡ b
same_rows a b e = cc

module _ (roots : RootsHaveOneAnswer) (outcome : BuildHasOneOutcome) (texts : Texts) (one : HasOneAnswer texts.schema)
  where
    -- a schema text that is refused as such
    refused_status : (line : ℕ) (why : SchemaWhy) → IsRefusedText texts.schema line why → (b : Status) (y : List ℕ)
        → GivesBuilt texts b y → SchemaRefused line why ≡ b
    refused_status line why text Done y q = absurd (no_table texts.schema one line why q.0 text q.1)
    refused_status line why text (SchemaRefused other reason) y q =
        elim q.0 [
          | inl refused ↦ one_refusal texts.schema one line other why reason text refused
          | inr root ↦ absurd (no_table texts.schema one line why root.1.0 text root.1.1)
        ]
    refused_status line why text (RowsRefused other reason) y q =
        absurd (no_table texts.schema one line why q.0.0 text q.0.1)
    refused_status line why text Full y q = absurd (no_table texts.schema one line why q.0.0 text q.0.1)
    refused_status line why text _ y q = absurd q

    -- what the texts define is one status
    one_status : (a b : Status) (x y : List ℕ) → GivesBuilt texts a x → GivesBuilt texts b y → a ≡ b
    one_status Done b x y p q =
        defines_one texts.schema one p.0 p.1 outcome texts.rows y b (Ok p.2.0) p.2.1 q
    one_status (SchemaRefused line why) b x y p q =
        elim p.0 [
          | inl text ↦ refused_status line why text b y q
          | inr root ↦
              ap (SchemaRefused line) root.0
              ∙ defines_one texts.schema one root.1.0 root.1.1 outcome texts.rows y b (Err (stops.RootPlace line))
              root.1.2 q
        ]
    one_status (RowsRefused line why) b x y p q =
        defines_one texts.schema one p.0.0 p.0.1 outcome texts.rows y b (Err (stops.RowsRefused line why)) p.0.2 q
    one_status Full b x y p q =
        defines_one texts.schema one p.0.0 p.0.1 outcome texts.rows y b (Err stops.Full) p.0.2 q
    one_status _ b x y p q = absurd p

    same_output : (status : Status) (x y : List ℕ) → GivesBuilt texts status x → GivesBuilt texts status y → x ≡ y
    same_output Done x y p q =
        let table = p.0 in
        let other = same_table texts.schema one table p.1
        (λ t. (rows : Rows) × ComesTo t texts.rows (Ok rows) × (y ≡ built_line (layout_size t rows) (length rows))) q in
        let same = same_rows p.2.0 other.0
        (outcome table texts.rows p.1.is (Ok p.2.0) (Ok other.0) p.2.1 other.1) in
        p.2.2 ∙ ap (λ (rows : Rows). built_line (layout_size table rows) (length rows)) same ∙ sym other.2
    same_output (SchemaRefused line why) x y p q = p.1 ∙ sym q.1
    same_output (RowsRefused line why) x y p q = p.1 ∙ sym q.1
    same_output Full x y p q = p.1 ∙ sym q.1
    same_output _ x y p q = absurd p

    pub one_outcome : (a b : Status) (x y : List ℕ) → GivesBuilt texts a x → GivesBuilt texts b y → (a ≡ b) × (x ≡ y)
    one_outcome a b x y p q =
        let same = one_status a b x y p q in
        (same, same_output b x y (subst (λ (s : Status). GivesBuilt texts s x) same p) q)
