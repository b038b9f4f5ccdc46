-- What was read of a schema text, up to one byte more than it may have.
use Rattle.std.proofs.Common.{◌≡◌, ℕ, ◌<◌, ◌≤◌, List, length, take, Option, Result, Ok, Err}
use Rattle.std.proofs.Common.{IsErrAnd, sym, ap, ◌∙◌, subst, inl, inr, arith, length-take-le}
use Rattle.std.proofs.lemmas.Bool.{cases_lt}
use Rattle.std.proofs.Math.Seq.{take-length}
use Rattle.schema_text.specs.TableDef.{TableDef}
use Rattle.schema_text.specs.declared.errors.SchemaWhy.{SchemaWhy}
use Rattle.schema_text.specs.declared.errors.SchemaError.{SchemaError}
use Rattle.schema_text.specs.declared.errors.SchemaError.TheVariants as refusals
use Rattle.schema_text.specs.Refusals.{SchemaChecks, ReadsAs}
use Rattle.command_line.specs.declared.schema_file.SchemaStop.{SchemaStop}
use Rattle.command_line.specs.SchemaFile.{ReadsSchema, stop_of_schema}
use Rattle.command_line.specs.Reading.{CameUpTo}
use Rattle.command_line.specs.SchemaFile.{IsRefusedText}

-- where fewer bytes came than the buffer has, they are the text
came_whole : (text buffer : List ℕ) (left : Option (List ℕ)) (n : ℕ) → n < length buffer
    → CameUpTo text left n buffer → take n buffer ≡ text
came_whole text buffer left n short came =
    let all : n ≡ length text = came.whole short in
    came.came.bytes ∙ ap (λ (k : ℕ). take k text) all ∙ take-length text

-- so is their refusal, since a text that is too long is refused as such
too_long : (text front : List ℕ) (line : ℕ) (why : SchemaWhy) → 65536 < length front → 65536 < length text
    → IsRefusedText front line why → IsRefusedText text line why
unfolding SchemaChecks
too_long text front line why long longer refused =
    elim refused [
      | inl size ↦ inl (size.0, ((λ short. omega arith), size.1.1))
      | inr rest ↦ absurd (omega (arith, rest.0))
    ]

pub schema_refused : (text buffer : List ℕ) (left : Option (List ℕ)) (n line : ℕ) (why : SchemaWhy)
    → length buffer ≡ 65537 → n ≤ length buffer → IsRefusedText (take n buffer) line why
    → CameUpTo text left n buffer → IsRefusedText text line why
schema_refused text buffer left n line why size within refused came =
    elim (cases_lt n (length buffer)) [
      | inl short ↦ subst (λ (t : List ℕ). IsRefusedText t line why) (came_whole text buffer left n short came) refused
      | inr full ↦
          let front : length (take n buffer) ≡ n = length-take-le n buffer within in
          too_long text (take n buffer) line why (omega arith) (omega (arith, came.came.within)) refused
    ]

-- what a refusal, or want of memory, says of the text
pub schema_halts : (text buffer bytes : List ℕ) (left : Option (List ℕ)) (n : ℕ) (error : SchemaError)
    (result : Result TableDef SchemaStop)
    → length buffer ≡ 65537 → n ≤ length buffer → bytes ≡ buffer → ReadsAs (take n bytes) (Err error)
    → IsErrAnd result (λ stop. stop ≡ stop_of_schema error) → CameUpTo text left n buffer → ReadsSchema text left result
schema_halts text buffer bytes left n error (Ok table) size within same reads gives came = absurd gives
schema_halts text buffer bytes left n error (Err stop) size within same reads gives came =
    subst (λ (s : SchemaStop). ReadsSchema text left (Err s)) (sym gives) (by_error error reads)
  where
    by_error : (error : SchemaError) → ReadsAs (take n bytes) (Err error)
        → ReadsSchema text left (Err (stop_of_schema error))
    by_error (refusals.Refused line why) reads =
        schema_refused text buffer left n line why size within
        (subst (λ (bs : List ℕ). IsRefusedText (take n bs) line why) same reads) came
    by_error refusals.Memory reads = tt
