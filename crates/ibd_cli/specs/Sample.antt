-- What the command `sample` answers, and what it writes.
use Rattle.std.specs.Prelude.{◌≡◌, ℕ, ◌<◌, List, [], ◌++◌, codes}
use Rattle.hex.specs.Hex.{encode_lower}
use Rattle.page_source.specs.declared.objects.ByteSink.{Ghosts as SinkOf}
use Rattle.page_source.specs.Faults.{Rose}
use Rattle.page_source.specs.Objects.{GrowsBy, GrowsByPart}
use Rattle.page_source.specs.Pages.{be_bytes}
use Rattle.space_builder.specs.layout.Layout.{layout_extents}
use Rattle.sample_table.specs.declared.made.Sample.{Sample}
use Rattle.sample_table.specs.Sample.{sample_table, sample_rows, IsSampled}
use Rattle.ibd_cli.specs.declared.status.Status.{Status}
use Rattle.ibd_cli.specs.declared.status.Status.TheVariants.{Done, SinkFault, Memory, Full}
use Rattle.command_line.specs.Lines.{counted}
use Rattle.ibd_cli.specs.Outcome.{checked_numbers}
use Rattle.ibd_cli.specs.Run.{EndsAs}

-- a sum of 32 bits in eight hexadecimal digits
abbrev pub sum_digits : ℕ → List ℕ
sum_digits sum = encode_lower (be_bytes 4 sum)

-- the line of a sample
abbrev pub sample_line : Sample → List ℕ
sample_line sample =
    checked_numbers sample.checked ++ counted (codes " bytes=") sample.bytes
    ++ codes " sum=" ++ sum_digits sample.sum ++ codes "\n"

-- the made rows 1 to n need more extents than a tablespace has
abbrev pub IsTooMany : ℕ → Type 0
IsTooMany n = 256 < layout_extents sample_table (sample_rows n)

-- how a sample of n rows ends, and what it writes
abbrev pub GivesSample : ℕ → Status → List ℕ → Type 0
GivesSample n Done output =
    (sample : Sample) × IsSampled (sample_rows n) sample × (output ≡ sample_line sample)
GivesSample n Full output = IsTooMany n × (output ≡ [])
GivesSample n _ output = ⊥

-- how a sample ends, and how its output stands
abbrev pub EndsSample : {O : Type 0} → SinkOf O → ℕ → O → O → Status → Type 0
EndsSample o n out out_now Done =
    (line : List ℕ) × GivesSample n Done line × GrowsBy (o.written out) (o.written out_now) line
EndsSample o n out out_now SinkFault =
    (line : List ℕ) × GivesSample n Done line × GrowsByPart (o.written out) (o.written out_now) line
EndsSample o n out out_now Full = IsTooMany n × (out_now ≡ out)
EndsSample o n out out_now Memory = out_now ≡ out
EndsSample o n out out_now _ = ⊥

-- the whole promise of a sample
pub record ServesSample {O : Type 0} (o : SinkOf O) (n : ℕ) (out out_now : O) (status : Status) : Type 0 where
  -- how the sample ends, and how its output stands
  pub ends : EndsSample o n out out_now status
  -- the status is the one that n defines
  pub complete : (given : Status) (output : List ℕ) → GivesSample n given output → EndsAs given status
  -- the line of a sample is one text
  pub line : (a b : List ℕ) → GivesSample n Done a → GivesSample n Done b → a ≡ b
  -- a fault of the output was counted
  pub sink : status ≡ SinkFault → Rose (o.faults out) (o.faults out_now)
