-- A file of pages in memory, and how it is stored.
use Rattle.std.specs.Prelude.{refl}
use Rattle.std.specs.Coded.{Coded, code_by, coded×}
use Rattle.page_source.specs.Objects.{PageMap}
use Rattle.page_source.specs.Memory.{CallLog}
use Rattle.page_source.specs.MemoryCodes.{call_log_code}
use Rattle.page_source.specs.SourceCodes.{page_map_code}

-- the pages that a file in memory holds, and its calls so far
pub record HeldFile : Type 0 where
  pub held : PageMap
  pub calls : CallLog

abbrev pub held_file_code : Coded HeldFile
held_file_code =
    code_by (PageMap × CallLog) (coded× page_map_code call_log_code) (λ file. (file.held, file.calls))
    (λ p. record { held = p.0; calls = p.1 }) (λ _. refl)
