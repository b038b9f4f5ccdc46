-- How a sparse file is stored: as the tuple of its fields.
use Rattle.std.specs.Prelude.{ℕ, refl}
use Rattle.std.specs.FinMap.{code}
use Rattle.std.specs.Coded.{Coded, code_by, coded×, coded_ℕ, coded_list}
use Rattle.page_source.specs.Objects.{PageMap}
use Rattle.page_source.specs.Memory.{CallLog}
use Rattle.page_source.specs.MemoryCodes.{call_log_code}
use Rattle.page_source.specs.Sources.{SparseFile}

abbrev pub page_map_code : Coded PageMap
page_map_code = code coded_ℕ (coded_list coded_ℕ)

abbrev pub sparse_file_code : Coded SparseFile
sparse_file_code =
    code_by (ℕ × (PageMap × CallLog)) (coded× coded_ℕ (coded× page_map_code call_log_code))
    (λ file. (file.size, (file.held, file.calls)))
    (λ p. record { size = p.0; held = p.1.0; calls = p.1.1 }) (λ _. refl)
