-- The forms of the command line: the words behind the program's name.
use Rattle.std.specs.Prelude.{◌≡◌, ℕ, ◌≤◌, List, [], ◌∷◌, codes, decimal, slice_index_or}
use Rattle.ibd_cli.specs.declared.forms.Task.{Task}
use Rattle.ibd_cli.specs.declared.forms.Task.TheVariants.{Check, Dump, Cross, Get}
use Rattle.ibd_cli.specs.declared.forms.Form.{Form}
use Rattle.ibd_cli.specs.declared.forms.Form.TheVariants.{Table, Build, Sample}

-- the first word of a command on a table
abbrev pub task_word : Task → List ℕ
task_word Check = codes "check"
task_word Dump = codes "dump"
task_word Cross = codes "cross"
task_word Get = codes "get"

-- the words have this form
abbrev pub IsForm : List (List ℕ) → Form → Type 0
IsForm words (Table Get) =
    (schema : List ℕ) × (file : List ℕ) × (key : List ℕ) × (words ≡ task_word Get ∷ schema ∷ file ∷ key ∷ [])
IsForm words (Table task) = (schema : List ℕ) × (file : List ℕ) × (words ≡ task_word task ∷ schema ∷ file ∷ [])
IsForm words Build =
    (schema : List ℕ) × (rows : List ℕ) × (file : List ℕ) × (words ≡ codes "build" ∷ schema ∷ rows ∷ file ∷ [])
IsForm words (Sample n) = (n ≤ 200000) × (words ≡ codes "sample" ∷ decimal n ∷ [])

-- the text of the key of a row that is wanted: the fourth word; nothing where there is none
abbrev pub key_word : List (List ℕ) → List ℕ
key_word words = slice_index_or words 3 []

-- the words have no form
abbrev pub HasNoForm : List (List ℕ) → Type 0
HasNoForm words = (form : Form) → ¬ (IsForm words form)

-- the words are no build
abbrev pub AsksNoBuild : List (List ℕ) → Type 0
AsksNoBuild words = ¬ (IsForm words Build)

-- the words are no sample
abbrev pub AsksNoSample : List (List ℕ) → Type 0
AsksNoSample words = (n : ℕ) → ¬ (IsForm words (Sample n))

-- the words are no command on a table
abbrev pub AsksNoTable : List (List ℕ) → Type 0
AsksNoTable words = (task : Task) → ¬ (IsForm words (Table task))
