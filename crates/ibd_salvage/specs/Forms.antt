-- The forms of the command line: the words after the program's name.
use Rattle.std.specs.Prelude.{◌≡◌, ℕ, ◌<◌, ◌^◌, List, [], ◌∷◌, codes, decimal, Option, Some, None}
use Rattle.salvage_model.specs.declared.kind.RecordKind.{RecordKind}
use Rattle.salvage_model.specs.declared.kind.RecordKind.TheVariants.{Live, Deleted, Freed}
use Rattle.ibd_salvage.specs.declared.forms.Form.{Form}

-- the first word: which records are looked for
abbrev pub kind_word : RecordKind → List ℕ
kind_word Live = codes "rows"
kind_word Deleted = codes "deleted"
kind_word Freed = codes "freed"

-- the words are a kind, two files and an id, if there is one
abbrev pub AskFor : List (List ℕ) → RecordKind → Option ℕ → Type 0
AskFor words kind None = (schema : List ℕ) × (file : List ℕ) × (words ≡ kind_word kind ∷ schema ∷ file ∷ [])
AskFor words kind (Some id) =
    (schema : List ℕ) × (file : List ℕ) × (id < 2 ^ 64) × (words ≡ kind_word kind ∷ schema ∷ file ∷ decimal id ∷ [])

-- the words have this form
abbrev pub IsForm : List (List ℕ) → Form → Type 0
IsForm words form = AskFor words form.kind form.index

-- the words have no form
abbrev pub HasNoForm : List (List ℕ) → Type 0
HasNoForm words = (kind : RecordKind) (index : Option ℕ) → ¬ (AskFor words kind index)
