-- The forms of the command line: the words after the program's name.
use Rattle.std.specs.Prelude.{◌≡◌, ◌≢◌, ℕ, ◌<◌, ◌^◌, List, [], ◌∷◌, codes, decimal}
use Rattle.ibd_carve.specs.declared.forms.Form.{Form}
use Rattle.ibd_carve.specs.declared.forms.Form.TheVariants.{ListImage, TakeSpace}

-- the word spells a space id
pub record IsSpaceWord (word : List ℕ) (space : ℕ) : Type 0 where
  pub some_space : space ≢ 0
  pub below : space < 2 ^ 32
  pub spelled : word ≡ decimal space

-- the words take a space out of an image into a file with another name
pub record AsksToTake (words : List (List ℕ)) (space : ℕ) : Type 0 where
  pub word : List ℕ
  pub image : List ℕ
  pub file : List ℕ
  pub words_are : words ≡ codes "take" ∷ word ∷ image ∷ file ∷ []
  pub is_space : IsSpaceWord word space
  pub other : image ≢ file

-- the words have this form
abbrev pub IsForm : List (List ℕ) → Form → Type 0
IsForm words ListImage = (image : List ℕ) × (words ≡ codes "list" ∷ image ∷ [])
IsForm words (TakeSpace space) = AsksToTake words space

-- the words have no form
abbrev pub HasNoForm : List (List ℕ) → Type 0
HasNoForm words = (form : Form) → ¬ (IsForm words form)

-- the place of the word that names the image
abbrev pub image_place : Form → ℕ
image_place ListImage = 1
image_place (TakeSpace space) = 2
