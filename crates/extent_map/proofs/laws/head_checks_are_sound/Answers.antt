use Rattle.extent_map.proofs.SoundDescriptors.{head_sound, head_checks}
use Rattle.extent_map.proofs.laws.head_checks_are_sound.Goals as goal

pub returns : goal.returns
returns c = λ file flags. (head_sound file flags, head_checks file flags)
