use Rattle.extent_map.proofs.SoundDescriptors.{descriptors_sound, descriptor_checks}
use Rattle.extent_map.proofs.laws.descriptor_checks_are_sound.Goals as goal

pub returns : goal.returns
returns c = λ file. (descriptors_sound file, descriptor_checks file)
