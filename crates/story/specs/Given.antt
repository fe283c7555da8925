-- What the types give of a story (ours: the definitions speak of numbers and lists, the compiler gives the rest).
use Rattle.std.specs.Prelude.{◌≡◌, ◌<◌, length}
use Rattle.laws.specs.Bits.{Under}
use Rattle.story.specs.declared.Story.{Story}

-- arrays of their lengths
pub record Lengths (s : Story) : Type 0 where
  pub digits_long : length s.digits ≡ 35
  pub certificate_long : length s.certificate ≡ 12
  pub signature_long : length s.signature ≡ 64

-- and a time of 32 bits, a signature of bytes
pub record Given (s : Story) : Type 0 where
  pub long : Lengths s
  pub time_held : s.time < 4294967296
  pub signature_held : Under 256 s.signature
