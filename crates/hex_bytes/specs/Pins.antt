-- Bytes shown, worked out.
-- Assumes nothing.
use Rattle.std.specs.Prelude.{◌≡◌, refl, [], ◌∷◌, replicate}
use Rattle.lines.specs.Line.{decimal_of, digits, ascii}
use Rattle.hex_bytes.specs.Shown.{hex_bytes, shown}

pub none : shown [] ≡ ascii " none"
none = refl

pub three : shown (0x00 ∷ 0x9A ∷ 0xFB ∷ []) ≡ ascii " 00 9A FB"
unfolding hex_bytes
three = refl

-- sixteen bytes are shown whole
pub sixteen : shown (replicate 16 0xC7) ≡ ascii " C7 C7 C7 C7 C7 C7 C7 C7 C7 C7 C7 C7 C7 C7 C7 C7"
unfolding hex_bytes
sixteen = refl

pub seventeen : shown (replicate 17 0x0F) ≡ ascii " 0F 0F 0F 0F 0F 0F 0F 0F 0F 0F 0F 0F 0F 0F 0F 0F and 1 more"
unfolding hex_bytes decimal_of digits
seventeen = refl
