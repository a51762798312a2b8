-- How many of some bytes can be completed to features and a signature, where only so many bytes are left up to 4,096 (document 02, Ticket
-- 12). The room counts at every byte: a signature zone needs 58 at least, which are FF, a length and 56.
-- Assumes nothing.
pub mod Laws
pub mod Languages
pub mod Steps
pub mod Least
pub mod Signature
pub mod Lengths
pub mod Values
pub mod Pins
use Rattle.std.specs.Prelude.{ℕ, zero, suc, ◌+◌, ◌-◌, ◌*◌, List, [], ◌∷◌, ltb, eqb, length, drop}
use Rattle.format.specs.Choice.{pick, either}
use Rattle.grammar.specs.Content.{Version, three, four}
use Rattle.grammar.proofs.Sizes.{has}

-- n bytes, whatever they are
abbrev pub any_front : ℕ → List ℕ → ℕ
any_front n s = pick (ltb (length s) n) (length s) n

-- behind FF and 81: 128 or 132, and as many bytes
unfoldable pub long_front : ℕ → List ℕ → ℕ
long_front room [] = 0
long_front room (b ∷ s) = pick (has b (128 ∷ 132 ∷ [])) (pick (ltb room (1 + b)) 0 (1 + any_front b s)) 0

-- behind FF: 56, 64 or 96, and as many bytes; or 81, which needs 128 and itself
unfoldable pub signature_front : ℕ → List ℕ → ℕ
signature_front room [] = 0
signature_front room (b ∷ s) =
    pick (has b (56 ∷ 64 ∷ 96 ∷ [])) (pick (ltb room (1 + b)) 0 (1 + any_front b s))
    (pick (eqb b 0x81) (pick (ltb room 130) 0 (1 + long_front (room - 1) s))
    0)

-- a feature's length: what it says and how many bytes it has; or how many of its bytes can be completed, where not all can
pub data Length : Type 0 where
  is : ℕ → ℕ → Length
  ends : ℕ → Length

-- the last byte of a length, behind w others: it needs the value and 58 behind it
abbrev pub last_of : ℕ → ℕ → ℕ → Length
last_of room n w = pick (ltb room (1 + w + n + 58)) (ends w) (is n (1 + w))

-- behind 81: one byte of 128 and up
unfoldable pub after_one : ℕ → List ℕ → Length
after_one room [] = ends 1
after_one room (b ∷ s) = pick (ltb b 0x80) (ends 1) (last_of room b 1)

-- behind 82: two bytes, the first not 0
unfoldable pub after_high : ℕ → ℕ → List ℕ → Length
after_high room high [] = ends 2
after_high room high (b ∷ s) = last_of room (high * 256 + b) 2

unfoldable pub after_two : ℕ → List ℕ → Length
after_two room [] = ends 1
after_two room (high ∷ s) = pick (eqb high 0) (ends 1) (pick (ltb room (3 + high * 256 + 58)) (ends 1) (after_high room high s))

-- one plain byte in version 3, a DER length in version 4: 81 needs itself, a byte, 128 and 58, and 82 itself, two bytes, 256 and 58; 83 and
-- 84 never fit
unfoldable pub length_front : Version → ℕ → List ℕ → Length
length_front v room [] = ends 0
length_front three room (b ∷ s) = last_of room b 0
length_front four room (b ∷ s) =
    pick (ltb b 0x80) (last_of room b 0)
    (pick (eqb b 0x81) (pick (ltb room 188) (ends 0) (after_one room s))
    (pick (eqb b 0x82) (pick (ltb room 317) (ends 0) (after_two room s))
    (ends 0)))

-- a value of n bytes, and then more
abbrev pub value_front : ℕ → ℕ → (ℕ → List ℕ → ℕ) → List ℕ → ℕ
value_front n room more s = pick (ltb (length s) n) (length s) (n + more (room - n) (drop n s))

-- behind a tag: its length, its value, and then more
abbrev pub tagged : Length → ℕ → (ℕ → List ℕ → ℕ) → List ℕ → ℕ
tagged (ends k) room more s = k
tagged (is n w) room more s = w + value_front n (room - w) more (drop w s)

-- FF and the signature; or a tag that was not used, which needs itself, a length and 58
unfoldable pub turn : Version → (List ℕ → ℕ → List ℕ → ℕ) → List ℕ → ℕ → List ℕ → ℕ
turn v more used room [] = 0
turn v more used room (b ∷ s) =
    pick (eqb b 0xFF) (1 + signature_front (room - 1) s)
    (pick (either (ltb room 60) (has b used)) 0
    (1 + tagged (length_front v (room - 1) s) (room - 1) (more (b ∷ used)) s))

-- features and signature, where the tags `used` stand before and `room` bytes are left; `fuel` is more than the bytes given
unfoldable pub message_front : Version → ℕ → List ℕ → ℕ → List ℕ → ℕ
message_front v zero used room s = 0
message_front v (suc fuel) used room s = turn v (λ u r t. message_front v fuel u r t) used room s
