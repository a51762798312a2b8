-- Reading C40 bytes pair by pair from the left: the text, or what is wrong with the first pair that is wrongly coded, and its place.
-- Assumes nothing.
use Rattle.std.specs.Prelude.{Bool, true, false, ◌≡◌, ℕ, ◌+◌, ◌%◌, ◌≤◌, List, [], ◌∷◌, ◌++◌, length, Result, Ok, Err}
use Rattle.pairs.specs.Chart.{the_chart}
use Rattle.pairs.specs.Pairs.{pair_of}
use Rattle.pairs.specs.declared.decode.Fault.{Fault}
use Rattle.pairs.specs.declared.decode.Fault.TheVariants.{OutOfRange}
use Rattle.pairs.specs.declared.decode.Pair.{Pair}
use Rattle.pairs.specs.declared.decode.Pair.TheVariants.{Three, Two, One}
use Rattle.c40.specs.declared.WrongPair.{WrongPair}

pub data Decoded : Type 0 where
  text : List ℕ → Decoded
  wrong : Fault → ℕ → Decoded

-- the text; whether it is text; and where the first wrong pair stands
abbrev pub text_of : Decoded → List ℕ
text_of (text t) = t
text_of (wrong fault at) = []

abbrev pub is_text : Decoded → Bool
is_text (text t) = true
is_text (wrong fault at) = false

abbrev pub wrong_at : Decoded → ℕ
wrong_at (text t) = 0
wrong_at (wrong fault at) = at

-- characters in front of what is decoded
abbrev pub ahead : List ℕ → Decoded → Decoded
ahead p (text t) = text (p ++ t)
ahead p (wrong fault at) = wrong fault at

abbrev pub none : List ℕ → Bool
none [] = true
none (x ∷ s) = false

-- a pair at a place, and what is decoded after it; the first that is wrongly coded is the one told
abbrev pub follow : ℕ → Result Pair Fault → Decoded → Decoded
follow at (Ok (Three a b c)) d = ahead (a ∷ b ∷ c ∷ []) d
follow at (Ok (Two a b)) d = ahead (a ∷ b ∷ []) d
follow at (Ok (One a)) d = ahead (a ∷ []) d
follow at (Err fault) d = wrong fault at

-- the bytes from a place on; the pair that nothing follows is the last. Their number is even: 40 is told before half a pair is judged.
unfoldable pub decode : ℕ → List ℕ → Decoded
decode at [] = text []
decode at (x ∷ []) = wrong OutOfRange at
decode at (x ∷ y ∷ s) = follow at (pair_of the_chart (none s) x y) (decode (at + 2) s)

-- what the judge says of it
abbrev pub judged_of : Decoded → Result ℕ WrongPair
judged_of (text t) = Ok (length t)
judged_of (wrong fault at) = Err (record { fault = fault; place = at })

-- what the judge asks: an even number of bytes, at most 4,096
pub record Even (bytes : List ℕ) : Type 0 where
  pub even : length bytes % 2 ≡ 0
  pub size : length bytes ≤ 4096

-- what the text's putting down asks: bytes that were judged good, and room for their text
pub record Good (bytes out : List ℕ) : Type 0 where
  pub even : length bytes % 2 ≡ 0
  pub is_text_lem : decode 0 bytes ≡ text (text_of (decode 0 bytes))
  pub room : length (text_of (decode 0 bytes)) ≤ length out
