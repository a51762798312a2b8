-- Computed examples that fix what the laws leave open.
-- Assumes nothing.
use Rattle.std.specs.Prelude.{◌≡◌, refl, [], ◌∷◌, pos, negsuc}
use Rattle.format.specs.Answers.{result, refusal}
use Rattle.format.specs.BigEndian.{be, val}
use Rattle.der.specs.Length.{form, long_form, read_length}
use Rattle.der.specs.Element.{element_in}
use Rattle.der.specs.Content.{shortest, strict}
use Rattle.integers.specs.Integer.{integer_of}
use Rattle.integers.specs.Calls.{reading}

zero_is : integer_of (pos 0) ≡ 0x02 ∷ 0x01 ∷ 0x00 ∷ []
unfolding be form shortest
zero_is = refl

last_of_one_byte : integer_of (pos 127) ≡ 0x02 ∷ 0x01 ∷ 0x7F ∷ []
unfolding be form shortest
last_of_one_byte = refl

first_of_two_bytes : integer_of (pos 128) ≡ 0x02 ∷ 0x02 ∷ 0x00 ∷ 0x80 ∷ []
unfolding be form shortest
first_of_two_bytes = refl

minus_129 : integer_of (negsuc 128) ≡ 0x02 ∷ 0x02 ∷ 0xFF ∷ 0x7F ∷ []
unfolding be form shortest
minus_129 = refl

minus_25357 : integer_of (negsuc 25356) ≡ 0x02 ∷ 0x02 ∷ 0x9C ∷ 0xF3 ∷ []
unfolding be form shortest
minus_25357 = refl

minus_25357_read : reading (0x02 ∷ 0x02 ∷ 0x9C ∷ 0xF3 ∷ []) ≡ result (negsuc 25356)
unfolding reading element_in read_length long_form strict val
minus_25357_read = refl

-- the shortest form alone, and nothing left over
not_the_shortest : reading (0x02 ∷ 0x02 ∷ 0x00 ∷ 0x7F ∷ []) ≡ refusal (pos 0) 65
unfolding reading element_in read_length long_form strict val
not_the_shortest = refl

left_over : reading (0x02 ∷ 0x01 ∷ 0x00 ∷ 0x00 ∷ []) ≡ refusal (pos 0) 65
unfolding reading element_in read_length long_form strict val
left_over = refl
