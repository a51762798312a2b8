-- Cases that a naive definition gets wrong, by computing.
-- Assumes nothing.
use Rattle.std.specs.Prelude.{◌≡◌, refl, [], ◌∷◌, replicate}
use Rattle.grammar.specs.Content.{three, four}
use Rattle.grammar.proofs.Sizes.{has}
use Rattle.front_message.specs.Message.{long_front, signature_front, after_one, after_high, after_two, length_front, turn, message_front}

-- 59 bytes left: FF can be completed, a tag cannot (tag, length and 58 more do not fit)
no_tag : message_front three 9 [] 59 (7 ∷ 0 ∷ []) ≡ 0
unfolding has long_front signature_front after_one after_high after_two length_front turn message_front
no_tag = refl

mark_alone : message_front three 9 [] 59 (0xFF ∷ []) ≡ 1
unfolding has long_front signature_front after_one after_high after_two length_front turn message_front
mark_alone = refl

-- 60 left: the tag can, with the length 0 and no other
tag_only : message_front three 9 [] 60 (7 ∷ 1 ∷ []) ≡ 1
unfolding has long_front signature_front after_one after_high after_two length_front turn message_front
tag_only = refl

tag_and_zero : message_front three 9 [] 60 (7 ∷ 0 ∷ []) ≡ 2
unfolding has long_front signature_front after_one after_high after_two length_front turn message_front
tag_and_zero = refl

tag_and_zero_four : message_front four 9 [] 60 (7 ∷ 0 ∷ 7 ∷ []) ≡ 2
unfolding has long_front signature_front after_one after_high after_two length_front turn message_front
tag_and_zero_four = refl

-- after a feature without value and FF with 57 left, 38 alone can be completed: 40 cannot
small_signature : message_front three 9 [] 60 (7 ∷ 0 ∷ 0xFF ∷ 64 ∷ []) ≡ 3
unfolding has long_front signature_front after_one after_high after_two length_front turn message_front
small_signature = refl

smallest_signature : message_front three 9 [] 60 (7 ∷ 0 ∷ 0xFF ∷ 56 ∷ 1 ∷ 2 ∷ []) ≡ 6
unfolding has long_front signature_front after_one after_high after_two length_front turn message_front
smallest_signature = refl

-- a used tag, from before and from here
used : message_front three 9 (7 ∷ []) 400 (7 ∷ 0 ∷ []) ≡ 0
unfolding has long_front signature_front after_one after_high after_two length_front turn message_front
used = refl

used_here : message_front three 9 [] 400 (7 ∷ 1 ∷ 0 ∷ 7 ∷ 0 ∷ []) ≡ 3
unfolding has long_front signature_front after_one after_high after_two length_front turn message_front
used_here = refl

-- version 4: 80 begins no length, and is one in version 3
eighty : message_front four 9 [] 4000 (7 ∷ 0x80 ∷ []) ≡ 1
unfolding has long_front signature_front after_one after_high after_two length_front turn message_front
eighty = refl

eighty_plain : message_front three 9 [] 4000 (7 ∷ 0x80 ∷ []) ≡ 2
unfolding has long_front signature_front after_one after_high after_two length_front turn message_front
eighty_plain = refl

-- 81 wants 128 and up
not_shortest : message_front four 9 [] 4000 (7 ∷ 0x81 ∷ 0x7F ∷ []) ≡ 2
unfolding has long_front signature_front after_one after_high after_two length_front turn message_front
not_shortest = refl

shortest : message_front four 9 [] 4000 (7 ∷ 0x81 ∷ 0x80 ∷ []) ≡ 3
unfolding has long_front signature_front after_one after_high after_two length_front turn message_front
shortest = refl

-- 82 wants a first byte that is not 0
leading_zero : message_front four 9 [] 4000 (7 ∷ 0x82 ∷ 0 ∷ 200 ∷ []) ≡ 2
unfolding has long_front signature_front after_one after_high after_two length_front turn message_front
leading_zero = refl

-- and room for what its bytes say: 600 are 1 and 3, 538 and 58
eighty_two : message_front four 9 [] 600 (7 ∷ 0x82 ∷ 2 ∷ 27 ∷ []) ≡ 3
unfolding has long_front signature_front after_one after_high after_two length_front turn message_front
eighty_two = refl

eighty_two_most : message_front four 9 [] 600 (7 ∷ 0x82 ∷ 2 ∷ 26 ∷ []) ≡ 4
unfolding has long_front signature_front after_one after_high after_two length_front turn message_front
eighty_two_most = refl

-- behind the tag it needs 317: with 316 it does not begin a length
eighty_two_room : message_front four 9 [] 317 (7 ∷ 0x82 ∷ 1 ∷ []) ≡ 1
unfolding has long_front signature_front after_one after_high after_two length_front turn message_front
eighty_two_room = refl

eighty_two_enough : message_front four 9 [] 318 (7 ∷ 0x82 ∷ 1 ∷ 0 ∷ []) ≡ 4
unfolding has long_front signature_front after_one after_high after_two length_front turn message_front
eighty_two_enough = refl

-- 83 never fits
eighty_three : message_front four 9 [] 4078 (7 ∷ 0x83 ∷ 1 ∷ []) ≡ 1
unfolding has long_front signature_front after_one after_high after_two length_front turn message_front
eighty_three = refl

-- a signature's 81 needs room for 80 and 128 bytes at once
long_signature : message_front three 9 [] 130 (0xFF ∷ 0x81 ∷ 0x80 ∷ []) ≡ 1
unfolding has long_front signature_front after_one after_high after_two length_front turn message_front
long_signature = refl

long_signature_fits : message_front three 9 [] 131 (0xFF ∷ 0x81 ∷ 0x80 ∷ []) ≡ 3
unfolding has long_front signature_front after_one after_high after_two length_front turn message_front
long_signature_fits = refl

-- and 84 four more than 80
longer_signature : message_front three 9 [] 131 (0xFF ∷ 0x81 ∷ 0x84 ∷ []) ≡ 2
unfolding has long_front signature_front after_one after_high after_two length_front turn message_front
longer_signature = refl

-- one byte too many behind a whole signature
extra : message_front three 9 [] 4078 (0xFF ∷ 56 ∷ replicate 57 0) ≡ 58
unfolding has long_front signature_front after_one after_high after_two length_front turn message_front
extra = refl
