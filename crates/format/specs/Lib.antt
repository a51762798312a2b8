-- What every layer says its promises with. Specs only, and an index:
--   Choice      tests and choices: pick, both, either, within
--   Every       a rule of a table of numbers, proved at all of its entries by one test
--   Bytes       byte strings
--   BigEndian   numbers in bytes, most significant first: be, val
--   Hex         hexadecimal digits in upper case: hex_digit, hex_value
--   Places      a list from a place on
--   Buffer      a lent buffer with bytes put over it: over
--   Cut         a part that can be cut off the front of a byte string in one way only
--   Answers     what a call answers: Outcome, Answer, Valued; what a buffer holds then: filled
--   Order       refusals in order: a list of tests, the first that fails decides: in_order
--   Quotient    a quotient by a constant as a product and a shift
--   OneToOne    answers that are settled where what is said of them is
--   Pins        computed examples
pub mod Choice
pub mod Bytes
pub mod BigEndian
pub mod Hex
pub mod Cut
pub mod Buffer
pub mod Places
pub mod Every
pub mod Answers
pub mod Order
pub mod Quotient
pub mod Pins
pub mod OneToOne
