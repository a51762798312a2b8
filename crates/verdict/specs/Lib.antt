-- The verdict on every byte string, which reader and theorems stand on. Specs only, and an index:
--   Items             each item read at a place: Read, Item, Way, next; mark to der_length
--     Laws, Fields          a legal value's published form is read as that value
--     Sound, FieldsSound    and the other way: what is read is a legal value's form
--     Wrong                 where a text that is wrongly coded is told: at its first wrongly coded pair, exactly
--   Judge             header, features, signature, judge; Report and Verdict
--     Complete, Features    the published form of a legal content is accepted
--     HeaderSound, Sound, Seals    what is accepted is the published form of the content reported
--     Listed                every refusal has a number of document 01's list
--     Causes                each item and rule by an input that is refused there
--   Report            what is reported, turned back into a content
--   Frames            what a row says of the seal's bytes: its feature, framed from tag to value's end
--   Pins, in both     computed examples
pub mod Items
pub mod Judge
pub mod Report
pub mod Frames
