-- What the writer answers, for every input (document 01, numbers 20 to 28, in order, each with place 0), and what it
-- writes: all is judged before the first byte.
-- Assumes nothing.
pub mod Laws
use Rattle.std.specs.Prelude.{ℕ, List, [], ◌∷◌, Result, Ok, Err, leb, length}
use Rattle.std.proofs.Math.Option.{Option, none, some}
use Rattle.format.specs.Answers.{Outcome, Answer, done, refused}
use Rattle.format.specs.Order.{Test, test, in_order}
use Rattle.versions.specs.declared.Version.{Version}
use Rattle.versions.specs.Versions.{version_of}
use Rattle.grammar.specs.Publish.{publish}
use Rattle.fields.specs.Signature.{is_signature}
use Rattle.write_given.specs.Tests.{are_names, are_days, are_last}
use Rattle.write_rows.specs.Tests.{is_table, are_values}
use Rattle.write_given.specs.Given.{Given, content_as}
use Rattle.write_judge.specs.declared.Refused.{Refused}
use Rattle.write_judge.specs.declared.Refused.TheVariants as write

-- 21 to 28 in order, in a version
abbrev pub tests_as : Given → ℕ → Version → List Test
tests_as g room v =
    test 21 0 (are_names v g.header g.text)
    ∷ test 22 0 (are_days g.header)
    ∷ test 23 0 (are_last g.header)
    ∷ test 24 0 (is_table (length g.values) g.table)
    ∷ test 25 0 (are_values v g.table)
    ∷ test 26 0 (is_signature (length g.signature))
    ∷ test 27 0 (leb (length (publish (content_as g v))) 4096)
    ∷ test 28 0 (leb (length (publish (content_as g v))) room)
    ∷ []

unfoldable pub writing_as : Given → ℕ → Version → Outcome
writing_as g room v = in_order (tests_as g room v) (done (publish (content_as g v)))

-- 20, before the others: version not 3 or 4
abbrev pub in_version : Option Version → (Version → Outcome) → Outcome
in_version none others = refused 20 0
in_version (some v) others = others v

unfoldable pub writing : Given → ℕ → Outcome
writing g room = in_version (version_of g.header.version) (writing_as g room)

-- number, place and count of what is written, and of each refusal
abbrev pub writing_of : Result ℕ Refused → Answer
writing_of (Ok count) = record { number = 0; place = 0; count = count }
writing_of (Err write.Version) = record { number = 20; place = 0; count = 0 }
writing_of (Err write.Names) = record { number = 21; place = 0; count = 0 }
writing_of (Err write.Dates) = record { number = 22; place = 0; count = 0 }
writing_of (Err write.Last) = record { number = 23; place = 0; count = 0 }
writing_of (Err write.Rows) = record { number = 24; place = 0; count = 0 }
writing_of (Err write.Values) = record { number = 25; place = 0; count = 0 }
writing_of (Err write.Signature) = record { number = 26; place = 0; count = 0 }
writing_of (Err write.TooLong) = record { number = 27; place = 0; count = 0 }
writing_of (Err write.NoRoom) = record { number = 28; place = 0; count = 0 }
