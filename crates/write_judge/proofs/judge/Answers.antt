-- `judge` meets its contract: each `return` is one answer, with the tests that led there.
-- Assumes nothing.
use native.Mathlib.Omega.{arith}
use mathlib.Core.Path.{◌≡◌, ap, sym, ◌∙◌}
use mathlib.Core.Bool.{true}
use Prim.Native.Nat.{ℕ, min}
use mathlib.Core.Option.{some}
use lib.ListN.{length}
use Rattle.format.specs.Answers.{Answer, told}
use Rattle.versions.specs.declared.Version.{Version}
use Rattle.versions.specs.Versions.{version_of, stated_of}
use Rattle.grammar.specs.Publish.{publish}
use Rattle.fields.specs.Signature.{is_signature}
use Rattle.write_given.specs.Tests.{are_names, are_days, are_last}
use Rattle.write_rows.specs.Tests.{is_table, are_values}
use Rattle.write_given.specs.Given.{Given, given, content_as}
use Rattle.write_judge.specs.Calls.Laws.{writing_version, writing_names, writing_days, writing_last, writing_rows, writing_values}
use Rattle.write_judge.specs.Calls.Laws.{writing_signature, writing_long, writing_no_room, writing_done}
use Rattle.write_judge.specs.Size.{length_seal}
use Rattle.write_judge.proofs.judge.Goals as goal
use Rattle.write_judge.proofs.judge.Goals.{After-seal_size-size, Else-not-are_days, Else-not-are_last, Else-not-are_names, Else-not-are_rows, Else-not-are_values, Else-not-is_signature, In-Ok, Start}

-- all that was handed over
abbrev whole : Start → Given
whole c = given c.args.header c.args.text.now c.args.rows.now c.args.values.now c.args.signature.now

abbrev all_of : In-Ok → Given
all_of c = whole (goal.at.In-Ok c).Start

abbrev room : In-Ok → ℕ
room c = c.args.room

abbrev ver : In-Ok → Version
ver c = c.in-Ok.version

-- what the tests passed say
pass_0 : (k : In-Ok) → version_of (all_of k).header.version ≡ some (ver k)
pass_0 c = sym c.from_number.ensures ∙ ap stated_of c.in-Ok.is

pass_1 : (c : Else-not-are_names) → are_names (ver (goal.at.Else-not-are_names c).In-Ok) (all_of (goal.at.Else-not-are_names c).In-Ok).header (all_of (goal.at.Else-not-are_names c).In-Ok).text ≡ true
pass_1 c = sym c.are_names.ensures ∙ c.if-not-are_names.false

pass-2 : (c : Else-not-are_days) → are_days (all_of (goal.at.Else-not-are_days c).In-Ok).header ≡ true
pass-2 c = sym c.are_days.ensures ∙ c.if-not-are_days.false

pass-3 : (c : Else-not-are_last) → are_last (all_of (goal.at.Else-not-are_last c).In-Ok).header ≡ true
pass-3 c = sym c.are_last.ensures ∙ c.if-not-are_last.false

pass_4 : (c : Else-not-are_rows) → is_table (length (all_of (goal.at.Else-not-are_rows c).In-Ok).values) (all_of (goal.at.Else-not-are_rows c).In-Ok).table ≡ true
pass_4 c = sym c.are_rows.ensures ∙ c.if-not-are_rows.false

pass_5 : (c : Else-not-are_values) → are_values (ver (goal.at.Else-not-are_values c).In-Ok) (all_of (goal.at.Else-not-are_values c).In-Ok).table ≡ true
pass_5 c = sym c.are_values.ensures ∙ c.if-not-are_values.false

pass_6 : (c : Else-not-is_signature) → is_signature (length (all_of (goal.at.Else-not-is_signature c).In-Ok).signature) ≡ true
pass_6 c = sym c.is_signature.ensures ∙ c.if-not-is_signature.false

-- the size, up to one past the greatest
abbrev seal : In-Ok → ℕ
seal c = length (publish (content_as (all_of c) (ver c)))

measured : (c : After-seal_size-size) → c.seal_size-size.result ≡ min (seal (goal.at.After-seal_size-size c).In-Ok) 4097
measured c =
    c.seal_size-size.ensures
    ∙ ap (λ n. min n 4097) (sym (length_seal (ver (goal.at.After-seal_size-size c).In-Ok) (all_of (goal.at.After-seal_size-size c).In-Ok) (pass_1 (goal.at.After-seal_size-size c).Else-not-are_names) (pass_4 (goal.at.After-seal_size-size c).Else-not-are_rows)))

pub returns-in_default : goal.returns-in_default
returns-in_default c =
    sym
    (ap told
    (writing_version (whole (goal.at.returns-in_default c).Start) c.args.room (sym c.from_number.ensures ∙ ap stated_of c.in_default.is)))

pub returns-then-not-are_names : goal.returns-then-not-are_names
returns-then-not-are_names c =
    sym
    (ap told (writing_names (all_of (goal.at.returns-then-not-are_names c).In-Ok) (room (goal.at.returns-then-not-are_names c).In-Ok) (ver (goal.at.returns-then-not-are_names c).In-Ok) (pass_0 (goal.at.returns-then-not-are_names c).In-Ok) (sym c.are_names.ensures ∙ c.if-not-are_names.true)))

pub returns-then-not-are_days : goal.returns-then-not-are_days
returns-then-not-are_days c =
    sym
    (ap told
    (writing_days (all_of (goal.at.returns-then-not-are_days c).In-Ok) (room (goal.at.returns-then-not-are_days c).In-Ok) (ver (goal.at.returns-then-not-are_days c).In-Ok) (pass_0 (goal.at.returns-then-not-are_days c).In-Ok) (pass_1 (goal.at.returns-then-not-are_days c).Else-not-are_names) (sym c.are_days.ensures ∙ c.if-not-are_days.true)))

pub returns-then-not-are_last : goal.returns-then-not-are_last
returns-then-not-are_last c =
    sym
    (ap told
    (writing_last (all_of (goal.at.returns-then-not-are_last c).In-Ok) (room (goal.at.returns-then-not-are_last c).In-Ok) (ver (goal.at.returns-then-not-are_last c).In-Ok) (pass_0 (goal.at.returns-then-not-are_last c).In-Ok) (pass_1 (goal.at.returns-then-not-are_last c).Else-not-are_names) (pass-2 (goal.at.returns-then-not-are_last c).Else-not-are_days)
    (sym c.are_last.ensures ∙ c.if-not-are_last.true)))

pub returns-then-not-are_rows : goal.returns-then-not-are_rows
returns-then-not-are_rows c =
    sym
    (ap told
    (writing_rows (all_of (goal.at.returns-then-not-are_rows c).In-Ok) (room (goal.at.returns-then-not-are_rows c).In-Ok) (ver (goal.at.returns-then-not-are_rows c).In-Ok) (pass_0 (goal.at.returns-then-not-are_rows c).In-Ok) (pass_1 (goal.at.returns-then-not-are_rows c).Else-not-are_names) (pass-2 (goal.at.returns-then-not-are_rows c).Else-not-are_days) (pass-3 (goal.at.returns-then-not-are_rows c).Else-not-are_last)
    (sym c.are_rows.ensures ∙ c.if-not-are_rows.true)))

pub returns-then-not-are_values : goal.returns-then-not-are_values
returns-then-not-are_values c =
    sym
    (ap told
    (writing_values (all_of (goal.at.returns-then-not-are_values c).In-Ok) (room (goal.at.returns-then-not-are_values c).In-Ok) (ver (goal.at.returns-then-not-are_values c).In-Ok) (pass_0 (goal.at.returns-then-not-are_values c).In-Ok) (pass_1 (goal.at.returns-then-not-are_values c).Else-not-are_names) (pass-2 (goal.at.returns-then-not-are_values c).Else-not-are_days) (pass-3 (goal.at.returns-then-not-are_values c).Else-not-are_last)
    (pass_4 (goal.at.returns-then-not-are_values c).Else-not-are_rows) (sym c.are_values.ensures ∙ c.if-not-are_values.true)))

pub returns-then-not-is_signature : goal.returns-then-not-is_signature
returns-then-not-is_signature c =
    sym
    (ap told
    (writing_signature (all_of (goal.at.returns-then-not-is_signature c).In-Ok) (room (goal.at.returns-then-not-is_signature c).In-Ok) (ver (goal.at.returns-then-not-is_signature c).In-Ok) (pass_0 (goal.at.returns-then-not-is_signature c).In-Ok) (pass_1 (goal.at.returns-then-not-is_signature c).Else-not-are_names) (pass-2 (goal.at.returns-then-not-is_signature c).Else-not-are_days) (pass-3 (goal.at.returns-then-not-is_signature c).Else-not-are_last)
    (pass_4 (goal.at.returns-then-not-is_signature c).Else-not-are_rows) (pass_5 (goal.at.returns-then-not-is_signature c).Else-not-are_values) (sym c.is_signature.ensures ∙ c.if-not-is_signature.true)))

pub returns-then-size-gt4096 : goal.returns-then-size-gt4096
returns-then-size-gt4096 c =
    sym
    (ap told
    (writing_long (all_of (goal.at.returns-then-size-gt4096 c).In-Ok) (room (goal.at.returns-then-size-gt4096 c).In-Ok) (ver (goal.at.returns-then-size-gt4096 c).In-Ok) (pass_0 (goal.at.returns-then-size-gt4096 c).In-Ok) (pass_1 (goal.at.returns-then-size-gt4096 c).Else-not-are_names) (pass-2 (goal.at.returns-then-size-gt4096 c).Else-not-are_days) (pass-3 (goal.at.returns-then-size-gt4096 c).Else-not-are_last)
    (pass_4 (goal.at.returns-then-size-gt4096 c).Else-not-are_rows) (pass_5 (goal.at.returns-then-size-gt4096 c).Else-not-are_values) (pass_6 (goal.at.returns-then-size-gt4096 c).Else-not-is_signature) (omega (arith, measured (goal.at.returns-then-size-gt4096 c).After-seal_size-size))))

pub returns-then-room-size : goal.returns-then-room-size
returns-then-room-size c =
    let m = measured (goal.at.returns-then-room-size c).After-seal_size-size in
    sym
    (ap told
    (writing_no_room (all_of (goal.at.returns-then-room-size c).In-Ok) (room (goal.at.returns-then-room-size c).In-Ok) (ver (goal.at.returns-then-room-size c).In-Ok) (pass_0 (goal.at.returns-then-room-size c).In-Ok) (pass_1 (goal.at.returns-then-room-size c).Else-not-are_names) (pass-2 (goal.at.returns-then-room-size c).Else-not-are_days) (pass-3 (goal.at.returns-then-room-size c).Else-not-are_last)
    (pass_4 (goal.at.returns-then-room-size c).Else-not-are_rows) (pass_5 (goal.at.returns-then-room-size c).Else-not-are_values) (pass_6 (goal.at.returns-then-room-size c).Else-not-is_signature) (omega (arith, m)) (omega (arith, m))))

-- done, with so many bytes
counted : ℕ → Answer
counted n = record { number = 0; place = 0; count = n }

pub returns : goal.returns
unfolding counted
returns c =
    let m = measured (goal.at.returns c).After-seal_size-size in
    let all : c.seal_size-size.result ≡ seal (goal.at.returns c).In-Ok = omega (arith, m) in
    ap counted all
    ∙ sym
    (ap told
    (writing_done (all_of (goal.at.returns c).In-Ok) (room (goal.at.returns c).In-Ok) (ver (goal.at.returns c).In-Ok) (pass_0 (goal.at.returns c).In-Ok) (pass_1 (goal.at.returns c).Else-not-are_names) (pass-2 (goal.at.returns c).Else-not-are_days) (pass-3 (goal.at.returns c).Else-not-are_last)
    (pass_4 (goal.at.returns c).Else-not-are_rows) (pass_5 (goal.at.returns c).Else-not-are_values) (pass_6 (goal.at.returns c).Else-not-is_signature) (omega (arith, m)) (omega (arith, m))))
