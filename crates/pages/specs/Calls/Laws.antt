-- What the call leaves, by the room, and on the page of a table.
-- Assumes nothing.
use Rattle.std.specs.Prelude.{◌≡◌, refl, true, ℕ, Result, Ok, Err, ◌<◌, ◌≤◌, List, length}
use Rattle.std.proofs.Common.{sym, ap, subst, ◌∙◌, arith}
use Rattle.format.specs.Answers.{done, refused}
use Rattle.format.proofs.Answers.Laws.{refuses, gives}
use Rattle.format.specs.Order.{in_room}
use Rattle.format.specs.Order.Laws.{in_no_room, in_room_lem}
use Rattle.octets.specs.Copy.{copied}
use Rattle.octets.specs.Copy.Laws.{copied_all}
use Rattle.pages.specs.Rows.{Row, sought}
use Rattle.pages.specs.Page.{page_of, line_for}
use Rattle.pages.specs.Page.Laws.{plain_rows, found_in}
use Rattle.pages.specs.Calls.{AllOrNone}
use Rattle.octets.specs.declared.NoRoom.{NoRoom}

module _ (bytes out : List ℕ) where
  pub not_said : length out < length bytes → AllOrNone bytes out (Err (record {})) out
  not_said h =
      let at : (none : ℕ) → in_room none bytes (length out) ≡ refused none 0 = λ none. in_no_room none bytes (length out) h in
      record {
        answer = λ none. (refuses (in_room none bytes (length out)) none 0 out (at none)).0;
        buffer = λ none. (refuses (in_room none bytes (length out)) none 0 out (at none)).1;
      }

  pub said_all :
      length bytes ≤ length out →
      (after : List ℕ) →
      after ≡ copied bytes out 0 →
      AllOrNone bytes out (Ok (length bytes)) after
  said_all h after e =
      let at : (none : ℕ) → in_room none bytes (length out) ≡ done bytes = λ none. in_room_lem none bytes (length out) h in
      let whole = e ∙ sym (copied_all bytes out 0 (omega arith)) in
      record {
        answer = λ none. (gives (in_room none bytes (length out)) bytes (length bytes) out after (at none) refl whole).0;
        buffer = λ none. (gives (in_room none bytes (length out)) bytes (length bytes) out after (at none) refl whole).1;
      }

-- of a table's page: what is put down is what is sought in the table
pub of_table :
    (rows : List Row) (page : List ℕ) (code : ℕ) {out after : List ℕ} {r : Result ℕ NoRoom} →
    AllOrNone (line_for code page) out r after →
    page ≡ page_of rows →
    plain_rows rows ≡ true →
    AllOrNone (sought code rows) out r after
of_table rows page code {out} {after} {r} a e p =
    subst (λ bytes. AllOrNone bytes out r after) (ap (line_for code) e ∙ found_in code rows p) a
