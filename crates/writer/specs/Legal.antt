-- Which calls are answered 0: exactly those whose content is legal, whose shape is sound and for which there is room.
-- Assumes nothing.
pub mod Order
pub mod Names
pub mod Features
use Rattle.std.specs.Prelude.{◌≡◌, ℕ, ◌+◌, ◌≤◌, List, [], length}
use Rattle.std.proofs.Common.{ap, sym, subst, ◌∙◌}
use Rattle.std.proofs.Math.Option.{some}
use Rattle.format.specs.Answers.{done}
use Rattle.format.specs.Bytes.{Bytes, All}
use Rattle.dates.specs.Days.{is_day}
use Rattle.format.specs.Choice.{within}
use Rattle.versions.specs.declared.Version.{Version}
use Rattle.versions.specs.Versions.{version_of}
use Rattle.grammar.specs.Content.{Content}
use Rattle.grammar.specs.Publish.{publish}
use Rattle.grammar.specs.Legal.{Legal}
use Rattle.format.specs.Choice.Laws.{both_true, both_are, within_true, within_both}
use Rattle.rows.specs.Rows.{rows_of, Whole, is_whole}
use Rattle.rows.proofs.Rows.Laws.{whole_true, whole_is}
use Rattle.write_rows.specs.Tests.{are_rows}
use Rattle.write_given.specs.Given.{Given, content_as, content_of}
use Rattle.write_given.specs.Given.Laws.{says, said}
use Rattle.write_judge.specs.Calls.{writing}
use Rattle.writer.specs.Legal.Order.{done_passes, passes_done}
use Rattle.writer.specs.Legal.Names.{names_legal, names_pass}
use Rattle.verdict.proofs.Judge.Complete.{size_passes}
use Rattle.verdict.proofs.Judge.Sound.{size_of}
use Rattle.writer.specs.Legal.Features.{Inside, rows_legal, legal_rows}

-- what the types of a call give
pub record Lent (g : Given) : Type 0 where
  pub country : length g.header.country ≡ 3
  pub values : Bytes g.values
  pub signature : Bytes g.signature

-- what is asked of a call beside its content: a country of three characters, L as the text has it, a table of whole rows, and each value
-- inside the values buffer
pub record Sound (g : Given) : Type 0 where
  pub country : length g.header.country ≡ 3
  pub measured : g.header.length + 4 ≡ length g.text
  pub whole : Whole g.table
  pub inside : All (Inside (length g.values)) (rows_of g.table)

-- a call that is answered 0
pub record Written (g : Given) (room : ℕ) (s : List ℕ) : Type 0 where
  pub content : Content
  pub says : content_of g ≡ some content
  pub legal : Legal content
  pub sound : Sound g
  pub form_is : publish content ≡ s
  pub fits : length s ≤ room

-- what is answered 0 is the published form of the legal content given, in a call of sound shape, and fits
pub written_legal : (g : Given) (room : ℕ) (s : List ℕ) → Lent g → writing g room ≡ done s → Written g room s
unfolding content_as
written_legal g room s lent e =
    let h = g.header in
    let d = done_passes g room s e in
    let v = d.version in
    let p = d.passes in
    let n = names_legal v h g.text p.names in
    let days = both_true (is_day h.issued) (is_day h.signed) p.days in
    let last = both_true (within 1 254 h.definition) (within 1 254 h.category) p.last in
    let table = both_true (is_whole g.table) (are_rows (length g.values) [] (rows_of g.table)) p.table in
    let rows = rows_legal g.values v [] (rows_of g.table) lent.values table.1 p.sizes in
    record {
      content = content_as g v;
      says = said g v p.version;
      legal = record {
        header = record {
          country = n.country;
          signer = n.signer;
          reference = n.reference;
          size = n.size;
          issued = days.0;
          signed = days.1;
          definition = within_both 1 254 h.definition last.0;
          category = within_both 1 254 h.category last.1;
        };
        features = rows.0;
        signature = size_of (length g.signature) p.signature;
        bytes = lent.signature;
        size = p.size;
      };
      sound = record {
        country = lent.country;
        measured = n.measured;
        whole = whole_true g.table table.0;
        inside = rows.1;
      };
      form_is = d.form_is;
      fits = subst (λ u. length u ≤ room) d.form_is p.fits;
    }

-- and every such call is answered 0 with that form
legal_as :
    (v : Version) (g : Given) (room : ℕ) →
    version_of g.header.version ≡ some v →
    Sound g →
    Legal (content_as g v) →
    length (publish (content_as g v)) ≤ room →
    writing g room ≡ done (publish (content_as g v))
unfolding content_as
legal_as v g room version sound l fits =
    let h = g.header in
    let rows = legal_rows g.values v [] (rows_of g.table) l.features sound.inside in
    passes_done v g room
    (record {
      version = version;
      names =
          names_pass v h g.text
          (record {
            country = l.header.country;
            signer = l.header.signer;
            reference = l.header.reference;
            size = l.header.size;
            measured = sound.measured;
          });
      days = both_are (is_day h.issued) (is_day h.signed) l.header.issued l.header.signed;
      last =
          both_are (within 1 254 h.definition) (within 1 254 h.category)
          (within_true 1 254 h.definition l.header.definition.0 l.header.definition.1)
          (within_true 1 254 h.category l.header.category.0 l.header.category.1);
      table =
          both_are (is_whole g.table) (are_rows (length g.values) [] (rows_of g.table))
          (whole_is g.table sound.whole) rows.0;
      sizes = rows.1;
      signature = size_passes (length g.signature) l.signature;
      size = l.size;
      fits = fits;
    })

pub legal_written :
    (g : Given) (room : ℕ) (c : Content) →
    content_of g ≡ some c →
    Sound g →
    Legal c →
    length (publish c) ≤ room →
    writing g room ≡ done (publish c)
legal_written g room c e sound l fits =
    let s = says g c e in
    legal_as s.version g room s.stated sound (subst Legal (sym s.content) l)
    (subst (λ d. length (publish d) ≤ room) (sym s.content) fits)
    ∙ ap (λ d. done (publish d)) s.content
