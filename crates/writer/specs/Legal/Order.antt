-- The order 20 to 28: a call is answered 0 exactly when it passes each test, and then the seal is the published form.
-- Assumes nothing.
use Rattle.std.specs.Prelude.{◌≡◌, refl, true, ℕ, suc, ◌<◌, ◌≤◌, List, length}
use Rattle.std.proofs.Common.{ap, sym, subst, ◌∙◌, arith, le-leb, leb-true}
use Rattle.std.proofs.Math.Option.{Option, none, some}
use Rattle.format.specs.Answers.{done, refused}
use Rattle.format.specs.Order.Laws.{all_passed, done_passed}
use Rattle.versions.specs.declared.Version.{Version}
use Rattle.versions.specs.Versions.{version_of}
use Rattle.grammar.specs.Publish.{publish}
use Rattle.fields.specs.Signature.{is_signature}
use Rattle.write_given.specs.Tests.{are_names, are_days, are_last}
use Rattle.write_rows.specs.Tests.{is_table, are_values}
use Rattle.write_given.specs.Given.{Given, content_as}
use Rattle.write_judge.specs.Calls.{in_version, tests_as, writing_as, writing}
use Rattle.writer.specs.Theorems.{zero_done}

-- the tests of 20 to 28, in a version
pub record Passes (v : Version) (g : Given) (room : ℕ) : Type 0 where
  pub version : version_of g.header.version ≡ some v
  pub names : are_names v g.header g.text ≡ true
  pub days : are_days g.header ≡ true
  pub last : are_last g.header ≡ true
  pub table : is_table (length g.values) g.table ≡ true
  pub sizes : are_values v g.table ≡ true
  pub signature : is_signature (length g.signature) ≡ true
  pub size : length (publish (content_as g v)) ≤ 4096
  pub fits : length (publish (content_as g v)) ≤ room

-- a call that is done is so in its version
pub record Done (g : Given) (room : ℕ) (s : List ℕ) : Type 0 where
  pub version : Version
  pub passes : Passes version g room
  pub form_is : publish (content_as g version) ≡ s

passes_as :
    (g : Given) (room : ℕ) (s : List ℕ) (v : Version) →
    version_of g.header.version ≡ some v →
    writing_as g room v ≡ done s →
    Done g room s
unfolding writing_as
passes_as g room s v version e =
    let seal = publish (content_as g v) in
    let above : (n : ℕ) → 0 < suc n = λ n. omega arith in
    let p = done_passed (tests_as g room v) (done seal) s
    (above 20, (above 21, (above 22, (above 23, (above 24, (above 25, (above 26, (above 27, tt)))))))) e in
    let q = p.0 in
    record {
      version = v;
      passes = record {
        version = version;
        names = q.0;
        days = q.1.0;
        last = q.1.1.0;
        table = q.1.1.1.0;
        sizes = q.1.1.1.1.0;
        signature = q.1.1.1.1.1.0;
        size = leb-true (length seal) 4096 q.1.1.1.1.1.1.0;
        fits = leb-true (length seal) room q.1.1.1.1.1.1.1.0;
      };
      form_is = ap (λ o. o.written) p.1;
    }

by_version :
    (g : Given) (room : ℕ) (s : List ℕ) (o : Option Version) →
    version_of g.header.version ≡ o →
    in_version o (writing_as g room) ≡ done s →
    Done g room s
by_version g room s none stated e = let z : ◌≡◌ {A = ℕ} 20 0 = ap (λ o. o.number) e in absurd (omega arith)
by_version g room s (some v) stated e = passes_as g room s v stated e

pub done_passes : (g : Given) (room : ℕ) (s : List ℕ) → writing g room ≡ done s → Done g room s
unfolding writing
done_passes g room s e = by_version g room s (version_of g.header.version) refl e

pub passes_done : (v : Version) (g : Given) (room : ℕ) → Passes v g room → writing g room ≡ done (publish (content_as g v))
unfolding writing writing_as
passes_done v g room p =
    let seal = publish (content_as g v) in
    ap (λ o. in_version o (writing_as g room)) p.version
    ∙ all_passed refused (tests_as g room v) (done seal) (
      p.names,
      (
        p.days,
        (p.last, (p.table, (p.sizes, (p.signature, (le-leb (length seal) 4096 p.size, (le-leb (length seal) room p.fits, tt)))))),
      ),
    )

-- a call that is answered 0 passes each test in the version that it states
pub passes_in :
    (g : Given) (room : ℕ) (v : Version) → version_of g.header.version ≡ some v → (writing g room).number ≡ 0 → Passes v g room
passes_in g room v stated z =
    let d = done_passes g room (writing g room).written (zero_done g room z) in
    let both : some d.version ≡ some v = sym d.passes.version ∙ stated in
    let same : d.version ≡ v = cc in
    subst (λ w. Passes w g room) same d.passes
