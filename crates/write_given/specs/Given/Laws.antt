-- A call says a content exactly where its version is one.
-- Assumes nothing.
use Rattle.std.specs.Prelude.{◌≡◌}
use Rattle.std.proofs.Common.{ap}
use Rattle.std.proofs.Math.Option.{some, map, map-eq-some_iff}
use Rattle.versions.specs.declared.Version.{Version}
use Rattle.versions.specs.Versions.{version_of}
use Rattle.grammar.specs.Content.{Content}
use Rattle.write_given.specs.Given.{Given, content_as, content_of}

-- the version of a call that says a content
pub record Says (g : Given) (c : Content) : Type 0 where
  pub version : Version
  pub stated : version_of g.header.version ≡ some version
  pub content : content_as g version ≡ c

pub says : (g : Given) (c : Content) → content_of g ≡ some c → Says g c
unfolding content_of
says g c e =
    let m = (map-eq-some_iff (content_as g) (version_of g.header.version)).0 e in
    record { version = m.0; stated = m.1; content = m.2 }

pub said : (g : Given) (v : Version) → version_of g.header.version ≡ some v → content_of g ≡ some (content_as g v)
unfolding content_of
said g v e = ap (map (content_as g)) e
