-- Laws of what the writer answers: one for each answer, by the tests that lead there.
-- Assumes nothing.
use Rattle.std.specs.Prelude.{◌≡◌, true, false, ℕ, ◌<◌, ◌≤◌, length}
use Rattle.std.proofs.Math.Path.{refl, ap}
use Rattle.std.proofs.Common.{◌∙◌}
use borrow.Author.Tests.{lt-leb, le-leb}
use Rattle.std.proofs.Math.Option.{none, some}
use Rattle.format.specs.Answers.{done, refused}
use Rattle.versions.specs.declared.Version.{Version}
use Rattle.versions.specs.Versions.{version_of}
use Rattle.grammar.specs.Publish.{publish}
use Rattle.fields.specs.Signature.{is_signature}
use Rattle.write_given.specs.Tests.{are_names, are_days, are_last}
use Rattle.write_rows.specs.Tests.{is_table, are_values}
use Rattle.write_given.specs.Given.{Given, content_as}
use Rattle.write_judge.specs.Calls.{in_version, writing_as, writing}

module _ (g : Given) (room : ℕ) where
  pub writing_version : version_of g.header.version ≡ none → writing g room ≡ refused 20 0
  unfolding writing
  writing_version e = ap (λ o. in_version o (writing_as g room)) e

  module _ (v : Version) (version : version_of g.header.version ≡ some v) where
    past20 : writing g room ≡ writing_as g room v
    unfolding writing
    past20 = ap (λ o. in_version o (writing_as g room)) version

    pub writing_names : are_names v g.header g.text ≡ false → writing g room ≡ refused 21 0
    unfolding writing_as
    writing_names e = past20 ∙ rw e refl

    module _ (names : are_names v g.header g.text ≡ true) where
      pub writing_days : are_days g.header ≡ false → writing g room ≡ refused 22 0
      unfolding writing_as
      writing_days e = past20 ∙ rw (names, e) refl

      module _ (days : are_days g.header ≡ true) where
        pub writing_last : are_last g.header ≡ false → writing g room ≡ refused 23 0
        unfolding writing_as
        writing_last e = past20 ∙ rw (names, days, e) refl

        module _ (last : are_last g.header ≡ true) where
          pub writing_rows : is_table (length g.values) g.table ≡ false → writing g room ≡ refused 24 0
          unfolding writing_as
          writing_rows e = past20 ∙ rw (names, days, last, e) refl

          module _ (table : is_table (length g.values) g.table ≡ true) where
            pub writing_values : are_values v g.table ≡ false → writing g room ≡ refused 25 0
            unfolding writing_as
            writing_values e = past20 ∙ rw (names, days, last, table, e) refl

            module _ (values : are_values v g.table ≡ true) where
              pub writing_signature : is_signature (length g.signature) ≡ false → writing g room ≡ refused 26 0
              unfolding writing_as
              writing_signature e = past20 ∙ rw (names, days, last, table, values, e) refl

              module _ (signature : is_signature (length g.signature) ≡ true) where
                pub writing_long : 4096 < length (publish (content_as g v)) → writing g room ≡ refused 27 0
                unfolding writing_as
                writing_long h =
                    past20 ∙ rw (names, days, last, table, values, signature, lt-leb (length (publish (content_as g v))) 4096 h) refl

                module _ (size : length (publish (content_as g v)) ≤ 4096) where
                  pub writing_no_room : room < length (publish (content_as g v)) → writing g room ≡ refused 28 0
                  unfolding writing_as
                  writing_no_room h =
                      let seal = publish (content_as g v) in
                      past20
                      ∙ rw (names, days, last, table, values, signature, le-leb (length seal) 4096 size, lt-leb (length seal) room h) refl

                  pub writing_done : length (publish (content_as g v)) ≤ room → writing g room ≡ done (publish (content_as g v))
                  unfolding writing_as
                  writing_done h =
                      let seal = publish (content_as g v) in
                      past20
                      ∙ rw (names, days, last, table, values, signature, le-leb (length seal) 4096 size, le-leb (length seal) room h) refl
