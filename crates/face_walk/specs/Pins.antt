-- Computed examples of the structs: an opening and a step in which no two fields are alike, and each case of a look-up.
-- Assumes nothing.
use Rattle.std.specs.Prelude.{◌≡◌, refl, Ok, Err}
use Rattle.shown.specs.Where.{answer_of}
use Rattle.shown.specs.declared.Where.TheVariants.{Extension, Main}
use Rattle.shown.specs.declared.NotShown.TheVariants.{Main as NotMain, Extension as NotExtension, Neither}
use Rattle.face_walk.specs.Face.{start_of, step_of, where_of}

start_out : start_of (record { number = 9; place = 24; at = 18 }) ≡ record { number = 9; place = 24; at = 18 }
start_out = refl

step_out :
    step_of (record { number = 51; place = 7; row = record { tag = 10; start = 18; place = 20; size = 4 }; at = 24 })
    ≡ record { number = 51; place = 7; tag = 10; tag_place = 18; value = record { place = 20; length = 4 }; at = 24 }
step_out = refl

-- which seal: 2 the extension, 1 the main one, 0 neither
extension_out :
    where_of (answer_of (Ok (Extension (record { place = 20; length = 4 }))))
    ≡ record { number = 0; place = 0; which = 2; value = record { place = 20; length = 4 } }
extension_out = refl

main_out :
    where_of (answer_of (Ok (Main (record { place = 20; length = 4 }))))
    ≡ record { number = 0; place = 0; which = 1; value = record { place = 20; length = 4 } }
main_out = refl

not_main_out :
    where_of (answer_of (Err (NotMain 9 24)))
    ≡ record { number = 9; place = 24; which = 1; value = record { place = 0; length = 0 } }
not_main_out = refl

not_extension_out :
    where_of (answer_of (Err (NotExtension 9 24))) ≡ record { number = 9; place = 24; which = 2; value = record { place = 0; length = 0 } }
not_extension_out = refl

neither_out : where_of (answer_of (Err Neither)) ≡ record { number = 50; place = 0; which = 0; value = record { place = 0; length = 0 } }
neither_out = refl
