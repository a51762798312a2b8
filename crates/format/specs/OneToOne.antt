-- "Where two answers could both satisfy it they are proved equal" (document 01): a contract that says `f r ≡ …` settles r where f is
-- one-to-one. Each crate proves it of its own maps in specs/OneToOne.antt, by a way back.
-- Assumes nothing.
use Rattle.std.specs.Prelude.{◌≡◌}
use Rattle.std.proofs.Common.{ap, sym, ◌∙◌}

abbrev pub OneToOne : {A B : Type 0} → (A → B) → Type 0
OneToOne {A} {B} f = (a b : A) → f a ≡ f b → a ≡ b

-- Two maps with the same way back: what they make equal is equal. So where a map goes by a value beside the answer, as what a lent buffer
-- holds, the answer is settled whatever that value is.
pub by_way_back : {A B : Type 0} (f g : A → B) (back : B → A) →
    ((a : A) → back (f a) ≡ a) → ((a : A) → back (g a) ≡ a) → (a b : A) → f a ≡ g b → a ≡ b
by_way_back f g back there here a b e = sym (there a) ∙ ap back e ∙ here b

pub one_back : {A B : Type 0} (f : A → B) (back : B → A) → ((a : A) → back (f a) ≡ a) → OneToOne f
one_back f back there = by_way_back f f back there there
