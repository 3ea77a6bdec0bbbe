-- Words that are said in another form.
use Rattle.std.proofs.Common.{◌≡◌, ℕ, ◌-◌, ◌<◌, List, ◌++◌, Result, Ok, Err, OnOk, true, cond, refl, subst}
use Rattle.std.specs.Result.{is_ok}
use Rattle.std.proofs.lemmas.Bool.{lt-leb}
use Rattle.wl_bound.specs.declared.condition.Sides.{Sides}
use Rattle.wl_margin.specs.Sentences.{Measure, picoseconds_around, quanta_around, signed_words, spare_words}

pub said : {T E : Type 0} (r : Result T E) (old new : List ℕ) {p q : List ℕ} → p ≡ q → OnOk r (new ≡ old ++ p) → OnOk r (new ≡ old ++ q)
said r old new e h = subst (λ words. OnOk r (new ≡ old ++ words)) e h

-- what was pushed is there, if it could be
pub pushed : {T E : Type 0} (r : Result T E) (old new p : List ℕ) → new ≡ cond (is_ok r) (old ++ p) old → OnOk r (new ≡ old ++ p)
pushed (Ok x) old new p e = e
pushed (Err x) old new p e = tt

pub same_four : (f : List ℕ → List ℕ → List ℕ → List ℕ → List ℕ) {a a' b b' x x' y y' : List ℕ} → a ≡ a' → b ≡ b' → x ≡ x' → y ≡ y' → f a b x y ≡ f a' b' x' y'
same_four f e g h k = rw (e, g, h, k) refl

-- more is taken than there is
pub below_words : (m : Measure) (sides : Sides) → sides.right < sides.left
    → signed_words true (picoseconds_around m (sides.left - sides.right)) (quanta_around m (sides.left - sides.right)) ≡ spare_words m sides
below_words m sides more = let none = lt-leb sides.left sides.right more in rw none refl
