-- A machine that may begin a frame joins no start of frame: its intermission is over.
use Rattle.std.proofs.Common.{◌≡◌, ◌∙◌, inl, inr, refl, sym, ap, ℕ, ◌||◌, Bool, true, false, List}
use Rattle.wl_frame.specs.Grammar.{Content}
use Rattle.wl_machine.specs.Stretch.{Sampled, Stretch}
use Rattle.wl_machine.specs.Stretch.Sort.{Idle, Intermission}
use Rattle.wl_buses.specs.OneFrame.Machines.{HasTwoBits, MayBegin, joins_by}

not_intermission : (x : Stretch) → x.sort ≡ Idle → HasTwoBits x → ⊥
not_intermission x idle two = (let e : Idle ≡ Intermission two.0 = sym idle ∙ ap (λ y. y.sort) two.1 in cc)

pub over_by : (frames : ℕ → List Content) (k : ℕ) (x : Stretch) → MayBegin frames k x → HasTwoBits x → ⊥
over_by frames k x (inl idle) two = not_intermission x idle two
over_by frames k x (inr due) two = (let e = ap (λ y. y.own) (sym due.2 ∙ two.1) in cc)

pub joins_none : (frames : ℕ → List Content) (k : ℕ) (x : Stretch) (z : Sampled) → MayBegin frames k x → joins_by x.sort z ≡ false
joins_none frames k x z (inl idle) = ap (λ q. joins_by q z) idle
joins_none frames k x z (inr due) = ap (λ y. joins_by y.sort z) due.2

-- so it has sent the start of frame only if it drives that
pub own_start : (a b : Bool) → b ≡ false → (a || b) ≡ true → a ≡ true
own_start true b e f = refl
own_start false b e f = cc
