-- What lasts from a tick on.
use Rattle.std.proofs.Common.{◌≡◌, ◌∙◌, refl, sym, subst, ℕ, ◌<◌, ◌≤◌, Bool, false}
use Rattle.wl_pulse.specs.declared.pulse.Pulse.{Pulse}
use Rattle.wl_pulse.specs.Pulses.{IsPulse}
use Rattle.wl_views.specs.PlaceLine.{Lasts}

-- what is known from this tick on
pub known_from : (f : ℕ → Bool) (t : ℕ) (held : Pulse) → held.from ≡ t → t < held.until → IsPulse f held → Lasts f t held
known_from f t held is later same = record { later = later; same = λ u from below. same u (subst (λ (s : ℕ). s ≤ u) (sym is) from) below }

-- values that are always the same
pub holds_as : (f g : ℕ → Bool) (t : ℕ) (held : Pulse) → ((u : ℕ) → f u ≡ g u) → Lasts f t held → Lasts g t held
holds_as f g t held same h = record { later = h.later; same = λ u from below. sym (same u) ∙ h.same u from below }

pub never : (t until : ℕ) → t < until → Lasts (λ u. false) t (record { from = t; until = until; dominant = false })
never t until h = record { later = h; same = λ u from below. refl }
