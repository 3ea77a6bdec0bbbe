-- Two cables are the same exactly where they are equal.
use Rattle.std.proofs.Common.{◌≡◌, ◌==◌, ◌&&◌, ap, refl}
use Rattle.std.specs.Bool.{Decides, beq}
use Rattle.std.specs.Cmp.{unsigned_Decides, booleans_Decides}
use Rattle.std.proofs.lemmas.Bool.{eqb-true, eq-eqb, and_parts, and_from}
use Rattle.std.proofs.lemmas.Bool.Decides.{Decides-and, Decides-like}
use Rattle.std.proofs.lemmas.Slice.Eq.{slice_eq-Decides}
use Rattle.wl_topology.specs.declared.Place.{Place}
use Rattle.wl_topology.specs.Delays.{Cable}
use Rattle.wl_topology.specs.Same.{same_place, same_cable}

same_place-Decides : (a b : Place) → Decides (same_place a b) (a ≡ b)
same_place-Decides a b =
    Decides-like (same_place a b)
    (λ e i. record { x = e.0 i; out_delay = e.1.0 i; in_delay = e.1.1.0 i; listens = e.1.1.1 i })
    (λ e. (λ i. (e i).x, (λ i. (e i).out_delay, (λ i. (e i).in_delay, λ i. (e i).listens))))
    (Decides-and (a.x == b.x) (a.out_delay == b.out_delay && (a.in_delay == b.in_delay && beq a.listens b.listens)) (unsigned_Decides a.x b.x)
    (Decides-and (a.out_delay == b.out_delay) (a.in_delay == b.in_delay && beq a.listens b.listens) (unsigned_Decides a.out_delay b.out_delay)
    (Decides-and (a.in_delay == b.in_delay) (beq a.listens b.listens) (unsigned_Decides a.in_delay b.in_delay) (booleans_Decides a.listens b.listens))))

pub same_cable-Decides : (a b : Cable) → Decides (same_cable a b) (a ≡ b)
same_cable-Decides a b = (
  (λ h.
      let parts = and_parts _ _ h in
      let places : a.places ≡ b.places = (slice_eq-Decides same_place-Decides a.places b.places _ refl).0 parts.0 in
      λ i. record { places = places i; per = eqb-true a.per b.per parts.1 i }),
  (λ e. and_from _ _ ((slice_eq-Decides same_place-Decides a.places b.places _ refl).1 (ap (λ c. c.places) e)) (eq-eqb _ _ (ap (λ c. c.per) e))),
)
