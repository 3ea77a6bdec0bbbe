-- A line that is told of a change.
use Rattle.std.proofs.Common.{◌≡◌, ℕ, zero, suc, ◌+◌, ◌<◌, ◌≤◌, List, [], ◌∷◌, ◌++◌, length, get_or, sym, subst, arith}
use Rattle.std.proofs.Math.ListN.{set}
use Rattle.wl_topology.specs.Delays.{delay_of}
use Rattle.wl_record_core.specs.TableLaws.{TableLaws}
use Rattle.wl_plan.specs.declared.plan.Plan.{Plan}
use Rattle.wl_plan.specs.PlanLine.{disturbed}
use Rattle.wl_serial.specs.declared.line_at.LineAt.{LineAt}
use Rattle.wl_serial.specs.declared.running_node.Running.{Running}
use Rattle.wl_pulse.specs.Pulses.{IsPulse}
use Rattle.wl_serial.specs.LineAt.{AreDelays, AreOthers, AreSooner, IsLineAt, IsHeard, HasChanged}
use Rattle.wl_serial.proofs.Hearing.{heard_before}
use Rattle.wl_serial.proofs.Kept.{kept_sooner}

sooner_by : (plan : Plan) (m i tick : ℕ) (old e : LineAt) → i < length plan.nodes → IsLineAt plan m old → AreSooner i (tick + get_or old.delays i 0) old.sources e.sources
    → AreSooner i (tick + delay_of plan.topology i m) old.sources e.sources
sooner_by plan m i tick old e node was sooner = subst (λ n. AreSooner i (tick + n) old.sources e.sources) (was.delays.1 i 0 node) sooner

pub line_told : (plan : Plan) (m i tick : ℕ) (old e : LineAt) → i < length plan.nodes → IsLineAt plan m old → e.delays ≡ old.delays → e.others ≡ old.others → e.disturbance ≡ old.disturbance
    → AreSooner i (tick + get_or old.delays i 0) old.sources e.sources → IsLineAt plan m e
line_told plan m i tick old e node was delays others disturbance sooner = record {
  delays = subst (AreDelays plan m) (sym delays) was.delays;
  others = subst (AreOthers plan m) (sym others) was.others;
  sources = kept_sooner (length plan.nodes) i (tick + delay_of plan.topology i m) old.sources e.sources node (sooner_by plan m i tick old e node was sooner) was.sources;
  ahead = sooner.ahead was.ahead;
  disturbance = subst (IsPulse (disturbed plan m)) (sym disturbance) was.disturbance;
}

pub heard_told : (plan : Plan) (rs : List Running) (m i tick : ℕ) (r : Running) (old e : LineAt) → TableLaws → i < length plan.nodes → i < length rs → HasChanged i tick rs r → IsLineAt plan m old
    → IsHeard plan rs m old → e.heard.from ≡ old.heard.from → e.heard.until ≤ old.heard.until → e.heard.until ≤ tick + get_or old.delays i 0 → e.heard.dominant ≡ old.heard.dominant
    → e.disturbance ≡ old.disturbance → AreSooner i (tick + get_or old.delays i 0) old.sources e.sources → IsHeard plan (set rs i r) m e
heard_told plan rs m i tick r old e table node inside changed was heard from few comes dominant disturbance sooner =
    let d : get_or old.delays i 0 ≡ delay_of plan.topology i m = was.delays.1 i 0 node in
    heard_before plan rs i tick m r old e table inside changed heard from few (omega (arith, d, comes)) dominant disturbance (sooner_by plan m i tick old e node was sooner)

-- what holds of each line holds with one more
pub each_more : (P : ℕ → LineAt → Type 0) (xs ys : List LineAt) (x : LineAt) (j : ℕ) → ys ≡ xs ++ x ∷ [] → length xs ≡ j → ((k : ℕ) (d : LineAt) → k < length xs → P k (get_or xs k d)) → P j x
    → (k : ℕ) (d : LineAt) → k < length ys → P k (get_or ys k d)
each_more P xs ys x j is here each one k d b =
    subst (λ zs. P k (get_or zs k d)) (sym is) (go P xs each (subst (λ n. P n x) (sym here) one) k (subst (λ zs. k < length zs) is b))
  where
    go : (Q : ℕ → LineAt → Type 0) (zs : List LineAt) → ((m : ℕ) (f : LineAt) → m < length zs → Q m (get_or zs m f)) → Q (length zs) x → (n : ℕ) → n < length (zs ++ x ∷ []) → Q n (get_or (zs ++ x ∷ []) n d)
    go Q [] all last zero c = last
    go Q [] all last (suc n) c = absurd (omega (arith, c))
    go Q (z ∷ zs) all last zero c = all zero d (omega arith)
    go Q (z ∷ zs) all last (suc n) c = go (λ m. Q (suc m)) zs (λ m f h. all (suc m) f (omega (arith, h))) last n (omega (arith, c))
