-- Up to where the line changes quanta see the same, and the first of them neither sample nor begin a bit.
use Rattle.std.proofs.Common.{◌≡◌, ◌∙◌, ap, sym, subst, arith, inl, inr, ℕ, ◌+◌, ◌<◌, ◌≤◌, List, ◌++◌, replicate}
use Rattle.std.specs.Prelude.{min}
use Rattle.std.proofs.lemmas.Bool.{cases_lt}
use Rattle.wl_level.specs.declared.Level.{Level}
use Rattle.wl_level.specs.Levels.{level_of}
use Rattle.wl_clock.specs.Timing.{tick_of}
use Rattle.wl_node.specs.declared.setup.NodeSetup.{NodeSetup}
use Rattle.wl_plan.specs.declared.plan.Plan.{Plan}
use Rattle.wl_plan.specs.PlanLine.{line_of, setup_at}
use Rattle.wl_plan.specs.Simulation.{AreInside, seen}
use Rattle.wl_trace.specs.Rerun.{IsRerun}
use Rattle.wl_trace.specs.Snapshot.{snapshot_of}
use Rattle.wl_pulse.specs.declared.pulse.Pulse.{Pulse}
use Rattle.wl_views.specs.Probe.{next_of}
use Rattle.wl_views.proofs.Going.{all_inside, few_inside, in_time, next_on, same_seen, setup_is, shown_stays, shown_upto}
use Rattle.wl_views.proofs.probe.Probe.pass.Goals as goal

-- those that are passed begin before the end
pub next_tick-self-requires : goal.next_tick-self-requires
next_tick-self-requires c =
    let plan : Plan = c.args.plan.now in
    let i : ℕ = c.args.i in
    let k : ℕ = c.args.self.now.quanta in
    let n : ℕ = c.pass.result in
    let b = c.requires.node in
    let h = c.requires.seen in
    let setup = c.index-as_slice-i.is ∙ setup_is plan c.as_slice.result.now i c.index-as_slice-i.result (c.as_slice.ensures ∙ ap (λ (p : Plan). p.nodes) c.deref.ensures.0) b in
    let ends : c.deref-2.result.now.end ≡ plan.end = ap (λ (p : Plan). p.end) c.deref-2.ensures.0 in
    let few : n ≤ c.saturating_sub-most.result = c.pass.ensures.few in
    let inside : AreInside (line_of plan) i (k + n) =
    λ q below. elim (cases_lt q k) [
      | inl low ↦ h.runs.inside q low
      | inr high ↦
          (let less : q < c.args.self.now.limit = omega (arith, c.saturating_sub-most.ensures, few) in
          let early = c.requires.limit q less in
          omega arith)
    ] in
    few_inside c.simulation_laws.ensures plan c.laws.ensures.sound i b (k + n) inside

pub returns : goal.returns
returns c =
    let plan : Plan = c.args.plan.now in
    let i : ℕ = c.args.i in
    let k : ℕ = c.args.self.now.quanta in
    let t : ℕ = c.args.t in
    let n : ℕ = c.pass.result in
    let b = c.requires.node in
    let h = c.requires.seen in
    let held : Pulse = c.found-line.result in
    let line = c.found-line.ensures.holds plan i t c.requires.hears in
    let whole = c.found-line.ensures.until in
    let laws = c.simulation_laws.ensures in
    let sound = c.laws.ensures.sound in
    let setup = c.index-as_slice-i.is ∙ setup_is plan c.as_slice.result.now i c.index-as_slice-i.result (c.as_slice.ensures ∙ ap (λ (p : Plan). p.nodes) c.deref.ensures.0) b in
    let ends : c.deref-2.result.now.end ≡ plan.end = ap (λ (p : Plan). p.end) c.deref-2.ensures.0 in
    let few : n ≤ c.saturating_sub-most.result = c.pass.ensures.few in
    let long = laws.length_seen (line_of plan) i k in
    let node : IsRerun c.index-as_slice-i.result (seen (line_of plan) i k) c.args.self.now.node =
    subst (λ (s : NodeSetup). IsRerun s (seen (line_of plan) i k) c.args.self.now.node) (sym setup) h.runs.node
    in
    let during : (q : ℕ) → k ≤ q → q < k + n → (tick_of (setup_at plan i).clock q < held.until) × (tick_of (setup_at plan i).clock q < plan.end) =
    λ q from below.
    (let less : q < c.args.self.now.limit = omega (arith, c.saturating_sub-most.ensures, few) in
    let early = c.requires.limit q less in
    (omega arith, omega arith))
    in
    let same : (m : ℕ) → m ≤ n
    → snapshot_of (setup_at plan i) (seen (line_of plan) i k ++ replicate m c.level_of-level.result) ≡ snapshot_of (setup_at plan i) (seen (line_of plan) i k) =
    λ m less. subst (λ (s : NodeSetup). snapshot_of s (seen (line_of plan) i k ++ replicate m c.level_of-level.result) ≡ snapshot_of s (seen (line_of plan) i k)) setup
    (c.pass.ensures.same (seen (line_of plan) i k) long node m less)
    in
    let plain : (m : ℕ) → m ≤ n → snapshot_of (setup_at plan i) (seen (line_of plan) i k ++ replicate m (level_of held.dominant)) ≡ snapshot_of (setup_at plan i) (seen (line_of plan) i k) =
    λ m less. ap (λ (l : Level). snapshot_of (setup_at plan i) (seen (line_of plan) i k ++ replicate m l)) (sym c.level_of-level.ensures) ∙ same m less
    in
    let timely = in_time laws plan sound i b t held line k n h.runs.inside h.before h.later during plain in
    let next : c.next_tick-self.result ≡ next_of (setup_at plan i).clock plan.end (k + n) = c.next_tick-self.ensures
    ∙ ap (λ (s : NodeSetup). next_of s.clock c.deref-2.result.now.end (k + n)) setup ∙ ap (λ (p : Plan). next_of (setup_at plan i).clock p.end (k + n)) c.deref-2.ensures.0 in
    let snapshot : c.args.self.now.snapshot ≡ snapshot_of (setup_at plan i) (seen (line_of plan) i (k + n)) =
    h.runs.snapshot ∙ sym (shown_upto laws plan sound i b t held line k n h.runs.inside h.before h.later during plain n (omega arith)) in
    record {
      runs = record {
        node =
            subst (λ (ls : List Level). IsRerun (setup_at plan i) ls c.pass.new.self)
            (ap (λ (l : Level). seen (line_of plan) i k ++ replicate n l) c.level_of-level.ensures
            ∙ sym (same_seen laws plan sound i b t held line k n timely))
            (subst (λ (s : NodeSetup). IsRerun s (seen (line_of plan) i k ++ replicate n c.level_of-level.result) c.pass.new.self) setup (c.pass.ensures.run (seen (line_of plan) i k) long node));
        snapshot = snapshot;
        inside = all_inside laws plan sound i b t held line k n h.runs.inside h.before h.later during plain;
      };
      hears = record { cable = c.requires.hears.cable; disturbance = c.requires.hears.disturbance; sources = c.requires.hears.sources };
      limit = c.requires.limit;
      next = next;
      before = λ q below. elim (cases_lt q k) [
        | inl low ↦ (let m = h.before q low in let l = line.later in omega arith)
        | inr high ↦ (let m = (during q high below).0 in omega arith)
      ];
      later = (let m = next_on laws plan sound i b k n t c.requires.early h.later in omega arith);
      until = c.min-self.ensures ∙ ap (λ (n : ℕ). min n c.next_tick-self.result) whole;
      same = λ u from below.
          shown_stays laws plan sound i b t held line k n h.runs.inside h.before h.later during plain u from (omega (arith, c.min-self.ensures)) ∙ sym snapshot;
    }
