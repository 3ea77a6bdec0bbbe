use Rattle.std.proofs.Common.{◌≡◌, ◌∙◌, ℕ, ◌+◌, inl, inr, List, get_or, ap, arith}
use Rattle.std.proofs.lemmas.Bool.{cases_lt}
use Rattle.std.proofs.lemmas.List.{get_or_default}
use Rattle.wl_plan.specs.declared.plan.Plan.{Plan}
use Rattle.wl_views.specs.declared.probe.Probe.{Probe}
use Rattle.wl_views.specs.Calendar.{date_at}
use Rattle.wl_views.proofs.signals.calendar_of.Goals as goal

pub loop-i-preserved : goal.loop-i-preserved
loop-i-preserved c =
    let i : ℕ = c.loop-i.i in
    let inv = c.loop-i.invariant in
    let all : List Probe = c.args.probes.now in
    let count = inv.nodes in
    let same = c.put.ensures.nodes in
    let ends : c.deref.result.now.end ≡ c.args.plan.now.end = ap (λ (p : Plan). p.end) c.deref.ensures.0 in
    record {
      nodes = same ∙ count;
      each = λ k d below.
          let moved : date_at c.put.new.self.tree (c.put.new.self.nodes + k) ≡ date_at c.put.new.self.tree (c.loop-i.calendar.nodes + k) =
          ap (λ (n : ℕ). date_at c.put.new.self.tree (n + k)) same
          in
          elim (cases_lt k i) [
            | inl low ↦ (let e = c.put.ensures.others k (omega arith) (omega arith) in let f = inv.each k d low in omega arith)
            | inr high ↦
                (let this : k ≡ i = omega arith in
                let read : get_or all i c.index-probes-i.result ≡ get_or all i d = get_or_default all i c.index-probes-i.result d (omega arith) in
                let e = ap (λ (w : Probe). w.until) read in
                let f = ap (λ (m : ℕ). (get_or all m d).until) this in
                let g = ap (λ (m : ℕ). date_at c.put.new.self.tree (c.loop-i.calendar.nodes + m)) this in
                omega (arith, c.put.ensures.here, c.min.ensures))
          ];
    }

pub returns : goal.returns
returns c = record {
  nodes = c.loop-i.invariant.nodes;
  each = λ k d b. c.loop-i.invariant.each k d (omega arith);
}
