-- Up to that tick the node changes its drive no more.
use Rattle.std.proofs.Common.{◌≡◌, inl, inr, ap, refl, arith}
use Rattle.std.proofs.lemmas.Bool.{cases_lt}
use Rattle.wl_record_core.specs.Truth.{count_below}
use Rattle.wl_plan.specs.PlanLine.{line_of, table_of}
use Rattle.wl_serial.proofs.Steps.{told_alike}
use Rattle.wl_serial.proofs.running_node.Running.lift.Goals as goal

pub returns-clause-running : goal.returns-clause-running
returns-clause-running c =
    let run = c.requires.running.1 in
    let max = c.max-self.ensures in
    let next = ap (λ t. count_below t (table_of c.args.plan.now c.args.i)) run.runs.at.next in
    let known = run.known in
    let promised = run.promised in (
      c.requires.running.0,
      record {
        runs = told_alike c.args.plan.now (line_of c.args.plan.now) c.args.i c.requires.running.0 c.args.self.now _ refl refl refl run.runs;
        promised = omega (arith, promised, max);
        known = elim (cases_lt c.args.self.now.known c.args.until) [
          | inl more ↦
              (let e : c.max-self.result ≡ c.args.until = omega (arith, max, more) in
              let f = ap (λ t. count_below t (table_of c.args.plan.now c.args.i)) e in
              omega (arith, f, next, c.requires.stays))
          | inr less ↦
              (let e : c.max-self.result ≡ c.args.self.now.known = omega (arith, max, less) in
              let f = ap (λ t. count_below t (table_of c.args.plan.now c.args.i)) e in
              omega (arith, f, known))
        ];
      },
    )
