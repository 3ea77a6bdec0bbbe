use Rattle.std.proofs.Common.{◌≡◌, ◌+◌, ◌∙◌, true, false, suc, refl, sym, ap, arith}
use Rattle.wl_clock.specs.Timing.{tick_of}
use Rattle.wl_node.specs.declared.setup.NodeSetup.{NodeSetup}
use Rattle.wl_record_core.specs.Limits.{most_edges-is}
use Rattle.wl_plan.specs.Limits.{most_quanta-is}
use Rattle.wl_group.proofs.CellProofs.{has_gone}
use Rattle.wl_group.proofs.cell.Cell.go.Goals as goal

pub run_some-requires-clause-short : goal.run_some-requires-clause-short
run_some-requires-clause-short c = omega (arith, c.requires.quanta, most_quanta-is)

pub overflow_add-quanta : goal.overflow_add-quanta
overflow_add-quanta c = omega (arith, c.requires.quanta, c.quanta-quanta.ensures.value, c.in_ok-ran.ensures.few, most_quanta-is)

pub at-self-requires : goal.at-self-requires
at-self-requires c = omega (arith, c.requires.quanta, c.quanta-quanta.ensures.value, c.in_ok-ran.ensures.few, most_quanta-is)

pub overflow_add-self : goal.overflow_add-self
overflow_add-self c = omega (arith, c.requires.changed, most_edges-is)

pub returns-then-is-clause-gone : goal.returns-then-is-clause-gone
returns-then-is-clause-gone c =
    has_gone c.args.level c.drive-before.result c.drive.result true c.in_ok-ran.ran c.quanta-quanta.result c.args.self.now
    (record { node = c.run_some.new.node; changed = c.args.self.now.changed; next = c.at-self.result; ways = c.args.self.now.ways }) (record {
      gone = c.in_ok-ran.ensures.gone;
      some = c.in_ok-ran.ensures.some;
      quanta_is = c.quanta-quanta.ensures.value;
      before_is = c.drive-before.ensures;
      after_is = c.drive.ensures;
      is = sym c.is.ensures ∙ c.if-is.true;
      changed = refl;
      ways = refl;
      next = c.at-self.ensures.tick ∙ ap (λ (s : NodeSetup). tick_of s.clock (c.quanta-quanta.result + c.in_ok-ran.ran)) c.setup.ensures;
    }) c.args.most false c.in_ok-ran.ensures.few refl

pub returns-clause-gone : goal.returns-clause-gone
returns-clause-gone c =
    let more : c.args.self.now.changed + 1 ≡ suc c.args.self.now.changed = omega arith in
    has_gone c.args.level c.drive-before.result c.drive.result false c.in_ok-ran.ran c.quanta-quanta.result c.args.self.now
    (record { node = c.run_some.new.node; changed = c.args.self.now.changed + 1; next = c.at-self.result; ways = c.args.self.now.ways }) (record {
      gone = c.in_ok-ran.ensures.gone;
      some = c.in_ok-ran.ensures.some;
      quanta_is = c.quanta-quanta.ensures.value;
      before_is = c.drive-before.ensures;
      after_is = c.drive.ensures;
      is = sym c.is.ensures ∙ c.if-is.false;
      changed = more;
      ways = refl;
      next = c.at-self.ensures.tick ∙ ap (λ (s : NodeSetup). tick_of s.clock (c.quanta-quanta.result + c.in_ok-ran.ran)) c.setup.ensures;
    }) c.args.most true c.in_ok-ran.ensures.few refl
