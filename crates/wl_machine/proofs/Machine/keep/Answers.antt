use Rattle.std.proofs.Common.{◌∙◌, sym, ap, subst}
use Rattle.std.proofs.Math.Logic.{∥∥₁_map}
use Rattle.wl_machine.specs.Judged.{stretch_of, drive_of}
use Rattle.wl_machine.specs.States.{IsIn}
use Rattle.wl_machine.proofs.Keeping.{keeps_kept, kept_next, only_kept, reached_on}
use Rattle.wl_machine.proofs.Machine.keep.Goals as goal

pub keep-requires : goal.keep-requires
keep-requires c = ∥∥₁_map c.args.self.now.reached (λ (past, h). (stretch_of past, h))

pub invariant_of-self : goal.invariant_of-self
invariant_of-self c = record {
  reached = reached_on c.args.self.now.progress c.keep.new.self c.args.sample c.keep.result c.keep.ensures.value c.keep.ensures.same c.keep.ensures.next c.args.self.now.reached;
}

pub returns-clause-value : goal.returns-clause-value
returns-clause-value c past h = c.keep.ensures.value ∙ keeps_kept c.args.self.now.progress (stretch_of past) c.args.sample h

pub returns-clause-stays : goal.returns-clause-stays
returns-clause-stays c e past h = subst (λ m. IsIn m (stretch_of past)) (sym (c.keep.ensures.same e)) h

pub returns-clause-machine : goal.returns-clause-machine
returns-clause-machine c e past h head mode =
    subst (IsIn c.keep.new.self) (sym (kept_next past c.args.sample head mode (only_kept c.args.self.now.progress (stretch_of past) c.args.sample h (sym c.keep.ensures.value ∙ e))))
    (c.keep.ensures.next e (stretch_of past) h)

pub returns-clause-judged : goal.returns-clause-judged
returns-clause-judged c e past h head mode = (only_kept c.args.self.now.progress (stretch_of past) c.args.sample h (sym c.keep.ensures.value ∙ e)).judged head mode

pub returns-clause-before : goal.returns-clause-before
returns-clause-before c e past h = (only_kept c.args.self.now.progress (stretch_of past) c.args.sample h (sym c.keep.ensures.value ∙ e)).before

pub returns-clause-after : goal.returns-clause-after
returns-clause-after c e past h head mode =
    let k = only_kept c.args.self.now.progress (stretch_of past) c.args.sample h (sym c.keep.ensures.value ∙ e) in
    ap drive_of (kept_next past c.args.sample head mode k) ∙ k.after
