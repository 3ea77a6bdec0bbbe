use Rattle.std.proofs.Common.{◌≡◌, refl, sym, subst, ℕ, Bool, List, Result, Ok, Err}
use Rattle.std.specs.Prelude.{IfOk, MatchResult}
use Rattle.wl_device.specs.Devices.{Answer}
use Rattle.wl_engines.specs.Named.{IsNodeTrace}
use Rattle.wl_engines.specs.Output.{OutputsWith, WritesAnswer}
use Rattle.wl_engines.specs.declared.fault.RunFault.{RunFault}
use Rattle.wl_engines.specs.declared.fault.RunFault.TheVariants.{Memory}
use Rattle.wl_engines.specs.declared.named.NodeTrace.{NodeTrace}
use Rattle.wl_engines.proofs.OutputLemmas.{outputs_with, runs_plan_with}
use Rattle.wl_engines.proofs.named.node_trace_run.Goals as goal

-- a trace that was made went out with its answer, or memory ran out
outputs_trace : {T E : Type 0} (takes : T → Answer → T → Type 0) (t t' : T) (IsText : List ℕ → Bool → Type 0) (made : Result NodeTrace E) (r : Result Bool RunFault)
    → MatchResult made (λ m. WritesAnswer takes m.text.items m.found t t' r) (λ e. (r ≡ Err Memory) × (t' ≡ t))
    → IfOk made (λ m. IsText m.text.items m.found) → OutputsWith takes IsText t t' r
outputs_trace takes t t' IsText (Ok m) r wrote is = outputs_with takes t t' IsText m.text.items m.text.items m.found refl is r wrote
outputs_trace takes t t' IsText (Err e) r none is = subst (λ (r : Result Bool RunFault). OutputsWith takes IsText t t' r) (sym none.0) none.1

pub returns-in-Ok : goal.returns-in-Ok
returns-in-Ok g c =
    runs_plan_with g.R.Source.gives g.W.Sink.takes c.args.reader.now c.read_checked.new.reader c.args.writer.now c.write_trace.new.writer
    (IsNodeTrace c.args.pick c.args.name.now) c.in-Ok.plan c.in-Ok.names (c.in-Ok.ensures.answer (λ e. cc)) c.write_trace.result
    (outputs_trace g.W.Sink.takes c.args.writer.now c.write_trace.new.writer (IsNodeTrace c.args.pick c.args.name.now c.in-Ok.plan c.in-Ok.names)
    c.node_trace.result c.write_trace.result c.write_trace.ensures c.node_trace.ensures)
