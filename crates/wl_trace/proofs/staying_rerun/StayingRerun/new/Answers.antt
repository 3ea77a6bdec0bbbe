use Rattle.std.proofs.Common.{◌∙◌, refl, sym, ap, subst, arith, ℕ, false, List, [], length}
use Rattle.wl_sync.specs.Running.{clock_after}
use Rattle.wl_node.specs.declared.setup.NodeSetup.{NodeSetup}
use Rattle.wl_node.specs.History.{History, no_history}
use Rattle.wl_level.specs.declared.Level.TheVariants.{Recessive}
use Rattle.wl_trace.specs.declared.staying_rerun.StayingRerun.{StayingRerun}
use Rattle.wl_trace.specs.StayingRerun.{RunsTo}
use Rattle.wl_trace.specs.Starts.{staying_starts}
use Rattle.wl_trace.proofs.Starting.{history_first, starts_first}
use Rattle.wl_trace.proofs.staying_rerun.StayingRerun.new.Goals as goal

pub returns : goal.returns
returns c =
    let setup : NodeSetup = c.args.setup.now in
    let kept : StayingRerun = record { clock = c.new.result; sampled_node = c.in_ok-new.field-0; drive = Recessive; bits = 0; sampled = false; started = false } in
    record {
      clock = c.new.ensures ∙ ap (λ (h : History). clock_after setup.segments h.seen) (sym (history_first setup));
      run =
          subst (λ (h : History). RunsTo setup kept h (length (staying_starts setup []))) (sym (history_first setup))
          (subst (λ (qs : List ℕ). RunsTo setup kept no_history (length qs)) (sym (starts_first setup))
          (record { sampled_node = c.in_ok-new.ensures; drive = refl; bits = refl; sampled = refl; started = refl }));
      fewer = omega arith;
    }
