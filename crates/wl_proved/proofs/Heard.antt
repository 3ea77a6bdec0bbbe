-- What a node shows that only listens, if it hears all frames that get through among the others.
use Rattle.std.proofs.Common.{◌≡◌, ◌∙◌, refl, sym, ap, subst, ℕ, zero, suc, ◌<◌, List, [], ◌∷◌, ◌++◌, length, map, arith}
use Rattle.std.proofs.lemmas.List.{map-append}
use Rattle.wl_frame.specs.Grammar.{Content}
use Rattle.wl_node.specs.History.{counters_of, error_count, history_of}
use Rattle.wl_plan.specs.declared.plan.Plan.{Plan}
use Rattle.wl_plan.specs.PlanLine.{line_of, setup_at}
use Rattle.wl_plan.specs.Simulation.{ran}
use Rattle.wl_plan.specs.SimulationLaws.{SimulationLaws}
use Rattle.wl_plan.specs.Sound.{IsCausal}
use Rattle.wl_report.specs.Verdict.{CleanIsClean}
use Rattle.wl_serial.specs.Outcome.{history_at_end, node_outcome_of}
use Rattle.wl_buses.specs.OneFrame.Stations.{Stations}
use Rattle.wl_buses.specs.CleanPlans.Clean.{AllGetThrough, plan_history}
use Rattle.wl_buses.specs.NextFrames.Frames.{Frame}
use Rattle.wl_buses.specs.OneListener.Frames.{received_with}
use Rattle.wl_buses.specs.OneListener.Muted.{muted}
use Rattle.wl_listeners.specs.Heard.{HearsAll}
use Rattle.wl_proved.specs.Beside.{HearsCleanRun, IsCleanListener, received_of}
use Rattle.wl_proved.specs.CleanRuns.{as_passing}
use Rattle.wl_proved.proofs.Any as any
use Rattle.wl_proved.proofs.Ends.{node_clean}
use Rattle.wl_proved.proofs.Frames.{first_frames, later_frames}
use Rattle.wl_proved.proofs.Listening.{node_there}

-- what it has received, without the quanta
receiving : (s : Stations) (frames : ℕ → Frame) (winner : ℕ → ℕ) (content : ℕ → Content) (n : ℕ) → map as_passing (received_with s frames content n) ≡ map received_of (first_frames winner content n)
receiving s frames winner content zero = refl
receiving s frames winner content (suc n) =
    map-append as_passing (received_with s frames content n) _ ∙ ap (λ l. l ++ received_of (winner n, content n) ∷ []) (receiving s frames winner content n)
    ∙ sym (map-append received_of (first_frames winner content n) ((winner n, content n) ∷ []))

module _ (laws : SimulationLaws) (verdicts : CleanIsClean) (plan other : Plan) (i : ℕ) (s : Stations) (chase : ℕ → ℕ) (count : s.count ≡ length other.nodes) (inside : i < length plan.nodes) (causal : IsCausal (line_of plan))
    (alone : IsCausal (line_of other)) (all : AllGetThrough other s) (hears : HearsAll plan other i s chase all) where
  abbrev bus : List (ℕ × Content)
  bus = any.bus_frames other s all

  abbrev quanta : ℕ
  quanta = ran (line_of plan) i plan.end

  at_end : history_at_end plan i ≡ plan_history plan i quanta
  at_end = ap (history_of (setup_at plan i)) (laws.history_seen (line_of plan) i plan.end causal inside)

  own : IsCleanListener bus (node_outcome_of plan i)
  own =
      let run = laws.ran_inside (line_of plan) i plan.end causal inside in
      let r = hears.received quanta run in
      let more = later_frames all.bus.by.winner all.bus.by.content all.bus.count r.0 r.1 in
      record {
        errors = ap error_count at_end ∙ hears.fine quanta run;
        counters = ap counters_of at_end ∙ hears.counters quanta run;
        received = (
          map received_of more.0,
          ap (λ h. map as_passing h.frames ++ map received_of more.0) at_end ∙ ap (λ l. map as_passing l ++ map received_of more.0) r.2
              ∙ ap (λ l. l ++ map received_of more.0) (receiving (muted s hears.far) hears.joins.joined all.bus.by.winner all.bus.by.content r.0)
              ∙ sym (map-append received_of (first_frames all.bus.by.winner all.bus.by.content r.0) more.0) ∙ ap (map received_of) more.1,
        );
      }

  pub hears_clean : HearsCleanRun other plan i
  hears_clean = record {
    bus = bus;
    order = any.in_order other s all;
    nodes = node_clean laws verdicts other alone bus (λ k n there. any.clean_at other s all k n (omega arith));
    listener = λ node is. subst (IsCleanListener bus) (node_there plan i node is) own;
  }
