-- Some quanta more, while the line stays.
use Rattle.std.proofs.Common.{Option, ◌≡◌, ◌∙◌, ◌+◌, ◌-◌, ◌<◌, ◌≤◌, ◌++◌, ap, sym, subst, arith, ℕ, Bool, List, length, replicate}
use Rattle.wl_level.specs.declared.Level.{Level}
use Rattle.wl_clock.specs.Timing.{tick_of}
use Rattle.wl_node.specs.declared.setup.NodeSetup.{NodeSetup}
use Rattle.wl_plan.specs.declared.plan.Plan.{Plan}
use Rattle.wl_plan.specs.PlanLine.{line_of, setup_at}
use Rattle.wl_plan.specs.Simulation.{seen}
use Rattle.wl_plan.specs.SimulationLaws.{SimulationLaws}
use Rattle.wl_plan.specs.Sound.{IsSound}
use Rattle.wl_trace.specs.declared.rerun.Rerun.{Rerun}
use Rattle.wl_trace.specs.Rerun.{RunsAgain, samples_seen}
use Rattle.wl_trace.specs.StayingRerun.{sample_if}
use Rattle.wl_trace.specs.Synced.{syncs_of, with_next}
use Rattle.wl_trace.specs.declared.event.Noted.{Noted}
use Rattle.wl_trace.specs.declared.staying_rerun.Stride.{Stride}
use Rattle.wl_views.specs.declared.sampling.Sampling.{Sampling}
use Rattle.wl_views.specs.Sampling.{IsSampling, given_by, synced_by}
use Rattle.wl_views.proofs.Going.{setup_is}
use Rattle.wl_views.proofs.Resampling.{seen_on}
use Rattle.wl_views.proofs.Seeing.{all_seen}
use Rattle.wl_views.proofs.sampling.Sampling.step.Goals as goal

-- after so many quanta more, of which the last may be a sample
module _ (laws : SimulationLaws) (plan : Plan) (sound : IsSound (line_of plan)) (i : ℕ) (b : i < length plan.nodes) (old : Sampling) (is : IsSampling plan i old)
    (read : NodeSetup) (setup : read ≡ setup_at plan i) (n : ℕ) (few : old.quanta + n ≤ old.limit) where
  abbrev levels : List Level
  levels = seen (line_of plan) i old.quanta

  abbrev more : List Level
  more = levels ++ replicate n old.level

  long : length levels ≡ old.quanta
  long = laws.length_seen (line_of plan) i old.quanta

  ran : RunsAgain read levels old.node
  ran = subst (λ (s : NodeSetup). RunsAgain s levels old.node) (sym setup) is.node

  saw : more ≡ seen (line_of plan) i (old.quanta + n)
  saw = seen_on laws plan sound i b old.quanta n old.level (λ q from below. is.stays q from (omega arith))

  on : (node : Rerun) → RunsAgain read more node → IsSampling plan i (record old { node = node; quanta = old.quanta + n })
  on node runs = record {
    node = subst (λ (ls : List Level). RunsAgain (setup_at plan i) ls node) saw (subst (λ (s : NodeSetup). RunsAgain s more node) setup runs);
    remembers = is.remembers;
    before = is.before;
    next = is.next;
    few = few;
    inside = is.inside;
    stays = λ q from below. is.stays q (omega arith) below;
  }

  gives : (node : Rerun) (sampled : Bool) → samples_seen read more ≡ samples_seen read levels ++ sample_if sampled (old.quanta + n - 1) old.level
      → given_by plan i (record old { node = node; quanta = old.quanta + n }) ≡ given_by plan i old ++ sample_if sampled (old.quanta + n - 1) old.level
  gives node sampled e =
      ap (samples_seen (setup_at plan i)) (sym saw)
      ∙ subst (λ (s : NodeSetup). samples_seen s more ≡ samples_seen s levels ++ sample_if sampled (old.quanta + n - 1) old.level) setup e

  tells : (node : Rerun) (sync : Option Noted) → syncs_of read more ≡ with_next (syncs_of read levels) sync
      → synced_by plan i (record old { node = node; quanta = old.quanta + n }) ≡ with_next (synced_by plan i old) sync
  tells node sync e =
      ap (syncs_of (setup_at plan i)) (sym saw) ∙ subst (λ (s : NodeSetup). syncs_of s more ≡ with_next (syncs_of s levels) sync) setup e

pub returns-clause-is : goal.returns-clause-is
returns-clause-is c =
    let plan : Plan = c.args.plan.now in
    let i : ℕ = c.args.i in
    let old : Sampling = c.listen.new.self in
    let is = c.listen.ensures.is in
    let n : ℕ = c.stride-stride.result.quanta in
    let setup : c.index-as_slice-i.result ≡ setup_at plan i =
    c.index-as_slice-i.is ∙ setup_is plan c.as_slice.result.now i c.index-as_slice-i.result (c.as_slice.ensures ∙ ap (λ (p : Plan). p.nodes) c.deref.ensures.0) c.requires.node in
    let few : old.quanta + n ≤ old.limit = (let f = c.stride-stride.ensures.few in let m = is.few in omega (arith, f, m)) in
    let run = subst (λ (s : NodeSetup). RunsAgain s (seen (line_of plan) i old.quanta) old.node) (sym setup) is.node in
    let long = c.simulation_laws.ensures.length_seen (line_of plan) i old.quanta in
    on c.simulation_laws.ensures plan c.laws.ensures.sound i c.requires.node old is c.index-as_slice-i.result setup n few c.stride-stride.new.self
    (c.stride-stride.ensures.run (seen (line_of plan) i old.quanta) long run)

pub returns-clause-samples : goal.returns-clause-samples
returns-clause-samples c stride e =
    let plan : Plan = c.args.plan.now in
    let i : ℕ = c.args.i in
    let old : Sampling = c.listen.new.self in
    let is = c.listen.ensures.is in
    let n : ℕ = c.stride-stride.result.quanta in
    let setup : c.index-as_slice-i.result ≡ setup_at plan i =
    c.index-as_slice-i.is ∙ setup_is plan c.as_slice.result.now i c.index-as_slice-i.result (c.as_slice.ensures ∙ ap (λ (p : Plan). p.nodes) c.deref.ensures.0) c.requires.node in
    let few : old.quanta + n ≤ old.limit = (let f = c.stride-stride.ensures.few in let m = is.few in omega (arith, f, m)) in
    let run = subst (λ (s : NodeSetup). RunsAgain s (seen (line_of plan) i old.quanta) old.node) (sym setup) is.node in
    let long = c.simulation_laws.ensures.length_seen (line_of plan) i old.quanta in
    let one : c.stride-stride.result ≡ stride = cc in
    let before : given_by plan i old ≡ given_by plan i c.args.self.now = ap (λ (q : ℕ). samples_seen (setup_at plan i) (seen (line_of plan) i q)) c.listen.ensures.quanta in
    gives c.simulation_laws.ensures plan c.laws.ensures.sound i c.requires.node old is c.index-as_slice-i.result setup n few c.stride-stride.new.self c.stride-stride.result.sampled
    (c.stride-stride.ensures.samples (seen (line_of plan) i old.quanta) long run)
    ∙ ap (λ (xs : List (ℕ × Level)). xs ++ sample_if c.stride-stride.result.sampled (old.quanta + n - 1) old.level) before
    ∙ ap (λ (s : Stride). given_by plan i c.args.self.now ++ sample_if s.sampled (old.quanta + n - 1) old.level) one

pub returns-clause-syncs : goal.returns-clause-syncs
returns-clause-syncs c stride e =
    let plan : Plan = c.args.plan.now in
    let i : ℕ = c.args.i in
    let old : Sampling = c.listen.new.self in
    let is = c.listen.ensures.is in
    let n : ℕ = c.stride-stride.result.quanta in
    let setup : c.index-as_slice-i.result ≡ setup_at plan i =
    c.index-as_slice-i.is ∙ setup_is plan c.as_slice.result.now i c.index-as_slice-i.result (c.as_slice.ensures ∙ ap (λ (p : Plan). p.nodes) c.deref.ensures.0) c.requires.node in
    let few : old.quanta + n ≤ old.limit = (let f = c.stride-stride.ensures.few in let m = is.few in omega (arith, f, m)) in
    let run = subst (λ (s : NodeSetup). RunsAgain s (seen (line_of plan) i old.quanta) old.node) (sym setup) is.node in
    let long = c.simulation_laws.ensures.length_seen (line_of plan) i old.quanta in
    let one : c.stride-stride.result ≡ stride = cc in
    let before : synced_by plan i old ≡ synced_by plan i c.args.self.now = ap (λ (q : ℕ). syncs_of (setup_at plan i) (seen (line_of plan) i q)) c.listen.ensures.quanta in
    tells c.simulation_laws.ensures plan c.laws.ensures.sound i c.requires.node old is c.index-as_slice-i.result setup n few c.stride-stride.new.self c.stride-stride.result.sync
    (c.stride-stride.ensures.syncs (seen (line_of plan) i old.quanta) long run)
    ∙ ap (λ (xs : List Noted). with_next xs c.stride-stride.result.sync) before
    ∙ ap (λ (s : Stride). with_next (synced_by plan i c.args.self.now) s.sync) one

pub returns-then-not-listen-clause-all : goal.returns-then-not-listen-clause-all
returns-then-not-listen-clause-all c e =
    let plan : Plan = c.args.plan.now in
    let i : ℕ = c.args.i in
    let old : Sampling = c.listen.new.self in
    let is = c.listen.ensures.is in
    let past : plan.end ≤ tick_of (setup_at plan i).clock old.quanta = c.listen.ensures.none c.if-not-listen.true in
    ap (seen (line_of plan) i) (sym c.listen.ensures.quanta)
    ∙ all_seen c.simulation_laws.ensures plan c.laws.ensures.sound i c.requires.node old.quanta
    (λ q below. let f = is.few in let m = is.before q (omega (arith, below, f)) in let e = is.inside in omega (arith, m, e)) past
