use Rattle.std.proofs.Common.{◌≡◌, ◌∙◌, ◌&&◌, cond, Some, None, ap, sym}
use Rattle.wl_sync.specs.declared.Sync.TheVariants.{Hard, Error}
use Rattle.wl_sync.specs.Edges.{Seen, is_hard_edge, restarts_at, phase_error}
use Rattle.wl_sync.specs.Running.{Running}
use Rattle.wl_sync.specs.Steps.{running_counts, running_sync, running_restart, running_passed, running_placed, running_beat, running_answer, running_edge, running_after, beat_between}
use Rattle.wl_sync.proofs.Fresh.{fresh_hard}
use Rattle.wl_sync.proofs.Cuts.{clock_next, beat_next, sync_next}
use Rattle.wl_sync.proofs.BitClock.look.Goals as goal
use Rattle.wl_sync.proofs.BitClock.look.Goals.{then-counts, else-counts}

pub place-beat-requires-clause-fresh : goal.place-beat-requires-clause-fresh
place-beat-requires-clause-fresh c e f =
    fresh_hard c.reach_edge.new.self c.args.seen c.is_hard_edge-hard.result (sym c.is_sync-counts.ensures ∙ e)
    (ap (λ b. b && restarts_at c.reach_edge.new.self.lengths c.is_hard_edge-hard.result c.reach_edge.new.self.quanta) (sym c.is_sync-counts.ensures)
    ∙ sym c.is_restart-restarts.ensures.restart ∙ f)

-- what the quantum shows, and the bit in which an edge lies
abbrev seen : goal.After-place-beat → Seen
seen c = c.args.seen

abbrev edge : goal.After-place-beat → Running
edge c = c.reach_edge.new.self

hard : (c : goal.After-place-beat) → c.is_hard_edge-hard.result ≡ is_hard_edge (edge c).lengths.sync (seen c)
hard c = c.is_hard_edge-hard.ensures

counts : (c : goal.After-place-beat) → c.is_sync-counts.result ≡ running_sync (edge c) (seen c)
counts c = c.is_sync-counts.ensures ∙ ap (λ b. running_counts (edge c) (seen c) b) (hard c)

restarts : (c : goal.After-place-beat) → c.is_restart-restarts.result ≡ running_restart (edge c) (seen c)
restarts c =
    c.is_restart-restarts.ensures.restart
    ∙ ap (λ b. b && restarts_at (edge c).lengths c.is_hard_edge-hard.result (edge c).quanta) (counts c)
    ∙ ap (λ b. running_sync (edge c) (seen c) && restarts_at (edge c).lengths b (edge c).quanta) (hard c)

-- the bit in which an edge lies, after the quantum
placed : (c : goal.After-place-beat) → c.place-beat.new.self ≡ running_placed (edge c) (seen c)
placed c =
    c.place-beat.ensures.clock
    ∙ ap (λ b. running_passed (edge c) c.is_sync-counts.result b c.args.seen.level) (restarts c)
    ∙ ap (λ b. running_passed (edge c) b (running_restart (edge c) (seen c)) c.args.seen.level) (counts c)

pub returns-clause-clock : goal.returns-clause-clock
returns-clause-clock c l past e =
    placed c ∙ ap (λ r. running_placed r (seen c)) c.reach_edge.ensures.edge ∙ ap (λ r. running_after r (seen c)) e ∙ sym (clock_next l past (seen c))

pub returns-clause-beat : goal.returns-clause-beat
returns-clause-beat c l past e =
    c.place-beat.ensures.beat ∙ ap (λ b. beat_between b (edge c) c.place-beat.new.self c.args.seen.level) (restarts c)
    ∙ ap (λ new. beat_between (running_restart (edge c) (seen c)) (edge c) new c.args.seen.level) (placed c)
    ∙ ap (λ r. running_beat r (seen c)) c.reach_edge.ensures.edge ∙ ap (λ r. running_beat (running_edge r) (seen c)) e ∙ sym (beat_next l past (seen c))

-- how the quantum synchronises the bit that is due
answered : (c : goal.After-place-beat) → c.if-counts.sync ≡ running_answer (edge c) (seen c)
answered c = elim c.if-counts.branch [
  | then-counts w ↦
      w.sync-is ∙ ap Some w.sync.ensures
      ∙ ap (λ b. Some (cond b Hard (Error (phase_error (edge c).lengths (edge c).quanta)))) (hard c)
      ∙ ap (λ b. cond b (Some (cond (is_hard_edge (edge c).lengths.sync (seen c)) Hard (Error (phase_error (edge c).lengths (edge c).quanta)))) None) (sym w.if-counts.true ∙ counts c)
  | else-counts w ↦
      w.sync-is
      ∙ ap (λ b. cond b (Some (cond (is_hard_edge (edge c).lengths.sync (seen c)) Hard (Error (phase_error (edge c).lengths (edge c).quanta)))) None) (sym w.if-counts.false ∙ counts c)
]

pub returns-clause-sync : goal.returns-clause-sync
returns-clause-sync c l past e =
    answered c ∙ ap (λ r. running_answer r (seen c)) c.reach_edge.ensures.edge ∙ ap (λ r. running_answer (running_edge r) (seen c)) e ∙ sym (sync_next l past (seen c))
