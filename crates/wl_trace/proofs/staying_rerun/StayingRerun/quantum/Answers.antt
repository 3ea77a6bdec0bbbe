-- What the bit clock is given is what it sees, and the beat is that of the history.
use Rattle.std.proofs.Common.{◌≡◌, ◌∙◌, ◌+◌, ap, ap₂, sym, subst, arith, Option, ℕ, suc, List, [], ◌∷◌, ◌++◌, length, length-append, append-nil}
use Rattle.wl_level.specs.declared.Level.{Level}
use Rattle.wl_sync.specs.declared.Beat.{Beat}
use Rattle.wl_sync.specs.declared.Beat.TheVariants as beats
use Rattle.std.specs.Prelude.{option_map}
use Rattle.wl_sync.specs.declared.Sync.{Sync}
use Rattle.wl_sync.specs.declared.Seen.{Seen}
use Rattle.wl_sync.specs.Bits.{beat_of, sync_of}
use Rattle.wl_sync.specs.Running.{clock_after}
use Rattle.wl_node.specs.declared.setup.NodeSetup.{NodeSetup}
use Rattle.wl_node.specs.History.{History, by_beat, history_after, staying_history, seen_next}
use Rattle.wl_trace.specs.Events.{noted}
use Rattle.wl_trace.specs.Synced.{sync_event}
use Rattle.wl_trace.specs.StayingRerun.{RunsTo, starts_with}
use Rattle.wl_trace.specs.Starts.{is_start, staying_starts, with_start}
use Rattle.wl_trace.proofs.Starting.{starts_more}
use Rattle.wl_trace.proofs.Syncing.{all_seen, history_more}
use Rattle.wl_trace.proofs.staying_rerun.StayingRerun.quantum.Goals as goal
use Rattle.wl_node.proofs.Callers.{seen_is}

-- one start more, or none
counted : (before : List ℕ) (quantum : ℕ) (beat : Beat) → length (with_start before quantum (is_start beat)) ≡ starts_with beat (length before)
counted before quantum beats.Start = length-append before (quantum ∷ []) ∙ (let e : length before + 1 ≡ suc (length before) = omega arith in e)
counted before quantum beats.Plain = ap length (append-nil before)
counted before quantum (beats.Sample _) = ap length (append-nil before)

pub returns-clause-running : goal.returns-clause-running
returns-clause-running c levels n r =
    let setup : NodeSetup = c.args.setup.now in
    let level : Level = c.args.level in
    let h : History = staying_history setup levels in
    let x : Seen = seen_next h level in
    let told : Seen = record { level = level; idle = c.idle-idle.result; awaits = c.awaits_start-awaits.result; integrates = c.integrates-integrates.result; driving = c.is_dominant-driving.result } in
    let e : told ≡ x = seen_is h level c.args.self.now.drive c.idle-idle.result c.awaits_start-awaits.result c.integrates-integrates.result c.is_dominant-driving.result (c.idle-idle.ensures h.inputs r.run.sampled_node.machine)
    (c.awaits_start-awaits.ensures h.inputs r.run.sampled_node.machine) (c.integrates-integrates.ensures h.inputs r.run.sampled_node.machine) c.is_dominant-driving.ensures r.run.drive in
    let beat : c.see-beat.result.0 ≡ beat_of setup.segments h.seen x = c.see-beat.ensures.beat setup.segments h.seen r.clock ∙ ap (beat_of setup.segments h.seen) e in
    let long : length levels ≡ length h.seen = sym (all_seen setup levels) in
    let bits = r.fewer in
    let few = c.requires.few in
    let size = length-append levels (level ∷ []) in
    let ran : RunsTo setup c.obey.new.self (by_beat setup h level c.see-beat.result.0) (starts_with c.see-beat.result.0 r.starts) =
    c.obey.ensures.run h r.starts (sym n ∙ long) (omega arith) (record { sampled_node = r.run.sampled_node; drive = r.run.drive; bits = r.run.bits; sampled = r.run.sampled; started = r.run.started }) in
    let so = subst (λ (b : Beat). RunsTo setup c.obey.new.self (by_beat setup h level b) (starts_with b r.starts)) beat ran in
    let after : RunsTo setup c.obey.new.self (history_after setup h level) (starts_with (beat_of setup.segments h.seen x) r.starts) =
    record { sampled_node = so.sampled_node; drive = so.drive; bits = so.bits; sampled = so.sampled; started = so.started } in
    record {
      starts = starts_with (beat_of setup.segments h.seen x) r.starts;
      clock =
          c.obey.ensures.clock ∙ c.see-beat.ensures.clock setup.segments h.seen r.clock
          ∙ ap (λ (y : Seen). clock_after setup.segments (h.seen ++ y ∷ [])) e
          ∙ ap (λ (g : History). clock_after setup.segments g.seen) (sym (history_more setup levels level));
      run = subst (λ (g : History). RunsTo setup c.obey.new.self g (starts_with (beat_of setup.segments h.seen x) r.starts)) (sym (history_more setup levels level)) after;
      fewer = omega (arith, c.obey.ensures.bits);
    }

-- where the starts are those of the levels, so they are one quantum later
pub returns-clause-run : goal.returns-clause-run
unfolding staying_history returns-clause-running
returns-clause-run c levels n r =
    let setup : NodeSetup = c.args.setup.now in
    let level : Level = c.args.level in
    let h : History = staying_history setup levels in
    let x : Seen = seen_next h level in
    let on = returns-clause-running c levels n (record { starts = length (staying_starts setup levels); clock = r.clock; run = r.run; fewer = r.fewer }) in
    let begun : starts_with (beat_of setup.segments h.seen x) (length (staying_starts setup levels)) ≡ length (staying_starts setup (levels ++ level ∷ [])) =
    sym (counted (staying_starts setup levels) (length h.seen) (beat_of setup.segments h.seen x)) ∙ ap (λ (qs : List ℕ). length qs) (sym (starts_more setup levels level)) in
    record {
      clock = on.clock;
      run = subst (λ (k : ℕ). RunsTo setup c.obey.new.self (staying_history setup (levels ++ level ∷ [])) k) begun on.run;
      fewer = on.fewer;
    }

pub returns-clause-sync : goal.returns-clause-sync
returns-clause-sync c levels n r =
    let setup : NodeSetup = c.args.setup.now in
    let level : Level = c.args.level in
    let h : History = staying_history setup levels in
    let x : Seen = seen_next h level in
    let told : Seen = record { level = level; idle = c.idle-idle.result; awaits = c.awaits_start-awaits.result; integrates = c.integrates-integrates.result; driving = c.is_dominant-driving.result } in
    let e : told ≡ x = seen_is h level c.args.self.now.drive c.idle-idle.result c.awaits_start-awaits.result c.integrates-integrates.result c.is_dominant-driving.result (c.idle-idle.ensures h.inputs r.run.sampled_node.machine)
    (c.awaits_start-awaits.ensures h.inputs r.run.sampled_node.machine) (c.integrates-integrates.ensures h.inputs r.run.sampled_node.machine) c.is_dominant-driving.ensures r.run.drive in
    let sync : c.see-beat.result.1 ≡ sync_of setup.segments h.seen x = c.see-beat.ensures.sync setup.segments h.seen r.clock ∙ ap (sync_of setup.segments h.seen) e in
    c.noted_sync.ensures
    ∙ ap (λ (o : Option Sync). option_map (λ s. noted c.args.quantum c.args.self.now.bits (sync_event s)) o) sync
    ∙ ap₂ (λ (q b : ℕ). option_map (λ s. noted q b (sync_event s)) (sync_of setup.segments h.seen x)) (sym n ∙ sym (all_seen setup levels)) r.run.bits
