-- A quantum that begins a bit with an edge right at its start.
use Rattle.std.proofs.Common.{◌≡◌, ◌∙◌, ◌+◌, ◌-◌, ◌&&◌, true, false, not, cond, Some, None, pos, ap, arith, refl}
use Rattle.std.specs.Prelude.{nat_lt, nat_le}
use Rattle.std.proofs.lemmas.Bool.{eq-eqb, le-leb, le-ltb, ne_eqb}
use Rattle.wl_segments.specs.Lengths.{Lengths, bit_quanta, found_at, sample_at}
use Rattle.wl_sync.specs.declared.Beat.TheVariants.{Start}
use Rattle.wl_sync.specs.declared.Sync.TheVariants.{Hard, Error}
use Rattle.wl_sync.specs.Edges.{Seen, edge_restarts, is_hard_edge, longer_by, looks, phase_error, restarts_at, shorter_by}
use Rattle.wl_sync.specs.Running.{Running}
use Rattle.wl_sync.specs.Steps.{MeetsStart, beat_between, end_of, running_after, running_answer, running_beat, running_counts, running_edge, running_edge_by, running_moved, running_over, running_passed, running_placed, running_restart, running_sync, samples, running_started}

module _ (r : Running) (x : Seen) (is : MeetsStart r x.level x.idle) where
  abbrev l : Lengths
  l = r.lengths

  -- the bit that begins
  abbrev begun : Running
  begun = record { lengths = r.lengths; quanta = 0; longer = 0; shorter = 0; synced = false; level = r.level; sample = r.sample }

  edge_is : running_edge r ≡ begun
  edge_is = ap (λ s. running_edge_by s r) is.rules ∙ rw (eq-eqb r.quanta (end_of r) is.over) refl

  late : nat_lt (sample_at l) 0 ≡ false
  late = le-ltb (sample_at l) 0 (omega arith)

  nothing : 0 - found_at l ≡ 0
  nothing = omega arith

  hard_is : is_hard_edge l.sync x ≡ false
  hard_is = ap (λ s. is_hard_edge s x) is.rules ∙ is.busy

  looks_is : looks l.sync (sample_at l) 0 ≡ true
  looks_is = ap (λ s. looks s (sample_at l) 0) is.rules ∙ ap not (ne_eqb 0 (sample_at l) (λ e. omega arith))

  counts : running_sync begun x ≡ true
  counts =
      ap (λ h. running_counts begun x h) hard_is
      ∙ rw (is.dominant, is.last, is.sample, looks_is, le-ltb (found_at l) 0 (omega arith)) refl

  restarts_is : edge_restarts l x 0 ≡ false
  restarts_is = ap (λ h. restarts_at l h 0) hard_is ∙ ap (λ b. b && nat_le (found_at l + bit_quanta l - 0) l.sjw) late

  restart : running_restart begun x ≡ false
  restart = ap (λ b. b && edge_restarts l x 0) counts ∙ restarts_is

  longer : longer_by l (Some 0) ≡ 0
  longer = rw (le-leb 0 (sample_at l) (omega arith), nothing) (omega arith)

  shorter : shorter_by l (Some 0) ≡ 0
  shorter = ap (λ b. cond b l.sjw 0) late

  unsampled : samples begun (longer_by l (Some 0)) ≡ false
  unsampled = ne_eqb 0 (sample_at l + longer_by l (Some 0)) (λ e. omega arith)

  placed : running_placed begun x ≡ running_started r x.level
  placed =
      ap (λ b. running_passed begun b (running_restart begun x) x.level) counts
      ∙ ap (λ b. running_passed begun true b x.level) restart
      ∙ ap (λ s. running_over s begun (running_moved begun true false x.level) false x.level) is.rules
      ∙ λ i. record {
        lengths = l;
        quanta = (let e : 0 + 1 ≡ 1 = omega arith in e) i;
        longer = longer i;
        shorter = shorter i;
        synced = true;
        level = x.level;
        sample = cond (unsampled i) x.level r.sample;
      }

  phase : phase_error l 0 ≡ pos 0
  phase = rw (late, nothing) refl

  pub start_after : running_after r x ≡ running_started r x.level
  start_after = ap (λ e. running_placed e x) edge_is ∙ placed

  pub start_beat : running_beat (running_edge r) x ≡ Start
  start_beat =
      ap (λ e. running_beat e x) edge_is
      ∙ ap (λ b. beat_between b begun (running_placed begun x) x.level) restart
      ∙ ap (λ s. beat_between false begun s x.level) placed

  pub start_answer : running_answer (running_edge r) x ≡ Some (Error (pos 0))
  start_answer =
      ap (λ e. running_answer e x) edge_is
      ∙ ap (λ b. cond b (Some (cond (is_hard_edge l.sync x) Hard (Error (phase_error l 0)))) None) counts
      ∙ ap (λ h. Some (cond h Hard (Error (phase_error l 0)))) hard_is
      ∙ ap (λ z. Some (Error z)) phase
