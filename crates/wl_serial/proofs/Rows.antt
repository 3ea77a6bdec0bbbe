-- The records of small outcomes, computed.
use Rattle.std.specs.Prelude.{◌≡◌, ℕ, List, [], ◌∷◌, refl}
use Rattle.std.proofs.Common.{arith}
use Rattle.wl_record_core.specs.declared.record.Record.TheVariants.{Edge, Silence}
use Rattle.wl_record_core.specs.Limits.{tick_end-is}
use Rattle.wl_confine.specs.Counts.{no_counts}
use Rattle.wl_serial.specs.declared.outcome.NodeOutcome.{NodeOutcome}
use Rattle.wl_serial.specs.declared.outcome.Outcome.{Outcome}
use Rattle.wl_serial.specs.Records.{outcome_records, IsRecordable}

-- a node of which only the changes of its drive are given
abbrev changed : List ℕ → NodeOutcome
changed ticks = record {
  changes = ticks;
  samples = [];
  frames = [];
  counters = no_counts;
  phases = [];
  hards = 0;
  errors = 0;
  unsent = 0;
}

abbrev outcome : ℕ → List NodeOutcome → Outcome
outcome end nodes = record { nodes = nodes; end = end }

-- a node that a disturbance shakes: one pulse
one_pulse : outcome_records (outcome 40000 (changed (18100 ∷ 24100 ∷ []) ∷ [])) ≡ Edge 0 0 18100 ∷ Edge 0 1 24100 ∷ Silence 0 2 40000 ∷ []
one_pulse = refl

-- each node in its turn, the one that is silent too
two_nodes : outcome_records (outcome 400 (changed [] ∷ changed (100 ∷ []) ∷ [])) ≡ Silence 0 0 400 ∷ Edge 1 0 100 ∷ Silence 1 1 400 ∷ []
two_nodes = refl

-- no tick, and no node
nothing_ran : outcome_records (outcome 0 (changed [] ∷ changed [] ∷ [])) ≡ Silence 0 0 0 ∷ Silence 1 0 0 ∷ []
nothing_ran = refl

nobody : outcome_records (outcome 40000 []) ≡ []
nobody = refl

-- records name no tick from 2^48 on
ends_too_late : ¬ (IsRecordable (outcome 281474976710656 []))
ends_too_late r = omega (arith, r.ends, tick_end-is)
