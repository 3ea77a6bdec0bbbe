-- What the nodes of a run drive, by their changes.
use Rattle.std.proofs.Common.{◌≡◌, ◌∙◌, ap, zero-add, arith, ℕ, suc, ◌+◌, ◌-◌, ◌<◌, ◌&&◌, List, length, get_or, map}
use Rattle.std.specs.List.{range_with_len}
use Rattle.std.proofs.lemmas.Bool.{le-leb}
use Rattle.std.proofs.lemmas.Simd.{map-map}
use Rattle.std.proofs.lemmas.List.FromFn.{get_or-map-range_with_len, length-map-range_with_len}
use Rattle.wl_record_core.specs.Truth.{count_below, odd}
use Rattle.wl_plan.specs.declared.plan.Plan.{Plan}
use Rattle.wl_plan.specs.PlanLine.{table_of}
use Rattle.wl_serial.specs.declared.outcome.NodeOutcome.{NodeOutcome}
use Rattle.wl_serial.specs.Outcome.{drives_of, node_outcome_of, outcome_of}
use Rattle.wl_pulse.specs.Pulses.{drove}

drives_are : (plan : Plan) (drives : List (List ℕ)) → drives ≡ drives_of (outcome_of plan) → drives ≡ map (table_of plan) (range_with_len 0 (length plan.nodes))
drives_are plan drives is = is ∙ map-map (λ (n : NodeOutcome). n.changes) (node_outcome_of plan) (range_with_len 0 (length plan.nodes))

pub drive_is : (plan : Plan) (drives : List (List ℕ)) (i : ℕ) (d : List ℕ) → drives ≡ drives_of (outcome_of plan) → i < length plan.nodes → get_or drives i d ≡ table_of plan i
drive_is plan drives i d is b =
    ap (λ (xs : List (List ℕ)). get_or xs i d) (drives_are plan drives is) ∙ get_or-map-range_with_len (table_of plan) 0 (length plan.nodes) i i d b (zero-add i)

pub drives_all : (plan : Plan) (drives : List (List ℕ)) → drives ≡ drives_of (outcome_of plan) → length drives ≡ length plan.nodes
drives_all plan drives is = ap length (drives_are plan drives is) ∙ length-map-range_with_len (table_of plan) 0 (length plan.nodes)

pub drove_now : (changes : List ℕ) (t : ℕ) → drove changes 0 t ≡ odd (count_below (suc t) changes)
drove_now changes t =
    ap (λ b. b && odd (count_below (t - 0 + 1) changes)) (le-leb 0 t (omega arith)) ∙ ap (λ n. odd (count_below n changes)) (let e : t - 0 + 1 ≡ suc t = omega arith in e)
