-- The records of a plan that is within some limits are within them.
use Rattle.std.proofs.Common.{◌≡◌, ℕ, zero, suc, ◌+◌, ◌*◌, ◌/◌, ◌<◌, ◌≤◌, inl, inr, List, length, Bool, true, false, cond, refl, arith}
use Rattle.std.specs.Prelude.{nat_lt}
use Rattle.std.proofs.Math.Nat.{div-mul-le_self, mul-le-mul_left}
use Rattle.std.proofs.lemmas.Bool.{ltb-false}
use Rattle.wl_limits.specs.declared.Limits.{Limits}
use Rattle.wl_limits.specs.declared.Limits.TheVariants.{Narrow, Wide}
use Rattle.wl_limits.specs.Limits.{node_limit, quanta_limit, short_quanta_limit}
use Rattle.wl_segments.specs.declared.SyncRules.{SyncRules}
use Rattle.wl_segments.specs.declared.SyncRules.TheVariants.{After, Book}
use Rattle.wl_segments.specs.Lengths.{AreLengths, found_by, least_way}
use Rattle.wl_record_core.specs.declared.record.Record.{Record}
use Rattle.wl_record_core.specs.Limits.{record_nodes, record_edges, most_nodes-is, most_edges-is, text_nodes-is, text_edges-is}
use Rattle.wl_record_core.specs.Truth.{IsTrueOf}
use Rattle.wl_record_core.specs.Within.{IsWithinBy}
use Rattle.wl_plan.specs.declared.plan.Plan.{Plan}
use Rattle.wl_plan.specs.PlanLine.{line_of, no_setup, setup_at, table_of}
use Rattle.wl_plan.specs.Simulation.{AreInside, ran}
use Rattle.wl_plan.specs.SimulationLaws.{SimulationLaws}
use Rattle.wl_plan.specs.Changes.{ChangesAreFew}
use Rattle.wl_plan.specs.Checked.{IsChecked, IsPlanWithin, CheckedIsSound, quanta_limit_of}
use Rattle.wl_serial.specs.Records.{RecordsAreTrue, RecordsAreWithin}

nodes_named : (limits : Limits) → node_limit limits ≤ record_nodes limits
nodes_named Narrow = omega (arith, text_nodes-is)
nodes_named Wide = omega (arith, most_nodes-is)

-- so many quanta give room for so many parts of bits from a start to its sample: of four quanta at least, or of three if a node has fewer quanta
few_parts : (limits : Limits) (n way : ℕ) → n ≤ cond (nat_lt way 3) (short_quanta_limit limits) (quanta_limit limits) → 2 ≤ way → n / suc way + 1 ≤ record_edges limits
few_parts limits n way few long = by_way limits (nat_lt way 3) refl few
  where
    d : n / suc way * suc way ≤ n
    d = div-mul-le_self n (suc way)

    by_way : (limits : Limits) (b : Bool) → nat_lt way 3 ≡ b → n ≤ cond b (short_quanta_limit limits) (quanta_limit limits) → n / suc way + 1 ≤ record_edges limits
    by_way Narrow true e f =
        let m : n / suc way * 3 ≤ n / suc way * suc way = mul-le-mul_left (n / suc way) (omega arith) in
        omega (arith, d, text_edges-is)
    by_way Wide true e f =
        let m : n / suc way * 3 ≤ n / suc way * suc way = mul-le-mul_left (n / suc way) (omega arith) in
        omega (arith, d, most_edges-is)
    by_way Narrow false e f =
        let far : 3 ≤ way = ltb-false way 3 e in
        let m : n / suc way * 4 ≤ n / suc way * suc way = mul-le-mul_left (n / suc way) (omega arith) in
        omega (arith, d, text_edges-is)
    by_way Wide false e f =
        let far : 3 ≤ way = ltb-false way 3 e in
        let m : n / suc way * 4 ≤ n / suc way * suc way = mul-le-mul_left (n / suc way) (omega arith) in
        omega (arith, d, most_edges-is)

found_near : (s : SyncRules) → found_by s ≤ 1
found_near After = omega arith
found_near Book = omega arith

module _ (laws : SimulationLaws) (changes_few : ChangesAreFew) (sounds : CheckedIsSound) (limits : Limits) (queued : ℕ) (plan : Plan) (h : IsChecked plan) (w : IsPlanWithin limits queued plan) where
  quanta_few : (i n : ℕ) → i < length plan.nodes → AreInside (line_of plan) i n → n ≤ quanta_limit_of limits (setup_at plan i).segments
  quanta_few i zero b inside = omega arith
  quanta_few i (suc n) b inside = (let f = w.quanta i no_setup b n (inside n (omega arith)) in omega arith)

  changes_named : (i : ℕ) → i < length plan.nodes → length (table_of plan i) ≤ record_edges limits
  changes_named i b =
      let l = line_of plan in
      let n = ran l i plan.end in
      let causal = (sounds plan h).causal in
      let inside = laws.ran_inside l i plan.end causal b in
      let past : plan.end ≤ l.instant i n = elim (laws.ran_all l i plan.end causal b) [ inl e ↦ e | inr e ↦ e ] in
      let lengths : AreLengths (setup_at plan i).segments = h.segments i no_setup b in
      let least : 2 ≤ least_way (setup_at plan i).segments =
      (let p = lengths.prop_low in let q = lengths.ps1_low in let s = found_near (setup_at plan i).segments.sync in omega arith) in
      let room = few_parts limits n (least_way (setup_at plan i).segments) (quanta_few i n b inside) least in
      let few = changes_few plan h i n b inside past in
      omega arith

pub records_are_within : ((limits : Limits) (nodes : ℕ) (table : ℕ → List ℕ) (r : Record) → nodes ≤ record_nodes limits
    → ((i : ℕ) → i < nodes → length (table i) ≤ record_edges limits) → IsTrueOf nodes table r → IsWithinBy limits r)
    → SimulationLaws → ChangesAreFew → CheckedIsSound → RecordsAreTrue → RecordsAreWithin
records_are_within within laws changes_few sounds truth limits queued plan h w k d b =
    within limits (length plan.nodes) (table_of plan) _ (let f = w.nodes in let g = nodes_named limits in omega arith)
    (changes_named laws changes_few sounds limits queued plan h w) (truth plan h k d b).0
