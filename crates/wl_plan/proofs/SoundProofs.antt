-- The line of a checked plan is sound.
use Rattle.std.proofs.Common.{◌≡◌, ℕ, zero, suc, ◌+◌, ◌*◌, ◌/◌, ◌<◌, ◌≤◌, List, [], ◌++◌, length, refl, ap, arith, Bool, true, false, cond, None, ◌⊎◌, inl, inr, nat_lt}
use Rattle.std.proofs.Math.Nat.{div-mul-le_self, mul-le-mul_left}
use Rattle.wl_level.specs.declared.Level.{Level}
use Rattle.wl_level.specs.Levels.{is_dominant}
use Rattle.wl_level.specs.Places.{PlaceLaws}
use Rattle.wl_segments.specs.declared.SyncRules.{SyncRules}
use Rattle.wl_segments.specs.declared.SyncRules.TheVariants.{After, Book}
use Rattle.wl_segments.specs.Lengths.{AreLengths, Lengths, least_way, found_by}
use Rattle.std.proofs.lemmas.Bool.{ltb-false}
use Rattle.wl_topology.proofs.Callers.{delay_positive}
use Rattle.wl_clock.specs.Timing.{Timing, IsTiming, tick_of, slowest_rate}
use Rattle.wl_limits.specs.declared.Limits.TheVariants.{Wide}
use Rattle.wl_limits.specs.Limits.{offset_limit}
use Rattle.wl_record_core.specs.Limits.{most_nodes-is, most_edges, most_edges-is, tick_end, tick_end-is}
use Rattle.wl_node.specs.declared.setup.NodeSetup.{NodeSetup}
use Rattle.wl_node.specs.History.{History, history_of}
use Rattle.wl_node.proofs.Callers.{history_begins}
use Rattle.wl_node.specs.Quiet.{quiet_of, changes_of}
use Rattle.wl_node.specs.declared.limits.TheConstants.{MOST_QUIET}
use Rattle.wl_plan.specs.declared.plan.Plan.{Plan}
use Rattle.wl_plan.specs.Limits.{latest_end, most_quanta, most_quanta-is, most_short_quanta, most_short_quanta-is, most_quiet, most_quiet-is}
use Rattle.wl_plan.specs.PlanLine.{line_of, setup_at, no_setup, table_of}
use Rattle.wl_plan.specs.Simulation.{ran, AreInside}
use Rattle.wl_plan.specs.SimulationLaws.{SimulationLaws}
use Rattle.wl_plan.specs.Sound.{IsCausal, IsSound}
use Rattle.wl_plan.specs.Checked.{IsChecked, CheckedIsSound, most_quanta_of}
use Rattle.wl_plan.proofs.FewProofs.{changes_few}

-- What the clock's laws give.
pub record ClockLaws : Type 0 where
  pub later : (t : Timing) → IsTiming t → (j k : ℕ) → j < k → tick_of t j < tick_of t k
  pub first : (t : Timing) → tick_of t 0 ≡ t.offset
  pub high : (t : Timing) → IsTiming t → (k n : ℕ) → tick_of t (k + n) ≤ tick_of t k + n * slowest_rate

-- What the laws of nodes give: a promise is kept, and isn't too long for a record; and a drive changes few times.
pub record QuietLaws : Type 0 where
  pub stays : (setup : NodeSetup) (levels more : List Level) → length more ≤ quiet_of setup levels
      → (history_of setup (levels ++ more)).drive ≡ (history_of setup levels).drive
  pub most : (setup : NodeSetup) (levels : List Level) → quiet_of setup levels ≤ most_quiet
  pub few : (setup : NodeSetup) (levels : List Level) → (setup.until ≡ None) ⊎ AreLengths setup.segments → changes_of setup levels ≤ length levels / suc (least_way setup.segments) + 1

-- a node that has seen nothing drives recessive
begins : (setup : NodeSetup) → is_dominant (history_of setup []).drive ≡ false
begins setup = ap (λ (h : History). is_dominant h.drive) (history_begins setup)

-- so many quanta give room for so many parts of bits from a start to its sample: of four quanta at least, or of three where a node has fewer quanta
few_parts : (n way : ℕ) → n ≤ cond (nat_lt way 3) most_short_quanta most_quanta → 2 ≤ way → n / suc way + 1 ≤ most_edges
few_parts n way few long = by_way (nat_lt way 3) refl few
  where
    d : n / suc way * suc way ≤ n
    d = div-mul-le_self n (suc way)

    by_way : (b : Bool) → nat_lt way 3 ≡ b → n ≤ cond b most_short_quanta most_quanta → n / suc way + 1 ≤ most_edges
    by_way true e f =
        let m : n / suc way * 3 ≤ n / suc way * suc way = mul-le-mul_left (n / suc way) (omega arith) in
        omega (arith, d, most_short_quanta-is, most_edges-is)
    by_way false e f =
        let long : 3 ≤ way = ltb-false way 3 e in
        let m : n / suc way * 4 ≤ n / suc way * suc way = mul-le-mul_left (n / suc way) (omega arith) in
        omega (arith, d, most_quanta-is, most_edges-is)

-- no node has more than the most
few_of_all : (l : Lengths) → most_quanta_of l ≤ most_quanta
few_of_all l = by_way (nat_lt (least_way l) 3)
  where
    by_way : (b : Bool) → cond b most_short_quanta most_quanta ≤ most_quanta
    by_way true = omega (arith, most_short_quanta-is, most_quanta-is)
    by_way false = omega arith

-- a sample comes two quanta after a start at least
found_near : (s : SyncRules) → found_by s ≤ 1
found_near After = omega arith
found_near Book = omega arith

module _ (places : PlaceLaws) (clocks : ClockLaws) (drives : QuietLaws) (laws : SimulationLaws) (plan : Plan) (h : IsChecked plan) where
  timed : (i : ℕ) → i < length plan.nodes → IsTiming (setup_at plan i).clock
  timed i b = h.clocks i no_setup b

  causal : IsCausal (line_of plan)
  causal = record {
    delays = λ i j b d. delay_positive plan.topology i j h.cable (let e = h.placed in omega arith) (let e = h.placed in omega arith);
    clocks = λ i k b. clocks.later (setup_at plan i).clock (timed i b) k (suc k) (omega arith);
    quiet_stays = λ i levels more b e. ap is_dominant (drives.stays (setup_at plan i) levels more e);
    begins = λ i b. begins (setup_at plan i);
  }

  few : (i k : ℕ) → i < length plan.nodes → tick_of (setup_at plan i).clock k < plan.end → k < most_quanta
  few i k b below = (let f = h.few_quanta i no_setup b k below in let g = few_of_all (setup_at plan i).segments in omega arith)

  -- no more quanta than may be
  quanta_few : (i n : ℕ) → i < length plan.nodes → AreInside (line_of plan) i n → n ≤ most_quanta_of (setup_at plan i).segments
  quanta_few i zero b inside = omega arith
  quanta_few i (suc n) b inside = (let f = h.few_quanta i no_setup b n (inside n (omega arith)) in omega arith)

  few_in_record : (i : ℕ) → i < length plan.nodes → length (table_of plan i) ≤ most_edges
  few_in_record i b =
      let l = line_of plan in
      let n = ran l i plan.end in
      let inside = laws.ran_inside l i plan.end causal b in
      let past : plan.end ≤ l.instant i n = elim (laws.ran_all l i plan.end causal b) [ inl e ↦ e | inr e ↦ e ] in
      let lengths = h.segments i no_setup b in
      let least : 2 ≤ least_way (setup_at plan i).segments = (let p = lengths.prop_low in let q = lengths.ps1_low in let s = found_near (setup_at plan i).segments.sync in omega arith) in
      let room = few_parts n (least_way (setup_at plan i).segments) (quanta_few i n b inside) least in
      let few_here = changes_few places drives.few laws plan causal i b lengths n inside past in
      omega arith

  -- the ticks that a silence can name
  first_near : (t : Timing) → IsTiming t → tick_of t most_quiet < tick_end
  first_near t timing =
      let start = clocks.first t in
      let near : tick_of t (0 + most_quiet) ≤ tick_of t 0 + most_quiet * slowest_rate = clocks.high t timing 0 most_quiet in
      far (tick_of t most_quiet) (tick_of t (0 + most_quiet)) (tick_of t 0) t.offset (ap (tick_of t) (omega arith)) start near timing.near
    where
      far : (a b c d : ℕ) → a ≡ b → c ≡ d → b ≤ c + most_quiet * slowest_rate → d ≤ offset_limit Wide → a < tick_end
      far a b c d e f g l = (let m : most_quiet * slowest_rate ≡ MOST_QUIET * slowest_rate = ap (λ n. n * slowest_rate) most_quiet-is in let r = tick_end-is in omega arith)

  next_near : (t : Timing) → IsTiming t → (k : ℕ) → tick_of t k < plan.end → tick_of t (suc k + most_quiet) < tick_end
  next_near t timing k below =
      let near : tick_of t (k + (1 + most_quiet)) ≤ tick_of t k + (1 + most_quiet) * slowest_rate = clocks.high t timing k (1 + most_quiet) in
      far (tick_of t (suc k + most_quiet)) (tick_of t (k + (1 + most_quiet))) (tick_of t k) (ap (tick_of t) (omega arith)) near below h.ends
    where
      far : (a b c : ℕ) → a ≡ b → b ≤ c + (1 + most_quiet) * slowest_rate → c < plan.end → plan.end ≤ latest_end → a < tick_end
      far a b c e g l m =
          (let n : (1 + most_quiet) * slowest_rate ≡ (1 + MOST_QUIET) * slowest_rate = ap (λ n. (1 + n) * slowest_rate) most_quiet-is in let r = tick_end-is in omega arith)

  pub sound : IsSound (line_of plan)
  sound = record {
    causal = causal;
    some_node = h.some_node;
    few_nodes = (let e = most_nodes-is in let f = h.few_nodes in omega arith);
    few_quanta = few;
    few_changes = few_in_record;
    little_quiet = λ i levels b. drives.most (setup_at plan i) levels;
    first_fits = λ i b. first_near (setup_at plan i).clock (timed i b);
    next_fits = λ i k b below. next_near (setup_at plan i).clock (timed i b) k below;
    end_fits = (let e = tick_end-is in let f = h.ends in omega arith);
  }

pub checked_is_sound : PlaceLaws → ClockLaws → QuietLaws → SimulationLaws → CheckedIsSound
checked_is_sound places clocks drives laws plan h = sound places clocks drives laws plan h
