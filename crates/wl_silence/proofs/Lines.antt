-- A line after a silence, node by node.
use Rattle.std.proofs.Common.{◌≡◌, ◌∙◌, inl, inr, sym, ap, subst, ℕ, suc, ◌+◌, ◌-◌, ◌*◌, ◌<◌, ◌≤◌, ◌||◌, cond, false, List, None, arith}
use Rattle.std.specs.Prelude.{nat_le}
use Rattle.std.proofs.lemmas.Bool.{cases_Bool, cases_lt, le-leb, lt-leb}
use Rattle.wl_level.specs.declared.Level.{Level}
use Rattle.wl_level.specs.declared.Level.TheVariants.{Recessive}
use Rattle.wl_level.specs.Levels.{level_of}
use Rattle.wl_level.proofs.Callers.{recessive_from}
use Rattle.wl_confine.specs.declared.Mode.TheVariants.{Active}
use Rattle.wl_confine.specs.Counts.{counts_of, mode_of}
use Rattle.wl_segments.specs.Lengths.{bit_quanta, sample_at}
use Rattle.wl_topology.specs.Driven.{DrivenLaws, driven}
use Rattle.wl_machine.specs.Judged.{stretch_of}
use Rattle.wl_node.specs.declared.setup.NodeSetup.{NodeSetup}
use Rattle.wl_node.specs.declared.setup.Queued.{Queued}
use Rattle.wl_node.specs.History.{History, counters_of, staying_history, unsent_of}
use Rattle.wl_node.specs.Queues.{head_by}
use Rattle.wl_phase.specs.Ways.{ByTheBook, sample_way}
use Rattle.wl_plan.specs.Line.{Line}
use Rattle.wl_plan.specs.Simulation.{level}
use Rattle.wl_plan.specs.SimulationLaws.{SimulationLaws}
use Rattle.wl_heal.specs.Silence.{is_off}
use Rattle.wl_buses.specs.BothProofs.Expected.{levels_found}
use Rattle.wl_buses.specs.BothProofs.Levels.{levels_before}
use Rattle.wl_buses.specs.OneFrame.Lines.{node_after}
use Rattle.wl_buses.specs.OneFrame.Nodes.{IsRun, clock_sees}
use Rattle.wl_buses.specs.OneFrame.Stations.{AreStations, Stations}
use Rattle.wl_buses.specs.CleanLines.Lines.{line_history}
use Rattle.wl_buses.proofs.Callers.{level_then, levels_same, run_of, seen_before_same, seen_by_quanta}
use Rattle.wl_silence.specs.Silences.{IsAsFresh, IsLineOfSince, IsSilentFor, eleventh_of, joins, joins_at}
use Rattle.wl_silence.proofs.Bits.{SilentClock}
use Rattle.wl_silence.proofs.Rested.{LeavesIdle, rested_fresh, rested_high, rested_low, rested_none, rested_unready}

-- a node is where the same levels put it
pub node_same : (setup : NodeSetup) (a b : ℕ → Level) (q : ℕ) → ((j : ℕ) → j < q → a j ≡ b j) → node_after setup a q ≡ node_after setup b q
node_same setup a b q h = ap (staying_history setup) (levels_same a b q h)

pub history_is : (l : Line) (setups : ℕ → NodeSetup) (i k : ℕ) → line_history l setups i k ≡ node_after (setups i) (levels_found l (level l) i) k
history_is l setups i k = ap (staying_history (setups i)) (seen_by_quanta l i k)

pub record SilentLaws : Type 0 where
  pub lines : SimulationLaws
  pub driven : DrivenLaws
  pub clock : SilentClock
  pub leaves : LeavesIdle

module _ (laws : SilentLaws) (l : Line) (setups : ℕ → NodeSetup) (s : Stations) (from until : ℕ) (first : ℕ → ℕ) (of : IsLineOfSince l setups s from) (is : IsSilentFor l setups from until first) (are : AreStations s)
    (i : ℕ) (inside : i < l.nodes) where
  abbrev setup : NodeSetup
  setup = setups i

  abbrev B : ℕ
  B = bit_quanta setup.segments

  abbrev S : ℕ
  S = sample_at setup.segments

  abbrev levels : ℕ → Level
  levels = levels_found l (level l) i

  abbrev node : ℕ → History
  node = node_after setup levels

  abbrev run : IsRun setup levels node
  run = run_of setup levels

  counted : i < s.count
  counted = let e = of.nodes in omega arith

  pub book : ByTheBook setup.segments
  book = subst ByTheBook (sym (of.segments i inside)) (are.line.book i counted)

  long : 1 < B
  long = let h = book.lengths.low in omega arith

  pub up : (k m : ℕ) → k ≤ m → l.instant i k ≤ l.instant i m
  up k m less = laws.lines.clock_later l i k m of.causal inside less

  pub after : (k q : ℕ) → k < l.nodes → first i ≤ q → from + l.delay k i ≤ l.instant i q
  after k q there less = let a = is.over i k inside there in let b = up (first i) q less in omega arith

  -- what it sees and drives in the silence
  undriven : (t : ℕ) → ((k : ℕ) → k < l.nodes → from + l.delay k i ≤ t) → t < until → driven l.nodes l.delay (level l) i t ≡ false
  undriven t past early = elim (cases_Bool (driven l.nodes l.delay (level l) i t)) [
    | inr none ↦ none
    | inl some ↦
        (let w = laws.driven.dominant_by l.nodes l.delay (level l) i t some in
        let a = past w.0 w.1 in
        let low : l.delay w.0 i ≤ t = w.2 in
        let quiet = is.quiet w.0 (t - l.delay w.0 i) w.1 (omega arith) (omega arith) in
        let dominant = w.3 in
        cc)
  ]

  pub silent : (q : ℕ) → first i ≤ q → l.instant i q < until → levels q ≡ Recessive
  silent q less early =
      let a = after i q inside less in
      let stop = is.inside in
      ap level_of (ap (λ b. b || l.disturbed i (l.instant i q)) (undriven (l.instant i q) (λ k there. after k q there less) early) ∙ of.undisturbed i (l.instant i q) inside (omega arith) (omega arith))

  pub drives : (q : ℕ) → first i ≤ q → l.instant i q < until → (node (suc q)).drive ≡ Recessive
  drives q less early =
      let a = after i q inside less in
      let stop = is.inside in
      recessive_from (node (suc q)).drive
      (sym (of.drives i (levels_before levels (suc q)) inside) ∙ sym (level_then laws.lines l of.causal i q (l.instant i q) inside (omega arith) (omega arith) (of.causal.clocks i q inside))
      ∙ is.quiet i (l.instant i q) inside (omega arith) early)

  pub active : (q : ℕ) → first i ≤ q → l.instant i q < until → mode_of (counts_of (node (suc q)).happened) ≡ Active
  active q less early = ap (λ h. mode_of (counters_of h)) (sym (history_is l setups i (suc q))) ∙ is.active i q inside less early

  pub on : (q : ℕ) → first i ≤ q → l.instant i q < until → is_off (stretch_of (node (suc q)).inputs) ≡ false
  on q less early = ap (λ h. is_off (stretch_of h.inputs)) (sym (history_is l setups i (suc q))) ∙ is.on i q inside less early

  pub early : (q : ℕ) → q ≤ first i + 36 * B → l.instant i q < until
  early q less = let a = up q (first i + 36 * B) less in let b = is.lasts i inside in omega arith

  abbrev pub at : ℕ
  at = joins l setups first i

  abbrev pub end : ℕ
  end = eleventh_of setup.segments

  room : first i + 35 * B + B ≤ first i + 36 * B
  room = omega arith

  enough : first i + 35 * B ≤ first i + 35 * B
  enough = omega arith

  pub late : first i ≤ at
  late =
      rested_low laws.clock laws.leaves setup book levels node run (first i) (first i + 35 * B) (first i + 36 * B) room enough (λ q less more. silent q less (early q more))
      (λ q less more. drives q less (early q (omega arith))) (λ q less more. active q less (early q (omega arith))) (λ q less more. on q less (early q (omega arith)))

  pub high : at + 12 * B ≤ first i + 36 * B
  high =
      rested_high laws.clock laws.leaves setup book levels node run (first i) (first i + 35 * B) (first i + 36 * B) room enough (λ q less more. silent q less (early q more))
      (λ q less more. drives q less (early q (omega arith))) (λ q less more. active q less (early q (omega arith))) (λ q less more. on q less (early q (omega arith)))

  pub fresh : IsAsFresh setup node at (at + end)
  fresh =
      rested_fresh laws.clock laws.leaves setup book levels node run (first i) (first i + 35 * B) (first i + 36 * B) room enough (λ q less more. silent q less (early q more))
      (λ q less more. drives q less (early q (omega arith))) (λ q less more. active q less (early q (omega arith))) (λ q less more. on q less (early q (omega arith)))

  pub early_end : l.instant i (at + end) < until
  early_end = early (at + end) (let h = high in omega arith)

  abbrev pub unsent : List Queued
  unsent = unsent_of setup (node (suc (at + end)))

  pub none_at_end : head_by setup.order unsent (at + end) ≡ None
  none_at_end =
      rested_none laws.clock laws.leaves setup book levels node run (first i) (first i + 35 * B) (first i + 36 * B) room enough (λ q less more. silent q less (early q more))
      (λ q less more. drives q less (early q (omega arith))) (λ q less more. active q less (early q (omega arith))) (λ q less more. on q less (early q (omega arith)))

  -- no frame of it is ready by a sample, if the next bit begins in the silence
  module _ (j : ℕ) (before : l.instant i (at + (12 + j) * B) < until) where
    abbrev start : ℕ
    start = at + (12 + j) * B

    abbrev levels' : ℕ → Level
    levels' q = cond (nat_le q start) (levels q) Recessive

    abbrev node' : ℕ → History
    node' = node_after setup levels'

    seen_same : (q : ℕ) → q ≤ start → levels' q ≡ levels q
    seen_same q less = ap (λ b. cond b (levels q) Recessive) (le-leb q start less)

    there_same : (q : ℕ) → q ≤ suc start → node' q ≡ node q
    there_same q less = node_same setup levels' levels q (λ k more. seen_same k (omega arith))

    in_silence : (q : ℕ) → q ≤ start → l.instant i q < until
    in_silence q less = let a = up q start less in omega arith

    silent' : (q : ℕ) → first i ≤ q → q ≤ start + B → levels' q ≡ Recessive
    silent' q less more = elim (cases_lt start q) [
      | inl past ↦ ap (λ b. cond b (levels q) Recessive) (lt-leb q start past)
      | inr now ↦ seen_same q now ∙ silent q less (in_silence q now)
    ]

    drives' : (q : ℕ) → first i ≤ q → q ≤ start → (node' (suc q)).drive ≡ Recessive
    drives' q less more = ap (λ h. h.drive) (there_same (suc q) (omega arith)) ∙ drives q less (in_silence q more)

    active' : (q : ℕ) → first i ≤ q → q ≤ start → mode_of (counts_of (node' (suc q)).happened) ≡ Active
    active' q less more = ap (λ h. mode_of (counts_of h.happened)) (there_same (suc q) (omega arith)) ∙ active q less (in_silence q more)

    on' : (q : ℕ) → first i ≤ q → q ≤ start → is_off (stretch_of (node' (suc q)).inputs) ≡ false
    on' q less more = ap (λ h. is_off (stretch_of h.inputs)) (there_same (suc q) (omega arith)) ∙ on q less (in_silence q more)

    sees_same : (q : ℕ) → q ≤ start → clock_sees levels' node' q ≡ clock_sees levels node q
    sees_same q less = ap (λ v. clock_sees (λ k. v) node' q) (seen_same q less) ∙ ap (λ h. clock_sees levels (λ k. h) q) (there_same q (omega arith))

    low : first i + S ≤ start
    low = let h = late in let e : (12 + j) * B ≡ 12 * B + j * B = omega arith in omega arith

    at_same : joins_at setup levels' node' (first i) ≡ at
    at_same =
        ap (λ v. first i + sample_way setup.segments v + 23 * B) (seen_before_same (clock_sees levels' node') (clock_sees levels node) (first i + S) (λ k less. sees_same k (let h = low in omega arith)))

    enough' : first i + 35 * B ≤ start
    enough' = let e : (12 + j) * B ≡ 12 * B + j * B = omega arith in omega arith

    pub none_ready : head_by setup.order unsent (at + ((11 + j) * B + S)) ≡ None
    none_ready =
        let few : at + end ≤ start = (let e : (12 + j) * B ≡ 12 * B + j * B = omega arith in omega arith) in
        ap (λ h. head_by setup.order (unsent_of setup h) (at + ((11 + j) * B + S))) (sym (there_same (suc (at + end)) (omega arith)))
        ∙ subst (λ a. head_by setup.order (unsent_of setup (node' (suc (a + end)))) (a + ((11 + j) * B + S)) ≡ None) at_same
        (rested_unready laws.clock laws.leaves setup book levels' node' (run_of setup levels') (first i) start (start + B) (omega arith) enough' silent' drives' active' on' j (omega (arith, at_same)))
