-- A line after a silence goes as the line of the nodes that power up in it, tick by tick.
use Rattle.std.proofs.Common.{◌≡◌, ◌∙◌, inl, inr, sym, ap, subst, ℕ, zero, suc, ◌+◌, ◌-◌, ◌*◌, ◌<◌, ◌≤◌, ◌||◌, false, None, arith}
use Rattle.std.proofs.lemmas.Bool.{cases_eq, cases_lt}
use Rattle.wl_level.specs.declared.Level.{Level}
use Rattle.wl_level.specs.declared.Level.TheVariants.{Recessive}
use Rattle.wl_level.specs.Levels.{is_dominant, level_of}
use Rattle.wl_segments.specs.Lengths.{bit_quanta, sample_at}
use Rattle.wl_topology.specs.Driven.{driven}
use Rattle.wl_node.specs.declared.setup.NodeSetup.{NodeSetup}
use Rattle.wl_node.specs.History.{History, history_after, unsent_of}
use Rattle.wl_plan.specs.Line.{Line}
use Rattle.wl_plan.specs.Simulation.{AreInside, level}
use Rattle.wl_buses.specs.BothProofs.Expected.{levels_found}
use Rattle.wl_buses.specs.BothProofs.Levels.{levels_before}
use Rattle.wl_buses.specs.BothProofs.Queues.{head_at}
use Rattle.wl_buses.specs.OneFrame.Lines.{node_after}
use Rattle.wl_buses.specs.OneFrame.Nodes.{IsRun}
use Rattle.wl_buses.specs.OneFrame.Stations.{AreStations, Stations}
use Rattle.wl_buses.specs.CleanLines.Lines.{line_history}
use Rattle.wl_buses.proofs.Callers.{drive_up_to, last_quantum, level_first, level_then, run_of}
use Rattle.wl_silence.specs.Restarts.{GoesOnAs, IsUnharmed, setup_since}
use Rattle.wl_silence.specs.Silences.{IsLineOfSince, IsSilentFor, eleventh_of, fresh_line, fresh_setups, after_eleventh, joins}
use Rattle.wl_silence.proofs.Alike.{goes_on_once}
use Rattle.wl_silence.proofs.Queues.{head_since}
use Rattle.wl_silence.proofs.Lines as lines
use Rattle.wl_silence.proofs.Lines.{SilentLaws, history_is, node_same}
use Rattle.wl_silence.proofs.PoweredUp as powered

-- The fresh nodes find no error, and count nothing.
module _ (laws : SilentLaws) (l : Line) (setups : ℕ → NodeSetup) (s : Stations) (from until : ℕ) (first : ℕ → ℕ) (of : IsLineOfSince l setups s from) (is : IsSilentFor l setups from until first)
    (are : AreStations s)
    (fine : (i k : ℕ) → i < l.nodes → AreInside (fresh_line l setups first) i k → IsUnharmed (line_history (fresh_line l setups first) (fresh_setups l setups first) i k)) where
  abbrev R : ℕ → NodeSetup
  R = fresh_setups l setups first

  abbrev L : Line
  L = fresh_line l setups first

  abbrev at : ℕ → ℕ
  at i = joins l setups first i

  -- one node
  module _ (i : ℕ) (inside : i < l.nodes) where
    abbrev setup : NodeSetup
    setup = setups i

    abbrev B : ℕ
    B = bit_quanta setup.segments

    abbrev S : ℕ
    S = sample_at setup.segments

    abbrev end : ℕ
    end = eleventh_of setup.segments

    abbrev levels : ℕ → Level
    levels = levels_found l (level l) i

    abbrev node : ℕ → History
    node = node_after setup levels

    abbrev before : History
    before = line_history l setups i (after_eleventh l setups first i)

    -- the fresh one on the levels that this one sees
    abbrev levels' : ℕ → Level
    levels' k = levels (at i + k)

    abbrev star : ℕ → History
    star = node_after (R i) levels'

    pub late : first i ≤ at i
    late = lines.late laws l setups s from until first of is are i inside

    pub high : at i + 12 * B ≤ first i + 36 * B
    high = lines.high laws l setups s from until first of is are i inside

    soon : (q : ℕ) → q ≤ end → l.instant i (at i + q) < until
    soon q less = lines.early laws l setups s from until first of is are i inside (at i + q) (let h = high in let t = late in omega arith)

    silent : (q : ℕ) → q ≤ end → levels' q ≡ Recessive
    silent q less = lines.silent laws l setups s from until first of is are i inside (at i + q) (let t = late in omega arith) (soon q less)

    abbrev AsFresh : History → Type 0
    AsFresh h =
        (v : ℕ → Level) (fresh : ℕ → History) → IsRun (setup_since setup (at i) h) v fresh → ((q : ℕ) → q ≤ end → v q ≡ Recessive) → GoesOnAs setup (at i) h (fresh (suc end)) h

    as_fresh : AsFresh before
    as_fresh = subst AsFresh (sym (history_is l setups i (suc (at i + end)))) (lines.fresh laws l setups s from until first of is are i inside)

    on_first : GoesOnAs setup (at i) before (star (suc end)) (node (at i + suc end))
    on_first =
        let e : suc (at i + end) ≡ at i + suc end = omega arith in
        subst (GoesOnAs setup (at i) before (star (suc end))) (history_is l setups i (suc (at i + end)) ∙ ap node e) (as_fresh levels' star (run_of (R i) levels') silent)

    on_up : (m : ℕ) → ((j : ℕ) → j ≤ suc end + m → IsUnharmed (star j)) → GoesOnAs setup (at i) before (star (suc end + m)) (node (at i + (suc end + m)))
    on_up zero ok = subst (λ k. GoesOnAs setup (at i) before (star k) (node (at i + k))) (let e : suc end ≡ suc end + 0 = omega arith in e) on_first
    on_up (suc m) ok =
        let K : ℕ = suc end + m in
        let e : suc K ≡ suc end + suc m = omega arith in
        let f : suc (at i + K) ≡ at i + suc K = omega arith in
        let next = (run_of (R i) levels').next K in
        let step =
        goes_on_once laws.clock.goes setup (at i) before (star K) (node (at i + K)) (on_up m (λ j less. ok j (omega arith))) (ok K (omega arith)) (levels' K)
        (subst IsUnharmed next (ok (suc K) (omega arith))) in
        subst (λ k. GoesOnAs setup (at i) before (star k) (node (at i + k))) e
        (subst (GoesOnAs setup (at i) before (star (suc K))) (sym ((run_of setup levels).next (at i + K)) ∙ ap node f)
        (subst (λ h. GoesOnAs setup (at i) before h (history_after setup (node (at i + K)) (levels' K))) (sym next) step))

    on_at : (k : ℕ) → end < k → ((j : ℕ) → j ≤ k → IsUnharmed (star j)) → GoesOnAs setup (at i) before (star k) (node (at i + k))
    on_at k more ok =
        let e : suc end + (k - suc end) ≡ k = omega arith in
        subst (λ n. GoesOnAs setup (at i) before (star n) (node (at i + n))) e (on_up (k - suc end) (λ j less. ok j (omega arith)))

    none_star : head_at (R i) (R i).queue end ≡ None
    none_star =
        head_since (at i) setup.order (unsent_of setup before) end ∙ ap (λ h. head_at setup (unsent_of setup h) (at i + end)) (history_is l setups i (suc (at i + end)))
        ∙ lines.none_at_end laws l setups s from until first of is are i inside

    star_drives : (q : ℕ) → q ≤ suc end → (star q).drive ≡ Recessive
    star_drives q less =
        drive_up_to laws.clock.ways laws.clock.calm laws.clock.edges (R i) (lines.book laws l setups s from until first of is are i inside) levels' star (run_of (R i) levels') 10 silent
        (λ n more few. absurd (omega arith)) None none_star q less

    -- both drive the same after a quantum, if the fresh one is unharmed
    drives_same : (q : ℕ) → ((j : ℕ) → j ≤ suc q → IsUnharmed (star j)) → (star (suc q)).drive ≡ (node (suc (at i + q))).drive
    drives_same q ok = elim (cases_lt end q) [
      | inl more ↦
          (let f : suc (at i + q) ≡ at i + suc q = omega arith in
          sym ((on_at (suc q) (omega arith) ok).drive) ∙ ap (λ k. (node k).drive) (sym f))
      | inr few ↦ star_drives (suc q) (omega arith) ∙ sym (lines.drives laws l setups s from until first of is are i inside (at i + q) (let t = late in omega arith) (soon q few))
    ]

  -- so do all, tick by tick
  abbrev IsSame : ℕ → Type 0
  IsSame n = (i t : ℕ) → i < l.nodes → t < n → t < l.stop → from ≤ t → level L i t ≡ level l i t

  module _ (n : ℕ) (same : IsSame n) (i : ℕ) (inside : i < l.nodes) where
    levels_same : (k : ℕ) → l.instant i (at i + k) ≤ n → l.instant i (at i + k) < l.stop → levels_found L (level L) i k ≡ levels' i inside k
    levels_same k by below =
        let a = late i inside in
        let past : (j : ℕ) → j < l.nodes → from + l.delay j i ≤ l.instant i (at i + k) = λ j there. lines.after laws l setups s from until first of is are i inside j (at i + k) there (omega arith) in
        let some = past i inside in
        ap level_of
        (ap (λ b. b || false) (laws.driven.same l.nodes l.delay (level L) (level l) i (l.instant i (at i + k)) (λ j there low.
        (let d = of.causal.delays j i there inside in
        let p = past j there in
        same j (l.instant i (at i + k) - l.delay j i) there (omega arith) (omega arith) (omega arith))))
        ∙ ap (λ b. driven l.nodes l.delay (level l) i (l.instant i (at i + k)) || b) (sym (of.undisturbed i (l.instant i (at i + k)) inside (omega arith) below)))

    -- its quanta up to one that has begun
    module _ (q : ℕ) (begun : l.instant i (at i + q) ≤ n) (below : l.instant i (at i + q) < l.stop) where
      begun_before : (j : ℕ) → j ≤ q → l.instant i (at i + j) ≤ l.instant i (at i + q)
      begun_before j less = lines.up laws l setups s from until first of is are i inside (at i + j) (at i + q) (omega arith)

      nodes_same : (k : ℕ) → k ≤ suc q → node_after (R i) (levels_found L (level L) i) k ≡ star i inside k
      nodes_same k less =
          node_same (R i) (levels_found L (level L) i) (levels' i inside) k (λ j more. (let h = begun_before j (omega arith) in levels_same j (omega arith) (omega arith)))

      unharmed : (k : ℕ) → k ≤ suc q → IsUnharmed (star i inside k)
      unharmed k less =
          let there : AreInside L i k = λ j more. (let h = begun_before j (omega arith) in omega arith) in
          subst IsUnharmed (history_is L R i k ∙ nodes_same k less) (fine i k inside there)

  here : (n : ℕ) → IsSame n → (i : ℕ) → i < l.nodes → n < l.stop → from ≤ n → level L i n ≡ level l i n
  here n same i inside below late_enough = elim (cases_lt n (l.instant i (at i + 0))) [
    | inl early ↦
        (let e = soon i inside 0 (omega arith) in
        level_first laws.lines L (powered.causal laws l setups s from until first of is are) i n inside early ∙ sym (is.quiet i n inside late_enough (omega arith)))
    | inr late ↦
        (let q = last_quantum L (powered.causal laws l setups s from until first of is are) i n inside late in
        let k : ℕ = q.quantum in
        let begun : l.instant i (at i + k) ≤ n = q.begun in
        let f : at i + suc k ≡ suc (at i + k) = omega arith in
        let next : n < l.instant i (suc (at i + k)) = subst (λ m. n < l.instant i m) f q.next in
        level_then laws.lines L (powered.causal laws l setups s from until first of is are) i k n inside below begun q.next
        ∙ ap (λ h. is_dominant h.drive) (nodes_same n same i inside k begun (omega arith) (suc k) (omega arith))
        ∙ ap is_dominant (drives_same i inside k (unharmed n same i inside k begun (omega arith)))
        ∙ sym (of.drives i (levels_before (levels i inside) (suc (at i + k))) inside)
        ∙ sym (level_then laws.lines l of.causal i (at i + k) n inside below begun next))
  ]

  pub all_same : (n : ℕ) → IsSame n
  all_same zero i t inside less below late = absurd (omega arith)
  all_same (suc n) i t inside less below late = elim (cases_eq t n) [
    | inl e ↦ subst (λ u. level L i u ≡ level l i u) (sym e) (here n (all_same n) i inside (omega (arith, e)) (omega (arith, e)))
    | inr apart ↦ all_same n i t inside (omega (arith, apart)) below late
  ]

  -- each node is where its fresh one puts it
  pub goes_at : (i k : ℕ) → i < l.nodes → eleventh_of (setups i).segments < k → AreInside L i k
      → GoesOnAs (setups i) (at i) (line_history l setups i (after_eleventh l setups first i)) (line_history L R i k) (line_history l setups i (at i + k))
  goes_at i zero inside more there = absurd (omega arith)
  goes_at i (suc q) inside more there =
      let below : l.instant i (at i + q) < l.stop = there q (omega arith) in
      let same = nodes_same l.stop (all_same l.stop) i inside q (omega arith) below (suc q) (omega arith) in
      subst (λ h. GoesOnAs (setups i) (at i) (line_history l setups i (after_eleventh l setups first i)) h (line_history l setups i (at i + suc q))) (sym (history_is L R i (suc q) ∙ same))
      (subst (GoesOnAs (setups i) (at i) (line_history l setups i (after_eleventh l setups first i)) (star i inside (suc q))) (sym (history_is l setups i (at i + suc q)))
      (on_at i inside (suc q) more (unharmed l.stop (all_same l.stop) i inside q (omega arith) below)))
