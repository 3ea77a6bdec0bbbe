-- The simulation of a small line of two nodes, computed.
use Rattle.std.proofs.Common.{◌<◌, ◌≤◌, ◌++◌, length, ap, arith, append-nil, ◌≡◌, ℕ, zero, suc, ◌+◌, ◌*◌, Bool, true, false, List, [], ◌∷◌, refl}
use Rattle.wl_level.specs.declared.Level.{Level}
use Rattle.wl_level.specs.declared.Level.TheVariants.{Dominant, Recessive}
use Rattle.wl_level.specs.Levels.{is_dominant}
use Rattle.wl_record_core.specs.Limits.{most_nodes-is, most_edges, most_edges-is, tick_end-is}
use Rattle.wl_plan.specs.Limits.{latest_end, most_quanta, most_quanta-is, most_quiet, most_quiet-is, most_queued, most_disturbances}
use Rattle.wl_limits.specs.declared.Limits.TheVariants.{Wide}
use Rattle.wl_limits.specs.Limits.{end_limit, quanta_limit, queue_limit, disturbance_limit}
use Rattle.wl_plan.specs.Groupings.{most_groups}
use Rattle.wl_plan.specs.Sound.{IsSound}
use Rattle.wl_plan.specs.Line.{Line, reach}
use Rattle.wl_plan.specs.Simulation.{changes, changes_below, level, seen, history, ran}

-- node 0 drives dominant after two and three quanta, node 1 whenever it saw dominant last
drives : ℕ → List Level → Bool
drives zero (a ∷ b ∷ []) = true
drives zero (a ∷ b ∷ c ∷ []) = true
drives zero xs = false
drives (suc n) [] = false
drives (suc n) (x ∷ []) = is_dominant x
drives (suc n) (x ∷ y ∷ zs) = drives (suc n) (y ∷ zs)

-- quanta of two ticks, a tick apart, and a delay of one tick
small : Line
small = record {
  nodes = 2;
  instant = λ i k. i + 2 * k;
  drives = drives;
  quiet = λ i levels. 0;
  delay = λ i j. 1;
  disturbed = λ j t. false;
  stop = 10;
}

changes_of_0 : changes small 0 ≡ 2 ∷ 6 ∷ []
unfolding small drives seen history changes_below
changes_of_0 = refl

changes_of_1 : changes small 1 ≡ 3 ∷ []
unfolding small drives seen history changes_below
changes_of_1 = refl

level_before_the_change : level small 0 1 ≡ false
unfolding small drives history
level_before_the_change = refl

level_at_the_change : level small 0 2 ≡ true
unfolding small drives history
level_at_the_change = refl

-- node 0 sees recessive first, and node 1 a tick after node 0 went dominant
seen_by_0 : (history small 5).seen 0 ≡ Recessive ∷ Recessive ∷ Dominant ∷ []
unfolding small drives history
seen_by_0 = refl

seen_by_1 : (history small 5).seen 1 ≡ Recessive ∷ Dominant ∷ []
unfolding small drives history
seen_by_1 = refl

-- later on node 1 sees its own level
all_seen_by_0 : (history small 7).seen 0 ≡ Recessive ∷ Recessive ∷ Dominant ∷ Dominant ∷ []
unfolding small drives history
all_seen_by_0 = refl

all_seen_by_1 : (history small 8).seen 1 ≡ Recessive ∷ Dominant ∷ Dominant ∷ Dominant ∷ []
unfolding small drives history
all_seen_by_1 = refl

quanta_by_tick_5 : ran small 1 5 ≡ 2
unfolding small drives history
quanta_by_tick_5 = refl

silence_reaches_the_next_quantum : reach small 0 (Recessive ∷ Recessive ∷ []) ≡ 4
unfolding small
silence_reaches_the_next_quantum = refl

-- the line is sound, so that what is proved of sound lines is not empty
begins_recessive : (i : ℕ) → drives i [] ≡ false
unfolding drives
begins_recessive zero = refl
begins_recessive (suc n) = refl

few : (i : ℕ) → i < 2 → length (changes small i) ≤ most_edges
unfolding small drives history changes_below
few zero b = (let e = most_edges-is in omega arith)
few (suc zero) b = (let e = most_edges-is in omega arith)
few (suc (suc n)) b = absurd (omega arith)

-- a list with none more is the same
nothing_more : (levels more : List Level) → length more ≤ 0 → levels ++ more ≡ levels
nothing_more levels [] h = append-nil levels
nothing_more levels (x ∷ xs) h = absurd (omega arith)

small_is_sound : IsSound small
unfolding small
small_is_sound = record {
  causal = record {
    delays = λ i j b d. omega arith;
    clocks = λ i k b. omega arith;
    quiet_stays = λ i levels more b h. ap (drives i) (nothing_more levels more h);
    begins = λ i b. begins_recessive i;
  };
  some_node = omega arith;
  few_nodes = (let e = most_nodes-is in omega arith);
  few_quanta = λ i k b h. (let e = most_quanta-is in omega arith);
  few_changes = few;
  little_quiet = λ i levels b. omega arith;
  first_fits = λ i b. (let e = most_quiet-is in let f = tick_end-is in omega arith);
  next_fits = λ i k b h. (let e = most_quiet-is in let f = tick_end-is in omega arith);
  end_fits = (let f = tick_end-is in omega arith);
}

-- the limits, in numbers
end_is : latest_end ≡ end_limit Wide
end_is = refl

quanta_are : most_quanta ≡ quanta_limit Wide
unfolding most_quanta
quanta_are = refl

quiet_is : most_quiet ≡ 65536
unfolding most_quiet
quiet_is = refl

queued_are : most_queued ≡ queue_limit Wide
queued_are = refl

disturbances_are : most_disturbances ≡ disturbance_limit Wide
disturbances_are = refl

groups_are : most_groups ≡ 16
groups_are = refl
