-- A plan that meets all that is asked: the worked one.
use Rattle.std.proofs.Common.{◌≡◌, ◌∙◌, refl, sym, ap, ℕ, zero, suc, ◌+◌, ◌-◌, ◌*◌, ◌/◌, ◌<◌, ◌≤◌, List, [], ◌∷◌, All, length, true, None, arith}
use Rattle.wl_level.specs.declared.Level.{Level}
use Rattle.wl_clock.specs.Timing.{IsRate, IsTiming, tick_of}
use Rattle.wl_segments.specs.Lengths.{AreLengths, bit_quanta}
use Rattle.wl_topology.specs.Delays.{AcceptedWhereKept, delay_of}
use Rattle.wl_frame.specs.Grammar.{Content, IsContent, bits_of}
use Rattle.wl_frame.specs.Stuffing.{Stuffs}
use Rattle.wl_plan.specs.Checked.{FaultlessIsChecked, fault_within}
use Rattle.wl_limits.specs.declared.Limits.TheVariants.{Narrow}
use Rattle.wl_plan.specs.Limits.{few_queued}
use Rattle.wl_plan.specs.PlanLine.{setup_at}
use Rattle.wl_bound.specs.Families.{member_at}
use Rattle.wl_bound.specs.Verdicts.{has_frames}
use Rattle.wl_proved.specs.LateEnds.{EndsLate, most_stuffed_bits}
use Rattle.wl_proved.specs.PlansOfFamily.{IsPlanOfFamily, IsRunnable}
use Rattle.wl_proved.proofs.Rows.{cyclic, family, frame, has_no_cause, in_pace, is_law_plan, lengths, rate}

-- of three, each
three : {A : Type 0} (P : A → Type 0) (a b c : A) → P a → P b → P c → All P (a ∷ b ∷ c ∷ [])
three P a b c pa pb pc zero d less = pa
three P a b c pa pb pc (suc zero) d less = pb
three P a b c pa pb pc (suc (suc zero)) d less = pc
three P a b c pa pb pc (suc (suc (suc k))) d less = absurd (omega arith)

-- of the three nodes, each
each_node : (P : ℕ → Type 0) → P 0 → P 1 → P 2 → (i : ℕ) → i < 3 → P i
each_node P p q r zero less = p
each_node P p q r (suc zero) less = q
each_node P p q r (suc (suc zero)) less = r
each_node P p q r (suc (suc (suc k))) less = absurd (omega arith)

alone : {A : Type 0} (P : A → Type 0) (a : A) → P a → All P (a ∷ [])
alone P a pa zero d less = pa
alone P a pa (suc k) d less = absurd (omega arith)

is_timing : (offset millionths : ℕ) → offset ≤ 1000 → 999000 ≤ millionths → millionths ≤ 1001000 → IsTiming (record { offset = offset; rates = rate millionths ∷ [] })
is_timing offset millionths near low high = record {
  rates = alone IsRate (rate millionths)
      (record { divides = omega arith; not_fast = omega arith; not_slow = omega arith; small = omega arith; soon = omega arith });
  some = omega arith;
  few = omega arith;
  order = refl;
  near = omega arith;
}

are_lengths : AreLengths lengths
are_lengths = record {
  prop_low = omega arith;
  ps1_low = omega arith;
  ps2_low = omega arith;
  sjw_low = omega arith;
  sjw_ps1 = omega arith;
  sjw_half = omega arith;
  sjw_ps2 = omega arith;
  low = omega arith;
  high = omega arith;
}

is_content : (id : ℕ) → id ≤ 2047 → IsContent (frame id)
is_content id less = record { id = less; dlc = omega arith; count = refl; bytes = λ k. omega arith }

no_fault : fault_within Narrow few_queued cyclic ≡ None
unfolding tick_of
no_fault = refl

module _ (topology : AcceptedWhereKept) (checked : FaultlessIsChecked) where
  runs : IsRunnable cyclic
  runs = record {
    checked =
        ((checked Narrow cyclic few_queued (omega arith)
        (three (λ n. IsTiming n.clock) _ _ _ (is_timing 300 1000060 (omega arith) (omega arith) (omega arith)) (is_timing 900 999920 (omega arith) (omega arith) (omega arith))
        (is_timing 0 1000000 (omega arith) (omega arith) (omega arith)))
        (three (λ n. AreLengths n.segments) _ _ _ are_lengths are_lengths are_lengths) ((topology Narrow cyclic.topology.places 5).0 refl).0).0 no_fault).0;
    frames = each_node (λ i. All (λ q. IsContent q.frame) (setup_at cyclic i).queue) (alone (λ q. IsContent q.frame) _ (is_content 240 (omega arith)))
        (alone (λ q. IsContent q.frame) _ (is_content 272 (omega arith))) (alone (λ q. IsContent q.frame) _ (is_content 944 (omega arith)));
  }

  pub is_of_family : IsPlanOfFamily family cyclic
  is_of_family = record {
    runs = runs;
    cable = refl;
    members = refl;
    segments = each_node (λ i. (member_at family i).segments ≡ (setup_at cyclic i).segments) refl refl refl;
    pace = in_pace;
    senders = each_node (λ i. has_frames (setup_at cyclic i) ≡ true → (member_at family i).sends ≡ true) (λ e. refl) (λ e. refl) (λ e. refl);
    covered = is_law_plan;
    inside = has_no_cause;
  }

-- a quantum takes no more than 126 ticks
divided : (a b q : ℕ) → b ≡ a + q → q ≤ 126000000 → b / 1000000 ≤ a / 1000000 + 126
divided a b q is high = omega (arith, is)

more_once : (k q : ℕ) → (suc k - 0) * q ≡ (k - 0) * q + q
more_once k q = let e : suc k - 0 ≡ suc k = omega arith in let f : k - 0 ≡ k = omega arith in ap (λ n. n * q) e ∙ (let g : suc k * q ≡ k * q + q = omega arith in g) ∙ ap (λ n. n * q + q) (sym f)

whole : (offset x y : ℕ) → x ≤ y + 126 → offset + x ≤ offset + y + 126
whole offset x y h = omega arith

quantum_of : (offset millionths k : ℕ) → millionths ≤ 1001000
    → tick_of (record { offset = offset; rates = rate millionths ∷ [] }) (suc k) ≤ tick_of (record { offset = offset; rates = rate millionths ∷ [] }) k + 126
unfolding tick_of
quantum_of offset millionths k high =
    let high_rate : 125 * millionths ≤ 126000000 = omega arith in
    let more = divided ((k - 0) * (125 * millionths)) ((suc k - 0) * (125 * millionths)) (125 * millionths) (more_once k (125 * millionths)) high_rate in
    whole offset ((suc k - 0) * (125 * millionths) / 1000000) ((k - 0) * (125 * millionths) / 1000000) more

pub ends_late : ((c : Content) (y : List Level) → IsContent c → Stuffs y (bits_of c) → length y ≤ most_stuffed_bits) → EndsLate cyclic
unfolding tick_of
ends_late few = record {
  bits = most_stuffed_bits;
  width = 19;
  quantum = 126;
  way = 450;
  ready = 64000;
  frames = λ i y. each_node (λ j. All (λ q. Stuffs y (bits_of q.frame) → length y ≤ most_stuffed_bits) (setup_at cyclic j).queue)
      (alone (λ q. Stuffs y (bits_of q.frame) → length y ≤ most_stuffed_bits) _ (few _ y (is_content 240 (omega arith))))
      (alone (λ q. Stuffs y (bits_of q.frame) → length y ≤ most_stuffed_bits) _ (few _ y (is_content 272 (omega arith))))
      (alone (λ q. Stuffs y (bits_of q.frame) → length y ≤ most_stuffed_bits) _ (few _ y (is_content 944 (omega arith)))) i;
  widths = each_node (λ i. bit_quanta (setup_at cyclic i).segments + (setup_at cyclic i).segments.sjw ≤ 19) (omega arith) (omega arith) (omega arith);
  quanta = λ i k. each_node (λ j. tick_of (setup_at cyclic j).clock (suc k) ≤ tick_of (setup_at cyclic j).clock k + 126) (quantum_of 300 1000060 k (omega arith)) (quantum_of 900 999920 k (omega arith))
      (quantum_of 0 1000000 k (omega arith)) i;
  ways = λ i j ni nj. each_node (λ a. (b : ℕ) → b < 3 → delay_of cyclic.topology a b ≤ 450)
      (each_node (λ b. delay_of cyclic.topology 0 b ≤ 450) (omega arith) (omega arith) (omega arith)) (each_node (λ b. delay_of cyclic.topology 1 b ≤ 450) (omega arith) (omega arith) (omega arith))
      (each_node (λ b. delay_of cyclic.topology 2 b ≤ 450) (omega arith) (omega arith) (omega arith)) i ni j nj;
  begun = each_node (λ i. tick_of (setup_at cyclic i).clock 0 ≤ 64000) (omega arith) (omega arith) (omega arith);
  all_ready = each_node (λ i. All (λ q. tick_of (setup_at cyclic i).clock q.ready ≤ 64000) (setup_at cyclic i).queue)
      (alone (λ q. tick_of (setup_at cyclic 0).clock q.ready ≤ 64000) _ (omega arith)) (alone (λ q. tick_of (setup_at cyclic 1).clock q.ready ≤ 64000) _ (omega arith))
      (alone (λ q. tick_of (setup_at cyclic 2).clock q.ready ≤ 64000) _ (omega arith));
  late = omega arith;
}
