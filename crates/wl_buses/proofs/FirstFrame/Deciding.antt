-- A node decides first by its queue, with one of its frames.
use Rattle.std.proofs.Common.{◌≡◌, ◌∙◌, inl, inr, refl, sym, ap, ℕ, suc, ◌+◌, ◌-◌, ◌*◌, ◌<◌, ◌≤◌, length, true, false, List, [], ◌∷◌, Option, Some, None, arith}
use Rattle.std.specs.Prelude.{nat_lt, slice_get}
use Rattle.std.specs.Int.{div_ceil}
use Rattle.std.proofs.lemmas.Bool.{cases_Bool, le-ltb, lt-ltb, ltb-true}
use Rattle.std.proofs.lemmas.Grind.{div_ceil_times}
use Rattle.std.proofs.lemmas.Option.{slice_get_past}
use Rattle.std.proofs.Math.Nat.{mul-le-mul_right}
use Rattle.wl_segments.specs.Lengths.{Lengths, bit_quanta, sample_at}
use Rattle.wl_frame.specs.Grammar.{Content}
use Rattle.wl_node.specs.declared.setup.NodeSetup.{NodeSetup}
use Rattle.wl_node.specs.declared.setup.Queued.{Queued}
use Rattle.wl_node.proofs.Callers.{none_left}
use Rattle.wl_buses.specs.BothProofs.Queues.{first_decision, decides_at, first_head, head_at, place_among, queued_contents, wakes_at}
use Rattle.wl_buses.proofs.BothProofs.Heads.{head_early, head_in, head_late, head_none, none_then, place_is, some_then}
use Rattle.wl_buses.specs.OneFrame.Stations.{Stations}
use Rattle.wl_buses.specs.FirstFrame.FirstFrames.{content_alone}
use Rattle.wl_buses.specs.FirstFrame.FirstStarts.{HandTheFirst, Waiting, has_first}

some_has : (q : List Queued) → nat_lt 0 (length q) ≡ true → 0 < length q
some_has q e = ltb-true 0 (length q) e

-- the frame on which a node decides first, in a list that has it
first_is_none : (setup : NodeSetup) → setup.queue ≡ [] → first_head setup ≡ None
first_is_none setup e = ap (λ q. head_at setup q (first_decision setup)) e ∙ head_none setup (first_decision setup)

pub whole_begins : (setup : NodeSetup) → slice_get (queued_contents setup.queue) (place_among (first_head setup) (queued_contents setup.queue)) ≡ first_head setup
whole_begins setup = by (first_head setup) refl
  where
    by : (h : Option Content) → first_head setup ≡ h → slice_get (queued_contents setup.queue) (place_among h (queued_contents setup.queue)) ≡ h
    by None e = slice_get_past (queued_contents setup.queue) (length (queued_contents setup.queue)) (omega arith)
    by (Some c) e = (let n = head_in setup setup.queue (first_decision setup) c e in place_is c (queued_contents setup.queue) n.0 n.1)

pub alone_begins : (h : Option Content) → slice_get (content_alone h) (place_among h (content_alone h)) ≡ h
alone_begins None = refl
alone_begins (Some c) = place_is c (c ∷ []) 0 refl

-- the bit with whose sample it decides
module _ (l : Lengths) (ready : ℕ) (some : 0 < bit_quanta l) where
  pub decided_after : ready ≤ decides_at l ready * bit_quanta l + sample_at l
  decided_after =
      let ceil = (div_ceil_times (ready - sample_at l) (bit_quanta l) (omega arith)).0 in
      let above : div_ceil (ready - sample_at l) (bit_quanta l) * bit_quanta l ≤ decides_at l ready * bit_quanta l = mul-le-mul_right (bit_quanta l) (omega arith) in
      omega arith

  pub undecided : (n : ℕ) → 10 ≤ n → n < decides_at l ready → n * bit_quanta l + sample_at l < ready
  undecided n many less =
      let under : suc n ≤ div_ceil (ready - sample_at l) (bit_quanta l) = omega arith in
      let up : suc n * bit_quanta l ≤ div_ceil (ready - sample_at l) (bit_quanta l) * bit_quanta l = mul-le-mul_right (bit_quanta l) under in
      let more : suc n * bit_quanta l ≡ n * bit_quanta l + bit_quanta l = omega arith in
      let ceil = (div_ceil_times (ready - sample_at l) (bit_quanta l) (omega arith)).1 in
      omega arith

-- stations that are such nodes, with lists that have the frames on which these decide
module _ (setups : ℕ → NodeSetup) (queues : ℕ → List Content) (s : Stations) (lengths : (i : ℕ) → i < s.count → s.lengths i ≡ (setups i).segments)
    (some : (i : ℕ) → i < s.count → 0 < bit_quanta (setups i).segments) (begin : (i : ℕ) → slice_get (queues i) (place_among (first_head (setups i)) (queues i)) ≡ first_head (setups i)) where
  abbrev place : ℕ → ℕ
  place i = place_among (first_head (setups i)) (queues i)

  abbrev w : Waiting
  w = record { stations = s; frames = queues; which = place; decides = λ i. decides_at (setups i).segments (wakes_at (setups i) (setups i).queue) }

  abbrev q_of : ℕ → List Queued
  q_of i = (setups i).queue

  pub none_first : (i : ℕ) → q_of i ≡ [] → has_first w i ≡ false
  none_first i none = le-ltb (place i) (length (queues i)) (none_then (queues i) (place i) (begin i ∙ first_is_none (setups i) none))

  pub has_is : (i : ℕ) → i < s.count → has_first w i ≡ nat_lt 0 (length (q_of i))
  has_is i inside = elim (cases_Bool (nat_lt 0 (length (q_of i)))) [
    | inr none ↦ none_first i (none_left (q_of i) none) ∙ sym none
    | inl more ↦
        (let late = decided_after (setups i).segments (wakes_at (setups i) (q_of i)) (some i inside) in
        let x = head_late (setups i) (q_of i) (first_decision (setups i)) (some_has (q_of i) more) late in
        lt-ltb (place i) (length (queues i)) (some_then (queues i) (place i) x.frame (begin i ∙ x.is)) ∙ sym more)
  ]

  pub hands : HandTheFirst w setups
  hands = record {
    none = λ i q inside e. ap (λ x. head_at (setups i) x q) (none_left (q_of i) (sym (has_is i inside) ∙ e)) ∙ head_none (setups i) q;
    unready = λ i n inside more less.
        ap (λ k. head_at (setups i) (q_of i) (n * bit_quanta k + sample_at k)) (lengths i inside)
        ∙ head_early (setups i) (q_of i) (n * bit_quanta (setups i).segments + sample_at (setups i).segments)
        (undecided (setups i).segments (wakes_at (setups i) (q_of i)) (some i inside) n more less);
    ready = λ i inside e. ap (head_at (setups i) (q_of i)) (ap (λ k. w.decides i * bit_quanta k + sample_at k) (lengths i inside)) ∙ sym (begin i);
  }
