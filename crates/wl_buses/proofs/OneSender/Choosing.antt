-- Which acknowledgement comes to a node first, and whether it comes there before that one's own would begin.
use Rattle.std.proofs.Common.{◌≡◌, ◌≢◌, ◌∙◌, ◌⊎◌, inl, inr, refl, ap, ℕ, suc, ◌+◌, ◌-◌, ◌*◌, ◌<◌, ◌≤◌, List, [], ◌∷◌, ◌++◌, length, cond, ◌||◌, arith}
use Rattle.std.specs.Prelude.{◌==◌}
use Rattle.std.proofs.lemmas.Bool.{cases_lt, cases_eq, eq-eqb, ne_eqb}
use Rattle.wl_level.specs.declared.Level.{Level}
use Rattle.wl_level.specs.declared.Level.TheVariants.{Recessive}
use Rattle.wl_segments.specs.Lengths.{Lengths, sample_at, bit_quanta}
use Rattle.wl_sync.specs.declared.Seen.{Seen}
use Rattle.wl_frame.specs.Grammar.{Content}
use Rattle.wl_phase.specs.Clocks.{Finds, Steady, IsSteady, steady_tick}
use Rattle.wl_phase.specs.Ways.{ByTheBook}
use Rattle.wl_phase.specs.InStep.{Sender, Listener, ClocksAreNear, SamplesBit}
use Rattle.wl_phase.specs.Answer.{ComesAfterSample, ComesInTime, EndsAfterMove, EndsBeforeSample, EndsInTime, FindsEarly, FitsBit, HearsAnswer, SamplesNext, answer_begin, answer_end, moved_sample, own_sample}
use Rattle.wl_level.specs.declared.Level.TheVariants.{Dominant}
use Rattle.wl_plan.specs.Line.{Line}
use Rattle.wl_buses.specs.OneSender.OneSender.{SenderBus, IsBus, IsListener, IsInStepWithAll, lengths_of}
use Rattle.wl_buses.specs.OneSender.Through.{EndsInSlots}
use Rattle.wl_buses.proofs.OneSender.Leasts.{least, least_each, least_is}
use Rattle.wl_buses.proofs.OneSender.Planned as planned
use Rattle.wl_buses.proofs.OneSender.Planned.{Laws, IsHeard}
use Rattle.wl_buses.proofs.OneSender.Resting.{Rests, SendsNext}
use Rattle.wl_buses.proofs.OneSender.Yielding.{NextLaw}
use Rattle.wl_buses.proofs.OneSender.Listeners.{Numbers, number_is, number_of}

-- the laws of an acknowledgement that may be early
pub record StayLaws : Type 0 where
  pub ends : (s : Sender) (i j : Listener) (seen other_seen : ℕ → Seen) (found other_found between d k n : ℕ) → IsSteady s.clock → IsSteady i.clock → IsSteady j.clock
      → EndsBeforeSample s i j between → SamplesBit s i seen found d k → SamplesBit s j other_seen other_found d n → answer_end i between k ≤ steady_tick j.clock (n + 2 * bit_quanta j.lengths)
  pub ends_there : (s : Sender) (own : Lengths) (j : Listener) (seen : ℕ → Seen) (found back d k : ℕ) → IsSteady s.clock → IsSteady j.clock → ByTheBook own → ByTheBook j.lengths
      → s.bit_quanta ≡ bit_quanta own → ClocksAreNear s j → ComesInTime s own j back → EndsInTime s own j back → SamplesBit s j seen found d k
      → answer_end j back k ≤ steady_tick s.clock (own_sample s own (suc (suc d)))
  pub moved_there : (s : Sender) (own : Lengths) (j : Listener) (seen : ℕ → Seen) (found back d k n : ℕ) → IsSteady s.clock → IsSteady j.clock → ByTheBook own → ByTheBook j.lengths
      → s.bit_quanta ≡ bit_quanta own → ClocksAreNear s j → ComesInTime s own j back → EndsInTime s own j back → SamplesBit s j seen found d k
      → Finds s.clock n (answer_begin j back k) → n ≤ own_sample s own (suc d) → answer_end j back k ≤ steady_tick s.clock (moved_sample own (own_sample s own d) n + bit_quanta own)
  pub finds : (s : Sender) (i j : Listener) (seen other_seen : ℕ → Seen) (found other_found between d k n : ℕ) → IsSteady s.clock → IsSteady i.clock → IsSteady j.clock
      → ByTheBook j.lengths → ComesAfterSample s i j between → FitsBit i j.clock j.lengths → SamplesBit s i seen found d k → SamplesBit s j other_seen other_found d n
      → answer_begin i between k ≤ steady_tick j.clock (n + j.lengths.ps2) → (m : ℕ) × FindsEarly j.lengths j.clock (answer_begin i between k) (answer_end i between k) n m
  pub over : (i : Listener) (c : Steady) (l : Lengths) (between k x : ℕ) → IsSteady i.clock → IsSteady c → FitsBit i c l → answer_begin i between k ≤ steady_tick c x
      → answer_end i between k ≤ steady_tick c (x + (sample_at l - 1) + bit_quanta l)
  pub others : (s : Sender) (i j : Listener) (c : Steady) (l : Lengths) (seen other_seen : ℕ → Seen) (found other_found from_i from_j d k n x : ℕ) → IsSteady s.clock → IsSteady i.clock → IsSteady j.clock → IsSteady c
      → EndsAfterMove s i j c l from_i from_j → SamplesBit s i seen found d k → SamplesBit s j other_seen other_found d n → answer_begin i from_i k ≤ steady_tick c x
      → answer_end j from_j n ≤ steady_tick c (x + (sample_at l - 1) + bit_quanta l)
  pub later : (s : Sender) (j : Listener) (back k x c : ℕ) → IsSteady s.clock → IsSteady j.clock → ByTheBook j.lengths → ClocksAreNear s j → 1 ≤ back → c ≤ 9
      → answer_end j back k ≤ steady_tick s.clock x → steady_tick j.clock (k + (2 + c) * bit_quanta j.lengths) ≤ steady_tick s.clock (x + suc c * s.bit_quanta)
  pub sampled : (s : Sender) (own : Lengths) (j : Listener) (seen sender_seen : ℕ → Seen) (found back d k : ℕ) → IsSteady s.clock → IsSteady j.clock → ByTheBook own → ByTheBook j.lengths
      → s.bit_quanta ≡ bit_quanta own → ClocksAreNear s j → ComesInTime s own j back → SamplesBit s j seen found d k → HearsAnswer s own j back d k sender_seen
      → (m : ℕ) × Finds s.clock m (answer_begin j back k) × (own_sample s own d < m) × (m ≤ own_sample s own (suc d))
      × SamplesNext own sender_seen (own_sample s own d) (moved_sample own (own_sample s own d) m) Dominant
  pub next : NextLaw

module _ (laws : Laws) (stay : StayLaws) (b : SenderBus) (is : IsBus b) (meets : IsInStepWithAll b) (slots : EndsInSlots b) (t : ℕ) (rest : Rests laws.clocks b is t)
    (frame : Content) (y : List Level) (from m : ℕ) (sends : SendsNext laws.clocks b is t rest frame y from m) where
  abbrev l : Line
  l = b.line

  abbrev a : ℕ
  a = b.sender

  abbrev last : ℕ
  last = length y

  abbrev pub s : Sender
  s = record { clock = b.clocks a; bit_quanta = bit_quanta (lengths_of b a); from = from; bits = y ++ Recessive ∷ [] }

  abbrev B : ℕ → ℕ
  B i = bit_quanta (lengths_of b i)

  abbrev tick : ℕ → ℕ → ℕ
  tick i k = steady_tick (b.clocks i) k

  abbrev Heard : ℕ → Type 0
  Heard = IsHeard laws b is meets t rest frame y from m sends

  abbrev answer : (j : ℕ) → Heard j → ℕ
  answer = planned.answer laws b is meets t rest frame y from m sends

  -- when each listener would begin its acknowledgement, and end it, if no other one came before
  abbrev begins : Numbers b
  begins j p = tick j (answer j (planned.heard_by laws b is meets t rest frame y from m sends j p))

  abbrev ends : Numbers b
  ends j p = tick j (answer j (planned.heard_by laws b is meets t rest frame y from m sends j p) + B j)

  pub natural : ℕ → ℕ
  natural j = number_of b begins 0 j

  pub natural_end : ℕ → ℕ
  natural_end j = number_of b ends 0 j

  pub record IsNatural (j : ℕ) : Type 0 where
    pub heard : Heard j
    pub natural_is : natural j ≡ tick j (answer j heard)
    pub natural_end_is : natural_end j ≡ tick j (answer j heard + B j)

  pub natural_of : (j : ℕ) → IsListener b j → IsNatural j
  unfolding natural natural_end
  natural_of j p =
      let n = number_is b j p in
      record { heard = planned.heard_by laws b is meets t rest frame y from m sends j n.0; natural_is = n.1 begins 0; natural_end_is = n.1 ends 0 }

  -- none comes to it by then
  abbrev pub Stays : ℕ → Type 0
  Stays j = (i : ℕ) → IsListener b i → i ≢ j → natural j < natural i + l.delay i j

  -- this one comes to it by then, and no other one before
  pub record Comes (j : ℕ) : Type 0 where
    pub by : ℕ
    pub listener : IsListener b by
    pub apart : by ≢ j
    pub stays : Stays by
    pub soon : natural by + l.delay by j ≤ natural j
    pub first : (i : ℕ) → IsListener b i → i ≢ j → natural by + l.delay by j ≤ natural i + l.delay i j

  -- when the acknowledgement of node i comes to node j, if it is another listener; else later
  arrives : (j i : ℕ) → ℕ
  arrives j i = cond (i == a || i == j) (suc (natural j)) (natural i + l.delay i j)

  arrives_other : (j i : ℕ) → i ≢ a → i ≢ j → arrives j i ≡ natural i + l.delay i j
  unfolding arrives
  arrives_other j i p q = rw (ne_eqb i a p, ne_eqb i j q) refl

  arrives_sender : (j i : ℕ) → i ≡ a → arrives j i ≡ suc (natural j)
  unfolding arrives
  arrives_sender j i e = rw (eq-eqb i a e) refl

  arrives_own : (j i : ℕ) → i ≢ a → i ≡ j → arrives j i ≡ suc (natural j)
  unfolding arrives
  arrives_own j i p e = rw (ne_eqb i a p, eq-eqb i j e) refl

  pub chosen : (j : ℕ) → IsListener b j → Stays j ⊎ Comes j
  chosen j p = elim (least_is (suc (natural j)) (arrives j) l.nodes) [
    | inl e ↦ inl (stays_by (omega arith))
    | inr r ↦ by_least r.0 r.1 r.2
  ]
    where
      stays_by : natural j < least (suc (natural j)) (arrives j) l.nodes → Stays j
      stays_by late i q apart =
          let e = arrives_other j i q.1 apart in
          let h = least_each (suc (natural j)) (arrives j) l.nodes i q.0 in
          omega arith

      comes_by : (i : ℕ) → i < l.nodes → i ≢ a → i ≢ j → least (suc (natural j)) (arrives j) l.nodes ≡ natural i + l.delay i j → natural i + l.delay i j ≤ natural j → Comes j
      comes_by i inside own apart e soon = record {
        by = i;
        listener = (inside, own);
        apart = apart;
        stays = stays;
        soon = soon;
        first = first;
      }
        where
          first : (w : ℕ) → IsListener b w → w ≢ j → natural i + l.delay i j ≤ natural w + l.delay w j
          first w q other =
              let f = arrives_other j w q.1 other in
              let h = least_each (suc (natural j)) (arrives j) l.nodes w q.0 in
              omega arith

          stays : Stays i
          stays w q other = elim (cases_lt (natural i) (natural w + l.delay w i)) [
            | inl less ↦ less
            | inr early ↦ elim (cases_eq w j) [
              | inl same ↦
                  (let f : natural w ≡ natural j = ap natural same in
                  let d : l.delay w i ≡ l.delay j i = ap (λ n. l.delay n i) same in
                  let some = is.causal.delays j i p.0 inside in
                  absurd (omega arith))
              | inr third ↦
                  (let h = first w q third in
                  let way = is.detours w i j q.0 inside p.0 in
                  absurd (omega arith))
            ]
          ]

      by_least : (i : ℕ) → i < l.nodes → least (suc (natural j)) (arrives j) l.nodes ≡ arrives j i → Stays j ⊎ Comes j
      by_least i inside e = elim (cases_eq i a) [
        | inl here ↦ (let f = arrives_sender j i here in inl (stays_by (omega arith)))
        | inr own ↦ elim (cases_eq i j) [
          | inl same ↦ (let f = arrives_own j i own same in inl (stays_by (omega arith)))
          | inr apart ↦
              (let f = arrives_other j i own apart in
              elim (cases_lt (natural j) (natural i + l.delay i j)) [
                | inl late ↦ inl (stays_by (omega arith))
                | inr soon ↦ inr (comes_by i inside own apart (omega arith) soon)
              ])
        ]
      ]

  -- the one that comes to the sender first
  pub record IsFirst (i : ℕ) : Type 0 where
    pub listener : IsListener b i
    pub stays : Stays i
    pub first : (j : ℕ) → IsListener b j → natural i + l.delay i a ≤ natural j + l.delay j a

  reaches : ℕ → ℕ → ℕ
  reaches most i = cond (i == a) most (natural i + l.delay i a)

  reaches_other : (most i : ℕ) → i ≢ a → reaches most i ≡ natural i + l.delay i a
  unfolding reaches
  reaches_other most i p = rw (ne_eqb i a p) refl

  reaches_sender : (most i : ℕ) → i ≡ a → reaches most i ≡ most
  unfolding reaches
  reaches_sender most i e = rw (eq-eqb i a e) refl

  pub the_first : (i : ℕ) × IsFirst i
  the_first = find (suc (natural is.other.0 + l.delay is.other.0 a)) (omega arith)
    where
      never : (most : ℕ) → natural is.other.0 + l.delay is.other.0 a < most → most ≤ least most (reaches most) l.nodes → ⊥
      never most some h =
          let e = reaches_other most is.other.0 is.other.1.1 in
          let low = least_each most (reaches most) l.nodes is.other.0 is.other.1.0 in
          omega arith

      first_by : (most i : ℕ) → IsListener b i → least most (reaches most) l.nodes ≡ natural i + l.delay i a → IsFirst i
      first_by most i p e = record { listener = p; stays = stays; first = first }
        where
          first : (j : ℕ) → IsListener b j → natural i + l.delay i a ≤ natural j + l.delay j a
          first j q =
              let f = reaches_other most j q.1 in
              let h = least_each most (reaches most) l.nodes j q.0 in
              omega arith

          stays : Stays i
          stays w q other = elim (cases_lt (natural i) (natural w + l.delay w i)) [
            | inl less ↦ less
            | inr early ↦
                (let h = first w q in
                let way = is.detours w i a q.0 p.0 is.sender in
                absurd (omega arith))
          ]

      find : (most : ℕ) → natural is.other.0 + l.delay is.other.0 a < most → (i : ℕ) × IsFirst i
      find most some = elim (least_is most (reaches most) l.nodes) [
        | inl e ↦ absurd (never most some (omega arith))
        | inr r ↦ elim (cases_eq r.0 a) [
          | inl here ↦ (let f = reaches_sender most r.0 here in let e = r.2 in absurd (never most some (omega arith)))
          | inr apart ↦ (r.0, first_by most r.0 (r.1, apart) (r.2 ∙ reaches_other most r.0 apart))
        ]
      ]
