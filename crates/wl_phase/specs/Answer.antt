-- A listener's acknowledgement, there and back: when the sender finds it.
use Rattle.std.specs.Prelude.{◌≡◌, ℕ, suc, ◌+◌, ◌-◌, ◌*◌, ◌<◌, ◌≤◌, false, []}
use Rattle.wl_level.specs.declared.Level.{Level}
use Rattle.wl_level.specs.declared.Level.TheVariants.{Dominant, Recessive}
use Rattle.wl_segments.specs.Lengths.{Lengths, sample_at, bit_quanta}
use Rattle.wl_sync.specs.declared.Beat.TheVariants.{Sample}
use Rattle.wl_sync.specs.declared.Seen.{Seen}
use Rattle.wl_sync.specs.Bits.{beat_of}
use Rattle.wl_sync.specs.Running.{clock_after}
use Rattle.wl_sync.specs.Skips.{steady_clock}
use Rattle.wl_phase.specs.Clocks.{Finds, Steady, steady_tick}
use Rattle.wl_phase.specs.Ways.{moved_to}
use Rattle.wl_phase.specs.InStep.{Sender, Listener, bit_parts, quantum_parts, tick_parts, faster_parts, samples_from, seen_before}

-- the tick at which the listener's next bit begins to reach the sender, where nothing moves that bit after the sample of the one before by quantum k: it
-- begins PHASE_SEG2 later, and takes its quanta; `back` is the delay back
abbrev pub answer_begin : Listener → (back k : ℕ) → ℕ
answer_begin j back k = steady_tick j.clock (k + j.lengths.ps2) + back

abbrev pub answer_end : Listener → (back k : ℕ) → ℕ
answer_end j back k = steady_tick j.clock (k + j.lengths.ps2 + bit_quanta j.lengths) + back

-- the sender's quantum at which bit b is sampled, if nothing moves it
abbrev pub own_sample : Sender → Lengths → ℕ → ℕ
own_sample s own b = s.from + b * s.bit_quanta + sample_at own

-- An acknowledgement is in time, with so many ticks there and back: it comes by the sample of its bit, though ten bits' drift makes it late; and not before
-- the sample of the bit before, though the listener looks at the line once a quantum, ticks are rounded, and ten bits' drift makes it early. And a bit of
-- the sender is longer than one of the listener by the sender's jump width at most, so that what the listener drives in a bit is there until a sample that
-- it moves. All is in the same parts of a tick: a bit and a quantum of the sender, a quantum of the listener, and a tick (Bosch CAN 2.0 part B, section 10,
-- PROP_SEG, and section 3.2.1, ACK field).
pub record IsInTime (own : Lengths) (bit own_quantum : ℕ) (l : Lengths) (quantum tick there_and_back : ℕ) : Type 0 where
  pub late : there_and_back * tick + 10 * (bit_quanta l * quantum - bit) ≤ sample_at own * own_quantum
  pub early : quantum + 2 * tick + 10 * (bit - bit_quanta l * quantum) ≤ own.ps2 * own_quantum + there_and_back * tick
  pub jump : 10 * bit ≤ 10 * (bit_quanta l * quantum) + own.sjw * own_quantum

-- a quantum of the sender, in the parts of a tick that both clocks have
abbrev pub own_parts : Sender → Listener → ℕ
own_parts s j = j.clock.den * s.clock.num

abbrev pub ComesInTime : Sender → Lengths → Listener → (back : ℕ) → Type 0
ComesInTime s own j back = IsInTime own (bit_parts s j) (own_parts s j) j.lengths (quantum_parts s j) (tick_parts s j) (j.delay + back)

-- What the listener drives in the bit after bit d, which it sampled by quantum k, reaches the sender not before the sample of bit d, and by the sample of the
-- next bit. There it stays, from the quantum that finds it first, up to the sample where that edge puts it, and where the jump width does.
pub record IsAnswered (s : Sender) (own : Lengths) (j : Listener) (back d k : ℕ) : Type 0 where
  pub after : steady_tick s.clock (own_sample s own d) < answer_begin j back k
  pub before : answer_begin j back k ≤ steady_tick s.clock (own_sample s own (suc d))
  pub lasts : (n i : ℕ) → Finds s.clock n (answer_begin j back k) → i < n + sample_at own → steady_tick s.clock i < answer_end j back k
  pub lasts_early : (i : ℕ) → i + own.sjw ≤ own_sample s own (suc d) → steady_tick s.clock i < answer_end j back k

-- A node has sampled a recessive bit by quantum k, and nothing moved that bit. It finds a recessive line up to quantum n, and from n on a dominant one, in
-- the time up to its next sample, as the edge moves it; at n it drives recessive and awaits no start of frame.
pub record FindsDominant (l : Lengths) (seen : ℕ → Seen) (k n : ℕ) : Type 0 where
  pub clock : clock_after l (seen_before seen (suc k)) ≡ steady_clock l
  pub later : k < n
  pub inside : n ≤ k + bit_quanta l
  pub silent : (i : ℕ) → k < i → i < n → (seen i).level ≡ Recessive
  pub there : (i : ℕ) → n ≤ i → i ≤ n + moved_to (sample_at l - 1) l.sjw (k + bit_quanta l - n) → (seen i).level ≡ Dominant
  pub awaits : (seen n).awaits ≡ false
  pub driving : (seen n).driving ≡ false

-- the first sample after quantum k is that of quantum m, and it has this level
pub record SamplesNext (l : Lengths) (seen : ℕ → Seen) (k m : ℕ) (level : Level) : Type 0 where
  pub beat : beat_of l (seen_before seen m) (seen m) ≡ Sample level
  pub quanta : ℕ
  pub place : suc k + quanta ≡ m
  pub first : samples_from l seen (suc k) quanta ≡ []

-- What the sender finds after the sample of bit d, which was recessive and which nothing moved: a recessive line up to the acknowledgement of a listener that
-- sampled bit d by quantum k, and a dominant one while that is there. It drives recessive then, and awaits no start of frame.
pub record HearsAnswer (s : Sender) (own : Lengths) (j : Listener) (back d k : ℕ) (seen : ℕ → Seen) : Type 0 where
  pub clock : clock_after own (seen_before seen (suc (own_sample s own d))) ≡ steady_clock own
  pub silent : (i : ℕ) → own_sample s own d < i → steady_tick s.clock i < answer_begin j back k → (seen i).level ≡ Recessive
  pub there : (i : ℕ) → answer_begin j back k ≤ steady_tick s.clock i → steady_tick s.clock i < answer_end j back k → (seen i).level ≡ Dominant
  pub awaits : (i : ℕ) → Finds s.clock i (answer_begin j back k) → (seen i).awaits ≡ false
  pub driving : (i : ℕ) → Finds s.clock i (answer_begin j back k) → (seen i).driving ≡ false

-- The acknowledgement is over by the sender's sample of the ACK delimiter, though eleven bits' drift makes its end late (Bosch CAN 2.0 part B, section 3.2.1, ACK field).
abbrev pub EndsInTime : Sender → Lengths → Listener → (back : ℕ) → Type 0
EndsInTime s own j back = (j.delay + back) * tick_parts s j + 11 * faster_parts s j ≤ sample_at own * own_parts s j

-- the quantum at which a node samples next that has sampled by quantum k, and by quantum n finds an edge
abbrev pub moved_sample : Lengths → (k n : ℕ) → ℕ
moved_sample l k n = n + moved_to (sample_at l - 1) l.sjw (k + bit_quanta l - n)

-- Up to a bit after that sample the line goes recessive at some quantum, and stays so.
pub record FindsItsEnd (l : Lengths) (seen : ℕ → Seen) (m : ℕ) : Type 0 where
  pub end : ℕ
  pub by_sample : end ≤ m + bit_quanta l
  pub before : (i : ℕ) → m < i → i < end → (seen i).level ≡ Dominant
  pub after : (i : ℕ) → end ≤ i → i ≤ m + bit_quanta l → (seen i).level ≡ Recessive

-- by how much a bit of listener i is longer than one of listener j, in the parts of a tick that the three clocks have
abbrev pub longer_parts : Sender → (i j : Listener) → ℕ
longer_parts s i j =
    j.clock.den * (bit_quanta i.lengths * quantum_parts s i) - i.clock.den * (bit_quanta j.lengths * quantum_parts s j)

-- The acknowledgement of listener i is no earlier at listener j, with so many ticks between them, than that one's sample of the bit before: though i begins its bit
-- before the edge that it follows, ticks are rounded, and in the nine bits since that edge, which both follow, the bits of j may be longer. In those parts.
abbrev pub ComesAfterSample : Sender → (i j : Listener) → (between : ℕ) → Type 0
ComesAfterSample s i j between =
    j.clock.den * (quantum_parts s i + 2 * tick_parts s i) + 9 * longer_parts s j i
    + i.clock.den * (sample_at j.lengths * quantum_parts s j + j.delay * tick_parts s j)
    ≤ j.clock.den * (bit_quanta i.lengths * quantum_parts s i + (i.delay + between) * tick_parts s i)

-- It is over there by j's sample of the ACK delimiter, though j begins its bit before the edge that it follows, and the bits of i may be longer.
abbrev pub EndsBeforeSample : Sender → (i j : Listener) → (between : ℕ) → Type 0
EndsBeforeSample s i j between =
    j.clock.den * (2 * bit_quanta i.lengths * quantum_parts s i + (i.delay + between) * tick_parts s i) + 9 * longer_parts s i j
    + i.clock.den * (quantum_parts s j + tick_parts s j)
    ≤ i.clock.den * ((sample_at j.lengths + 2 * bit_quanta j.lengths) * quantum_parts s j + j.delay * tick_parts s j)

-- The acknowledgement of listener i moves a node of this clock and these segments, which is in its PHASE_SEG2: it is there until that one's next sample, wherever it puts that,
-- and over by the one after it. In the parts of a tick that both clocks have.
pub record FitsBit (i : Listener) (c : Steady) (l : Lengths) : Type 0 where
  pub until : sample_at l * (i.clock.den * c.num) + i.clock.den * c.den ≤ c.den * (bit_quanta i.lengths * i.clock.num)
  pub far : bit_quanta l * (i.clock.den * c.num) ≤ c.den * (bit_quanta i.lengths * i.clock.num) + l.sjw * (i.clock.den * c.num)
  pub over : c.den * (bit_quanta i.lengths * i.clock.num) + i.clock.den * c.den ≤ (sample_at l - 1 + bit_quanta l) * (i.clock.den * c.num)

-- The acknowledgement of listener j is over by that node's sample of the ACK delimiter too, though that of i has moved it, and j's bits may be longer. So many ticks lie between
-- the node and each of them. In the parts of a tick that the four clocks have.
abbrev pub EndsAfterMove : Sender → (i j : Listener) → (c : Steady) → (l : Lengths) → (from_i from_j : ℕ) → Type 0
EndsAfterMove s i j c l from_i from_j =
    j.clock.den * c.den * (quantum_parts s i + 2 * tick_parts s i)
    + i.clock.den * c.den * (2 * bit_quanta j.lengths * quantum_parts s j + (j.delay + from_j) * tick_parts s j)
    + 9 * (i.clock.den * c.den * (bit_quanta j.lengths * quantum_parts s j) - j.clock.den * c.den * (bit_quanta i.lengths * quantum_parts s i))
    ≤ j.clock.den * c.den * (bit_quanta i.lengths * quantum_parts s i + (i.delay + from_i) * tick_parts s i)
    + (sample_at l - 1 + bit_quanta l) * (s.clock.den * i.clock.den * j.clock.den * c.num)

-- A node finds an acknowledgement by quantum m, after quantum n, by which it has sampled the bit before: in PHASE_SEG2, and it stays there until the sample that it moves.
pub record FindsEarly (l : Lengths) (c : Steady) (begin end n m : ℕ) : Type 0 where
  pub after : n < m
  pub early : m ≤ n + l.ps2
  pub finds : Finds c m begin
  pub lasts : (x : ℕ) → x ≤ moved_sample l n m → steady_tick c x < end
