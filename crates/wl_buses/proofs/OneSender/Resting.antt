-- A bus at rest: no level is under way, and each node counts recessive samples until the bus is idle to it.
use Rattle.std.proofs.Common.{◌≡◌, ℕ, suc, ◌+◌, ◌-◌, ◌*◌, ◌<◌, ◌≤◌, List, [], false, arith}
use Rattle.wl_level.specs.declared.Level.{Level}
use Rattle.wl_segments.specs.Lengths.{sample_at, bit_quanta}
use Rattle.wl_frame.specs.Stuffing.{Stuffs}
use Rattle.wl_frame.specs.Grammar.{Content, IsContent, bits_of}
use Rattle.wl_phase.specs.Clocks.{steady_tick}
use Rattle.wl_phase.proofs.Callers.{tick_up}
use Rattle.wl_plan.specs.Line.{Line}
use Rattle.wl_plan.specs.Simulation.{level}
use Rattle.wl_buses.specs.BothProofs.Expected.{levels_found}
use Rattle.wl_buses.specs.OneSender.OneSender.{SenderBus, IsBus, IsListener, lengths_of}
use Rattle.wl_buses.proofs.OneSender.Nodes.{ClockGoes}
use Rattle.wl_buses.proofs.OneSender.Silence.{Waits, IsSilentAt, Decides, at_first, integrating}

module _ (clocks : ClockGoes) (b : SenderBus) (is : IsBus b) where
  abbrev l : Line
  l = b.line

  abbrev a : ℕ
  a = b.sender

  abbrev S : ℕ → ℕ
  S i = sample_at (lengths_of b i)

  abbrev B : ℕ → ℕ
  B i = bit_quanta (lengths_of b i)

  abbrev tick : ℕ → ℕ → ℕ
  tick i k = steady_tick (b.clocks i) k

  abbrev pub actual : ℕ → ℕ → Level
  actual i k = levels_found l (level l) i k

  pub up : (i : ℕ) → i < l.nodes → (k n : ℕ) → k ≤ n → tick i k ≤ tick i n
  up i inside k n h = tick_up (b.clocks i) (is.steady i inside).divides k n h

  -- node i, of which so many quanta begin before a tick
  pub record RestsAt (t i : ℕ) (inside : i < l.nodes) : Type 0 where
    pub start : ℕ
    pub before : (k : ℕ) → k < start → tick i k < t
    pub after : t ≤ tick i start
    pub base : ℕ
    pub waits : Waits base (S i) (B i)
    pub state : IsSilentAt clocks (b.setups i) (is.book i inside) (actual i) base waits start

  pub record Rests (t : ℕ) : Type 0 where
    pub quiet : (i j u : ℕ) → i < l.nodes → j < l.nodes → u < t → t ≤ u + l.delay i j → level l i u ≡ false
    pub node : (i : ℕ) → (inside : i < l.nodes) → RestsAt t i inside
    pub soon : (node a is.sender).start ≤ (node a is.sender).base + 10 * B a + S a

  -- The sender begins a frame with this quantum, after bit m since then. Each other node awaits it when it arrives, and has none.
  pub record SendsNext (t : ℕ) (rest : Rests t) (frame : Content) (y : List Level) (from m : ℕ) : Type 0 where
    pub content : IsContent frame
    pub stuffs : Stuffs y (bits_of frame)
    pub decides : Decides (b.setups a) ((rest.node a is.sender).waits.passed 10) (rest.node a is.sender).base (S a) (B a) frame m
    pub from_is : from ≡ (rest.node a is.sender).base + suc m * B a
    pub alone : (j : ℕ) → IsListener b j → (b.setups j).queue ≡ []
    pub spaced : (j : ℕ) → (p : IsListener b j)
        → tick j ((rest.node j p.0).base + ((rest.node j p.0).waits.enough - 1) * B j + S j) < tick a from + l.delay a j

  -- it is at rest before the nodes power up
  unfoldable pub rests_first : Rests 0
  rests_first = record {
    quiet = λ i j u ni nj early come. absurd (omega arith);
    node = λ i inside. record {
      start = 0;
      before = λ k less. absurd (omega arith);
      after = omega arith;
      base = 0;
      waits = integrating (S i) (B i);
      state = at_first clocks (b.setups i) (is.book i inside) (actual i);
    };
    soon = omega arith;
  }
