-- A plan that ends late enough for all its frames. This project's; what is taken from public texts is named.
use Rattle.std.specs.Prelude.{ℕ, zero, suc, ◌+◌, ◌*◌, ◌<◌, ◌≤◌, List, length, All}
use Rattle.wl_level.specs.declared.Level.{Level}
use Rattle.wl_clock.specs.Timing.{tick_of}
use Rattle.wl_segments.specs.Lengths.{bit_quanta}
use Rattle.wl_topology.specs.Delays.{delay_of}
use Rattle.wl_frame.specs.Grammar.{bits_of}
use Rattle.wl_frame.specs.Stuffing.{Stuffs}
use Rattle.wl_plan.specs.declared.plan.Plan.{Plan}
use Rattle.wl_plan.specs.PlanLine.{setup_at}

-- how many frames wait at the first nodes
abbrev pub frames_below : Plan → ℕ → ℕ
frames_below plan zero = 0
frames_below plan (suc n) = frames_below plan n + length (setup_at plan n).queue

-- the most bits of a frame, stuff bits among them: one for each four of its 118 (Bosch CAN 2.0 part B, section 6)
abbrev pub most_stuffed_bits : ℕ
most_stuffed_bits = 147

-- Each frame takes its bits and 24 more, as its nodes wait eleven bits at most, and 13 follow its CRC sequence (Bosch CAN 2.0 part B, section 3.1). The first one does so from the tick on at which all
-- nodes have begun and all frames are ready.
pub record EndsLate (plan : Plan) : Type 0 where
  pub bits : ℕ
  pub width : ℕ
  pub quantum : ℕ
  pub way : ℕ
  pub ready : ℕ
  -- no frame has more bits than that, stuff bits among them; no bit more quanta, if it is moved by a jump width; no quantum more ticks; no level is longer on its way
  pub frames : (i : ℕ) (y : List Level) → i < length plan.nodes → All (λ q. Stuffs y (bits_of q.frame) → length y ≤ bits) (setup_at plan i).queue
  pub widths : (i : ℕ) → i < length plan.nodes → bit_quanta (setup_at plan i).segments + (setup_at plan i).segments.sjw ≤ width
  pub quanta : (i k : ℕ) → i < length plan.nodes → tick_of (setup_at plan i).clock (suc k) ≤ tick_of (setup_at plan i).clock k + quantum
  pub ways : (i j : ℕ) → i < length plan.nodes → j < length plan.nodes → delay_of plan.topology i j ≤ way
  pub begun : (i : ℕ) → i < length plan.nodes → tick_of (setup_at plan i).clock 0 ≤ ready
  pub all_ready : (i : ℕ) → i < length plan.nodes → All (λ q. tick_of (setup_at plan i).clock q.ready ≤ ready) (setup_at plan i).queue
  pub late : ready + frames_below plan (length plan.nodes) * (way + (bits + 24) * (width * quantum)) < plan.end
