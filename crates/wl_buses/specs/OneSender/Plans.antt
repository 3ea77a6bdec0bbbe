-- A plan whose nodes have clocks of one rate, as a bus.
use Rattle.std.specs.Prelude.{ℕ, List}
use Rattle.wl_level.specs.declared.Level.{Level}
use Rattle.wl_frame.specs.Grammar.{Content}
use Rattle.wl_plan.specs.declared.plan.Plan.{Plan}
use Rattle.wl_plan.specs.PlanLine.{line_of, setup_at}
use Rattle.wl_phase.specs.Clocks.{Steady}
use Rattle.wl_buses.specs.OneSender.OneSender.{SenderBus}

abbrev pub sender_bus_of : Plan → (clocks : ℕ → Steady) → (sender : ℕ) → Content → (stuffed : List Level) → (decides : ℕ) → SenderBus
sender_bus_of plan clocks sender frame stuffed decides = record {
  line = line_of plan;
  setups = setup_at plan;
  clocks = clocks;
  sender = sender;
  frame = frame;
  stuffed = stuffed;
  decides = decides;
}
