-- What a node of a small plan finds, computed: a disturbance at its place from tick 1 up to tick 3, which takes a tick to it.
use Rattle.std.specs.Prelude.{◌≡◌, true, false, [], ◌∷◌, map, None, refl}
use Rattle.wl_clock.specs.Timing.{tick_of}
use Rattle.wl_segments.specs.declared.SyncRules.TheVariants.{After}
use Rattle.wl_node.specs.declared.setup.QueueOrder.TheVariants.{Fifo}
use Rattle.wl_node.specs.History.{history_of, staying_history}
use Rattle.wl_plan.specs.declared.plan.Plan.{Plan}
use Rattle.wl_plan.specs.Simulation.{history}
use Rattle.wl_views.specs.Signals.{node_signals, signals}

small : Plan
small = record {
  nodes = record {
    clock = record { offset = 0; rates = record { from = 0; num = 1; den = 1 } ∷ [] };
    segments = record { prop = 1; ps1 = 1; ps2 = 2; sjw = 1; sync = After };
    queue = [];
    order = Fifo;
    until = None;
  } ∷ [];
  topology = record { places = record { x = 0; out_delay = 0; in_delay = 1; listens = false } ∷ []; per = 1 };
  disturbances = record { node = None; x = 0; from = 1; to = 3 } ∷ [];
  end = 6;
}

finds : map (λ t. map (λ s. s.rx) (signals small t)) (0 ∷ 1 ∷ 2 ∷ 3 ∷ 4 ∷ []) ≡ (true ∷ []) ∷ (true ∷ []) ∷ (false ∷ []) ∷ (false ∷ []) ∷ (true ∷ []) ∷ []
unfolding small node_signals history history_of staying_history tick_of
finds = refl

drives : map (λ t. map (λ s. s.tx) (signals small t)) (0 ∷ 3 ∷ []) ≡ (true ∷ []) ∷ (true ∷ []) ∷ []
unfolding small node_signals history history_of staying_history tick_of
drives = refl

-- A bit of five quanta is sampled at the end of the third, but the edge at tick 2 is late: PHASE_SEG1 is longer by the jump width of 1,
-- so that the sample, which turns the mark, is at tick 4 (Bosch CAN 2.0 part A, section 8).
samples : map (λ t. map (λ s. s.sample) (signals small t)) (1 ∷ 2 ∷ 3 ∷ 4 ∷ 5 ∷ []) ≡ (false ∷ []) ∷ (false ∷ []) ∷ (false ∷ []) ∷ (true ∷ []) ∷ (true ∷ []) ∷ []
unfolding small node_signals history history_of staying_history tick_of
samples = refl
