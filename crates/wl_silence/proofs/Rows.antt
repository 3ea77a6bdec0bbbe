-- Worked rows: a clock from a later quantum on, queues and frames by later quanta, and frames that pass a node.
use Rattle.std.proofs.Common.{◌≡◌, ℕ, true, false, [], ◌∷◌, None, Some, refl}
use Rattle.std.specs.Prelude.{◌==◌, if◌then◌else◌}
use Rattle.wl_segments.specs.declared.SyncRules.TheVariants.{Book}
use Rattle.wl_frame.specs.Grammar.{Content}
use Rattle.wl_node.specs.declared.setup.NodeSetup.{NodeSetup}
use Rattle.wl_node.specs.declared.setup.QueueOrder.TheVariants.{Fifo}
use Rattle.wl_node.specs.History.{History, no_history}
use Rattle.wl_node.specs.Queues.{head_by}
use Rattle.wl_phase.specs.Clocks.{Steady, clock_from, steady_tick}
use Rattle.wl_silence.specs.Restarts.{passed_since, setup_since}
use Rattle.wl_silence.specs.Shown.{frames_passing}
use Rattle.wl_silence.specs.Silences.{eleventh_of}

-- 3/2 ticks a quantum: quanta 3, 4 and 5 begin at ticks 5, 7 and 8, and so do quanta 0, 1 and 2 from quantum 3 on
abbrev clock : Steady
clock = record { offset = 1; part = 0; num = 3; den = 2 }

third : steady_tick clock 3 ≡ 5
unfolding steady_tick
third = refl

first_of_later : steady_tick (clock_from clock 3) 0 ≡ 5
unfolding steady_tick
first_of_later = refl

-- Its quanta begin at ticks that are rounded down once: a clock that began at tick 5 would have its quantum 1 at tick 6.
next_of_later : steady_tick (clock_from clock 3) 1 ≡ 7
unfolding steady_tick
next_of_later = refl

after_that : steady_tick (clock_from clock 3) 2 ≡ 8
unfolding steady_tick
after_that = refl

abbrev frame : ℕ → Content
frame id = record { extended = false; id = id; remote = false; dlc = 0; bytes = [] }

abbrev setup : NodeSetup
setup = record {
  clock = record { offset = 0; rates = record { from = 0; num = 1; den = 1 } ∷ [] };
  segments = record { prop = 6; ps1 = 6; ps2 = 3; sjw = 3; sync = Book };
  queue = record { frame = frame 1; ready = 10 } ∷ record { frame = frame 2; ready = 500 } ∷ record { frame = frame 3; ready = 900 } ∷ [];
  order = Fifo;
  until = None;
}

-- one of its three frames is sent: the fresh node at quantum 600 has the two others, one ready at once and one 300 quanta later
abbrev before : History
before = record no_history { frames = record { sent = true; quantum = 300; frame = frame 1 } ∷ record { sent = false; quantum = 450; frame = frame 7 } ∷ [] }

left_over : (setup_since setup 600 before).queue ≡ record { frame = frame 2; ready = 0 } ∷ record { frame = frame 3; ready = 300 } ∷ []
left_over = refl

handed_at_once : head_by Fifo (setup_since setup 600 before).queue 0 ≡ Some (frame 2)
handed_at_once = refl

later_passed : passed_since 600 (record { sent = true; quantum = 44; frame = frame 2 }) ≡ record { sent = true; quantum = 644; frame = frame 2 }
later_passed = refl

eleventh : eleventh_of setup.segments ≡ 173
eleventh = refl

-- of three frames of nodes 2, 0 and 2 node 2 has sent two
abbrev senders : ℕ → ℕ
senders n = if n == 1 then 0 else 2

passes_two : frames_passing senders frame 2 3 ≡ (true, frame 0) ∷ (false, frame 1) ∷ (true, frame 2) ∷ []
passes_two = refl
