-- Worked values of the frame that a machine begins (Bosch CAN 2.0 part B, section 3.2.5).
use Rattle.std.proofs.Common.{◌≡◌, refl, Some, None}
use Rattle.wl_level.specs.declared.Level.TheVariants.{Dominant}
use Rattle.wl_confine.specs.declared.Mode.TheVariants.{Active, Passive}
use Rattle.wl_frame.specs.Grammar.{Content}
use Rattle.wl_machine.specs.declared.state.Role.TheVariants.{Tx, Rx}
use Rattle.wl_machine.specs.Stretch.Sort.{Idle, Framing, Intermission, Suspension}
use Rattle.wl_machine.specs.States.{sample_of}
use Rattle.wl_wire.specs.Begins.{frame_begun}

-- in the third bit of an intermission a machine begins the frame that it is handed, and one that was the sender too
third_bit : (c : Content) → frame_begun (Intermission Rx) (sample_of Dominant (Some c) Active) ≡ Some c
third_bit c = refl

third_after_own : (c : Content) → frame_begun (Intermission Tx) (sample_of Dominant (Some c) Active) ≡ Some c
third_after_own c = refl

third_without : frame_begun (Intermission Rx) (sample_of Dominant None Active) ≡ None
third_without = refl

-- an error passive sender would be suspended, so it begins none
third_passive : (c : Content) → frame_begun (Intermission Tx) (sample_of Dominant (Some c) Passive) ≡ None
third_passive c = refl

-- on an idle bus, or suspended, it receives; a frame that it is to begin it sends, whatever it is handed
idle_receives : (c : Content) → frame_begun Idle (sample_of Dominant (Some c) Active) ≡ None
idle_receives c = refl

suspended_receives : (c : Content) → frame_begun Suspension (sample_of Dominant (Some c) Active) ≡ None
suspended_receives c = refl

due_sends : (c d : Content) → frame_begun (Framing (Some c)) (sample_of Dominant (Some d) Active) ≡ Some c
due_sends c d = refl
