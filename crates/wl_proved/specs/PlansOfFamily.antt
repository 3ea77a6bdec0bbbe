-- The plans of a family: `margin` judges all of them at once. This project's; what is taken from public texts is named.
use Rattle.std.specs.Prelude.{◌≡◌, ◌≢◌, ℕ, ◌<◌, true, [], length, All, None}
use Rattle.wl_frame.specs.Grammar.{IsContent}
use Rattle.wl_plan.specs.declared.plan.Plan.{Plan}
use Rattle.wl_plan.specs.Checked.{IsChecked}
use Rattle.wl_plan.specs.PlanLine.{setup_at}
use Rattle.wl_bound.specs.Covered.{is_covered}
use Rattle.wl_bound.specs.Families.{Buses, member_at}
use Rattle.wl_bound.specs.Verdicts.{has_frames, outside_of}
use Rattle.wl_margin.specs.Paces.{keep_pace}

-- A plan can be run, and each frame that waits is one (Bosch CAN 2.0 part B, section 3.2.1).
pub record IsRunnable (plan : Plan) : Type 0 where
  pub checked : IsChecked plan
  pub frames : (i : ℕ) → i < length plan.nodes → All (λ q. IsContent q.frame) (setup_at plan i).queue

-- A plan has the cable and the nodes of a family, with their segments. Offsets, rates, frames, the quanta at which they become ready, the order of each queue and the end are free, but for this:
pub record IsPlanOfFamily (f : Buses) (plan : Plan) : Type 0 where
  pub runs : IsRunnable plan
  pub cable : plan.topology ≡ f.cable
  pub members : length f.members ≡ length plan.nodes
  pub segments : (i : ℕ) → i < length plan.nodes → (member_at f i).segments ≡ (setup_at plan i).segments
  -- Each clock has one rate, within the tolerance of its oscillator.
  pub pace : keep_pace plan f ≡ true
  -- Only nodes that send in the family have frames.
  pub senders : (i : ℕ) → i < length plan.nodes → has_frames (setup_at plan i) ≡ true → (member_at f i).sends ≡ true
  -- There are two nodes or more, none of which only listens or leaves the bus, and no disturbance. Each node is idle when the first frame of another one becomes ready.
  pub covered : is_covered plan ≡ true
  -- Some node has a frame, no two nodes have frames of one field, and all go by the book.
  pub inside : outside_of plan ≡ None

-- no other node has a frame
abbrev pub SendsAlone : Plan → ℕ → Type 0
SendsAlone plan sender = (i : ℕ) → i ≢ sender → (setup_at plan i).queue ≡ []
