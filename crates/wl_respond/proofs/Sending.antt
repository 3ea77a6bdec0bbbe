-- A plan on which one frame waits at each node with a message: it can be run, and its family is that of the messages.
use Rattle.std.proofs.Common.{◌≡◌, refl, ap, ℕ, zero, suc, ◌<◌, ◌≤◌, List, [], ◌∷◌, length, get_or, All, Bool, Option, Some, None, arith}
use Rattle.std.specs.Prelude.{is_some, nat_lt}
use Rattle.wl_node.specs.declared.setup.NodeSetup.{NodeSetup}
use Rattle.wl_plan.specs.declared.plan.Plan.{Plan}
use Rattle.wl_plan.specs.Checked.{HasFewQuanta, IsChecked}
use Rattle.wl_plan.specs.Limits.{most_queued}
use Rattle.wl_clock.specs.Timing.{IsTiming}
use Rattle.wl_segments.specs.Lengths.{AreLengths}
use Rattle.wl_bound.specs.Families.{family_of, members_of}
use Rattle.wl_bound.specs.Oscillators.{Pace}
use Rattle.wl_bound.specs.declared.family.Member.{Member}
use Rattle.wl_margin.proofs.Callers.{members-length}
use Rattle.wl_respond.specs.declared.message.MessageWait.{MessageWait}
use Rattle.wl_respond.specs.Senders.{family_with, first_of_node, entry_by, is_sender, senders, sending_by, sending_plan, with_one_entry}

module _ (messages : List MessageWait) where
  pub senders-length : (i : ℕ) (nodes : List NodeSetup) → length (senders messages i nodes) ≡ length nodes
  senders-length i [] = refl
  senders-length i (node ∷ later) = ap suc (senders-length (suc i) later)

  -- what clocks and segments keep
  module _ (P : NodeSetup → Type 0) where
    keep_at : ((i : ℕ) (node : NodeSetup) → P node → P (with_one_entry messages i node)) → (i : ℕ) (nodes : List NodeSetup) → All P nodes
        → (k : ℕ) (d : NodeSetup) → k < length (senders messages i nodes) → P (get_or (senders messages i nodes) k d)
    keep_at keep i [] all k d less = absurd (omega arith)
    keep_at keep i (node ∷ later) all zero d less = keep i node (all 0 d (omega arith))
    keep_at keep i (node ∷ later) all (suc k) d less = keep_at keep (suc i) later (λ j e inside. all (suc j) e (omega arith)) k d (omega arith)

    have_at : ((i : ℕ) (node : NodeSetup) → P (with_one_entry messages i node)) → (i : ℕ) (nodes : List NodeSetup)
        → (k : ℕ) (d : NodeSetup) → k < length (senders messages i nodes) → P (get_or (senders messages i nodes) k d)
    have_at has i [] k d less = absurd (omega arith)
    have_at has i (node ∷ later) zero d less = has i node
    have_at has i (node ∷ later) (suc k) d less = have_at has (suc i) later k d (omega arith)

  one_most : (o : Option ℕ) → length (entry_by messages o) ≤ 1
  one_most None = omega arith
  one_most (Some e) = omega arith

  some_sends : (o : Option ℕ) → nat_lt 0 (length (entry_by messages o)) ≡ is_some o
  some_sends None = refl
  some_sends (Some e) = refl

  pub is_checked : (plan : Plan) → IsChecked plan → 1 ≤ most_queued → IsChecked (sending_plan plan messages)
  is_checked plan is some =
      let long = senders-length 0 plan.nodes in
      let nodes = is.some_node in
      let few = is.few_nodes in
      let placed = is.placed in record {
        clocks = keep_at (λ node. IsTiming node.clock) (λ i node h. h) 0 plan.nodes is.clocks;
        segments = keep_at (λ node. AreLengths node.segments) (λ i node h. h) 0 plan.nodes is.segments;
        cable = is.cable;
        some_node = omega arith;
        few_nodes = omega arith;
        placed = omega arith;
        ends = omega arith;
        few_quanta = have_at (HasFewQuanta 0) (λ i node k less. absurd (omega arith)) 0 plan.nodes;
        short_queues = have_at (λ node. length node.queue ≤ most_queued) (λ i node. (let most = one_most (first_of_node messages i) in omega arith)) 0 plan.nodes;
        few_disturbances = omega arith;
        disturbances = λ k d less. absurd (omega arith);
      }

  members_same : (i : ℕ) (nodes : List NodeSetup) (paces : List Pace)
      → members_of (senders messages i nodes) paces ≡ sending_by (is_sender messages) i (members_of nodes paces)
  members_same i [] paces = refl
  members_same i (node ∷ later) [] = refl
  members_same i (node ∷ later) (pace ∷ paces) =
      let sends = some_sends (first_of_node messages i) in
      λ k. record { oscillator = pace; segments = node.segments; sends = sends k } ∷ members_same (suc i) later paces k

  pub family_same : (plan : Plan) (paces : List Pace) → family_of (sending_plan plan messages) paces ≡ family_with plan paces messages
  family_same plan paces = ap (λ members. record { members = members; cable = plan.topology }) (members_same 0 plan.nodes paces)

pub sending-length : (by : ℕ → Bool) (i : ℕ) (members : List Member) → length (sending_by by i members) ≡ length members
sending-length by i [] = refl
sending-length by i (member ∷ later) = ap suc (sending-length by (suc i) later)

-- each node of the plan is in its family
pub family-length : (plan : Plan) (paces : List Pace) (messages : List MessageWait) → length paces ≡ length plan.nodes
    → length (family_with plan paces messages).members ≡ length plan.nodes
family-length plan paces messages same =
    let all = sending-length (is_sender messages) 0 (members_of plan.nodes paces) in
    let each = members-length plan.nodes paces same in
    omega arith
