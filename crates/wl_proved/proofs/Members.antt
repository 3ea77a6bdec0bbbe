-- The plan that is judged, as one of its family.
use Rattle.std.proofs.Common.{◌≡◌, ◌∙◌, refl, sym, ap, ℕ, zero, suc, ◌+◌, ◌<◌, Bool, List, [], ◌∷◌, get_or, length, true, Option, Some, None, arith}
use Rattle.std.specs.Prelude.{◌==◌, is_some}
use Rattle.std.proofs.lemmas.Bool.{and_parts, eq-eqb, eqb-true, ltb-true}
use Rattle.wl_level.proofs.Callers.{first_is, first_none}
use Rattle.wl_node.specs.declared.setup.NodeSetup.{NodeSetup}
use Rattle.wl_plan.specs.declared.plan.Plan.{Plan}
use Rattle.wl_plan.specs.PlanLine.{no_setup, setup_at}
use Rattle.wl_setup.specs.declared.plan_text.PlanText.{PlanText}
use Rattle.wl_bound.specs.Covered.{is_covered}
use Rattle.wl_bound.specs.Families.{Buses, family_of, member_at, member_of, members_of, no_member}
use Rattle.wl_bound.specs.Oscillators.{Pace}
use Rattle.wl_bound.specs.Fields.{field_of}
use Rattle.wl_bound.specs.Verdicts.{has_frames, outside_of}
use Rattle.wl_bound.specs.declared.family.Member.{Member}
use Rattle.wl_margin.specs.Paces.{keep_pace}
use Rattle.wl_margin.proofs.Callers.{members-length}
use Rattle.wl_respond.specs.declared.message.MessageWait.{MessageWait}
use Rattle.wl_respond.specs.Plans.{KeepsTable, entry_at, is_message}
use Rattle.wl_respond.specs.Senders.{family_with, first_of_node, is_of_node, is_sender, sending_by}
use Rattle.wl_respond.specs.Tables.{IsTable, messages_of}
use Rattle.wl_respond.specs.Tests.{message_at}
use Rattle.wl_respond.proofs.Sending.{family-length}
use Rattle.wl_proved.specs.Waits.{messages_asked}
use Rattle.wl_proved.specs.PlansOfFamily.{IsPlanOfFamily, IsRunnable}

pub member_is : (nodes : List NodeSetup) (paces : List Pace) → length paces ≡ length nodes → (i : ℕ) → i < length nodes
    → (pace : Pace) × (get_or (members_of nodes paces) i no_member ≡ member_of (get_or nodes i no_setup) pace)
member_is [] paces same i less = absurd (omega arith)
member_is (node ∷ nodes) [] same i less = absurd (omega arith)
member_is (node ∷ nodes) (pace ∷ paces) same zero less = (pace, refl)
member_is (node ∷ nodes) (pace ∷ paces) same (suc i) less = member_is nodes paces (omega arith) i (omega arith)

pub own_plan : (plan : Plan) (paces : List Pace) → length paces ≡ length plan.nodes → IsRunnable plan → keep_pace plan (family_of plan paces) ≡ true
    → is_covered plan ≡ true → outside_of plan ≡ None → IsPlanOfFamily (family_of plan paces) plan
own_plan plan paces same runs pace covered inside = record {
  runs = runs;
  cable = refl;
  members = members-length plan.nodes paces same;
  segments = λ i node. ap (λ m. m.segments) (member_is plan.nodes paces same i node).1;
  pace = pace;
  senders = λ i node has. ap (λ m. m.sends) (member_is plan.nodes paces same i node).1 ∙ has;
  covered = covered;
  inside = inside;
}

-- The same of a family in which each node sends that has a message.
sends_by : (by : ℕ → Bool) (j : ℕ) (members : List Member) (i : ℕ) → i < length members
    → get_or (sending_by by j members) i no_member ≡ record (get_or members i no_member) { sends = by (j + i) }
sends_by by j [] i less = absurd (omega arith)
sends_by by j (member ∷ later) zero less = ap (λ n. record member { sends = by n }) {x = j} {y = j + 0} (omega arith)
sends_by by j (member ∷ later) (suc i) less =
    sends_by by (suc j) later i (omega arith) ∙ ap (λ n. record (get_or later i no_member) { sends = by n }) {x = suc j + i} {y = j + suc i} (omega arith)

module _ (plan : Plan) (paces : List Pace) (messages : List MessageWait) (same : length paces ≡ length plan.nodes) where
  member_with : (i : ℕ) → i < length plan.nodes → member_at (family_with plan paces messages) i ≡ record (member_at (family_of plan paces) i) { sends = is_sender messages i }
  member_with i node =
      sends_by (is_sender messages) 0 (members_of plan.nodes paces) i (let all = members-length plan.nodes paces same in omega arith)
      ∙ ap (λ n. record (member_at (family_of plan paces) i) { sends = is_sender messages n }) {x = 0 + i} {y = i} (omega arith)

  pub plan_of_senders : IsRunnable plan → keep_pace plan (family_with plan paces messages) ≡ true → is_covered plan ≡ true → outside_of plan ≡ None
      → ((i : ℕ) → i < length plan.nodes → has_frames (setup_at plan i) ≡ true → is_sender messages i ≡ true) → IsPlanOfFamily (family_with plan paces messages) plan
  plan_of_senders runs pace covered inside send = record {
    runs = runs;
    cable = refl;
    members = family-length plan paces messages same;
    segments = λ i node. ap (λ m. m.segments) (member_with i node) ∙ ap (λ m. m.segments) (member_is plan.nodes paces same i node).1;
    pace = pace;
    senders = λ i node has. ap (λ m. m.sends) (member_with i node) ∙ send i node has;
    covered = covered;
    inside = inside;
  }

-- A node of a plan that keeps the table of a text has a message there if frames wait at it.
module _ (f : Buses) (any : Bool) (plain : PlanText) where
  asked_node : (table : List MessageWait) (e : ℕ) → e < length (messages_asked f any plain table)
      → (e < length table) × ((message_at (messages_asked f any plain table) e).node ≡ (message_at table e).node)
  asked_node [] e less = absurd (omega arith)
  asked_node (x ∷ later) zero less = (omega arith, refl)
  asked_node (x ∷ later) (suc e) less = let rest = asked_node later e (omega arith) in (let below = rest.0 in omega arith, rest.1)

  is_found : (messages : List MessageWait) (i e : ℕ) → e < length messages → (message_at messages e).node ≡ i → is_sender messages i ≡ true
  is_found messages i e less node = by (first_of_node messages i) refl
    where
      by : (o : Option ℕ) → first_of_node messages i ≡ o → is_some (first_of_node messages i) ≡ true
      by None none = (let no = first_none (is_of_node messages i) (length messages) none e less in let yes = eq-eqb (message_at messages e).node i node in cc)
      by (Some k) some = ap is_some some

  pub senders_have : (plan : Plan) (text : PlanText) (table : List MessageWait) → IsTable plan text table → KeepsTable plan (messages_asked f any plain table)
      → (i : ℕ) → i < length plan.nodes → has_frames (setup_at plan i) ≡ true → is_sender (messages_of plan text) i ≡ true
  senders_have plan text table is keeps i node has =
      let queue = (setup_at plan i).queue in
      let first = (keeps i node).known 0 (ltb-true 0 (length queue) has) in
      let e = first.message in
      let at = first_is (is_message (messages_asked f any plain table) i (field_of (entry_at queue 0).frame)) (length (messages_asked f any plain table)) e first.is in
      let own : (message_at (messages_asked f any plain table) e).node ≡ i = eqb-true _ _ (and_parts ((message_at (messages_asked f any plain table) e).node == i)
      ((message_at (messages_asked f any plain table) e).field == field_of (entry_at queue 0).frame) at.passes).0 in
      let asked = asked_node table e at.inside in
      let kept : (message_at table e).node ≡ (message_at (messages_of plan text) e).node = ap (λ (m : MessageWait). m.node) (is.each e asked.0).is in
      let count = is.count in
      let below = asked.0 in
      is_found (messages_of plan text) i e (omega arith) (sym kept ∙ sym asked.1 ∙ own)
