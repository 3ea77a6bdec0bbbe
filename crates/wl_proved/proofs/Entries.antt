-- The queues of a plan that keeps a table have its messages.
use Rattle.std.proofs.Common.{◌≡◌, ◌∙◌, refl, sym, ap, subst, inl, inr, ℕ, zero, suc, ◌+◌, ◌*◌, ◌<◌, ◌≤◌, ◌&&◌, Bool, true, false, List, [], ◌∷◌, length, Some, arith}
use Rattle.std.specs.Prelude.{◌==◌, nat_le, nat_lt, slice_get, unwrap_or}
use Rattle.std.proofs.lemmas.Bool.{and_parts, cases_lt, eq-eqb, eqb-true, le-leb, leb-false, leb-true, lt-ltb, ltb-true}
use Rattle.std.proofs.lemmas.List.{length-map}
use Rattle.std.proofs.lemmas.List.Elements.{All-get_or}
use Rattle.wl_level.proofs.Callers.{first_is}
use Rattle.wl_segments.specs.Lengths.{bit_quanta, sample_at}
use Rattle.wl_frame.specs.Grammar.{Content, IsContent}
use Rattle.wl_node.specs.declared.setup.Queued.{Queued}
use Rattle.wl_node.specs.declared.setup.QueueOrder.{QueueOrder}
use Rattle.wl_node.specs.declared.setup.QueueOrder.TheVariants.{Fifo, Priority}
use Rattle.wl_node.specs.Queues.{field_number}
use Rattle.wl_phase.specs.Clocks.{Steady}
use Rattle.wl_plan.specs.declared.plan.Plan.{Plan}
use Rattle.wl_plan.specs.PlanLine.{setup_at}
use Rattle.wl_wire.specs.Winner.{Beats}
use Rattle.wl_bound.specs.Conditions.{plain}
use Rattle.wl_bound.specs.Families.{Buses, lengths_in}
use Rattle.wl_bound.specs.Fields.{field_of}
use Rattle.wl_respond.specs.declared.message.MessageWait.{MessageWait}
use Rattle.wl_respond.specs.Levels.{level_by, level_for, top_of}
use Rattle.wl_respond.specs.Plans.{ArePeriodApart, IsWithinBits, KeepsTable, entry_at, is_message, message_of, no_entry}
use Rattle.wl_respond.specs.Tests.{message_at}
use Rattle.wl_buses.specs.BothProofs.Queues.{ready_at}
use Rattle.wl_buses.specs.FamilyPlans.FamilyStations.{stations_of}
use Rattle.wl_buses.specs.BoundedWaits.Messages.{AreReadyLate, HaveMessages, IsEntry, Messages}
use Rattle.wl_proved.specs.PlansOfFamily.{IsPlanOfFamily}
use Rattle.wl_proved.specs.Waits.{is_fifo, messages_in}
use Rattle.wl_proved.proofs.Tables as table

ready_is : (queue : List Queued) → 0 < length queue → ready_at queue 0 ≡ (entry_at queue 0).ready
ready_is [] some = absurd (omega arith)
ready_is (q ∷ later) some = refl

entry_is : (queue : List Queued) (n : ℕ) (q : Queued) → slice_get queue n ≡ Some q → (n < length queue) × (entry_at queue n ≡ q)
entry_is [] n q e = cc
entry_is (x ∷ later) zero q e = (omega arith, cc)
entry_is (x ∷ later) (suc n) q e = let rest = entry_is later n q e in (let less = rest.0 in omega arith, rest.1)

not_less : (n : ℕ) → nat_lt n n ≡ false
not_less n = by (nat_lt n n) (λ h. (let less = ltb-true n n h in omega arith))
  where
    by : (v : Bool) → (v ≡ true → ⊥) → v ≡ false
    by true h = absurd (h refl)
    by false h = refl

-- what is said of a message by its place
pub record IsOf (messages : List MessageWait) (i : ℕ) (frame : Content) (e : ℕ) : Type 0 where
  pub inside : e < length messages
  pub node : (message_at messages e).node ≡ i
  pub field : (message_at messages e).field ≡ field_of frame

pub is_of : (messages : List MessageWait) (i : ℕ) (frame : Content) (e : ℕ) → message_of messages i frame ≡ Some e → IsOf messages i frame e
is_of messages i frame e is =
    let first = first_is (is_message messages i (field_of frame)) (length messages) e is in
    let parts = and_parts ((message_at messages e).node == i) ((message_at messages e).field == field_of frame) first.passes in
    record { inside = first.inside; node = eqb-true _ _ parts.0; field = eqb-true _ _ parts.1 }

not_below : (a z : ℕ) → nat_lt a z ≡ false → z ≤ a
not_below a z e = elim (cases_lt a z) [ inl less ↦ (let yes = lt-ltb a z less in cc) | inr past ↦ past ]

module _ (f : Buses) (plan : Plan) (messages : List MessageWait) (clocks : ℕ → Steady) (of : IsPlanOfFamily f plan) (keeps : KeepsTable plan messages)
    (level_is : (e : ℕ) → e < length messages → (message_at messages e).level ≡ level_for plan messages e)
    (node_is : (e : ℕ) → e < length messages → (messages_in plan messages).node e ≡ (message_at messages e).node)
    (lesser : (winner loser : Content) → IsContent loser → Beats winner loser → field_of winner < field_of loser) (number : (c : Content) → IsContent c → field_of c ≡ field_number c) where
  abbrev queue : ℕ → List Queued
  queue i = (setup_at plan i).queue

  abbrev ms : Messages
  ms = messages_in plan messages

  -- the message of an entry
  record Entry (i n : ℕ) (q : Queued) : Type 0 where
    within : n < length (queue i)
    is : entry_at (queue i) n ≡ q
    message : ℕ
    of_is : ms.of i q.frame ≡ message
    found : message_of messages i q.frame ≡ Some message
    there : IsOf messages i q.frame message
    bits : IsWithinBits q.frame (message_at messages message).bits
    content : IsContent q.frame

  entry : (i n : ℕ) (q : Queued) → i < length plan.nodes → IsEntry (setup_at plan) i n q → Entry i n q
  entry i n q node at =
      let e = entry_is (queue i) n q at in
      let has = (keeps i node).known n e.0 in
      let found : message_of messages i q.frame ≡ Some has.message = ap (λ z. message_of messages i z.frame) (sym e.1) ∙ has.is in
      record {
        within = e.0;
        is = e.1;
        message = has.message;
        of_is = ap (λ o. unwrap_or o 0) found;
        found = found;
        there = is_of messages i q.frame has.message found;
        bits = subst (λ z. IsWithinBits z.frame (message_at messages has.message).bits) e.1 has.bits;
        content = subst (λ z. IsContent z.frame) e.1 (All-get_or (λ q. IsContent q.frame) (queue i) n no_entry e.0 (of.runs.frames i node));
      }

  field_at : (i n : ℕ) (q : Queued) → Entry i n q → (message_at messages (ms.of i q.frame)).field ≡ field_of q.frame
  field_at i n q e = ap (λ m. (message_at messages m).field) e.of_is ∙ e.there.field

  -- no message is beyond its own level
  top_high : (i e : ℕ) → e < length messages → (message_at messages e).node ≡ i → (message_at messages e).field ≤ top_of messages i
  top_high i e less node = table.greatest_each (length messages) (λ e. (message_at messages e).node == i) (λ e. (message_at messages e).field) e less (eq-eqb _ _ node)

  pub level_high : (e : ℕ) → e < length messages → (message_at messages e).field ≤ (message_at messages e).level
  level_high e less = by (setup_at plan (message_at messages e).node).order refl
    where
      by : (o : QueueOrder) → (setup_at plan (message_at messages e).node).order ≡ o → (message_at messages e).field ≤ (message_at messages e).level
      by Fifo fifo =
          (let level = level_is e less ∙ ap (λ o. level_by o (top_of messages (message_at messages e).node) (message_at messages e).field) fifo in
          let top = top_high (message_at messages e).node e less refl in
          omega arith)
      by Priority prio = (let level = level_is e less ∙ ap (λ o. level_by o (top_of messages (message_at messages e).node) (message_at messages e).field) prio in omega arith)

  not_mixed : (i n : ℕ) (q : Queued) → Entry i n q → ms.mixed (ms.of i q.frame) i ≡ false
  not_mixed i n q e = by (setup_at plan i).order refl
    where
      by : (o : QueueOrder) → (setup_at plan i).order ≡ o → is_fifo (setup_at plan i).order && nat_lt (message_at messages (ms.of i q.frame)).level (top_of messages i) ≡ false
      by Priority prio = ap (λ o. is_fifo o && nat_lt (message_at messages (ms.of i q.frame)).level (top_of messages i)) prio
      by Fifo fifo =
          (let order : (setup_at plan (message_at messages e.message).node).order ≡ Fifo = ap (λ j. (setup_at plan j).order) e.there.node ∙ fifo in
          let level : (message_at messages e.message).level ≡ top_of messages i =
          level_is e.message e.there.inside ∙ ap (λ o. level_by o (top_of messages (message_at messages e.message).node) (message_at messages e.message).field) order ∙ ap (top_of messages) e.there.node in
          ap (λ o. is_fifo o && nat_lt (message_at messages (ms.of i q.frame)).level (top_of messages i)) fifo
          ∙ ap (λ m. nat_lt (message_at messages m).level (top_of messages i)) e.of_is ∙ ap (λ l. nat_lt l (top_of messages i)) level ∙ not_less (top_of messages i))

  same_field : (i m n : ℕ) (p q : Queued) → Entry i m p → Entry i n q → ms.of i p.frame ≡ ms.of i q.frame → field_of p.frame ≡ field_of q.frame
  same_field i m n p q a z same = sym (field_at i m p a) ∙ ap (λ e. (message_at messages e).field) same ∙ field_at i n q z

  -- a field beyond a level is the greater
  over : (m i n j k : ℕ) (beyond inside : Queued) → Entry i n beyond → Entry j k inside → ms.joins m (ms.of i beyond.frame) ≡ false → ms.joins m (ms.of j inside.frame) ≡ true
      → field_of inside.frame < field_of beyond.frame
  over m i n j k beyond inside a z no_join join =
      let one = field_at i n beyond a in
      let other = field_at j k inside z in
      let within = leb-true (message_at messages (ms.of j inside.frame)).field (message_at messages m).level join in
      let above = leb-false (message_at messages (ms.of i beyond.frame)).field (message_at messages m).level no_join in
      omega arith

  pub have : HaveMessages (stations_of f plan clocks) (setup_at plan) ms
  have = record {
    known = λ i n q node at. (let e = entry i n q node at in let there = e.there.inside in let is = e.of_is in omega arith);
    node = λ i n q node at. (let e = entry i n q node at in ap ms.node e.of_is ∙ node_is e.message e.there.inside ∙ e.there.node);
    ordered = λ i m n p q node less one other.
        (let a = entry i m p node one in
        let z = entry i n q node other in
        let up = (keeps i node).ordered m n less z.within in
        let first = ap (λ y. y.ready) a.is in
        let last = ap (λ y. y.ready) z.is in
        omega arith);
    apart = λ i m n p q node less one other same.
        (let a = entry i m p node one in
        let z = entry i n q node other in
        let spaced : ArePeriodApart messages i p q =
        subst (λ y. ArePeriodApart messages i y q) a.is (subst (λ y. ArePeriodApart messages i (entry_at (queue i) m) y) z.is ((keeps i node).apart m n less z.within)) in
        let far = spaced a.message a.found (same_field i m n p q a z same) in
        let every = ap (λ e. (message_at messages e).every) a.of_is in
        omega arith);
    short = λ i n q levels node at stuffs. (let e = entry i n q node at in subst (λ m. length levels ≤ (message_at messages m).bits) (sym e.of_is) (e.bits levels stuffs));
    one_field = λ i m n p q node prio one other same.
        (let a = entry i m p node one in
        let z = entry i n q node other in
        sym (number p.frame a.content) ∙ same_field i m n p q a z same ∙ number q.frame z.content);
    own = λ i n q node at.
        (let e = entry i n q node at in
        ap (λ m. nat_le (message_at messages m).field (message_at messages m).level) e.of_is ∙ le-leb _ _ (level_high e.message e.there.inside));
    pure = λ i n q node at. not_mixed i n q (entry i n q node at);
    within = λ m i n q node fifo at none.
        (let e = entry i n q node at in
        let low = not_below (message_at messages m).level (top_of messages i) (sym (ap (λ o. is_fifo o && nat_lt (message_at messages m).level (top_of messages i)) fifo) ∙ none) in
        let top = top_high i e.message e.there.inside e.there.node in
        ap (λ k. nat_le (message_at messages k).field (message_at messages m).level) e.of_is ∙ le-leb _ _ (omega arith));
    stronger = λ m i n j k beyond inside ni nj one other no_join join beats.
        (let a = entry i n beyond ni one in
        let z = entry j k inside nj other in
        let above = over m i n j k beyond inside a z no_join join in
        let less = lesser beyond.frame inside.frame z.content beats in
        omega arith);
    greater = λ m i n k beyond inside node prio one other no_join join.
        (let a = entry i n beyond node one in
        let z = entry i k inside node other in
        let above = over m i n i k beyond inside a z no_join join in
        let first = number beyond.frame a.content in
        let last = number inside.frame z.content in
        omega arith);
  }

  lengths : (i : ℕ) → i < length plan.nodes → lengths_in f plain i ≡ (setup_at plan i).segments
  unfolding lengths_in
  lengths i node = of.segments i node

  pub late : AreReadyLate (stations_of f plan clocks) (setup_at plan)
  late i node some =
      let all = length-map (queue i) (λ q. q.frame) in
      let first : 0 < length (queue i) = omega arith in
      let ready = ready_is (queue i) first in
      let from = (keeps i node).late 0 first in
      subst (λ l. 10 * bit_quanta l + sample_at l ≤ ready_at (queue i) 0) (sym (lengths i node)) (omega arith)
