-- Each entry of a queue comes on the bus of a plan.
use Rattle.std.proofs.Common.{◌≡◌, ◌≢◌, ◌∙◌, inl, inr, refl, sym, ap, ap₂, subst, ℕ, zero, suc, ◌+◌, ◌<◌, ◌≤◌, cond, List, [], ◌∷◌, length, None, Some, arith}
use Rattle.std.specs.Prelude.{◌==◌, slice_get}
use Rattle.std.proofs.lemmas.Bool.{cases_Bool, cases_eq, cases_lt, eq-eqb, eqb-true, ne_eqb}
use Rattle.std.proofs.lemmas.List.{nil_from_length}
use Rattle.std.proofs.lemmas.Option.{slice_get_within}
use Rattle.wl_counts.specs.Counts.{sum_below}
use Rattle.wl_plan.specs.declared.plan.Plan.{Plan}
use Rattle.wl_plan.specs.PlanLine.{setup_at}
use Rattle.wl_node.specs.declared.setup.Queued.{Queued}
use Rattle.wl_node.specs.declared.setup.QueueOrder.TheVariants.{Fifo, Priority}
use Rattle.wl_wire.proofs.Callers.{some_same}
use Rattle.wl_buses.specs.BothProofs.Queues.{IsFifo, queued_contents, ready_at}
use Rattle.wl_buses.proofs.BothProofs.Heads.{IsHandedBy, same_length, unsent_first}
use Rattle.wl_buses.specs.OneFrame.Stations.{Stations}
use Rattle.wl_buses.specs.SentFrames.Sending.{unsent_with}
use Rattle.wl_buses.specs.SentFrames.Winners.{won_by}
use Rattle.wl_buses.proofs.CleanPlans.Passed.{left_is}
use Rattle.wl_buses.specs.CleanLines.Lines.{FramesOfLine, decision_of, waiting_with}
use Rattle.wl_buses.specs.CleanPlans.PlanFrames.{FirstFramesOfPlan, FramesOfPlan}
use Rattle.wl_buses.specs.BoundedWaits.Bounds.{IsOnBus, ready_quantum, turn_of}
use Rattle.wl_buses.specs.BoundedWaits.Messages.{IsEntry, entries}
use Rattle.wl_buses.specs.BoundedWaits.Leaving.{IsQueued, entry_ready}
use Rattle.wl_buses.proofs.BoundedWaits.Leaving.{Holds, leaves_or_stays, left_other, left_own}
use Rattle.wl_buses.proofs.BoundedWaits.OnBus.{Handed, order_cases}
use Rattle.wl_buses.proofs.BoundedWaits.Ordering.{Ordered, in_turn}
use Rattle.wl_buses.proofs.BoundedWaits.Scaling.{scaled_sum}

-- the frames of a plan are those of its line
abbrev pub as_line : (plan : Plan) (s : Stations) → FramesOfPlan plan s → FramesOfLine (setup_at plan) (waiting_with (setup_at plan) s)
as_line plan s bus = record { frames = bus.frames; count = bus.count; some = bus.some; are = bus.are; first = bus.first; by = bus.by }

-- one of several numbers alone
abbrev is_it : (w i : ℕ) → ℕ
is_it w i = cond (i == w) 1 0

other_is : (w n : ℕ) → n ≢ w → is_it w n ≡ 0
other_is w n apart = ap (λ b. cond b 1 0) (ne_eqb n w apart)

own_is : (w n : ℕ) → n ≡ w → is_it w n ≡ 1
own_is w n same = ap (λ b. cond b 1 0) (eq-eqb n w same)

none_more : (f : ℕ → ℕ) (w n : ℕ) → n ≤ w → sum_below (λ i. f i + is_it w i) n ≡ sum_below f n
none_more f w zero less = refl
none_more f w (suc n) less =
    let before : sum_below (λ i. f i + is_it w i) n ≡ sum_below f n = none_more f w n (omega arith) in
    let here : is_it w n ≡ 0 = other_is w n (λ e. omega (arith, e, less)) in
    omega arith

one_more : (f : ℕ → ℕ) (w n : ℕ) → w < n → sum_below (λ i. f i + is_it w i) n ≡ suc (sum_below f n)
one_more f w zero less = absurd (omega arith)
one_more f w (suc n) less = elim (cases_lt w n) [
  | inl below ↦
      (let before : sum_below (λ i. f i + is_it w i) n ≡ suc (sum_below f n) = one_more f w n below in
      let here : is_it w n ≡ 0 = other_is w n (λ e. omega (arith, e, below)) in
      omega arith)
  | inr last ↦
      (let before : sum_below (λ i. f i + is_it w i) n ≡ sum_below f n = none_more f w n last in
      let here : is_it w n ≡ 1 = own_is w n (omega arith) in
      omega arith)
]

-- an entry as its content and its quantum
entry_content : (queue : List Queued) (a : ℕ) (q : Queued) → IsQueued queue a q → slice_get (queued_contents queue) a ≡ Some q.frame
entry_content [] a q is = cc
entry_content (x ∷ more) zero q is = ap (λ y. Some y.frame) (let e : x ≡ q = cc in e)
entry_content (x ∷ more) (suc a) q is = entry_content more a q is

entry_at_is : (queue : List Queued) (a : ℕ) (q : Queued) → IsQueued queue a q → ready_at queue a ≡ q.ready
entry_at_is [] a q is = cc
entry_at_is (x ∷ more) zero q is = ap (λ y. y.ready) (let e : x ≡ q = cc in e)
entry_at_is (x ∷ more) (suc a) q is = entry_at_is more a q is

module _ (plan : Plan) (s : Stations) (bus : FramesOfPlan plan s) (handed : Handed (setup_at plan) s (as_line plan s bus)) where
  abbrev turn : ℕ → ℕ → ℕ
  turn i n = won_by bus.by.winner i n

  abbrev u : ℕ → ℕ → List Queued
  u i n = unsent_with s (setup_at plan) bus.frames bus.by.winner bus.by.content i n

  wins : (n : ℕ) → n < bus.count → bus.by.winner n < s.count
  wins n less = subst (λ i. i < s.count) (bus.by.wins n less) (bus.are.each n less).won.inside

  -- all turns together are the frames
  all_turns : (n : ℕ) → n ≤ bus.count → sum_below (λ i. turn i n) s.count ≡ n
  all_turns zero less = zeros s.count
    where
      zeros : (k : ℕ) → sum_below (λ i. 0) k ≡ 0
      zeros zero = refl
      zeros (suc k) = (let old = zeros k in omega arith)
  all_turns (suc n) less =
      let old = all_turns n (omega arith) in
      let more = one_more (λ i. turn i n) (bus.by.winner n) s.count (wins n less) in
      omega arith

  own_handed : (i n : ℕ) → n < bus.count → i ≡ bus.by.winner n → IsHandedBy (setup_at plan i) (u i n) (bus.by.content n)
  own_handed i n less e =
      subst (λ k. IsHandedBy (setup_at plan k) (u k n) (bus.by.content n)) (sym e) (decision_of (setup_at plan) (waiting_with (setup_at plan) s) (as_line plan s bus) n less, handed n less)

  left_after_turns : (i n : ℕ) → n ≤ bus.count → length (u i n) + turn i n ≡ length (setup_at plan i).queue
  left_after_turns i n less = left_is s bus.frames bus.by.winner bus.by.content i (setup_at plan i) bus.count (own_handed i) n less

  pub few_frames : bus.count ≤ sum_below (entries (setup_at plan)) s.count
  few_frames =
      let all = all_turns bus.count (omega arith) in
      let h =
      scaled_sum (λ i. turn i bus.count) (entries (setup_at plan)) 1 s.count
      (λ i inside. (let few = left_after_turns i bus.count (omega arith) in let same = same_length (setup_at plan i).queue in omega arith)) in
      omega arith

  -- the frame with which an entry leaves its queue
  record Leaves (i : ℕ) (q : Queued) : Type 0 where
    frame : ℕ
    inside : frame < bus.count
    winner : bus.by.winner frame ≡ i
    content : bus.by.content frame ≡ q.frame
    ready : ready_quantum plan s bus frame ≡ q.ready

  leaves : (i : ℕ) (q : Queued) → u i bus.count ≡ [] → (k n : ℕ) → n + k ≡ bus.count → Holds (u i n) q → Leaves i q
  leaves i q emptied zero n last h =
      (let same : n ≡ bus.count = omega arith in
      let none = subst (λ l. Holds l q) emptied (subst (λ m. Holds (u i m) q) same h) in
      absurd (let e : None ≡ Some q = none.1 in cc))
  leaves i q emptied (suc k) n last h = elim (cases_eq i (bus.by.winner n)) [
    | inr other ↦ leaves i q emptied k (suc n) (omega arith) (subst (λ l. Holds l q) (sym (left_other s (setup_at plan) bus.frames bus.by.winner bus.by.content i n other)) h)
    | inl own ↦
        (let less : n < bus.count = omega arith in
        let head = own_handed i n less own in
        elim (leaves_or_stays (setup_at plan i).order (u i n) head.0 (bus.by.content n) h.0 q head.1 h.1) [
          | inl gone ↦ record { frame = n; inside = less; winner = sym own; content = sym gone.0; ready = ap (λ k. entry_ready (bus.by.content n) (u k n)) (sym own) ∙ sym gone.1 }
          | inr stays ↦ leaves i q emptied k (suc n) (omega arith) (subst (λ l. Holds l q) (sym (left_own s (setup_at plan) bus.frames bus.by.winner bus.by.content i n own)) stays)
        ])
  ]

  -- the frame of a turn
  record HasTurn (i a : ℕ) : Type 0 where
    frame : ℕ
    inside : frame < bus.count
    winner : bus.by.winner frame ≡ i
    turn_is : turn_of plan s bus frame ≡ a

  comes : (i a n : ℕ) → n ≤ bus.count → a < turn i n → HasTurn i a
  comes i a zero less low = absurd (omega arith)
  comes i a (suc n) less low = elim (cases_lt a (turn i n)) [
    | inl before ↦ comes i a n (omega arith) before
    | inr last ↦ elim (cases_Bool (i == bus.by.winner n)) [
      | inl own ↦
          (let same = eqb-true i (bus.by.winner n) own in
          let more : turn i (suc n) ≡ turn i n + 1 = ap (λ b. turn i n + cond b 1 0) own in
          let here : turn i n ≡ a = omega arith in
          record { frame = n; inside = less; winner = sym same; turn_is = sym (ap (λ k. turn k n) same) ∙ here })
      | inr other ↦ (let none : turn i (suc n) ≡ turn i n + 0 = ap (λ b. turn i n + cond b 1 0) other in absurd (omega arith))
    ]
  ]

  -- with empty queues each entry has left
  module _ (i a : ℕ) (q : Queued) (is : IsEntry (setup_at plan) i a q) (emptied : turn i bus.count ≡ length (setup_at plan i).queue) where
    none_left : u i bus.count ≡ []
    none_left = nil_from_length (u i bus.count) (let all = left_after_turns i bus.count (omega arith) in omega arith)

    in_turn_on_bus : Ordered (setup_at plan) s (as_line plan s bus) → IsFifo (setup_at plan i) → IsOnBus plan s bus i a q
    in_turn_on_bus ordered fifo =
        let t = comes i a bus.count (omega arith) (let there = slice_get_within (setup_at plan i).queue a q is in omega arith) in
        let own : IsFifo (setup_at plan (bus.by.winner t.frame)) = ap (λ k. (setup_at plan k).order) t.winner ∙ fifo in
        record {
          frame = t.frame;
          inside = t.inside;
          winner = t.winner;
          content =
              some_same (bus.by.content t.frame) q.frame
              (sym (ordered.content t.frame t.inside own) ∙ ap₂ (λ k b. slice_get (queued_contents (setup_at plan k).queue) b) t.winner t.turn_is ∙ entry_content (setup_at plan i).queue a q is);
          ready = ordered.ready t.frame t.inside own ∙ ap₂ (λ k b. ready_at (setup_at plan k).queue b) t.winner t.turn_is ∙ entry_at_is (setup_at plan i).queue a q is;
          turn = λ fifo. t.turn_is;
        }

    left_on_bus : (setup_at plan i).order ≡ Priority → IsOnBus plan s bus i a q
    left_on_bus prio =
        let x = leaves i q none_left bus.count 0 (omega arith) (a, subst (λ l. IsQueued l a q) (sym (unsent_first (setup_at plan i))) is) in
        record { frame = x.frame; inside = x.inside; winner = x.winner; content = x.content; ready = x.ready; turn = λ fifo. absurd (let e : Fifo ≡ Priority = sym fifo ∙ prio in cc) }

    pub on_bus : Ordered (setup_at plan) s (as_line plan s bus) → IsOnBus plan s bus i a q
    on_bus ordered = elim (order_cases (setup_at plan i).order) [ inl fifo ↦ in_turn_on_bus ordered fifo | inr prio ↦ left_on_bus prio ]

-- with as many frames and one more every queue is empty
pub each_entry : (plan : Plan) (s : Stations) (x : FirstFramesOfPlan plan s (sum_below (entries (setup_at plan)) s.count)) → Handed (setup_at plan) s (as_line plan s x.bus) → (i a : ℕ) (q : Queued) → i < s.count
    → IsEntry (setup_at plan) i a q → IsOnBus plan s x.bus i a q
each_entry plan s x handed i a q inside is = elim x.ends [
  | inl many ↦ (let few = few_frames plan s x.bus handed in absurd (omega arith))
  | inr emptied ↦ on_bus plan s x.bus handed i a q is (emptied i inside) (in_turn (setup_at plan) s (as_line plan s x.bus) handed)
]
