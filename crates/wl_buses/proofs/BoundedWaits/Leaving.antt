-- Which entry leaves a queue, and what is left of it, by its order.
use Rattle.std.proofs.Common.{◌≡◌, ◌≢◌, ◌∙◌, ◌⊎◌, inl, inr, refl, sym, ap, subst, ℕ, zero, suc, ◌+◌, ◌<◌, ◌≤◌, cond, Bool, true, false, List, [], ◌∷◌, ◌++◌, Option, Some, None, arith}
use Rattle.std.specs.Prelude.{drop, nat_le, slice_get}
use Rattle.std.proofs.lemmas.Bool.{both_ways, cases_Bool, cases_eq, eq-eqb, le-leb, leb-false, leb-true, ne_eqb}
use Rattle.wl_frame.specs.Grammar.{Content}
use Rattle.wl_frame.specs.Same.{content_decides, same_content}
use Rattle.wl_node.specs.declared.setup.NodeSetup.{NodeSetup}
use Rattle.wl_node.specs.declared.setup.Passed.{Passed}
use Rattle.wl_node.specs.declared.setup.Queued.{Queued}
use Rattle.wl_node.specs.declared.setup.QueueOrder.{QueueOrder}
use Rattle.wl_node.specs.declared.setup.QueueOrder.TheVariants.{Fifo, Priority}
use Rattle.wl_node.specs.Queues.{field_number, head_by, least_frame, lesser_frame, queue_without, unsent_by, waiting_frames}
use Rattle.wl_buses.specs.BothProofs.Queues.{first_ready, queued_contents}
use Rattle.wl_buses.proofs.BothProofs.Heads.{unsent_first, unsent_received}
use Rattle.wl_buses.proofs.BothProofs.Orders.{in_by, left_tail, left_without}
use Rattle.wl_buses.specs.OneFrame.Stations.{Stations}
use Rattle.wl_buses.specs.FrameEnd.Rests.{passed_frame}
use Rattle.wl_buses.specs.NextFrames.Frames.{Frame}
use Rattle.wl_buses.specs.SentFrames.Sending.{unsent_with}
use Rattle.wl_buses.specs.SentFrames.Winners.{passed_with}
use Rattle.wl_buses.specs.BoundedWaits.Leaving.{IsQueued, entry_ready}

-- an entry is one of some
abbrev pub Holds : List Queued → Queued → Type 0
Holds u x = (n : ℕ) × IsQueued u n x

-- what is left of a queue as the frame with a content leaves it
abbrev pub left_after : QueueOrder → Content → List Queued → List Queued
left_after Fifo c u = drop 1 u
left_after Priority c u = queue_without c u

none_some : {A : Type 0} → (x : A) → ◌≡◌ {A = Option A} None (Some x) → ⊥
none_some x e = cc

-- of two frames
lesser_low : (f : Content) (o : Option Content) → field_number (lesser_frame f o) ≤ field_number f
lesser_low f None = omega arith
lesser_low f (Some other) = elim (cases_Bool (nat_le (field_number f) (field_number other))) [
  | inl low ↦ (let e : field_number (lesser_frame f (Some other)) ≡ field_number f = ap (λ b. field_number (cond b f other)) low in omega arith)
  | inr high ↦
      (let e : field_number (lesser_frame f (Some other)) ≡ field_number other = ap (λ b. field_number (cond b f other)) high in
      let less = leb-false (field_number f) (field_number other) high in
      omega arith)
]

lesser_other : (f other : Content) → field_number (lesser_frame f (Some other)) ≤ field_number other
lesser_other f other = elim (cases_Bool (nat_le (field_number f) (field_number other))) [
  | inl low ↦
      (let e : field_number (lesser_frame f (Some other)) ≡ field_number f = ap (λ b. field_number (cond b f other)) low in
      let less = leb-true (field_number f) (field_number other) low in
      omega arith)
  | inr high ↦ (let e : field_number (lesser_frame f (Some other)) ≡ field_number other = ap (λ b. field_number (cond b f other)) high in omega arith)
]

-- one that goes before another has the lesser field
goes_before : (f : Content) (o : Option Content) (c : Content) → Some (lesser_frame f o) ≡ Some c → f ≢ c → (o ≡ Some c) × (field_number c < field_number f)
goes_before f None c e apart = absurd (apart (let h : f ≡ c = cc in h))
goes_before f (Some other) c e apart = elim (cases_Bool (nat_le (field_number f) (field_number other))) [
  | inl low ↦ absurd (apart (let g : Some f ≡ Some c = ap (λ b. Some (cond b f other)) (sym low) ∙ e in let h : f ≡ c = cc in h))
  | inr high ↦
      (let g : Some other ≡ Some c = ap (λ b. Some (cond b f other)) (sym high) ∙ e in
      let h : other ≡ c = cc in
      let field : field_number other ≡ field_number c = ap field_number h in
      let less = leb-false (field_number f) (field_number other) high in
      (g, let r : field_number c < field_number f = omega arith in r))
]

-- entries of what is left, in their order
without_less : (u : List Queued) (c : Content) (n : ℕ) (x : Queued) → IsQueued (queue_without c u) n x → Holds u x
without_less [] c n x is = (n, is)
without_less (q ∷ qs) c n x is = by (λ m. without_less qs c m x) (same_content q.frame c) n is
  where
    by : ((m : ℕ) → IsQueued (queue_without c qs) m x → Holds qs x) → (b : Bool) (n : ℕ) → IsQueued (cond b qs (q ∷ queue_without c qs)) n x → Holds (q ∷ qs) x
    by more true n is = (suc n, is)
    by more false zero is = (0, is)
    by more false (suc n) is = (let m = more n is in (suc m.0, m.1))

pub less : (o : QueueOrder) (u : List Queued) (c : Content) (x : Queued) → Holds (left_after o c u) x → Holds u x
less Fifo [] c x h = h
less Fifo (q ∷ qs) c x h = (suc h.0, h.1)
less Priority u c x h = without_less u c h.0 x h.1

abbrev AreInTurn : List Queued → Queued → Queued → Type 0
AreInTurn u p q = (a : ℕ) × (b : ℕ) × (a < b) × IsQueued u a p × IsQueued u b q

without_turn : (u : List Queued) (c : Content) (m n : ℕ) (p q : Queued) → m < n → IsQueued (queue_without c u) m p → IsQueued (queue_without c u) n q → AreInTurn u p q
without_turn [] c m n p q low one other = (m, n, low, one, other)
without_turn (x ∷ xs) c m n p q low one other = by (λ j k. without_turn xs c j k p q) (same_content x.frame c) m n low one other
  where
    by : ((j k : ℕ) → j < k → IsQueued (queue_without c xs) j p → IsQueued (queue_without c xs) k q → AreInTurn xs p q) → (b : Bool) (m n : ℕ) → m < n
        → IsQueued (cond b xs (x ∷ queue_without c xs)) m p → IsQueued (cond b xs (x ∷ queue_without c xs)) n q → AreInTurn (x ∷ xs) p q
    by more true m n low one other = (suc m, suc n, (let r : suc m < suc n = omega arith in r), one, other)
    by more false m zero low one other = absurd (omega arith)
    by more false zero (suc n) low one other = (let h = without_less xs c n q other in (0, suc h.0, (let r : 0 < suc h.0 = omega arith in r), one, h.1))
    by more false (suc m) (suc n) low one other =
        (let t = more m n (let r : m < n = omega arith in r) one other in let low = t.2 in (suc t.0, suc t.1, (let r : suc t.0 < suc t.1 = omega arith in r), t.3, t.4))

-- the first entry with a content
pub entry_with : (u : List Queued) (c : Content) (n : ℕ) → slice_get (queued_contents u) n ≡ Some c → (x : Queued) × Holds u x × (x.frame ≡ c) × (x.ready ≡ entry_ready c u)
entry_with [] c n e = absurd (none_some c e)
entry_with (q ∷ qs) c n e = elim (cases_Bool (same_content q.frame c)) [
  | inl own ↦ (q, (0, refl), (content_decides q.frame c).0 own, sym (ap (λ b. cond b q.ready (entry_ready c qs)) own))
  | inr other ↦ later (λ m. entry_with qs c m) other n e
]
  where
    later : ((m : ℕ) → slice_get (queued_contents qs) m ≡ Some c → (x : Queued) × Holds qs x × (x.frame ≡ c) × (x.ready ≡ entry_ready c qs)) → same_content q.frame c ≡ false → (n : ℕ)
        → slice_get (queued_contents (q ∷ qs)) n ≡ Some c → (x : Queued) × Holds (q ∷ qs) x × (x.frame ≡ c) × (x.ready ≡ entry_ready c (q ∷ qs))
    later more other zero e = absurd (both_ways (same_content q.frame c) other ((content_decides q.frame c).1 (let h : q.frame ≡ c = cc in h)))
    later more other (suc n) e =
        (let x = more n e in let h = x.1 in (x.0, (suc h.0, h.1), x.2, x.3 ∙ sym (ap (λ b. cond b q.ready (entry_ready c qs)) other)))

-- of a queue that is first in, first out, it is the first
first_handed : (q : Queued) (qs : List Queued) (k : ℕ) (c : Content) → head_by Fifo (q ∷ qs) k ≡ Some c → q.frame ≡ c
first_handed q qs k c e = by (nat_le q.ready k) e
  where
    by : (b : Bool) → cond b (Some q.frame) None ≡ Some c → q.frame ≡ c
    by true e = cc
    by false e = absurd (none_some c e)

pub fifo_ready : (u : List Queued) (k : ℕ) (c : Content) → head_by Fifo u k ≡ Some c → entry_ready c u ≡ first_ready u
fifo_ready [] k c e = absurd (none_some c e)
fifo_ready (q ∷ qs) k c e = ap (λ b. cond b q.ready (entry_ready c qs)) ((content_decides q.frame c).1 (first_handed q qs k c e))

-- the entry of a frame that is handed
pub handed_entry : (o : QueueOrder) (u : List Queued) (k : ℕ) (c : Content) → head_by o u k ≡ Some c → (x : Queued) × Holds u x × (x.frame ≡ c) × (x.ready ≡ entry_ready c u)
handed_entry o u k c e = (let n = in_by o u k c e in entry_with u c n.0 n.1)

-- An entry is the one that leaves the queue, or it stays.
without_stays : (u : List Queued) (c : Content) (n : ℕ) (x : Queued) → IsQueued u n x → ((x.frame ≡ c) × (x.ready ≡ entry_ready c u)) ⊎ Holds (queue_without c u) x
without_stays [] c n x is = inr (n, is)
without_stays (q ∷ qs) c n x is = by (λ m. without_stays qs c m x) (same_content q.frame c) refl n is
  where
    by : ((m : ℕ) → IsQueued qs m x → ((x.frame ≡ c) × (x.ready ≡ entry_ready c qs)) ⊎ Holds (queue_without c qs) x) → (b : Bool) → same_content q.frame c ≡ b → (n : ℕ) → IsQueued (q ∷ qs) n x
        → ((x.frame ≡ c) × (x.ready ≡ cond b q.ready (entry_ready c qs))) ⊎ Holds (cond b qs (q ∷ queue_without c qs)) x
    by more true own zero is = (let same : q ≡ x = cc in inl (sym (ap (λ y. y.frame) same) ∙ (content_decides q.frame c).0 own, sym (ap (λ y. y.ready) same)))
    by more true own (suc n) is = inr (n, is)
    by more false other zero is = inr (0, is)
    by more false other (suc n) is = elim (more n is) [ inl leaves ↦ inl leaves | inr stays ↦ inr (suc stays.0, stays.1) ]

pub leaves_or_stays : (o : QueueOrder) (u : List Queued) (k : ℕ) (c : Content) (n : ℕ) (x : Queued) → head_by o u k ≡ Some c → IsQueued u n x
    → ((x.frame ≡ c) × (x.ready ≡ entry_ready c u)) ⊎ Holds (left_after o c u) x
leaves_or_stays Fifo [] k c n x e is = absurd (none_some c e)
leaves_or_stays Fifo (q ∷ qs) k c zero x e is =
    (let same : q ≡ x = cc in inl (sym (ap (λ y. y.frame) same) ∙ first_handed q qs k c e, sym (ap (λ y. y.ready) same) ∙ sym (fifo_ready (q ∷ qs) k c e)))
leaves_or_stays Fifo (q ∷ qs) k c (suc n) x e is = inr (n, is)
leaves_or_stays Priority u k c n x e is = without_stays u c n x is

-- frames that wait
waits_first : (q : Queued) (qs : List Queued) (k : ℕ) → q.ready ≤ k → least_frame (waiting_frames (q ∷ qs) k) ≡ Some (lesser_frame q.frame (least_frame (waiting_frames qs k)))
waits_first q qs k by_then = ap (λ b. least_frame (cond b (q ∷ waiting_frames qs k) [])) (le-leb q.ready k by_then)

first_waits : (q : Queued) (qs : List Queued) (k : ℕ) (c : Content) → least_frame (waiting_frames (q ∷ qs) k) ≡ Some c → Some (lesser_frame q.frame (least_frame (waiting_frames qs k))) ≡ Some c
first_waits q qs k c e = elim (cases_Bool (nat_le q.ready k)) [
  | inl ready ↦ ap (λ b. least_frame (cond b (q ∷ waiting_frames qs k) [])) (sym ready) ∙ e
  | inr late ↦ absurd (none_some c (ap (λ b. least_frame (cond b (q ∷ waiting_frames qs k) [])) (sym late) ∙ e))
]

-- who is handed a frame has it ready
waits_then : (q : Queued) (qs : List Queued) (k : ℕ) (c : Content) → least_frame (waiting_frames (q ∷ qs) k) ≡ Some c → q.ready ≤ k
waits_then q qs k c e = elim (cases_Bool (nat_le q.ready k)) [
  | inl ready ↦ leb-true q.ready k ready
  | inr late ↦ absurd (none_some c (ap (λ b. least_frame (cond b (q ∷ waiting_frames qs k) [])) (sym late) ∙ e))
]

least_ready : (u : List Queued) (k : ℕ) (c : Content) → least_frame (waiting_frames u k) ≡ Some c → entry_ready c u ≤ k
least_ready [] k c e = absurd (none_some c e)
least_ready (q ∷ qs) k c e = elim (cases_Bool (same_content q.frame c)) [
  | inl own ↦
      (let r : entry_ready c (q ∷ qs) ≡ q.ready = ap (λ b. cond b q.ready (entry_ready c qs)) own in
      let then = waits_then q qs k c e in
      omega arith)
  | inr other ↦
      (let first = goes_before q.frame (least_frame (waiting_frames qs k)) c (first_waits q qs k c e) (λ same. both_ways (same_content q.frame c) other ((content_decides q.frame c).1 same)) in
      let r : entry_ready c (q ∷ qs) ≡ entry_ready c qs = ap (λ b. cond b q.ready (entry_ready c qs)) other in
      let more = least_ready qs k c first.0 in
      omega arith)
]

pub handed_ready : (o : QueueOrder) (u : List Queued) (k : ℕ) (c : Content) → head_by o u k ≡ Some c → entry_ready c u ≤ k
handed_ready Fifo [] k c e = absurd (none_some c e)
handed_ready Fifo (q ∷ qs) k c e = elim (cases_Bool (nat_le q.ready k)) [
  | inl ready ↦ (let same = fifo_ready (q ∷ qs) k c e in let low = leb-true q.ready k ready in omega arith)
  | inr late ↦ absurd (none_some c (ap (λ b. cond b (Some q.frame) None) (sym late) ∙ e))
]
handed_ready Priority u k c e = least_ready u k c e

module _ (of : Content → ℕ) (every : ℕ → ℕ) where
  -- Entries are in the order in which they become ready, and two of one message a period apart.
  abbrev pub Goes : List Queued → Type 0
  Goes u = (m n : ℕ) (p q : Queued) → m < n → IsQueued u m p → IsQueued u n q → (p.ready ≤ q.ready) × (of p.frame ≡ of q.frame → p.ready + every (of p.frame) ≤ q.ready)

  -- those of one message have one field
  abbrev pub HaveOneField : List Queued → Type 0
  HaveOneField u = (p q : Queued) → Holds u p → Holds u q → of p.frame ≡ of q.frame → field_number p.frame ≡ field_number q.frame

  tail : (q : Queued) (qs : List Queued) → Goes (q ∷ qs) → Goes qs
  tail q qs g m n p x low one other = g (suc m) (suc n) p x (omega arith) one other

  pub goes_less : (o : QueueOrder) (u : List Queued) (c : Content) → Goes u → Goes (left_after o c u)
  goes_less Fifo [] c g = g
  goes_less Fifo (q ∷ qs) c g = tail q qs g
  goes_less Priority u c g = λ m n p q low one other. (let t = without_turn u c m n p q low one other in g t.0 t.1 p q t.2 t.3 t.4)

  -- the first is ready first
  pub first_low : (u : List Queued) (n : ℕ) (x : Queued) → Goes u → IsQueued u n x → first_ready u ≤ x.ready
  first_low [] n x g is = absurd (none_some x is)
  first_low (q ∷ qs) zero x g is = (let e : q ≡ x = cc in let r : q.ready ≡ x.ready = ap (λ y. y.ready) e in omega arith)
  first_low (q ∷ qs) (suc n) x g is = (g 0 (suc n) q x (omega arith) refl is).0

  -- by priority no frame that waits has a lesser field than the head
  pub least_low : (u : List Queued) (k n : ℕ) (x : Queued) → Goes u → IsQueued u n x → x.ready ≤ k
      → (h : Content) × (least_frame (waiting_frames u k) ≡ Some h) × (field_number h ≤ field_number x.frame)
  least_low [] k n x g is ready = absurd (none_some x is)
  least_low (q ∷ qs) k zero x g is ready =
      (let e : q ≡ x = cc in
      let r : q.ready ≡ x.ready = ap (λ y. y.ready) e in
      let f : field_number q.frame ≡ field_number x.frame = ap (λ y. field_number y.frame) e in
      let low = lesser_low q.frame (least_frame (waiting_frames qs k)) in
      (lesser_frame q.frame (least_frame (waiting_frames qs k)), waits_first q qs k (omega arith), (let h : field_number (lesser_frame q.frame (least_frame (waiting_frames qs k))) ≤ field_number x.frame = omega arith in h)))
  least_low (q ∷ qs) k (suc n) x g is ready =
      (let order = (g 0 (suc n) q x (omega arith) refl is).0 in
      let more = least_low qs k n x (tail q qs g) is ready in
      let other : field_number (lesser_frame q.frame (least_frame (waiting_frames qs k))) ≤ field_number more.0 =
      subst (λ o. field_number (lesser_frame q.frame o) ≤ field_number more.0) (sym more.1) (lesser_other q.frame more.0) in
      let low = more.2 in
      (lesser_frame q.frame (least_frame (waiting_frames qs k)), waits_first q qs k (omega arith), (let h : field_number (lesser_frame q.frame (least_frame (waiting_frames qs k))) ≤ field_number x.frame = omega arith in h)))

  -- an entry that goes first, and those of its message after it
  first_spaced : (q : Queued) (qs : List Queued) (c : Content) (n : ℕ) (x : Queued) → Goes (q ∷ qs) → q.frame ≡ c → IsQueued qs n x → of c ≡ of x.frame → entry_ready c (q ∷ qs) + every (of c) ≤ x.ready
  first_spaced q qs c n x g same is alike =
      let far = (g 0 (suc n) q x (omega arith) refl is).1 (ap of same ∙ alike) in
      let r : entry_ready c (q ∷ qs) ≡ q.ready = ap (λ b. cond b q.ready (entry_ready c qs)) ((content_decides q.frame c).1 same) in
      let v : every (of q.frame) ≡ every (of c) = ap (λ y. every (of y)) same in
      omega arith

  least_spaced : (u : List Queued) (k : ℕ) (c : Content) (n : ℕ) (x : Queued) → HaveOneField u → Goes u → least_frame (waiting_frames u k) ≡ Some c → IsQueued (queue_without c u) n x → of c ≡ of x.frame
      → entry_ready c u + every (of c) ≤ x.ready
  least_spaced [] k c n x one g e is alike = absurd (none_some c e)
  least_spaced (q ∷ qs) k c n x one g e is alike = by (λ m f h. least_spaced qs k c m x fields (tail q qs g) f h alike) (same_content q.frame c) refl is
    where
      fields : HaveOneField qs
      fields a b ha hb same = one a b (suc ha.0, ha.1) (suc hb.0, hb.1) same

      -- one that goes before it is of another message
      later : ((m : ℕ) → least_frame (waiting_frames qs k) ≡ Some c → IsQueued (queue_without c qs) m x → entry_ready c qs + every (of c) ≤ x.ready) → (m : ℕ)
          → (least_frame (waiting_frames qs k) ≡ Some c) × (field_number c < field_number q.frame) → IsQueued (q ∷ queue_without c qs) m x → entry_ready c qs + every (of c) ≤ x.ready
      later more zero first is =
          (let same : q ≡ x = cc in
          let held = handed_entry Priority qs k c first.0 in
          let y = held.0 in
          let field = one y q (let h = held.1 in (suc h.0, h.1)) (0, refl) (ap of held.2 ∙ alike ∙ sym (ap (λ z. of z.frame) same)) in
          let of_y : field_number y.frame ≡ field_number c = ap field_number held.2 in
          let less = first.1 in
          absurd (omega arith))
      later more (suc m) first is = more m first.0 is

      by : ((m : ℕ) → least_frame (waiting_frames qs k) ≡ Some c → IsQueued (queue_without c qs) m x → entry_ready c qs + every (of c) ≤ x.ready) → (b : Bool) → same_content q.frame c ≡ b
          → IsQueued (cond b qs (q ∷ queue_without c qs)) n x → entry_ready c (q ∷ qs) + every (of c) ≤ x.ready
      by more true own is = first_spaced q qs c n x g ((content_decides q.frame c).0 own) is alike
      by more false other is =
          (let first = goes_before q.frame (least_frame (waiting_frames qs k)) c (first_waits q qs k c e) (λ same. both_ways (same_content q.frame c) other ((content_decides q.frame c).1 same)) in
          let rest = later more n first is in
          let r : entry_ready c (q ∷ qs) ≡ entry_ready c qs = ap (λ b. cond b q.ready (entry_ready c qs)) other in
          omega arith)

  -- As a frame leaves a queue, each later one of its message is ready a period later.
  pub spaced : (o : QueueOrder) (u : List Queued) (k : ℕ) (c : Content) (x : Queued) → (o ≡ Priority → HaveOneField u) → Goes u → head_by o u k ≡ Some c → Holds (left_after o c u) x → of c ≡ of x.frame
      → entry_ready c u + every (of c) ≤ x.ready
  spaced Fifo [] k c x one g e h alike = absurd (none_some c e)
  spaced Fifo (q ∷ qs) k c x one g e h alike = first_spaced q qs c h.0 x g (first_handed q qs k c e) h.1 alike
  spaced Priority u k c x one g e h alike = least_spaced u k c h.0 x (one refl) g e h.1 alike

-- what is left of a queue, frame by frame
left_sent : (o : QueueOrder) (queue : List Queued) (passed : List Passed) (p : Passed) → p.sent ≡ true → unsent_by o queue (passed ++ p ∷ []) ≡ left_after o p.frame (unsent_by o queue passed)
left_sent Fifo queue passed p e = left_tail queue passed p e
left_sent Priority queue passed p e = left_without queue passed p e

module _ (s : Stations) (setups : ℕ → NodeSetup) (frames : ℕ → Frame) (winner : ℕ → ℕ) (content : ℕ → Content) where
  abbrev pub left : (i n : ℕ) → List Queued
  left i n = unsent_with s setups frames winner content i n

  abbrev passed : (i n : ℕ) → List Passed
  passed i n = passed_with s frames winner content i n

  abbrev one : (i n : ℕ) → Passed
  one i n = passed_frame s (frames n).outset (frames n).bits i (winner n) (content n)

  pub left_own : (i n : ℕ) → i ≡ winner n → left i (suc n) ≡ left_after (setups i).order (content n) (left i n)
  left_own i n own = left_sent (setups i).order (setups i).queue (passed i n) (one i n) (eq-eqb i (winner n) own)

  pub left_other : (i n : ℕ) → i ≢ winner n → left i (suc n) ≡ left i n
  left_other i n other = unsent_received (setups i) (passed i n) (one i n) (ne_eqb i (winner n) other)

  next_less : (i n : ℕ) (x : Queued) → Holds (left i (suc n)) x → Holds (left i n) x
  next_less i n x h = elim (cases_eq i (winner n)) [
    | inl own ↦ less (setups i).order (left i n) (content n) x (subst (λ u. Holds u x) (left_own i n own) h)
    | inr other ↦ subst (λ u. Holds u x) (left_other i n other) h
  ]

  pub all_less : (i n k : ℕ) (x : Queued) → n ≤ k → Holds (left i k) x → Holds (left i n) x
  all_less i n zero x low h = (let e : 0 ≡ n = omega arith in subst (λ m. Holds (left i m) x) e h)
  all_less i n (suc k) x low h = elim (cases_eq n (suc k)) [
    | inl same ↦ subst (λ m. Holds (left i m) x) (sym same) h
    | inr other ↦ all_less i n k x (omega (arith, other, low)) (next_less i k x h)
  ]

  pub of_queue : (i n : ℕ) (x : Queued) → Holds (left i n) x → Holds (setups i).queue x
  of_queue i n x h = subst (λ u. Holds u x) (unsent_first (setups i)) (all_less i 0 n x (omega arith) h)

  pub all_go : (i : ℕ) (of : Content → ℕ) (every : ℕ → ℕ) → Goes of every (setups i).queue → (n : ℕ) → Goes of every (left i n)
  all_go i of every g zero = subst (Goes of every) (sym (unsent_first (setups i))) g
  all_go i of every g (suc n) = elim (cases_eq i (winner n)) [
    | inl own ↦ subst (Goes of every) (sym (left_own i n own)) (goes_less of every (setups i).order (left i n) (content n) (all_go i of every g n))
    | inr other ↦ subst (Goes of every) (sym (left_other i n other)) (all_go i of every g n)
  ]

  -- A later frame of the same message is ready a period later.
  pub far : (i j k q : ℕ) (x : Queued) (of : Content → ℕ) (every : ℕ → ℕ) → i ≡ winner j → j < k → ((setups i).order ≡ Priority → HaveOneField of every (setups i).queue) → Goes of every (setups i).queue
      → head_by (setups i).order (left i j) q ≡ Some (content j) → Holds (left i k) x → of (content j) ≡ of x.frame → entry_ready (content j) (left i j) + every (of (content j)) ≤ x.ready
  far i j k q x of every own later one g head h alike =
      spaced of every (setups i).order (left i j) q (content j) x (λ o a b ha hb. one o a b (of_queue i j a ha) (of_queue i j b hb)) (all_go i of every g j) head
      (subst (λ u. Holds u x) (left_own i j own) (all_less i (suc j) k x later h)) alike
