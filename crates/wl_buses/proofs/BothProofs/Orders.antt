-- What a queue hands its node and what is left of it, by its order.
use Rattle.std.proofs.Common.{◌≡◌, ◌∙◌, ◌⊎◌, inl, inr, refl, sym, ap, subst, ℕ, zero, suc, ◌+◌, ◌<◌, ◌≤◌, cond, Bool, true, false, List, [], ◌∷◌, ◌++◌, length, Option, Some, None, arith}
use Rattle.std.specs.Prelude.{IsPermutation, count_by, drop, fold, nat_le, slice_get}
use Rattle.std.proofs.lemmas.Bool.{le-leb, lt-leb}
use Rattle.std.proofs.lemmas.List.Sorted.{IsPermutation-cons, IsPermutation-middle, IsPermutation-refl, IsPermutation-trans}
use Rattle.std.proofs.lemmas.List.Sums.{fold-append, sum_by-append}
use Rattle.wl_frame.specs.Grammar.{Content}
use Rattle.wl_frame.specs.Same.{content_decides, same_content}
use Rattle.wl_node.specs.declared.setup.Passed.{Passed}
use Rattle.wl_node.specs.declared.setup.Queued.{Queued}
use Rattle.wl_node.specs.declared.setup.QueueOrder.{QueueOrder}
use Rattle.wl_node.specs.declared.setup.QueueOrder.TheVariants.{Fifo, Priority}
use Rattle.wl_node.specs.Queues.{field_number, head_by, is_sent, least_frame, lesser_frame, queue_after, queue_without, ready_head, unsent_by, waiting_frames}
use Rattle.wl_buses.specs.BothProofs.Queues.{first_ready, queued_contents, ready_at}
use Rattle.wl_wire.proofs.Callers.{some_same}

-- a frame is at a place of a queue
abbrev pub IsIn : Content → List Queued → Type 0
IsIn c queue = (n : ℕ) × (slice_get (queued_contents queue) n ≡ Some c)

-- none of no frames
pub none_by : (o : QueueOrder) (k : ℕ) → head_by o [] k ≡ None
none_by Fifo k = refl
none_by Priority k = refl

-- none before the first is ready, and one from then on
pub early_by : (o : QueueOrder) (unsent : List Queued) (k : ℕ) → k < first_ready unsent → head_by o unsent k ≡ None
early_by o [] k less = none_by o k
early_by Fifo (q ∷ more) k less = ap (λ c. cond c (Some q.frame) None) (lt-leb q.ready k less)
early_by Priority (q ∷ more) k less = ap (λ c. least_frame (cond c (q ∷ waiting_frames more k) [])) (lt-leb q.ready k less)

pub late_by : (o : QueueOrder) (unsent : List Queued) (k : ℕ) → 0 < length unsent → first_ready unsent ≤ k → (c : Content) × (head_by o unsent k ≡ Some c)
late_by o [] k some late = absurd (omega arith)
late_by Fifo (q ∷ more) k some late = (q.frame, ap (λ c. cond c (Some q.frame) None) (le-leb q.ready k late))
late_by Priority (q ∷ more) k some late =
    (lesser_frame q.frame (least_frame (waiting_frames more k)), ap (λ c. least_frame (cond c (q ∷ waiting_frames more k) [])) (le-leb q.ready k late))

-- it is one of them
lesser_in : (c : Content) (f : Content) (o : Option Content) → Some (lesser_frame f o) ≡ Some c → (f ≡ c) ⊎ (o ≡ Some c)
lesser_in c f None e = inl (some_same f c e)
lesser_in c f (Some other) e = by (nat_le (field_number f) (field_number other)) e
  where
    by : (b : Bool) → Some (cond b f other) ≡ Some c → (f ≡ c) ⊎ (Some other ≡ Some c)
    by true e = inl (let h : f ≡ c = cc in h)
    by false e = inr e

least_in : (l : List Queued) (c : Content) → least_frame l ≡ Some c → IsIn c l
least_in [] c e = cc
least_in (q ∷ qs) c e = elim (lesser_in c q.frame (least_frame qs) e) [
  | inl own ↦ (0, ap Some own)
  | inr other ↦ (let n = least_in qs c other in (suc n.0, n.1))
]

waiting_in : (u : List Queued) (k n : ℕ) (c : Content) → slice_get (queued_contents (waiting_frames u k)) n ≡ Some c → slice_get (queued_contents u) n ≡ Some c
waiting_in [] k n c e = e
waiting_in (q ∷ qs) k n c e = by (λ m. waiting_in qs k m c) (nat_le q.ready k) n e
  where
    by : ((m : ℕ) → slice_get (queued_contents (waiting_frames qs k)) m ≡ Some c → slice_get (queued_contents qs) m ≡ Some c) → (b : Bool) (n : ℕ)
        → slice_get (queued_contents (cond b (q ∷ waiting_frames qs k) [])) n ≡ Some c → slice_get (queued_contents (q ∷ qs)) n ≡ Some c
    by more true zero e = e
    by more true (suc n) e = more n e
    by more false n e = cc

first_of_ready : (u : List Queued) (k : ℕ) (c : Content) → ready_head u k ≡ Some c → slice_get (queued_contents u) 0 ≡ Some c
first_of_ready [] k c e = cc
first_of_ready (q ∷ more) k c e = by (nat_le q.ready k) e
  where
    by : (b : Bool) → cond b (Some q.frame) None ≡ Some c → Some q.frame ≡ Some c
    by true e = e
    by false e = cc

pub in_by : (o : QueueOrder) (unsent : List Queued) (k : ℕ) (c : Content) → head_by o unsent k ≡ Some c → IsIn c unsent
in_by Fifo unsent k c e = (0, first_of_ready unsent k c e)
in_by Priority unsent k c e = (let n = least_in (waiting_frames unsent k) c e in (n.0, waiting_in unsent k n.0 c n.1))

-- what is left after frames have passed
pub left_first : (o : QueueOrder) (queue : List Queued) → unsent_by o queue [] ≡ queue
left_first Fifo queue = refl
left_first Priority queue = refl

drop_nothing : (n : ℕ) → drop {A = Queued} n [] ≡ []
drop_nothing zero = refl
drop_nothing (suc n) = refl

drop_one_more : (n : ℕ) (queue : List Queued) → drop (n + 1) queue ≡ drop 1 (drop n queue)
drop_one_more zero queue = refl
drop_one_more (suc n) [] = drop_nothing (suc n + 1) ∙ sym (ap (drop 1) (drop_nothing (suc n)))
drop_one_more (suc n) (q ∷ queue) = ap (λ k. drop k (q ∷ queue)) (let e : suc n + 1 ≡ suc (n + 1) = omega arith in e) ∙ drop_one_more n queue

count_more : (passed : List Passed) (p : Passed) → count_by is_sent (passed ++ p ∷ []) ≡ count_by is_sent passed + (cond p.sent 1 0 + 0)
count_more passed p = sum_by-append (λ p. cond (is_sent p) 1 0) passed (p ∷ []) ∙ omega arith

pub left_received : (o : QueueOrder) (queue : List Queued) (passed : List Passed) (p : Passed) → p.sent ≡ false → unsent_by o queue (passed ++ p ∷ []) ≡ unsent_by o queue passed
left_received Fifo queue passed p e = ap (λ n. drop n queue) (count_more passed p ∙ ap (λ b. count_by is_sent passed + (cond b 1 0 + 0)) e ∙ omega arith)
left_received Priority queue passed p e =
    fold-append queue_after queue passed (p ∷ []) ∙ ap (λ b. cond b (queue_without p.frame (fold queue_after queue passed)) (fold queue_after queue passed)) e

pub left_tail : (queue : List Queued) (passed : List Passed) (p : Passed) → p.sent ≡ true → unsent_by Fifo queue (passed ++ p ∷ []) ≡ drop 1 (unsent_by Fifo queue passed)
left_tail queue passed p e =
    ap (λ n. drop n queue) (count_more passed p ∙ ap (λ b. count_by is_sent passed + (cond b 1 0 + 0)) e ∙ omega arith) ∙ drop_one_more (count_by is_sent passed) queue

pub left_without : (queue : List Queued) (passed : List Passed) (p : Passed) → p.sent ≡ true → unsent_by Priority queue (passed ++ p ∷ []) ≡ queue_without p.frame (unsent_by Priority queue passed)
left_without queue passed p e =
    fold-append queue_after queue passed (p ∷ []) ∙ ap (λ b. cond b (queue_without p.frame (fold queue_after queue passed)) (fold queue_after queue passed)) e

-- without a frame that it has, a queue has the others
taken_out : (u : List Queued) (n : ℕ) (c : Content) → slice_get (queued_contents u) n ≡ Some c → IsPermutation (queued_contents u) (c ∷ queued_contents (queue_without c u))
taken_out [] n c e = cc
taken_out (q ∷ qs) n c e = by (λ m. taken_out qs m c) (same_content q.frame c) refl n e
  where
    by : ((m : ℕ) → slice_get (queued_contents qs) m ≡ Some c → IsPermutation (queued_contents qs) (c ∷ queued_contents (queue_without c qs))) → (b : Bool) → same_content q.frame c ≡ b → (n : ℕ) → slice_get (queued_contents (q ∷ qs)) n ≡ Some c
        → IsPermutation (q.frame ∷ queued_contents qs) (c ∷ queued_contents (cond b qs (q ∷ queue_without c qs)))
    by more true alike n e =
        subst (λ f. IsPermutation (q.frame ∷ queued_contents qs) (f ∷ queued_contents qs)) ((content_decides q.frame c).0 alike) (IsPermutation-refl (q.frame ∷ queued_contents qs))
    by more false other zero e = (let alike = (content_decides q.frame c).1 (some_same q.frame c e) in cc)
    by more false other (suc n) e =
        IsPermutation-trans (q.frame ∷ queued_contents qs) (q.frame ∷ c ∷ queued_contents (queue_without c qs)) (c ∷ q.frame ∷ queued_contents (queue_without c qs))
        (IsPermutation-cons q.frame (queued_contents qs) (c ∷ queued_contents (queue_without c qs)) (more n e))
        (IsPermutation-middle (q.frame ∷ []) c (queued_contents (queue_without c qs)))

first_out : (u : List Queued) (c : Content) → slice_get (queued_contents u) 0 ≡ Some c → queued_contents u ≡ c ∷ queued_contents (drop 1 u)
first_out [] c e = cc
first_out (q ∷ more) c e = ap (λ f. f ∷ queued_contents more) (let h : q.frame ≡ c = cc in h)

-- a frame that was handed and is sent is no more among them
pub left_sent : (o : QueueOrder) (queue : List Queued) (passed : List Passed) (p : Passed) (k : ℕ) → p.sent ≡ true → head_by o (unsent_by o queue passed) k ≡ Some p.frame
    → IsPermutation (queued_contents (unsent_by o queue passed)) (p.frame ∷ queued_contents (unsent_by o queue (passed ++ p ∷ [])))
left_sent Fifo queue passed p k sent e =
    subst (IsPermutation (queued_contents (unsent_by Fifo queue passed)))
    (first_out (unsent_by Fifo queue passed) p.frame (first_of_ready (unsent_by Fifo queue passed) k p.frame e) ∙ ap (λ u. p.frame ∷ queued_contents u) (sym (left_tail queue passed p sent)))
    (IsPermutation-refl (queued_contents (unsent_by Fifo queue passed)))
left_sent Priority queue passed p k sent e =
    let n = in_by Priority (unsent_by Priority queue passed) k p.frame e in
    subst (λ u. IsPermutation (queued_contents (unsent_by Priority queue passed)) (p.frame ∷ queued_contents u)) (sym (left_without queue passed p sent))
    (taken_out (unsent_by Priority queue passed) n.0 p.frame n.1)

-- in the order of a queue that is first in, first out
pub fifo_left : (queue : List Queued) (passed : List Passed) (p : Passed) (k : ℕ) → p.sent ≡ true → head_by Fifo (unsent_by Fifo queue passed) k ≡ Some p.frame
    → queued_contents (unsent_by Fifo queue passed) ≡ p.frame ∷ queued_contents (unsent_by Fifo queue (passed ++ p ∷ []))
fifo_left queue passed p k sent e =
    first_out (unsent_by Fifo queue passed) p.frame (first_of_ready (unsent_by Fifo queue passed) k p.frame e) ∙ ap (λ u. p.frame ∷ queued_contents u) (sym (left_tail queue passed p sent))

drop_in : (n : ℕ) (queue : List Queued) (c : Content) → IsIn c (drop n queue) → IsIn c queue
drop_in zero queue c h = h
drop_in (suc n) [] c h = h
drop_in (suc n) (q ∷ queue) c h = (let m = drop_in n queue c h in (suc m.0, m.1))

without_in : (u : List Queued) (d c : Content) (n : ℕ) → slice_get (queued_contents (queue_without d u)) n ≡ Some c → IsIn c u
without_in [] d c n e = (n, e)
without_in (q ∷ qs) d c n e = by (λ m. without_in qs d c m) (same_content q.frame d) n e
  where
    by : ((m : ℕ) → slice_get (queued_contents (queue_without d qs)) m ≡ Some c → IsIn c qs) → (b : Bool) (n : ℕ) → slice_get (queued_contents (cond b qs (q ∷ queue_without d qs))) n ≡ Some c → IsIn c (q ∷ qs)
    by more true n e = (suc n, e)
    by more false zero e = (0, e)
    by more false (suc n) e = (let m = more n e in (suc m.0, m.1))

fold_in : (passed : List Passed) (u : List Queued) (c : Content) → IsIn c (fold queue_after u passed) → IsIn c u
fold_in [] u c h = h
fold_in (p ∷ passed) u c h = (let m = fold_in passed (queue_after u p) c h in by p.sent m)
  where
    by : (b : Bool) → IsIn c (cond b (queue_without p.frame u) u) → IsIn c u
    by true m = without_in u p.frame c m.0 m.1
    by false m = m

pub left_in : (o : QueueOrder) (queue : List Queued) (passed : List Passed) (c : Content) → IsIn c (unsent_by o queue passed) → IsIn c queue
left_in Fifo queue passed c h = drop_in (count_by is_sent passed) queue c h
left_in Priority queue passed c h = fold_in passed queue c h

-- no frame is left of an empty queue
without_none : (passed : List Passed) → fold queue_after [] passed ≡ []
without_none [] = refl
without_none (p ∷ passed) = ap (λ u. fold queue_after u passed) (by p.sent) ∙ without_none passed
  where
    by : (b : Bool) → cond b (queue_without p.frame []) [] ≡ []
    by true = refl
    by false = refl

pub left_none : (o : QueueOrder) (passed : List Passed) → unsent_by o [] passed ≡ []
left_none Fifo passed = drop_nothing (count_by is_sent passed)
left_none Priority passed = without_none passed

-- a queue that is first in, first out, hands the next in its order
drop_at : (n : ℕ) (queue : List Queued) (c : Content) → slice_get (queued_contents (drop n queue)) 0 ≡ Some c → slice_get (queued_contents queue) n ≡ Some c
drop_at zero queue c e = e
drop_at (suc n) [] c e = e
drop_at (suc n) (q ∷ queue) c e = drop_at n queue c e

pub fifo_at : (queue : List Queued) (passed : List Passed) (k : ℕ) (c : Content) → head_by Fifo (unsent_by Fifo queue passed) k ≡ Some c
    → slice_get (queued_contents queue) (count_by is_sent passed) ≡ Some c
fifo_at queue passed k c e = drop_at (count_by is_sent passed) queue c (first_of_ready (unsent_by Fifo queue passed) k c e)

-- the first that is left is ready as soon as so many of the queue and one are
count_first : (p : Passed) (passed : List Passed) → count_by is_sent (p ∷ passed) ≡ cond p.sent 1 0 + count_by is_sent passed
count_first p passed = sum_by-append (λ x. cond (is_sent x) 1 0) (p ∷ []) passed ∙ omega arith

abbrev AreReadyBy : List Queued → (most ready : ℕ) → Type 0
AreReadyBy u most ready = (j : ℕ) → j ≤ most → ready_at u j ≤ ready

without_ready_by : (u : List Queued) (c : Content) (most ready : ℕ) → AreReadyBy u (suc most) ready → AreReadyBy (queue_without c u) most ready
without_ready_by [] c most ready all j few = all j (omega arith)
without_ready_by (q ∷ qs) c most ready all j few = by (λ m less. without_ready_by qs c m ready (λ i low. all (suc i) (omega arith))) (same_content q.frame c) j few
  where
    by : ((m : ℕ) → suc m ≤ most → AreReadyBy (queue_without c qs) m ready) → (b : Bool) (j : ℕ) → j ≤ most → ready_at (cond b qs (q ∷ queue_without c qs)) j ≤ ready
    by more true j few = all (suc j) (omega arith)
    by more false zero few = all 0 (omega arith)
    by more false (suc j) few = more j few j (omega arith)

fold_ready_by : (passed : List Passed) (u : List Queued) (ready : ℕ) → AreReadyBy u (count_by is_sent passed) ready → AreReadyBy (fold queue_after u passed) 0 ready
fold_ready_by [] u ready all = all
fold_ready_by (p ∷ passed) u ready all = fold_ready_by passed (queue_after u p) ready (by p.sent (count_first p passed))
  where
    by : (b : Bool) → count_by is_sent (p ∷ passed) ≡ cond b 1 0 + count_by is_sent passed → AreReadyBy (cond b (queue_without p.frame u) u) (count_by is_sent passed) ready
    by true e = without_ready_by u p.frame (count_by is_sent passed) ready (λ j few. all j (omega arith))
    by false e = λ j few. all j (omega arith)

pub left_ready_by : (o : QueueOrder) (queue : List Queued) (passed : List Passed) (ready : ℕ) → AreReadyBy queue (count_by is_sent passed) ready → first_ready (unsent_by o queue passed) ≤ ready
left_ready_by Fifo queue passed ready all = all (count_by is_sent passed) (omega arith)
left_ready_by Priority queue passed ready all = fold_ready_by passed queue ready all 0 (omega arith)

-- and as one of the queue is
abbrev IsReadyAs : ℕ → List Queued → Type 0
IsReadyAs ready u = (n : ℕ) × (n < length u) × (ready ≡ ready_at u n)

drop_ready : (n : ℕ) (queue : List Queued) → 0 < length (drop n queue) → n < length queue
drop_ready zero queue some = some
drop_ready (suc n) [] some = absurd (omega arith)
drop_ready (suc n) (q ∷ queue) some = (let less = drop_ready n queue some in omega arith)

without_ready : (u : List Queued) (d : Content) (m : ℕ) → m < length (queue_without d u) → IsReadyAs (ready_at (queue_without d u) m) u
without_ready [] d m less = absurd (omega arith)
without_ready (q ∷ qs) d m less = by (without_ready qs d) (same_content q.frame d) m less
  where
    by : ((m : ℕ) → m < length (queue_without d qs) → IsReadyAs (ready_at (queue_without d qs) m) qs) → (b : Bool) (m : ℕ) → m < length (cond b qs (q ∷ queue_without d qs))
        → IsReadyAs (ready_at (cond b qs (q ∷ queue_without d qs)) m) (q ∷ qs)
    by more true m less = (suc m, omega arith, refl)
    by more false zero less = (0, omega arith, refl)
    by more false (suc m) less = (let x = more m (omega arith) in let inside = x.1 in (suc x.0, omega arith, x.2))

fold_ready : (passed : List Passed) (u : List Queued) (m : ℕ) → m < length (fold queue_after u passed) → IsReadyAs (ready_at (fold queue_after u passed) m) u
fold_ready [] u m less = (m, less, refl)
fold_ready (p ∷ passed) u m less = (let x = fold_ready passed (queue_after u p) m less in by p.sent x.0 x.1 x.2)
  where
    by : (b : Bool) (n : ℕ) → n < length (cond b (queue_without p.frame u) u)
        → ready_at (fold queue_after (queue_after u p) passed) m ≡ ready_at (cond b (queue_without p.frame u) u) n → IsReadyAs (ready_at (fold queue_after (queue_after u p) passed) m) u
    by true n inside e = (let y = without_ready u p.frame n inside in (y.0, y.1, e ∙ y.2))
    by false n inside e = (n, inside, e)

pub left_ready : (o : QueueOrder) (queue : List Queued) (passed : List Passed) → 0 < length (unsent_by o queue passed)
    → (n : ℕ) × (n < length queue) × (first_ready (unsent_by o queue passed) ≡ ready_at queue n)
left_ready Fifo queue passed some = (count_by is_sent passed, drop_ready (count_by is_sent passed) queue some, refl)
left_ready Priority queue passed some = fold_ready passed queue 0 some
