-- What a queue hands its node at a quantum, of the frames that the node hasn't sent.
use Rattle.std.proofs.Common.{◌≡◌, ◌∙◌, inl, inr, refl, sym, ap, subst, ℕ, zero, suc, ◌+◌, ◌<◌, ◌≤◌, cond, Bool, true, false, List, [], ◌∷◌, ◌++◌, length, Some, None, arith, append_assoc, length-append}
use Rattle.std.specs.Prelude.{IsPermutation, count_by, drop, slice_get}
use Rattle.std.proofs.lemmas.Bool.{cases_Bool, cases_lt}
use Rattle.std.proofs.lemmas.List.Sorted.{IsPermutation-pop_more, IsPermutation-refl, length_permutation}
use Rattle.wl_frame.specs.Grammar.{Content}
use Rattle.wl_frame.specs.Same.{content_decides, same_content}
use Rattle.wl_node.specs.declared.setup.NodeSetup.{NodeSetup}
use Rattle.wl_node.specs.declared.setup.Passed.{Passed}
use Rattle.wl_node.specs.declared.setup.Queued.{Queued}
use Rattle.wl_node.specs.declared.setup.QueueOrder.TheVariants.{Fifo}
use Rattle.wl_node.specs.Queues.{head_by, is_sent, unsent_by}
use Rattle.wl_buses.specs.BothProofs.Queues.{ComeFrom, IsFifo, head_at, place_among, queued_contents, ready_at, unsent_after, wakes_at}
use Rattle.wl_buses.proofs.BothProofs.Orders as orders

pub same_length : (queue : List Queued) → length (queued_contents queue) ≡ length queue
same_length [] = refl
same_length (q ∷ more) = ap suc (same_length more)

-- the place of a frame in a list that has it
pub place_is : (c : Content) (fs : List Content) (n : ℕ) → slice_get fs n ≡ Some c → slice_get fs (place_among (Some c) fs) ≡ Some c
place_is c [] n e = cc
place_is c (f ∷ fs) zero e = elim (cases_Bool (same_content c f)) [
  | inl alike ↦ ap (λ b. slice_get (f ∷ fs) (cond b 0 (suc (place_among (Some c) fs)))) alike ∙ e
  | inr other ↦ absurd (both_ways (same_content c f) other ((content_decides c f).1 (same_some f c e)))
]
  where
    same_some : (f c : Content) → Some f ≡ Some c → c ≡ f
    same_some f c e = cc

    both_ways : (b : Bool) → b ≡ false → b ≡ true → ⊥
    both_ways b off on = cc
place_is c (f ∷ fs) (suc n) e = elim (cases_Bool (same_content c f)) [
  | inl alike ↦ ap (λ b. slice_get (f ∷ fs) (cond b 0 (suc (place_among (Some c) fs)))) alike ∙ ap Some (sym ((content_decides c f).0 alike))
  | inr other ↦ ap (λ b. slice_get (f ∷ fs) (cond b 0 (suc (place_among (Some c) fs)))) other ∙ place_is c fs n e
]

-- an element of a list
pub some_at : (cs : List Content) (n : ℕ) → n < length cs → (c : Content) × (slice_get cs n ≡ Some c)
some_at [] n less = absurd (omega arith)
some_at (c ∷ cs) zero less = (c, refl)
some_at (c ∷ cs) (suc n) less = some_at cs n (omega arith)

pub some_then : (cs : List Content) (n : ℕ) (c : Content) → slice_get cs n ≡ Some c → n < length cs
some_then [] n c e = cc
some_then (x ∷ cs) zero c e = omega arith
some_then (x ∷ cs) (suc n) c e = (let h = some_then cs n c e in omega arith)

pub none_then : (cs : List Content) (n : ℕ) → slice_get cs n ≡ None → length cs ≤ n
none_then [] n e = omega arith
none_then (x ∷ cs) zero e = cc
none_then (x ∷ cs) (suc n) e = (let h = none_then cs n e in omega arith)

-- none before it wakes, none of no frames, and one of some from then on
pub head_none : (setup : NodeSetup) (k : ℕ) → head_at setup [] k ≡ None
head_none setup k = orders.none_by setup.order k

pub head_early : (setup : NodeSetup) (unsent : List Queued) (k : ℕ) → k < wakes_at setup unsent → head_at setup unsent k ≡ None
head_early setup unsent k less = orders.early_by setup.order unsent k less

-- a frame of a queue that it is handed
pub record IsHanded (setup : NodeSetup) (unsent : List Queued) (k : ℕ) : Type 0 where
  pub frame : Content
  pub is : head_at setup unsent k ≡ Some frame

pub head_late : (setup : NodeSetup) (unsent : List Queued) (k : ℕ) → 0 < length unsent → wakes_at setup unsent ≤ k → IsHanded setup unsent k
head_late setup unsent k some late = let x = orders.late_by setup.order unsent k some late in record { frame = x.0; is = x.1 }

-- a node was handed a frame at some quantum, of those that are left
abbrev pub IsHandedBy : NodeSetup → List Queued → Content → Type 0
IsHandedBy setup left frame = (quantum : ℕ) × (head_at setup left quantum ≡ Some frame)

-- it is one of them
pub head_in : (setup : NodeSetup) (unsent : List Queued) (k : ℕ) (c : Content) → head_at setup unsent k ≡ Some c → (n : ℕ) × (slice_get (queued_contents unsent) n ≡ Some c)
head_in setup unsent k c e = orders.in_by setup.order unsent k c e

-- what is left after frames have passed the node
pub unsent_first : (setup : NodeSetup) → unsent_after setup [] ≡ setup.queue
unsent_first setup = orders.left_first setup.order setup.queue

pub unsent_received : (setup : NodeSetup) (passed : List Passed) (p : Passed) → p.sent ≡ false → unsent_after setup (passed ++ p ∷ []) ≡ unsent_after setup passed
unsent_received setup passed p e = orders.left_received setup.order setup.queue passed p e

-- a frame that was handed and is sent is no more among them
pub unsent_sent : (setup : NodeSetup) (passed : List Passed) (p : Passed) (k : ℕ) → p.sent ≡ true → head_at setup (unsent_after setup passed) k ≡ Some p.frame
    → IsPermutation (queued_contents (unsent_after setup passed)) (p.frame ∷ queued_contents (unsent_after setup (passed ++ p ∷ [])))
unsent_sent setup passed p k sent e = orders.left_sent setup.order setup.queue passed p k sent e

pub sent_length : (setup : NodeSetup) (passed : List Passed) (p : Passed) (k : ℕ) → p.sent ≡ true → head_at setup (unsent_after setup passed) k ≡ Some p.frame
    → suc (length (unsent_after setup (passed ++ p ∷ []))) ≡ length (unsent_after setup passed)
sent_length setup passed p k sent e =
    let same = length_permutation (queued_contents (unsent_after setup passed)) (p.frame ∷ queued_contents (unsent_after setup (passed ++ p ∷ []))) (unsent_sent setup passed p k sent e) in
    let before = same_length (unsent_after setup passed) in
    let after = same_length (unsent_after setup (passed ++ p ∷ [])) in
    omega arith

-- it is one of the queue
pub unsent_in : (setup : NodeSetup) (passed : List Passed) (n : ℕ) (c : Content) → slice_get (queued_contents (unsent_after setup passed)) n ≡ Some c → (m : ℕ) × (slice_get (queued_contents setup.queue) m ≡ Some c)
unsent_in setup passed n c e = orders.left_in setup.order setup.queue passed c (n, e)

-- a queue that is first in, first out
pub fifo_unsent : (setup : NodeSetup) (passed : List Passed) → IsFifo setup → unsent_after setup passed ≡ drop (count_by is_sent passed) setup.queue
fifo_unsent setup passed fifo = ap (λ o. unsent_by o setup.queue passed) fifo

fifo_head : (setup : NodeSetup) (passed : List Passed) (k : ℕ) (c : Content) → (fifo : IsFifo setup) → head_at setup (unsent_after setup passed) k ≡ Some c
    → head_by Fifo (unsent_by Fifo setup.queue passed) k ≡ Some c
fifo_head setup passed k c fifo e = sym (ap (λ o. head_by o (unsent_by o setup.queue passed) k) fifo) ∙ e

-- what it hands is the next in its order
pub fifo_next : (setup : NodeSetup) (passed : List Passed) (k : ℕ) (c : Content) → IsFifo setup → head_at setup (unsent_after setup passed) k ≡ Some c
    → slice_get (queued_contents setup.queue) (count_by is_sent passed) ≡ Some c
fifo_next setup passed k c fifo e = orders.fifo_at setup.queue passed k c (fifo_head setup passed k c fifo e)

pub fifo_sent : (setup : NodeSetup) (passed : List Passed) (p : Passed) (k : ℕ) → IsFifo setup → p.sent ≡ true → head_at setup (unsent_after setup passed) k ≡ Some p.frame
    → queued_contents (unsent_after setup passed) ≡ p.frame ∷ queued_contents (unsent_after setup (passed ++ p ∷ []))
fifo_sent setup passed p k fifo sent e =
    ap queued_contents (ap (λ o. unsent_by o setup.queue passed) fifo) ∙ orders.fifo_left setup.queue passed p k sent (fifo_head setup passed k p.frame fifo e)
    ∙ ap (λ u. p.frame ∷ queued_contents u) (sym (ap (λ o. unsent_by o setup.queue (passed ++ p ∷ [])) fifo))

-- of an empty queue nothing is left
pub unsent_none : (setup : NodeSetup) (passed : List Passed) → setup.queue ≡ [] → unsent_after setup passed ≡ []
unsent_none setup passed e = ap (λ q. unsent_by setup.order q passed) e ∙ orders.left_none setup.order passed

-- a node that is handed none of some frames isn't awake yet
pub awake_later : (setup : NodeSetup) (unsent : List Queued) (k : ℕ) → 0 < length unsent → head_at setup unsent k ≡ None → k < wakes_at setup unsent
awake_later setup unsent k some none = elim (cases_lt k (wakes_at setup unsent)) [
  | inl early ↦ early
  | inr late ↦ (let x = head_late setup unsent k some late in absurd (let e : Some x.frame ≡ None = sym x.is ∙ none in cc))
]

-- who is handed one has some
pub handed_some : (setup : NodeSetup) (unsent : List Queued) (k : ℕ) (c : Content) → head_at setup unsent k ≡ Some c → 0 < length unsent
handed_some setup [] k c e = absurd (let h : None ≡ Some c = sym (head_none setup k) ∙ e in cc)
handed_some setup (q ∷ more) k c e = omega arith

-- it wakes by the time at which so many of the queue and one are ready
pub awake_by : (setup : NodeSetup) (passed : List Passed) (r : ℕ) → ((j : ℕ) → j ≤ count_by is_sent passed → ready_at setup.queue j ≤ r) → wakes_at setup (unsent_after setup passed) ≤ r
awake_by setup passed r all = orders.left_ready_by setup.order setup.queue passed r all

-- what comes from a queue: at first it has all frames, and a frame that was handed and is sent is one more
pub come_first : (setup : NodeSetup) → ComeFrom setup [] (queued_contents (unsent_after setup []))
come_first setup = record {
  once = subst (λ u. IsPermutation (queued_contents setup.queue) (queued_contents u)) (sym (unsent_first setup)) (IsPermutation-refl (queued_contents setup.queue));
  order = λ fifo. ap queued_contents (unsent_first setup);
}

pub come_next : (setup : NodeSetup) (passed : List Passed) (p : Passed) (k : ℕ) (sent : List Content) → p.sent ≡ true → head_at setup (unsent_after setup passed) k ≡ Some p.frame
    → ComeFrom setup sent (queued_contents (unsent_after setup passed)) → ComeFrom setup (sent ++ p.frame ∷ []) (queued_contents (unsent_after setup (passed ++ p ∷ [])))
come_next setup passed p k sent own e from = record {
  once =
      IsPermutation-pop_more (queued_contents setup.queue) sent (queued_contents (unsent_after setup passed)) (queued_contents (unsent_after setup (passed ++ p ∷ []))) p.frame from.once
      (unsent_sent setup passed p k own e);
  order = λ fifo.
      append_assoc sent (p.frame ∷ []) (queued_contents (unsent_after setup (passed ++ p ∷ []))) ∙ ap (λ l. sent ++ l) (sym (fifo_sent setup passed p k fifo own e)) ∙ from.order fifo;
}

pub come_length : (setup : NodeSetup) (sent left : List Content) → ComeFrom setup sent left → length sent + length left ≡ length setup.queue
come_length setup sent left from =
    let both = length_permutation (queued_contents setup.queue) (sent ++ left) from.once in
    let sum = length-append sent left in
    let same = same_length setup.queue in
    omega arith

-- it wakes as one of the queue is ready
pub wakes_one : (setup : NodeSetup) (passed : List Passed) → 0 < length (unsent_after setup passed)
    → (n : ℕ) × (n < length setup.queue) × (wakes_at setup (unsent_after setup passed) ≡ ready_at setup.queue n)
wakes_one setup passed some = orders.left_ready setup.order setup.queue passed some
