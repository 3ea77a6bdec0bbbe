-- What has passed a node, as a list: its first parts, and what of it the node has sent.
use Rattle.std.proofs.Common.{◌≡◌, ◌≢◌, ◌∙◌, refl, sym, ap, subst, inl, inr, ℕ, zero, suc, ◌+◌, ◌<◌, ◌≤◌, ◌==◌, cond, Bool, true, false, List, [], ◌∷◌, ◌++◌, length, take, Some, arith, append-nil}
use Rattle.std.specs.Prelude.{count_by, filter, map, slice_get}
use Rattle.std.proofs.lemmas.Bool.{cases_eq, eq-eqb, ne_eqb}
use Rattle.std.proofs.lemmas.List.{length-append, map-append, take-append-le}
use Rattle.std.proofs.lemmas.List.Elements.{filter-append}
use Rattle.std.proofs.lemmas.List.Sums.{sum_by-append}
use Rattle.std.proofs.Math.Seq.{take-append_seam, take-length}
use Rattle.wl_frame.specs.Grammar.{Content}
use Rattle.wl_node.specs.declared.setup.NodeSetup.{NodeSetup}
use Rattle.wl_node.specs.declared.setup.Passed.{Passed}
use Rattle.wl_node.specs.History.{is_sent}
use Rattle.wl_buses.specs.BothProofs.Queues.{ComeFrom, IsFifo, queued_contents, unsent_after}
use Rattle.wl_buses.proofs.BothProofs.Heads.{IsHandedBy, come_first, come_next, fifo_next, sent_length, unsent_first, unsent_received}
use Rattle.wl_buses.specs.OneFrame.Stations.{Stations}
use Rattle.wl_buses.specs.FrameEnd.Rests.{passed_frame}
use Rattle.wl_buses.specs.NextFrames.Frames.{Frame}
use Rattle.wl_buses.specs.SentFrames.Winners.{passed_with, won_by}
use Rattle.wl_buses.specs.CleanPlans.Clean.{sent_contents}

module _ (s : Stations) (frames : ℕ → Frame) (winner : ℕ → ℕ) (content : ℕ → Content) (i : ℕ) where
  abbrev P : ℕ → List Passed
  P n = passed_with s frames winner content i n

  -- the frame that passes it next
  abbrev one : ℕ → Passed
  one n = passed_frame s (frames n).outset (frames n).bits i (winner n) (content n)

  pub many : (n : ℕ) → length (P n) ≡ n
  many zero = refl
  many (suc n) = (let before = many n in let both = length-append (P n) (one n ∷ []) in omega arith)

  first_of : (m n : ℕ) → n ≤ m → take n (P m) ≡ P n
  first_of zero zero few = refl
  first_of zero (suc n) few = absurd (omega arith)
  first_of (suc m) n few = elim (cases_eq n (suc m)) [
    | inl all ↦ subst (λ k. take k (P (suc m)) ≡ P k) (many (suc m) ∙ sym all) (subst (λ k. take (length (P (suc m))) (P (suc m)) ≡ P k) (sym (many (suc m))) (take-length (P (suc m))))
    | inr other ↦ (let n_low : n ≤ m = omega (arith, other, few) in let all = many m in take-append-le n (P m) (one m ∷ []) (omega arith) ∙ first_of m n n_low)
  ]

  -- a first part of what has passed
  pub part : (m : ℕ) (xs more : List Passed) → P m ≡ xs ++ more → (n : ℕ) × (n ≤ m) × (xs ≡ P n)
  part m xs more e =
      let few : length xs ≤ m = (let all = many m in let both = ap length e in let sum = length-append xs more in omega arith) in
      (length xs, few, sym (take-append_seam xs more) ∙ ap (take (length xs)) (sym e) ∙ first_of m (length xs) few)

  pub count_sent : (n : ℕ) → count_by is_sent (P n) ≡ won_by winner i n
  count_sent zero = refl
  count_sent (suc n) =
      sum_by-append (λ p. cond (is_sent p) 1 0) (P n) (one n ∷ []) ∙ ap (λ k. k + count_by is_sent (one n ∷ [])) (count_sent n)
      ∙ ap (λ k. won_by winner i n + k) (let e : 0 + cond (i == winner n) 1 0 ≡ cond (i == winner n) 1 0 = omega arith in e)

  pub sent_both : (xs ys : List Passed) → sent_contents (xs ++ ys) ≡ sent_contents xs ++ sent_contents ys
  sent_both xs ys = ap (map (λ p. p.frame)) (filter-append is_sent xs ys) ∙ map-append (λ p. p.frame) (filter is_sent xs) (filter is_sent ys)

  pub sent_one : (b : Bool) (x : Passed) → map (λ p. p.frame) (cond b (x ∷ []) []) ≡ cond b (x.frame ∷ []) []
  sent_one true x = refl
  sent_one false x = refl

  -- what it has sent, and what its queue still has
  module _ (setup : NodeSetup) (count : ℕ) (handed : (n : ℕ) → n < count → i ≡ winner n → IsHandedBy setup (unsent_after setup (P n)) (content n)) where
    abbrev left : ℕ → List Content
    left n = queued_contents (unsent_after setup (P n))

    sent_own : (n : ℕ) → i ≡ winner n → sent_contents (P (suc n)) ≡ sent_contents (P n) ++ content n ∷ []
    sent_own n e =
        sent_both (P n) (one n ∷ []) ∙ ap (λ l. sent_contents (P n) ++ l) (sent_one (i == winner n) (one n) ∙ ap (λ b. cond b (content n ∷ []) []) (eq-eqb i (winner n) e))

    sent_other : (n : ℕ) → i ≢ winner n → sent_contents (P (suc n)) ≡ sent_contents (P n)
    sent_other n e =
        sent_both (P n) (one n ∷ []) ∙ ap (λ l. sent_contents (P n) ++ l) (sent_one (i == winner n) (one n) ∙ ap (λ b. cond b (content n ∷ []) []) (ne_eqb i (winner n) e))
        ∙ append-nil (sent_contents (P n))

    left_other : (n : ℕ) → i ≢ winner n → unsent_after setup (P (suc n)) ≡ unsent_after setup (P n)
    left_other n e = unsent_received setup (P n) (one n) (ne_eqb i (winner n) e)

    pub come_from : (n : ℕ) → n ≤ count → ComeFrom setup (sent_contents (P n)) (queued_contents (unsent_after setup (P n)))
    come_from zero few = come_first setup
    come_from (suc n) few = elim (cases_eq i (winner n)) [
      | inl own ↦
          (let h = handed n few own in
          subst (λ l. ComeFrom setup l (left (suc n))) (sym (sent_own n own))
          (come_next setup (P n) (one n) h.0 (sent_contents (P n)) (eq-eqb i (winner n) own) h.1 (come_from n (omega arith))))
      | inr other ↦
          subst (λ l. ComeFrom setup l (left (suc n))) (sym (sent_other n other))
          (subst (λ u. ComeFrom setup (sent_contents (P n)) (queued_contents u)) (sym (left_other n other)) (come_from n (omega arith)))
    ]

    -- how many are left
    pub left_is : (n : ℕ) → n ≤ count → length (unsent_after setup (P n)) + won_by winner i n ≡ length setup.queue
    left_is zero few = (let e = ap length (unsent_first setup) in omega arith)
    left_is (suc n) few = elim (cases_eq i (winner n)) [
      | inl own ↦
          (let h = handed n few own in
          let fewer = sent_length setup (P n) (one n) h.0 (eq-eqb i (winner n) own) h.1 in
          let more : won_by winner i (suc n) ≡ won_by winner i n + 1 = ap (λ b. won_by winner i n + cond b 1 0) (eq-eqb i (winner n) own) in
          let before = left_is n (omega arith) in
          omega arith)
      | inr other ↦
          (let same = ap length (left_other n other) in
          let more : won_by winner i (suc n) ≡ won_by winner i n + 0 = ap (λ b. won_by winner i n + cond b 1 0) (ne_eqb i (winner n) other) in
          let before = left_is n (omega arith) in
          omega arith)
    ]

    -- the next in the order of a queue that is first in, first out
    pub next_in_order : IsFifo setup → (n : ℕ) → n < count → i ≡ winner n → slice_get (queued_contents setup.queue) (won_by winner i n) ≡ Some (content n)
    next_in_order fifo n less own =
        (let h = handed n less own in ap (slice_get (queued_contents setup.queue)) (sym (count_sent n)) ∙ fifo_next setup (P n) h.0 (content n) fifo h.1)
