-- The queue of a node that powers up later with the frames that another one hasn't sent.
use Rattle.std.proofs.Common.{◌≡◌, ◌∙◌, refl, sym, ap, ℕ, ◌+◌, ◌-◌, cond, Bool, true, false, List, [], ◌∷◌, ◌++◌, length, Some, None, arith}
use Rattle.std.specs.Prelude.{count_by, drop, fold, map, nat_le}
use Rattle.std.specs.Cmp.{both_ways}
use Rattle.std.proofs.lemmas.Bool.{le-leb, leb-true}
use Rattle.std.proofs.lemmas.List.{drop-drop, drop-map}
use Rattle.std.proofs.lemmas.List.Sums.{fold-append}
use Rattle.wl_frame.specs.Grammar.{Content}
use Rattle.wl_frame.specs.Same.{same_content}
use Rattle.wl_node.specs.declared.setup.NodeSetup.{NodeSetup}
use Rattle.wl_node.specs.declared.setup.Passed.{Passed}
use Rattle.wl_node.specs.declared.setup.Queued.{Queued}
use Rattle.wl_node.specs.declared.setup.QueueOrder.{QueueOrder}
use Rattle.wl_node.specs.declared.setup.QueueOrder.TheVariants.{Fifo, Priority}
use Rattle.wl_node.specs.History.{History, head_at_next, unsent_of}
use Rattle.wl_node.specs.Queues.{head_by, is_sent, least_frame, lesser_frame, queue_after, queue_without, ready_head, unsent_by, waiting_frames}
use Rattle.wl_node.proofs.Callers.{count_append}
use Rattle.wl_silence.specs.Restarts.{passed_since, ready_since, setup_since}

module _ (p : ℕ) where
  ready_later : (r n : ℕ) → nat_le (r - p) n ≡ nat_le r (p + n)
  ready_later r n =
      both_ways (nat_le (r - p) n) (nat_le r (p + n)) (λ e. (let h = leb-true (r - p) n e in le-leb r (p + n) (omega arith)))
      (λ e. (let h = leb-true r (p + n) e in le-leb (r - p) n (omega arith)))

  ready_since_is : (q : List Queued) (n : ℕ) → ready_head (map (ready_since p) q) n ≡ ready_head q (p + n)
  ready_since_is [] n = refl
  ready_since_is (x ∷ more) n = ap (λ b. cond b (Some x.frame) None) (ready_later x.ready n)

  waiting_since : (q : List Queued) (n : ℕ) → waiting_frames (map (ready_since p) q) n ≡ map (ready_since p) (waiting_frames q (p + n))
  waiting_since [] n = refl
  waiting_since (x ∷ more) n =
      ap (λ b. cond b (ready_since p x ∷ waiting_frames (map (ready_since p) more) n) []) (ready_later x.ready n)
      ∙ ap (λ l. cond (nat_le x.ready (p + n)) (ready_since p x ∷ l) []) (waiting_since more n) ∙ inside (nat_le x.ready (p + n))
    where
      inside : (b : Bool) → cond b (ready_since p x ∷ map (ready_since p) (waiting_frames more (p + n))) [] ≡ map (ready_since p) (cond b (x ∷ waiting_frames more (p + n)) [])
      inside true = refl
      inside false = refl

  least_since : (q : List Queued) → least_frame (map (ready_since p) q) ≡ least_frame q
  least_since [] = refl
  least_since (x ∷ more) = ap (λ o. Some (lesser_frame x.frame o)) (least_since more)

  -- the frame that it is handed
  pub head_since : (order : QueueOrder) (q : List Queued) (n : ℕ) → head_by order (map (ready_since p) q) n ≡ head_by order q (p + n)
  head_since Fifo q n = ready_since_is q n
  head_since Priority q n = ap least_frame (waiting_since q n) ∙ least_since (waiting_frames q (p + n))

  sent_from : (n : ℕ) (frames : List Passed) → fold (λ a x. a + cond (is_sent x) 1 0) n (map (passed_since p) frames) ≡ fold (λ a x. a + cond (is_sent x) 1 0) n frames
  sent_from n [] = refl
  sent_from n (x ∷ more) = sent_from (n + cond x.sent 1 0) more

  sent_since : (frames : List Passed) → count_by is_sent (map (passed_since p) frames) ≡ count_by is_sent frames
  sent_since frames = sent_from 0 frames

  without_since : (frame : Content) (q : List Queued) → queue_without frame (map (ready_since p) q) ≡ map (ready_since p) (queue_without frame q)
  without_since frame [] = refl
  without_since frame (x ∷ more) = ap (λ l. cond (same_content x.frame frame) (map (ready_since p) more) (ready_since p x ∷ l)) (without_since frame more) ∙ inside (same_content x.frame frame)
    where
      inside : (b : Bool) → cond b (map (ready_since p) more) (ready_since p x ∷ map (ready_since p) (queue_without frame more)) ≡ map (ready_since p) (cond b more (x ∷ queue_without frame more))
      inside true = refl
      inside false = refl

  after_since : (q : List Queued) (x : Passed) → queue_after (map (ready_since p) q) x ≡ map (ready_since p) (queue_after q (passed_since p x))
  after_since q x = ap (λ l. cond x.sent l (map (ready_since p) q)) (without_since x.frame q) ∙ inside x.sent
    where
      inside : (b : Bool) → cond b (map (ready_since p) (queue_without x.frame q)) (map (ready_since p) q) ≡ map (ready_since p) (cond b (queue_without x.frame q) q)
      inside true = refl
      inside false = refl

  left_since : (frames : List Passed) (q : List Queued) → fold queue_after (map (ready_since p) q) frames ≡ map (ready_since p) (fold queue_after q (map (passed_since p) frames))
  left_since [] q = refl
  left_since (x ∷ more) q = ap (λ l. fold queue_after l more) (after_since q x) ∙ left_since more (queue_after q (passed_since p x))

  -- the frames that it hasn't sent
  pub unsent_since : (order : QueueOrder) (q : List Queued) (frames : List Passed) → unsent_by order (map (ready_since p) q) frames ≡ map (ready_since p) (unsent_by order q (map (passed_since p) frames))
  unsent_since Fifo q frames = drop-map (ready_since p) (count_by is_sent frames) q ∙ ap (λ n. map (ready_since p) (drop n q)) (sym (sent_since frames))
  unsent_since Priority q frames = left_since frames q

-- more frames have passed
pub unsent_more : (order : QueueOrder) (q : List Queued) (a b : List Passed) → unsent_by order q (a ++ b) ≡ unsent_by order (unsent_by order q a) b
unsent_more Fifo q a b = ap (λ n. drop n q) (count_append is_sent a b) ∙ sym (drop-drop (count_by is_sent b) (count_by is_sent a) q)
unsent_more Priority q a b = fold-append queue_after q a b

-- what both nodes are handed
module _ (setup : NodeSetup) (p : ℕ) (before fresh now : History) (frames : now.frames ≡ before.frames ++ map (passed_since p) fresh.frames) (quanta : length now.seen ≡ p + length fresh.seen) where
  pub unsent_is : unsent_of (setup_since setup p before) fresh ≡ map (ready_since p) (unsent_of setup now)
  unsent_is =
      unsent_since p setup.order (unsent_of setup before) fresh.frames ∙ ap (map (ready_since p)) (sym (unsent_more setup.order setup.queue before.frames (map (passed_since p) fresh.frames)))
      ∙ ap (λ l. map (ready_since p) (unsent_by setup.order setup.queue l)) (sym frames)

  pub head_is : head_at_next (setup_since setup p before) fresh ≡ head_at_next setup now
  head_is =
      ap (λ u. head_by setup.order u (length fresh.seen)) unsent_is ∙ head_since p setup.order (unsent_of setup now) (length fresh.seen)
      ∙ ap (head_by setup.order (unsent_of setup now)) (sym quanta)
