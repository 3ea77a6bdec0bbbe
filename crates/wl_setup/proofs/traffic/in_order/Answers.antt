-- All frames are passed until there are enough instances; those are sorted, and wait.
use Rattle.std.proofs.Common.{rules, ◌≡◌, ◌++◌, suc, false, [], ℕ, ◌+◌, ◌∙◌, ap, arith, take, drop, map, List}
use Rattle.std.proofs.lemmas.List.Sorted.{IsNonDecreasingBy-from_sort_by_key, answers_always}
use Rattle.wl_level.proofs.Callers.{sorted_is_by_tick}
use Rattle.wl_frame.specs.Grammar.{Content}
use Rattle.wl_plan.specs.Limits.{most_queued}
use Rattle.wl_setup.specs.Plans.{all_instances, as_queued, latest_ready, by_ready}
use Rattle.wl_setup.proofs.ReadyLemmas.{all_ready}
use Rattle.wl_setup.proofs.Repeats.{frame_taken, frame_skipped, frames_taken, all_waiting}
use Rattle.wl_setup.proofs.traffic.in_order.Goals.{then-len-le-MOST_QUEUED+in_ok-push_instances, else-len-le-MOST_QUEUED}
use Rattle.wl_setup.proofs.traffic.in_order.Goals as goal

-- some frame
abbrev some_frame : Content
some_frame = record { extended = false; id = 0; remote = false; dlc = 0; bytes = [] }

pub loop-n-init : goal.loop-n-init
loop-n-init c =
    ap (λ xs. take (suc most_queued) (xs ++ all_instances c.args.clock.now c.args.end c.args.texts.now c.args.queue.now)) c.new-all.ensures.items

pub loop-n-preserved : goal.loop-n-preserved
loop-n-preserved c =
    let clock = c.args.clock.now in
    let end : ℕ = c.args.end in
    let texts = c.args.texts.now in
    let queue = c.args.queue.now in
    let n : ℕ = c.loop-n.n in
    elim c.if-len-le-MOST_QUEUED.branch [
      | then-len-le-MOST_QUEUED+in_ok-push_instances w ↦
          frame_taken clock end texts queue (suc most_queued) n c.index-texts-n.result w.index-queue-n.result c.loop-n.all.items c.if-len-le-MOST_QUEUED.all.items _ c.loop-n-test.true
          (omega (arith, c.requires.frames)) c.index-texts-n.is w.index-queue-n.is (ap (λ v. v.items) w.all-is ∙ w.in_ok-push_instances.ensures) c.loop-n.invariant
      | else-len-le-MOST_QUEUED w ↦
          ap (λ xs. take (suc most_queued) (xs ++ all_instances clock end (drop (n + 1) texts) (drop (n + 1) queue))) (ap (λ v. v.items) w.all-is)
          ∙ frame_skipped clock end texts queue (suc most_queued) n c.loop-n.all.items _ (omega (arith, c.len.ensures, w.if-len-le-MOST_QUEUED.false)) c.loop-n.invariant
    ]

pub returns : goal.returns
returns c =
    let taken : List (ℕ × Content) = c.truncate.new.self.items in
    let items : List (ℕ × Content) = c.sort_by_key.new.self.items in
    let enough : take (suc most_queued) c.loop-n.all.items ≡ take (suc most_queued) (all_instances c.args.clock.now c.args.end c.args.texts.now c.args.queue.now) =
    frames_taken c.args.clock.now c.args.end c.args.texts.now c.args.queue.now (suc most_queued) c.loop-n.n c.loop-n.all.items _ c.loop-n-test.false (omega (arith, c.requires.frames)) c.loop-n.invariant in
    let sorted : items ≡ by_ready taken =
    sorted_is_by_tick (suc (latest_ready taken)) some_frame taken items c.in_ok-sort_by_key.ensures.permutation
    (IsNonDecreasingBy-from_sort_by_key (λ s. s.0) _ c.in_ok-sort_by_key.ensures.sorted (λ a r q k. search rules))
    (c.in_ok-sort_by_key.ensures.stable (λ s. s.0) (answers_always _ (λ a r. r ≡ a.0.now.0) _ (λ f a r q k. search rules)))
    (all_ready taken) in
    all_waiting c.as_slice-ready-items.result.now c.loop-ready.ready-index c.loop-ready.waiting _ c.loop-ready-test.false c.loop-ready.invariant
    ∙ ap (map as_queued) (c.as_slice-ready-items.ensures.value ∙ sorted ∙ ap by_ready (c.truncate.ensures.items ∙ enough))
