-- Frames that become ready again and again.
use Rattle.std.proofs.Common.{◌≡◌, ℕ, zero, suc, ◌+◌, ◌-◌, ◌<◌, ◌≤◌, ◌⊎◌, inl, inr, Some, List, [], ◌∷◌, ◌++◌, take, drop, map, length, nat_lt, get_or, refl, ap₂, sym, ◌∙◌, ap, arith, append_assoc}
use Rattle.std.proofs.lemmas.Bool.{lt-ltb, le-ltb, cases_lt}
use Rattle.std.proofs.lemmas.List.{append-nil, drop_all}
use Rattle.wl_clock.specs.Timing.{Timing, tick_of}
use Rattle.wl_frame.specs.Grammar.{Content}
use Rattle.std.specs.Prelude.{min, unwrap_or}
use Rattle.wl_node.specs.declared.setup.Queued.{Queued}
use Rattle.wl_plan.specs.Limits.{most_queued}
use Rattle.wl_setup.specs.declared.plan_text.FrameText.{FrameText}
use Rattle.wl_setup.specs.Plans.{repeated, instances_by, instances_of, all_instances, as_queued}
use Rattle.wl_setup.proofs.Loops.{drop-at}

-- where numbers grow, those below the first that is not below the end are below the end, and no others
pub is_early : (q : ℕ → ℕ) → ((j k : ℕ) → j < k → q j < q k) → (end last : ℕ) → end ≤ q last → ((k : ℕ) → k < last → q k < end)
    → (r : ℕ) → nat_lt (q r) end ≡ nat_lt r last
is_early q later end last reached least r =
    elim (cases_lt r last) [
      | inl early ↦ lt-ltb (q r) end (least r early) ∙ sym (lt-ltb r last early)
      | inr late ↦ le-ltb (q r) end (none late (cases_lt last r)) ∙ sym (le-ltb r last late)
    ]
  where
    none : last ≤ r → (last < r) ⊎ (r ≤ last) → end ≤ q r
    none late (inl less) = (let e = later last r less in omega arith)
    none late (inr same) = (let e : last ≡ r = omega arith in let f : q last ≡ q r = ap q e in omega arith)

module _ (clock : Timing) (end every last : ℕ) (test : (r : ℕ) → nat_lt (tick_of clock r) end ≡ nat_lt r last) (frame : Content) where
  -- none becomes ready at the end or later
  pub none_late : (m r : ℕ) → last ≤ r → repeated clock end every m r frame ≡ []
  none_late zero r h = refl
  none_late (suc m) r h = rw (test r ∙ le-ltb r last h) refl

  one_ready : (m r : ℕ) → r < last → repeated clock end every (suc m) r frame ≡ (r, frame) ∷ repeated clock end every m (r + every) frame
  one_ready m r h = rw (test r ∙ lt-ltb r last h) refl

  -- it is the same from where both are late
  same_late : (m r s : ℕ) → (r ≡ s) ⊎ ((last ≤ r) × (last ≤ s)) → repeated clock end every m r frame ≡ repeated clock end every m s frame
  same_late m r s (inl e) = ap (λ x. repeated clock end every m x frame) e
  same_late m r s (inr late) = none_late m r late.0 ∙ sym (none_late m s late.1)

  -- one more: those so far, and then those that are left, are still all
  pub one_more : (front new whole : List (ℕ × Content)) (m c r s : ℕ) → c < m → r < last → (r + every ≡ s) ⊎ ((last ≤ r + every) × (last ≤ s))
      → new ≡ front ++ (r, frame) ∷ [] → front ++ repeated clock end every (m - c) r frame ≡ whole
      → new ++ repeated clock end every (m - (c + 1)) s frame ≡ whole
  one_more front new whole m c r s more early next grown part =
      let n : ℕ = m - (c + 1) in
      let e : m - c ≡ suc n = omega arith in
      ap (λ xs. xs ++ repeated clock end every n s frame) grown
      ∙ append_assoc front ((r, frame) ∷ []) (repeated clock end every n s frame)
      ∙ ap (λ xs. front ++ (r, frame) ∷ xs) (sym (same_late n (r + every) s next))
      ∙ ap (λ xs. front ++ xs) (sym (one_ready n r early))
      ∙ ap (λ k. front ++ repeated clock end every k r frame) (sym e)
      ∙ part

  -- the next is late
  pub rest_late : (front whole : List (ℕ × Content)) (m r : ℕ) → last ≤ r → front ++ repeated clock end every m r frame ≡ whole → front ≡ whole
  rest_late front whole m r late part = sym (append-nil front) ∙ ap (λ xs. front ++ xs) (sym (none_late m r late)) ∙ part

  -- there are as many as there may be
  pub none_left : (front whole : List (ℕ × Content)) (m c r : ℕ) → m ≤ c → front ++ repeated clock end every (m - c) r frame ≡ whole → front ≡ whole
  none_left front whole m c r enough part =
      let e : m - c ≡ 0 = omega arith in
      sym (append-nil front) ∙ ap (λ k. front ++ repeated clock end every k r frame) (sym e) ∙ part

-- what stands behind enough elements isn't taken
pub enough_taken : {X : Type 0} (c : ℕ) (xs ys : List X) → c ≤ length xs → take c (xs ++ ys) ≡ take c xs
enough_taken zero xs ys h = refl
enough_taken (suc c) [] ys h = absurd (omega arith)
enough_taken (suc c) (x ∷ xs) ys h = ap (λ zs. x ∷ zs) (enough_taken c xs ys (omega arith))

-- what is repeated is what there is of a frame that comes again
pub of_frame : (clock : Timing) (end every most : ℕ) (text : FrameText) (q : Queued) → text.every ≡ Some every
    → most ≡ min (unwrap_or text.count (suc most_queued)) (suc most_queued) → repeated clock end every most q.ready q.frame ≡ instances_of clock end text q
of_frame clock end every most text q comes many = ap₂ (λ e m. instances_by clock end e m q) (sym comes) many

module _ (clock : Timing) (end : ℕ) (texts : List FrameText) (qs : List Queued) where
  abbrev left : ℕ → List (ℕ × Content)
  left n = all_instances clock end (drop n texts) (drop n qs)

  -- those of one more frame are there
  pub frame_taken : (c n : ℕ) (text : FrameText) (q : Queued) (front new whole : List (ℕ × Content)) → n < length texts → n < length qs
      → text ≡ get_or texts n text → q ≡ get_or qs n q → new ≡ front ++ instances_of clock end text q
      → take c (front ++ left n) ≡ whole → take c (new ++ left (n + 1)) ≡ whole
  frame_taken c n text q front new whole has waits is_text is_queued grown part =
      ap (λ xs. take c (xs ++ left (n + 1))) grown
      ∙ ap (take c) (append_assoc front (instances_of clock end text q) (left (n + 1)))
      ∙ ap₂ (λ ts us. take c (front ++ all_instances clock end ts us)) (sym (drop-at texts n text has is_text)) (sym (drop-at qs n q waits is_queued))
      ∙ part

  -- there are enough already
  pub frame_skipped : (c n : ℕ) (front whole : List (ℕ × Content)) → c ≤ length front → take c (front ++ left n) ≡ whole → take c (front ++ left (n + 1)) ≡ whole
  frame_skipped c n front whole enough part = enough_taken c front (left (n + 1)) enough ∙ sym (enough_taken c front (left n) enough) ∙ part

  -- no frame is left
  pub frames_taken : (c n : ℕ) (front whole : List (ℕ × Content)) → length texts ≤ n → length qs ≤ n → take c (front ++ left n) ≡ whole → take c front ≡ whole
  frames_taken c n front whole past behind part =
      ap (take c) (sym (append-nil front))
      ∙ ap₂ (λ ts us. take c (front ++ all_instances clock end ts us)) (sym (drop_all n texts past)) (sym (drop_all n qs behind))
      ∙ part

-- all of them wait
pub all_waiting : (items : List (ℕ × Content)) (i : ℕ) (front whole : List Queued) → length items ≤ i → front ++ map as_queued (drop i items) ≡ whole → front ≡ whole
all_waiting items i front whole past part = sym (append-nil front) ∙ ap (λ xs. front ++ map as_queued xs) (sym (drop_all i items past)) ∙ part
