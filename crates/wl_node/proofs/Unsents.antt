-- The frames that are left of a queue, and the place of the one that goes next.
use Rattle.std.proofs.Common.{◌≡◌, ◌∙◌, ℕ, zero, suc, ◌+◌, ◌-◌, ◌<◌, ◌≤◌, Bool, true, false, cond, nat_le, List, [], ◌∷◌, ◌++◌, length, take, drop, Option, Some, None, refl, sym, ap, subst, arith, add-zero}
use Rattle.std.specs.Option.{MatchOption}
use Rattle.std.specs.Prelude.{slice_get, count_by, fold, nat_lt}
use Rattle.std.proofs.lemmas.List.Sums.{fold-append}
use Rattle.std.proofs.lemmas.List.{drop-drop, length-drop}
use Rattle.std.proofs.lemmas.List.Sums.{sum_by-append}
use Rattle.std.proofs.Math.ListN.{get_or, drop_of_length-le}
use Rattle.std.proofs.Math.Seq.{drop-cons}
use Rattle.std.proofs.lemmas.Bool.{le-leb, lt-leb, ltb-false}
use Rattle.wl_frame.specs.Grammar.{Content}
use Rattle.wl_frame.specs.Same.{same_content, content_decides}
use Rattle.wl_node.specs.declared.setup.Queued.{Queued}
use Rattle.wl_node.specs.declared.setup.NodeSetup.{NodeSetup}
use Rattle.wl_node.specs.declared.setup.Passed.{Passed}
use Rattle.wl_node.specs.declared.unsent.Unsent.{Unsent}
use Rattle.wl_node.specs.declared.setup.QueueOrder.{QueueOrder}
use Rattle.wl_node.specs.declared.setup.QueueOrder.TheVariants.{Fifo, Priority}
use Rattle.wl_node.specs.Queues.{field_number, head_by, is_sent, least_frame, lesser_frame, queue_after, queue_without, ready_head, unsent_by, waiting_frames}
use Rattle.wl_node.specs.Unsent.{IsHeadAt, IsLeastAt, IsUnsent, is_first_ready, left_in, line_by, next_place, place_of}

pub count_append : {X : Type 0} (p : X → Bool) (xs ys : List X) → count_by p (xs ++ ys) ≡ count_by p xs + count_by p ys
count_append p xs ys = sum_by-append (λ x. cond (p x) 1 0) xs ys

same_itself : (c : Content) → same_content c c ≡ true
same_itself c = (content_decides c c).1 refl

-- the frame at a place that carries this is it, and without it the others are left
pub record IsTakenAt (frame : Content) (unsent : List Queued) (place : ℕ) : Type 0 where
  pub entry : Queued
  pub there : slice_get unsent place ≡ Some entry
  pub is : entry.frame ≡ frame
  pub inside : place < length unsent
  pub left : queue_without frame unsent ≡ take place unsent ++ drop (suc place) unsent

pub taken_at : (frame : Content) (unsent : List Queued) (place : ℕ) → place_of frame unsent ≡ Some place → IsTakenAt frame unsent place
taken_at frame [] place e = cc
taken_at frame (q ∷ qs) place e = by (taken_at frame qs) (same_content q.frame frame) refl e
  where
    later : ((p : ℕ) → place_of frame qs ≡ Some p → IsTakenAt frame qs p) → (o : Option ℕ) → place_of frame qs ≡ o → same_content q.frame frame ≡ false → next_place o ≡ Some place → IsTakenAt frame (q ∷ qs) place
    later on None h f g = cc
    later on (Some p) h f g =
        let rest : IsTakenAt frame qs p = on p h in
        let next : suc p ≡ place = cc in
        subst (IsTakenAt frame (q ∷ qs)) next (record {
          entry = rest.entry;
          there = rest.there;
          is = rest.is;
          inside = (let i = rest.inside in omega arith);
          left = ap (λ b. cond b qs (q ∷ queue_without frame qs)) f ∙ ap (λ xs. q ∷ xs) rest.left;
        })

    by : ((p : ℕ) → place_of frame qs ≡ Some p → IsTakenAt frame qs p) → (b : Bool) → same_content q.frame frame ≡ b → cond b (Some 0) (next_place (place_of frame qs)) ≡ Some place → IsTakenAt frame (q ∷ qs) place
    by on true f g =
        let first : 0 ≡ place = cc in
        subst (IsTakenAt frame (q ∷ qs)) first (record {
          entry = q;
          there = refl;
          is = (content_decides q.frame frame).0 f;
          inside = omega arith;
          left = ap (λ b. cond b qs (q ∷ queue_without frame qs)) f;
        })
    by on false f g = later on (place_of frame qs) refl f g

-- the least of one more in front
pub least_alone : (q : Queued) → IsLeastAt (q ∷ []) 0
least_alone q = record {
  entry = q;
  there = refl;
  least = refl;
  first = ap (λ b. cond b (Some 0) None) (same_itself q.frame);
}

pub least_first : (q : Queued) (qs : List Queued) (place : ℕ) → (is : IsLeastAt qs place) → field_number q.frame ≤ field_number is.entry.frame → IsLeastAt (q ∷ qs) 0
least_first q qs place is less = record {
  entry = q;
  there = refl;
  least = ap (λ o. Some (lesser_frame q.frame o)) is.least ∙ ap (λ b. Some (cond b q.frame is.entry.frame)) (le-leb (field_number q.frame) (field_number is.entry.frame) less);
  first = ap (λ b. cond b (Some 0) (next_place (place_of q.frame qs))) (same_itself q.frame);
}

-- frames of two fields are two
differs : (a b : Content) → field_number b < field_number a → same_content a b ≡ false
differs a b less = by (same_content a b) refl
  where
    by : (t : Bool) → same_content a b ≡ t → t ≡ false
    by true e = absurd (let f : field_number a ≡ field_number b = ap field_number ((content_decides a b).0 e) in omega (arith, less))
    by false e = refl

pub least_later : (q : Queued) (qs : List Queued) (place : ℕ) → (is : IsLeastAt qs place) → field_number is.entry.frame < field_number q.frame → IsLeastAt (q ∷ qs) (suc place)
least_later q qs place is less = record {
  entry = is.entry;
  there = is.there;
  least = ap (λ o. Some (lesser_frame q.frame o)) is.least ∙ ap (λ b. Some (cond b q.frame is.entry.frame)) (lt-leb (field_number q.frame) (field_number is.entry.frame) less);
  first = ap (λ b. cond b (Some 0) (next_place (place_of is.entry.frame qs))) (differs q.frame is.entry.frame less) ∙ ap next_place is.first;
}

-- what is at a place of those that wait is there among all
get_waiting : (unsent : List Queued) (quantum place : ℕ) (q : Queued) → slice_get (waiting_frames unsent quantum) place ≡ Some q → slice_get unsent place ≡ Some q
get_waiting [] quantum place q e = e
get_waiting (x ∷ xs) quantum place q e = by (get_waiting xs quantum) (nat_le x.ready quantum) place e
  where
    by : ((p : ℕ) (q : Queued) → slice_get (waiting_frames xs quantum) p ≡ Some q → slice_get xs p ≡ Some q) → (b : Bool) (place : ℕ) → slice_get (cond b (x ∷ waiting_frames xs quantum) []) place ≡ Some q → slice_get (x ∷ xs) place ≡ Some q
    by on true zero f = f
    by on true (suc p) f = on p q f
    by on false p f = cc

place_waiting : (frame : Content) (unsent : List Queued) (quantum place : ℕ) → place_of frame (waiting_frames unsent quantum) ≡ Some place → place_of frame unsent ≡ Some place
place_waiting frame [] quantum place e = e
place_waiting frame (x ∷ xs) quantum place e = by (place_waiting frame xs quantum) (nat_le x.ready quantum) e
  where
    more : ((p : ℕ) → place_of frame (waiting_frames xs quantum) ≡ Some p → place_of frame xs ≡ Some p) → (b : Bool) → same_content x.frame frame ≡ b → (o : Option ℕ) → place_of frame (waiting_frames xs quantum) ≡ o
        → cond b (Some 0) (next_place o) ≡ Some place → cond b (Some 0) (next_place (place_of frame xs)) ≡ Some place
    more on true s o h g = g
    more on false s None h g = cc
    more on false s (Some p) h g = ap next_place (on p h) ∙ g

    by : ((p : ℕ) → place_of frame (waiting_frames xs quantum) ≡ Some p → place_of frame xs ≡ Some p) → (b : Bool) → place_of frame (cond b (x ∷ waiting_frames xs quantum) []) ≡ Some place → place_of frame (x ∷ xs) ≡ Some place
    by on true f = more on (same_content x.frame frame) refl (place_of frame (waiting_frames xs quantum)) refl f
    by on false f = cc

-- where the first one isn't ready there is no head
pub no_head : (order : QueueOrder) (unsent : List Queued) (quantum : ℕ) → is_first_ready unsent quantum ≡ false → head_by order unsent quantum ≡ None
no_head Fifo [] quantum e = refl
no_head Fifo (q ∷ qs) quantum e = ap (λ b. cond b (Some q.frame) None) e
no_head Priority [] quantum e = refl
no_head Priority (q ∷ qs) quantum e = ap (λ b. least_frame (cond b (q ∷ waiting_frames qs quantum) [])) e

-- and where there is one the first one is ready
pub head_ready : (order : QueueOrder) (unsent : List Queued) (quantum : ℕ) (frame : Content) → head_by order unsent quantum ≡ Some frame → is_first_ready unsent quantum ≡ true
head_ready order unsent quantum frame e = by (is_first_ready unsent quantum) refl
  where
    by : (b : Bool) → is_first_ready unsent quantum ≡ b → b ≡ true
    by true f = refl
    by false f = (let none = no_head order unsent quantum f in cc)

pub some_waiting : (unsent : List Queued) (quantum : ℕ) → is_first_ready unsent quantum ≡ true → waiting_frames unsent quantum ≡ [] → ⊥
some_waiting [] quantum e f = cc
some_waiting (q ∷ qs) quantum e f = (let g : waiting_frames (q ∷ qs) quantum ≡ q ∷ waiting_frames qs quantum = ap (λ b. cond b (q ∷ waiting_frames qs quantum) []) e in cc)

-- the head, by the order
pub first_head : (unsent : List Queued) (quantum : ℕ) → is_first_ready unsent quantum ≡ true → IsHeadAt Fifo unsent quantum 0
first_head [] quantum e = cc
first_head (q ∷ qs) quantum e = record {
  entry = q;
  there = refl;
  head = ap (λ b. cond b (Some q.frame) None) e;
  chosen = (refl, refl);
}

pub least_head : (unsent : List Queued) (quantum place : ℕ) → IsLeastAt (waiting_frames unsent quantum) place → IsHeadAt Priority unsent quantum place
least_head unsent quantum place is = record {
  entry = is.entry;
  there = get_waiting unsent quantum place is.entry is.there;
  head = is.least;
  chosen = place_waiting is.entry.frame unsent quantum place is.first;
}

-- the least of those from a place on, found at a place and with a field
pub record Found (w : List Queued) (k place least : ℕ) : Type 0 where
  pub low : k ≤ place
  pub inside : place < length w
  pub is : IsLeastAt (drop k w) (place - k)
  pub field : least ≡ field_number is.entry.frame

abbrev Least : ℕ → List Queued → ℕ → Type 0
Least least xs place = (is : IsLeastAt xs place) × (least ≡ field_number is.entry.frame)

pub found_last : (w : List Queued) (k : ℕ) (d : Queued) → suc k ≡ length w → Found w k k (field_number (get_or w k d).frame)
unfolding least_alone
found_last w k d e =
    let front : drop k w ≡ get_or w k d ∷ [] = drop-cons w k d (omega arith) ∙ ap (λ xs. get_or w k d ∷ xs) (drop_of_length-le w {i = suc k} (omega arith)) in
    let none : 0 ≡ k - k = omega arith in
    let at : Least (field_number (get_or w k d).frame) (drop k w) (k - k) =
    subst (λ xs. Least (field_number (get_or w k d).frame) xs (k - k)) (sym front)
    (subst (λ p. Least (field_number (get_or w k d).frame) (get_or w k d ∷ []) p) none (least_alone (get_or w k d), refl)) in
    record { low = omega arith; inside = omega arith; is = at.0; field = at.1 }

pub found_first : (w : List Queued) (k place least : ℕ) (d : Queued) → Found w (suc k) place least → field_number (get_or w k d).frame ≤ least
    → Found w k k (field_number (get_or w k d).frame)
unfolding least_first
found_first w k place least d was less =
    let low = was.low in
    let inside = was.inside in
    let front : drop k w ≡ get_or w k d ∷ drop (suc k) w = drop-cons w k d (omega arith) in
    let none : 0 ≡ k - k = omega arith in
    let at : Least (field_number (get_or w k d).frame) (drop k w) (k - k) =
    subst (λ xs. Least (field_number (get_or w k d).frame) xs (k - k)) (sym front)
    (subst (λ p. Least (field_number (get_or w k d).frame) (get_or w k d ∷ drop (suc k) w) p) none
    (least_first (get_or w k d) (drop (suc k) w) (place - suc k) was.is (omega (arith, less, was.field)), refl)) in
    record { low = omega arith; inside = omega arith; is = at.0; field = at.1 }

pub found_later : (w : List Queued) (k place least : ℕ) (d : Queued) → Found w (suc k) place least → least < field_number (get_or w k d).frame → Found w k place least
unfolding least_later
found_later w k place least d was less =
    let low = was.low in
    let inside = was.inside in
    let front : drop k w ≡ get_or w k d ∷ drop (suc k) w = drop-cons w k d (omega arith) in
    let next : suc (place - suc k) ≡ place - k = omega arith in
    let at : Least least (drop k w) (place - k) =
    subst (λ xs. Least least xs (place - k)) (sym front)
    (subst (λ p. Least least (get_or w k d ∷ drop (suc k) w) p) next
    (least_later (get_or w k d) (drop (suc k) w) (place - suc k) was.is (omega (arith, less, was.field)), was.field)) in
    record { low = omega arith; inside = inside; is = at.0; field = at.1 }

-- where none carries this none is taken
none_taken : (frame : Content) (unsent : List Queued) → place_of frame unsent ≡ None → queue_without frame unsent ≡ unsent
none_taken frame [] e = refl
none_taken frame (q ∷ qs) e = by (none_taken frame qs) (same_content q.frame frame) refl e
  where
    later : (place_of frame qs ≡ None → queue_without frame qs ≡ qs) → (o : Option ℕ) → place_of frame qs ≡ o → next_place o ≡ None → queue_without frame qs ≡ qs
    later on None h f = on h
    later on (Some p) h f = cc

    by : (place_of frame qs ≡ None → queue_without frame qs ≡ qs) → (b : Bool) → same_content q.frame frame ≡ b → cond b (Some 0) (next_place (place_of frame qs)) ≡ None
        → queue_without frame (q ∷ qs) ≡ q ∷ qs
    by on true f g = cc
    by on false f g = ap (λ b. cond b qs (q ∷ queue_without frame qs)) f ∙ ap (λ xs. q ∷ xs) (later on (place_of frame qs) refl g)

-- one more frame, by the order
abbrev pub sent_frame : ℕ → Content → Passed
sent_frame quantum frame = record { sent = true; quantum = quantum; frame = frame }

next_by_priority : (order : QueueOrder) (queue : List Queued) (passed : List Passed) (p : Passed) → order ≡ Priority
    → unsent_by order queue (passed ++ p ∷ []) ≡ queue_after (unsent_by order queue passed) p
next_by_priority Fifo queue passed p e = cc
next_by_priority Priority queue passed p e = fold-append queue_after queue passed (p ∷ [])

next_by_turn : (order : QueueOrder) (queue : List Queued) (passed : List Passed) (quantum : ℕ) (frame : Content) → order ≡ Fifo
    → unsent_by order queue (passed ++ sent_frame quantum frame ∷ []) ≡ drop 1 (unsent_by order queue passed)
next_by_turn Fifo queue passed quantum frame e =
    ap (λ n. drop n queue) (count_append is_sent passed (sent_frame quantum frame ∷ [])) ∙ sym (drop-drop 1 (count_by is_sent passed) queue)
next_by_turn Priority queue passed quantum frame e = cc

-- those that are left, by the order
left_by_priority : (setup : NodeSetup) (kept : Unsent) → setup.order ≡ Priority → left_in setup kept ≡ drop kept.sent kept.line.items
left_by_priority setup kept e = ap (λ o. drop kept.sent (line_by o setup.queue kept.line.items)) e

left_by_turn : (setup : NodeSetup) (kept : Unsent) → setup.order ≡ Fifo → left_in setup kept ≡ drop kept.sent setup.queue
left_by_turn setup kept e = ap (λ o. drop kept.sent (line_by o setup.queue kept.line.items)) e

pub taken_by_priority : (setup : NodeSetup) (old new : Unsent) (passed : List Passed) (quantum : ℕ) (frame : Content) → setup.order ≡ Priority → IsUnsent setup old passed
    → drop new.sent new.line.items ≡ queue_without frame (drop old.sent old.line.items) → length new.line.items ≡ length old.line.items
    → IsUnsent setup new (passed ++ sent_frame quantum frame ∷ [])
taken_by_priority setup old new passed quantum frame order is left long = record {
  left = left_by_priority setup new order ∙ left
      ∙ ap (queue_without frame) (sym (left_by_priority setup old order) ∙ is.left)
      ∙ sym (next_by_priority setup.order setup.queue passed (sent_frame quantum frame) order);
  sent = λ fifo. (let bad : Fifo ≡ Priority = sym fifo ∙ order in cc);
  long = λ e. long ∙ is.long e;
}

pub none_by_priority : (setup : NodeSetup) (kept : Unsent) (passed : List Passed) (quantum : ℕ) (frame : Content) → setup.order ≡ Priority → IsUnsent setup kept passed
    → place_of frame (left_in setup kept) ≡ None → IsUnsent setup kept (passed ++ sent_frame quantum frame ∷ [])
none_by_priority setup kept passed quantum frame order is none =
    taken_by_priority setup kept kept passed quantum frame order is
    (sym (none_taken frame (drop kept.sent kept.line.items) (ap (place_of frame) (sym (left_by_priority setup kept order)) ∙ none))) refl

pub taken_by_turn : (setup : NodeSetup) (old new : Unsent) (passed : List Passed) (quantum : ℕ) (frame : Content) → setup.order ≡ Fifo → IsUnsent setup old passed
    → drop new.sent setup.queue ≡ drop 1 (drop old.sent setup.queue) → new.sent ≡ old.sent + 1
    → IsUnsent setup new (passed ++ sent_frame quantum frame ∷ [])
taken_by_turn setup old new passed quantum frame order is left sent = record {
  left = left_by_turn setup new order ∙ left
      ∙ ap (drop 1) (sym (left_by_turn setup old order) ∙ is.left)
      ∙ sym (next_by_turn setup.order setup.queue passed quantum frame order);
  sent = λ e. sent ∙ ap (λ n. n + 1) (is.sent e) ∙ sym (count_append is_sent passed (sent_frame quantum frame ∷ []));
  long = λ priority. (let bad : Fifo ≡ Priority = sym order ∙ priority in cc);
}

-- a frame that was received leaves all
pub received_by : (order : QueueOrder) (queue : List Queued) (passed : List Passed) (quantum : ℕ) (frame : Content)
    → unsent_by order queue (passed ++ record { sent = false; quantum = quantum; frame = frame } ∷ []) ≡ unsent_by order queue passed
received_by Fifo queue passed quantum frame =
    ap (λ n. drop n queue) (count_append is_sent passed (record { sent = false; quantum = quantum; frame = frame } ∷ []) ∙ add-zero (count_by is_sent passed))
received_by Priority queue passed quantum frame = fold-append queue_after queue passed (record { sent = false; quantum = quantum; frame = frame } ∷ [])

pub received : (setup : NodeSetup) (kept : Unsent) (passed : List Passed) (quantum : ℕ) (frame : Content) → IsUnsent setup kept passed
    → IsUnsent setup kept (passed ++ record { sent = false; quantum = quantum; frame = frame } ∷ [])
received setup kept passed quantum frame is = record {
  left = is.left ∙ sym (received_by setup.order setup.queue passed quantum frame);
  sent = λ e. is.sent e ∙ sym (count_append is_sent passed (record { sent = false; quantum = quantum; frame = frame } ∷ []) ∙ add-zero (count_by is_sent passed));
  long = is.long;
}

-- no frame more is left after some have passed
without_less : (frame : Content) (unsent : List Queued) → length (queue_without frame unsent) ≤ length unsent
without_less frame [] = omega arith
without_less frame (q ∷ qs) = by (same_content q.frame frame) (without_less frame qs)
  where
    by : (b : Bool) → length (queue_without frame qs) ≤ length qs → length (cond b qs (q ∷ queue_without frame qs)) ≤ length (q ∷ qs)
    by true less = omega arith
    by false less = omega arith

after_less : (unsent : List Queued) (p : Passed) → length (queue_after unsent p) ≤ length unsent
after_less unsent p = by p.sent
  where
    by : (b : Bool) → length (cond b (queue_without p.frame unsent) unsent) ≤ length unsent
    by true = without_less p.frame unsent
    by false = omega arith

fold_less : (unsent : List Queued) (more : List Passed) → length (fold queue_after unsent more) ≤ length unsent
fold_less unsent [] = omega arith
fold_less unsent (p ∷ more) = (let a = after_less unsent p in let b = fold_less (queue_after unsent p) more in omega arith)

pub unsent_less : (order : QueueOrder) (queue : List Queued) (frames more : List Passed) → length (unsent_by order queue (frames ++ more)) ≤ length (unsent_by order queue frames)
unsent_less Fifo queue frames more =
    (let a = length-drop (count_by is_sent (frames ++ more)) queue in let b = length-drop (count_by is_sent frames) queue in let c = count_append is_sent frames more in omega arith)
unsent_less Priority queue frames more =
    (let e = ap length (fold-append queue_after queue frames more) in let f = fold_less (fold queue_after queue frames) more in omega arith)

pub none_left : (unsent : List Queued) → nat_lt 0 (length unsent) ≡ false → unsent ≡ []
none_left [] e = refl
none_left (q ∷ qs) e = absurd (let h = ltb-false 0 (length (q ∷ qs)) e in omega arith)

-- where the first one of a queue isn't ready there is no head, whatever the order
pub no_head_of : (order : QueueOrder) (unsent : List Queued) (quantum : ℕ) → ready_head unsent quantum ≡ None → head_by order unsent quantum ≡ None
no_head_of order [] quantum e = no_head order [] quantum refl
no_head_of order (q ∷ qs) quantum e = no_head order (q ∷ qs) quantum (by (nat_le q.ready quantum) e)
  where
    by : (b : Bool) → cond b (Some q.frame) None ≡ None → b ≡ false
    by true f = cc
    by false f = refl

-- the place that was found, or none
pub place_found : (order : QueueOrder) (unsent : List Queued) (quantum : ℕ) (place : Option ℕ) → order ≡ Priority → is_first_ready unsent quantum ≡ true
    → MatchOption place (waiting_frames unsent quantum ≡ []) (IsLeastAt (waiting_frames unsent quantum))
    → MatchOption place (head_by order unsent quantum ≡ None) (IsHeadAt order unsent quantum)
place_found order unsent quantum None e ready none = absurd (some_waiting unsent quantum ready none)
place_found order unsent quantum (Some place) e ready at = subst (λ o. IsHeadAt o unsent quantum place) (sym e) (least_head unsent quantum place at)

-- the place of the frame that was chosen decides nothing of those that are left
pub moved : {setup : NodeSetup} {kept : Unsent} {place : ℕ} {passed : List Passed} → IsUnsent setup kept passed → IsUnsent setup (record kept { place = place }) passed
moved is = record { left = is.left; sent = is.sent; long = is.long }
