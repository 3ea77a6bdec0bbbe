-- The head of a queue rests on the frames that are ready alone.
use Rattle.std.proofs.Common.{◌≡◌, ◌∙◌, ℕ, zero, suc, ◌<◌, Bool, true, false, cond, List, [], ◌∷◌, ◌++◌, drop, Some, None, refl, ap, arith}
use Rattle.std.specs.Prelude.{count_by, fold, nat_le, All}
use Rattle.std.proofs.lemmas.Bool.{lt-leb}
use Rattle.wl_frame.specs.Grammar.{Content}
use Rattle.wl_frame.specs.Same.{same_content}
use Rattle.wl_node.specs.declared.setup.Passed.{Passed}
use Rattle.wl_node.specs.declared.setup.Queued.{Queued}
use Rattle.wl_node.specs.declared.setup.QueueOrder.{QueueOrder}
use Rattle.wl_node.specs.declared.setup.QueueOrder.TheVariants.{Fifo, Priority}
use Rattle.wl_node.specs.Queues.{head_by, is_sent, least_frame, queue_after, queue_without, ready_head, unsent_by, waiting_frames}

-- none of these frames is ready at this quantum
abbrev pub NoneReady : ℕ → List Queued → Type 0
NoneReady q [] = Unit {0}
NoneReady q (x ∷ xs) = (q < x.ready) × NoneReady q xs

pub none_of : (q : ℕ) (xs : List Queued) → All (λ x. q < x.ready) xs → NoneReady q xs
none_of q [] all = tt
none_of q (x ∷ xs) all = (all 0 x (omega arith), none_of q xs (λ k d less. all (suc k) d (omega arith)))

-- two queues have the same first frames, and none of the others is ready
pub record Front (q : ℕ) (a b : List Queued) : Type 0 where
  pub front : List Queued
  pub left : List Queued
  pub right : List Queued
  pub first : a ≡ front ++ left
  pub second : b ≡ front ++ right
  pub none_left : NoneReady q left
  pub none_right : NoneReady q right

pub none_drop : (q m : ℕ) (xs : List Queued) → NoneReady q xs → NoneReady q (drop m xs)
none_drop q zero xs none = none
none_drop q (suc m) [] none = tt
none_drop q (suc m) (x ∷ xs) none = none_drop q m xs none.1

pub none_without : (q : ℕ) (c : Content) (xs : List Queued) → NoneReady q xs → NoneReady q (queue_without c xs)
none_without q c [] none = tt
none_without q c (x ∷ xs) none = by (none_without q c xs none.1) (same_content x.frame c)
  where
    by : NoneReady q (queue_without c xs) → (t : Bool) → NoneReady q (cond t xs (x ∷ queue_without c xs))
    by on true = none.1
    by on false = (none.0, on)

drop_front : (q m : ℕ) (front left right : List Queued) → NoneReady q left → NoneReady q right → Front q (drop m (front ++ left)) (drop m (front ++ right))
drop_front q zero front left right l r = record { front = front; left = left; right = right; first = refl; second = refl; none_left = l; none_right = r }
drop_front q (suc m) [] left right l r =
    record { front = []; left = drop (suc m) left; right = drop (suc m) right; first = refl; second = refl; none_left = none_drop q (suc m) left l; none_right = none_drop q (suc m) right r }
drop_front q (suc m) (x ∷ front) left right l r = drop_front q m front left right l r

one_more : (q : ℕ) (x : Queued) (a b : List Queued) → Front q a b → Front q (x ∷ a) (x ∷ b)
one_more q x a b f =
    record { front = x ∷ f.front; left = f.left; right = f.right; first = ap (λ v. x ∷ v) f.first; second = ap (λ v. x ∷ v) f.second; none_left = f.none_left; none_right = f.none_right }

without_front : (q : ℕ) (c : Content) (front left right : List Queued) → NoneReady q left → NoneReady q right → Front q (queue_without c (front ++ left)) (queue_without c (front ++ right))
without_front q c [] left right l r =
    record { front = []; left = queue_without c left; right = queue_without c right; first = refl; second = refl; none_left = none_without q c left l; none_right = none_without q c right r }
without_front q c (x ∷ front) left right l r = by (without_front q c front left right l r) (same_content x.frame c)
  where
    by : Front q (queue_without c (front ++ left)) (queue_without c (front ++ right)) → (t : Bool) → Front q (cond t (front ++ left) (x ∷ queue_without c (front ++ left))) (cond t (front ++ right) (x ∷ queue_without c (front ++ right)))
    by on true = record { front = front; left = left; right = right; first = refl; second = refl; none_left = l; none_right = r }
    by on false = one_more q x (queue_without c (front ++ left)) (queue_without c (front ++ right)) on

front_from : (q : ℕ) (g : List Queued → List Queued) → ((front left right : List Queued) → NoneReady q left → NoneReady q right → Front q (g (front ++ left)) (g (front ++ right)))
    → (a b : List Queued) → Front q a b → Front q (g a) (g b)
front_from q g each a b f =
    let r = each f.front f.left f.right f.none_left f.none_right in
    record { front = r.front; left = r.left; right = r.right; first = ap g f.first ∙ r.first; second = ap g f.second ∙ r.second; none_left = r.none_left; none_right = r.none_right }

after_front : (q : ℕ) (p : Passed) (a b : List Queued) → Front q a b → Front q (queue_after a p) (queue_after b p)
after_front q p a b f = by p.sent
  where
    by : (t : Bool) → Front q (cond t (queue_without p.frame a) a) (cond t (queue_without p.frame b) b)
    by true = front_from q (queue_without p.frame) (without_front q p.frame) a b f
    by false = f

fold_front : (q : ℕ) (frames : List Passed) (a b : List Queued) → Front q a b → Front q (fold queue_after a frames) (fold queue_after b frames)
fold_front q [] a b f = f
fold_front q (p ∷ frames) a b f = fold_front q frames (queue_after a p) (queue_after b p) (after_front q p a b f)

pub unsent_front : (q : ℕ) (order : QueueOrder) (frames : List Passed) (a b : List Queued) → Front q a b → Front q (unsent_by order a frames) (unsent_by order b frames)
unsent_front q Fifo frames a b f = front_from q (drop (count_by is_sent frames)) (drop_front q (count_by is_sent frames)) a b f
unsent_front q Priority frames a b f = fold_front q frames a b f

none_head : (q : ℕ) (xs : List Queued) → NoneReady q xs → ready_head xs q ≡ None
none_head q [] none = refl
none_head q (x ∷ xs) none = ap (λ t. cond t (Some x.frame) None) (lt-leb x.ready q none.0)

none_waits : (q : ℕ) (xs : List Queued) → NoneReady q xs → waiting_frames xs q ≡ []
none_waits q [] none = refl
none_waits q (x ∷ xs) none = ap (λ t. cond t (x ∷ waiting_frames xs q) []) (lt-leb x.ready q none.0)

waits_front : (q : ℕ) (front left : List Queued) → NoneReady q left → waiting_frames (front ++ left) q ≡ waiting_frames front q
waits_front q [] left none = none_waits q left none
waits_front q (x ∷ front) left none = ap (λ v. cond (nat_le x.ready q) (x ∷ v) []) (waits_front q front left none)

head_front : (q : ℕ) (order : QueueOrder) (front left : List Queued) → NoneReady q left → head_by order (front ++ left) q ≡ head_by order front q
head_front q Fifo [] left none = none_head q left none
head_front q Fifo (x ∷ front) left none = refl
head_front q Priority front left none = ap least_frame (waits_front q front left none)

-- both hand the same head at this quantum
pub head_same : (q : ℕ) (order : QueueOrder) (a b : List Queued) → Front q a b → head_by order a q ≡ head_by order b q
head_same q order a b f =
    ap (λ v. head_by order v q) f.first ∙ head_front q order f.front f.left f.none_left
    ∙ (let e = ap (λ v. head_by order v q) f.second ∙ head_front q order f.front f.right f.none_right in cc)
