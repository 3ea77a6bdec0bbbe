-- The nodes of a plan without its listeners, and one listener after them, are nodes of the bus of the whole plan.
use Rattle.std.proofs.Common.{◌≡◌, ◌∙◌, inl, inr, refl, sym, ap, subst, ℕ, suc, false, ◌<◌, cond, length, arith}
use Rattle.std.proofs.lemmas.Bool.{cases_lt, eq-eqb, false_from_ne_true, ne_eqb}
use Rattle.wl_plan.specs.declared.plan.Plan.{Plan}
use Rattle.wl_bound.specs.Families.{Bus}
use Rattle.wl_listeners.specs.BusParts.{AreAllSenders, AreNodesOf, LeavesRoomToHear, OnlyOthersSend, then_node}
use Rattle.wl_listeners.specs.Listeners.{HasNodesOf, IsNoneOf}

pub then_last : (at : ℕ → ℕ) (n i : ℕ) → then_node at n i n ≡ i
then_last at n i = ap (λ b. cond b i (at n)) (eq-eqb n n refl)

then_other : (at : ℕ → ℕ) (n i k : ℕ) → k < n → then_node at n i k ≡ at k
then_other at n i k less = ap (λ b. cond b i (at k)) (ne_eqb k n (λ e. omega arith))

module _ (plan other : Plan) (at : ℕ → ℕ) (n i : ℕ) (has : HasNodesOf other plan at) (count : n ≡ length other.nodes) (here : i < length plan.nodes) (none : IsNoneOf other at i) where
  inside : (k : ℕ) → k < suc n → then_node at n i k < length plan.nodes
  inside k nk =
      elim (cases_lt k n) [
        | inl below ↦ (let e = then_other at n i k below in let l = has.inside k (omega arith) in omega arith)
        | inr last ↦ (let same : n ≡ k = omega arith in subst (λ x. then_node at n i x < length plan.nodes) same (let e = then_last at n i in omega arith))
      ]

  -- a node of the other plan is no listener of this one
  differ : (k m : ℕ) → k < n → n ≡ m → then_node at n i k ≡ then_node at n i m → k ≡ m
  differ k m below last e =
      absurd (none k (omega arith) (sym (then_other at n i k below) ∙ e ∙ ap (then_node at n i) (sym last) ∙ then_last at n i))

  once : (k m : ℕ) → k < suc n → m < suc n → then_node at n i k ≡ then_node at n i m → k ≡ m
  once k m nk nm e =
      elim (cases_lt k n) [
        | inl below ↦
            elim (cases_lt m n) [
              | inl low ↦ has.once k m (omega arith) (omega arith) (sym (then_other at n i k below) ∙ e ∙ then_other at n i m low)
              | inr last ↦ differ k m below (omega arith) e
            ]
        | inr end ↦
            elim (cases_lt m n) [
              | inl low ↦ sym (differ m k low (omega arith) (sym e))
              | inr last ↦ omega arith
            ]
      ]

  pub are_nodes : (whole : Bus) → whole.nodes ≡ length plan.nodes → AreNodesOf whole (then_node at n i) (suc n)
  are_nodes whole nodes = record { inside = λ k nk. (let l = inside k nk in omega arith); once = once }

  pub all_senders : (whole : Bus) → OnlyOthersSend whole other at → AreAllSenders whole (then_node at n i) (suc n)
  all_senders whole only k nk sends =
      (let w = only k nk sends in (w.0, (let l = w.1 in omega arith), then_other at n i w.0 (let l = w.1 in omega arith) ∙ w.2))

  -- node i doesn't send
  pub is_mute : (whole : Bus) → whole.nodes ≡ length plan.nodes → OnlyOthersSend whole other at → whole.sends i ≡ false
  is_mute whole nodes only = false_from_ne_true (whole.sends i) (λ sends. (let w = only i (omega arith) sends in none w.0 w.1 w.2))

pub hears_last : (whole : Bus) (chase at : ℕ → ℕ) (n i : ℕ) → LeavesRoomToHear whole chase i → LeavesRoomToHear whole chase (then_node at n i n)
hears_last whole chase at n i leaves = subst (LeavesRoomToHear whole chase) (sym (then_last at n i)) leaves
