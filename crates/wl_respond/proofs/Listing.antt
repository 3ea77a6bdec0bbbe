-- Tables that grow by a message, and tables with other bounds.
use Rattle.std.proofs.Common.{◌≡◌, ◌∙◌, ap, sym, subst, inl, inr, ℕ, ◌+◌, ◌<◌, List, [], ◌∷◌, ◌++◌, length, arith, length-append}
use Rattle.std.proofs.lemmas.Bool.{cases_lt}
use Rattle.std.proofs.lemmas.List.{get_or-append-add, get_or_append_left}
use Rattle.wl_plan.specs.declared.plan.Plan.{Plan}
use Rattle.wl_plan.specs.PlanLine.{setup_at}
use Rattle.wl_setup.specs.declared.plan_text.PlanText.{PlanText}
use Rattle.wl_respond.specs.declared.message.MessageWait.{MessageWait}
use Rattle.wl_respond.specs.Levels.{level_in}
use Rattle.wl_respond.specs.Tables.{AreSameButBounds, HasNumbers, IsBounded, IsMostBits, IsTable, least_gap, messages_of}
use Rattle.wl_respond.specs.Tests.{message_at, no_message}

old_message : (table : List MessageWait) (x : MessageWait) (k : ℕ) → k < length table → message_at (table ++ x ∷ []) k ≡ message_at table k
old_message table x k less = get_or_append_left table (x ∷ []) no_message k less

new_message : (table : List MessageWait) (x : MessageWait) → message_at (table ++ x ∷ []) (length table) ≡ x
new_message table x = ap (message_at (table ++ x ∷ [])) (let e : length table ≡ length table + 0 = omega arith in e) ∙ get_or-append-add table (x ∷ []) 0 no_message

-- each of them, and one more
pub each_more : (P : ℕ → MessageWait → Type 0) (table new : List MessageWait) (x : MessageWait) (n : ℕ) → new ≡ table ++ x ∷ [] → length table ≡ n
    → ((k : ℕ) → k < n → P k (message_at table k)) → P n x → (length new ≡ n + 1) × ((k : ℕ) → k < n + 1 → P k (message_at new k))
each_more P table new x n is long before here = (
  ap length is ∙ length-append table (x ∷ []) ∙ ap (λ m. m + 1) long,
  λ k less. elim (cases_lt k n) [
    | inl below ↦ subst (P k) (sym (ap (λ t. message_at t k) is ∙ old_message table x k (omega arith))) (before k below)
    | inr past ↦
        (let last : length table ≡ k = omega arith in
        subst (P k) (sym (ap (λ t. message_at t k) is ∙ ap (message_at (table ++ x ∷ [])) (sym last) ∙ new_message table x)) (subst (λ j. P j x) (let e : n ≡ k = omega arith in e) here))
  ],
)

-- A message with its numbers has them with other bounds.
other_bounds : (plan : Plan) (messages : List MessageWait) (x y z : MessageWait) → HasNumbers plan messages x y → IsBounded y z → HasNumbers plan messages x z
other_bounds plan messages x y z has is =
    let bits : z.bits ≡ y.bits = ap (λ (u : MessageWait). u.bits) is in
    let queue = (setup_at plan x.node).queue in
    record {
      is = is ∙ ap (λ (u : MessageWait). record u { window = z.window; wait = z.wait; first = z.first }) has.is
          ∙ ap (λ (n : ℕ). record x { level = level_in plan messages x; bits = n; every = least_gap queue x.field (length queue); window = z.window; wait = z.wait; first = z.first }) (sym bits);
      bits = subst (IsMostBits queue x.field x.frame (length queue)) (sym bits) has.bits;
    }

pub bounded_table : (plan : Plan) (text : PlanText) (table all : List MessageWait) → IsTable plan text table → AreSameButBounds table all → IsTable plan text all
bounded_table plan text table all is same = record {
  count = same.count ∙ is.count;
  each = λ e less. other_bounds plan (messages_of plan text) (message_at (messages_of plan text) e) (message_at table e) (message_at all e) (is.each e (let n = same.count in omega arith)) (same.each e less);
}
