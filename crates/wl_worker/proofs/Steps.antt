-- What a turn keeps: the way that leads to a group, its plan and its members, and the truth of what it says.
use Rattle.std.proofs.Common.{◌≡◌, ℕ, List, [], ◌∷◌, ◌++◌, ap, sym, subst}
use Rattle.wl_record_core.specs.declared.record.Record.{Record}
use Rattle.wl_plan.specs.declared.plan.Plan.{Plan}
use Rattle.wl_plan.specs.PlanLine.{IsTrueOfPlan}
use Rattle.wl_group.specs.GroupValue.{GroupValue, IsGroupValue, belongs, initial_group}
use Rattle.wl_group.specs.Going.{HasGoneOn}
use Rattle.wl_group.specs.Led.{LedTo, LedLaws}
use Rattle.wl_worker.specs.Handed.{AreTrueOfPlan, Took}

pub took_plan : (old new : GroupValue) → Took old new → new.plan ≡ old.plan
took_plan old new t = ap (λ (g : GroupValue). g.plan) t.taken

pub took_members : (old new : GroupValue) → Took old new → belongs new ≡ belongs old
took_members old new t = ap belongs t.taken

-- what a link is of, it is of with the group's plan after a fetch
pub took_of : (P : Plan → Type 0) (old new : GroupValue) → Took old new → P old.plan → P new.plan
took_of P old new t p = subst P (sym (took_plan old new t)) p

-- ---- the way to a group

pub led_nowhere : LedLaws → (g : GroupValue) → LedTo g g
led_nowhere laws g = laws.stays g

pub led_on : LedLaws → (f g h : GroupValue) → LedTo f g → LedTo g h → LedTo f h
led_on laws f g h a b = laws.joined f g h a b

-- what a fetch brings leads on, and so do a row of quanta and a restart
pub took_led : LedLaws → (old new : GroupValue) → Took old new → LedTo old new
took_led laws old new t = subst (LedTo old) (sym t.taken) (laws.takes old t.more t.are_true)

pub gone_led : (i : ℕ) (old new : GroupValue) (rs : List Record) → HasGoneOn i old new rs → LedTo old new
gone_led i old new rs h = h.led

pub led_back : LedLaws → (old new : GroupValue) → IsGroupValue old → new ≡ initial_group old.lists old.plan (belongs old) → LedTo old new
led_back laws old new v e = subst (LedTo old) (sym e) (laws.begins old v)

pub led_plan : (old new : GroupValue) → LedTo old new → new.plan ≡ old.plan
led_plan old new w = w.plan

-- ---- the truth of what is said

-- what a row of quanta says is true
pub gone_true : (i : ℕ) (old new : GroupValue) (rs : List Record) → HasGoneOn i old new rs → AreTrueOfPlan old.plan rs
gone_true i old new rs h = h.said_true

true_both : (plan : Plan) (rs more : List Record) → AreTrueOfPlan plan rs → AreTrueOfPlan plan more → AreTrueOfPlan plan (rs ++ more)
true_both plan [] more h g = g
true_both plan (r ∷ rs) more h g = (h.0, true_both plan rs more h.1 g)

pub appended_true : (plan : Plan) (old new more : List Record) → new ≡ old ++ more → AreTrueOfPlan plan old → AreTrueOfPlan plan more → AreTrueOfPlan plan new
appended_true plan old new more e h g = subst (AreTrueOfPlan plan) (sym e) (true_both plan old more h g)

pub pushed_true : (plan : Plan) (old new : List Record) (r : Record) → new ≡ old ++ r ∷ [] → AreTrueOfPlan plan old → IsTrueOfPlan plan r → AreTrueOfPlan plan new
pushed_true plan old new r e h g = appended_true plan old new (r ∷ []) e h (g, tt)
