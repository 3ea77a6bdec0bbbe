-- What holds of an engine holds of slices that have the same nodes and lines.
use Rattle.std.proofs.Common.{◌≡◌, ℕ, ◌++◌, ◌∙◌, List, length, take, drop, ap, sym, subst}
use Rattle.std.proofs.Math.Seq.{take-append_seam}
use Rattle.wl_plan.specs.declared.plan.Plan.{Plan}
use Rattle.wl_serial.specs.declared.line_at.LineAt.{LineAt}
use Rattle.wl_serial.specs.declared.engine.Engine.{Engine}
use Rattle.wl_serial.specs.declared.running_node.Running.{Running}
use Rattle.wl_serial.specs.Engine.{IsEngine}
use Rattle.wl_serial.specs.LineAt.{AreLines, AreHeard}
use Rattle.wl_serial.specs.Running.{AreRunning, AreKnown, IsNext}

pub running_of : (plan : Plan) (e : Engine) (rs : List Running) → rs ≡ e.nodes.items → IsEngine plan e → AreRunning plan rs
running_of plan e rs is engine = subst (AreRunning plan) (sym is) engine.running

pub lines_of : (plan : Plan) (e : Engine) (es : List LineAt) → es ≡ e.lines.items → IsEngine plan e → AreLines plan es
lines_of plan e es is engine = subst (AreLines plan) (sym is) engine.lines

pub heard_of : (plan : Plan) (e : Engine) (rs : List Running) (es : List LineAt) → rs ≡ e.nodes.items → es ≡ e.lines.items → IsEngine plan e → AreHeard plan rs es
heard_of plan e rs es is too engine = subst (λ xs. AreHeard plan xs es) (sym is) (subst (AreHeard plan e.nodes.items) (sym too) engine.heard)

pub known_of : (plan : Plan) (e : Engine) (rs : List Running) → rs ≡ e.nodes.items → IsEngine plan e → AreKnown plan.end rs e.known
known_of plan e rs is engine = subst (λ xs. AreKnown plan.end xs e.known) (sym is) engine.known

pub next_of : (end j : ℕ) (xs rs : List Running) → rs ≡ xs → IsNext end xs j → IsNext end rs j
next_of end j xs rs is next = subst (λ ys. IsNext end ys j) (sym is) next

-- a slice that ends as it began, in length, is all of the list
pub whole : {A : Type 0} (n : ℕ) (new old : List A) → n ≡ length new → take n (new ++ drop (length new) old) ≡ new
whole n new old e = ap (λ k. take k (new ++ drop (length new) old)) e ∙ take-append_seam new (drop (length new) old)

pub engine_of : (plan : Plan) (e : Engine) (rs : List Running) (es : List LineAt) (known : List ℕ) → e.nodes.items ≡ rs → e.lines.items ≡ es → e.known ≡ known
    → AreRunning plan rs → AreLines plan es → AreHeard plan rs es → AreKnown plan.end rs known → IsEngine plan e
engine_of plan e rs es known nodes lines ticks running places heard far = record {
  running = subst (AreRunning plan) (sym nodes) running;
  lines = subst (AreLines plan) (sym lines) places;
  heard = subst (λ xs. AreHeard plan xs e.lines.items) (sym nodes) (subst (AreHeard plan rs) (sym lines) heard);
  known = subst (λ xs. AreKnown plan.end xs e.known) (sym nodes) (subst (AreKnown plan.end rs) (sym ticks) far);
}
