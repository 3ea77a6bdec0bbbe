-- A guess that nobody contradicts holds: all did what they do.
use Rattle.std.proofs.Common.{◌≡◌, ℕ, suc, ◌+◌, ◌-◌, ◌<◌, ◌≤◌, min, max, Bool, inl, inr, List, length, get_or, nat_lt, sym, ◌∙◌, ap, subst, arith, if◌then◌else◌}
use Rattle.std.proofs.lemmas.Bool.{cases_lt, lt-ltb, le-ltb}
use Rattle.std.proofs.lemmas.List.{get_or_default}
use Rattle.wl_record_core.specs.Truth.{count_below}
use Rattle.wl_record_core.specs.TableLaws.{TableLaws}
use Rattle.wl_node.specs.Reached.{IsNode}
use Rattle.wl_plan.specs.declared.plan.Plan.{Plan}
use Rattle.wl_plan.specs.PlanLine.{line_of}
use Rattle.wl_plan.specs.Line.{Line}
use Rattle.wl_plan.specs.Simulation.{level, changes}
use Rattle.wl_plan.specs.SimulationLaws.{SimulationLaws}
use Rattle.wl_plan.specs.Guess.{GuessLaws, IsAsAlone, IsConsistent, alone, beside, from_others}
use Rattle.wl_plan.specs.Sound.{IsSound}
use Rattle.wl_serial.specs.declared.running_node.Running.{Running}
use Rattle.wl_serial.specs.Guess.{HasRunBeside}
use Rattle.wl_serial.specs.LineAt.{tells}
use Rattle.wl_serial.specs.Running.{AreRunning, IsRunning, RunsOn}
use Rattle.wl_serial.proofs.Beside.{others_same}
use Rattle.wl_serial.proofs.Found.{level_by}
use Rattle.wl_serial.proofs.Plain.{has_run}

-- each node ran to that tick at least, beside what the others told at last
pub record IsGuessed (plan : Plan) (i w : ℕ) (drove : ℕ → ℕ → Bool) (old new : Running) : Type 0 where
  pub ran : HasRunBeside plan i w drove old new
  pub reached : w ≤ new.next

module _ (plan : Plan) (old new : List Running) (w : ℕ) (d : Running) (guess : GuessLaws) (laws : SimulationLaws) (table : TableLaws) (sound : IsSound (line_of plan))
    (running : AreRunning plan old) (ends : w ≤ plan.end) (all : length new ≡ length old)
    (each : (i : ℕ) → i < length old → IsGuessed plan i w (tells new d) (get_or old i d) (get_or new i d)) where
  abbrev l : Line
  l = line_of plan

  abbrev from : ℕ → ℕ
  from i = (get_or old i d).next

  -- what is shown to a node: up to its next quantum what there is, and then what is told at last
  abbrev shown : ℕ → ℕ → Bool
  shown i t = if nat_lt t (from i) then from_others l (level l) i t else from_others l (tells new d) i t

  begun : (i t : ℕ) → t < from i → shown i t ≡ from_others l (level l) i t
  begun i t before = ap (λ v. if v then from_others l (level l) i t else from_others l (tells new d) i t) (lt-ltb t (from i) before)

  after : (i t : ℕ) → from i ≤ t → shown i t ≡ from_others l (tells new d) i t
  after i t late = ap (λ v. if v then from_others l (level l) i t else from_others l (tells new d) i t) (le-ltb t (from i) late)

  node : (i : ℕ) → i < length old → i < length plan.nodes
  node i b = (let e = running.all in omega (arith, b, e))

  was : (i : ℕ) (b : i < length old) → IsRunning plan i (get_or old i d)
  was i b = running.each i d b

  started : (i : ℕ) (b : i < length old) → RunsOn plan (beside l (shown i)) i (get_or old i d) (was i b).0
  started i b =
      let k = (was i b).0 in
      let run = (was i b).1.runs in
      let next = run.at.next in
      let alike : IsAsAlone l i (shown i) k =
      guess.shown_right l (shown i) i (min (from i) plan.end) k sound.causal (node i b) (omega arith) (λ t c. begun i t (omega (arith, c))) run.inside
      (λ q c.
      let f = laws.clock_later l i (suc q) k sound.causal (node i b) (omega (arith, c)) in
      let g = sound.causal.clocks i q (node i b) in
      let h = run.inside q c in
      omega (arith, f, g, h, next)) in
      record {
        at = run.at;
        inside = run.inside;
        node = subst (λ levels. IsNode levels (get_or old i d).node) (sym alike.seen) run.node;
        changes = run.changes ∙ sym alike.changes;
      }

  ended : (i : ℕ) (b : i < length old) → (m : ℕ) × RunsOn plan (beside l (shown i)) i (get_or new i d) m
  ended i b = (each i b).ran.goes (shown i) (was i b).0 (started i b) (λ t late before. after i t late)

  told : (i u : ℕ) → i < length old → u < w → tells new d i u ≡ alone l shown i u
  told i u b before =
      let end = ended i b in
      let next = end.1.at.next in
      let reached = (each i b).reached in
      level_by (beside l (shown i)) i u (count_below (l.instant i end.0) (changes (beside l (shown i)) i)) (get_or new i d).changes laws table (guess.causal l (shown i) sound.causal) (node i b)
      end.1.changes (table.count_less (u + 1) (l.instant i end.0) (changes (beside l (shown i)) i) (omega (arith, before, next, reached)))

  consistent : IsConsistent l from shown w
  consistent = record {
    begun = λ j t b before early. begun j t early;
    agrees = λ j t b before late.
        after j t late
        ∙ others_same l (tells new d) (alone l shown) j t laws
        (λ i c other far.
        let some = sound.causal.delays i j c b in
        let e = running.all in
        told i (t - l.delay i j) (omega (arith, c, e)) (omega (arith, before, some, far)));
  }

  right : (j t : ℕ) → j < length plan.nodes → t < w → shown j t ≡ from_others l (level l) j t
  right j t b before = guess.holds l from shown w sound.causal ends consistent j t b before

  ran_to : (i : ℕ) (b : i < length old) → RunsOn plan l i (get_or new i d) (ended i b).0
  ran_to i b =
      let m = (ended i b).0 in
      let run = (ended i b).1 in
      let next = run.at.next in
      let alike : IsAsAlone l i (shown i) m =
      guess.shown_right l (shown i) i (min (max w (from i)) plan.end) m sound.causal (node i b) (omega arith)
      (λ t c. elim (cases_lt t w) [
        | inl early ↦ right i t (node i b) early
        | inr late ↦ begun i t (omega (arith, c, late))
      ])
      run.inside
      (λ q c.
      let f = laws.clock_later l i (suc q) m sound.causal (node i b) (omega (arith, c)) in
      let g = sound.causal.clocks i q (node i b) in
      let h = run.inside q c in
      elim ((each i b).ran.below q (omega (arith, f, g, next))) [
        | inl early ↦ omega (arith, h, early)
        | inr ran ↦ omega (arith, h, ran)
      ]) in
      record {
        at = run.at;
        inside = run.inside;
        node = subst (λ levels. IsNode levels (get_or new i d).node) alike.seen run.node;
        changes = run.changes ∙ alike.changes;
      }

  pub holds : AreRunning plan new
  holds = record {
    all = all ∙ running.all;
    each = λ i e c.
        let b : i < length old = omega (arith, c, all) in
        let g = each i b in
        subst (IsRunning plan i) (get_or_default new i d e c)
        ((ended i b).0, has_run plan i (was i b).0 (ended i b).0 (get_or old i d) (get_or new i d) table (was i b).1 (ran_to i b) g.ran.known g.ran.further.next);
  }
