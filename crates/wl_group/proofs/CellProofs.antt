-- Quanta of one level that a member's node ran in a row: where they put its cell, and whether its drive changed.
use Rattle.std.proofs.Common.{◌≡◌, ℕ, zero, suc, ◌+◌, ◌-◌, ◌<◌, ◌≤◌, Bool, true, false, List, [], ◌∷◌, ◌++◌, replicate, append_assoc, refl, sym, ◌∙◌, ap, subst, arith, if◌then◌else◌}
use Rattle.wl_level.specs.declared.Level.{Level}
use Rattle.wl_level.specs.declared.Level.TheVariants.{Dominant, Recessive}
use Rattle.wl_level.specs.Levels.{is_dominant, same}
use Rattle.wl_clock.specs.Timing.{tick_of}
use Rattle.wl_node.specs.History.{history_of}
use Rattle.wl_node.specs.declared.setup.NodeSetup.{NodeSetup}
use Rattle.wl_node.specs.Reached.{IsNode, node_setup, quanta_of}
use Rattle.wl_node.specs.Reached as nodes
use Rattle.wl_plan.specs.declared.plan.Plan.{Plan}
use Rattle.wl_plan.specs.PlanLine.{setup_at, line_of}
use Rattle.wl_plan.specs.Simulation.{differs}
use Rattle.wl_group.specs.declared.cell.Cell.{Cell}
use Rattle.wl_group.specs.Member.{Member, turns, member_after_quantum}
use Rattle.wl_group.specs.Running.{IsCellOf, passed, Stood, HasGone}
use Rattle.wl_group.specs.Ways.{AreWays}

replicate_more : {A : Type 0} (n : ℕ) (x : A) → replicate (suc n) x ≡ replicate n x ++ x ∷ []
replicate_more zero x = refl
replicate_more {A} (suc n) x = ap (λ xs. x ∷ xs) (replicate_more n x)

-- one more level of these, after the others
pub one_longer : {A : Type 0} (xs : List A) (n : ℕ) (x : A) → xs ++ replicate (suc n) x ≡ (xs ++ replicate n x) ++ x ∷ []
one_longer {A} xs n x = ap (λ ys. xs ++ ys) (replicate_more n x) ∙ sym (append_assoc xs (replicate n x) (x ∷ []))

differs_is : (a b : Level) (v : Bool) → same a b ≡ v → differs (is_dominant a) (is_dominant b) ≡ (if v then false else true)
differs_is Dominant Dominant v h = ap (λ w. if w then false else true) h
differs_is Dominant Recessive v h = ap (λ w. if w then false else true) h
differs_is Recessive Dominant v h = ap (λ w. if w then false else true) h
differs_is Recessive Recessive v h = ap (λ w. if w then false else true) h

turned_count : (b t : Bool) (n : ℕ) → t ≡ (if b then false else true) → (if b then n else suc n) ≡ (if t then suc n else n)
turned_count true t n h = sym (ap (λ v. if v then suc n else n) h)
turned_count false t n h = sym (ap (λ v. if v then suc n else n) h)

-- What a cell is before and after quanta of one level, as the calls that ran them say.
pub record Went (level before after : Level) (b : Bool) (ran quanta : ℕ) (old new : Cell) : Type 0 where
  pub gone : nodes.HasGone level ran old.node new.node
  pub some : 0 < ran
  pub quanta_is : quanta ≡ quanta_of old.node
  pub before_is : (levels : List Level) → IsNode levels old.node → before ≡ (history_of (node_setup old.node) levels).drive
  pub after_is : (levels : List Level) → IsNode levels new.node → after ≡ (history_of (node_setup new.node) levels).drive
  pub is : same after before ≡ b
  pub changed : new.changed ≡ (if b then old.changed else suc old.changed)
  pub next : new.next ≡ tick_of (node_setup new.node).clock (quanta + ran)
  pub ways : new.ways ≡ old.ways

module _ (level before after : Level) (b : Bool) (ran quanta : ℕ) (old new : Cell) (w : Went level before after b ran quanta old new) where
  n : ℕ
  n = ran - 1

  n_is : ran ≡ suc n
  unfolding n
  n_is = (let s = w.some in omega arith)

  gone : nodes.HasGone level (suc n) old.node new.node
  gone = subst (λ r. nodes.HasGone level r old.node new.node) n_is w.gone

  module _ (plan : Plan) (i : ℕ) (m : Member) (held : IsCellOf plan i m old) where
    saw : List Level
    saw = (m.saw ++ replicate n level) ++ level ∷ []

    setup_new : node_setup new.node ≡ setup_at plan i
    setup_new = w.gone.setup ∙ held.setup

    is_new : IsNode saw new.node
    unfolding saw
    is_new = subst (λ xs. IsNode xs new.node) (one_longer m.saw n level) (gone.node m.saw held.node)

    stood : Stood (line_of plan) i m level n
    stood j le =
        ap (λ (s : NodeSetup). is_dominant (history_of s (m.saw ++ replicate j level)).drive) (sym held.setup)
        ∙ (ap is_dominant (gone.stood j (omega arith) m.saw held.node)
        ∙ ap (λ (s : NodeSetup). is_dominant (history_of s m.saw).drive) held.setup)

    drive_new : is_dominant after ≡ (line_of plan).drives i saw
    drive_new = ap is_dominant (w.after_is saw is_new) ∙ ap (λ (s : NodeSetup). is_dominant (history_of s saw).drive) setup_new

    drive_old : is_dominant before ≡ (line_of plan).drives i (m.saw ++ replicate n level)
    drive_old =
        ap is_dominant (w.before_is m.saw held.node)
        ∙ (ap (λ (s : NodeSetup). is_dominant (history_of s m.saw).drive) held.setup
        ∙ sym (stood n (omega arith)))

    turns_is : turns (line_of plan) i (passed m level n) level ≡ (if b then false else true)
    unfolding saw
    turns_is =
        ap (λ v. differs v ((line_of plan).drives i (m.saw ++ replicate n level))) (sym drive_new)
        ∙ (ap (differs (is_dominant after)) (sym drive_old)
        ∙ differs_is after before b w.is)

    changed_new : new.changed ≡ (member_after_quantum (line_of plan) i (passed m level n) level).changed
    changed_new =
        w.changed
        ∙ (ap (λ c. if b then c else suc c) held.changed
        ∙ turned_count b (turns (line_of plan) i (passed m level n) level) m.changed turns_is)

    next_new : new.next ≡ (line_of plan).instant i (quanta_of new.node)
    next_new =
        w.next
        ∙ (ap (λ (s : NodeSetup). tick_of s.clock (quanta + ran)) setup_new
        ∙ ap (λ k. tick_of (setup_at plan i).clock k) (let e = w.quanta_is in let f = w.gone.quanta in omega arith))

    after_cell : IsCellOf plan i (member_after_quantum (line_of plan) i (passed m level n) level) new
    unfolding saw
    after_cell = record {
      setup = setup_new;
      node = is_new;
      changed = changed_new;
      next = next_new;
      ways = subst (AreWays plan i) (sym w.ways) held.ways;
    }

  pub has_gone : (most : ℕ) (turned : Bool) → ran ≤ most → turned ≡ (if b then false else true) → HasGone level most old new turned
  has_gone most turned few is = record {
    n = n;
    few = (let s = n_is in omega arith);
    quanta = gone.quanta;
    keeps = gone.keeps;
    stood = stood;
    after = after_cell;
    turned_is = λ plan i m held. is ∙ sym (turns_is plan i m held);
  }
