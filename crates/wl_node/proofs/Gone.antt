-- Quanta of one level that a node has run, some more of them, and where its drive stands by them.
use Rattle.std.specs.Prelude.{Result, Ok, Err, OnErr}
use Rattle.std.proofs.Common.{◌≡◌, ◌≢◌, ◌∙◌, ℕ, ◌+◌, ◌-◌, ◌<◌, inl, inr, List, [], ◌∷◌, ◌++◌, replicate, refl, sym, ap, subst, arith, append-nil, append_assoc}
use Rattle.std.proofs.lemmas.Bool.{cases_lt}
use Rattle.std.proofs.lemmas.List.{replicate-append-replicate}
use Rattle.wl_level.specs.declared.Level.{Level}
use Rattle.wl_node.specs.declared.setup.NodeSetup.{NodeSetup}
use Rattle.wl_node.specs.declared.staying_node.StayingNode.{StayingNode}
use Rattle.wl_node.specs.History.{staying_history}
use Rattle.wl_node.specs.Staying.{IsStaying, IsSameStaying, StayingStands, StayingTurns, StayingHasGone, StayingHasStopped}

-- the drive after these levels
abbrev drive_by : NodeSetup → List Level → Level
drive_by setup levels = (staying_history setup levels).drive

-- so many of a level, and so many more
pub joined : (levels : List Level) (level : Level) (a b : ℕ) → (levels ++ replicate a level) ++ replicate b level ≡ levels ++ replicate (a + b) level
joined levels level a b = append_assoc levels (replicate a level) (replicate b level) ∙ ap (λ more. levels ++ more) (replicate-append-replicate a b level)

pub stands_first : (node : StayingNode) (level : Level) → StayingStands node level 0
stands_first node level levels is = ap (drive_by node.setup) (append-nil levels)

pub gone_none : (node : StayingNode) (level : Level) → StayingHasGone level 0 node node
gone_none node level = record {
  node = λ levels is. subst (λ more. IsStaying more node) (sym (append-nil levels)) is;
  setup = refl;
  quanta = omega arith;
  keeps = refl;
  stood = λ m h. absurd (omega arith);
}

pub gone_same : {level : Level} {n : ℕ} {old mid new : StayingNode} → StayingHasGone level n old mid → IsSameStaying mid new → new.setup ≡ mid.setup → new.progress.quanta ≡ mid.progress.quanta
    → new.progress.traffic.samples.keeps ≡ mid.progress.traffic.samples.keeps → StayingHasGone level n old new
gone_same g same setup quanta keeps = record {
  node = λ levels is. same _ (g.node levels is);
  setup = setup ∙ g.setup;
  quanta = quanta ∙ g.quanta;
  keeps = keeps ∙ g.keeps;
  stood = g.stood;
}

module _ (level : Level) (a b : ℕ) (old mid new : StayingNode) (first : StayingHasGone level a old mid) (stands : StayingStands old level a) (second : StayingHasGone level b mid new) where
  -- after some of the second ones the drive is that after the first ones
  stood_on : (k : ℕ) → StayingStands mid level k → StayingStands old level (a + k)
  stood_on k s levels is =
      ap (drive_by old.setup) (sym (joined levels level a k))
      ∙ ap (λ setup. drive_by setup ((levels ++ replicate a level) ++ replicate k level)) (sym first.setup)
      ∙ s (levels ++ replicate a level) (first.node levels is)
      ∙ ap (λ setup. drive_by setup (levels ++ replicate a level)) first.setup
      ∙ stands levels is

  stood_in : (m : ℕ) → m < a + b → StayingStands old level m
  stood_in m h = elim (cases_lt m a) [
    | inl before ↦ first.stood m before
    | inr behind ↦ (let e : a + (m - a) ≡ m = omega arith in subst (λ (n : ℕ). StayingStands old level n) e (stood_on (m - a) (second.stood (m - a) (omega arith))))
  ]

  pub gone_more : StayingHasGone level (a + b) old new
  gone_more = record {
    node = λ levels is. subst (λ more. IsStaying more new) (joined levels level a b) (second.node (levels ++ replicate a level) (first.node levels is));
    setup = second.setup ∙ first.setup;
    quanta = (let e = first.quanta in let f = second.quanta in omega arith);
    keeps = second.keeps ∙ first.keeps;
    stood = stood_in;
  }

  -- and where the second ones stopped
  pub stands_more : StayingStands mid level b → StayingStands old level (a + b)
  stands_more = stood_on b

  -- and where they turned
  pub turns_more : StayingTurns mid level b → StayingTurns old level (a + b)
  turns_more turns levels is e =
      turns (levels ++ replicate a level) (first.node levels is)
      (ap (λ setup. drive_by setup ((levels ++ replicate a level) ++ replicate b level)) first.setup
      ∙ ap (drive_by old.setup) (joined levels level a b)
      ∙ e
      ∙ sym (stands levels is)
      ∙ sym (ap (λ setup. drive_by setup (levels ++ replicate a level)) first.setup))

-- one quantum
pub gone_one : {level : Level} {old new : StayingNode} → ((levels : List Level) → IsStaying levels old → IsStaying (levels ++ level ∷ []) new) → new.setup ≡ old.setup → new.progress.quanta ≡ old.progress.quanta + 1
    → new.progress.traffic.samples.keeps ≡ old.progress.traffic.samples.keeps → StayingHasGone level 1 old new
gone_one {level} {old} {new} seen setup quanta keeps = record {
  node = seen;
  setup = setup;
  quanta = quanta;
  keeps = keeps;
  stood = λ m h. subst (λ (k : ℕ). StayingStands old level k) (let e : 0 ≡ m = omega arith in e) (stands_first old level);
}

-- some quanta behind which the drive stands, and then fewer than were asked for
pub stopped_more : (level : Level) (a b : ℕ) (old mid new : StayingNode) → StayingHasGone level a old mid → StayingStands old level a → StayingHasStopped level b mid new → StayingHasStopped level (a + b) old new
stopped_more level a b old mid new first stands second = record {
  n = a + second.n;
  few = (let f = second.few in omega arith);
  gone = gone_more level a second.n old mid new first stands second.gone;
  stands = stands_more level a second.n old mid new first stands second.gone second.stands;
}

-- by what the node drives before and after
module _ {level : Level} {n : ℕ} {old new : StayingNode} (g : StayingHasGone level n old new) {before after : Level}
    (was : (levels : List Level) → IsStaying levels old → before ≡ drive_by old.setup levels) (now : (levels : List Level) → IsStaying levels new → after ≡ drive_by new.setup levels) where
  now_is : (levels : List Level) → IsStaying levels old → after ≡ drive_by old.setup (levels ++ replicate n level)
  now_is levels is = now (levels ++ replicate n level) (g.node levels is) ∙ ap (λ setup. drive_by setup (levels ++ replicate n level)) g.setup

  pub stands_by : after ≡ before → StayingStands old level n
  stands_by e levels is = sym (now_is levels is) ∙ (e ∙ was levels is)

  pub turns_by : after ≢ before → StayingTurns old level n
  turns_by ne levels is e = ne (now_is levels is ∙ (e ∙ sym (was levels is)))

pub on_err : {T E P : Type 0} (r : Result T E) → P → OnErr r P
on_err (Ok x) p = tt
on_err (Err e) p = p
