-- Quanta of one level that a node has run, which may leave the bus among them.
use Rattle.std.proofs.Common.{◌≡◌, ◌∙◌, ℕ, zero, suc, ◌+◌, ◌-◌, ◌<◌, ◌≤◌, true, inl, inr, List, ◌++◌, length, replicate, sym, ap, subst, arith, append-nil}
use Rattle.std.specs.Prelude.{Result, Ok, Err, IfOk, OnErr}
use Rattle.std.proofs.Math.Logic.{∥∥₁_map}
use Rattle.std.proofs.lemmas.Bool.{cases_lt}
use Rattle.std.proofs.lemmas.List.{length-replicate}
use Rattle.wl_level.specs.declared.Level.{Level}
use Rattle.wl_level.specs.declared.Level.TheVariants.{Dominant, Recessive}
use Rattle.wl_node.specs.declared.setup.NodeSetup.{NodeSetup}
use Rattle.wl_node.specs.declared.node.Node.{Node}
use Rattle.wl_node.specs.declared.staying_node.StayingNode.{StayingNode}
use Rattle.wl_node.specs.History.{staying_history, history_of, levels_there, levels_away, is_after, quanta_before}
use Rattle.wl_node.specs.Reached.{node_setup, IsNode, StandsFor, TurnsAfter, HasGone, HasStopped}
use Rattle.wl_node.specs.Staying.{IsStaying, StayingHasGone, StayingHasStopped, StayingStands, StayingTurns}
use Rattle.wl_node.proofs.Gone.{joined}
use Rattle.wl_node.proofs.Leaving.{AreThere, HaveLeft, are_there, are_there_now, away_drive, have_left, history_there}

-- the drive after these levels
abbrev drive_by : NodeSetup → List Level → Level
drive_by setup levels = (history_of setup levels).drive

-- these levels put a node that has run so many quanta since it left where it is
abbrev pub IsAt : StayingNode → ℕ → List Level → Type 0
IsAt staying away levels = IsStaying (levels_there staying.setup.until levels) staying × (away ≡ length (levels_away staying.setup.until levels))

abbrev pub IsReachable : StayingNode → ℕ → Type 0
IsReachable staying away =
    ∥ ((levels : List Level) × IsStaying (levels_there staying.setup.until levels) staying × (away ≡ length (levels_away staying.setup.until levels))) ∥₁

-- some levels put it there, if some put it where it was
pub reachable : (old : Node) (staying : StayingNode) (away : ℕ) (more : List Level → List Level) → ((levels : List Level) → IsNode levels old → IsAt staying away (more levels)) → IsReachable staying away
reachable old staying away more at =
    ∥∥₁_map old.reached (λ (levels, stayed, gone). (let is = at levels (record { stayed = stayed; away = gone }) in (more levels, is.0, is.1)))

-- the same place, in a node of the same setup
pub at_same : (old : Node) (staying : StayingNode) → ((levels : List Level) → IsStaying levels old.staying → IsStaying levels staying) → staying.setup ≡ old.staying.setup
    → (levels : List Level) → IsNode levels old → IsAt staying old.away levels
at_same old staying same setup levels is =
    (let until = ap (λ s. s.until) setup in (
      subst (λ u. IsStaying (levels_there u levels) staying) (sym until) (same (levels_there old.staying.setup.until levels) is.stayed),
      is.away ∙ ap (λ u. length (levels_away u levels)) (sym until),
    ))

-- the quanta of a node that it was there
pub quanta_there : (levels : List Level) (node : Node) → IsNode levels node → node.staying.progress.quanta ≡ length (levels_there (node_setup node).until levels)
quanta_there levels node is = is.stayed.place.quanta ∙ is.stayed.counted

pub stands_first : (node : Node) (level : Level) → StandsFor node level 0
stands_first node level levels is = ap (drive_by (node_setup node)) (append-nil levels)

module _ (level : Level) (a b : ℕ) (old mid new : Node) (first : HasGone level a old mid) (stands : StandsFor old level a) where
  -- after some of the second ones the drive is that after the first ones
  stood_on : (k : ℕ) → StandsFor mid level k → StandsFor old level (a + k)
  stood_on k s levels is =
      ap (drive_by (node_setup old)) (sym (joined levels level a k))
      ∙ ap (λ setup. drive_by setup ((levels ++ replicate a level) ++ replicate k level)) (sym first.setup)
      ∙ s (levels ++ replicate a level) (first.node levels is)
      ∙ ap (λ setup. drive_by setup (levels ++ replicate a level)) first.setup
      ∙ stands levels is

  stood_in : ((m : ℕ) → m < b → StandsFor mid level m) → (m : ℕ) → m < a + b → StandsFor old level m
  stood_in second m h = elim (cases_lt m a) [
    | inl before ↦ first.stood m before
    | inr behind ↦ (let e : a + (m - a) ≡ m = omega arith in subst (λ (n : ℕ). StandsFor old level n) e (stood_on (m - a) (second (m - a) (omega arith))))
  ]

  pub gone_more : HasGone level b mid new → HasGone level (a + b) old new
  gone_more second = record {
    node = λ levels is. subst (λ more. IsNode more new) (joined levels level a b) (second.node (levels ++ replicate a level) (first.node levels is));
    setup = second.setup ∙ first.setup;
    quanta = (let e = first.quanta in let f = second.quanta in omega arith);
    keeps = second.keeps ∙ first.keeps;
    stood = stood_in second.stood;
  }

  pub turns_more : TurnsAfter mid level b → TurnsAfter old level (a + b)
  turns_more turns levels is e =
      turns (levels ++ replicate a level) (first.node levels is)
      (ap (λ setup. drive_by setup ((levels ++ replicate a level) ++ replicate b level)) first.setup
      ∙ ap (drive_by (node_setup old)) (joined levels level a b)
      ∙ e
      ∙ sym (stands levels is)
      ∙ sym (ap (λ setup. drive_by setup (levels ++ replicate a level)) first.setup))

-- Quanta that come before the node leaves.
module _ (level : Level) (most : ℕ) (old new : Node) (some : 0 < most) (few : most ≤ quanta_before (node_setup old).until old.staying.progress.quanta most) where
  there_now : (levels : List Level) → IsNode levels old → AreThere (node_setup old).until levels
  there_now levels is = are_there_now (node_setup old).until levels old.staying.progress.quanta most (quanta_there levels old is) some few

  there_after : (levels : List Level) → IsNode levels old → (m : ℕ) → m ≤ most → AreThere (node_setup old).until (levels ++ replicate m level)
  there_after levels is m less =
      are_there (node_setup old).until levels (replicate m level) old.staying.progress.quanta most (quanta_there levels old is) some few
      (let l = length-replicate m level in omega (arith, l, less))

  -- the drive is that of a node that stays
  drive_there : (levels : List Level) → IsNode levels old → (m : ℕ) → m ≤ most → drive_by (node_setup old) (levels ++ replicate m level) ≡ (staying_history (node_setup old) (levels ++ replicate m level)).drive
  drive_there levels is m less =
      (let at = there_after levels is m less in ap (λ h. h.drive) (history_there (node_setup old) (levels ++ replicate m level) at.there at.away))

  drive_now : (levels : List Level) → IsNode levels old → drive_by (node_setup old) levels ≡ (staying_history (node_setup old) levels).drive
  drive_now levels is = (let at = there_now levels is in ap (λ h. h.drive) (history_there (node_setup old) levels at.there at.away))

  stays_there : (levels : List Level) (is : IsNode levels old) → IsStaying levels old.staying
  stays_there levels is = subst (λ ls. IsStaying ls old.staying) (there_now levels is).there is.stayed

  stands_there : (m : ℕ) → m ≤ most → StayingStands old.staying level m → StandsFor old level m
  stands_there m less stands levels is = drive_there levels is m less ∙ (stands levels (stays_there levels is) ∙ sym (drive_now levels is))

  pub turns_there : (m : ℕ) → m ≤ most → StayingTurns old.staying level m → TurnsAfter old level m
  turns_there m less turns levels is e =
      turns levels (stays_there levels is) (sym (drive_there levels is m less) ∙ (e ∙ drive_now levels is))

  pub at_there : (staying : StayingNode) (n : ℕ) → n ≤ most → StayingHasGone level n old.staying staying → (levels : List Level) → IsNode levels old → IsAt staying old.away (levels ++ replicate n level)
  at_there staying n less gone levels is =
      (let at = there_after levels is n less in
      let until = ap (λ s. s.until) gone.setup in (
        subst (λ ls. IsStaying ls staying)
            (sym at.there ∙ ap (λ u. levels_there u (levels ++ replicate n level)) (sym until)) (gone.node levels (stays_there levels is)),
        is.away ∙ (ap length ((there_now levels is).away ∙ sym at.away) ∙ ap (λ u. length (levels_away u (levels ++ replicate n level))) (sym until)),
      ))

  pub gone_there : (n : ℕ) → n ≤ most → StayingHasGone level n old.staying new.staying → new.away ≡ old.away → HasGone level n old new
  gone_there n less gone away = record {
    node = λ levels is. (let at = at_there new.staying n less gone levels is in record { stayed = at.0; away = away ∙ at.1 });
    setup = gone.setup;
    quanta = (let q = gone.quanta in omega (arith, q, away));
    keeps = gone.keeps;
    stood = λ m before. stands_there m (omega (arith, before, less)) (gone.stood m before);
  }

  -- also if it is refused
  pub reachable_there : {E : Type 0} (staying : StayingNode) (r : Result ℕ E) → IfOk r (λ n. StayingHasGone level n old.staying staying) → IfOk r (λ n. n ≤ most)
      → OnErr r (StayingHasStopped level most old.staying staying) → IsReachable staying old.away
  reachable_there staying (Ok n) gone less stopped = reachable old staying old.away (λ levels. levels ++ replicate n level) (at_there staying n less gone)
  reachable_there staying (Err e) gone less stopped =
      reachable old staying old.away (λ levels. levels ++ replicate stopped.n level) (at_there staying stopped.n (let f = stopped.few in omega (arith, f)) stopped.gone)

  pub stopped_there : StayingHasStopped level most old.staying new.staying → new.away ≡ old.away → HasStopped level most old new
  stopped_there stopped away = (let less = stopped.few in record {
    n = stopped.n;
    few = stopped.few;
    gone = gone_there stopped.n (omega (arith, less)) stopped.gone away;
    stands = stands_there stopped.n (omega (arith, less)) stopped.stands;
  })

-- so many quanta that fit are few, also if it is refused
pub few_quanta : {E : Type 0} (level : Level) (most away limit : ℕ) (old new : StayingNode) (r : Result ℕ E) → IfOk r (λ n. StayingHasGone level n old new) → IfOk r (λ n. n ≤ most)
    → OnErr r (StayingHasStopped level most old new) → old.progress.quanta + away + most ≤ limit → new.progress.quanta + away ≤ limit
few_quanta level most away limit old new (Ok n) gone less stopped short = (let q = gone.quanta in omega (arith, q, less, short))
few_quanta level most away limit old new (Err e) gone less stopped short = (let q = stopped.gone.quanta in let f = stopped.few in omega (arith, q, f, short))

-- Quanta of a node that leaves with the first of them, or has left.
module _ (level : Level) (old new : Node) (after : is_after (node_setup old).until old.staying.progress.quanta ≡ true) where
  left_after : (levels : List Level) → IsNode levels old → (m : ℕ) → HaveLeft (node_setup old).until levels (replicate m level)
  left_after levels is m = have_left (node_setup old).until levels (replicate m level) old.staying.progress.quanta (quanta_there levels old is) after

  -- it drives recessive after any of them
  pub recessive_after : (levels : List Level) → IsNode levels old → (m : ℕ) → drive_by (node_setup old) (levels ++ replicate (suc m) level) ≡ Recessive
  recessive_after levels is m =
      away_drive (node_setup old) (levels ++ replicate (suc m) level)
      (let a = (left_after levels is (suc m)).away in let l = length-replicate (suc m) level in omega (arith, a, l))

  pub stands_away : (before : Level) → ((levels : List Level) → IsNode levels old → before ≡ drive_by (node_setup old) levels) → before ≡ Recessive → (m : ℕ) → StandsFor old level m
  stands_away before was e zero levels is = ap (drive_by (node_setup old)) (append-nil levels)
  stands_away before was e (suc m) levels is = recessive_after levels is m ∙ (sym e ∙ was levels is)

  pub turns_away : (before : Level) → ((levels : List Level) → IsNode levels old → before ≡ drive_by (node_setup old) levels) → before ≡ Dominant → TurnsAfter old level 1
  turns_away before was e levels is f = (let g : Dominant ≡ Recessive = sym e ∙ (was levels is ∙ (sym f ∙ recessive_after levels is 0)) in cc)

  pub at_away : (n : ℕ) (levels : List Level) → IsNode levels old → IsAt old.staying (old.away + n) (levels ++ replicate n level)
  at_away n levels is =
      (let at = left_after levels is n in
      let l = length-replicate n level in
      let a = at.away in
      let w = is.away in
      (subst (λ ls. IsStaying ls old.staying) (sym at.there) is.stayed, omega (arith, w, a, l)))

  pub gone_away : (n : ℕ) → new.staying ≡ old.staying → new.away ≡ old.away + n → ((m : ℕ) → m < n → StandsFor old level m) → HasGone level n old new
  gone_away n same away stood = record {
    node = λ levels is.
        (let at = at_away n levels is in
        let until = ap (λ s. s.setup.until) same in
        record {
          stayed = subst (λ s. IsStaying (levels_there s.setup.until (levels ++ replicate n level)) s) (sym same) at.0;
          away = away ∙ at.1 ∙ ap (λ u. length (levels_away u (levels ++ replicate n level))) (sym until);
        });
    setup = ap (λ s. s.setup) same;
    quanta = (let q = ap (λ s. s.progress.quanta) same in omega (arith, q, away));
    keeps = ap (λ s. s.progress.traffic.samples.keeps) same;
    stood = stood;
  }

  pub stood_one : (m : ℕ) → m < 1 → StandsFor old level m
  stood_one m less = subst (λ (k : ℕ). StandsFor old level k) (let e : 0 ≡ m = omega arith in e) (stands_first old level)
