-- Quanta of one level in which no bit is sampled and no edge synchronises one, one after another.
use Rattle.std.proofs.Common.{◌≡◌, ◌≢◌, ℕ, zero, suc, ◌+◌, ◌-◌, ◌<◌, ◌≤◌, ◌∙◌, ◌⊎◌, inl, inr, List, ◌++◌, Bool, true, false, cond, not, ◌&&◌, None, refl, sym, ap, subst, arith, append-nil, replicate}
use Rattle.std.specs.Prelude.{◌==◌, nat_lt, nat_le}
use Rattle.std.proofs.lemmas.Bool.{eqb-true, eqb-false, ne_eqb, lt-ltb, le-ltb, leb-true, leb-false, cases_lt}
use Rattle.wl_level.specs.declared.Level.{Level}
use Rattle.wl_level.specs.Levels.{is_dominant}
use Rattle.wl_level.proofs.Callers.{snoc}
use Rattle.wl_segments.specs.declared.SyncRules.{SyncRules}
use Rattle.wl_segments.specs.declared.SyncRules.TheVariants.{After, Book}
use Rattle.wl_segments.specs.Lengths.{Lengths, AreLengths, sample_at}
use Rattle.wl_sync.specs.declared.Beat.TheVariants.{Plain, Sample, Start}
use Rattle.wl_sync.specs.Edges.{Seen}
use Rattle.wl_sync.specs.Bits.{beat_of}
use Rattle.wl_sync.specs.Running.{Running, clock_after}
use Rattle.wl_sync.specs.Steps.{IsBitClock, end_of, running_due, running_edge, running_edge_by, running_sync, running_restart, running_moved, running_on, running_over, running_placed, running_after, running_beat, beat_between, running_answer, is_sampled, samples}
use Rattle.wl_sync.specs.Skips.{moved_place, finds_edge, quanta_before_sample, quanta_before_beat, free_quanta, IsUnmoved, IsUnsampled, IsPlain}
use Rattle.wl_sync.proofs.Cuts.{clock_next, beat_next, sync_next}

-- a clock in the bit at this place
abbrev pub running_at : Running → Level → ℕ → Running
running_at r level n = record { lengths = r.lengths; quanta = n; longer = r.longer; shorter = r.shorter; synced = r.synced; level = level; sample = r.sample }

-- and in the next bit
abbrev pub running_new : Running → Level → ℕ → Running
running_new r level n = record { lengths = r.lengths; quanta = n; longer = 0; shorter = 0; synced = false; level = level; sample = r.sample }

-- so many quanta of this level later, where none is a sample or synchronises
abbrev pub running_skipped : Running → Level → ℕ → Running
running_skipped r level n = cond (nat_lt (end_of r) (r.quanta + n)) (running_new r level (r.quanta + n - end_of r)) (running_at r level (r.quanta + n))

pub skipped_on : (r : Running) (level : Level) (n : ℕ) → r.quanta + n ≤ end_of r → running_skipped r level n ≡ running_at r level (r.quanta + n)
skipped_on r level n h = rw (le-ltb (end_of r) (r.quanta + n) h) refl

pub skipped_new : (r : Running) (level : Level) (n : ℕ) → end_of r < r.quanta + n → running_skipped r level n ≡ running_new r level (r.quanta + n - end_of r)
skipped_new r level n h = rw (lt-ltb (end_of r) (r.quanta + n) h) refl

-- the quantum x is no sample and finds no edge
record IsFree (r : Running) (x : Seen) : Type 0 where
  inside : r.quanta ≤ end_of r
  no_edge : finds_edge r x.level ≡ false
  apart : r.quanta ≢ moved_place r

no_sync : (r s : Running) (x : Seen) → IsFree r x → s.level ≡ r.level → running_sync s x ≡ false
no_sync r s x is e = (let g : (is_dominant x.level && not (is_dominant s.level)) ≡ false = ap (λ v. is_dominant x.level && not (is_dominant v)) e ∙ is.no_edge in rw g refl)

first_unsampled : (l : Lengths) → (0 == sample_at l + 0) ≡ false
first_unsampled l = ne_eqb 0 (sample_at l + 0) (λ e. omega arith)

-- the bit that x is in, one quantum later
abbrev passed : SyncRules → Running → Level → Running
passed s r level = running_over s (running_edge_by s r) (running_moved (running_edge_by s r) false false level) false level

unsampled : (r : Running) (x : Seen) → IsFree r x → is_sampled r ≡ false
unsampled r x is = ne_eqb r.quanta (moved_place r) is.apart

passed_is : (s : SyncRules) (r : Running) (x : Seen) → IsFree r x → (b : Bool) → (r.quanta == end_of r) ≡ b → passed s r x.level ≡ running_skipped r x.level 1
passed_is After r x is true e = (let h = eqb-true r.quanta (end_of r) e in let q : r.quanta + 1 - end_of r ≡ 1 = omega arith in
    rw (e, first_unsampled r.lengths) refl ∙ ap (running_new r x.level) (sym q) ∙ sym (skipped_new r x.level 1 (omega arith)))
passed_is After r x is false e = (let h = eqb-false r.quanta (end_of r) e in let i = is.inside in
    rw (e, unsampled r x is) refl ∙ sym (skipped_on r x.level 1 (omega arith)))
passed_is Book r x is true e = (let h = eqb-true r.quanta (end_of r) e in let q : r.quanta + 1 - end_of r ≡ 1 = omega arith in
    rw e refl ∙ ap (running_new r x.level) (sym q) ∙ sym (skipped_new r x.level 1 (omega arith)))
passed_is Book r x is false e = (let h = eqb-false r.quanta (end_of r) e in let i = is.inside in
    rw (e, unsampled r x is) refl ∙ sym (skipped_on r x.level 1 (omega arith)))

due_level : (r : Running) (b : Bool) → (r.quanta == end_of r) ≡ b → (running_due r).level ≡ r.level
due_level r true e = rw e refl
due_level r false e = rw e refl

due_lengths : (r : Running) (b : Bool) → (r.quanta == end_of r) ≡ b → (running_due r).lengths ≡ r.lengths
due_lengths r true e = rw e refl
due_lengths r false e = rw e refl

edge_level : (s : SyncRules) (r : Running) → (running_edge_by s r).level ≡ r.level
edge_level After r = due_level r (r.quanta == end_of r) refl
edge_level Book r = refl

pub edge_lengths : (s : SyncRules) (r : Running) → (running_edge_by s r).lengths ≡ r.lengths
edge_lengths After r = due_lengths r (r.quanta == end_of r) refl
edge_lengths Book r = refl

module _ (r : Running) (x : Seen) (is : IsFree r x) where
  abbrev edge : Running
  edge = running_edge r

  edge_sync : running_sync edge x ≡ false
  edge_sync = no_sync r edge x is (edge_level r.lengths.sync r)

  edge_restart : running_restart edge x ≡ false
  edge_restart = rw edge_sync refl

  placed : running_placed edge x ≡ running_skipped r x.level 1
  placed =
      rw edge_sync refl
      ∙ ap (λ (l : Lengths). running_over l.sync edge (running_moved edge false false x.level) false x.level) (edge_lengths r.lengths.sync r)
      ∙ passed_is r.lengths.sync r x is (r.quanta == end_of r) refl

  answer : running_answer edge x ≡ None
  answer = rw edge_sync refl

  -- the quantum is no sample, or the first of a bit
  unsampled_or_first : (b : Bool) → (r.quanta == end_of r) ≡ b
      → cond ((running_skipped r x.level 1).quanta == 1) Start (cond (samples edge (running_skipped r x.level 1).longer) (Sample x.level) Plain)
      ≡ cond ((running_skipped r x.level 1).quanta == 1) Start Plain
  unsampled_or_first true e =
      let h = eqb-true r.quanta (end_of r) e in
      let q : r.quanta + 1 - end_of r ≡ 1 = omega arith in
      rw (skipped_new r x.level 1 (omega arith), q) refl
  unsampled_or_first false e =
      let h = eqb-false r.quanta (end_of r) e in
      let i = is.inside in
      ap (λ (s : Running). cond (s.quanta == 1) Start (cond (samples edge s.longer) (Sample x.level) Plain)) (skipped_on r x.level 1 (omega arith))
      ∙ ap (λ (s : Running). cond (r.quanta + 1 == 1) Start (cond (samples s r.longer) (Sample x.level) Plain)) (edge_on r.lengths.sync e)
      ∙ ap (λ b. cond (r.quanta + 1 == 1) Start (cond b (Sample x.level) Plain)) (unsampled r x is)
      ∙ ap (λ (s : Running). cond (s.quanta == 1) Start Plain) (sym (skipped_on r x.level 1 (omega arith)))
    where
      edge_on : (s : SyncRules) → (r.quanta == end_of r) ≡ false → running_edge_by s r ≡ r
      edge_on After f = rw f refl
      edge_on Book f = refl

  beat : running_beat edge x ≡ cond ((running_skipped r x.level 1).quanta == 1) Start Plain
  beat =
      ap (λ b. beat_between b edge (running_placed edge x) x.level) edge_restart
      ∙ ap (λ s. beat_between false edge s x.level) placed
      ∙ unsampled_or_first (r.quanta == end_of r) refl

-- a quantum that no edge comes with, within its bit
pub record GoesOn (r : Running) (x : Seen) : Type 0 where
  pub no_edge : finds_edge r x.level ≡ false
  pub begun : 0 < r.quanta
  pub inside : r.quanta < end_of r

module _ (r : Running) (x : Seen) (is : GoesOn r x) where
  not_over : (r.quanta == end_of r) ≡ false
  not_over = ne_eqb r.quanta (end_of r) (λ e. let h = is.inside in omega arith)

  sync_none : running_sync r x ≡ false
  sync_none = (let g = is.no_edge in rw g refl)

  edge_same : (s : SyncRules) → running_edge_by s r ≡ r
  edge_same After = rw not_over refl
  edge_same Book = refl

  over_same : (s : SyncRules) → running_over s r (running_moved r false false x.level) false x.level ≡ running_on r x.level
  over_same After = refl
  over_same Book = rw not_over refl

  goes_placed : running_placed r x ≡ running_on r x.level
  goes_placed = rw sync_none (over_same r.lengths.sync)

  pub goes_after : running_after r x ≡ running_on r x.level
  goes_after = ap (λ s. running_placed s x) (edge_same r.lengths.sync) ∙ goes_placed

  pub goes_answer : running_answer (running_edge r) x ≡ None
  goes_answer = ap (λ s. running_answer s x) (edge_same r.lengths.sync) ∙ rw sync_none refl

  goes_restart : running_restart r x ≡ false
  goes_restart = rw sync_none refl

  pub goes_beat : running_beat (running_edge r) x ≡ cond (is_sampled r) (Sample x.level) Plain
  goes_beat =
      ap (λ s. running_beat s x) (edge_same r.lengths.sync)
      ∙ ap (λ b. beat_between b r (running_placed r x) x.level) goes_restart
      ∙ ap (λ s. beat_between false r s x.level) goes_placed
      ∙ ap (λ b. cond b Start (cond (is_sampled r) (Sample x.level) Plain)) (ne_eqb (r.quanta + 1) 1 (λ e. let h = is.begun in omega arith))

-- so many quanta more are no sample, and the first finds no edge
pub record AreFree (r : Running) (level : Level) (n : ℕ) : Type 0 where
  pub lengths : AreLengths r.lengths
  pub shorter : r.shorter ≤ r.lengths.ps2
  pub inside : r.quanta ≤ end_of r
  pub no_edge : finds_edge r level ≡ false
  pub apart : (r.quanta + n ≤ moved_place r) ⊎ ((moved_place r < r.quanta) × (r.quanta + n ≤ end_of r + sample_at r.lengths))

pub same_twice : (level : Level) → (is_dominant level && not (is_dominant level)) ≡ false
same_twice level = go (is_dominant level)
  where
    go : (b : Bool) → (b && not b) ≡ false
    go true = refl
    go false = refl

-- fewer of them
fewer : (r : Running) (level : Level) (m n : ℕ) → m ≤ n → AreFree r level n → AreFree r level m
fewer r level m n h are = record {
  lengths = are.lengths;
  shorter = are.shorter;
  inside = are.inside;
  no_edge = are.no_edge;
  apart = elim (are.apart) [
    | inl before ↦ inl (omega arith)
    | inr behind ↦ (let a = behind.0 in let b = behind.1 in inr (a, omega arith))
  ];
}

first_free : (r : Running) (x : Seen) (n : ℕ) → 0 < n → AreFree r x.level n → IsFree r x
first_free r x n h are = record {
  inside = are.inside;
  no_edge = are.no_edge;
  apart = λ e. elim (are.apart) [
    | inl before ↦ omega arith
    | inr behind ↦ (let a = behind.0 in omega arith)
  ];
}

-- a quantum behind m of them
module _ (r : Running) (x : Seen) (m : ℕ) (are : AreFree r x.level (suc m)) where
  abbrev at : Running
  at = running_skipped r x.level m

  on : r.quanta + m ≤ end_of r → at ≡ running_at r x.level (r.quanta + m)
  on h = skipped_on r x.level m h

  new : end_of r < r.quanta + m → at ≡ running_new r x.level (r.quanta + m - end_of r)
  new h = skipped_new r x.level m h

  behind : end_of r < r.quanta + m → r.quanta + suc m ≤ end_of r + sample_at r.lengths
  behind h = elim (are.apart) [
    | inl before ↦ (let a = are.shorter in absurd (omega arith))
    | inr past ↦ past.1
  ]

  next_free : IsFree at x
  next_free = elim (cases_lt (end_of r) (r.quanta + m)) [
    | inl over ↦ (let b = behind over in let l = are.lengths in let low = l.ps2_low in subst (λ (s : Running). IsFree s x) (sym (new over)) (record {
      inside = omega arith;
      no_edge = same_twice x.level;
      apart = λ e. omega arith;
    }))
    | inr within ↦ subst (λ (s : Running). IsFree s x) (sym (on within)) (record {
      inside = within;
      no_edge = same_twice x.level;
      apart = λ e. elim (are.apart) [
        | inl before ↦ omega arith
        | inr past ↦ (let a = past.0 in omega arith)
      ];
    })
  ]

  twice : running_skipped at x.level 1 ≡ running_skipped r x.level (suc m)
  twice = elim (cases_lt (end_of r) (r.quanta + m)) [
    | inl over ↦ (
        let b = behind over in
        let l = are.lengths in
        let low = l.ps2_low in
        let q : r.quanta + m - end_of r + 1 ≡ r.quanta + suc m - end_of r = omega arith in
        ap (λ s. running_skipped s x.level 1) (new over)
        ∙ skipped_on (running_new r x.level (r.quanta + m - end_of r)) x.level 1 (omega arith)
        ∙ ap (running_new r x.level) q
        ∙ sym (skipped_new r x.level (suc m) (omega arith)))
    | inr within ↦ ap (λ s. running_skipped s x.level 1) (on within) ∙ elim (cases_lt (end_of r) (r.quanta + suc m)) [
      | inl over ↦ (
          let q : r.quanta + m + 1 - end_of r ≡ r.quanta + suc m - end_of r = omega arith in
          skipped_new (running_at r x.level (r.quanta + m)) x.level 1 (omega arith)
          ∙ ap (running_new r x.level) q
          ∙ sym (skipped_new r x.level (suc m) over))
      | inr still ↦ (
          let q : r.quanta + m + 1 ≡ r.quanta + suc m = omega arith in
          skipped_on (running_at r x.level (r.quanta + m)) x.level 1 (omega arith)
          ∙ ap (running_at r x.level) q
          ∙ sym (skipped_on r x.level (suc m) still))
    ]
  ]

module _ (l : Lengths) (past : List Seen) (x : Seen) where
  abbrev r : Running
  r = clock_after l past

  -- where some of them put the clock
  reached : (m : ℕ) → AreFree r x.level (suc m) → clock_after l (past ++ replicate (suc m) x) ≡ running_skipped r x.level (suc m)
  reached zero are = clock_next l past x ∙ placed r x (first_free r x 1 (omega arith) are)
  reached (suc m) are =
      ap (clock_after l) (snoc past x (suc m))
      ∙ clock_next l (past ++ replicate (suc m) x) x
      ∙ ap (λ s. running_after s x) (reached m (fewer r x.level (suc m) (suc (suc m)) (omega arith) are))
      ∙ placed (running_skipped r x.level (suc m)) x (next_free r x (suc m) are)
      ∙ twice r x (suc m) are

  -- what is found by the quantum after m of them
  found : (m : ℕ) → AreFree r x.level (suc m) → IsFree (clock_after l (past ++ replicate m x)) x
  found zero are = subst (λ p. IsFree (clock_after l p) x) (sym (append-nil past)) (first_free r x 1 (omega arith) are)
  found (suc m) are = subst (λ (s : Running). IsFree s x) (sym (reached m (fewer r x.level (suc m) (suc (suc m)) (omega arith) are))) (next_free r x (suc m) are)

  pub skipped : (n : ℕ) → 0 < n → AreFree r x.level n → clock_after l (past ++ replicate n x) ≡ running_skipped r x.level n
  skipped zero some are = absurd (omega arith)
  skipped (suc m) some are = reached m are

  pub unmoved : (n : ℕ) → AreFree r x.level n → IsUnmoved l past x n
  unmoved n are m h =
      sync_next l (past ++ replicate m x) x
      ∙ answer (clock_after l (past ++ replicate m x)) x (found m (fewer r x.level (suc m) n (omega arith) are))

  -- the clock behind that quantum
  again : (m : ℕ) → AreFree r x.level (suc m) → running_skipped (clock_after l (past ++ replicate m x)) x.level 1 ≡ running_skipped r x.level (suc m)
  again m are =
      sym (placed (clock_after l (past ++ replicate m x)) x (found m are))
      ∙ sym (clock_next l (past ++ replicate m x) x)
      ∙ sym (ap (clock_after l) (snoc past x m))
      ∙ reached m are

  beat_is : (m : ℕ) → AreFree r x.level (suc m) → beat_of l (past ++ replicate m x) x ≡ cond ((running_skipped r x.level (suc m)).quanta == 1) Start Plain
  beat_is m are =
      beat_next l (past ++ replicate m x) x
      ∙ beat (clock_after l (past ++ replicate m x)) x (found m are)
      ∙ ap (λ s. cond (s.quanta == 1) Start Plain) (again m are)

  pub not_sampled : (n : ℕ) → AreFree r x.level n → IsUnsampled l past x n
  not_sampled n are m level h e = none ((running_skipped r x.level (suc m)).quanta == 1) (sym (beat_is m (fewer r x.level (suc m) n (omega arith) are)) ∙ e)
    where
      none : (b : Bool) → cond b Start Plain ≡ Sample level → ⊥
      none true f = cc
      none false f = cc

  -- where the bit has begun, and isn't over before the last of them
  pub plain : (n : ℕ) → AreFree r x.level n → 0 < r.quanta → r.quanta + n ≤ end_of r → IsPlain l past x n
  plain n are begun inside m h =
      beat_is m (fewer r x.level (suc m) n (omega arith) are)
      ∙ ap (λ s. cond (s.quanta == 1) Start Plain) (skipped_on r x.level (suc m) (omega arith))
      ∙ ap (λ b. cond b Start Plain) (ne_eqb (r.quanta + suc m) 1 (λ e. omega arith))

-- by the number of quanta
is_bounded : (r : Running) → IsBitClock r → (r.quanta ≤ end_of r) × (moved_place r ≤ end_of r)
is_bounded r is = (let a = is.shorter in let b = is.quanta in (omega arith, omega arith))

module _ (r : Running) (level : Level) (is : IsBitClock r) (n : ℕ) (some : 0 < n) where
  none_at_edge : (starts : Bool) (b : Bool) → n ≤ cond b 0 (cond starts (quanta_before_sample r) (quanta_before_beat r)) → (b ≡ false) × (n ≤ cond starts (quanta_before_sample r) (quanta_before_beat r))
  none_at_edge starts true h = absurd (omega arith)
  none_at_edge starts false h = (refl, h)

  before_it : (b : Bool) → nat_le r.quanta (moved_place r) ≡ b → n ≤ cond b (moved_place r - r.quanta) (end_of r - r.quanta + sample_at r.lengths)
      → (r.quanta + n ≤ moved_place r) ⊎ ((moved_place r < r.quanta) × (r.quanta + n ≤ end_of r + sample_at r.lengths))
  before_it true e h = (let a = leb-true r.quanta (moved_place r) e in inl (omega arith))
  before_it false e h = (let a = leb-false r.quanta (moved_place r) e in let b = (is_bounded r is).0 in inr (a, omega arith))

  pub are_free : n ≤ free_quanta true r level → AreFree r level n
  are_free h = (let f = none_at_edge true (finds_edge r level) h in record {
    lengths = is.lengths;
    shorter = is.shorter;
    inside = (is_bounded r is).0;
    no_edge = f.0;
    apart = before_it (nat_le r.quanta (moved_place r)) refl f.1;
  })

  inside_it : (b : Bool) → nat_le r.quanta (moved_place r) ≡ b → n ≤ cond b (moved_place r - r.quanta) (end_of r - r.quanta) → r.quanta + n ≤ end_of r
  inside_it true e h = (let a = leb-true r.quanta (moved_place r) e in let b = (is_bounded r is).1 in omega arith)
  inside_it false e h = (let a = leb-false r.quanta (moved_place r) e in let b = (is_bounded r is).0 in omega arith)

  begun_it : (b : Bool) → (r.quanta == 0) ≡ b → n ≤ cond b 0 (cond (nat_le r.quanta (moved_place r)) (moved_place r - r.quanta) (end_of r - r.quanta)) → (0 < r.quanta) × (r.quanta + n ≤ end_of r)
  begun_it true e h = absurd (omega arith)
  begun_it false e h = (let a = eqb-false r.quanta 0 e in (omega arith, inside_it (nat_le r.quanta (moved_place r)) refl h))

  pub within : n ≤ free_quanta false r level → (0 < r.quanta) × (r.quanta + n ≤ end_of r)
  within h = begun_it (r.quanta == 0) refl (none_at_edge false (finds_edge r level) h).1
