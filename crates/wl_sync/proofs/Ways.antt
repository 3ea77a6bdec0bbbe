-- The way to the sample, by what a bit clock keeps.
use Rattle.std.proofs.Common.{◌≡◌, ◌≢◌, ℕ, suc, ◌+◌, ◌-◌, ◌<◌, ◌≤◌, ◌∙◌, List, [], ◌∷◌, ◌++◌, Bool, true, false, cond, ◌&&◌, Option, Some, None, refl, sym, ap, subst, arith, min, ◌||◌, not}
use Rattle.std.specs.Prelude.{fold, ◌==◌, nat_lt, nat_le}
use Rattle.std.proofs.lemmas.Bool.{ltb-true, leb-true, leb-false, eqb-true, eqb-false, le-leb, lt-leb, lt-ltb, and_parts, or_parts, cond_both}
use Rattle.wl_level.specs.declared.Level.{Level}
use Rattle.wl_segments.specs.declared.SyncRules.{SyncRules}
use Rattle.wl_segments.specs.declared.SyncRules.TheVariants.{After, Book}
use Rattle.wl_segments.specs.Lengths.{Lengths, AreLengths, sample_at, bit_quanta, found_by, found_at, least_way}
use Rattle.wl_sync.specs.declared.Beat.TheVariants.{Plain, Sample, Start}
use Rattle.wl_sync.specs.Edges.{Seen, longer_by}
use Rattle.wl_sync.specs.Bits.{quanta_up_to, bit_after, beat_of, first_bit}
use Rattle.wl_sync.specs.Running.{Running, running, clock_after}
use Rattle.wl_sync.specs.Steps.{running_due, running_edge, running_edge_by, running_sync, running_restart, running_moved, running_over, running_placed, running_after, samples, end_of}
use Rattle.wl_sync.specs.SampleLaws.{quanta_to_sample}
use Rattle.wl_sync.proofs.Fresh.{sync_fresh}
use Rattle.wl_sync.proofs.Cuts.{clock_next, beat_next, bit_next, running_at_first, first_is}

fold_keeps : {A B : Type 0} (f : B → A → B) (P : B → Type 0) → ((b : B) (a : A) → P b → P (f b a)) → (xs : List A) (b : B) → P b → P (fold f b xs)
fold_keeps f P step [] b p = p
fold_keeps f P step (x ∷ xs) b p = fold_keeps f P step xs (f b x) (step b x p)

-- What holds of what a clock keeps after any list: one that has not synchronised is not longer, and one that is, is so by what stood before its last quantum.
record IsPlaced (l : Lengths) (r : Running) : Type 0 where
  lengths : r.lengths ≡ l
  fresh : r.synced ≡ false → r.longer ≡ 0
  longer : r.longer ≤ r.quanta - 1

due_placed : (l : Lengths) (r : Running) (b : Bool) → IsPlaced l r
    → IsPlaced l (cond b (record { lengths = r.lengths; quanta = 0; longer = 0; shorter = 0; synced = false; level = r.level; sample = r.sample }) r)
due_placed l r true p = record { lengths = p.lengths; fresh = λ e. refl; longer = omega arith }
due_placed l r false p = p

-- a synchronisation before the sample makes a bit longer by no more than its place
longer_few : (s b : Bool) (q m j longer : ℕ) → longer ≤ q - 1 → cond s (cond b (min (q - m) j) 0) longer ≤ q + 1 - 1
longer_few true true q m j longer h = omega arith
longer_few true false q m j longer h = omega arith
longer_few false b q m j longer h = omega arith

none_longer : (s : Bool) (n longer : ℕ) → s ≡ false → longer ≡ 0 → cond s n longer ≡ 0
none_longer true n longer h e = cc
none_longer false n longer h e = e

moved_placed : (l : Lengths) (r : Running) (x : Seen) → IsPlaced l r → IsPlaced l (running_moved r (running_sync r x) (running_restart r x) x.level)
moved_placed l r x p =
    cond_both (running_restart r x) _ _ (IsPlaced l) (λ e. record { lengths = p.lengths; fresh = λ f. refl; longer = omega arith })
    (λ e. record {
      lengths = p.lengths;
      fresh = λ f. none_longer (running_sync r x) (longer_by r.lengths (Some r.quanta)) r.longer (or_parts (running_sync r x) r.synced f).0 (p.fresh (or_parts (running_sync r x) r.synced f).1);
      longer = longer_few (running_sync r x) (nat_le r.quanta (sample_at r.lengths)) r.quanta (found_at r.lengths) r.lengths.sjw r.longer p.longer;
    })

over_placed : (l : Lengths) (r m : Running) (b : Bool) (level : Level) (s : SyncRules) → r.lengths ≡ l → IsPlaced l m → IsPlaced l (running_over s r m b level)
over_placed l r m b level After e p = p
over_placed l r m b level Book e p =
    cond_both (not b && r.quanta == end_of m) _ _ (IsPlaced l) (λ f. record { lengths = e; fresh = λ g. refl; longer = omega arith }) (λ f. p)

placed_placed : (l : Lengths) (r : Running) (x : Seen) → IsPlaced l r → IsPlaced l (running_placed r x)
placed_placed l r x p = over_placed l r _ (running_restart r x) x.level r.lengths.sync p.lengths (moved_placed l r x p)

edge_placed : (l : Lengths) (r : Running) (s : SyncRules) → IsPlaced l r → IsPlaced l (running_edge_by s r)
edge_placed l r After p = due_placed l r (r.quanta == end_of r) p
edge_placed l r Book p = p

after_placed : (l : Lengths) (r : Running) (x : Seen) → IsPlaced l r → IsPlaced l (running_after r x)
after_placed l r x p = placed_placed l (running_edge r) x (edge_placed l r r.lengths.sync p)

first_placed : (l : Lengths) (s : SyncRules) → IsPlaced l (running_at_first s l)
first_placed l After = record { lengths = refl; fresh = λ e. refl; longer = omega arith }
first_placed l Book = record { lengths = refl; fresh = λ e. refl; longer = omega arith }

bit_placed : (l : Lengths) (past : List Seen) → IsPlaced l (clock_after l past)
bit_placed l past =
    fold_keeps (bit_after l) (λ bit. IsPlaced l (running l bit)) (λ bit x p. subst (IsPlaced l) (sym (bit_next l bit x)) (after_placed l (running l bit) x p)) past (first_bit l)
    (subst (IsPlaced l) (sym (first_is l)) (first_placed l l.sync))

-- the way to the sample, of what is kept
abbrev way_of : Lengths → Running → Option ℕ
way_of l r = quanta_up_to r.quanta (sample_at l + r.longer)

some_left : (quanta k : ℕ) → 0 < quanta → quanta ≤ k → quanta_up_to quanta k ≡ Some (suc k - quanta)
some_left quanta k h e = rw (lt-ltb 0 quanta h, le-leb quanta k e) refl

none_left : (quanta k : ℕ) → k < quanta → quanta_up_to quanta k ≡ None
none_left quanta k h = rw (lt-ltb 0 quanta (omega arith), lt-leb quanta k h) refl

left_is : (quanta k n : ℕ) → quanta_up_to quanta k ≡ Some n → (0 < quanta) × ((quanta ≤ k) × (n ≡ suc k - quanta))
left_is quanta k n = by_test (nat_lt 0 quanta && nat_le quanta k) refl
  where
    by_test : (b : Bool) → (nat_lt 0 quanta && nat_le quanta k) ≡ b → cond b (Some (suc k - quanta)) None ≡ Some n → (0 < quanta) × ((quanta ≤ k) × (n ≡ suc k - quanta))
    by_test true t e = (ltb-true 0 quanta (and_parts _ _ t).0, (leb-true quanta k (and_parts _ _ t).1, cc))
    by_test false t e = cc

left_not : (quanta k : ℕ) → 0 < quanta → quanta_up_to quanta k ≡ None → k < quanta
left_not quanta k h = by_test (nat_le quanta k) refl
  where
    by_test : (b : Bool) → nat_le quanta k ≡ b → quanta_up_to quanta k ≡ None → k < quanta
    by_test true t e = (let f : quanta_up_to quanta k ≡ Some (suc k - quanta) = some_left quanta k h (leb-true quanta k t) in cc)
    by_test false t e = leb-false quanta k t

-- what a beat says of the quantum that it is
start_first : (b s : Bool) (level : Level) → cond b Start (cond s (Sample level) Plain) ≡ Start → b ≡ true
start_first true s level e = refl
start_first false true level e = cc
start_first false false level e = cc

sample_here : (b s : Bool) (level other : Level) → cond b Start (cond s (Sample level) Plain) ≡ Sample other → (b ≡ false) × (s ≡ true)
sample_here true s level other e = cc
sample_here false true level other e = (refl, refl)
sample_here false false level other e = cc

plain_here : (b s : Bool) (level : Level) → cond b Start (cond s (Sample level) Plain) ≡ Plain → (b ≡ false) × (s ≡ false)
plain_here true s level e = cc
plain_here false true level e = cc
plain_here false false level e = (refl, refl)

-- a quantum that begins no bit comes in the running one, which goes on with it
over_not : (s : SyncRules) (r m : Running) (level : Level) → (running_over s r m false level).quanta ≢ 1 → running_over s r m false level ≡ m
over_not After r m level h = refl
over_not Book r m level h = by_test (r.quanta == end_of m) refl
  where
    by_test : (b : Bool) → (r.quanta == end_of m) ≡ b → running_over Book r m false level ≡ m
    by_test true e = absurd (h (rw e refl))
    by_test false e = rw e refl

goes_on : (r : Running) (x : Seen) → running_restart r x ≡ false → (running_placed r x).quanta ≢ 1 → running_placed r x ≡ running_moved r (running_sync r x) false x.level
goes_on r x f h =
    let e : running_placed r x ≡ running_over r.lengths.sync r (running_moved r (running_sync r x) false x.level) false x.level =
    ap (λ b. running_over r.lengths.sync r (running_moved r (running_sync r x) b x.level) b x.level) f in
    e ∙ over_not r.lengths.sync r (running_moved r (running_sync r x) false x.level) x.level (λ q. h (ap (λ n. n.quanta) e ∙ q))

first_not : (r : Running) (x : Seen) → running_restart r x ≡ false → (running_placed r x).quanta ≢ 1 → r.quanta ≢ 0
first_not r x f h e = h (ap (λ n. n.quanta) (goes_on r x f h) ∙ (let g : r.quanta + 1 ≡ 1 = omega arith in g))

edge_not : (s : SyncRules) (r : Running) → (running_edge_by s r).quanta ≢ 0 → running_edge_by s r ≡ r
edge_not After r h = by_test (r.quanta == end_of r) refl
  where
    by_test : (b : Bool) → (r.quanta == end_of r) ≡ b → running_due r ≡ r
    by_test true e = absurd (h (rw e refl))
    by_test false e = rw e refl
edge_not Book r h = refl

-- the way after a quantum by which an edge begins a bit
begun_start : (l : Lengths) (r : Running) (x : Seen) → r.lengths ≡ l → running_restart r x ≡ true
    → (m : ℕ) × ((quanta_up_to (running_placed r x).quanta (sample_at l + (running_placed r x).longer) ≡ Some m) × (least_way l ≤ m))
begun_start l r x e f = by_sync r.lengths.sync (sym_moved r.lengths.sync)
  where
    m : Running
    m = record { lengths = r.lengths; quanta = suc (found_at r.lengths); longer = 0; shorter = 0; synced = true; level = x.level; sample = r.sample }

    sym_moved : (s : SyncRules) → running_over s r (running_moved r (running_sync r x) (running_restart r x) x.level) (running_restart r x) x.level ≡ m
    sym_moved After = rw f refl
    sym_moved Book = rw f refl

    by_sync : (s : SyncRules) → running_placed r x ≡ m
        → (m : ℕ) × ((quanta_up_to (running_placed r x).quanta (sample_at l + (running_placed r x).longer) ≡ Some m) × (least_way l ≤ m))
    by_sync s g =
        let q : (running_placed r x).quanta ≡ suc (found_at r.lengths) = ap (λ n. n.quanta) g in
        let j : (running_placed r x).longer ≡ 0 = ap (λ n. n.longer) g in
        let k : found_at r.lengths ≡ found_at l = ap found_at e in (
          suc (sample_at l + (running_placed r x).longer) - (running_placed r x).quanta,
          (some_left (running_placed r x).quanta (sample_at l + (running_placed r x).longer) (omega arith) (omega arith), omega arith),
        )

-- the way after a quantum that begins a bit
one_start : (l : Lengths) (r : Running) → IsPlaced l r → r.quanta ≡ 1 → way_of l r ≡ Some (sample_at l)
one_start l r p e =
    (let h = p.longer in
    some_left r.quanta (sample_at l + r.longer) (omega arith) (omega arith) ∙ ap Some (let g : suc (sample_at l + r.longer) - r.quanta ≡ sample_at l = omega arith in g))

-- and of one that goes on in its bit, where the place of the sample is farther by some quanta
module _ (l : Lengths) (r : Running) (x : Seen) (p : IsPlaced l r) (goes : running_placed r x ≡ running_moved r (running_sync r x) false x.level)
    (fresh : running_sync r x ≡ true → r.synced ≡ false) (some : r.quanta ≢ 0) where
  goes_quanta : (running_placed r x).quanta ≡ r.quanta + 1
  goes_quanta = ap (λ n. n.quanta) goes

  goes_longer : (running_placed r x).longer ≡ cond (running_sync r x) (longer_by r.lengths (Some r.quanta)) r.longer
  goes_longer = ap (λ n. n.longer) goes

  -- the place of the sample moves away where a synchronisation makes the bit longer, and only up to the sample, which is none then
  moves : (s : Bool) → running_sync r x ≡ s → (b : Bool) → nat_le r.quanta (sample_at r.lengths) ≡ b
      → (r.longer ≤ cond s (cond b (min (r.quanta - found_at r.lengths) r.lengths.sjw) 0) r.longer)
      × (sample_at l + cond s (cond b (min (r.quanta - found_at r.lengths) r.lengths.sjw) 0) r.longer ≤ r.quanta
      → cond s (cond b (min (r.quanta - found_at r.lengths) r.lengths.sjw) 0) r.longer ≡ r.longer)
      × (sample_at l + r.longer < r.quanta → cond s (cond b (min (r.quanta - found_at r.lengths) r.lengths.sjw) 0) r.longer ≡ r.longer)
  moves false e b f = (omega arith, λ h. refl, λ h. refl)
  moves true e false f = (let g : r.longer ≡ 0 = p.fresh (fresh e) in (omega arith, λ h. sym g, λ h. sym g))
  moves true e true f =
      let g : r.longer ≡ 0 = p.fresh (fresh e) in
      let k = leb-true r.quanta (sample_at r.lengths) f in
      let a : sample_at r.lengths ≡ sample_at l = ap sample_at p.lengths in
      (omega arith, λ h. omega arith, λ h. omega arith)

  moved : (r.longer ≤ (running_placed r x).longer) × (sample_at l + (running_placed r x).longer ≤ r.quanta → (running_placed r x).longer ≡ r.longer)
      × (sample_at l + r.longer < r.quanta → (running_placed r x).longer ≡ r.longer)
  moved =
      let m = moves (running_sync r x) refl (nat_le r.quanta (sample_at r.lengths)) refl in (
        subst (λ n. r.longer ≤ n) (sym goes_longer) m.0,
        λ h. goes_longer ∙ m.1 (subst (λ n. sample_at l + n ≤ r.quanta) goes_longer h),
        λ h. goes_longer ∙ m.2 h,
      )

  stays_behind : sample_at l + (running_placed r x).longer ≤ r.quanta → way_of l (running_placed r x) ≡ None
  stays_behind h =
      none_left (running_placed r x).quanta (sample_at l + (running_placed r x).longer) (let q = goes_quanta in omega arith)

  comes_near : (n : ℕ) → r.quanta ≢ sample_at l + (running_placed r x).longer → way_of l r ≡ Some n → (m : ℕ) × ((way_of l (running_placed r x) ≡ Some m) × (n ≤ suc m))
  comes_near n h e =
      let q = goes_quanta in
      let g = moved.0 in
      let f = left_is r.quanta (sample_at l + r.longer) n e in (
        suc (sample_at l + (running_placed r x).longer) - (running_placed r x).quanta,
        (some_left (running_placed r x).quanta (sample_at l + (running_placed r x).longer) (omega arith) (omega arith), omega arith),
      )

pub way_some : (l : Lengths) (past : List Seen) (n : ℕ) → quanta_to_sample l past ≡ Some n → 0 < n
way_some l past n e = (let f = left_is (clock_after l past).quanta (sample_at l + (clock_after l past).longer) n e in omega arith)

pub way_few : (l : Lengths) (past : List Seen) (n : ℕ) → quanta_to_sample l past ≡ Some n → n ≤ sample_at l
way_few l past n e =
    (let f = left_is (clock_after l past).quanta (sample_at l + (clock_after l past).longer) n e in let h = (bit_placed l past).longer in omega arith)

module _ (l : Lengths) (past : List Seen) (x : Seen) where
  abbrev r : Running
  r = clock_after l past

  way_next : quanta_to_sample l (past ++ x ∷ []) ≡ way_of l (running_after r x)
  way_next = ap (way_of l) (clock_next l past x)

  abbrev edge : Running
  edge = running_edge r

  pub way_start : beat_of l past x ≡ Start → (m : ℕ) × ((quanta_to_sample l (past ++ x ∷ []) ≡ Some m) × (least_way l ≤ m))
  way_start e = by_restart (running_restart edge x) refl
    where
      placed : IsPlaced l edge
      placed = edge_placed l r r.lengths.sync (bit_placed l past)

      by_restart : (b : Bool) → running_restart edge x ≡ b → (m : ℕ) × ((quanta_to_sample l (past ++ x ∷ []) ≡ Some m) × (least_way l ≤ m))
      by_restart true f = (let s = begun_start l edge x placed.lengths f in (s.0, (way_next ∙ s.1.0, s.1.1)))
      by_restart false f =
          let either = start_first _ _ _ (sym (beat_next l past x) ∙ e) in
          let first : ((running_after r x).quanta == 1) ≡ true = subst (λ b. (b || (running_after r x).quanta == 1) ≡ true) f either in
          (sample_at l, (way_next ∙ one_start l (running_after r x) (after_placed l r x (bit_placed l past)) (eqb-true (running_after r x).quanta 1 first), omega arith))

  -- a quantum that begins no bit
  abbrev pub BeginsNone : Type 0
  BeginsNone = (running_restart edge x || (running_after r x).quanta == 1) ≡ false

  pub on_due : BeginsNone → edge ≡ r
  on_due h = (let f = or_parts _ _ h in edge_not r.lengths.sync r (first_not edge x f.0 (eqb-false _ 1 f.1)))

  on_restart : BeginsNone → running_restart r x ≡ false
  on_restart h = subst (λ (q : Running). running_restart q x ≡ false) (on_due h) (or_parts _ _ h).0

  on_first : BeginsNone → (running_placed r x).quanta ≢ 1
  on_first h = subst (λ (q : Running). (running_placed q x).quanta ≢ 1) (on_due h) (eqb-false _ 1 (or_parts _ _ h).1)

  on_goes : BeginsNone → running_placed r x ≡ running_moved r (running_sync r x) false x.level
  on_goes h = goes_on r x (on_restart h) (on_first h)

  on_fresh : BeginsNone → running_sync r x ≡ true → r.synced ≡ false
  on_fresh h e = sync_fresh r x e (on_restart h)

  on_some : BeginsNone → r.quanta ≢ 0
  on_some h = first_not r x (on_restart h) (on_first h)

  -- and is the sample
  pub sampled_now : (level : Level) → beat_of l past x ≡ Sample level → BeginsNone × (r.quanta ≡ sample_at l + (running_placed r x).longer)
  sampled_now level e =
      let f = sample_here _ _ x.level level (sym (beat_next l past x) ∙ e) in
      (f.0, eqb-true r.quanta (sample_at l + (running_placed r x).longer) (subst (λ (q : Running). samples q (running_placed q x).longer ≡ true) (on_due f.0) f.1))

  pub way_sampled : (level : Level) → beat_of l past x ≡ Sample level → quanta_to_sample l past ≡ Some 1
  way_sampled level e =
      let f = sampled_now level e in
      let g = f.1 in
      let stays = (moved l r x (bit_placed l past) (on_goes f.0) (on_fresh f.0) (on_some f.0)).1 (omega arith) in
      some_left r.quanta (sample_at l + r.longer) (omega arith) (omega arith) ∙ ap Some (let h : suc (sample_at l + r.longer) - r.quanta ≡ 1 = omega arith in h)

  pub way_sample : (level : Level) → beat_of l past x ≡ Sample level → quanta_to_sample l (past ++ x ∷ []) ≡ None
  way_sample level e =
      let f = sampled_now level e in
      let g = f.1 in
      way_next ∙ ap (λ q. way_of l (running_placed q x)) (on_due f.0) ∙ stays_behind l r x (bit_placed l past) (on_goes f.0) (on_fresh f.0) (on_some f.0) (omega arith)

  plain_now : beat_of l past x ≡ Plain → BeginsNone × (r.quanta ≢ sample_at l + (running_placed r x).longer)
  plain_now e =
      let f = plain_here _ _ x.level (sym (beat_next l past x) ∙ e) in
      (f.0, eqb-false r.quanta (sample_at l + (running_placed r x).longer) (subst (λ (q : Running). samples q (running_placed q x).longer ≡ false) (on_due f.0) f.1))

  pub way_behind : beat_of l past x ≡ Plain → quanta_to_sample l past ≡ None → quanta_to_sample l (past ++ x ∷ []) ≡ None
  way_behind e none =
      let f = plain_now e in
      let some = on_some f.0 in
      let past_it = left_not r.quanta (sample_at l + r.longer) (omega arith) none in
      let stays = (moved l r x (bit_placed l past) (on_goes f.0) (on_fresh f.0) (on_some f.0)).2 past_it in
      way_next ∙ ap (λ q. way_of l (running_placed q x)) (on_due f.0) ∙ stays_behind l r x (bit_placed l past) (on_goes f.0) (on_fresh f.0) some (omega arith)

  pub way_near : (n : ℕ) → beat_of l past x ≡ Plain → quanta_to_sample l past ≡ Some n → (m : ℕ) × ((quanta_to_sample l (past ++ x ∷ []) ≡ Some m) × (n ≤ suc m))
  way_near n e some =
      let f = plain_now e in
      let near = comes_near l r x (bit_placed l past) (on_goes f.0) (on_fresh f.0) (on_some f.0) n f.1 some in
      (near.0, (way_next ∙ ap (λ q. way_of l (running_placed q x)) (on_due f.0) ∙ near.1.0, near.1.1))

found_near : (s : SyncRules) → found_by s ≤ 1
found_near After = omega arith
found_near Book = omega arith

pub way_least : (l : Lengths) → sample_at l ≤ suc (least_way l)
way_least l = (let f = found_near l.sync in omega arith)

-- before the first quantum
first_way : (l : Lengths) → 0 < l.ps2 → (s : SyncRules) → way_of l (running_at_first s l) ≡ None
first_way l h After = refl
first_way l h Book = none_left (bit_quanta l) (sample_at l + 0) (omega arith)

pub way_at_first : (l : Lengths) → AreLengths l → quanta_to_sample l [] ≡ None
way_at_first l h = ap (way_of l) (first_is l) ∙ first_way l (let low = h.ps2_low in omega arith) l.sync
