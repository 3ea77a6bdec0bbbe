-- How far apart a bit begins at two stations, by how it begins at each.
use Rattle.std.proofs.Common.{◌≡◌, ◌≢◌, ◌∙◌, ◌⊎◌, inl, inr, sym, ap, subst, ℕ, suc, ◌+◌, ◌*◌, ◌<◌, ◌≤◌, true, arith}
use Rattle.std.proofs.lemmas.Bool.{cases_eq}
use Rattle.std.proofs.Math.Nat.{mul-le-mul_left}
use Rattle.wl_phase.specs.Clocks.{steady_tick}
use Rattle.wl_buses.specs.OneFrame.Stations.{Stations, AreStations, AreClose, ReachesBy, IsPair, with_longer_ways, shared_tick, shared_quantum, shared_instant}
use Rattle.wl_buses.specs.OneFrame.Starts.{Start, Drives, AreAllowed, BeginsAlone, FollowsHard, BeginFrame, reaches_at}
use Rattle.wl_buses.proofs.OneFrame.Measures.{same_tick, instant_low, instant_high, instant_more, ticks_by, exact_before, tick_next}

-- A bit of station i may begin so many ticks after the edge that it should have followed.
module _ (s : Stations) (are : AreStations s) (more : ℕ → ℕ) (b : Start) (allowed : AreAllowed s b.drives) where
  -- the bit of k reaches i after that one's own has begun, but for these ticks, in exact instants
  abbrev pub IsAhead : (i k : ℕ) → Type 0
  IsAhead i k = shared_instant s i k (b.place i) < shared_instant s k i (b.from k) + (s.delay k i + more i) * shared_tick s i k

  -- it follows the bit of w, and begins no more than a quantum ahead of it
  pub record Follows (k : ℕ) : Type 0 where
    pub by : ℕ
    pub drives : Drives s b k by
    pub found : reaches_at s b by k ≤ steady_tick (s.clocks k) (suc (b.place k))

  -- a station that drives begins to do so with place 0 of its bit, or later
  abbrev pub IsFrom : ℕ → Type 0
  IsFrom i = b.drives i ≡ true → b.place i ≤ b.from i

  -- where k follows the edge of a third station
  over : (i k w : ℕ) → i < s.count → k < s.count → IsPair s i k → Drives s b i w → w ≢ k → steady_tick (s.clocks i) (b.place i) ≤ reaches_at s b w i + more i
      → reaches_at s b w k ≤ steady_tick (s.clocks k) (suc (b.place k)) → ReachesBy (with_longer_ways s more) 0 i k (b.place i) (b.place k)
  over i k w inside there pair drives apart ahead found =
      let way = are.ways.over i k w inside there drives.inside pair drives.other apart (allowed w drives.inside drives.dominant) in
      let ticks : steady_tick (s.clocks i) (b.place i) + s.delay w k ≤ steady_tick (s.clocks k) (suc (b.place k)) + s.delay w i + more i = omega arith in
      let high = instant_high s are i k inside there (b.place i) in
      let low = instant_low s are k i there inside (suc (b.place k)) in
      let one = instant_more s are k i there inside (b.place k) 1 in
      let place : b.place k + 1 ≡ suc (b.place k) = omega arith in
      let next : shared_instant s k i (suc (b.place k)) ≡ shared_instant s k i (b.place k) + 1 * shared_quantum s k i = ap (shared_instant s k i) (sym place) ∙ one in
      let same = same_tick s are i k inside there in
      let m : shared_tick s i k * (steady_tick (s.clocks i) (b.place i) + s.delay w k) ≤ shared_tick s i k * (steady_tick (s.clocks k) (suc (b.place k)) + s.delay w i + more i) = mul-le-mul_left (shared_tick s i k) ticks in
      let e : shared_tick s k i * steady_tick (s.clocks k) (suc (b.place k)) ≡ shared_tick s i k * steady_tick (s.clocks k) (suc (b.place k)) = ap (λ t. t * steady_tick (s.clocks k) (suc (b.place k))) same in
      omega arith

  -- where it follows that of i
  back : (i k : ℕ) → i < s.count → k < s.count → IsPair s i k → b.drives i ≡ true → b.place i ≤ b.from i
      → reaches_at s b i k ≤ steady_tick (s.clocks k) (suc (b.place k)) → ReachesBy (with_longer_ways s more) 0 i k (b.place i) (b.place k)
  back i k inside there pair dominant late found =
      let way = are.ways.straight i k inside there pair (allowed i inside dominant) in
      let up = tick_next s are i inside (b.place i) (b.from i) late in
      let ticks : steady_tick (s.clocks i) (b.place i) + s.delay i k ≤ steady_tick (s.clocks k) (suc (b.place k)) = omega arith in
      let high = instant_high s are i k inside there (b.place i) in
      let low = instant_low s are k i there inside (suc (b.place k)) in
      let one = instant_more s are k i there inside (b.place k) 1 in
      let place : b.place k + 1 ≡ suc (b.place k) = omega arith in
      let next : shared_instant s k i (suc (b.place k)) ≡ shared_instant s k i (b.place k) + 1 * shared_quantum s k i = ap (shared_instant s k i) (sym place) ∙ one in
      let same = same_tick s are i k inside there in
      let m : shared_tick s i k * (steady_tick (s.clocks i) (b.place i) + s.delay i k) ≤ shared_tick s i k * steady_tick (s.clocks k) (suc (b.place k)) = mul-le-mul_left (shared_tick s i k) ticks in
      let e : shared_tick s k i * steady_tick (s.clocks k) (suc (b.place k)) ≡ shared_tick s i k * steady_tick (s.clocks k) (suc (b.place k)) = ap (λ t. t * steady_tick (s.clocks k) (suc (b.place k))) same in
      omega arith

  -- of a station that follows an edge
  pub followed_one : (i k : ℕ) → i < s.count → k < s.count → IsPair s i k → IsFrom i → (follows : Follows k) → (follows.by ≢ i → IsAhead i follows.by)
      → ReachesBy (with_longer_ways s more) 0 i k (b.place i) (b.place k)
  followed_one i k inside there pair late follows ahead = elim (cases_eq follows.by i) [
    | inl own ↦
        (let found : reaches_at s b i k ≤ steady_tick (s.clocks k) (suc (b.place k)) = subst (λ w. reaches_at s b w k ≤ steady_tick (s.clocks k) (suc (b.place k))) own follows.found in
        (let dominant = ap b.drives (sym own) ∙ follows.drives.dominant in back i k inside there pair dominant (late dominant) found))
    | inr other ↦
        (let third = follows.drives.inside in
        let by = ticks_by s are i follows.by inside third (b.place i) (b.from follows.by) (s.delay follows.by i + more i) (ahead other) in
        over i k follows.by inside there pair (record { inside = third; other = other; dominant = follows.drives.dominant }) follows.drives.other (omega arith) follows.found)
  ]

  pub followed : (i k : ℕ) → i < s.count → k < s.count → IsPair s i k → ((w : ℕ) → Drives s b i w → IsAhead i w) → IsFrom i → Follows k
      → ReachesBy (with_longer_ways s more) 0 i k (b.place i) (b.place k)
  followed i k inside there pair ahead late follows =
      followed_one i k inside there pair late follows
      (λ other. ahead follows.by (record { inside = follows.drives.inside; other = other; dominant = follows.drives.dominant }))

  -- and of one that begins by itself
  pub alone : (i k : ℕ) → i < s.count → k < s.count → i ≢ k → b.drives k ≡ true → IsAhead i k → b.from k ≡ b.place k → ReachesBy (with_longer_ways s more) 0 i k (b.place i) (b.place k)
  alone i k inside there other dominant ahead from =
      let may = allowed k there dominant in
      let way = are.ways.there_and_back i k inside there (other, inr may) may in
      let e : shared_instant s k i (b.from k) ≡ shared_instant s k i (b.place k) = ap (shared_instant s k i) from in
      omega arith

-- none
abbrev pub no_more : ℕ → ℕ
no_more = λ i. 0

-- the start of frame
module _ (s : Stations) (are : AreStations s) (b : Start) (allowed : AreAllowed s b.drives) where
  hard_ahead : (i k : ℕ) → i < s.count → Drives s b i k → BeginsAlone s b i ⊎ FollowsHard s b i → steady_tick (s.clocks i) (b.place i) < reaches_at s b k i
  hard_ahead i k inside drives (inl itself) = itself.unfound k drives
  hard_ahead i k inside drives (inr hard) =
      let found = hard.finds.finds.unseen (b.place i) (let p = hard.place in omega arith) in
      let first = hard.finds.first k drives in
      omega arith

  hard_from : (i : ℕ) → BeginsAlone s b i ⊎ FollowsHard s b i → b.place i ≤ b.from i
  hard_from i (inl itself) = let e = itself.from in omega arith
  hard_from i (inr hard) = let e = hard.from in let p = hard.place in omega arith

  hard_pair : (i k : ℕ) → i < s.count → k < s.count → IsPair s i k → BeginFrame s b → BeginsAlone s b k ⊎ FollowsHard s b k → ReachesBy s 0 i k (b.place i) (b.place k)
  hard_pair i k inside there pair begin (inl itself) =
      let ahead =
      exact_before s are i k inside there (b.place i) (b.from k) (s.delay k i)
      (hard_ahead i k inside (record { inside = there; other = λ e. pair.0 (sym e); dominant = itself.dominant }) (begin i inside)) in
      let near = alone s are no_more b allowed i k inside there pair.0 itself.dominant (omega arith) itself.from in
      omega arith
  hard_pair i k inside there pair begin (inr hard) =
      let near =
      followed s are no_more b allowed i k inside there pair
      (λ w drives. (let ahead = exact_before s are i w inside drives.inside (b.place i) (b.from w) (s.delay w i) (hard_ahead i w inside drives (begin i inside)) in omega arith))
      (λ dominant. hard_from i (begin i inside))
      (record {
        by = hard.by;
        drives = hard.finds.by;
        found = (let seen = hard.finds.finds.seen in
            let e : steady_tick (s.clocks k) hard.found ≡ steady_tick (s.clocks k) (suc (b.place k)) = ap (steady_tick (s.clocks k)) (sym hard.place) in
            omega arith);
      }) in
      omega arith

  pub frame_close : BeginFrame s b → AreClose s s.may_send 0 b.place
  frame_close begin i k inside there other some = hard_pair i k inside there (other, some) begin (begin k there)
