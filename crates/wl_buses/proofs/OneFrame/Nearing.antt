-- An edge, at stations that are close: each begins the bit by itself, or by the edge, as far as its jump width goes. So they are close again, but for the ticks that a jump leaves.
use Rattle.std.proofs.Common.{◌≡◌, ◌≢◌, ◌∙◌, ◌⊎◌, inl, inr, sym, ap, subst, ℕ, zero, suc, ◌+◌, ◌-◌, ◌<◌, ◌≤◌, Bool, true, arith}
use Rattle.std.proofs.lemmas.Bool.{cases_lt, cases_eq}
use Rattle.wl_phase.specs.Clocks.{steady_tick}
use Rattle.wl_phase.specs.Ways.{moved_to}
use Rattle.wl_buses.specs.OneFrame.Stations.{Stations, AreStations, AreClose, DriftFitsJump, FitsBut, HaveRoom, ReachesBy, with_longer_ways, shared_instant, bit_drift}
use Rattle.wl_buses.specs.OneFrame.Starts.{Start, Drives, BeginsAlone, FollowsSoft, BeginBit, AreAllowed, AreSenders, reaches_at}
use Rattle.wl_buses.proofs.OneFrame.Measures.{instant_more, ticks_by, exact_before, tick_next}
use Rattle.wl_buses.proofs.OneFrame.Starting.{IsAhead, followed, alone, no_more}
use Rattle.wl_phase.proofs.Callers.{few_of}

-- what moves to an aim by the jump at most, and doesn't get there
pub stays_above : (aim jump n : ℕ) → aim < moved_to aim jump n → n ≡ moved_to aim jump n + jump
stays_above aim jump n h = omega arith

pub stays_below : (aim jump n : ℕ) → moved_to aim jump n < aim → moved_to aim jump n ≡ n + jump
stays_below aim jump n h = omega arith

moves_down : (aim jump n : ℕ) → aim ≤ n → moved_to aim jump n ≤ n
moves_down aim jump n h = omega arith

module _ (s : Stations) (are : AreStations s) (more : ℕ → ℕ) (fits_but : FitsBut s more) (late_fits : DriftFitsJump s) (sends : ℕ → Bool) (since : ℕ) (few : since ≤ 10) (b : Start)
    (close : AreClose s sends since b.due) (senders : AreSenders s sends b) (allowed : AreAllowed s b.drives) (begin : BeginBit s b) where
  -- a station that drives the bit does so from its place 0 on, or later, and its bit was due no earlier
  pub from_by : (i : ℕ) → BeginsAlone s b i ⊎ FollowsSoft s b i → b.drives i ≡ true → b.place i ≤ b.from i
  from_by i (inl itself) dominant = let e = itself.from in omega arith
  from_by i (inr soft) dominant = soft.from_low dominant

  pub due_by : (i : ℕ) → BeginsAlone s b i ⊎ FollowsSoft s b i → b.drives i ≡ true → b.place i ≤ b.due i
  due_by i (inl itself) dominant = let e = itself.place in omega arith
  due_by i (inr soft) dominant =
      let e = soft.place in
      let early = soft.early dominant in
      let down = moves_down (soft.found - 1) (s.lengths i).sjw (b.due i) (omega arith) in
      omega arith

  -- the edge of k doesn't reach i before i has begun: i has found one by itself, has gone back to the edge that it found, or has gone its whole jump width back
  alone_ahead : (i k : ℕ) → i < s.count → Drives s b i k → BeginsAlone s b i → IsAhead s are more b allowed i k
  alone_ahead i k inside drives itself = (let first = itself.unfound k drives in exact_before s are i k inside drives.inside (b.place i) (b.from k) (s.delay k i + more i) (omega arith))

  near_ahead : (i k : ℕ) → i < s.count → Drives s b i k → (f : FollowsSoft s b i) → b.place i ≤ f.found - 1 → IsAhead s are more b allowed i k
  near_ahead i k inside drives f near =
      let later = f.finds.later in
      let unseen = f.finds.finds.unseen (f.found - 1) (omega arith) in
      let first = f.finds.first k drives in
      let up = tick_next s are i inside (b.place i) (f.found - 1) near in
      exact_before s are i k inside drives.inside (b.place i) (b.from k) (s.delay k i + more i) (omega arith)

  -- from a station that begins by itself
  jumped_alone : (i k : ℕ) → i < s.count → Drives s b i k → b.due i ≡ b.place i + (s.lengths i).sjw → BeginsAlone s b k → IsAhead s are more b allowed i k
  jumped_alone i k inside drives due itself =
      let there = drives.inside in
      let near = close i k inside there (λ e. drives.other (sym e)) (inr (senders k there drives.dominant)) in
      let fits = fits_but i k inside there (λ e. drives.other (sym e)) (allowed k there drives.dominant) in
      let drift = few_of since (bit_drift s i k) few in
      let jump = instant_more s are i k inside there (b.place i) (s.lengths i).sjw in
      let e : shared_instant s i k (b.due i) ≡ shared_instant s i k (b.place i + (s.lengths i).sjw) = ap (shared_instant s i k) due in
      let f : shared_instant s k i (b.from k) ≡ shared_instant s k i (b.due k) = ap (shared_instant s k i) (itself.from ∙ itself.place) in
      omega arith

  jumped_back : (i k : ℕ) → i < s.count → Drives s b i k → b.drives i ≡ true → reaches_at s b i k ≤ steady_tick (s.clocks k) (b.from k) → IsAhead s are more b allowed i k
  jumped_back i k inside drives dominant found =
      let there = drives.inside in
      let up = tick_next s are i inside (b.place i) (b.from i) (from_by i (begin i inside) dominant) in
      let way = are.line.later i k inside there in
      exact_before s are i k inside there (b.place i) (b.from k) (s.delay k i + more i) (omega arith)

  jumped_over : (i k w : ℕ) → i < s.count → Drives s b i k → w < s.count → IsAhead s are more b allowed i w → reaches_at s b w k ≤ steady_tick (s.clocks k) (b.from k) → IsAhead s are more b allowed i k
  jumped_over i k w inside drives third ahead found =
      let there = drives.inside in
      let by = ticks_by s are i w inside third (b.place i) (b.from w) (s.delay w i + more i) ahead in
      let detour = are.line.detours w k i third there inside in
      let loop = are.line.later k k there there in
      exact_before s are i k inside there (b.place i) (b.from k) (s.delay k i + more i) (omega arith)

  -- the edge of k goes back to one that began by itself
  jumped : (n i k : ℕ) → i < s.count → Drives s b i k → b.due i ≡ b.place i + (s.lengths i).sjw → steady_tick (s.clocks k) (b.from k) < n → IsAhead s are more b allowed i k
  jumped zero i k inside drives due less = absurd (omega arith)
  jumped (suc n) i k inside drives due less = elim (begin k drives.inside) [
    | inl itself ↦ jumped_alone i k inside drives due itself
    | inr soft ↦
        (let up = tick_next s are k drives.inside soft.found (b.from k) (soft.not_before drives.dominant) in
        let seen = soft.finds.finds.seen in
        let way = are.line.later soft.by k soft.finds.by.inside drives.inside in
        let found : reaches_at s b soft.by k ≤ steady_tick (s.clocks k) (b.from k) = omega arith in
        elim (cases_eq soft.by i) [
          | inl own ↦
              jumped_back i k inside drives (ap b.drives (sym own) ∙ soft.finds.by.dominant)
              (subst (λ w. reaches_at s b w k ≤ steady_tick (s.clocks k) (b.from k)) own found)
          | inr other ↦
              jumped_over i k soft.by inside drives soft.finds.by.inside
              (jumped n i soft.by inside (record { inside = soft.finds.by.inside; other = other; dominant = soft.finds.by.dominant }) due (omega arith)) found
        ])
  ]

  soft_ahead : (i k : ℕ) → i < s.count → Drives s b i k → FollowsSoft s b i → IsAhead s are more b allowed i k
  soft_ahead i k inside drives soft = elim (cases_lt (soft.found - 1) (b.place i)) [
    | inl above ↦
        (let place = soft.place in
        let due : b.due i ≡ b.place i + (s.lengths i).sjw = (let e = stays_above (soft.found - 1) (s.lengths i).sjw (b.due i) (omega arith) in omega arith) in
        jumped (suc (steady_tick (s.clocks k) (b.from k))) i k inside drives due (omega arith))
    | inr near ↦ near_ahead i k inside drives soft near
  ]

  pub ahead_by : (i k : ℕ) → i < s.count → Drives s b i k → BeginsAlone s b i ⊎ FollowsSoft s b i → IsAhead s are more b allowed i k
  ahead_by i k inside drives (inl itself) = alone_ahead i k inside drives itself
  ahead_by i k inside drives (inr soft) = soft_ahead i k inside drives soft

  -- a station that goes its whole jump width forward drives recessive
  forward : (i k : ℕ) → i < s.count → k < s.count → i ≢ k → b.drives i ≡ true → b.place k ≡ b.due k + (s.lengths k).sjw → ReachesBy (with_longer_ways s more) 0 i k (b.place i) (b.place k)
  forward i k inside there other dominant place =
      let near = close i k inside there other (inl (senders i inside dominant)) in
      let fits = late_fits k i there inside (λ e. other (sym e)) (allowed i inside dominant) in
      let drift = few_of since (bit_drift s i k) few in
      let due = due_by i (begin i inside) dominant in
      let own : b.place i + (b.due i - b.place i) ≡ b.due i = omega arith in
      let down = instant_more s are i k inside there (b.place i) (b.due i - b.place i) in
      let e : shared_instant s i k (b.place i + (b.due i - b.place i)) ≡ shared_instant s i k (b.due i) = ap (shared_instant s i k) own in
      let jump = instant_more s are k i there inside (b.due k) (s.lengths k).sjw in
      let f : shared_instant s k i (b.place k) ≡ shared_instant s k i (b.due k + (s.lengths k).sjw) = ap (shared_instant s k i) place in
      omega arith

  may_either : (i k : ℕ) → i < s.count → k < s.count → (b.drives i ≡ true) ⊎ (b.drives k ≡ true) → (s.may_send i ≡ true) ⊎ (s.may_send k ≡ true)
  may_either i k inside there (inl own) = inl (allowed i inside own)
  may_either i k inside there (inr theirs) = inr (allowed k there theirs)

  pair : (i k : ℕ) → i < s.count → k < s.count → i ≢ k → (b.drives i ≡ true) ⊎ (b.drives k ≡ true) → BeginsAlone s b k ⊎ FollowsSoft s b k
      → ReachesBy (with_longer_ways s more) 0 i k (b.place i) (b.place k)
  pair i k inside there other some (inl itself) =
      alone s are more b allowed i k inside there other itself.dominant
      (ahead_by i k inside (record { inside = there; other = λ e. other (sym e); dominant = itself.dominant }) (begin i inside)) itself.from
  pair i k inside there other some (inr soft) = elim (cases_lt (suc (b.place k)) soft.found) [
    | inl below ↦
        (let place = soft.place in
        let moved : b.place k ≡ b.due k + (s.lengths k).sjw = (let e = stays_below (soft.found - 1) (s.lengths k).sjw (b.due k) (omega arith) in omega arith) in
        elim some [
          | inl own ↦ forward i k inside there other own moved
          | inr theirs ↦ (let early = soft.early theirs in absurd (omega arith))
        ])
    | inr near ↦
        (let up = tick_next s are k there soft.found (suc (b.place k)) near in
        let seen = soft.finds.finds.seen in
        followed s are more b allowed i k inside there (other, may_either i k inside there some) (λ w drives. ahead_by i w inside drives (begin i inside)) (from_by i (begin i inside))
        (record { by = soft.by; drives = soft.finds.by; found = omega arith }))
  ]

  pub bit_later : AreClose (with_longer_ways s more) b.drives 0 b.place
  bit_later i k inside there other some = pair i k inside there other some (begin k there)

-- with the room that the condition gives no tick is left
pub fits_all : (s : Stations) → HaveRoom s → FitsBut s no_more
fits_all s room i k inside there other may = (let fits = room.early_fits i k inside there other may in omega arith)

pub bit_close : (s : Stations) → AreStations s → HaveRoom s → (sends : ℕ → Bool) (since : ℕ) → since ≤ 10 → (b : Start) → AreClose s sends since b.due → AreSenders s sends b
    → AreAllowed s b.drives → BeginBit s b → AreClose s b.drives 0 b.place
bit_close s are room sends since few b close senders allowed begin i k inside there other some =
    let near = bit_later s are no_more (fits_all s room) room.samples.late_fits sends since few b close senders allowed begin i k inside there other some in
    omega arith
