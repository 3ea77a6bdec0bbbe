-- Any two stations of a frame, also if neither sends: the way between them, and what gathers while both follow the edges of others.
use Rattle.std.proofs.Common.{◌≡◌, ◌≢◌, ◌∙◌, ◌⊎◌, inl, inr, refl, sym, ap, subst, ℕ, zero, suc, ◌+◌, ◌-◌, ◌*◌, ◌<◌, ◌≤◌, Bool, true, false, not, cond, max, ◌||◌, arith}
use Rattle.std.specs.Prelude.{◌==◌}
use Rattle.std.proofs.lemmas.Bool.{and_parts, cases_eq, cases_lt, cases_Bool, ne_eqb}
use Rattle.std.proofs.lemmas.Grind.{div_ceil_times}
use Rattle.std.proofs.Math.Nat.{mul-le-mul_left, mul-le-mul_right}
use Rattle.wl_bound.specs.Terms.{greatest}
use Rattle.wl_segments.specs.Lengths.{bit_quanta}
use Rattle.wl_topology.specs.Driven.{DrivenLaws}
use Rattle.wl_phase.specs.Clocks.{steady_tick}
use Rattle.wl_phase.specs.Ways.{moved_to}
use Rattle.wl_buses.specs.OneFrame.Stations.{Stations, AreStations, AreClose, AreOnALine, FitsBut, HaveRoom, HaveWays, ReachesBy, bit_drift, shared_tick, shared_quantum, shared_instant}
use Rattle.wl_buses.specs.OneFrame.Starts.{Start, Drives, AreAllowed, AreSenders, BeginBit, BeginFrame, BeginsAlone, FindsFirst, FollowsHard, FollowsSoft}
use Rattle.wl_buses.specs.OneFrame.Course.{IsCourse, begins_with_edge, bus_bit, since_edge, still_sends}
use Rattle.wl_buses.specs.OneFrame.Acknowledged.{AreAllClose, CatchUp, answering, answering_by, any_way, chased_way, gathered_by, gathered_way, gathers, jump_gap, most_overrun, overrun}
use Rattle.wl_buses.proofs.OneFrame.Measures.{exact_before, some_tick, instant_high, instant_low, instant_more, same_tick, tick_next}
use Rattle.wl_buses.proofs.OneFrame.Nearing.{ahead_by, due_by, fits_all, from_by, stays_below}
use Rattle.wl_buses.proofs.OneFrame.Passing as passing
use Rattle.wl_buses.proofs.BothProofs.Small.{greatest_each}
use Rattle.wl_buses.proofs.OneFrame.Starting.{alone, followed, frame_close, no_more}
use Rattle.wl_phase.proofs.Callers.{few_of}

-- such ways are as long as an edge takes
module _ (s : Stations) (line : AreOnALine s) (late : ℕ → ℕ → ℕ) (long : (k i : ℕ) → any_way s k i ≤ late k i) where
  over : (i k a : ℕ) → i < s.count → k < s.count → a < s.count
      → (s.delay a i + s.delay i k) * shared_tick s i k + shared_quantum s k i + shared_tick s i k ≤ late k i + s.delay a k * shared_tick s i k
  over i k a inside there third =
      let enough = long k i in
      let detour = line.detours a k i third there inside in
      let m : shared_tick s i k * (s.delay a i + s.delay k k) ≤ shared_tick s i k * (s.delay a k + s.delay k i) = mul-le-mul_left (shared_tick s i k) detour in
      omega arith

  straight : (i k : ℕ) → i < s.count → k < s.count → shared_quantum s k i + shared_tick s i k ≤ late k i
  straight i k inside there =
      let enough = long k i in
      let detour = line.detours k i k there inside there in
      let m : shared_tick s i k * (s.delay k k + s.delay i i) ≤ shared_tick s i k * (s.delay k i + s.delay i k) = mul-le-mul_left (shared_tick s i k) detour in
      omega arith

  on_a_line : AreOnALine (answering s late)
  on_a_line = record { steady = line.steady; book = line.book; later = line.later; detours = line.detours }

  pub any_stations : AreStations (answering s late)
  any_stations = record {
    line = on_a_line;
    ways = record {
      there_and_back = λ i k inside there pair may. (let enough = long k i in omega arith);
      over = λ i k a inside there third pair apart other may. over i k a inside there third;
      straight = λ i k inside there pair may. straight i k inside there;
    };
  }

pub answering_stations : (s : Stations) → AreOnALine s → (answers : ℕ → Bool) (way : ℕ → ℕ → ℕ) → HaveWays (answering_by s answers way) → AreStations (answering_by s answers way)
answering_stations s line answers way ways =
    record { line = record { steady = line.steady; book = line.book; later = line.later; detours = line.detours }; ways = ways }

longer : (a b c d : ℕ) → a ≤ max a b + c + d
longer a b c d = omega arith

pub gathered_stations : (s : Stations) → AreOnALine s → (winner : ℕ) → (chase : ℕ → ℕ) → AreStations (answering s (gathered_way s winner chase))
gathered_stations s line winner chase =
    any_stations s line (gathered_way s winner chase) (λ k i. (let h = longer (any_way s k i) (s.way k i) (gathers s winner chase k i) 0 in omega arith))

pub chased_stations : (s : Stations) → AreOnALine s → (winner : ℕ) → (chase : ℕ → ℕ) → AreStations (answering s (chased_way s winner chase))
chased_stations s line winner chase =
    any_stations s line (chased_way s winner chase)
    (λ k i. longer (any_way s k i) (s.way k i) (gathers s winner chase k i) (most_overrun s winner chase i * shared_tick s i k))

-- the most that a jump leaves is enough
pub fits_but : (s : Stations) → AreOnALine s → (winner : ℕ) → (chase : ℕ → ℕ) → FitsBut (answering s (gathered_way s winner chase)) (most_overrun s winner chase)
unfolding most_overrun
fits_but s line winner chase i k inside there other may =
    let some = some_tick (answering s (gathered_way s winner chase)) (gathered_stations s line winner chase) i k inside there in
    let lack : ℕ =
    gathered_way s winner chase k i + 10 * bit_drift s i k - ((s.delay k i + s.delay i k) * shared_tick s i k + (s.lengths i).sjw * shared_quantum s i k) in
    let upper : lack ≤ overrun s winner chase i k * shared_tick s i k = (div_ceil_times lack (shared_tick s i k) some).0 in
    let each = greatest_each s.count (λ a. not (a == i)) (overrun s winner chase i) k there (ap not (ne_eqb k i (λ e. other (sym e)))) in
    let all : overrun s winner chase i k * shared_tick s i k ≤ greatest s.count (λ a. not (a == i)) (overrun s winner chase i) * shared_tick s i k = mul-le-mul_right (shared_tick s i k) each in
    omega arith

-- close before an edge is close enough after it
pub closer : (s : Stations) (winner : ℕ) (chase : ℕ → ℕ) (since : ℕ) (place : ℕ → ℕ) → AreAllClose s (gathered_way s winner chase) since place
    → AreAllClose s (chased_way s winner chase) since place
closer s winner chase since place close i k inside there other some = (let near = close i k inside there other some in omega arith)

-- between two others so much gathers
pub gathers_is : (s : Stations) (winner : ℕ) (chase : ℕ → ℕ) (k i : ℕ) → i ≢ winner → k ≢ winner → gathers s winner chase k i ≡ chase k * (10 * bit_drift s i k + jump_gap s i k)
gathers_is s winner chase k i other apart = ap (λ b. cond (b || k == winner) 0 (chase k * (10 * bit_drift s i k + jump_gap s i k))) (ne_eqb i winner other)
    ∙ ap (λ b. cond b 0 (chase k * (10 * bit_drift s i k + jump_gap s i k))) (ne_eqb k winner apart)

-- how a bit begins, at the same stations
module _ (s : Stations) (answers : ℕ → Bool) (late : ℕ → ℕ → ℕ) (b : Start) where
  abbrev t : Stations
  t = answering_by s answers late

  pub there_drives : (i k : ℕ) → Drives s b i k → Drives t b i k
  there_drives i k h = record { inside = h.inside; other = h.other; dominant = h.dominant }

  pub back_drives : (i k : ℕ) → Drives t b i k → Drives s b i k
  back_drives i k h = record { inside = h.inside; other = h.other; dominant = h.dominant }

  there_finds : (i k found : ℕ) → FindsFirst s b i k found → FindsFirst t b i k found
  there_finds i k found h = record { by = there_drives i k h.by; later = h.later; finds = h.finds; first = λ w drives. h.first w (back_drives i w drives) }

  there_alone : (i : ℕ) → BeginsAlone s b i → BeginsAlone t b i
  there_alone i h = record { dominant = h.dominant; place = h.place; from = h.from; unfound = λ k drives. h.unfound k (back_drives i k drives) }

  there_soft : (i : ℕ) → FollowsSoft s b i → FollowsSoft t b i
  there_soft i h = record {
    by = h.by;
    found = h.found;
    finds = there_finds i h.by h.found h.finds;
    place = h.place;
    early = h.early;
    from_low = h.from_low;
    from_high = h.from_high;
    not_before = h.not_before;
  }

  pub begin_there : BeginBit s b → BeginBit t b
  begin_there begin i inside = elim (begin i inside) [
    | inl itself ↦ inl (there_alone i itself)
    | inr soft ↦ inr (there_soft i soft)
  ]

  there_hard : (i : ℕ) → FollowsHard s b i → FollowsHard t b i
  there_hard i h = record { by = h.by; found = h.found; finds = there_finds i h.by h.found h.finds; place = h.place; from = h.from }

  pub begin_frame : BeginFrame s b → BeginFrame t b
  begin_frame begin i inside = elim (begin i inside) [
    | inl itself ↦ inl (there_alone i itself)
    | inr hard ↦ inr (there_hard i hard)
  ]

-- one edge more
module _ (s : Stations) (are : AreStations s) (room : HaveRoom s) (sends : ℕ → Bool) (since : ℕ) (few : since ≤ 10) (b : Start)
    (close : AreClose s sends since b.due) (senders : AreSenders s sends b) (allowed : AreAllowed s b.drives) (begin : BeginBit s b)
    (answers : ℕ → Bool) (way : ℕ → ℕ → ℕ) (ways : HaveWays (answering_by s answers way)) (speaks : (k : ℕ) → k < s.count → s.may_send k ≡ true → answers k ≡ true) where
  abbrev u : Stations
  u = answering_by s answers way

  them : AreStations u
  them = answering_stations s are.line answers way ways

  heard : AreAllowed u b.drives
  heard k there e = speaks k there (allowed k there e)

  abbrev pub OneAnswers : ℕ → ℕ → Type 0
  OneAnswers i k = (answers i ≡ true) ⊎ (answers k ≡ true)

  moves_by : (aim jump n : ℕ) → moved_to aim jump n ≤ n + jump
  moves_by aim jump n = omega arith

  place_by : (i : ℕ) → BeginsAlone s b i ⊎ FollowsSoft s b i → b.place i ≤ b.due i + (s.lengths i).sjw
  place_by i (inl itself) = let e = itself.place in omega arith
  place_by i (inr soft) = let e = soft.place in let h = moves_by (soft.found - 1) (s.lengths i).sjw (b.due i) in omega arith

  -- a station is near the edge that it follows, or goes forward by its whole jump width and isn't there yet
  pub record IsForward (k : ℕ) : Type 0 where
    pub soft : FollowsSoft s b k
    pub below : suc (b.place k) < soft.found
    pub moved : b.place k ≡ b.due k + (s.lengths k).sjw

  abbrev pub IsNear : ℕ → Type 0
  IsNear k = (i : ℕ) → i < s.count → i ≢ k → OneAnswers i k → ReachesBy u 0 i k (b.place i) (b.place k)

  alone_near : (i k : ℕ) → i < s.count → k < s.count → i ≢ k → BeginsAlone s b k → ReachesBy u 0 i k (b.place i) (b.place k)
  alone_near i k inside there other itself =
      let near =
      alone u them no_more b heard i k inside there other itself.dominant
      (ahead_by s are no_more (fits_all s room) room.samples.late_fits sends since few b close senders allowed begin i k inside (record { inside = there; other = λ e. other (sym e); dominant = itself.dominant }) (begin i inside)) itself.from in
      omega arith

  soft_near : (i k : ℕ) → i < s.count → k < s.count → i ≢ k → OneAnswers i k → (soft : FollowsSoft s b k) → soft.found ≤ suc (b.place k) → ReachesBy u 0 i k (b.place i) (b.place k)
  soft_near i k inside there other some soft near_it =
      let up = tick_next s are k there soft.found (suc (b.place k)) near_it in
      let seen = soft.finds.finds.seen in
      let close_to =
      followed u them no_more b heard i k inside there (other, some)
      (λ w drives. ahead_by s are no_more (fits_all s room) room.samples.late_fits sends since few b close senders allowed begin i w inside (back_drives s answers way b i w drives) (begin i inside))
      (from_by s are no_more (fits_all s room) room.samples.late_fits sends since few b close senders allowed begin i (begin i inside))
      (record { by = soft.by; drives = record { inside = soft.finds.by.inside; other = soft.finds.by.other; dominant = soft.finds.by.dominant }; found = omega arith }) in
      omega arith

  pub near_or_forward : (k : ℕ) → k < s.count → IsNear k ⊎ IsForward k
  near_or_forward k there = elim (begin k there) [
    | inl itself ↦ inl (λ i inside other some. alone_near i k inside there other itself)
    | inr soft ↦ elim (cases_lt (suc (b.place k)) soft.found) [
      | inl below ↦
          inr (record {
            soft = soft;
            below = below;
            moved = (let place = soft.place in let e = stays_below (soft.found - 1) (s.lengths k).sjw (b.due k) (omega arith) in omega arith);
          })
      | inr near_it ↦ inl (λ i inside other some. soft_near i k inside there other some soft near_it)
    ]
  ]

  -- it drives recessive then
  pub forward_recessive : (k : ℕ) → IsForward k → b.drives k ≡ true → ⊥
  forward_recessive k h e = let early = h.soft.early e in let below = h.below in let moved = h.moved in omega arith

  -- both go forward: what any other one gains by it
  pub forward_by : (i k way : ℕ) → i < s.count → k < s.count → IsForward k
      → shared_instant s i k (b.due i) + s.delay i k * shared_tick s i k < shared_instant s k i (b.due k) + way
      → shared_instant s i k (b.place i) + s.delay i k * shared_tick s i k < shared_instant s k i (b.place k) + way + jump_gap s i k
  forward_by i k way inside there h was =
      let by = place_by i (begin i inside) in
      let own : b.place i + (b.due i + (s.lengths i).sjw - b.place i) ≡ b.due i + (s.lengths i).sjw = omega arith in
      let up = instant_more s are i k inside there (b.place i) (b.due i + (s.lengths i).sjw - b.place i) in
      let e : shared_instant s i k (b.place i + (b.due i + (s.lengths i).sjw - b.place i)) ≡ shared_instant s i k (b.due i + (s.lengths i).sjw) = ap (shared_instant s i k) own in
      let mine = instant_more s are i k inside there (b.due i) (s.lengths i).sjw in
      let theirs = instant_more s are k i there inside (b.due k) (s.lengths k).sjw in
      let f : shared_instant s k i (b.place k) ≡ shared_instant s k i (b.due k + (s.lengths k).sjw) = ap (shared_instant s k i) h.moved in
      omega arith

  -- one that drives the bit dominant gains nothing
  pub forward_to : (w k more way : ℕ) → w < s.count → k < s.count → b.drives w ≡ true → IsForward k
      → shared_instant s w k (b.due w) + s.delay w k * shared_tick s w k + more < shared_instant s k w (b.due k) + way
      → shared_instant s w k (b.place w) + s.delay w k * shared_tick s w k + more + (s.lengths k).sjw * shared_quantum s k w < shared_instant s k w (b.place k) + way
  forward_to w k more way inside there dominant h was =
      let by = due_by s are no_more (fits_all s room) room.samples.late_fits sends since few b close senders allowed begin w (begin w inside) dominant in
      let own : b.place w + (b.due w - b.place w) ≡ b.due w = omega arith in
      let up = instant_more s are w k inside there (b.place w) (b.due w - b.place w) in
      let e : shared_instant s w k (b.place w + (b.due w - b.place w)) ≡ shared_instant s w k (b.due w) = ap (shared_instant s w k) own in
      let theirs = instant_more s are k w there inside (b.due k) (s.lengths k).sjw in
      let f : shared_instant s k w (b.place k) ≡ shared_instant s k w (b.due k + (s.lengths k).sjw) = ap (shared_instant s k w) h.moved in
      omega arith

  -- it is more than a quantum early for that one still
  still_by : (w k : ℕ) → w < s.count → k < s.count → steady_tick (s.clocks k) (suc (b.place k)) + s.delay w w < steady_tick (s.clocks w) (suc (b.place w)) + s.delay w k
      → shared_instant s k w (suc (b.place k)) + s.delay w w * shared_tick s w k < shared_instant s w k (suc (b.place w)) + s.delay w k * shared_tick s w k
  still_by w k inside there less =
      let high = instant_high s are k w there inside (suc (b.place k)) in
      let low = instant_low s are w k inside there (suc (b.place w)) in
      let same = same_tick s are k w there inside in
      let m : shared_tick s w k * suc (steady_tick (s.clocks k) (suc (b.place k)) + s.delay w w) ≤ shared_tick s w k * (steady_tick (s.clocks w) (suc (b.place w)) + s.delay w k) = mul-le-mul_left (shared_tick s w k) less in
      let e : shared_tick s k w * steady_tick (s.clocks k) (suc (b.place k)) ≡ shared_tick s w k * steady_tick (s.clocks k) (suc (b.place k)) = ap (λ x. x * steady_tick (s.clocks k) (suc (b.place k))) (sym same) in
      omega arith

  next_quantum : (i k n : ℕ) → i < s.count → k < s.count → shared_instant s i k (suc n) ≡ shared_instant s i k n + shared_quantum s i k
  next_quantum i k n inside there =
      let one = instant_more s are i k inside there n 1 in
      let place : n + 1 ≡ suc n = omega arith in
      let e : shared_instant s i k (suc n) ≡ shared_instant s i k (n + 1) = ap (shared_instant s i k) (sym place) in
      omega arith

  pub still_early : (w k : ℕ) → w < s.count → k < s.count → w ≢ k → b.drives w ≡ true → IsForward k
      → shared_instant s k w (b.place k) + shared_quantum s k w < shared_instant s w k (b.place w) + s.delay w k * shared_tick s w k + (shared_quantum s w k - s.delay w w * shared_tick s w k)
  still_early w k inside there other dominant h =
      let unseen = h.soft.finds.finds.unseen (suc (b.place k)) h.below in
      let mine = next_quantum k w (b.place k) there inside in
      elim (begin w inside) [
        | inl itself ↦
            (let first = h.soft.finds.first w (record { inside = inside; other = other; dominant = dominant }) in
            let exact = exact_before s are k w there inside (suc (b.place k)) (b.from w) (s.delay w k) (omega arith) in
            let same = same_tick s are k w there inside in
            let e : shared_instant s w k (b.from w) ≡ shared_instant s w k (b.place w) = ap (shared_instant s w k) itself.from in
            let d : s.delay w k * shared_tick s k w ≡ s.delay w k * shared_tick s w k = ap (λ x. s.delay w k * x) (sym same) in
            omega arith)
        | inr soft ↦
            (let third = soft.finds.by.inside in
            let not_it : soft.by ≢ k = (λ e. forward_recessive k h (subst (λ v. b.drives v ≡ true) e soft.finds.by.dominant)) in
            let first = h.soft.finds.first soft.by (record { inside = third; other = not_it; dominant = soft.finds.by.dominant }) in
            let seen = soft.finds.finds.seen in
            let early = soft.early dominant in
            let place = soft.place in
            let down = moves_to (soft.found - 1) (s.lengths w).sjw (b.due w) (omega arith) in
            let later = soft.finds.later in
            let up = tick_next s are w inside soft.found (suc (b.place w)) (omega arith) in
            let detour = are.line.detours soft.by w k third inside there in
            let exact = still_by w k inside there (omega arith) in
            let theirs = next_quantum w k (b.place w) inside there in
            omega arith)
      ]
    where
      moves_to : (aim jump n : ℕ) → aim ≤ n → aim ≤ moved_to aim jump n
      moves_to aim jump n h = omega arith

module _ (s : Stations) (are : AreStations s) (room : HaveRoom s) (bits : ℕ → Start) (drove : ℕ → ℕ → Bool) (length : ℕ) (until : ℕ → ℕ)
    (is : IsCourse s bits drove length until) (laws : DrivenLaws) (winner : ℕ) (inside : winner < s.count) (wins : still_sends s bits length winner ≡ true)
    (chase : ℕ → ℕ) (catch : CatchUp s winner chase)
    (answers : ℕ → Bool) (way : ℕ → ℕ → ℕ) (ways : HaveWays (answering_by s answers way)) (speaks : (k : ℕ) → k < s.count → s.may_send k ≡ true → answers k ≡ true) where
  abbrev since : ℕ → ℕ
  since = since_edge s bits

  abbrev jump : ℕ → ℕ
  jump k = (s.lengths k).sjw * shared_quantum s k winner - 10 * bit_drift s winner k

  -- so many edges have moved station k forward since it was near the edge that it followed
  pub record IsChasing (n k edges : ℕ) : Type 0 where
    pub few : edges ≤ chase k
    pub early : k ≢ winner → shared_instant s winner k ((bits n).place winner) + s.delay winner k * shared_tick s winner k + edges * jump k
        < shared_instant s k winner ((bits n).place k) + s.way k winner + since n * bit_drift s winner k
    pub close : (i : ℕ) → i < s.count → i ≢ k → (answers i ≡ true) ⊎ (answers k ≡ true) → shared_instant s i k ((bits n).place i) + s.delay i k * shared_tick s i k
        < shared_instant s k i ((bits n).place k) + way k i + edges * (10 * bit_drift s i k + jump_gap s i k) + since n * bit_drift s i k

  abbrev Chases : ℕ → Type 0
  Chases n = (k : ℕ) → k < s.count → (edges : ℕ) × IsChasing n k edges

  wins_at : (n m : ℕ) → n + m ≡ length → still_sends s bits n winner ≡ true
  wins_at n zero e = subst (λ x. still_sends s bits x winner ≡ true) (let f : length ≡ n = omega arith in f) wins
  wins_at n (suc m) e = passing.sent_before s are room bits drove length until is laws n winner (wins_at (suc n) m (omega arith))

  reached : (n : ℕ) → n < length → passing.Reached s are room bits drove length until is laws n
  reached n less = passing.reached s are room bits drove length until is laws n less

  -- it is close to the winner
  by_winner : (n k : ℕ) → n < length → k < s.count → k ≢ winner → shared_instant s winner k ((bits n).place winner) + s.delay winner k * shared_tick s winner k
      < shared_instant s k winner ((bits n).place k) + s.way k winner + since n * bit_drift s winner k
  by_winner n k less there other =
      let near = (reached n less).close winner k inside there (λ e. other (sym e)) (inl (wins_at (suc n) (length - suc n) (omega arith))) in
      omega arith

  -- from an edge to which it is near
  near_it : (n k : ℕ) → n < length → k < s.count → since n ≡ 0 → ((i : ℕ) → i < s.count → i ≢ k → (answers i ≡ true) ⊎ (answers k ≡ true) → ReachesBy (answering_by s answers way) 0 i k ((bits n).place i) ((bits n).place k)) → IsChasing n k 0
  near_it n k less there edge near = record {
    few = omega arith;
    early = λ other. (let h = by_winner n k less there other in omega arith);
    close = λ i inside other some. (let h = near i inside other some in omega arith);
  }

  first : 0 < length → Chases 0
  first some k there =
      let begins = frame_close (answering_by s answers way) (answering_stations s are.line answers way ways) (bits 0) (λ k there e. speaks k there (passing.drives_first s bits is.allowed k there e)) (begin_frame s answers way (bits 0) is.begin) in
      (0, near_it 0 k some there refl (λ i inside other one. begins i k inside there other one))

  -- the next bit
  module _ (n : ℕ) (less : suc n < length) (was : Chases n) where
    before : passing.Reached s are room bits drove length until is laws n
    before = reached n (omega arith)

    -- where each bit is due
    due_more : (i k : ℕ) → i < s.count → k < s.count → shared_instant s i k ((bits (suc n)).due i) ≡ shared_instant s i k ((bits n).place i) + bit_quanta (s.lengths i) * shared_quantum s i k
    due_more i k inside there = ap (shared_instant s i k) (is.due n i inside) ∙ instant_more s are i k inside there ((bits n).place i) (bit_quanta (s.lengths i))

    close_due : (i k edges : ℕ) → i < s.count → k < s.count → i ≢ k → (answers i ≡ true) ⊎ (answers k ≡ true) → IsChasing n k edges → shared_instant s i k ((bits (suc n)).due i) + s.delay i k * shared_tick s i k
        < shared_instant s k i ((bits (suc n)).due k) + (way k i + edges * (10 * bit_drift s i k + jump_gap s i k) + suc (since n) * bit_drift s i k)
    close_due i k edges inside there other some h =
        let near = h.close i inside other some in
        let own = due_more i k inside there in
        let theirs = due_more k i there inside in
        let one : suc (since n) * bit_drift s i k ≡ since n * bit_drift s i k + bit_drift s i k = omega arith in
        omega arith

    early_due : (k edges : ℕ) → k < s.count → k ≢ winner → IsChasing n k edges → shared_instant s winner k ((bits (suc n)).due winner) + s.delay winner k * shared_tick s winner k + edges * jump k
        < shared_instant s k winner ((bits (suc n)).due k) + (s.way k winner + suc (since n) * bit_drift s winner k)
    early_due k edges there other h =
        let near = h.early other in
        let own = due_more winner k inside there in
        let theirs = due_more k winner there inside in
        let one : suc (since n) * bit_drift s winner k ≡ since n * bit_drift s winner k + bit_drift s winner k = omega arith in
        omega arith

    -- without an edge
    plain : begins_with_edge s bits (suc n) ≡ false → Chases (suc n)
    plain e k there =
        let r = was k there in
        let count = passing.since_more s are room bits drove length until is laws n less before e in
        let place : (i : ℕ) → i < s.count → (bits (suc n)).place i ≡ (bits (suc n)).due i = (λ i inside. (is.plain n i less inside (passing.right s are room bits drove length until is laws n less before) e).0) in (
          r.0,
          record {
            few = r.1.few;
            early = λ other.
                (let near = early_due k r.0 there other r.1 in
                let own = ap (shared_instant s winner k) (place winner inside) in
                let theirs = ap (shared_instant s k winner) (place k there) in
                let drift : since (suc n) * bit_drift s winner k ≡ suc (since n) * bit_drift s winner k = ap (λ m. m * bit_drift s winner k) count in
                omega arith);
            close = λ i within other some.
                (let near = close_due i k r.0 within there other some r.1 in
                let own = ap (shared_instant s i k) (place i within) in
                let theirs = ap (shared_instant s k i) (place k there) in
                let drift : since (suc n) * bit_drift s i k ≡ suc (since n) * bit_drift s i k = ap (λ m. m * bit_drift s i k) count in
                omega arith);
          },
        )

    -- with one
    module _ (e : begins_with_edge s bits (suc n) ≡ true) where
      since_none : since (suc n) ≡ 0
      since_none = ap (λ b. cond b 0 (suc (since n))) e

      few : suc (since n) ≤ 10
      few = passing.few_due s are room bits drove length until is laws n less before

      dominant : (bits (suc n)).drives winner ≡ true
      dominant =
          passing.sent_as s are room bits drove length until is laws (suc n) winner (and_parts (not (bus_bit s bits n)) (bus_bit s bits (suc n)) e).1
          (wins_at (suc (suc n)) (length - suc (suc n)) (omega arith))

      may : s.may_send winner ≡ true
      may = passing.allowed_at s are room bits drove length until is laws (suc n) winner inside (wins_at (suc n) (length - suc n) (omega arith))

      close_sent : AreClose s (still_sends s bits (suc n)) (suc (since n)) (bits (suc n)).due
      close_sent = passing.close_due s are room bits drove length until is laws n less before

      sent : AreSenders s (still_sends s bits (suc n)) (bits (suc n))
      sent = passing.senders_next s are room bits drove length until is laws n less before

      allowed : AreAllowed s (bits (suc n)).drives
      allowed k there f = passing.allowed_at s are room bits drove length until is laws (suc n) k there (passing.sent_next s are room bits drove length until is laws n less before k there f)

      begin : BeginBit s (bits (suc n))
      begin = is.edge n less (passing.right s are room bits drove length until is laws n less before) e

      abbrev Near : ℕ → Type 0
      Near = IsNear s are room (still_sends s bits (suc n)) (suc (since n)) few (bits (suc n)) close_sent sent allowed begin answers way ways speaks

      abbrev Forward : ℕ → Type 0
      Forward = IsForward s are room (still_sends s bits (suc n)) (suc (since n)) few (bits (suc n)) close_sent sent allowed begin answers way ways speaks

      other_than : (k : ℕ) → Forward k → k ≢ winner
      other_than k h same =
          forward_recessive s are room (still_sends s bits (suc n)) (suc (since n)) few (bits (suc n)) close_sent sent allowed begin answers way ways speaks k h (ap (bits (suc n)).drives same ∙ dominant)

      early_more : (k edges : ℕ) → k < s.count → Forward k → IsChasing n k edges → shared_instant s winner k ((bits (suc n)).place winner) + s.delay winner k * shared_tick s winner k + suc edges * jump k
          < shared_instant s k winner ((bits (suc n)).place k) + s.way k winner
      early_more k edges there h r =
          let other = other_than k h in
          let near =
          forward_to s are room (still_sends s bits (suc n)) (suc (since n)) few (bits (suc n)) close_sent sent allowed begin answers way ways speaks winner k (edges * jump k) (s.way k winner + suc (since n) * bit_drift s winner k)
          inside there dominant h (early_due k edges there other r) in
          let fits = room.samples.late_fits k winner there inside other may in
          let drift = few_of (suc (since n)) (bit_drift s winner k) few in
          let one : suc edges * jump k ≡ edges * jump k + jump k = omega arith in
          omega arith

      few_more : (k edges : ℕ) → k < s.count → Forward k → IsChasing n k edges → suc edges ≤ chase k
      few_more k edges there h r = elim (cases_lt (chase k) (suc edges)) [
        | inl over ↦
            (let other = other_than k h in
            let near = early_more k edges there h r in
            let still =
            still_early s are room (still_sends s bits (suc n)) (suc (since n)) few (bits (suc n)) close_sent sent allowed begin answers way ways speaks winner k inside there (λ x. other (sym x)) dominant h in
            let enough = catch k there other in
            let m : suc (chase k) * jump k ≤ suc edges * jump k = mul-le-mul_right (jump k) over in
            absurd (omega arith))
        | inr within ↦ within
      ]

      forward : (k edges : ℕ) → k < s.count → Forward k → IsChasing n k edges → IsChasing (suc n) k (suc edges)
      forward k edges there h r = record {
        few = few_more k edges there h r;
        early = λ other. (let near = early_more k edges there h r in omega arith);
        close = λ i within other some.
            (let near =
            forward_by s are room (still_sends s bits (suc n)) (suc (since n)) few (bits (suc n)) close_sent sent allowed begin answers way ways speaks i k
            (way k i + edges * (10 * bit_drift s i k + jump_gap s i k) + suc (since n) * bit_drift s i k) within there h (close_due i k edges within there other some r) in
            let drift = few_of (suc (since n)) (bit_drift s i k) few in
            let one : suc edges * (10 * bit_drift s i k + jump_gap s i k) ≡ edges * (10 * bit_drift s i k + jump_gap s i k) + (10 * bit_drift s i k + jump_gap s i k) = omega arith in
            omega arith);
      }

      edge : Chases (suc n)
      edge k there = elim (near_or_forward s are room (still_sends s bits (suc n)) (suc (since n)) few (bits (suc n)) close_sent sent allowed begin answers way ways speaks k there) [
        | inl near ↦ (0, near_it (suc n) k less there since_none near)
        | inr ahead ↦ (let r = was k there in (suc r.0, forward k r.0 there ahead r.1))
      ]

    next : Chases (suc n)
    next = elim (cases_Bool (begins_with_edge s bits (suc n))) [
      | inl with_edge ↦ edge with_edge
      | inr without ↦ plain without
    ]

  chases : (n : ℕ) → n < length → Chases n
  chases zero less = first less
  chases (suc n) less = next n less (chases n (omega arith))

  within : (x y way any few many t : ℕ) → x < y + any + few + t → few ≤ many → x < y + (max any way + many) + t
  within x y way any few many t h f = omega arith

  at_winner : (n : ℕ) → n < length → (i k : ℕ) → i < s.count → k < s.count → i ≢ k → (still_sends s bits (suc n) i ≡ true) ⊎ (still_sends s bits (suc n) k ≡ true)
      → ReachesBy (answering_by s answers (gathered_by s way winner chase)) (since n) i k ((bits n).place i) ((bits n).place k)
  at_winner n less i k ni nk other some =
      grows (shared_instant s i k ((bits n).place i) + s.delay i k * shared_tick s i k) (shared_instant s k i ((bits n).place k)) (s.way k i) (way k i)
      (gathers s winner chase k i) (since n * bit_drift s i k) ((reached n less).close i k ni nk other some)
    where
      grows : (x y way any more t : ℕ) → x < y + way + t → x < y + (max any way + more) + t
      grows x y way any more t h = omega arith

  between : (n : ℕ) → n < length → (i k : ℕ) → i < s.count → k < s.count → i ≢ k → (answers i ≡ true) ⊎ (answers k ≡ true) → i ≢ winner → k ≢ winner
      → ReachesBy (answering_by s answers (gathered_by s way winner chase)) (since n) i k ((bits n).place i) ((bits n).place k)
  between n less i k ni nk other some apart third =
      let r = chases n less k nk in
      let near = r.1.close i ni other some in
      let m : r.0 * (10 * bit_drift s i k + jump_gap s i k) ≤ chase k * (10 * bit_drift s i k + jump_gap s i k) = mul-le-mul_right (10 * bit_drift s i k + jump_gap s i k) r.1.few in
      let e = gathers_is s winner chase k i apart third in
      within (shared_instant s i k ((bits n).place i) + s.delay i k * shared_tick s i k) (shared_instant s k i ((bits n).place k)) (s.way k i) (way k i)
      (r.0 * (10 * bit_drift s i k + jump_gap s i k)) (gathers s winner chase k i) (since n * bit_drift s i k) near (omega arith)

  pub close_if_one_answers : (n : ℕ) → n < length → AreClose (answering_by s answers (gathered_by s way winner chase)) answers (since n) (bits n).place
  close_if_one_answers n less i k ni nk other some = elim (cases_eq i winner) [
    | inl own ↦ at_winner n less i k ni nk other (inl (subst (λ w. still_sends s bits (suc n) w ≡ true) (sym own) (wins_at (suc n) (length - suc n) (omega arith))))
    | inr apart ↦ elim (cases_eq k winner) [
      | inl theirs ↦ at_winner n less i k ni nk other (inr (subst (λ w. still_sends s bits (suc n) w ≡ true) (sym theirs) (wins_at (suc n) (length - suc n) (omega arith))))
      | inr third ↦ between n less i k ni nk other some apart third
    ]
  ]

-- so it is of all if each answers
pub any_close : (s : Stations) → AreStations s → HaveRoom s → (bits : ℕ → Start) (drove : ℕ → ℕ → Bool) (length : ℕ) (until : ℕ → ℕ) → IsCourse s bits drove length until → DrivenLaws
    → (winner : ℕ) → winner < s.count → still_sends s bits length winner ≡ true → (chase : ℕ → ℕ) → CatchUp s winner chase
    → (n : ℕ) → n < length → AreAllClose s (gathered_way s winner chase) (since_edge s bits n) (bits n).place
any_close s are room bits drove length until is laws winner inside wins chase catch n less =
    close_if_one_answers s are room bits drove length until is laws winner inside wins chase catch (λ i. true) (any_way s)
    (any_stations s are.line (any_way s) (λ k i. omega arith)).ways (λ k there e. refl) n less
