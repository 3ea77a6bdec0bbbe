-- Which stations on a silent line begin a frame by themselves, and which follow the first edge that reaches them.
use Rattle.std.proofs.Common.{◌≡◌, ◌≢◌, ◌∙◌, ◌⊎◌, inl, inr, refl, sym, ap, ℕ, zero, suc, ◌+◌, ◌-◌, ◌<◌, ◌≤◌, ◌&&◌, not, cond, Bool, true, false, Option, Some, None, arith}
use Rattle.std.specs.Prelude.{◌==◌, nat_le}
use Rattle.std.proofs.lemmas.Bool.{and_from, and_parts, cases_Bool, cases_eq, cases_lt, false_from_ne_true, le-leb, leb-true, ne_eqb}
use Rattle.wl_level.proofs.Callers.{first_is, first_none}
use Rattle.wl_topology.proofs.Callers.{any_from, any_one}
use Rattle.wl_phase.specs.Clocks.{steady_tick}
use Rattle.wl_phase.proofs.Callers.{tick_up}
use Rattle.wl_buses.specs.OneFrame.Stations.{AreOnALine, Stations}
use Rattle.wl_buses.specs.OneFrame.Starts.{BeginFrame, BeginsAlone, Drives, FollowsHard, Start, reaches_at}
use Rattle.wl_buses.specs.OneFrame.Expected.{found_before, is_reached, most}
use Rattle.wl_buses.proofs.OneFrame.Settling.{most_from, nearest}
use Rattle.wl_buses.specs.FirstFrame.FirstStarts.{hard_from, hard_place}
use Rattle.wl_buses.proofs.BothProofs.Small.{distinct, ticks_up}

-- Stations on a silent line: which of them have a frame, when the start of frame of each is due, by which quantum it has decided to send, and by which it is idle, or in the third bit of its
-- intermission. Which of them join a start of frame doesn't matter here.
pub record Silence : Type 0 where
  pub stations : Stations
  pub has : ℕ → Bool
  pub due : ℕ → ℕ
  pub decision : ℕ → ℕ
  pub rested : ℕ → ℕ
  pub joins : ℕ → Bool

-- Some station has a frame. Each decides before that is due, and is idle before another one's start of frame reaches it.
pub record IsSilence (w : Silence) : Type 0 where
  pub inside : (i : ℕ) → w.has i ≡ true → i < w.stations.count
  pub some : (i : ℕ) × (w.has i ≡ true)
  pub early : (i : ℕ) → i < w.stations.count → w.decision i < w.due i
  pub idle : (i k : ℕ) → i < w.stations.count → i ≢ k → w.has k ≡ true
      → steady_tick (w.stations.clocks i) (w.rested i) < steady_tick (w.stations.clocks k) (w.due k) + w.stations.delay k i

module _ (w : Silence) (line : AreOnALine w.stations) (are : IsSilence w) where
  abbrev s : Stations
  s = w.stations

  abbrev has : ℕ → Bool
  has = w.has

  abbrev due : ℕ → ℕ
  due = w.due

  abbrev decision : ℕ → ℕ
  decision = w.decision

  abbrev rested : ℕ → ℕ
  rested = w.rested

  abbrev tick : ℕ → ℕ → ℕ
  tick k q = steady_tick (s.clocks k) q

  abbrev T : ℕ → ℕ
  T k = tick k (due k)

  abbrev pub reached : ℕ → ℕ → Bool
  reached i q = is_reached s has due i q

  abbrev pub begins : ℕ → Bool
  begins i = has i && not (reached i (decision i))

  abbrev looks : ℕ → ℕ
  looks i = cond (has i) (due i) (most s.count (λ k. T k + s.delay k i))

  abbrev pub edge : ℕ → Option ℕ
  edge i = found_before s has due i (suc (looks i))

  abbrev pub b : Start
  b = record { drives = begins; joins = w.joins; due = due; place = λ i. hard_place (due i) (edge i); from = λ i. hard_from (due i) (edge i) }

  pub up : (i q r : ℕ) → i < s.count → q ≤ r → tick i q ≤ tick i r
  up i q r inside h = tick_up (s.clocks i) (line.steady i inside).divides q r h

  -- a start of frame that has reached a station, if each begins when it is due
  pub record Reaches (i q : ℕ) : Type 0 where
    pub by : ℕ
    pub has_one : has by ≡ true
    pub other : by ≢ i
    pub reach : T by + s.delay by i ≤ tick i q

  pub reached_by : (i q : ℕ) → reached i q ≡ true → Reaches i q
  reached_by i q e =
      let x = any_one s.count (λ k. has k && (not (k == i) && nat_le (T k + s.delay k i) (tick i q))) e in
      let p = and_parts (has x.0) (not (x.0 == i) && nat_le (T x.0 + s.delay x.0 i) (tick i q)) x.2 in
      let r = and_parts (not (x.0 == i)) (nat_le (T x.0 + s.delay x.0 i) (tick i q)) p.1 in
      record { by = x.0; has_one = p.0; other = distinct x.0 i r.0; reach = leb-true (T x.0 + s.delay x.0 i) (tick i q) r.1 }

  pub reached_from : (i q k : ℕ) → has k ≡ true → k ≢ i → T k + s.delay k i ≤ tick i q → reached i q ≡ true
  reached_from i q k has_one other h =
      any_from s.count k (λ k. has k && (not (k == i) && nat_le (T k + s.delay k i) (tick i q))) (are.inside k has_one)
      (and_from (has k) (not (k == i) && nat_le (T k + s.delay k i) (tick i q)) has_one
      (and_from (not (k == i)) (nat_le (T k + s.delay k i) (tick i q)) (ap not (ne_eqb k i other)) (le-leb (T k + s.delay k i) (tick i q) h)))

  pub unreached : (i q k : ℕ) → reached i q ≡ false → has k ≡ true → k ≢ i → tick i q < T k + s.delay k i
  unreached i q k e has_one other = elim (cases_lt (tick i q) (T k + s.delay k i)) [
    | inl less ↦ less
    | inr more ↦ (let f = reached_from i q k has_one other more in cc)
  ]

  -- it stays so
  pub reached_later : (i q r : ℕ) → i < s.count → q ≤ r → reached i q ≡ true → reached i r ≡ true
  reached_later i q r inside h e =
      let x = reached_by i q e in
      let more = up i q r inside h in
      let reach = x.reach in
      reached_from i r x.by x.has_one x.other (omega arith)

  unreached_before : (i q r : ℕ) → i < s.count → q ≤ r → reached i r ≡ false → reached i q ≡ false
  unreached_before i q r inside h e = false_from_ne_true (reached i q) (λ f. (let g = reached_later i q r inside h f in cc))

  -- none has reached a station by the quantum by which it is idle
  pub unreached_rested : (i : ℕ) → i < s.count → reached i (rested i) ≡ false
  unreached_rested i inside = false_from_ne_true (reached i (rested i)) (λ e.
      (let x = reached_by i (rested i) e in
      let early = are.idle i x.by inside (λ f. x.other (sym f)) x.has_one in
      let reach = x.reach in
      absurd (omega arith)))

  -- whoever has decided begins a frame
  pub begins_has : (i : ℕ) → begins i ≡ true → has i ≡ true
  begins_has i e = (and_parts (has i) (not (reached i (decision i))) e).0

  -- and no start of frame has reached it by then
  pub begins_free : (i : ℕ) → begins i ≡ true → reached i (decision i) ≡ false
  begins_free i e = (let none = (and_parts (has i) (not (reached i (decision i))) e).1 in false_from_ne_true (reached i (decision i)) (λ f. (let g : not (reached i (decision i)) ≡ false = ap not f in cc)))

  -- else one has
  pub reached_then : (i : ℕ) → has i ≡ true → begins i ≡ false → reached i (decision i) ≡ true
  reached_then i e none = elim (cases_Bool (reached i (decision i))) [
    | inl found ↦ found
    | inr free ↦ (let own = and_from (has i) (not (reached i (decision i))) e (ap not free) in cc)
  ]

  decided_early : (i : ℕ) → i < s.count → decision i < due i
  decided_early i inside = are.early i inside

  pub begins_from : (i : ℕ) → has i ≡ true → reached i (decision i) ≡ false → begins i ≡ true
  begins_from i has_one e = and_from (has i) (not (reached i (decision i))) has_one (ap not e)

  -- what its look finds
  pub record IsFound (i q : ℕ) : Type 0 where
    pub found : edge i ≡ Some q
    pub by_look : q ≤ looks i
    pub here : reached i q ≡ true
    pub before : (j : ℕ) → j < q → reached i j ≡ false

  pub found_is : (i q : ℕ) → edge i ≡ Some q → IsFound i q
  found_is i q e =
      let x = first_is (reached i) (suc (looks i)) q e in
      record { found = e; by_look = (let h = x.inside in omega arith); here = x.passes; before = x.none_before }

  look_own : (i : ℕ) → has i ≡ true → looks i ≡ due i
  look_own i e = ap (λ c. cond c (due i) (most s.count (λ k. T k + s.delay k i))) e

  look_other : (i : ℕ) → has i ≡ false → looks i ≡ most s.count (λ k. T k + s.delay k i)
  look_other i e = ap (λ c. cond c (due i) (most s.count (λ k. T k + s.delay k i))) e

  unfound : (i : ℕ) → edge i ≡ None → reached i (looks i) ≡ false
  unfound i e = first_none (reached i) (suc (looks i)) e (looks i) (omega arith)

  -- a station that finds no edge has a frame
  alone_has : (i : ℕ) → i < s.count → edge i ≡ None → has i ≡ true
  alone_has i inside e = elim (cases_Bool (has i)) [
    | inl own ↦ own
    | inr none ↦
        (let k = are.some.0 in
        let other : k ≢ i = λ f. (let g : has k ≡ has i = ap has f in let h = are.some.1 in cc) in
        let bound = most_from s.count (λ j. T j + s.delay j i) k (are.inside k are.some.1) in
        let look = look_other i none in
        let ticks = ticks_up (s.clocks i) (line.steady i inside) (looks i) in
        let yes = reached_from i (looks i) k are.some.1 other (omega arith) in
        let no = unfound i e in
        cc)
  ]

  alone_unreached : (i : ℕ) → i < s.count → edge i ≡ None → reached i (due i) ≡ false
  alone_unreached i inside e = sym (ap (reached i) (look_own i (alone_has i inside e))) ∙ unfound i e

  pub alone_early : (i q : ℕ) → i < s.count → edge i ≡ None → q ≤ due i → reached i q ≡ false
  alone_early i q inside e less = unreached_before i q (due i) inside less (alone_unreached i inside e)

  pub alone_begins : (i : ℕ) → i < s.count → edge i ≡ None → begins i ≡ true
  alone_begins i inside e =
      let early = decided_early i inside in
      begins_from i (alone_has i inside e) (unreached_before i (decision i) (due i) inside (omega arith) (alone_unreached i inside e))

  -- a station that no edge has reached when its own is due begins by itself
  leads : (i : ℕ) → has i ≡ true → reached i (due i) ≡ false → i < s.count → edge i ≡ None
  leads i has_one e inside = none (edge i) refl
    where
      none : (o : Option ℕ) → edge i ≡ o → edge i ≡ None
      none None f = f
      none (Some q) f =
          (let x = found_is i q f in
          let low = x.by_look in
          let look = look_own i has_one in
          let later = reached_later i q (due i) inside (omega arith) x.here in
          cc)

  -- from when a start of frame is driven
  record Leads (k : ℕ) : Type 0 where
    from : b.from k ≡ due k

  record Trails (k : ℕ) : Type 0 where
    by : Reaches k (b.from k)

  from_case : (k : ℕ) → (o : Option ℕ) → edge k ≡ o → Leads k ⊎ Trails k
  from_case k None e = inl (record { from = ap (hard_from (due k)) e })
  from_case k (Some q) e =
      (let f : b.from k ≡ q = ap (hard_from (due k)) e in
      inr (record { by = reached_by k (b.from k) (ap (reached k) f ∙ (found_is k q e).here) }))

  -- The start of frame of any other station comes no earlier than the first of these, or after the station's own.
  own_or_first : (i k : ℕ) → i < s.count → Drives s b i k → (least : ℕ) → ((v : ℕ) → has v ≡ true → v ≢ i → least ≤ T v + s.delay v i)
      → (least ≤ reaches_at s b k i) ⊎ ((has i ≡ true) × (T i < reaches_at s b k i))
  own_or_first i k inside d least h = by (from_case k (edge k) refl)
    where
      has_k : has k ≡ true
      has_k = begins_has k d.dominant

      by : Leads k ⊎ Trails k → (least ≤ reaches_at s b k i) ⊎ ((has i ≡ true) × (T i < reaches_at s b k i))
      by (inl x) =
          inl (let e : tick k (b.from k) ≡ T k = ap (tick k) x.from in let f = h k has_k d.other in omega arith)
      by (inr x) = elim (cases_eq x.by.by i) [
        | inl own ↦
            (let e : has i ≡ true = sym (ap has own) ∙ x.by.has_one in
            let f : T x.by.by + s.delay x.by.by k ≡ T i + s.delay i k = ap (λ v. T v + s.delay v k) own in
            let reach = x.by.reach in
            let way = line.later k i d.inside inside in
            inr (e, omega arith))
        | inr third ↦
            (let f = h x.by.by x.by.has_one third in
            let reach = x.by.reach in
            let over = line.detours x.by.by k i (are.inside x.by.by x.by.has_one) d.inside inside in
            inl (omega arith))
      ]

  -- the first edge that reaches a station
  record First (i q : ℕ) : Type 0 where
    by : ℕ
    has_one : has by ≡ true
    other : by ≢ i
    least : (v : ℕ) → has v ≡ true → v ≢ i → T by + s.delay by i ≤ T v + s.delay v i
    reach : T by + s.delay by i ≤ tick i q

  first_at : (i q : ℕ) → reached i q ≡ true → First i q
  first_at i q e =
      let some = reached_by i q e in
      let x = nearest s.count (λ v. has v && not (v == i)) (λ v. T v + s.delay v i)
      (any_from s.count some.by (λ v. has v && not (v == i)) (are.inside some.by some.has_one)
      (and_from (has some.by) (not (some.by == i)) some.has_one (ap not (ne_eqb some.by i some.other)))) in
      let p = and_parts (has x.at) (not (x.at == i)) x.passes in
      let least : (v : ℕ) → has v ≡ true → v ≢ i → T x.at + s.delay x.at i ≤ T v + s.delay v i =
      λ v has_v other. x.least v (are.inside v has_v) (and_from (has v) (not (v == i)) has_v (ap not (ne_eqb v i other))) in
      let near = least some.by some.has_one some.other in
      let reach = some.reach in
      record { by = x.at; has_one = p.0; other = distinct x.at i p.1; least = least; reach = omega arith }

  -- is that of one that begins by itself
  first_leads : (i q : ℕ) → i < s.count → IsFound i q → (x : First i q) → reached x.by (due x.by) ≡ false
  first_leads i q inside f x = false_from_ne_true (reached x.by (due x.by)) (λ e.
      (let y = reached_by x.by (due x.by) e in
      let there = are.inside x.by x.has_one in
      let near = y.reach in
      elim (cases_eq y.by i) [
        | inl own ↦
            (let has_i : has i ≡ true = sym (ap has own) ∙ y.has_one in
            let g : T y.by + s.delay y.by x.by ≡ T i + s.delay i x.by = ap (λ v. T v + s.delay v x.by) own in
            let look = look_own i has_i in
            let by_look = f.by_look in
            let more = up i q (due i) inside (omega arith) in
            let reach = x.reach in
            let way = line.later x.by i there inside in
            absurd (omega arith))
        | inr third ↦
            (let over = line.detours y.by x.by i (are.inside y.by y.has_one) there inside in
            let loop = line.later x.by x.by there there in
            let least = x.least y.by y.has_one third in
            absurd (omega arith))
      ]))

  follows : (i q : ℕ) → i < s.count → IsFound i q → FollowsHard s b i
  follows i q inside f =
      let x = first_at i q f.here in
      let there = are.inside x.by x.has_one in
      let free = first_leads i q inside f x in
      let early = decided_early x.by there in
      let begins = begins_from x.by x.has_one (unreached_before x.by (decision x.by) (due x.by) there (omega arith) free) in
      let itself : b.from x.by ≡ due x.by = ap (hard_from (due x.by)) (leads x.by x.has_one free there) in
      let tick_is : tick x.by (b.from x.by) ≡ T x.by = ap (tick x.by) itself in
      let reach = x.reach in
      record {
        by = x.by;
        found = q;
        finds = record {
          by = record { inside = there; other = x.other; dominant = begins };
          later = positive q f;
          finds = record {
            unseen = λ j below. (let h = unreached i j x.by (f.before j below) x.has_one x.other in omega arith);
            seen = omega arith;
          };
          first = λ k d. elim (own_or_first i k inside d (T x.by + s.delay x.by i) x.least) [
            | inl h ↦ omega arith
            | inr own ↦
                (let look = look_own i own.0 in
                let by_look = f.by_look in
                let more = up i q (due i) inside (omega arith) in
                let late = own.1 in
                omega arith)
          ];
        };
        place = (let e : b.place i ≡ q - 1 = ap (hard_place (due i)) f.found in let h = positive q f in omega arith);
        from = ap (hard_from (due i)) f.found;
      }
    where
      positive : (q : ℕ) → IsFound i q → 0 < q
      positive zero f = (let g = unreached_before i 0 (rested i) inside (omega arith) (unreached_rested i inside) in let h = f.here in cc)
      positive (suc q) f = omega arith

  begins_alone : (i : ℕ) → i < s.count → edge i ≡ None → BeginsAlone s b i
  begins_alone i inside e =
      let place : b.place i ≡ due i = ap (hard_place (due i)) e in
      let from : b.from i ≡ due i = ap (hard_from (due i)) e in
      let free = alone_unreached i inside e in
      record {
        dominant = alone_begins i inside e;
        place = place;
        from = from ∙ sym place;
        unfound = λ k d.
            (let at : tick i (b.place i) ≡ T i = ap (tick i) place in
            elim (own_or_first i k inside d (suc (T i)) (λ v has_v other. unreached i (due i) v free has_v other)) [
              | inl h ↦ omega arith
              | inr own ↦ (let late = own.1 in omega arith)
            ]);
      }

  begin_at : (i : ℕ) → i < s.count → (o : Option ℕ) → edge i ≡ o → BeginsAlone s b i ⊎ FollowsHard s b i
  begin_at i inside None e = inl (begins_alone i inside e)
  begin_at i inside (Some q) e = inr (follows i q inside (found_is i q e))

  pub begin_first : BeginFrame s b
  begin_first i inside = begin_at i inside (edge i) refl

  -- some station begins it
  some_at : (k : ℕ) → k < s.count → (o : Option ℕ) → edge k ≡ o → (v : ℕ) × (v < s.count) × (begins v ≡ true)
  some_at k inside None e = (k, inside, alone_begins k inside e)
  some_at k inside (Some q) e = (let f = follows k q inside (found_is k q e) in (f.by, f.finds.by.inside, f.finds.by.dominant))

  pub some_first : (v : ℕ) × (v < s.count) × (begins v ≡ true)
  some_first = some_at are.some.0 (are.inside are.some.0 are.some.1) (edge are.some.0) refl

  -- where the quantum that finds an edge lies
  pub after_rested : (i q : ℕ) → i < s.count → IsFound i q → rested i < q
  after_rested i q inside f = elim (cases_lt (rested i) q) [
    | inl less ↦ less
    | inr more ↦ (let g = unreached_before i q (rested i) inside more (unreached_rested i inside) in let h = f.here in cc)
  ]

  pub after_decision : (i q : ℕ) → i < s.count → begins i ≡ true → IsFound i q → decision i < q
  after_decision i q inside e f = elim (cases_lt (decision i) q) [
    | inl less ↦ less
    | inr more ↦
        (let later = reached_later i q (decision i) inside more f.here in
        let none = (and_parts (has i) (not (reached i (decision i))) e).1 in
        let g : not (reached i (decision i)) ≡ false = ap not later in
        cc)
  ]

  pub by_due : (i q : ℕ) → has i ≡ true → IsFound i q → q ≤ due i
  by_due i q e f = let look = look_own i e in let low = f.by_look in omega arith

  pub by_decision : (i q : ℕ) → i < s.count → has i ≡ true → begins i ≡ false → IsFound i q → q ≤ decision i
  by_decision i q inside e none f = elim (cases_lt (decision i) q) [
    | inl early ↦ (let yes = begins_from i e (f.before (decision i) early) in cc)
    | inr more ↦ more
  ]

  -- no start of frame has reached it before
  pub unfound_before : (i q : ℕ) → i < s.count → reached i q ≡ false → q ≤ due i ⊎ (has i ≡ false) → (k : ℕ) → Drives s b i k → tick i q < reaches_at s b k i
  unfound_before i q inside e early k d =
      elim (own_or_first i k inside d (suc (tick i q)) (λ v has_v other. unreached i q v e has_v other)) [
        | inl h ↦ omega arith
        | inr own ↦ elim early [
          | inl low ↦ (let more = up i q (due i) inside low in let late = own.1 in omega arith)
          | inr none ↦ (let h = own.0 in cc)
        ]
      ]
