-- A station with room for acknowledgements may only listen, if eleven bits' drift fits before its sample.
use Rattle.std.proofs.Common.{◌≡◌, ◌≢◌, ◌∙◌, inl, inr, refl, ap, ℕ, ◌+◌, ◌*◌, ◌<◌, ◌≤◌, ◌&&◌, not, cond, Bool, true, false, max, arith}
use Rattle.std.specs.Prelude.{◌==◌}
use Rattle.std.proofs.lemmas.Bool.{and_right, cases_eq, eq-eqb, ne_eqb}
use Rattle.wl_buses.specs.OneFrame.Acknowledged.{answering, any_way, chased_way, gathered_by, gathered_way, most_overrun}
use Rattle.wl_buses.specs.OneFrame.Stations.{AreOnALine, AreStations, HaveRoom, HaveRoomToSample, HaveWays, Stations, shared_tick, with_longer_ways}
use Rattle.wl_buses.specs.FrameEnd.Again.{HasRoomToRest}
use Rattle.wl_buses.specs.FrameEnd.Asked.{CanBeAnswered}
use Rattle.wl_buses.specs.OneListener.Beside.{no_listener, with_listener}
use Rattle.wl_buses.specs.OneListener.Ends.{CanBeHeard, HasRoomToRestBeside, others_gathered}
use Rattle.wl_buses.specs.OneListener.Muted.{FitsEleven, MayListen, farther, muted, muted_way}
use Rattle.wl_buses.proofs.OneFrame.AckWays.{any_stations, chased_stations, fits_but}
use Rattle.wl_buses.proofs.BothProofs.Small.{distinct}

module _ (s : Stations) (far : ℕ) (are : AreStations (with_listener s)) (room : HaveRoom (with_listener s)) (none : (k : ℕ) → s.may_send k ≡ true → k ≢ s.count) where
  abbrev l : ℕ
  l = s.count

  abbrev x : Stations
  x = with_listener s

  abbrev y : Stations
  y = with_listener (muted s far)

  abbrev F : ℕ → ℕ → ℕ
  F = farther s far

  -- a station that is heard needs no more, nor a loop
  heard_none : (k i : ℕ) → k ≢ l → F k i ≡ 0
  heard_none k i other = ap (λ b. cond (b && not (i == l)) far 0) (ne_eqb k l other)

  loop_none : (i : ℕ) → F i i ≡ 0
  loop_none i = elim (cases_eq i l) [
    | inl own ↦ ap (λ b. cond (i == l && not b) far 0) (eq-eqb i l own) ∙ ap (λ b. cond b far 0) (and_right (i == l) false refl)
    | inr other ↦ heard_none i i other
  ]

  far_is : (k : ℕ) → k ≢ l → (i : ℕ) → i ≡ l → F i k ≡ far
  far_is k other i own = ap (λ b. cond (b && not (k == l)) far 0) (eq-eqb i l own) ∙ ap (λ b. cond (not b) far 0) (ne_eqb k l other)

  own_none : (i k : ℕ) → k ≡ l → F i k ≡ 0
  own_none i k own = ap (λ b. cond (i == l && not b) far 0) (eq-eqb k l own) ∙ ap (λ b. cond b far 0) (and_right (i == l) false refl)

  triangle : (i j k : ℕ) → F i k ≤ F i j + F j k
  triangle i j k = elim (cases_eq i l) [
    | inl own ↦ elim (cases_eq k l) [
      | inl back ↦ (let e = own_none i k back in omega arith)
      | inr there ↦ elim (cases_eq j l) [
        | inl mine ↦ (let a = far_is k there i own in let b = far_is k there j mine in omega arith)
        | inr other ↦ (let a = far_is k there i own in let b = far_is j other i own in omega arith)
      ]
    ]
    | inr other ↦ (let e = heard_none i k other in omega arith)
  ]

  line : AreOnALine y
  line = record {
    steady = are.line.steady;
    book = are.line.book;
    later = λ i k inside there. (let h = are.line.later i k inside there in omega arith);
    detours = λ i j k inside third there.
        (let h = are.line.detours i j k inside third there in
        let f = triangle i j k in
        let loop = loop_none j in
        omega arith);
  }

  -- ways, as long as these: by what each is longer
  module _ (may : ℕ → Bool) (quiet : (k : ℕ) → may k ≡ true → k ≢ l) (way : ℕ → ℕ → ℕ) (ways : HaveWays (record x { may_send = may; way = way })) where
    abbrev longer : ℕ → ℕ → ℕ
    longer k i = way k i + F i k * shared_tick s i k

    pub muted_ways : HaveWays (record y { may_send = may; way = longer })
    muted_ways = record {
      there_and_back = λ i k inside there pair own.
          (let h = ways.there_and_back i k inside there pair own in let f = heard_none k i (quiet k own) in let e : F k i * shared_tick s i k ≡ 0 * shared_tick s i k = ap (λ n. n * shared_tick s i k) f in omega arith);
      over = λ i k a inside there third pair apart other own.
          (let h = ways.over i k a inside there third pair apart other own in
          let f = heard_none a i (quiet a own) in
          let g = heard_none a k (quiet a own) in
          let e : F a i * shared_tick s i k ≡ 0 * shared_tick s i k = ap (λ n. n * shared_tick s i k) f in
          let d : F a k * shared_tick s i k ≡ 0 * shared_tick s i k = ap (λ n. n * shared_tick s i k) g in
          omega arith);
      straight = λ i k inside there pair own. (let h = ways.straight i k inside there pair own in omega arith);
    }

    -- and room, if there is room with them
    module _ (enough : HaveRoomToSample (record x { may_send = may; way = way })) where
      pub muted_room : HaveRoomToSample (record y { may_send = may; way = longer })
      muted_room = record {
        late_fits = λ i k inside there other own. enough.late_fits i k inside there other own;
        is_there = λ i k inside there other own.
            (let h = enough.is_there i k inside there other own in
            let f = heard_none k i (quiet k own) in
            let e : F k i * shared_tick s k i ≡ 0 * shared_tick s k i = ap (λ n. n * shared_tick s k i) f in
            omega arith);
        loops = λ i inside own. (let h = enough.loops i inside own in let f = loop_none i in let e : (s.clocks i).den * (s.delay i i + F i i) ≡ (s.clocks i).den * (s.delay i i + 0) = ap (λ n. (s.clocks i).den * (s.delay i i + n)) f in omega arith);
        not_early = λ i k inside there other own. (let h = enough.not_early i k inside there other own in omega arith);
      }

  pub are_muted : AreStations y
  are_muted = record { line = line; ways = muted_ways s.may_send none s.way are.ways }

  pub room_muted : HaveRoom y
  room_muted = record {
    early_fits = λ i k inside there other own. (let h = room.early_fits i k inside there other own in omega arith);
    samples = muted_room s.may_send none s.way are.ways room.samples;
  }

  module _ (two : 1 < s.count) (winner : ℕ) (wins : winner < s.count) (chase : ℕ → ℕ) (answer : CanBeAnswered x winner chase) (eleven : FitsEleven s (chased_way x winner chase)) where
    heard : (k : ℕ) → no_listener s k ≡ true → k ≢ l
    heard k e = distinct k l e

    abbrev late : ℕ → ℕ → ℕ
    late = chased_way x winner chase

    abbrev more : ℕ → ℕ
    more = most_overrun x winner chase

    all_ways : HaveWays (answering x (any_way x))
    all_ways = (any_stations x are.line (any_way x) (λ k i. omega arith)).ways

    all_late : HaveWays (answering x late)
    all_late = (chased_stations x are.line winner chase).ways

    few_ways : (way : ℕ → ℕ → ℕ) → HaveWays (answering x way) → HaveWays (record x { may_send = no_listener s; way = way })
    few_ways way h = record {
      there_and_back = λ i k inside there pair own. h.there_and_back i k inside there (pair.0, inl refl) refl;
      over = λ i k a inside there third pair apart other own. h.over i k a inside there third (pair.0, inl refl) apart other refl;
      straight = λ i k inside there pair own. h.straight i k inside there (pair.0, inl refl) refl;
    }

    few_room : HaveRoomToSample (record x { may_send = no_listener s; way = late })
    few_room = record {
      late_fits = λ i k inside there other own. answer.room.late_fits i k inside there other refl;
      is_there = λ i k inside there other own. answer.room.is_there i k inside there other refl;
      loops = λ i inside own. answer.room.loops i inside refl;
      not_early = λ i k inside there other own. answer.room.not_early i k inside there other refl;
    }

    abbrev gathered : ℕ → ℕ → ℕ
    gathered = gathered_by y (muted_way s far) winner chase

    gathered_is : (k i : ℕ) → gathered k i ≡ gathered_way x winner chase k i + F i k * shared_tick s i k
    gathered_is k i = shift (any_way x k i) (s.way k i) (F i k * shared_tick s i k) _
      where
        shift : (a b f g : ℕ) → max (a + f) (b + f) + g ≡ max a b + g + f
        shift a b f g = omega arith

    room_there : HaveRoomToSample (with_longer_ways (others_gathered (muted s far) winner (muted_way s far) chase) more)
    room_there =
        (let h = muted_room (no_listener s) heard late (few_ways late all_late) few_room in
        record {
          late_fits = h.late_fits;
          is_there = λ i k inside there other own. (let a = h.is_there i k inside there other own in let e = gathered_is i k in omega arith);
          loops = h.loops;
          not_early = λ i k inside there other own. (let a = h.not_early i k inside there other own in let e = gathered_is k i in omega arith);
        })

    pub can_be_heard : CanBeHeard (muted s far) winner (muted_way s far) chase more
    can_be_heard = record {
      two = two;
      ways = muted_ways (no_listener s) heard (any_way x) (few_ways (any_way x) all_ways);
      catch = λ k inside other.
          (let h = answer.catch k inside other in
          let f = heard_none winner k (λ e. omega arith) in
          let g = loop_none winner in
          let e : F winner k * shared_tick s winner k ≡ 0 * shared_tick s winner k = ap (λ n. n * shared_tick s winner k) f in
          let d : (s.delay winner winner + F winner winner) * shared_tick s winner k ≡ (s.delay winner winner + 0) * shared_tick s winner k = ap (λ n. (s.delay winner winner + n) * shared_tick s winner k) g in
          omega arith);
      fits = λ i k inside there other own. (let h = fits_but x are.line winner chase i k inside there other refl in let e = gathered_is k i in omega arith);
      room = room_there;
      listens = record {
        eleven = λ k inside.
            (let h = eleven k inside in
            let e = gathered_is l k in
            let f = heard_none k l (λ g. omega arith) in
            let d : F k l * shared_tick s k l ≡ 0 * shared_tick s k l = ap (λ n. n * shared_tick s k l) f in
            omega arith);
        loop = (let h = answer.room.loops l (omega arith) refl in let f = loop_none l in let e : (s.clocks l).den * (s.delay l l + F l l) ≡ (s.clocks l).den * (s.delay l l + 0) = ap (λ n. (s.clocks l).den * (s.delay l l + n)) f in omega arith);
        jumps = λ k inside. answer.room.late_fits k l (omega arith) (omega arith) (λ g. omega arith) refl;
      };
    }

    pub may_listen : MayListen s far winner chase
    may_listen = record { are = are_muted; room = room_muted; can = can_be_heard }

    pub rest_there : HasRoomToRest x late → HasRoomToRestBeside (muted s far) (with_longer_ways (others_gathered (muted s far) winner (muted_way s far) chase) more).way
    rest_there rest k inside = (let h = rest l k (omega arith) (omega arith) (λ g. omega arith) in let e = gathered_is k l in omega arith)
