-- A bit clock that sees what is expected at the end of a frame goes as is expected.
use Rattle.std.proofs.Common.{◌≡◌, ◌≢◌, ◌∙◌, ◌⊎◌, inl, inr, sym, ap, subst, ℕ, suc, ◌+◌, ◌-◌, ◌<◌, ◌≤◌, max, Bool, true, false, None, Some, arith}
use Rattle.std.proofs.lemmas.Bool.{cases_Bool, cases_eq, cases_lt, false_from_ne_true, ne_eqb}
use Rattle.wl_level.specs.declared.Level.{Level}
use Rattle.wl_level.specs.declared.Level.TheVariants.{Dominant, Recessive}
use Rattle.wl_level.specs.Levels.{level_of}
use Rattle.wl_segments.specs.Lengths.{Lengths, bit_quanta, sample_at}
use Rattle.wl_sync.specs.declared.Beat.TheVariants.{Sample}
use Rattle.wl_sync.specs.declared.Seen.{Seen}
use Rattle.wl_sync.specs.Running.{clock_after}
use Rattle.wl_sync.specs.Skips.{steady_clock}
use Rattle.wl_topology.specs.Driven.{driven}
use Rattle.wl_machine.specs.Frames.{stuffed_end}
use Rattle.wl_phase.specs.Clocks.{steady_tick}
use Rattle.wl_phase.specs.InStep.{seen_before}
use Rattle.wl_phase.specs.Ways.{ByTheBook, moved_to}
use Rattle.wl_buses.specs.OneFrame.Stations.{AreStations, HaveRoom, Stations}
use Rattle.wl_buses.specs.OneFrame.Starts.{BeginsAlone, Drives, FollowsSoft, Start, reaches_at}
use Rattle.wl_buses.specs.OneFrame.Course.{bus_bit}
use Rattle.wl_buses.specs.OneFrame.Machines.{HasWon, bus_levels}
use Rattle.wl_buses.specs.OneFrame.Clocked.{BitIs, FindsEdge, NoneSyncs, SamplesBy}
use Rattle.wl_buses.specs.OneFrame.Expected.{HasSampled, IsOutset, Outset, edge_start, expected_bits, expected_drove, expected_sample, most, wants}
use Rattle.wl_buses.proofs.OneFrame.Settling.{from_early, from_late, low}
use Rattle.wl_buses.proofs.OneFrame.Seeing.{place_up}
use Rattle.wl_buses.proofs.OneFrame.Measures.{tick_next}
use Rattle.wl_buses.specs.FrameEnd.Ends.{end_bit}
use Rattle.wl_buses.specs.FrameEnd.Clocks.{SeesEnd}
use Rattle.wl_buses.specs.FrameEnd.Finds.{FindsTheEnd, ack_slot}
use Rattle.wl_buses.proofs.FrameEnd.Below.{ClockLaws, MachineLaws}
use Rattle.wl_buses.proofs.FrameEnd.Slot.{slot_is}
use Rattle.wl_buses.proofs.FrameEnd.Placing as placing

module _ (m : MachineLaws) (s : Stations) (are : AreStations s) (room : HaveRoom s) (o : Outset) (is : IsOutset s o) (end : ℕ)
    (valid : (n : ℕ) → n < end → stuffed_end (bus_levels s (expected_bits s o) n) ≡ None)
    (over : stuffed_end (bus_levels s (expected_bits s o) end) ≡ Some end) (won : HasWon s (expected_bits s o) o.frames end)
    (clocks : ClockLaws) (place n i : ℕ) (small : place ≤ 12) (at : end + place ≡ suc n) (inside : i < s.count) (hears : FindsTheEnd s o end i) (seen : ℕ → Seen) (sees : SeesEnd s o end i seen n)
    (has : HasSampled s o i seen n) where
  abbrev bits : ℕ → Start
  bits = expected_bits s o

  abbrev bus : ℕ → Bool
  bus = bus_bit s bits

  abbrev tick : ℕ → ℕ → ℕ
  tick k q = steady_tick (s.clocks k) q

  abbrev l : Lengths
  l = s.lengths i

  abbrev S : ℕ → ℕ
  S k = expected_sample s o k i

  abbrev due : ℕ
  due = (bits n).place i + bit_quanta l

  abbrev found : ℕ → Bool
  found q = driven s.count s.delay (expected_drove s o (end + 13)) i (tick i q)

  abbrev Goes : Type 0
  Goes = BitIs l seen (S n) ((bits (suc n)).place i) ((bits (suc n)).from i) (level_of (bus (suc n)))

  book : ByTheBook l
  book = are.line.book i inside

  bus_next : bus (suc n) ≡ end_bit place
  bus_next = placing.bus_at m s are room o is end valid over won place (suc n) small at

  level_at : (q : ℕ) (b : Bool) → S n < q → q ≤ S (suc n) → found q ≡ b → (seen q).level ≡ level_of b
  level_at q b low_q high_q e = sees.level q low_q high_q ∙ ap level_of e

  sample_later : S n < S (suc n)
  sample_later =
      let long = book.lengths.low in
      let jump = book.lengths.sjw_half in
      let up = place_up m.steps m.errors m.winner m.stuffed m.six m.ten m.driven s are room o is end valid n i in
      omega arith

  sampled_as : (level : Level) → level_of (bus n) ≡ level → SamplesBy l seen (S n) level
  sampled_as level e = has.sampled ∙ ap Sample e

  -- a recessive bit
  module _ (none : bus (suc n) ≡ false) (right : found (S (suc n)) ≡ false) (silent : bus n ≡ false → (q : ℕ) → S n < q → q ≤ S (suc n) → found q ≡ false) where
    place_is : (bits (suc n)).place i ≡ due
    place_is = placing.plain_place m s are room o is end valid over won n i none

    from_is : (bits (suc n)).from i ≡ due
    from_is = placing.plain_from m s are room o is end valid over won n i none

    S_is : S (suc n) ≡ due + sample_at l
    S_is = ap (λ q. q + sample_at l) place_is

    last_level : (seen (S (suc n))).level ≡ Recessive
    last_level = level_at (S (suc n)) false sample_later (omega arith) right

    as_due : BitIs l seen (S n) due due Recessive → Goes
    as_due b =
        subst (λ p. BitIs l seen (S n) p ((bits (suc n)).from i) (level_of (bus (suc n)))) (sym place_is)
        (subst (λ f. BitIs l seen (S n) due f (level_of (bus (suc n)))) (sym from_is) (subst (BitIs l seen (S n) due due) (sym (ap level_of none)) b))

    silent_there : bus n ≡ false → (q : ℕ) → S n < q → q ≤ due + sample_at l → (seen q).level ≡ Recessive
    silent_there quiet q after by_next = let e = S_is in level_at q false after (omega arith) (silent quiet q after (omega arith))

    recessive_goes : Goes
    recessive_goes = elim (cases_Bool (bus n)) [
      | inl dominant ↦
          as_due (subst (BitIs l seen (S n) due due) (ap (λ q. (seen q).level) (sym S_is) ∙ last_level)
          (clocks.edges.dominant l seen ((bits n).place i) book (sampled_as Dominant (ap level_of dominant))))
      | inr quiet ↦ as_due (clocks.edges.silent l seen ((bits n).place i) Recessive book (sampled_as Recessive (ap level_of quiet)) (λ q a b. silent_there quiet q a b))
    ]

    none_syncs : NoneSyncs l seen (S n) (due + sample_at l)
    none_syncs q a b = elim (cases_Bool (bus n)) [
      | inl dominant ↦ clocks.calm.sampled l seen (S n) book (sampled_as Dominant (ap level_of dominant)) q a (omega arith)
      | inr quiet ↦ clocks.calm.recessive l (seen_before seen q) (seen q) book (silent_there quiet q a b)
    ]

    recessive_next : HasSampled s o i seen (suc n)
    recessive_next = record {
      sampled = recessive_goes.samples.beat;
      steady = λ e. subst (λ q. clock_after l (seen_before seen (suc q)) ≡ steady_clock l) (sym S_is)
          (clocks.edges.steady l seen ((bits n).place i) (level_of (bus n)) book has.sampled none_syncs (ap (λ q. (seen q).level) (sym S_is) ∙ last_level));
    }

  -- the slot
  module _ (slot : n ≡ end) where
    S_end : S n ≡ S end
    S_end = ap S slot

    S_slot : S (suc n) ≡ S (suc end)
    S_slot = ap (λ k. S (suc k)) slot

    quiet : bus n ≡ false
    quiet = ap bus slot ∙ placing.bus_at m s are room o is end valid over won 0 end (omega arith) (omega arith)

    dominant_next : bus (suc n) ≡ true
    dominant_next = ap (λ k. bus (suc k)) slot ∙ placing.bus_at m s are room o is end valid over won 1 (suc end) (omega arith) (omega arith)

    abbrev d : ℕ → Bool
    d = wants s o (suc end)

    abbrev dues : ℕ → ℕ
    dues k = (bits end).place k + bit_quanta (s.lengths k)

    abbrev e : Start
    e = edge_start s d dues

    due_is : due ≡ dues i
    due_is = ap (λ k. (bits k).place i + bit_quanta l) slot

    next_is : bits (suc n) ≡ e
    next_is = ap (λ k. bits (suc k)) slot ∙ slot_is m s are room o is end valid over won

    slot_e : ack_slot s o end ≡ e
    slot_e = slot_is m s are room o is end valid over won

    begin : BeginsAlone s e i ⊎ FollowsSoft s e i
    begin = subst (λ b. BeginsAlone s b i ⊎ FollowsSoft s b i) slot_e hears.begin

    drives_slot : (k : ℕ) → Drives s e i k → Drives s (ack_slot s o end) i k
    drives_slot k h = subst (λ b. Drives s b i k) (sym slot_e) h

    reaches_same : (k : ℕ) → reaches_at s (ack_slot s o end) k i ≡ reaches_at s e k i
    reaches_same k = ap (λ b. reaches_at s b k i) slot_e

    S_next : S (suc n) ≡ e.place i + sample_at l
    S_next = ap (λ b. b.place i + sample_at l) next_is

    from_next : (bits (suc n)).from i ≡ e.from i
    from_next = ap (λ b. b.from i) next_is

    goes_as : BitIs l seen (S n) (e.place i) (e.from i) Dominant → Goes
    goes_as b =
        subst (λ x. BitIs l seen (S n) (x.place i) (x.from i) (level_of (bus (suc n)))) (sym next_is) (subst (BitIs l seen (S n) (e.place i) (e.from i)) (sym (ap level_of dominant_next)) b)

    last_dominant : (seen (S (suc n))).level ≡ Dominant
    last_dominant =
        level_at (S (suc n)) true sample_later (omega arith) (ap found S_slot ∙ hears.slot)

    record Answerer (q : ℕ) : Type 0 where
      by : ℕ
      there : by < s.count
      dominant : d by ≡ true
      reaches : reaches_at s e by i ≤ tick i q

    answerer_at : (q : ℕ) → S n < q → found q ≡ true → Answerer q
    answerer_at q after x =
        let w = hears.answered q (let f = S_end in omega arith) x in
        let reach = w.reaches in
        let same = reaches_same w.by in
        record { by = w.by; there = w.there; dominant = ap (λ b. b.drives w.by) (sym slot_e) ∙ w.dominant; reaches = omega arith }

    own_late : (w q : ℕ) → w ≡ i → reaches_at s e w i ≤ tick i q → q ≤ e.from i → ⊥
    own_late w q same reach by_from =
        let up = tick_next s are i inside q (e.from i) by_from in
        let loop = are.line.later i i inside inside in
        let f : reaches_at s e w i ≡ reaches_at s e i i = ap (λ k. reaches_at s e k i) same in
        omega arith

    silent_before : (stop : ℕ) → stop ≤ S (suc n) → stop ≤ e.from i → ((w : ℕ) → Drives s e i w → tick i stop < reaches_at s e w i)
        → (q : ℕ) → S n < q → q ≤ stop → (seen q).level ≡ Recessive
    silent_before stop by_next by_from unfound q after by_stop =
        level_at q false after (omega arith) (false_from_ne_true (found q) (λ x. (let w = answerer_at q after x in
        let reach = w.reaches in
        elim (cases_eq w.by i) [
          | inl mine ↦ own_late w.by q mine reach (omega arith)
          | inr other ↦
              (let un = unfound w.by (record { inside = w.there; other = other; dominant = w.dominant }) in
              let up = tick_next s are i inside q stop by_stop in
              absurd (omega arith))
        ])))

    alone_goes : BeginsAlone s e i → Goes
    alone_goes itself =
        let p = itself.place in
        let f = itself.from in
        let sn = S_next in
        let fn = from_next in
        let at_due = due_is in
        let up : tick i (e.place i) ≡ tick i (dues i) = ap (tick i) p in
        let up_due : tick i due ≡ tick i (dues i) = ap (tick i) due_is in
        let b = clocks.edges.own l seen ((bits n).place i) Recessive book (sampled_as Recessive (ap level_of quiet))
        (silent_before due (omega arith) (omega arith) (λ w x. (let un = itself.unfound w x in omega arith)))
        (λ q a c. sees.after q slot (omega arith) (omega arith) ∙ ap (λ k. wants s o (suc k) i) slot ∙ itself.dominant) in
        let same : due ≡ e.place i = due_is ∙ sym p in
        let same_from : due ≡ e.from i = due_is ∙ sym p ∙ sym f in
        goes_as
        (subst (λ x. BitIs l seen (S n) (e.place i) x Dominant) same_from
        (subst (λ x. BitIs l seen (S n) x due Dominant) same
        (subst (BitIs l seen (S n) due due) (ap (λ q. (seen q).level) (let g : due + sample_at l ≡ S (suc n) = omega arith in g) ∙ last_dominant) b)))

    module _ (f : FollowsSoft s e i) where
      jump_small : f.found ≤ due + sample_at l
      jump_small = elim (cases_lt (due + sample_at l) f.found) [
        | inl late ↦
            (let w = f.finds.by in
            let at_due = due_is in
            let unseen = f.finds.finds.unseen (due + sample_at l) late in
            let come = hears.in_time f.by (drives_slot f.by w) in
            let same : tick i (due + sample_at l) ≡ tick i (dues i + sample_at l) = ap (λ q. tick i (q + sample_at l)) due_is in
            let low_from = low s are d dues (suc (most s.count (λ k. tick k (dues k)))) f.by in
            let up = tick_next s are f.by w.inside (e.from f.by) (dues f.by) low_from in
            absurd (omega arith))
        | inr fits ↦ fits
      ]

      found_after : S n < f.found
      found_after = elim (cases_lt (S n) f.found) [
        | inl later ↦ later
        | inr sooner ↦
            (let w = f.finds.by in
            let before = hears.later f.by (drives_slot f.by w) in
            let reach_same = reaches_same f.by in
            let same : tick i (S n) ≡ tick i (S end) = ap (tick i) S_end in
            let seen_by = f.finds.finds.seen in
            let up = tick_next s are i inside f.found (S n) sooner in
            absurd (omega arith))
      ]

      found_by_next : f.found ≤ S (suc n)
      found_by_next =
          let sn = S_next in
          let p = f.place in
          let at_due = due_is in
          let small_jump = jump_small in
          let a = book.lengths.sjw_low in
          let b = book.lengths.prop_low in
          let c = book.lengths.ps1_low in
          omega arith

      silent_until : (q : ℕ) → S n < q → q < f.found → (seen q).level ≡ Recessive
      silent_until q a b =
          level_at q false a (let g = found_by_next in omega arith) (false_from_ne_true (found q) (λ x. (let w = answerer_at q a x in
          let reach = w.reaches in
          elim (cases_eq w.by i) [
            | inl mine ↦
                (let drives : e.drives i ≡ true = ap d (sym mine) ∙ w.dominant in
                let low_from = f.not_before drives in
                own_late w.by q mine reach (omega arith))
            | inr other ↦
                (let y = f.finds.first w.by (record { inside = w.there; other = other; dominant = w.dominant }) in
                let unseen = f.finds.finds.unseen q b in
                absurd (omega arith))
          ])))

      there_found : (q : ℕ) → f.found ≤ q → q ≤ e.place i + sample_at l → (seen q).level ≡ Dominant
      there_found q a b =
          let w = f.finds.by in
          let sn = S_next in
          let ss = S_slot in
          let seen_by = f.finds.finds.seen in
          let up = tick_next s are i inside f.found q a in
          level_at q true (let g = found_after in omega arith) (omega arith)
          (let same = reaches_same f.by in hears.lasts f.by q (drives_slot f.by w) (omega arith) (omega arith))

      driving_found : (f.found ≤ e.from i) ⊎ ((due < f.found) × (e.from i ≡ due)) → (seen f.found).driving ≡ false
      driving_found (inl by_from) =
          let fn = from_next in
          sees.before f.found slot found_after (omega arith)
          ∙ ap (λ k. wants s o k i) slot
          ∙ placing.delimiter_wants m s are room o is end valid over won i inside
      driving_found (inr late) =
          let fn = from_next in
          let past = late.0 in
          let from_due = late.1 in
          let at_due = due_is in
          sees.after f.found slot (omega arith) found_by_next
          ∙ ap (λ k. wants s o (suc k) i) slot
          ∙ false_from_ne_true (d i) (λ x. (let y = f.early x in absurd (omega arith)))

      finds_edge : (f.found ≤ e.from i) ⊎ ((due < f.found) × (e.from i ≡ due)) → FindsEdge l seen ((bits n).place i) f.found (e.place i + sample_at l)
      finds_edge when = record {
        sampled = sampled_as Recessive (ap level_of quiet);
        clock = has.steady quiet;
        after = found_after;
        silent = silent_until;
        there = there_found;
        awaits = sees.awaits f.found slot found_after found_by_next;
        driving = driving_found when;
      }

      place_by : e.place i ≡ moved_to (f.found - 1) l.sjw due
      place_by = f.place ∙ ap (moved_to (f.found - 1) l.sjw) (sym due_is)

      soft_goes : Goes
      soft_goes = elim (cases_lt due f.found) [
        | inl late ↦
            (let at_due = due_is in
            let from_is = from_late s are d dues i inside f (omega arith) ∙ sym due_is in
            goes_as (subst (λ x. BitIs l seen (S n) (e.place i) x Dominant) (sym from_is)
            (clocks.edges.late l seen ((bits n).place i) f.found (e.place i) book late jump_small place_by (finds_edge (inr (late, from_is))))))
        | inr early ↦
            (let at_due = due_is in
            let from_is = from_early s are d dues i inside f (omega arith) in
            let p = f.place in
            goes_as (subst (λ x. BitIs l seen (S n) (e.place i) x Dominant) (sym (from_is ∙ ap (max f.found) (sym p)))
            (clocks.edges.early l seen ((bits n).place i) f.found (e.place i) book early place_by (finds_edge (inl (omega arith))))))
      ]

    slot_goes : Goes
    slot_goes = elim begin [
      | inl itself ↦ alone_goes itself
      | inr soft ↦ soft_goes soft
    ]

    slot_next : HasSampled s o i seen (suc n)
    slot_next = record { sampled = slot_goes.samples.beat; steady = λ none. (let y = dominant_next in cc) }

  -- each place
  not_slot : place ≢ 1 → bus (suc n) ≡ false
  not_slot other = bus_next ∙ ne_eqb place 1 other

  right_there : place ≢ 1 → found (S (suc n)) ≡ false
  right_there other = elim (cases_eq place 0) [
    | inl first ↦
        (let same : suc n ≡ end = omega (arith, at, first) in
        ap (λ k. found (S k)) same ∙ hears.delimiter)
    | inr later ↦ hears.silent (S (suc n)) (later_sample (suc n) (omega (arith, at, other, later)))
  ]
    where
      later_sample : (k : ℕ) → suc (suc end) ≤ k → S (suc (suc end)) ≤ S k
      later_sample k less = placing.samples_up m s are room o is end valid over won (suc (suc end)) k i inside less

  silent_all : place ≢ 1 → bus n ≡ false → (q : ℕ) → S n < q → q ≤ S (suc n) → found q ≡ false
  silent_all other quiet q after by_next = elim (cases_eq place 0) [
    | inl first ↦
        (let same : suc n ≡ end = omega (arith, at, first) in
        let b : S (suc n) ≡ S end = ap S same in
        hears.before n q same quiet after (omega arith))
    | inr later ↦ elim (cases_eq place 2) [
      | inl second ↦
          (let same : suc end ≡ n = omega (arith, at, second) in
          let x = placing.bus_at m s are room o is end valid over won 1 (suc end) (omega arith) (omega arith) in
          let y : bus n ≡ true = ap bus (sym same) ∙ x in
          cc)
      | inr more ↦
          (let up = placing.samples_up m s are room o is end valid over won (suc (suc end)) n i inside (omega (arith, at, other, later, more)) in
          hears.silent q (omega arith))
    ]
  ]

  pub bit_goes : Goes
  bit_goes = elim (cases_eq place 1) [
    | inl slot ↦ slot_goes (omega (arith, at, slot))
    | inr other ↦ recessive_goes (not_slot other) (right_there other) (silent_all other)
  ]

  pub has_next : HasSampled s o i seen (suc n)
  has_next = elim (cases_eq place 1) [
    | inl slot ↦ slot_next (omega (arith, at, slot))
    | inr other ↦ recessive_next (not_slot other) (right_there other) (silent_all other)
  ]

  pub right_all : found (S (suc n)) ≡ bus (suc n)
  right_all = elim (cases_eq place 1) [
    | inl slot ↦
        (let same : n ≡ end = omega (arith, at, slot) in
        ap found (S_slot same) ∙ hears.slot ∙ sym (dominant_next same))
    | inr other ↦ right_there other ∙ sym (not_slot other)
  ]
