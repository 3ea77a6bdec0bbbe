-- The sender of one frame, from its acknowledgement to the next rest of the bus: what all drive up to there.
use Rattle.std.proofs.Common.{◌≡◌, ◌≢◌, ◌∙◌, ◌⊎◌, inl, inr, refl, sym, ap, subst, ℕ, suc, ◌+◌, ◌-◌, ◌*◌, ◌<◌, ◌≤◌, List, [], ◌∷◌, ◌++◌, length, min, Bool, false, arith}
use Rattle.std.specs.Prelude.{◌==◌}
use Rattle.std.proofs.lemmas.Bool.{cases_lt, cases_eq, ne_eqb}
use Rattle.std.proofs.Math.Nat.{mul-le-mul_right}
use Rattle.std.proofs.lemmas.List.{get_or_past}
use Rattle.wl_level.specs.declared.Level.{Level}
use Rattle.wl_level.specs.declared.Level.TheVariants.{Dominant, Recessive}
use Rattle.wl_level.specs.Levels.{is_dominant}
use Rattle.wl_segments.specs.Lengths.{sample_at, bit_quanta}
use Rattle.wl_sync.specs.declared.Beat.TheVariants.{Sample}
use Rattle.wl_sync.specs.declared.Seen.{Seen}
use Rattle.wl_sync.specs.Bits.{beat_of}
use Rattle.wl_sync.specs.Running.{clock_after}
use Rattle.wl_frame.specs.Grammar.{Content}
use Rattle.wl_machine.specs.Stretch.{Stretch}
use Rattle.wl_machine.specs.Judged.{awaits_start, drive_of}
use Rattle.wl_node.specs.declared.setup.Passed.{Passed}
use Rattle.wl_node.specs.History.{staying_history}
use Rattle.wl_phase.specs.Clocks.{Finds, steady_tick}
use Rattle.wl_phase.specs.Ways.{ByTheBook}
use Rattle.wl_phase.specs.InStep.{Sender, samples_from}
use Rattle.wl_phase.specs.Answer.{HearsAnswer, IsAnswered, SamplesNext, answer_begin, moved_sample, own_sample}
use Rattle.wl_plan.specs.Line.{Line}
use Rattle.wl_plan.specs.Simulation.{level, seen}
use Rattle.wl_buses.specs.BothProofs.Levels.{levels_before}
use Rattle.wl_buses.specs.BothProofs.Expected.{IsExpected, levels_found}
use Rattle.wl_buses.specs.OneSender.OneSender.{SenderBus, IsBus, IsListener, IsInStepWithAll, lengths_of, listener_of}
use Rattle.wl_buses.specs.OneSender.Through.{EndsInSlots}
use Rattle.wl_buses.proofs.OneSender.Alone.{sent, sent_before, sent_after}
use Rattle.wl_buses.proofs.BothProofs.Expecting.{driven_is, level_first, level_then, levels_same, seen_is}
use Rattle.wl_buses.proofs.OneSender.Frames as frames
use Rattle.wl_buses.proofs.OneSender.Nodes.{IsGoing, Does, beat_at, clock_at, does_same, node, sees_at, seen_are, sample_before}
use Rattle.wl_buses.proofs.OneSender.Planned as planned
use Rattle.wl_buses.proofs.OneSender.Planned.{Laws, IsHeard}
use Rattle.wl_buses.proofs.OneSender.Receiving.{sampled_place}
use Rattle.wl_buses.proofs.OneSender.Replies as replies
use Rattle.wl_buses.proofs.OneSender.Choosing as choosing
use Rattle.wl_buses.proofs.OneSender.Choosing.{StayLaws}
use Rattle.wl_buses.proofs.OneSender.Replies.{lasts, lasts_not_yet, lasts_no_more, lasts_now}
use Rattle.wl_buses.proofs.OneSender.Resting as resting
use Rattle.wl_buses.proofs.OneSender.Resting.{Rests, SendsNext}
use Rattle.wl_buses.proofs.OneSender.Settling as settling
use Rattle.wl_buses.proofs.OneSender.Silence.{CountsTo, Waits, IsSilentAt, counts_to, silent_at, ten_counted}
use Rattle.wl_buses.proofs.OneSender.Slots.{slot_sampled, stays, none_before}
use Rattle.wl_buses.proofs.OneSender.Speaking as speaking
use Rattle.wl_buses.proofs.OneSender.Tails.{after_sending, sent_first, sent_passed, sent_quiet}

module _ (laws : Laws) (stay : StayLaws) (b : SenderBus) (is : IsBus b) (meets : IsInStepWithAll b) (slots : EndsInSlots b) (t : ℕ) (rest : Rests laws.clocks b is t)
    (frame : Content) (y : List Level) (from m : ℕ) (sends : SendsNext laws.clocks b is t rest frame y from m) where
  abbrev l : Line
  l = b.line

  abbrev a : ℕ
  a = b.sender

  abbrev last : ℕ
  last = length y

  abbrev pub s : Sender
  s = record { clock = b.clocks a; bit_quanta = bit_quanta (lengths_of b a); from = from; bits = y ++ Recessive ∷ [] }

  abbrev pub S : ℕ → ℕ
  S i = sample_at (lengths_of b i)

  abbrev pub B : ℕ → ℕ
  B i = bit_quanta (lengths_of b i)

  abbrev pub tick : ℕ → ℕ → ℕ
  tick i k = steady_tick (b.clocks i) k

  abbrev pub base : ℕ → ℕ
  base n = from + n * B a

  abbrev begins : ℕ → ℕ
  begins n = tick a (base n)

  abbrev up : (i : ℕ) → i < l.nodes → (k n : ℕ) → k ≤ n → tick i k ≤ tick i n
  up = resting.up laws.clocks b is

  abbrev begins_later : (n k : ℕ) → n ≤ k → begins n ≤ begins k
  begins_later = speaking.begins_later laws.clocks laws.frame b is meets t rest frame y from m sends

  abbrev Heard : ℕ → Type 0
  Heard = IsHeard laws b is meets t rest frame y from m sends

  abbrev pub slot_sample : ℕ
  slot_sample = own_sample s (lengths_of b a) (suc last)

  abbrev begin : ℕ → ℕ
  begin = replies.begin laws stay b is meets slots t rest frame y from m sends

  abbrev end : ℕ → ℕ
  end = replies.end laws stay b is meets slots t rest frame y from m sends

  abbrev natural : ℕ → ℕ
  natural = choosing.natural laws stay b is meets slots t rest frame y from m sends

  abbrev natural_end : ℕ → ℕ
  natural_end = choosing.natural_end laws stay b is meets slots t rest frame y from m sends

  abbrev pub IsPlanned : ℕ → Type 0
  IsPlanned = replies.IsPlanned laws stay b is meets slots t rest frame y from m sends

  abbrev plan_of : (j : ℕ) → IsListener b j → IsPlanned j
  plan_of = replies.plan_of laws stay b is meets slots t rest frame y from m sends

  abbrev drove : ℕ → ℕ → Bool
  drove = replies.drove laws stay b is meets slots t rest frame y from m sends

  abbrev drove_old : (i u : ℕ) → u < t → drove i u ≡ level l i u
  drove_old = replies.drove_old laws stay b is meets slots t rest frame y from m sends

  abbrev drove_sender : (u : ℕ) → t ≤ u → drove a u ≡ sent y begins begins_later u
  drove_sender = replies.drove_sender laws stay b is meets slots t rest frame y from m sends

  abbrev drove_other : (i u : ℕ) → i ≢ a → t ≤ u → drove i u ≡ lasts (begin i) (end i) u
  drove_other = replies.drove_other laws stay b is meets slots t rest frame y from m sends

  abbrev lv : ℕ → ℕ → Level
  lv i = levels_found l drove i

  -- no acknowledgement has come there by then
  abbrev Unanswered : (i x : ℕ) → Type 0
  Unanswered i x = (j : ℕ) → IsPlanned j → x < begin j + l.delay j i

  abbrev AllOver : (i x : ℕ) → Type 0
  AllOver = replies.AllOver laws stay b is meets slots t rest frame y from m sends

  abbrev as_planned : (i k : ℕ) (inside : i < l.nodes) → Unanswered i (tick i k) → lv i k ≡ planned.levels laws b is meets t rest frame y from m sends i k
  as_planned = replies.as_planned laws stay b is meets slots t rest frame y from m sends

  abbrev silent_then : (i k : ℕ) (inside : i < l.nodes) → (rest.node i inside).start ≤ k → AllOver i (tick i k) → lv i k ≡ Recessive
  silent_then = replies.silent_then laws stay b is meets slots t rest frame y from m sends

  abbrev answered_then : (i k : ℕ) (inside : i < l.nodes) (j : ℕ) → (p : IsPlanned j) → begin j + l.delay j i ≤ tick i k → tick i k < end j + l.delay j i → lv i k ≡ Dominant
  answered_then = replies.answered_then laws stay b is meets slots t rest frame y from m sends

  abbrev lists_old : (i : ℕ) (inside : i < l.nodes) (k : ℕ) → k ≤ (rest.node i inside).start → levels_before (resting.actual laws.clocks b is i) k ≡ levels_before (lv i) k
  lists_old = replies.lists_old laws stay b is meets slots t rest frame y from m sends

  abbrev pub reply : (j : ℕ) → IsPlanned j → ℕ
  reply = replies.reply laws stay b is meets slots t rest frame y from m sends

  abbrev pub sample : (j : ℕ) → IsPlanned j → ℕ
  sample = replies.sample laws stay b is meets slots t rest frame y from m sends

  abbrev pub after : (j : ℕ) → (p : IsPlanned j) → Waits (sample j p + (lengths_of b j).ps2) (S j) (B j)
  after = replies.after laws stay b is meets slots t rest frame y from m sends

  abbrev over_by : (j : ℕ) (p : IsPlanned j) (k : ℕ) → sample j p + B j ≤ k → AllOver j (tick j k)
  over_by = replies.over_by laws stay b is meets slots t rest frame y from m sends

  -- it samples its own slot no later than two bits before that of its delimiter would be without an early edge
  sample_high : (j : ℕ) → (p : IsPlanned j) → sample j p ≤ p.nat.heard.quantum + B j
  sample_high j p = (replies.quanta_are laws stay b is meets slots t rest frame y from m sends j p.nat p.choice).sample_high

  pub rises : (i k : ℕ) → i < l.nodes → tick i k < tick i (suc k)
  rises i k inside =
      let next = is.causal.clocks i k inside in
      let e = is.ticks i k inside in
      let g = is.ticks i (suc k) inside in
      omega arith

  -- the sender
  abbrev book_a : ByTheBook (lengths_of b a)
  book_a = is.book a is.sender

  abbrev sent_frames : List Passed
  sent_frames = planned.sent_frames laws b is meets t rest frame y from m sends

  abbrev Frame : ℕ → Stretch
  Frame n = planned.Frame laws b is meets t rest frame y from m sends n

  abbrev DoesOwn : (passed : List Passed) (k : ℕ) (u : Stretch) (drive : Level) → Type 0
  DoesOwn = Does laws.clocks (b.setups a) (is.book a is.sender) (lv a)

  -- as it would be without acknowledgements
  abbrev alone : ℕ → Level
  alone = planned.levels laws b is meets t rest frame y from m sends a

  abbrev loop : (n : ℕ) → begins n + l.delay a a ≤ tick a (base n + S a)
  loop = speaking.loop laws.clocks laws.frame b is meets t rest frame y from m sends

  start_before_own : (rest.node a is.sender).start ≤ from
  start_before_own = speaking.start_before laws.clocks laws.frame b is meets t rest frame y from m sends

  abbrev pub delimiter : ℕ
  delimiter = own_sample s (lengths_of b a) last

  -- the acknowledgement that comes to it first
  abbrev pub IsFirst : ℕ → Type 0
  IsFirst = choosing.IsFirst laws stay b is meets slots t rest frame y from m sends

  pub the_first : (i : ℕ) × IsFirst i
  the_first = choosing.the_first laws stay b is meets slots t rest frame y from m sends

  module _ (i : ℕ) (f : IsFirst i) where
    abbrev nat : choosing.IsNatural laws stay b is meets slots t rest frame y from m sends i
    nat = choosing.natural_of laws stay b is meets slots t rest frame y from m sends i f.listener

    abbrev plan : IsPlanned i
    plan = plan_of i f.listener

    abbrev edge : ℕ
    edge = answer_begin (listener_of b i) (l.delay i a) nat.heard.quantum

    abbrev seen_own : ℕ → Seen
    seen_own = sees_at laws.clocks (b.setups a) (is.book a is.sender) (lv a)

    edge_is : edge ≡ natural i + l.delay i a
    edge_is = let e = nat.natural_is in omega arith

    it_begins : begin i ≡ natural i
    it_begins = let h = replies.stays_by laws stay b is meets slots t rest frame y from m sends i f.stays plan.nat plan.choice in plan.begin_is ∙ sym h.0

    it_ends : end i ≡ natural_end i
    it_ends = let h = replies.stays_by laws stay b is meets slots t rest frame y from m sends i f.stays plan.nat plan.choice in plan.end_is ∙ sym h.1

    none_before_edge : (k : ℕ) → tick a k < edge → Unanswered a (tick a k)
    none_before_edge k soon =
        let e = edge_is in
        replies.none_from laws stay b is meets slots t rest frame y from m sends a (tick a k) is.sender (λ j p. (let first_one = f.first j p in omega arith))

    -- it comes after the sample of the CRC delimiter, and by that of the slot
    answered : IsAnswered s (lengths_of b a) (listener_of b i) (l.delay i a) last nat.heard.quantum
    answered = planned.answered laws b is meets t rest frame y from m sends i nat.heard

    lists_before : (k : ℕ) → ((q : ℕ) → q < k → tick a q < edge) → levels_before alone k ≡ levels_before (lv a) k
    lists_before k soon = levels_same alone (lv a) k (λ q less. sym (as_planned a q is.sender (none_before_edge q (soon q less))))

    lists_delimited : (k : ℕ) → k ≤ suc delimiter → levels_before alone k ≡ levels_before (lv a) k
    lists_delimited k few =
        lists_before k (λ q less.
        (let after = answered.after in
        let rise = up a is.sender q delimiter (omega arith) in
        omega arith))

    quiet_own : (k : ℕ) → delimiter < k → tick a k < edge → lv a k ≡ Recessive
    quiet_own k low soon =
        let come = loop last in
        let rise = up a is.sender delimiter k (omega arith) in
        let start = start_before_own in
        as_planned a k is.sender (none_before_edge k soon) ∙ planned.finds_late laws b is meets t rest frame y from m sends a is.sender k (omega arith) (omega arith)

    next_slot : base (suc last) ≡ base last + B a
    next_slot = let e : suc last * B a ≡ last * B a + B a = omega arith in omega arith

    -- where it is when it finds that
    waits : (k : ℕ) → Finds (b.clocks a) k edge → DoesOwn sent_frames k (Frame (suc last)) Recessive
    waits k finds =
        let after = answered.after in
        let before = answered.before in
        let seen_it = finds.seen in
        let low : delimiter < k = elim (cases_lt delimiter k) [
          | inl less ↦ less
          | inr more ↦ (let rise = up a is.sender k delimiter more in absurd (omega arith))
        ] in
        let high : k ≤ slot_sample = elim (cases_lt slot_sample k) [
          | inl less ↦ (let unseen = finds.unseen slot_sample less in absurd (omega arith))
          | inr more ↦ more
        ] in
        does_same laws.clocks (b.setups a) (is.book a is.sender) alone (lv a) k (lists_before k (λ q less. finds.unseen q less)) (Frame (suc last)) Recessive
        (planned.delimited laws b is meets t rest frame y from m sends k low high)

    drive_none : drive_of (Frame (suc last)) ≡ Recessive
    drive_none = frames.sender_drives laws.frame frame sends.content y sends.stuffs (suc last) (omega arith) ∙ get_or_past y (suc last) Recessive (omega arith)

    hears : HearsAnswer s (lengths_of b a) (listener_of b i) (l.delay i a) last nat.heard.quantum seen_own
    hears = record {
      clock =
          ap (clock_after (lengths_of b a)) (sym (seen_are laws.clocks (b.setups a) (is.book a is.sender) (lv a) (suc delimiter)))
          ∙ ap (λ ls. clock_after (lengths_of b a) (staying_history (b.setups a) ls).seen) (sym (lists_delimited (suc delimiter) (omega arith)))
          ∙ speaking.delimited_clock laws.clocks laws.frame b is meets t rest frame y from m sends alone (planned.own laws b is meets t rest frame y from m sends);
      silent = quiet_own;
      there = λ k low soon. (let e = nat.natural_is in let g = nat.natural_end_is in let x = it_begins in let z = it_ends in answered_then a k is.sender i plan (omega arith) (omega arith));
      awaits = λ k finds. ap awaits_start (waits k finds).stretch
          ∙ ap (λ n. n == 0) (frames.own_length laws.frame frame sends.content y sends.stuffs (suc last) (omega arith)) ∙ ne_eqb (suc last) 0 (λ e. omega arith);
      driving = λ k finds. ap is_dominant (waits k finds).drives;
    }

    pub record SlotSample : Type 0 where
      pub found : ℕ
      pub finds : Finds (b.clocks a) found edge
      pub later : delimiter < found
      pub inside : found ≤ slot_sample
      pub quantum : ℕ
      pub quantum_is : quantum ≡ moved_sample (lengths_of b a) delimiter found
      pub near : slot_sample ≤ quantum + (lengths_of b a).sjw
      pub high : quantum ≤ slot_sample + (lengths_of b a).sjw
      pub next : SamplesNext (lengths_of b a) seen_own delimiter quantum Dominant

    pub slot_sampled_at : SlotSample
    slot_sampled_at =
        let r =
        stay.sampled s (lengths_of b a) (listener_of b i) (planned.seen_by laws b is meets t rest frame y from m sends i nat.heard.listener) seen_own nat.heard.found (l.delay i a) last nat.heard.quantum
        (is.steady a is.sender) (is.steady i nat.heard.listener.0) (is.book a is.sender) (is.book i nat.heard.listener.0) refl (meets.near i nat.heard.listener)
        (meets.answers i nat.heard.listener) nat.heard.sampled hears in
        let next : slot_sample ≡ delimiter + B a = (let e : suc last * B a ≡ last * B a + B a = omega arith in omega arith) in
        let less = r.2 in
        let more = r.3 in
        record {
          found = r.0;
          finds = r.1;
          later = r.2;
          inside = r.3;
          quantum = moved_sample (lengths_of b a) delimiter r.0;
          quantum_is = refl;
          near = omega arith;
          high = omega arith;
          next = r.4;
        }

    module _ (at_slot : SlotSample) where
      abbrev pub q : ℕ
      q = at_slot.quantum

      -- it samples that after that of the CRC delimiter
      pub q_late : delimiter < q
      q_late =
          let jump = (is.book a is.sender).lengths.sjw_half in
          let many = (is.book a is.sender).lengths.low in
          let near = at_slot.near in
          let here = next_slot in
          omega arith

      start_delimited : DoesOwn sent_frames (suc delimiter) (Frame (suc last)) Recessive
      start_delimited =
          let here = next_slot in
          let many = (is.book a is.sender).lengths.low in
          does_same laws.clocks (b.setups a) (is.book a is.sender) alone (lv a) (suc delimiter) (lists_delimited (suc delimiter) (omega arith)) (Frame (suc last)) Recessive
          (planned.delimited laws b is meets t rest frame y from m sends (suc delimiter) (omega arith) (omega arith))

      still_own : (k : ℕ) → delimiter < k → k ≤ q → DoesOwn sent_frames k (Frame (suc last)) Recessive
      still_own k low high =
          let place = at_slot.next.place in
          let here : suc delimiter + (k - suc delimiter) ≡ k = omega arith in
          let cut : (k - suc delimiter) + (q - k) ≡ at_slot.next.quanta = omega arith in
          subst (λ n. DoesOwn sent_frames n (Frame (suc last)) Recessive) here
          (stays laws.clocks laws.frame (b.setups a) (is.book a is.sender) (lv a) frame sends.content y sends.stuffs laws.listens.ways sent_frames (suc delimiter) (Frame (suc last)) drive_none start_delimited
          (k - suc delimiter)
          (none_before laws.clocks laws.frame (b.setups a) (is.book a is.sender) (lv a) frame sends.content y sends.stuffs laws.listens.ways sent_frames (suc delimiter) (k - suc delimiter) (q - k)
          (ap (samples_from (lengths_of b a) seen_own (suc delimiter)) cut ∙ at_slot.next.first)))

      slot_done : DoesOwn sent_frames (suc q) (Frame (suc (suc last))) Recessive
      slot_done =
          slot_sampled laws.clocks laws.frame (b.setups a) (is.book a is.sender) (lv a) frame sends.content y sends.stuffs laws.listens.ways sent_frames delimiter q start_delimited at_slot.next

      slot_beat : beat_at laws.clocks (b.setups a) (is.book a is.sender) (lv a) q ≡ Sample Dominant
      slot_beat = ap (λ v. beat_of (lengths_of b a) v (seen_own q)) (seen_are laws.clocks (b.setups a) (is.book a is.sender) (lv a) q) ∙ at_slot.next.beat

      slot_place : (longer : ℕ) × IsGoing laws.clocks (b.setups a) (is.book a is.sender) (lv a) sent_frames (suc q) (suc (S a)) longer false (Frame (suc (suc last))) Recessive
      slot_place =
          let r = sampled_place laws.clocks (b.setups a) (is.book a is.sender) (lv a) laws.listens.ways q Dominant slot_beat in
          (r.0, record { place = r.1; does = slot_done })

      slot_last : (clock_at laws.clocks (b.setups a) (is.book a is.sender) (lv a) (suc q)).sample ≡ Dominant
      slot_last = sample_before laws.clocks (b.setups a) (is.book a is.sender) (lv a) q Dominant slot_beat

      abbrev pub after_own : Waits (q + (lengths_of b a).ps2) (S a) (B a)
      after_own = after_sending laws.frame frame sends.content y sends.stuffs (q + (lengths_of b a).ps2) (S a) (B a) sent_frames

      -- all is over by its sample of the ACK delimiter, wherever the first acknowledgement put that
      pub natural_over : (j : ℕ) → (p : IsPlanned j) → natural_end j + l.delay j a ≤ tick a (q + B a)
      natural_over j p =
          let here = p.nat.natural_end_is in
          let later = at_slot.later in
          let quantum_is = at_slot.quantum_is in
          let next : slot_sample ≡ delimiter + B a = (let e : suc last * B a ≡ last * B a + B a = omega arith in omega arith) in
          let prop = (is.book a is.sender).lengths.prop_low in
          elim (cases_lt (delimiter + (lengths_of b a).ps2) at_slot.found) [
            | inl in_slot ↦
                (let inside = at_slot.inside in
                let two : own_sample s (lengths_of b a) (suc (suc last)) ≡ slot_sample + B a = (let g : suc (suc last) * B a ≡ suc last * B a + B a = omega arith in omega arith) in
                let low : slot_sample ≤ q = omega arith in
                let rise = up a is.sender (own_sample s (lengths_of b a) (suc (suc last))) (q + B a) (omega arith) in
                let by =
                stay.ends_there s (lengths_of b a) (listener_of b j) (planned.seen_by laws b is meets t rest frame y from m sends j p.nat.heard.listener) p.nat.heard.found (l.delay j a) last p.nat.heard.quantum
                (is.steady a is.sender) (is.steady j p.nat.heard.listener.0) (is.book a is.sender) (is.book j p.nat.heard.listener.0) refl (meets.near j p.nat.heard.listener)
                (meets.answers j p.nat.heard.listener) (slots.ends_there j p.nat.heard.listener) p.nat.heard.sampled in
                omega arith)
            | inr early ↦
                (let low : at_slot.found + (S a - 1) ≤ q = omega arith in
                let rise = up a is.sender (at_slot.found + (S a - 1) + B a) (q + B a) (omega arith) in
                elim (cases_eq i j) [
                  | inl it ↦
                      (let same : natural_end i ≡ natural_end j = ap natural_end it in
                      let d : l.delay i a ≡ l.delay j a = ap (λ n. l.delay n a) it in
                      let e = nat.natural_end_is in
                      let g = ap (λ n. steady_tick (b.clocks a) (n + B a)) quantum_is in
                      let by =
                      stay.moved_there s (lengths_of b a) (listener_of b i) (planned.seen_by laws b is meets t rest frame y from m sends i nat.heard.listener) nat.heard.found (l.delay i a) last nat.heard.quantum at_slot.found
                      (is.steady a is.sender) (is.steady i nat.heard.listener.0) (is.book a is.sender) (is.book i nat.heard.listener.0) refl (meets.near i nat.heard.listener)
                      (meets.answers i nat.heard.listener) (slots.ends_there i nat.heard.listener) nat.heard.sampled at_slot.finds at_slot.inside in
                      omega arith)
                  | inr third ↦
                      (let by =
                      stay.others s (listener_of b i) (listener_of b j) (b.clocks a) (lengths_of b a) (planned.seen_by laws b is meets t rest frame y from m sends i nat.heard.listener)
                      (planned.seen_by laws b is meets t rest frame y from m sends j p.nat.heard.listener) nat.heard.found p.nat.heard.found (l.delay i a) (l.delay j a) last nat.heard.quantum p.nat.heard.quantum at_slot.found
                      (is.steady a is.sender) (is.steady i nat.heard.listener.0) (is.steady j p.nat.heard.listener.0) (is.steady a is.sender)
                      (slots.moved i j a nat.heard.listener p.nat.heard.listener third is.sender (λ e. nat.heard.listener.1 (sym e)) (λ e. p.nat.heard.listener.1 (sym e)))
                      nat.heard.sampled p.nat.heard.sampled at_slot.finds.seen in
                      omega arith)
                ])
          ]

      pub over_own : (k : ℕ) → q + B a ≤ k → AllOver a (tick a k)
      over_own k late = record {
        bits =
            (let come = loop last in
            let low = q_late in
            let rise = up a is.sender (base last + S a) k (omega arith) in
            omega arith);
        answers = λ j p.
            (let e = p.end_is in
            let ends = replies.ends_by laws stay b is meets slots t rest frame y from m sends j p.nat p.choice in
            let by = natural_over j p in
            let rise = up a is.sender (q + B a) k late in
            omega arith);
      }

      silent_own : (k : ℕ) → q + B a ≤ k → lv a k ≡ Recessive
      silent_own k late =
          let e = start_before_own in
          let low = q_late in
          silent_then a k is.sender (omega arith) (over_own k late)

      settled_own : IsSilentAt laws.clocks (b.setups a) (is.book a is.sender) (lv a) (q + (lengths_of b a).ps2) after_own (suc (q + B a))
      settled_own =
          settling.settled laws.clocks (b.setups a) (is.book a is.sender) (lv a) sent_frames q slot_place.0 (Frame (suc (suc last))) Recessive
          (sent_quiet laws.frame frame sends.content y sends.stuffs) after_own
          (sent_first laws.frame frame sends.content y sends.stuffs (q + (lengths_of b a).ps2) (S a) (B a) sent_frames)
          (sent_passed laws.frame frame sends.content y sends.stuffs (q + (lengths_of b a).ps2) (S a) (B a) sent_frames 0) slot_place.1 slot_last (silent_own (q + B a) (omega arith))

      pub rests_own : (k : ℕ) → suc (q + B a) ≤ k → k ≤ q + 11 * B a
          → IsSilentAt laws.clocks (b.setups a) (is.book a is.sender) (lv a) (q + (lengths_of b a).ps2) after_own k
      rests_own k late soon =
          silent_at laws.clocks (b.setups a) (is.book a is.sender) (lv a) (q + (lengths_of b a).ps2) after_own (suc (q + B a)) (q + 11 * B a)
          (λ n low high. silent_own n (omega arith))
          (λ c many low high. (let bits : 10 * B a ≤ c * B a = mul-le-mul_right (B a) many in absurd (omega arith)))
          settled_own k late soon

      -- what it does at each quantum
      pub record DoingOwn (k : ℕ) : Type 0 where
        pub passed : List Passed
        pub stretch : Stretch
        pub drive : Level
        pub does : DoesOwn passed k stretch drive
        pub quiet : delimiter < k → drive ≡ Recessive
        pub count : ℕ
        pub gone : ((passed ≡ (rest.node a is.sender).waits.passed (min count 10)) × CountsTo (rest.node a is.sender).base (S a) (B a) k count)
            ⊎ ((passed ≡ after_own.passed (min count 10)) × CountsTo (q + (lengths_of b a).ps2) (S a) (B a) k count × (from < k))

      in_frame : (k : ℕ) (u : Stretch) (v : Level) → from < k → (delimiter < k → v ≡ Recessive) → DoesOwn sent_frames k u v → DoingOwn k
      in_frame k u v past none d =
          let ten : min 10 10 ≡ 10 = omega arith in
          record {
            passed = sent_frames;
            stretch = u;
            drive = v;
            does = d;
            quiet = none;
            count = 10;
            gone = inl (
              ap (rest.node a is.sender).waits.passed (sym ten),
              ten_counted (rest.node a is.sender).base (S a) (B a) k
                  (let e = sends.from_is in let bits : 11 * B a ≤ suc m * B a = mul-le-mul_right (B a) (let many = sends.decides.idle in omega arith) in let more : 11 * B a ≡ 9 * B a + 2 * B a = omega arith in omega arith),
            );
          }

      pub doing_own : (k : ℕ) → (rest.node a is.sender).start ≤ k → k ≤ q + 11 * B a → DoingOwn k
      doing_own k late soon =
          let here = next_slot in
          let few = (is.book a is.sender).lengths.ps2_low in
          let low = q_late in
          elim (cases_lt from k) [
            | inr idle ↦
                (let bits : 0 * B a ≤ last * B a = mul-le-mul_right (B a) (omega arith) in
                let d = speaking.still laws.clocks laws.frame b is meets t rest frame y from m sends alone (planned.own laws b is meets t rest frame y from m sends) k late idle in
                record {
                  passed = (rest.node a is.sender).waits.passed (min d.0 10);
                  stretch = d.1;
                  drive = Recessive;
                  does = does_same laws.clocks (b.setups a) (is.book a is.sender) alone (lv a) k (lists_delimited k (omega arith)) d.1 Recessive d.2;
                  quiet = λ w. refl;
                  count = d.0;
                  gone = inl (refl, d.3);
                })
            | inl speaking_now ↦ elim (cases_lt delimiter k) [
              | inr bits ↦
                  (let d = speaking.speaks laws.clocks laws.frame b is meets t rest frame y from m sends alone (planned.own laws b is meets t rest frame y from m sends) k speaking_now (omega arith) in
                  in_frame k (Frame d.0) d.1 speaking_now (λ w. absurd (omega arith))
                  (does_same laws.clocks (b.setups a) (is.book a is.sender) alone (lv a) k (lists_delimited k (omega arith)) (Frame d.0) d.1 d.2))
              | inl slot ↦ elim (cases_lt q k) [
                | inr before_it ↦ in_frame k (Frame (suc last)) Recessive speaking_now (λ w. refl) (still_own k (omega arith) before_it)
                | inl past ↦ elim (cases_lt (q + B a) k) [
                  | inl idle ↦
                      (let r = rests_own k idle soon in
                      record {
                        passed = after_own.passed (min r.count 10);
                        stretch = r.stretch;
                        drive = Recessive;
                        does = r.going.does;
                        quiet = λ w. refl;
                        count = r.count;
                        gone = inr (refl, counts_to laws.clocks (b.setups a) (is.book a is.sender) (lv a) (q + (lengths_of b a).ps2) after_own k r, speaking_now);
                      })
                  | inr delimiting ↦ in_frame k (Frame (suc (suc last))) Recessive speaking_now (λ w. refl) (settles k past delimiting)
                ]
              ]
            ]
          ]
        where
          settles : (k : ℕ) → q < k → k ≤ q + B a → DoesOwn sent_frames k (Frame (suc (suc last))) Recessive
          settles k past delimiting = elim (cases_lt (q + (lengths_of b a).ps2) k) [
            | inr slot ↦
                settling.between laws.clocks (b.setups a) (is.book a is.sender) (lv a) sent_frames q slot_place.0 (Frame (suc (suc last))) Recessive
                (sent_quiet laws.frame frame sends.content y sends.stuffs) after_own
                (sent_first laws.frame frame sends.content y sends.stuffs (q + (lengths_of b a).ps2) (S a) (B a) sent_frames)
                (sent_passed laws.frame frame sends.content y sends.stuffs (q + (lengths_of b a).ps2) (S a) (B a) sent_frames 0) slot_place.1 slot_last k past slot
            | inl over ↦
                settling.delimiting laws.clocks (b.setups a) (is.book a is.sender) (lv a) sent_frames q slot_place.0 (Frame (suc (suc last))) Recessive
                (sent_quiet laws.frame frame sends.content y sends.stuffs) after_own
                (sent_first laws.frame frame sends.content y sends.stuffs (q + (lengths_of b a).ps2) (S a) (B a) sent_frames)
                (sent_passed laws.frame frame sends.content y sends.stuffs (q + (lengths_of b a).ps2) (S a) (B a) sent_frames 0) slot_place.1 slot_last k over delimiting
          ]

      drives_own : (k u : ℕ) → (rest.node a is.sender).start ≤ suc k → suc k ≤ q + 11 * B a → t ≤ u → tick a k ≤ u → u < tick a (suc k)
          → drove a u ≡ is_dominant (node laws.clocks (b.setups a) (is.book a is.sender) (lv a) (suc k)).drive
      drives_own k u late soon from_then low high =
          let here = next_slot in
          let few = (is.book a is.sender).lengths.ps2_low in
          drove_sender u from_then
          ∙ elim (cases_lt k delimiter) [
            | inl bits ↦
                (let rise = up a is.sender (suc k) slot_sample (omega arith) in
                sym (planned.sender_sends laws b is meets t rest frame y from m sends a u refl from_then)
                ∙ planned.sender_drives laws b is meets t rest frame y from m sends (tick a slot_sample) (omega arith) k u from_then (omega arith) low high
                ∙ ap (λ ls. is_dominant (staying_history (b.setups a) ls).drive) (lists_delimited (suc k) (omega arith)))
            | inr over ↦
                (let d = doing_own (suc k) late soon in
                let rise = up a is.sender (base last) k (omega arith) in
                sent_after y begins begins_later u (omega arith) ∙ sym (ap is_dominant (d.does.drives ∙ d.quiet (omega arith))))
          ]

      drives_other : (j : ℕ) → (p : IsPlanned j) → (k u : ℕ) → (rest.node j p.nat.heard.listener.0).start ≤ suc k → t ≤ u → tick j k ≤ u → u < tick j (suc k)
          → drove j u ≡ is_dominant (node laws.clocks (b.setups j) (is.book j p.nat.heard.listener.0) (lv j) (suc k)).drive
      drives_other j p k u late from_then low high =
          let d = replies.doing laws stay b is meets slots t rest frame y from m sends j p (suc k) late in
          let e = p.begin_is in
          let g = p.end_is in
          let inside = p.nat.heard.listener.0 in
          drove_other j u p.nat.heard.listener.1 from_then
          ∙ elim (cases_lt k (reply j p)) [
            | inl early ↦
                (let rise = up j p.nat.heard.listener.0 (suc k) (reply j p) early in
                lasts_not_yet (begin j) (end j) u (omega arith) ∙ sym (ap is_dominant (d.does.drives ∙ d.quiet (inl early))))
            | inr past ↦ elim (cases_lt k (sample j p + (lengths_of b j).ps2)) [
              | inl in_it ↦
                  (let rise = up j p.nat.heard.listener.0 (reply j p) k past in
                  let fall = up j p.nat.heard.listener.0 (suc k) (sample j p + (lengths_of b j).ps2) in_it in
                  lasts_now (begin j) (end j) u (omega arith) (omega arith) ∙ sym (ap is_dominant (d.does.drives ∙ d.loud (omega arith) in_it)))
              | inr over ↦
                  (let rise = up j p.nat.heard.listener.0 (sample j p + (lengths_of b j).ps2) k over in
                  lasts_no_more (begin j) (end j) u (omega arith) ∙ sym (ap is_dominant (d.does.drives ∙ d.quiet (inr (omega arith)))))
            ]
          ]

      -- up to a tick at which all is over, that is what all drive
      abbrev pub next_rest : ℕ
      next_rest = tick a (q + 5 * B a)

      abbrev pub cut : ℕ
      cut = min next_rest l.stop

      expected : IsExpected l (λ i. cut) drove
      expected = record {
        near = λ i j in_ jn. omega arith;
        inside = λ i inside. omega arith;
        before = before;
        drives = drives;
      }
        where
          before : (i u : ℕ) → i < l.nodes → u < cut → u < l.instant i 0 → drove i u ≡ false
          before i u inside soon early = elim (cases_lt u t) [
            | inl old ↦ drove_old i u old ∙ level_first laws.simulation l is.causal i u inside early
            | inr late ↦ elim (cases_eq i a) [
              | inl here ↦
                  (let e = is.ticks i 0 inside in
                  let g : tick i 0 ≡ tick a 0 = ap (λ n. tick n 0) here in
                  let rise = up a is.sender 0 (base 0) (omega arith) in
                  subst (λ n. drove n u ≡ false) (sym here) (drove_sender u late ∙ sent_before y begins begins_later u (omega arith)))
              | inr apart ↦
                  (let p = plan_of i (inside, apart) in
                  let e = is.ticks i 0 inside in
                  let g = p.begin_is in
                  let rise = up i inside 0 (reply i p) (omega arith) in
                  drove_other i u apart late ∙ lasts_not_yet (begin i) (end i) u (omega arith))
            ]
          ]

          drives : (i k u : ℕ) → i < l.nodes → u < cut → l.instant i k ≤ u → u < l.instant i (suc k) → drove i u ≡ l.drives i (levels_before (levels_found l drove i) (suc k))
          drives i k u inside soon low high =
              let e = is.ticks i k inside in
              let g = is.ticks i (suc k) inside in
              elim (cases_lt u t) [
                | inl old ↦
                    (let few : suc k ≤ (rest.node i inside).start = elim (cases_lt k (rest.node i inside).start) [
                      | inl less ↦ less
                      | inr more ↦ (let after = (rest.node i inside).after in let rise = up i inside (rest.node i inside).start k more in absurd (omega arith))
                    ] in
                    drove_old i u old ∙ level_then laws.simulation l is.causal i k u inside (omega arith) low high ∙ ap (l.drives i) (lists_old i inside (suc k) few))
                | inr late ↦
                    (let begun : (rest.node i inside).start ≤ suc k = elim (cases_lt (suc k) (rest.node i inside).start) [
                      | inl less ↦ (let before = (rest.node i inside).before (suc k) less in absurd (omega arith))
                      | inr more ↦ more
                    ] in
                    elim (cases_eq i a) [
                      | inl here ↦ by_sender here late begun
                      | inr apart ↦ by_other apart late
                    ])
              ]
            where
              by_sender : i ≡ a → t ≤ u → (rest.node i inside).start ≤ suc k → drove i u ≡ l.drives i (levels_before (levels_found l drove i) (suc k))
              by_sender here late begun =
                  let e = is.ticks i k inside in
                  let g = is.ticks i (suc k) inside in
                  let h : tick i k ≡ tick a k = ap (λ n. tick n k) here in
                  let m : tick i (suc k) ≡ tick a (suc k) = ap (λ n. tick n (suc k)) here in
                  let few : k < q + 5 * B a = elim (cases_lt k (q + 5 * B a)) [
                    | inl less ↦ less
                    | inr more ↦ (let rise = up a is.sender (q + 5 * B a) k more in absurd (omega arith))
                  ] in
                  let some = (is.book a is.sender).lengths.low in
                  let start : (rest.node a is.sender).start ≤ suc k = elim (cases_lt (suc k) (rest.node a is.sender).start) [
                    | inl less ↦ (let before = (rest.node a is.sender).before (suc k) less in absurd (omega arith))
                    | inr more ↦ more
                  ] in
                  subst (λ n. drove n u ≡ l.drives n (levels_before (levels_found l drove n) (suc k))) (sym here)
                  (drives_own k u start (omega arith) late (omega arith) (omega arith) ∙ sym (is.drives a (levels_before (levels_found l drove a) (suc k)) is.sender))

              by_other : i ≢ a → t ≤ u → drove i u ≡ l.drives i (levels_before (levels_found l drove i) (suc k))
              by_other apart late =
                  let p = plan_of i (inside, apart) in
                  let e = is.ticks i k inside in
                  let g = is.ticks i (suc k) inside in
                  let start : (rest.node i p.nat.heard.listener.0).start ≤ suc k = elim (cases_lt (suc k) (rest.node i p.nat.heard.listener.0).start) [
                    | inl less ↦ (let before = (rest.node i p.nat.heard.listener.0).before (suc k) less in absurd (omega arith))
                    | inr more ↦ more
                  ] in
                  drives_other i p k u start late (omega arith) (omega arith) ∙ sym (is.drives i (levels_before (levels_found l drove i) (suc k)) inside)

      pub agree : (i u : ℕ) → i < l.nodes → u < cut → level l i u ≡ drove i u
      agree = driven_is laws.simulation l (λ i. cut) drove is.causal expected

      pub lists_then : (i k : ℕ) → i < l.nodes → ((n : ℕ) → n < k → l.instant i n < cut) → seen l i k ≡ levels_before (lv i) k
      lists_then i k inside before = seen_is laws.simulation l (λ i. cut) drove is.causal expected i k inside before

      -- How near the nodes are to each other then: so many bits of a listener, beside those of the sender from its sample of the slot.
      bits_after : (j : ℕ) → (p : IsPlanned j) → (c : ℕ) → c ≤ 9 → tick j (p.nat.heard.quantum + (2 + c) * B j) ≤ tick a (q + B a + suc c * B a)
      bits_after j p c few =
          let by = natural_over j p in
          let e = p.nat.natural_end_is in
          let some = is.causal.delays j a p.nat.heard.listener.0 is.sender in
          stay.later s (listener_of b j) (l.delay j a) p.nat.heard.quantum (q + B a) c (is.steady a is.sender) (is.steady j p.nat.heard.listener.0) (is.book j p.nat.heard.listener.0)
          (meets.near j p.nat.heard.listener) some few (omega arith)

      pub late_listener : (j : ℕ) → (p : IsPlanned j) → tick j (sample j p + B j) < next_rest
      late_listener j p =
          let high = sample_high j p in
          let near = bits_after j p 0 (omega arith) in
          let rise = up j p.nat.heard.listener.0 (sample j p + B j) (p.nat.heard.quantum + (2 + 0) * B j) (omega arith) in
          let some = (is.book a is.sender).lengths.low in
          let one : 1 * B a ≡ B a = omega arith in
          let next = rises a (q + B a + 1 * B a) is.sender in
          let more = up a is.sender (suc (q + B a + 1 * B a)) (q + 5 * B a) (omega arith) in
          omega arith

      -- the next start of frame comes to each listener after the second bit of its intermission
      pub spaced_next : (j : ℕ) → (p : IsPlanned j) → (k : ℕ) → 10 ≤ k
          → tick j (sample j p + (lengths_of b j).ps2 + 9 * B j + S j) < tick a (q + (lengths_of b a).ps2 + suc k * B a) + l.delay a j
      spaced_next j p k many =
          let high = sample_high j p in
          let near = bits_after j p 9 (omega arith) in
          let eleven : sample j p + (lengths_of b j).ps2 + 9 * B j + S j ≤ p.nat.heard.quantum + (2 + 9) * B j = omega arith in
          let rise = up j p.nat.heard.listener.0 (sample j p + (lengths_of b j).ps2 + 9 * B j + S j) (p.nat.heard.quantum + (2 + 9) * B j) eleven in
          let bits : 11 * B a ≤ suc k * B a = mul-le-mul_right (B a) (omega arith) in
          let more = up a is.sender (q + B a + 10 * B a) (q + (lengths_of b a).ps2 + suc k * B a) (omega arith) in
          let some = is.causal.delays a j is.sender p.nat.heard.listener.0 in
          omega arith

      -- and each receives the frame before the sender has sent it
      pub received_before : (j : ℕ) → (p : IsPlanned j) → tick j (sample j p + (lengths_of b j).ps2 + 6 * B j + S j) ≤ tick a (q + (lengths_of b a).ps2 + 7 * B a + S a)
      received_before j p =
          let high = sample_high j p in
          let near = bits_after j p 6 (omega arith) in
          let eight : sample j p + (lengths_of b j).ps2 + 6 * B j + S j ≤ p.nat.heard.quantum + (2 + 6) * B j = omega arith in
          let rise = up j p.nat.heard.listener.0 (sample j p + (lengths_of b j).ps2 + 6 * B j + S j) (p.nat.heard.quantum + (2 + 6) * B j) eight in
          let place : q + B a + 7 * B a ≡ q + (lengths_of b a).ps2 + 7 * B a + S a = omega arith in
          let same = ap (steady_tick (b.clocks a)) place in
          omega arith
