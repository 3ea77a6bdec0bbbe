-- One frame of a bus with one sender, from its rest to the acknowledgements: one that is early moves the nodes to which it comes first, and each is over in time.
use Rattle.std.proofs.Common.{◌≡◌, ◌≢◌, ◌∙◌, ◌⊎◌, inl, inr, refl, sym, ap, subst, ℕ, suc, ◌+◌, ◌-◌, ◌*◌, ◌<◌, ◌≤◌, List, [], ◌∷◌, ◌++◌, length, min, Bool, true, false, cond, ◌||◌, ◌&&◌, arith}
use Rattle.std.specs.Prelude.{nat_le, nat_lt, ◌==◌}
use Rattle.std.proofs.lemmas.Bool.{cases_lt, cases_eq, and_from, and_left, and_right, le-leb, lt-leb, lt-ltb, le-ltb, eq-eqb, ne_eqb}
use Rattle.wl_level.specs.declared.Level.{Level}
use Rattle.wl_level.specs.declared.Level.TheVariants.{Dominant, Recessive}
use Rattle.wl_level.specs.Levels.{level_of}
use Rattle.wl_segments.specs.Lengths.{sample_at, bit_quanta}
use Rattle.wl_sync.specs.Running.{clock_after}
use Rattle.wl_frame.specs.Grammar.{Content}
use Rattle.wl_machine.specs.Stretch.{Stretch}
use Rattle.wl_node.specs.declared.setup.Passed.{Passed}
use Rattle.wl_node.specs.History.{staying_history}
use Rattle.wl_buses.specs.BothProofs.Queues.{head_at}
use Rattle.wl_buses.proofs.BothProofs.Heads.{head_none}
use Rattle.wl_phase.specs.Clocks.{steady_tick}
use Rattle.wl_phase.specs.Ways.{ByTheBook}
use Rattle.wl_phase.specs.InStep.{Sender}
use Rattle.wl_phase.specs.Answer.{FindsEarly, answer_begin, answer_end}
use Rattle.wl_plan.specs.Line.{Line}
use Rattle.wl_plan.specs.Simulation.{level}
use Rattle.wl_buses.specs.BothProofs.Levels.{levels_before}
use Rattle.wl_buses.specs.BothProofs.Expected.{levels_found}
use Rattle.wl_buses.specs.OneSender.OneSender.{SenderBus, IsBus, IsListener, IsInStepWithAll, lengths_of, listener_of}
use Rattle.wl_buses.specs.OneSender.Through.{EndsInSlots}
use Rattle.wl_buses.proofs.OneSender.Drove as all_drove
use Rattle.wl_buses.proofs.OneSender.Alone.{sent, sent_after}
use Rattle.wl_buses.proofs.OneSender.Answering as answering
use Rattle.wl_buses.proofs.OneSender.Choosing as choosing
use Rattle.wl_buses.proofs.OneSender.Choosing.{StayLaws}
use Rattle.wl_buses.proofs.OneSender.Moving as moving
use Rattle.wl_buses.proofs.OneSender.Bits.{at_place}
use Rattle.wl_buses.proofs.BothProofs.Expecting.{levels_same}
use Rattle.wl_buses.proofs.OneSender.Nodes.{IsGoing, Does, clock_at, node, does_same, going_same}
use Rattle.wl_buses.proofs.OneSender.Planned as planned
use Rattle.wl_buses.proofs.OneSender.Planned.{Laws, IsHeard}
use Rattle.wl_buses.proofs.OneSender.Resting as resting
use Rattle.wl_buses.proofs.OneSender.Resting.{Rests, RestsAt, SendsNext}
use Rattle.wl_buses.proofs.OneSender.Settling as settling
use Rattle.wl_buses.proofs.OneSender.Silence.{CountsTo, Waits, IsSilentAt, left_none, silent_at, silent_same, ten_counted}
use Rattle.wl_buses.proofs.OneSender.Speaking as speaking
use Rattle.wl_buses.proofs.OneSender.Speaking.{comes_back}
use Rattle.wl_buses.proofs.OneSender.Tails.{after_receiving, received_first, received_passed, received_quiet}
use Rattle.wl_buses.proofs.OneSender.Listeners.{Numbers, number_is, number_of}

-- a level on the line from a tick to another one
abbrev pub lasts : (from to : ℕ) → ℕ → Bool
lasts from to u = nat_le from u && nat_lt u to

pub lasts_not_yet : (from to u : ℕ) → u < from → lasts from to u ≡ false
lasts_not_yet from to u h = and_left (nat_le from u) (nat_lt u to) (lt-leb from u h)

pub lasts_no_more : (from to u : ℕ) → to ≤ u → lasts from to u ≡ false
lasts_no_more from to u h = and_right (nat_le from u) (nat_lt u to) (le-ltb u to h)

pub lasts_now : (from to u : ℕ) → from ≤ u → u < to → lasts from to u ≡ true
lasts_now from to u low high = and_from (nat_le from u) (nat_lt u to) (le-leb from u low) (lt-ltb u to high)

module _ (laws : Laws) (stay : StayLaws) (b : SenderBus) (is : IsBus b) (meets : IsInStepWithAll b) (slots : EndsInSlots b) (t : ℕ) (rest : Rests laws.clocks b is t)
    (frame : Content) (y : List Level) (from m : ℕ) (sends : SendsNext laws.clocks b is t rest frame y from m) where
  abbrev pub l : Line
  l = b.line

  abbrev pub a : ℕ
  a = b.sender

  abbrev pub last : ℕ
  last = length y

  abbrev pub s : Sender
  s = record { clock = b.clocks a; bit_quanta = bit_quanta (lengths_of b a); from = from; bits = y ++ Recessive ∷ [] }

  abbrev pub S : ℕ → ℕ
  S i = sample_at (lengths_of b i)

  abbrev pub B : ℕ → ℕ
  B i = bit_quanta (lengths_of b i)

  abbrev pub tick : ℕ → ℕ → ℕ
  tick i k = steady_tick (b.clocks i) k

  abbrev pub base : ℕ → ℕ
  base n = from + n * B a

  abbrev pub begins : ℕ → ℕ
  begins n = tick a (base n)

  abbrev up : (i : ℕ) → i < l.nodes → (k n : ℕ) → k ≤ n → tick i k ≤ tick i n
  up = resting.up laws.clocks b is

  abbrev begins_later : (n k : ℕ) → n ≤ k → begins n ≤ begins k
  begins_later = speaking.begins_later laws.clocks laws.frame b is meets t rest frame y from m sends

  abbrev Heard : ℕ → Type 0
  Heard = IsHeard laws b is meets t rest frame y from m sends

  abbrev answer : (j : ℕ) → Heard j → ℕ
  answer = planned.answer laws b is meets t rest frame y from m sends

  abbrev pub natural : ℕ → ℕ
  natural = choosing.natural laws stay b is meets slots t rest frame y from m sends

  abbrev pub natural_end : ℕ → ℕ
  natural_end = choosing.natural_end laws stay b is meets slots t rest frame y from m sends

  abbrev pub IsNatural : ℕ → Type 0
  IsNatural = choosing.IsNatural laws stay b is meets slots t rest frame y from m sends

  abbrev natural_of : (j : ℕ) → IsListener b j → IsNatural j
  natural_of = choosing.natural_of laws stay b is meets slots t rest frame y from m sends

  abbrev pub Stays : ℕ → Type 0
  Stays = choosing.Stays laws stay b is meets slots t rest frame y from m sends

  abbrev pub Comes : ℕ → Type 0
  Comes = choosing.Comes laws stay b is meets slots t rest frame y from m sends

  -- the quantum with which a listener begins its acknowledgement, and that of its sample of the ACK slot
  pub reply_by : (j : ℕ) → (v : IsNatural j) → (Stays j ⊎ Comes j) → ℕ
  reply_by j v (inl stays) = answer j v.heard
  reply_by j v (inr comes) = (moving.replies laws stay b is meets slots t rest frame y from m sends j v comes).reply

  pub sample_by : (j : ℕ) → (v : IsNatural j) → (Stays j ⊎ Comes j) → ℕ
  sample_by j v (inl stays) = answer j v.heard + S j
  sample_by j v (inr comes) = moving.sample laws stay b is meets slots t rest frame y from m sends j v comes

  abbrev chosen : (j : ℕ) → IsListener b j → Stays j ⊎ Comes j
  chosen = choosing.chosen laws stay b is meets slots t rest frame y from m sends

  -- when it begins, and ends
  abbrev begins_at : Numbers b
  begins_at j p = tick j (reply_by j (natural_of j p) (chosen j p))

  abbrev ends_at : Numbers b
  ends_at j p = tick j (sample_by j (natural_of j p) (chosen j p) + (lengths_of b j).ps2)

  pub begin : ℕ → ℕ
  begin j = number_of b begins_at 0 j

  pub end : ℕ → ℕ
  end j = number_of b ends_at 0 j

  pub record IsPlanned (j : ℕ) : Type 0 where
    pub nat : IsNatural j
    pub choice : Stays j ⊎ Comes j
    pub begin_is : begin j ≡ tick j (reply_by j nat choice)
    pub end_is : end j ≡ tick j (sample_by j nat choice + (lengths_of b j).ps2)

  pub plan_of : (j : ℕ) → IsListener b j → IsPlanned j
  unfolding begin end
  plan_of j p =
      let n = number_is b j p in
      record { nat = natural_of j n.0; choice = chosen j n.0; begin_is = n.1 begins_at 0; end_is = n.1 ends_at 0 }

  -- what is known of these quanta: the sample comes no later than without, and the acknowledgement begins no earlier than where another one comes
  pub record AreQuanta (j : ℕ) (v : IsNatural j) (c : Stays j ⊎ Comes j) : Type 0 where
    pub sample_high : sample_by j v c ≤ v.heard.quantum + B j
    pub sample_late : v.heard.quantum < sample_by j v c
    pub reply_late : v.heard.quantum < reply_by j v c
    pub begins : (natural j ≡ tick j (reply_by j v c)) ⊎ ((i : ℕ) × IsListener b i × (natural i + l.delay i j ≤ tick j (reply_by j v c)))

  pub quanta_are : (j : ℕ) (v : IsNatural j) (c : Stays j ⊎ Comes j) → AreQuanta j v c
  unfolding reply_by sample_by
  quanta_are j v (inl stays) =
      let low = (is.book j v.heard.listener.0).lengths.ps2_low in
      record { sample_high = omega arith; sample_late = omega arith; reply_late = omega arith; begins = inl v.natural_is }
  quanta_are j v (inr comes) =
      let r = moving.replies laws stay b is meets slots t rest frame y from m sends j v comes in
      let e = moving.early laws stay b is meets slots t rest frame y from m sends j v comes in
      let low = moving.sample_low laws stay b is meets slots t rest frame y from m sends j v comes in
      let after = e.1.after in
      let from_it = r.low in
      let seen_it = e.1.finds.seen in
      let by_it = (natural_of comes.by comes.listener).natural_is in
      let rise = up j v.heard.listener.0 e.0 r.reply r.low in
      record {
        sample_high = moving.sample_high laws stay b is meets slots t rest frame y from m sends j v comes;
        sample_late = omega arith;
        reply_late = omega arith;
        begins = inr (comes.by, comes.listener, omega arith);
      }

  -- one to which none comes begins and ends its own as if it were alone
  pub stays_by : (j : ℕ) → Stays j → (v : IsNatural j) (c : Stays j ⊎ Comes j) → (natural j ≡ tick j (reply_by j v c)) × (natural_end j ≡ tick j (sample_by j v c + (lengths_of b j).ps2))
  unfolding reply_by sample_by
  stays_by j alone v (inl stays) =
      let e : answer j v.heard + B j ≡ answer j v.heard + S j + (lengths_of b j).ps2 = omega arith in
      (v.natural_is, v.natural_end_is ∙ ap (steady_tick (b.clocks j)) e)
  stays_by j alone v (inr comes) =
      let late = alone comes.by comes.listener comes.apart in
      let soon = comes.soon in
      absurd (omega arith)

  -- and no other one ends later than that
  pub ends_by : (j : ℕ) (v : IsNatural j) (c : Stays j ⊎ Comes j) → tick j (sample_by j v c + (lengths_of b j).ps2) ≤ natural_end j
  ends_by j v c =
      let high = (quanta_are j v c).sample_high in
      let e = v.natural_end_is in
      let rise = up j v.heard.listener.0 (sample_by j v c + (lengths_of b j).ps2) (answer j v.heard + B j) (omega arith) in
      omega arith

  -- it begins after the rest
  pub begin_late : (j : ℕ) → (p : IsPlanned j) → t ≤ begin j
  begin_late j p =
      let r = rest.node j p.nat.heard.listener.0 in
      let late = planned.quantum_late laws b is meets t rest frame y from m sends j p.nat.heard in
      let reply_late = (quanta_are j p.nat p.choice).reply_late in
      let rise = up j p.nat.heard.listener.0 (rest.node j p.nat.heard.listener.0).start (reply_by j p.nat p.choice) (omega arith) in
      let after = r.after in
      let e = p.begin_is in
      omega arith

  -- what all drive
  pub drives_then : ℕ → ℕ → Bool
  drives_then i u = cond (i == a) (sent y begins begins_later u) (lasts (begin i) (end i) u)

  then_sender : (i u : ℕ) → i ≡ a → drives_then i u ≡ sent y begins begins_later u
  unfolding drives_then
  then_sender i u here = rw (eq-eqb i a here) refl

  then_other : (i u : ℕ) → i ≢ a → drives_then i u ≡ lasts (begin i) (end i) u
  unfolding drives_then
  then_other i u apart = rw (ne_eqb i a apart) refl

  abbrev pub drove : ℕ → ℕ → Bool
  drove = all_drove.drove b t drives_then

  abbrev pub drove_old : (i u : ℕ) → u < t → drove i u ≡ level l i u
  drove_old = all_drove.drove_old b t drives_then

  pub drove_sender : (u : ℕ) → t ≤ u → drove a u ≡ sent y begins begins_later u
  drove_sender u late = all_drove.drove_new b t drives_then a u late ∙ then_sender a u refl

  pub drove_other : (i u : ℕ) → i ≢ a → t ≤ u → drove i u ≡ lasts (begin i) (end i) u
  drove_other i u apart late = all_drove.drove_new b t drives_then i u late ∙ then_other i u apart

  abbrev pub lv : ℕ → ℕ → Level
  lv i = levels_found l drove i

  -- no acknowledgement has come there by then
  abbrev Unanswered : (i x : ℕ) → Type 0
  Unanswered i x = (j : ℕ) → IsPlanned j → x < begin j + l.delay j i

  -- an acknowledgement that is moved comes to no node before the one that moved it
  pub none_from : (i x : ℕ) → i < l.nodes → ((j : ℕ) → IsListener b j → x < natural j + l.delay j i) → Unanswered i x
  none_from i x inside none j p =
      let e = p.begin_is in
      elim (quanta_are j p.nat p.choice).begins [
        | inl own ↦ (let h = none j p.nat.heard.listener in omega arith)
        | inr other ↦
            (let h = none other.0 other.1 in
            let come = other.2 in
            let way = is.detours other.0 j i other.1.0 p.nat.heard.listener.0 inside in
            omega arith)
      ]

  -- all are over there by then, and the sender's bits
  pub record AllOver (i x : ℕ) : Type 0 where
    pub bits : begins last + l.delay a i ≤ x
    pub answers : (j : ℕ) → IsPlanned j → end j + l.delay j i ≤ x

  module _ (i k : ℕ) (inside : i < l.nodes) where
    pub as_planned : Unanswered i (tick i k) → lv i k ≡ planned.levels laws b is meets t rest frame y from m sends i k
    as_planned none =
        ap level_of (laws.simulation.found_same l drove (planned.drove laws b is meets t rest frame y from m sends) i (l.instant i k) (λ j inside_j come.
        (let e = is.ticks i k inside in
        elim (cases_lt (l.instant i k - l.delay j i) t) [
          | inl early ↦ drove_old j (l.instant i k - l.delay j i) early ∙ sym (planned.drove_old laws b is meets t rest frame y from m sends j (l.instant i k - l.delay j i) early)
          | inr late ↦ elim (cases_eq j a) [
            | inl here ↦
                subst (λ n. drove n (l.instant i k - l.delay j i) ≡ planned.drove laws b is meets t rest frame y from m sends n (l.instant i k - l.delay j i)) (sym here)
                (drove_sender (l.instant i k - l.delay j i) late ∙ sym (planned.sender_sends laws b is meets t rest frame y from m sends a (l.instant i k - l.delay j i) refl late))
            | inr apart ↦
                (let p = plan_of j (inside_j, apart) in
                let n = none j p in
                drove_other j (l.instant i k - l.delay j i) apart late ∙ lasts_not_yet (begin j) (end j) (l.instant i k - l.delay j i) (omega arith)
                ∙ sym (planned.others_silent laws b is meets t rest frame y from m sends j (l.instant i k - l.delay j i) apart late))
          ]
        ])))

    -- whatever is under way is recessive
    pub silent_then : (rest.node i inside).start ≤ k → AllOver i (tick i k) → lv i k ≡ Recessive
    silent_then late over =
        all_drove.silent_then b t drives_then laws.clocks laws.simulation laws.lines is rest i inside k late (λ j inside_j come from_then.
        (let e = is.ticks i k inside in
        elim (cases_eq j a) [
          | inl here ↦
              (let bits = over.bits in
              let same : l.delay j i ≡ l.delay a i = ap (λ n. l.delay n i) here in
              then_sender j (l.instant i k - l.delay j i) here ∙ sent_after y begins begins_later (l.instant i k - l.delay j i) (omega arith))
          | inr apart ↦
              (let p = plan_of j (inside_j, apart) in
              let n = over.answers j p in
              then_other j (l.instant i k - l.delay j i) apart ∙ lasts_no_more (begin j) (end j) (l.instant i k - l.delay j i) (omega arith))
        ]))

    -- an acknowledgement is there
    pub answered_then : (j : ℕ) → (p : IsPlanned j) → begin j + l.delay j i ≤ tick i k → tick i k < end j + l.delay j i → lv i k ≡ Dominant
    answered_then j p low high =
        let e = is.ticks i k inside in
        let late = begin_late j p in
        ap (λ v. level_of (v || l.disturbed i (l.instant i k)))
        (laws.lines.dominant_from l.nodes l.delay drove j i (l.instant i k) p.nat.heard.listener.0 (omega arith)
        (drove_other j (l.instant i k - l.delay j i) p.nat.heard.listener.1 (omega arith) ∙ lasts_now (begin j) (end j) (l.instant i k - l.delay j i) (omega arith) (omega arith)))

  -- where all nodes are at the rest
  module _ (i : ℕ) (inside : i < l.nodes) where
    abbrev at_rest : RestsAt laws.clocks b is t i inside
    at_rest = rest.node i inside

    abbrev pub lists_old : (k : ℕ) → k ≤ at_rest.start → levels_before (resting.actual laws.clocks b is i) k ≡ levels_before (lv i) k
    lists_old = all_drove.lists_old b t drives_then laws.clocks laws.simulation laws.lines is rest i inside

    pub first : IsSilentAt laws.clocks (b.setups i) (is.book i inside) (lv i) at_rest.base at_rest.waits at_rest.start
    first =
        silent_same laws.clocks (b.setups i) (is.book i inside) (resting.actual laws.clocks b is i) (lv i) at_rest.base at_rest.waits at_rest.start
        (lists_old at_rest.start (omega arith)) at_rest.state

  -- a listener
  module _ (j : ℕ) (p : IsPlanned j) where
    abbrev there : j < l.nodes
    there = p.nat.heard.listener.0

    abbrev book : ByTheBook (lengths_of b j)
    book = is.book j p.nat.heard.listener.0

    abbrev pub gone : List Passed
    gone = planned.frames_of laws b is meets t rest frame y from m sends j p.nat.heard.listener

    abbrev pub reply : ℕ
    reply = reply_by j p.nat p.choice

    abbrev pub sample : ℕ
    sample = sample_by j p.nat p.choice

    abbrev Hears : ℕ → Stretch
    Hears n = planned.Heard laws b is meets t rest frame y from m sends j p.nat.heard n

    abbrev old : ℕ → Level
    old = planned.levels laws b is meets t rest frame y from m sends j

    lists_by : (q : ℕ) → ((n : ℕ) → n < q → Unanswered j (tick j n)) → levels_before old q ≡ levels_before (lv j) q
    lists_by q none = levels_same old (lv j) q (λ n less. sym (as_planned j n there (none n less)))

    -- up to a quantum after its sample of the CRC delimiter, and what it does from then on to its sample of the ACK slot
    pub record Outcome (r q : ℕ) : Type 0 where
      pub none : (n : ℕ) → n ≤ p.nat.heard.quantum → Unanswered j (tick j n)
      pub drive_at : ℕ → Level
      pub does : (k : ℕ) → p.nat.heard.quantum < k → k ≤ q → Does laws.clocks (b.setups j) (is.book j p.nat.heard.listener.0) (lv j) gone k (Hears (suc last)) (drive_at k)
      pub quiet : (k : ℕ) → k ≤ r → drive_at k ≡ Recessive
      pub loud : (k : ℕ) → r < k → drive_at k ≡ Dominant
      pub drive : Level
      pub longer : ℕ
      pub going : IsGoing laws.clocks (b.setups j) (is.book j p.nat.heard.listener.0) (lv j) gone (suc q) (suc (S j)) longer false (Hears (suc (suc last))) drive
      pub slot : (clock_at laws.clocks (b.setups j) (is.book j p.nat.heard.listener.0) (lv j) (suc q)).sample ≡ Dominant
      pub after_quiet : q ≤ r → drive ≡ Recessive
      pub after_loud : r < q → drive ≡ Dominant
      pub kind : (r < q) ⊎ (r ≡ q + (lengths_of b j).ps2)
      pub over : (i : ℕ) → (w : IsPlanned i) → natural_end i + l.delay i j ≤ tick j (q + B j) ⊎ (i ≡ j)

    drives_at : ℕ → ℕ → Level
    drives_at r k = cond (nat_le k r) Recessive Dominant

    quiet_at : (r k : ℕ) → k ≤ r → drives_at r k ≡ Recessive
    unfolding drives_at
    quiet_at r k h = rw (le-leb k r h) refl

    loud_at : (r k : ℕ) → r < k → drives_at r k ≡ Dominant
    unfolding drives_at
    loud_at r k h = rw (lt-leb k r h) refl

    does_at : (r k : ℕ) (s : Stretch) → (k ≤ r → Does laws.clocks (b.setups j) (is.book j p.nat.heard.listener.0) (lv j) gone k s Recessive)
        → (r < k → Does laws.clocks (b.setups j) (is.book j p.nat.heard.listener.0) (lv j) gone k s Dominant)
        → Does laws.clocks (b.setups j) (is.book j p.nat.heard.listener.0) (lv j) gone k s (drives_at r k)
    does_at r k s low high = elim (cases_lt r k) [
      | inl late ↦ subst (λ v. Does laws.clocks (b.setups j) (is.book j p.nat.heard.listener.0) (lv j) gone k s v) (sym (loud_at r k late)) (high late)
      | inr early ↦ subst (λ v. Does laws.clocks (b.setups j) (is.book j p.nat.heard.listener.0) (lv j) gone k s v) (sym (quiet_at r k early)) (low early)
    ]

    start_before : (rest.node j p.nat.heard.listener.0).start ≤ p.nat.heard.quantum
    start_before = planned.quantum_late laws b is meets t rest frame y from m sends j p.nat.heard

    -- if no other one comes before its own begins
    module _ (alone : Stays j) (choice_is : p.choice ≡ inl alone) where
      abbrev own_reply : ℕ
      own_reply = answer j p.nat.heard

      reply_is : reply_by j p.nat p.choice ≡ answer j p.nat.heard
      unfolding reply_by
      reply_is = ap (reply_by j p.nat) choice_is

      sample_is : sample_by j p.nat p.choice ≡ answer j p.nat.heard + S j
      unfolding sample_by
      sample_is = ap (sample_by j p.nat) choice_is

      begin_is : begin j ≡ tick j (answer j p.nat.heard)
      begin_is = p.begin_is ∙ ap (steady_tick (b.clocks j)) reply_is

      end_is : end j ≡ tick j (answer j p.nat.heard + B j)
      end_is = p.end_is ∙ ap (λ n. tick j (n + (lengths_of b j).ps2)) sample_is ∙ ap (steady_tick (b.clocks j)) (let e : answer j p.nat.heard + S j + (lengths_of b j).ps2 ≡ answer j p.nat.heard + B j = omega arith in e)

      -- nothing has come by the time that its own begins
      none_alone : (k : ℕ) → k ≤ answer j p.nat.heard → Unanswered j (tick j k)
      none_alone k few =
          let rise = up j there k (answer j p.nat.heard) few in
          let e = p.nat.natural_is in
          none_from j (tick j k) there (λ i w. elim (cases_eq i j) [
            | inl same ↦
                (let f : natural i ≡ natural j = ap natural same in
                let some = is.causal.delays i j w.0 there in
                omega arith)
            | inr apart ↦ (let h = alone i w apart in omega arith)
          ])

      lists_alone : (k : ℕ) → k ≤ suc (answer j p.nat.heard) → levels_before old k ≡ levels_before (lv j) k
      lists_alone k few = lists_by k (λ n less. none_alone n (omega arith))

      place : (longer : ℕ) × IsGoing laws.clocks (b.setups j) (is.book j p.nat.heard.listener.0) (lv j) gone (suc p.nat.heard.quantum) (suc (S j)) longer false (Hears (suc last)) Recessive
      place =
          let low = (is.book j p.nat.heard.listener.0).lengths.ps2_low in
          let q = planned.place laws b is meets t rest frame y from m sends j p.nat.heard in (
            q.0,
            going_same laws.clocks (b.setups j) (is.book j p.nat.heard.listener.0) old (lv j) (suc p.nat.heard.quantum) (lists_alone (suc p.nat.heard.quantum) (omega arith))
                (suc (S j)) q.0 false (Hears (suc last)) Recessive q.1,
          )

      quiet_alone : (k : ℕ) → p.nat.heard.quantum < k → k ≤ answer j p.nat.heard → lv j k ≡ Recessive
      quiet_alone k low high = as_planned j k there (none_alone k high) ∙ planned.quiet laws b is meets t rest frame y from m sends j p.nat.heard k low high

      own_found : (n : ℕ) → S j ≤ n → n < B j → ((q : ℕ) → 1 ≤ q → q ≤ n → (node laws.clocks (b.setups j) (is.book j p.nat.heard.listener.0) (lv j) (answer j p.nat.heard + q)).drive ≡ Dominant)
          → lv j (answer j p.nat.heard + n) ≡ Dominant
      own_found n low high drives =
          let loop = comes_back (b.clocks j) (is.steady j p.nat.heard.listener.0) (answer j p.nat.heard) (S j) (l.delay j j) (meets.loops j p.nat.heard.listener) in
          let rise = up j there (answer j p.nat.heard + S j) (answer j p.nat.heard + n) (omega arith) in
          let fall = up j there (answer j p.nat.heard + n) (answer j p.nat.heard + B j) (omega arith) in
          let some = is.causal.delays j j there there in
          let e = begin_is in
          let f = end_is in
          answered_then j (answer j p.nat.heard + n) there j p (omega arith) (omega arith)

      -- all others are over by its sample of the ACK delimiter
      over_alone : (i : ℕ) → (w : IsPlanned i) → natural_end i + l.delay i j ≤ tick j (answer j p.nat.heard + S j + B j) ⊎ (i ≡ j)
      over_alone i w = elim (cases_eq i j) [
        | inl same ↦ inr same
        | inr apart ↦ inl
            (let here = w.nat.natural_end_is in
            let two : p.nat.heard.quantum + 2 * B j ≡ answer j p.nat.heard + S j + B j = omega arith in
            let same_tick = ap (steady_tick (b.clocks j)) two in
            let after =
            stay.ends s (listener_of b i) (listener_of b j) (planned.seen_by laws b is meets t rest frame y from m sends i w.nat.heard.listener) (planned.seen_by laws b is meets t rest frame y from m sends j p.nat.heard.listener)
            w.nat.heard.found p.nat.heard.found (l.delay i j) last w.nat.heard.quantum p.nat.heard.quantum (is.steady a is.sender) (is.steady i w.nat.heard.listener.0) (is.steady j p.nat.heard.listener.0)
            (slots.ends i j w.nat.heard.listener p.nat.heard.listener apart) w.nat.heard.sampled p.nat.heard.sampled in
            omega arith)
      ]

      alone_outcome : Outcome (answer j p.nat.heard) (answer j p.nat.heard + S j)
      alone_outcome =
          let low = (is.book j p.nat.heard.listener.0).lengths.ps2_low in
          let prop = (is.book j p.nat.heard.listener.0).lengths.prop_low in
          record {
            none = λ n few. none_alone n (omega arith);
            drive_at = drives_at (answer j p.nat.heard);
            does = λ k after up_to. does_at (answer j p.nat.heard) k (Hears (suc last))
                (λ early.
                (let here : p.nat.heard.quantum + (S j + (k - p.nat.heard.quantum) - S j) ≡ k = omega arith in
                subst (λ i. Does laws.clocks (b.setups j) (is.book j p.nat.heard.listener.0) (lv j) gone i (Hears (suc last)) Recessive) here
                (answering.rests laws.clocks laws.frame (b.setups j) (is.book j p.nat.heard.listener.0) (lv j) frame sends.content y sends.stuffs gone p.nat.heard.quantum place.0 place.1 quiet_alone
                (S j + (k - p.nat.heard.quantum)) (omega arith) (omega arith)).does))
                (λ late.
                (let here : answer j p.nat.heard + (k - answer j p.nat.heard) ≡ k = omega arith in
                subst (λ i. Does laws.clocks (b.setups j) (is.book j p.nat.heard.listener.0) (lv j) gone i (Hears (suc last)) Dominant) here
                (answering.before laws.clocks laws.frame (b.setups j) (is.book j p.nat.heard.listener.0) (lv j) frame sends.content y sends.stuffs gone p.nat.heard.quantum place.0 place.1 quiet_alone own_found
                (k - answer j p.nat.heard) (omega arith) (omega arith)).does));
            quiet = quiet_at (answer j p.nat.heard);
            loud = loud_at (answer j p.nat.heard);
            drive = Dominant;
            longer = 0;
            going =
                at_place laws.clocks (b.setups j) (is.book j p.nat.heard.listener.0) (lv j) (answer j p.nat.heard + (suc (S j) + 0)) (suc (answer j p.nat.heard + S j)) (suc (S j) + 0) (suc (S j)) 0 false
                (Hears (suc (suc last))) Dominant (omega arith) (omega arith)
                (answering.answers laws.clocks laws.frame (b.setups j) (is.book j p.nat.heard.listener.0) (lv j) frame sends.content y sends.stuffs gone p.nat.heard.quantum place.0 place.1 quiet_alone own_found 0 (omega arith)).going;
            slot = answering.sampled laws.clocks laws.frame (b.setups j) (is.book j p.nat.heard.listener.0) (lv j) frame sends.content y sends.stuffs gone p.nat.heard.quantum place.0 place.1 quiet_alone own_found;
            after_quiet = λ h. absurd (omega arith);
            after_loud = λ h. refl;
            kind = inl (omega arith);
            over = over_alone;
          }

    -- if one does
    module _ (comes : Comes j) where
      abbrev i : ℕ
      i = comes.by

      abbrev n : ℕ
      n = moving.found laws stay b is meets slots t rest frame y from m sends j p.nat comes

      abbrev q : ℕ
      q = moving.sample laws stay b is meets slots t rest frame y from m sends j p.nat comes

      abbrev early : (x : ℕ) × FindsEarly (lengths_of b j) (b.clocks j) (answer_begin (listener_of b comes.by) (l.delay comes.by j) (natural_of comes.by comes.listener).heard.quantum)
          (answer_end (listener_of b comes.by) (l.delay comes.by j) (natural_of comes.by comes.listener).heard.quantum) p.nat.heard.quantum x
      early = moving.early laws stay b is meets slots t rest frame y from m sends j p.nat comes

      abbrev finds : ℕ → Level
      finds = moving.finds laws stay b is meets slots t rest frame y from m sends j p.nat comes

      abbrev by_it : IsPlanned comes.by
      by_it = plan_of comes.by comes.listener

      it_begins : begin comes.by ≡ tick comes.by (answer comes.by (natural_of comes.by comes.listener).heard)
      it_begins =
          let h = stays_by comes.by comes.stays by_it.nat by_it.choice in
          by_it.begin_is ∙ sym h.0 ∙ (natural_of comes.by comes.listener).natural_is

      it_ends : end comes.by ≡ tick comes.by (answer comes.by (natural_of comes.by comes.listener).heard + B comes.by)
      it_ends =
          let h = stays_by comes.by comes.stays by_it.nat by_it.choice in
          by_it.end_is ∙ sym h.1 ∙ (natural_of comes.by comes.listener).natural_end_is

      none_moved : (k : ℕ) → k < n → Unanswered j (tick j k)
      none_moved k less =
          let unseen = early.1.finds.unseen k less in
          let e = (natural_of comes.by comes.listener).natural_is in
          let few = early.1.early in
          let rise = up j there k (answer j p.nat.heard) (omega arith) in
          let own = p.nat.natural_is in
          none_from j (tick j k) there (λ w r. elim (cases_eq w j) [
            | inl same ↦
                (let f : natural w ≡ natural j = ap natural same in
                let some = is.causal.delays w j r.0 there in
                omega arith)
            | inr apart ↦ (let h = comes.first w r apart in omega arith)
          ])

      finds_it : (k : ℕ) → k ≤ q → finds k ≡ lv j k
      finds_it k up_to = elim (cases_lt k n) [
        | inl less ↦ moving.finds_old laws stay b is meets slots t rest frame y from m sends j p.nat comes k less ∙ sym (as_planned j k there (none_moved k less))
        | inr late ↦
            (let seen_it = early.1.finds.seen in
            let rise = up j there n k late in
            let lasts = early.1.lasts k up_to in
            let e = it_begins in
            let g = it_ends in
            moving.finds_new laws stay b is meets slots t rest frame y from m sends j p.nat comes k late
            ∙ sym (answered_then j k there comes.by by_it (omega arith) (omega arith)))
      ]

      lists_moved : (k : ℕ) → k ≤ suc q → levels_before finds k ≡ levels_before (lv j) k
      lists_moved k few = levels_same finds (lv j) k (λ x less. finds_it x (omega arith))

      over_moved : (w : ℕ) → (r : IsPlanned w) → natural_end w + l.delay w j ≤ tick j (q + B j) ⊎ (w ≡ j)
      over_moved w r = elim (cases_eq w j) [
        | inl same ↦ inr same
        | inr apart ↦ inl
            (let low = moving.sample_low laws stay b is meets slots t rest frame y from m sends j p.nat comes in
            let rise = up j there (n + (S j - 1) + B j) (q + B j) (omega arith) in
            let seen_it = early.1.finds.seen in
            let here = r.nat.natural_end_is in
            elim (cases_eq comes.by w) [
              | inl it ↦
                  (let e = (natural_of comes.by comes.listener).natural_end_is in
                  let f : natural_end comes.by ≡ natural_end w = ap natural_end it in
                  let d : l.delay comes.by j ≡ l.delay w j = ap (λ x. l.delay x j) it in
                  let after =
                  stay.over (listener_of b comes.by) (b.clocks j) (lengths_of b j) (l.delay comes.by j) (natural_of comes.by comes.listener).heard.quantum n (is.steady comes.by (natural_of comes.by comes.listener).heard.listener.0) (is.steady j there)
                  (slots.fits comes.by j (natural_of comes.by comes.listener).heard.listener p.nat.heard.listener comes.apart) early.1.finds.seen in
                  omega arith)
              | inr third ↦
                  (let after =
                  stay.others s (listener_of b comes.by) (listener_of b w) (b.clocks j) (lengths_of b j)
                  (planned.seen_by laws b is meets t rest frame y from m sends comes.by (natural_of comes.by comes.listener).heard.listener) (planned.seen_by laws b is meets t rest frame y from m sends w r.nat.heard.listener)
                  (natural_of comes.by comes.listener).heard.found r.nat.heard.found (l.delay comes.by j) (l.delay w j) last (natural_of comes.by comes.listener).heard.quantum r.nat.heard.quantum n
                  (is.steady a is.sender) (is.steady comes.by (natural_of comes.by comes.listener).heard.listener.0) (is.steady w r.nat.heard.listener.0) (is.steady j there)
                  (slots.moved comes.by w j (natural_of comes.by comes.listener).heard.listener r.nat.heard.listener third there (λ e. comes.apart (sym e)) (λ e. apart (sym e)))
                  (natural_of comes.by comes.listener).heard.sampled r.nat.heard.sampled early.1.finds.seen in
                  omega arith)
            ])
      ]

      moved_outcome : Outcome (moving.replies laws stay b is meets slots t rest frame y from m sends j p.nat comes).reply q
      moved_outcome =
          let r = moving.replies laws stay b is meets slots t rest frame y from m sends j p.nat comes in
          let z = moving.sampled laws stay b is meets slots t rest frame y from m sends j p.nat comes in
          let after = early.1.after in
          record {
            none = λ x few. none_moved x (omega arith);
            drive_at = drives_at r.reply;
            does = λ k past up_to. does_at r.reply k (Hears (suc last))
                (λ low. does_same laws.clocks (b.setups j) (is.book j p.nat.heard.listener.0) finds (lv j) k (lists_moved k (omega arith)) (Hears (suc last)) Recessive (r.recessive k past low up_to))
                (λ high. does_same laws.clocks (b.setups j) (is.book j p.nat.heard.listener.0) finds (lv j) k (lists_moved k (omega arith)) (Hears (suc last)) Dominant (r.dominant k high up_to));
            quiet = quiet_at r.reply;
            loud = loud_at r.reply;
            drive = z.drive;
            longer = z.longer;
            going = going_same laws.clocks (b.setups j) (is.book j p.nat.heard.listener.0) finds (lv j) (suc q) (lists_moved (suc q) (omega arith)) (suc (S j)) z.longer false (Hears (suc (suc last))) z.drive z.going;
            slot = ap (λ ls. (clock_after (lengths_of b j) (staying_history (b.setups j) ls).seen).sample) (sym (lists_moved (suc q) (omega arith))) ∙ z.slot;
            after_quiet = z.if_not;
            after_loud = z.if_replied;
            kind = r.kind;
            over = over_moved;
          }

    outcome_by : (c : Stays j ⊎ Comes j) → p.choice ≡ c → Outcome (reply_by j p.nat c) (sample_by j p.nat c)
    unfolding reply_by sample_by
    outcome_by (inl alone) e = alone_outcome alone e
    outcome_by (inr comes) e = moved_outcome comes

    pub outcome : Outcome (reply_by j p.nat p.choice) (sample_by j p.nat p.choice)
    outcome = outcome_by p.choice refl

    -- all are over by its sample of the ACK delimiter
    pub over_by : (k : ℕ) → sample + B j ≤ k → AllOver j (tick j k)
    over_by k late = record {
      bits =
          (let begun = p.nat.heard.sampled.begun in
          let low = (quanta_are j p.nat p.choice).sample_late in
          let rise = up j there p.nat.heard.quantum k (omega arith) in
          omega arith);
      answers = λ i w.
          (let rise = up j there (sample + B j) k late in
          let ends = ends_by i w.nat w.choice in
          let e = w.end_is in
          elim (outcome.over i w) [
            | inl over ↦ omega arith
            | inr same ↦
                (let loop = comes_back (b.clocks j) (is.steady j p.nat.heard.listener.0) (sample + (lengths_of b j).ps2) (S j) (l.delay j j) (meets.loops j p.nat.heard.listener) in
                let f : end i ≡ end j = ap end same in
                let d : l.delay i j ≡ l.delay j j = ap (λ n. l.delay n j) same in
                let place : sample + (lengths_of b j).ps2 + S j ≡ sample + B j = omega arith in
                let g = ap (steady_tick (b.clocks j)) place in
                let own = p.end_is in
                omega arith)
          ]);
    }

    -- its rest after the slot
    abbrev pub after : Waits (sample + (lengths_of b j).ps2) (S j) (B j)
    after = after_receiving laws.frame frame sends.content y sends.stuffs (sample + (lengths_of b j).ps2) (S j) (B j) gone

    abbrev Done : Stretch
    Done = Hears (suc (suc last))

    silent_on : (k : ℕ) → sample + B j ≤ k → lv j k ≡ Recessive
    silent_on k late =
        let e = start_before in
        let low = (quanta_are j p.nat p.choice).sample_late in
        silent_then j k there (omega arith) (over_by k late)

    pub settled : IsSilentAt laws.clocks (b.setups j) (is.book j p.nat.heard.listener.0) (lv j) (sample + (lengths_of b j).ps2) after (suc (sample + B j))
    settled =
        settling.settled laws.clocks (b.setups j) (is.book j p.nat.heard.listener.0) (lv j) gone sample outcome.longer Done outcome.drive
        (received_quiet laws.frame frame sends.content y sends.stuffs) after
        (received_first laws.frame frame sends.content y sends.stuffs (sample + (lengths_of b j).ps2) (S j) (B j) gone)
        (received_passed laws.frame frame sends.content y sends.stuffs (sample + (lengths_of b j).ps2) (S j) (B j) gone 0) outcome.going outcome.slot
        (silent_on (sample + B j) (omega arith))

    pub rests_from : (k : ℕ) → suc (sample + B j) ≤ k
        → IsSilentAt laws.clocks (b.setups j) (is.book j p.nat.heard.listener.0) (lv j) (sample + (lengths_of b j).ps2) after k
    rests_from k late =
        silent_at laws.clocks (b.setups j) (is.book j p.nat.heard.listener.0) (lv j) (sample + (lengths_of b j).ps2) after (suc (sample + B j)) k
        (λ i low high. silent_on i (omega arith))
        (λ c many low high. ap (λ v. head_at (b.setups j) v (sample + (lengths_of b j).ps2 + c * B j + S j)) (left_none (b.setups j) (after.passed 10) (sends.alone j p.nat.heard.listener))
        ∙ head_none (b.setups j) (sample + (lengths_of b j).ps2 + c * B j + S j))
        settled k late (omega arith)

    -- what it does at each quantum
    pub record Doing (k : ℕ) : Type 0 where
      pub passed : List Passed
      pub stretch : Stretch
      pub drive : Level
      pub does : Does laws.clocks (b.setups j) (is.book j p.nat.heard.listener.0) (lv j) passed k stretch drive
      pub quiet : (k ≤ reply) ⊎ (sample + (lengths_of b j).ps2 < k) → drive ≡ Recessive
      pub loud : reply < k → k ≤ sample + (lengths_of b j).ps2 → drive ≡ Dominant
      pub count : ℕ
      pub gone : ((passed ≡ (rest.node j p.nat.heard.listener.0).waits.passed (min count 10)) × CountsTo (rest.node j p.nat.heard.listener.0).base (S j) (B j) k count)
          ⊎ (passed ≡ after.passed (min count 10))

    pub doing : (k : ℕ) → (rest.node j p.nat.heard.listener.0).start ≤ k → Doing k
    doing k late =
        let quanta = quanta_are j p.nat p.choice in
        let reply_late = quanta.reply_late in
        let sample_late = quanta.sample_late in
        let low = (is.book j p.nat.heard.listener.0).lengths.ps2_low in
        elim (cases_lt p.nat.heard.quantum k) [
          | inr up_to ↦
              (let d = planned.silent laws b is meets t rest frame y from m sends j p.nat.heard k late (omega arith) in
              record {
                passed = (rest.node j p.nat.heard.listener.0).waits.passed (min d.0 10);
                stretch = d.1;
                drive = Recessive;
                does = does_same laws.clocks (b.setups j) (is.book j p.nat.heard.listener.0) old (lv j) k (lists_by k (λ n less. outcome.none n (omega arith))) d.1 Recessive d.2;
                quiet = λ w. refl;
                loud = λ above below. absurd (omega arith);
                count = d.0;
                gone = inl (refl, d.3);
              })
          | inl past ↦ elim (cases_lt sample k) [
            | inr before_it ↦
                record {
                  passed = gone;
                  stretch = Hears (suc last);
                  drive = outcome.drive_at k;
                  does = outcome.does k past before_it;
                  quiet = λ w. elim w [ inl few ↦ outcome.quiet k few | inr many ↦ absurd (omega arith) ];
                  loud = λ above below. outcome.loud k above;
                  count = 10;
                  gone = inl (ap (rest.node j p.nat.heard.listener.0).waits.passed (sym ten), counted_then past);
                }
            | inl over ↦ after_it past over
          ]
        ]
      where
        ten : min 10 10 ≡ 10
        ten = omega arith

        counted_then : p.nat.heard.quantum < k → CountsTo (rest.node j p.nat.heard.listener.0).base (S j) (B j) k 10
        counted_then past = ten_counted (rest.node j p.nat.heard.listener.0).base (S j) (B j) k (let e = p.nat.heard.ten in let f = p.nat.heard.sampled.after in omega arith)

        after_it : p.nat.heard.quantum < k → sample < k → Doing k
        after_it past over = elim (cases_lt (sample + B j) k) [
          | inl idle ↦
              (let r = rests_from k idle in
              record {
                passed = after.passed (min r.count 10);
                stretch = r.stretch;
                drive = Recessive;
                does = r.going.does;
                quiet = λ w. refl;
                loud = λ above below. absurd (omega arith);
                count = r.count;
                gone = inr refl;
              })
          | inr delimiter ↦ elim (cases_lt (sample + (lengths_of b j).ps2) k) [
            | inl delimiting ↦
                (let d =
                settling.delimiting laws.clocks (b.setups j) (is.book j p.nat.heard.listener.0) (lv j) gone sample outcome.longer Done outcome.drive
                (received_quiet laws.frame frame sends.content y sends.stuffs) after
                (received_first laws.frame frame sends.content y sends.stuffs (sample + (lengths_of b j).ps2) (S j) (B j) gone)
                (received_passed laws.frame frame sends.content y sends.stuffs (sample + (lengths_of b j).ps2) (S j) (B j) gone 0) outcome.going outcome.slot k delimiting delimiter in
                record {
                  passed = gone;
                  stretch = Done;
                  drive = Recessive;
                  does = d;
                  quiet = λ w. refl;
                  loud = λ above below. absurd (omega arith);
                  count = 10;
                  gone = inl (ap (rest.node j p.nat.heard.listener.0).waits.passed (sym ten), counted_then past);
                })
            | inr in_slot ↦
                (let d =
                settling.between laws.clocks (b.setups j) (is.book j p.nat.heard.listener.0) (lv j) gone sample outcome.longer Done outcome.drive
                (received_quiet laws.frame frame sends.content y sends.stuffs) after
                (received_first laws.frame frame sends.content y sends.stuffs (sample + (lengths_of b j).ps2) (S j) (B j) gone)
                (received_passed laws.frame frame sends.content y sends.stuffs (sample + (lengths_of b j).ps2) (S j) (B j) gone 0) outcome.going outcome.slot k over in_slot in
                record {
                  passed = gone;
                  stretch = Done;
                  drive = outcome.drive;
                  does = d;
                  quiet = λ w. elim w [
                    | inl few ↦ outcome.after_quiet (omega arith)
                    | inr many ↦ absurd (omega arith)
                  ];
                  loud = λ above below. elim outcome.kind [
                    | inl replied ↦ outcome.after_loud replied
                    | inr none ↦ absurd (omega arith)
                  ];
                  count = 10;
                  gone = inl (ap (rest.node j p.nat.heard.listener.0).waits.passed (sym ten), counted_then past);
                })
          ]
        ]
