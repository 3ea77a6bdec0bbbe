-- A listener to which another one's acknowledgement comes before its own would begin: what it finds up to its next sample, and what it does.
use Rattle.std.proofs.Common.{◌≡◌, ◌∙◌, refl, sym, ap, subst, ℕ, suc, ◌+◌, ◌-◌, ◌<◌, ◌≤◌, List, [], ◌∷◌, ◌++◌, length, false, cond, arith}
use Rattle.std.specs.Prelude.{nat_lt}
use Rattle.std.proofs.lemmas.Bool.{lt-ltb, le-ltb}
use Rattle.wl_level.specs.declared.Level.{Level}
use Rattle.wl_level.specs.declared.Level.TheVariants.{Dominant, Recessive}
use Rattle.wl_level.specs.Places.{at}
use Rattle.wl_level.proofs.Callers.{at_new}
use Rattle.wl_segments.specs.Lengths.{sample_at, bit_quanta}
use Rattle.wl_sync.specs.declared.Beat.TheVariants.{Sample}
use Rattle.wl_sync.specs.Bits.{beat_of}
use Rattle.wl_sync.specs.Running.{Running, clock_after}
use Rattle.wl_sync.specs.Skips.{steady_clock}
use Rattle.wl_frame.specs.Grammar.{Content}
use Rattle.wl_machine.specs.Stretch.{Stretch}
use Rattle.wl_node.specs.declared.setup.Passed.{Passed}
use Rattle.wl_node.specs.History.{staying_history}
use Rattle.wl_phase.specs.Ways.{ByTheBook}
use Rattle.wl_phase.specs.InStep.{Sender}
use Rattle.wl_phase.specs.Answer.{FindsEarly, answer_begin, answer_end, moved_sample}
use Rattle.wl_plan.specs.Line.{Line}
use Rattle.wl_buses.specs.BothProofs.Levels.{levels_before}
use Rattle.wl_buses.specs.OneSender.OneSender.{SenderBus, IsBus, IsInStepWithAll, lengths_of, listener_of}
use Rattle.wl_buses.specs.OneSender.Through.{EndsInSlots}
use Rattle.wl_buses.proofs.OneSender.Answering as answering
use Rattle.wl_buses.proofs.OneSender.Choosing as choosing
use Rattle.wl_buses.proofs.OneSender.Choosing.{StayLaws}
use Rattle.wl_buses.proofs.BothProofs.Expecting.{levels_same}
use Rattle.wl_buses.proofs.OneSender.Nodes.{Does, beat_at, clock_at, does_same, level_before, sample_before, sees_at, seen_are, valid_at}
use Rattle.wl_buses.proofs.OneSender.Planned as planned
use Rattle.wl_buses.proofs.OneSender.Planned.{Laws, IsHeard}
use Rattle.wl_buses.proofs.OneSender.Receiving.{sampled_level}
use Rattle.wl_buses.proofs.OneSender.Resting.{Rests, SendsNext}
use Rattle.wl_buses.proofs.OneSender.Yielding as yielding

module _ (laws : Laws) (stay : StayLaws) (b : SenderBus) (is : IsBus b) (meets : IsInStepWithAll b) (slots : EndsInSlots b) (t : ℕ) (rest : Rests laws.clocks b is t)
    (frame : Content) (y : List Level) (from m : ℕ) (sends : SendsNext laws.clocks b is t rest frame y from m) where
  abbrev l : Line
  l = b.line

  abbrev a : ℕ
  a = b.sender

  abbrev last : ℕ
  last = length y

  abbrev s : Sender
  s = record { clock = b.clocks a; bit_quanta = bit_quanta (lengths_of b a); from = from; bits = y ++ Recessive ∷ [] }

  abbrev S : ℕ → ℕ
  S i = sample_at (lengths_of b i)

  abbrev B : ℕ → ℕ
  B i = bit_quanta (lengths_of b i)

  abbrev natural : ℕ → ℕ
  natural = choosing.natural laws stay b is meets slots t rest frame y from m sends

  abbrev natural_end : ℕ → ℕ
  natural_end = choosing.natural_end laws stay b is meets slots t rest frame y from m sends

  abbrev IsNatural : ℕ → Type 0
  IsNatural = choosing.IsNatural laws stay b is meets slots t rest frame y from m sends

  abbrev Comes : ℕ → Type 0
  Comes = choosing.Comes laws stay b is meets slots t rest frame y from m sends

  module _ (j : ℕ) (v : IsNatural j) (c : Comes j) where
    abbrev h : IsHeard laws b is meets t rest frame y from m sends j
    h = v.heard

    abbrev there : j < l.nodes
    there = v.heard.listener.0

    abbrev book : ByTheBook (lengths_of b j)
    book = is.book j v.heard.listener.0

    abbrev gone : List Passed
    gone = planned.frames_of laws b is meets t rest frame y from m sends j v.heard.listener

    abbrev old : ℕ → Level
    old = planned.levels laws b is meets t rest frame y from m sends j

    abbrev Heard : ℕ → Stretch
    Heard = planned.Heard laws b is meets t rest frame y from m sends j v.heard

    abbrev by_it : IsNatural c.by
    by_it = choosing.natural_of laws stay b is meets slots t rest frame y from m sends c.by c.listener

    abbrev k : ℕ
    k = v.heard.quantum

    -- when it finds it
    pub early : (n : ℕ) × FindsEarly (lengths_of b j) (b.clocks j) (answer_begin (listener_of b c.by) (l.delay c.by j) by_it.heard.quantum) (answer_end (listener_of b c.by) (l.delay c.by j) by_it.heard.quantum) v.heard.quantum n
    early =
        let begin = by_it.natural_is in
        let own = v.natural_is in
        let soon = c.soon in
        stay.finds s (listener_of b c.by) (listener_of b j) (planned.seen_by laws b is meets t rest frame y from m sends c.by by_it.heard.listener) (planned.seen_by laws b is meets t rest frame y from m sends j v.heard.listener)
        by_it.heard.found v.heard.found (l.delay c.by j) last by_it.heard.quantum v.heard.quantum (is.steady a is.sender) (is.steady c.by by_it.heard.listener.0) (is.steady j v.heard.listener.0)
        (is.book j v.heard.listener.0) (meets.apart c.by j by_it.heard.listener v.heard.listener c.apart) (slots.fits c.by j by_it.heard.listener v.heard.listener c.apart) by_it.heard.sampled v.heard.sampled (omega arith)

    abbrev pub found : ℕ
    found = early.0

    abbrev pub sample : ℕ
    sample = moved_sample (lengths_of b j) v.heard.quantum early.0

    -- what it finds up to that sample: what the sender sends, and that
    pub finds : ℕ → Level
    finds q = cond (nat_lt q early.0) (planned.levels laws b is meets t rest frame y from m sends j q) Dominant

    pub finds_old : (q : ℕ) → q < early.0 → finds q ≡ planned.levels laws b is meets t rest frame y from m sends j q
    unfolding finds
    finds_old q less = rw (lt-ltb q early.0 less) refl

    pub finds_new : (q : ℕ) → early.0 ≤ q → finds q ≡ Dominant
    unfolding finds
    finds_new q late = rw (le-ltb q early.0 late) refl

    lists : (q : ℕ) → q ≤ early.0 → levels_before old q ≡ levels_before finds q
    lists q few = levels_same old finds q (λ n less. sym (finds_old n (omega arith)))

    -- its clock after the sample of the CRC delimiter
    steady_old : clock_at laws.clocks (b.setups j) book old (suc k) ≡ steady_clock (lengths_of b j)
    steady_old =
        let p = planned.place laws b is meets t rest frame y from m sends j v.heard in
        let none : at (y ++ Recessive ∷ []) last ≡ Recessive = at_new y Recessive in
        let unsynced : (clock_at laws.clocks (b.setups j) book old (suc k)).synced ≡ false =
        ap (λ x. (clock_after (lengths_of b j) x).synced) (seen_are laws.clocks (b.setups j) book old (suc k)) ∙ v.heard.sampled.unsynced none in
        let valid = valid_at laws.clocks (b.setups j) book old (suc k) in
        let longer = valid.fresh_longer unsynced in
        let longer_is = p.1.place.longer_is in
        let quanta = p.1.place.quanta in
        let beat : beat_at laws.clocks (b.setups j) book old k ≡ Sample (at (y ++ Recessive ∷ []) last) =
        ap (λ x. beat_of (lengths_of b j) x (sees_at laws.clocks (b.setups j) book old k)) (seen_are laws.clocks (b.setups j) book old k) ∙ v.heard.sampled.level in
        steady (clock_at laws.clocks (b.setups j) book old (suc k)) refl (omega arith) longer p.1.place.shorter unsynced
        (level_before laws.clocks (b.setups j) book old k ∙ sampled_level laws.clocks (b.setups j) book old laws.listens.ways k (at (y ++ Recessive ∷ []) last) beat ∙ none)
        (sample_before laws.clocks (b.setups j) book old k (at (y ++ Recessive ∷ []) last) beat ∙ none)
      where
        steady : (r : Running) → r.lengths ≡ lengths_of b j → r.quanta ≡ suc (S j) → r.longer ≡ 0 → r.shorter ≡ 0 → r.synced ≡ false → r.level ≡ Recessive → r.sample ≡ Recessive → r ≡ steady_clock (lengths_of b j)
        steady r a b d e f g h i = record { lengths = a i; quanta = b i; longer = d i; shorter = e i; synced = f i; level = g i; sample = h i }

    pub steady_new : clock_at laws.clocks (b.setups j) book finds (suc k) ≡ steady_clock (lengths_of b j)
    steady_new =
        let after = early.1.after in
        ap (λ ls. clock_after (lengths_of b j) (staying_history (b.setups j) ls).seen) (sym (lists (suc k) (omega arith))) ∙ steady_old

    -- up to there it drives recessive
    silent_old : (q : ℕ) → k < q → q ≤ k + (lengths_of b j).ps2 → Does laws.clocks (b.setups j) book old gone q (Heard (suc last)) Recessive
    silent_old q low high =
        let p = planned.place laws b is meets t rest frame y from m sends j v.heard in
        let here : k + (S j + (q - k) - S j) ≡ q = omega arith in
        subst (λ i. Does laws.clocks (b.setups j) book old gone i (Heard (suc last)) Recessive) here
        (answering.rests laws.clocks laws.frame (b.setups j) book old frame sends.content y sends.stuffs gone k p.0 p.1 (planned.quiet laws b is meets t rest frame y from m sends j v.heard)
        (S j + (q - k)) (omega arith) (omega arith)).does

    pub silent_new : (q : ℕ) → k < q → q ≤ early.0 → Does laws.clocks (b.setups j) book finds gone q (Heard (suc last)) Recessive
    silent_new q low high =
        let few = early.1.early in
        does_same laws.clocks (b.setups j) book old finds q (lists q high) (Heard (suc last)) Recessive (silent_old q low (omega arith))

    pub quiet_new : (q : ℕ) → k < q → q < early.0 → finds q ≡ Recessive
    quiet_new q low high =
        let few = early.1.early in
        finds_old q high ∙ planned.quiet laws b is meets t rest frame y from m sends j v.heard q low (omega arith)

    abbrev Replies : Type 0
    Replies =
        yielding.Replies laws.clocks laws.frame (b.setups j) book finds frame sends.content y sends.stuffs laws.listens.ways stay.next gone v.heard.quantum early.0
        early.1.after early.1.early silent_new steady_new quiet_new (λ q low high. finds_new q low)

    abbrev pub replies : Replies
    replies =
        yielding.replies laws.clocks laws.frame (b.setups j) book finds frame sends.content y sends.stuffs laws.listens.ways stay.next gone v.heard.quantum early.0
        early.1.after early.1.early silent_new steady_new quiet_new (λ q low high. finds_new q low)

    abbrev Sampled : Type 0
    Sampled =
        yielding.Sampled laws.clocks laws.frame (b.setups j) book finds frame sends.content y sends.stuffs laws.listens.ways stay.next gone v.heard.quantum early.0
        early.1.after early.1.early silent_new steady_new quiet_new (λ q low high. finds_new q low)

    pub sampled : Sampled
    sampled =
        yielding.sampled laws.clocks laws.frame (b.setups j) book finds frame sends.content y sends.stuffs laws.listens.ways stay.next gone v.heard.quantum early.0
        early.1.after early.1.early silent_new steady_new quiet_new (λ q low high. finds_new q low)

    pub sample_high : moved_sample (lengths_of b j) v.heard.quantum early.0 ≤ v.heard.quantum + bit_quanta (lengths_of b j)
    sample_high =
        yielding.sample_high laws.clocks laws.frame (b.setups j) book finds frame sends.content y sends.stuffs laws.listens.ways stay.next gone v.heard.quantum early.0 early.1.after early.1.early

    pub sample_low : early.0 + (sample_at (lengths_of b j) - 1) ≤ moved_sample (lengths_of b j) v.heard.quantum early.0
    sample_low =
        yielding.sample_low laws.clocks laws.frame (b.setups j) book finds frame sends.content y sends.stuffs laws.listens.ways stay.next gone v.heard.quantum early.0 early.1.after early.1.early
