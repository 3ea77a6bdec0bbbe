-- A node that has rested in a silence, and one that powers up in it with the frames that it hasn't sent.
use Rattle.std.proofs.Common.{◌≡◌, ◌∙◌, inr, refl, sym, ap, subst, ℕ, zero, suc, ◌+◌, ◌-◌, ◌*◌, ◌<◌, ◌≤◌, false, List, [], ◌∷◌, ◌++◌, length, Option, Some, None, arith, append-nil}
use Rattle.std.specs.Prelude.{map}
use Rattle.wl_level.specs.declared.Level.{Level}
use Rattle.wl_level.specs.declared.Level.TheVariants.{Recessive}
use Rattle.wl_confine.specs.declared.Mode.TheVariants.{Active}
use Rattle.wl_confine.specs.Counts.{counts_of, mode_of}
use Rattle.wl_segments.specs.Lengths.{Lengths, bit_quanta, sample_at}
use Rattle.wl_sync.specs.declared.Beat.TheVariants as beats
use Rattle.wl_sync.specs.Running.{clock_after}
use Rattle.wl_sync.specs.Skips.{steady_clock}
use Rattle.wl_frame.specs.Grammar.{Content}
use Rattle.wl_machine.specs.Stretch.{Sampled, Stretch}
use Rattle.wl_machine.specs.Stretch.Ended.{NoFrame}
use Rattle.wl_machine.specs.Stretch.Sort.{Framing, Idle}
use Rattle.wl_machine.specs.Stretch.Input.{Sample}
use Rattle.wl_machine.specs.BetweenFrames.{idle_on}
use Rattle.wl_machine.specs.Judged.{drive_by, drive_of, judged, or_next, stretch_after, stretch_of}
use Rattle.wl_node.specs.declared.setup.NodeSetup.{NodeSetup}
use Rattle.wl_node.specs.History.{History, handed, head_at_next, passed_frames, unsent_of}
use Rattle.wl_node.specs.Queues.{head_by, unsent_by}
use Rattle.wl_phase.specs.InStep.{seen_before}
use Rattle.wl_phase.specs.Ways.{ByTheBook}
use Rattle.wl_heal.specs.Silence.{idle_bits, is_off, stretch_on, IsSilence}
use Rattle.wl_heal.proofs.Callers.{first_dominant, two_levels}
use Rattle.wl_machine.specs.Stretch.{Input}
use Rattle.wl_buses.specs.OneFrame.Nodes.{IsRun, clock_sees}
use Rattle.wl_buses.proofs.Callers.{drive_last, frames_by, idle_is, nothing_up_to, seen_are, seen_length, steady_last, stretch_last}
use Rattle.wl_silence.specs.Restarts.{GoesOnAs, passed_since, setup_since}
use Rattle.wl_silence.specs.Silences.{IsAsFresh, IsSilentNode, eleventh_of, joins_at, silence_bits}
use Rattle.wl_silence.proofs.Bits as bits
use Rattle.wl_silence.proofs.Bits.{SilentClock}
use Rattle.wl_silence.proofs.Queues.{head_since}

-- A machine to which the bus is idle samples recessive, and wants nothing then: it was handed no frame.
record StaysIdle (x : Stretch) (v : Sampled) : Type 0 where
  sort : (stretch_after x (Sample v)).sort ≡ Idle
  head : v.head ≡ None
  ended : (judged x v).ended ≡ NoFrame

stays_idle : (x : Stretch) (v : Sampled) → x.sort ≡ Idle → v.level ≡ Recessive → drive_of (stretch_after x (Sample v)) ≡ Recessive → StaysIdle x v
stays_idle x v i e d = by v.head refl
  where
    then : (h : Option Content) → v.head ≡ h → stretch_after x (Sample v) ≡ or_next (idle_on h).next (record { sort = x.sort; own = x.own ++ v.level ∷ [] })
    then h f = ap (λ j. or_next j.next (record { sort = x.sort; own = x.own ++ v.level ∷ [] })) (idle_is x v i e ∙ ap idle_on f)

    by : (h : Option Content) → v.head ≡ h → StaysIdle x v
    by None f = record { sort = ap (λ s. s.sort) (then None f) ∙ i; head = f; ended = ap (λ j. j.ended) (idle_is x v i e ∙ ap idle_on f) }
    by (Some c) f = absurd (two_levels (drive_by (Framing (Some c)) []) (first_dominant c) (sym (ap drive_of (then (Some c) f)) ∙ d))

-- what a silence leaves of a machine
abbrev pub LeavesIdle : Type 0
LeavesIdle = (past : List Input) (xs : List Sampled) → is_off (stretch_of past) ≡ false → idle_bits ≤ length xs → IsSilence (stretch_of past) xs
    → drive_of (stretch_on (stretch_of past) xs) ≡ Recessive → (stretch_on (stretch_of past) xs).sort ≡ Idle

module _ (laws : SilentClock) (leaves : LeavesIdle) (setup : NodeSetup) (book : ByTheBook setup.segments) (levels : ℕ → Level) (node : ℕ → History) (run : IsRun setup levels node) (first limit last : ℕ)
    (room : limit + bit_quanta setup.segments ≤ last) (enough : first + 35 * bit_quanta setup.segments ≤ limit) (silent : (q : ℕ) → first ≤ q → q ≤ last → levels q ≡ Recessive)
    (drives : (q : ℕ) → first ≤ q → q ≤ limit → (node (suc q)).drive ≡ Recessive)
    (active : (q : ℕ) → first ≤ q → q ≤ limit → mode_of (counts_of (node (suc q)).happened) ≡ Active)
    (on : (q : ℕ) → first ≤ q → q ≤ limit → is_off (stretch_of (node (suc q)).inputs) ≡ false) where
  abbrev l : Lengths
  l = setup.segments

  abbrev S : ℕ
  S = sample_at l

  abbrev B : ℕ
  B = bit_quanta l

  abbrev two : first + 2 * B ≤ last
  two = omega arith

  abbrev place : ℕ → ℕ
  place n = bits.place laws setup book levels node run first last silent two n

  abbrev X : ℕ → Stretch
  X n = stretch_of (node (suc (place n + S))).inputs

  place_at : (n : ℕ) → place n ≡ place 0 + n * B
  place_at n = bits.place_is laws setup book levels node run first last silent two n

  -- a bit of these is in the silence
  in_time : (n : ℕ) → n ≤ 33 → place n + B + B ≤ limit + B
  in_time n few =
      let high = bits.place_high laws setup book levels node run first last silent two 0 in
      let e = place_at n in
      let low = book.lengths.ps2_low in
      let more : n * B ≤ 33 * B = by n few in
      omega arith
    where
      by : (n : ℕ) → n ≤ 33 → n * B ≤ 33 * B
      by n few = let e : (33 - n) + n ≡ 33 = omega arith in let f : ((33 - n) + n) * B ≡ 33 * B = ap (λ k. k * B) e in let g : ((33 - n) + n) * B ≡ (33 - n) * B + n * B = omega arith in omega arith

  wants : (n : ℕ) → n ≤ 33 → drive_of (X n) ≡ Recessive
  wants n few = let h = in_time n few in bits.wants_none laws setup book levels node run first last silent two limit room drives active n (omega arith)

  idle_32 : (X 32).sort ≡ Idle
  idle_32 =
      let t : place (0 + 32) + S ≤ limit = (let h = in_time 32 (omega arith) in omega arith) in
      let e = bits.samples_on laws setup book levels node run first last silent two limit room drives active 0 32 t in
      let low = bits.place_low laws setup book levels node run first last silent two 0 in
      let h = in_time 0 (omega arith) in
      let n = bits.length_from laws setup book levels node run first last silent two limit room drives active 0 32 in
      ap (λ s. s.sort) (sym e)
      ∙ leaves (node (suc (place 0 + S))).inputs (bits.given_from laws setup book levels node run first last silent two limit room drives active 0 32) (on (place 0 + S) (omega arith) (omega arith)) (omega arith)
      (bits.silence_on laws setup book levels node run first last silent two limit room drives active 0 32 t) (ap drive_of e ∙ wants 32 (omega arith))

  -- the sample of its last bit
  abbrev given : Sampled
  given = bits.given laws setup book levels node run first last silent two limit room drives active 32

  abbrev sample : ℕ
  sample = place 32 + B + S

  sample_in : sample ≤ limit
  sample_in = let h = in_time 33 (omega arith) in let e = place_at 33 in let f = place_at 32 in omega arith

  next_place : place 33 ≡ place 32 + B
  next_place = let e = place_at 33 in let f = place_at 32 in omega arith

  then : X 33 ≡ stretch_after (X 32) (Sample given)
  then = bits.stretch_then laws setup book levels node run first last silent two limit room drives active 32 sample_in

  idles : StaysIdle (X 32) given
  idles =
      stays_idle (X 32) given idle_32 (bits.given_level laws setup book levels node run first last silent two limit room drives active 32 sample_in)
      (ap drive_of (sym then) ∙ wants 33 (omega arith))

  -- the quantum at which the fresh node powers up, and the one after its eleventh sample
  at : ℕ
  at = place 23

  abbrev eleventh : ℕ
  eleventh = 10 * B + S

  at_is : at + eleventh ≡ sample
  unfolding at
  at_is = let e = place_at 23 in let f = place_at 32 in omega arith

  at_low : first ≤ at
  unfolding at
  at_low = bits.place_low laws setup book levels node run first last silent two 23

  at_high : at + 12 * B ≤ first + 36 * B
  unfolding at
  at_high = let h = bits.place_high laws setup book levels node run first last silent two 0 in let e = place_at 23 in omega arith

  abbrev before : History
  before = node (suc sample)

  idle : (stretch_of before.inputs).sort ≡ Idle
  idle = ap (λ q. (stretch_of (node (suc (q + S))).inputs).sort) (sym next_place) ∙ ap (λ s. s.sort) then ∙ idles.sort

  clock : clock_after l (seen_before (clock_sees levels node) (suc sample)) ≡ steady_clock l
  clock = bits.steady laws setup book levels node run first last silent two 32 (let h = sample_in in omega arith)

  low : first ≤ sample
  low = let h = bits.place_low laws setup book levels node run first last silent two 32 in omega arith

  drive : before.drive ≡ Recessive
  drive = drives sample low sample_in

  same : bits.SameIn laws setup book levels node run first last silent two 32 sample
  same = bits.same_in laws setup book levels node run first last silent two 32 sample (let h = sample_in in omega arith) (let h = book.lengths.low in omega arith) (omega arith)

  frames_same : before.frames ≡ (node sample).frames
  frames_same =
      frames_by setup levels node run sample (beats.Sample Recessive) (bits.beat_next laws setup book levels node run first last silent two limit room drives active 32 sample_in)
      ∙ ap (λ s. (node sample).frames ++ passed_frames (length (node sample).seen) (judged (stretch_of s) given).ended) same.inputs
      ∙ ap (λ e. (node sample).frames ++ passed_frames (length (node sample).seen) e) idles.ended ∙ append-nil (node sample).frames

  length_at : (q : ℕ) → length (node q).seen ≡ q
  length_at q = ap length (seen_are setup levels node run q) ∙ seen_length (clock_sees levels node) q

  -- its queue hands it none
  head_none_then : head_by setup.order (unsent_of setup before) (at + eleventh) ≡ None
  head_none_then =
      ap (λ f. head_by setup.order (unsent_by setup.order setup.queue f) (at + eleventh)) frames_same ∙ ap (head_by setup.order (unsent_of setup (node sample))) (at_is ∙ sym (length_at sample))
      ∙ ap (λ v. handed v setup.segments.sync (head_at_next setup (node sample))) (sym (silent sample low (let h = sample_in in omega arith))) ∙ idles.head

  -- the node that powers up then
  abbrev setup' : NodeSetup
  setup' = setup_since setup at before

  module _ (levels' : ℕ → Level) (node' : ℕ → History) (run' : IsRun setup' levels' node') (silent' : (q : ℕ) → q ≤ eleventh → levels' q ≡ Recessive) where
    unready : (n : ℕ) → 10 ≤ n → n < 10 → head_by setup'.order setup'.queue (n * B + S) ≡ None
    unready n more less = absurd (omega arith)

    none : head_by setup'.order setup'.queue eleventh ≡ None
    none = head_since at setup.order (unsent_of setup before) eleventh ∙ head_none_then

    abbrev fresh : History
    fresh = node' (suc eleventh)

    length' : length fresh.seen ≡ suc eleventh
    length' = ap length (seen_are setup' levels' node' run' (suc eleventh)) ∙ seen_length (clock_sees levels' node') (suc eleventh)

    idle' : (stretch_of fresh.inputs).sort ≡ Idle
    idle' = ap (λ s. s.sort) (stretch_last laws.ways laws.calm laws.edges setup' book levels' node' run' 10 silent' unready None none)

    untouched : fresh.frames ≡ []
    untouched = (nothing_up_to laws.ways laws.calm laws.edges setup' book levels' node' run' 10 silent' unready None none (suc eleventh) (omega arith)).0

    goes_on_first : GoesOnAs setup at before fresh before
    goes_on_first = record {
      quanta = (let a = length_at (suc sample) in let b = length' in let c = at_is in omega arith);
      clock =
          ap (clock_after l) (seen_are setup levels node run (suc sample)) ∙ clock ∙ sym (steady_last laws.ways laws.calm laws.edges setup' book levels' node' run' 9 silent' (λ n more less. unready n more less))
          ∙ ap (clock_after l) (sym (seen_are setup' levels' node' run' (suc eleventh)));
      machine = inr (idle, idle');
      drive = drive ∙ sym (drive_last laws.ways laws.calm laws.edges setup' book levels' node' run' 10 silent' unready None none);
      frames = sym (append-nil before.frames) ∙ ap (λ f. before.frames ++ map (passed_since at) f) (sym untouched);
      errors = refl;
      counters = record { tec = omega arith; rec = omega arith; active = active sample low sample_in };
    }

  -- it stays so as long as it drives nothing
  abbrev given_at : ℕ → Sampled
  given_at n = bits.given laws setup book levels node run first last silent two limit room drives active n

  module _ (n : ℕ) (more : place (suc n) + B ≤ limit) where
    next_in : place n + B + S ≤ limit
    next_in = let e = bits.place_next laws setup book levels node run first last silent two n in omega arith

    then_at : X (suc n) ≡ stretch_after (X n) (Sample (given_at n))
    then_at = bits.stretch_then laws setup book levels node run first last silent two limit room drives active n next_in

    stays_at : (X n).sort ≡ Idle → StaysIdle (X n) (given_at n)
    stays_at i =
        stays_idle (X n) (given_at n) i (bits.given_level laws setup book levels node run first last silent two limit room drives active n next_in)
        (ap drive_of (sym then_at) ∙ bits.wants_none laws setup book levels node run first last silent two limit room drives active (suc n) more)

    same_at : bits.SameIn laws setup book levels node run first last silent two n (place n + B + S)
    same_at = bits.same_in laws setup book levels node run first last silent two n (place n + B + S) (let h = next_in in omega arith) (let h = book.lengths.low in omega arith) (omega arith)

    frames_at : (X n).sort ≡ Idle → (node (suc (place n + B + S))).frames ≡ (node (suc (place n + S))).frames
    frames_at i =
        frames_by setup levels node run (place n + B + S) (beats.Sample Recessive) (bits.beat_next laws setup book levels node run first last silent two limit room drives active n next_in)
        ∙ ap (λ s. (node (place n + B + S)).frames ++ passed_frames (length (node (place n + B + S)).seen) (judged (stretch_of s) (given_at n)).ended) same_at.inputs
        ∙ ap (λ e. (node (place n + B + S)).frames ++ passed_frames (length (node (place n + B + S)).seen) e) (stays_at i).ended ∙ append-nil (node (place n + B + S)).frames ∙ same_at.frames

    head_at_it : (X n).sort ≡ Idle → head_by setup.order (unsent_by setup.order setup.queue (node (suc (place n + S))).frames) (place n + B + S) ≡ None
    head_at_it i =
        ap (λ f. head_by setup.order (unsent_by setup.order setup.queue f) (place n + B + S)) (sym same_at.frames)
        ∙ ap (head_by setup.order (unsent_of setup (node (place n + B + S)))) (sym (length_at (place n + B + S)))
        ∙ ap (λ v. handed v setup.segments.sync (head_at_next setup (node (place n + B + S)))) (sym (silent (place n + B + S) (let h = bits.place_low laws setup book levels node run first last silent two n in omega arith) (let h = next_in in omega arith)))
        ∙ (stays_at i).head

  record StillIdle (n : ℕ) : Type 0 where
    sort : (X n).sort ≡ Idle
    frames : (node (suc (place n + S))).frames ≡ before.frames

  still : (j : ℕ) → place (33 + j) + B ≤ limit → StillIdle (33 + j)
  still zero more = record { sort = ap (λ s. s.sort) then ∙ idles.sort; frames = ap (λ q. (node (suc (q + S))).frames) next_place }
  still (suc j) more =
      let e : suc (33 + j) ≡ 33 + suc j = omega arith in
      let p = bits.place_next laws setup book levels node run first last silent two (33 + j) in
      let more' : place (suc (33 + j)) + B ≤ limit = subst (λ n. place n + B ≤ limit) (sym e) more in
      let i = still j (omega arith) in
      subst StillIdle e (record {
        sort = ap (λ s. s.sort) (then_at (33 + j) more') ∙ (stays_at (33 + j) more' i.sort).sort;
        frames = ap (λ q. (node (suc (q + S))).frames) p ∙ frames_at (33 + j) more' i.sort ∙ i.frames;
      })

  -- no frame is ready by a later sample, if the node drives nothing a bit later
  none_ready : (j : ℕ) → at + (12 + j) * B ≤ limit → head_by setup.order (unsent_of setup before) (at + ((11 + j) * B + S)) ≡ None
  unfolding at
  none_ready j more =
      let e = place_at 23 in
      let f = place_at (33 + j) in
      let g = place_at (suc (33 + j)) in
      let more' : place (suc (33 + j)) + B ≤ limit = omega arith in
      let p = bits.place_next laws setup book levels node run first last silent two (33 + j) in
      let i = still j (omega arith) in
      let q : place 23 + ((11 + j) * B + S) ≡ place (33 + j) + B + S = omega arith in
      ap (head_by setup.order (unsent_of setup before)) q ∙ ap (λ fs. head_by setup.order (unsent_by setup.order setup.queue fs) (place (33 + j) + B + S)) (sym i.frames) ∙ head_at_it (33 + j) more' i.sort

  abbrev pub joins : ℕ
  joins = joins_at setup levels node first

  at_joins : at ≡ joins
  unfolding at
  at_joins = let e = place_at 23 in let f = bits.place_first laws setup book levels node run first last silent two in omega arith

  pub rested_low : first ≤ joins
  rested_low = let e = at_joins in let h = at_low in omega arith

  pub rested_high : joins + 12 * B ≤ first + 36 * B
  rested_high = let e = at_joins in let h = at_high in omega arith

  fresh_at : IsAsFresh setup node at (at + eleventh)
  fresh_at = subst (IsAsFresh setup node at) (sym at_is) goes_on_first

  pub rested_fresh : IsAsFresh setup node joins (joins + eleventh)
  rested_fresh = subst (λ a. IsAsFresh setup node a (a + eleventh)) at_joins fresh_at

  pub rested_none : head_by setup.order (unsent_of setup (node (suc (joins + eleventh)))) (joins + eleventh) ≡ None
  rested_none =
      subst (λ a. head_by setup.order (unsent_of setup (node (suc (a + eleventh)))) (a + eleventh) ≡ None) at_joins
      (ap (λ q. head_by setup.order (unsent_of setup (node (suc q))) (at + eleventh)) at_is ∙ head_none_then)

  pub rested_unready : (j : ℕ) → joins + (12 + j) * B ≤ limit → head_by setup.order (unsent_of setup (node (suc (joins + eleventh)))) (joins + ((11 + j) * B + S)) ≡ None
  rested_unready j =
      subst (λ a. a + (12 + j) * B ≤ limit → head_by setup.order (unsent_of setup (node (suc (a + eleventh)))) (a + ((11 + j) * B + S)) ≡ None) at_joins
      (λ more. ap (λ q. head_by setup.order (unsent_of setup (node (suc q))) (at + ((11 + j) * B + S))) at_is ∙ none_ready j more)

-- so it is with each node in a silence
pub as_fresh : (laws : SilentClock) → LeavesIdle → (setup : NodeSetup) (levels : ℕ → Level) (node : ℕ → History) (first : ℕ) → ByTheBook setup.segments → IsRun setup levels node → IsSilentNode setup levels node first
    → let at : ℕ = joins_at setup levels node first in
    (first ≤ at) × (at + 12 * bit_quanta setup.segments ≤ first + silence_bits * bit_quanta setup.segments) × IsAsFresh setup node at (at + eleventh_of setup.segments)
as_fresh laws leaves setup levels node first book run is =
    let B : ℕ = bit_quanta setup.segments in
    let room : first + 35 * B + B ≤ first + 36 * B = omega arith in
    let enough : first + 35 * B ≤ first + 35 * B = omega arith in (
      rested_low laws leaves setup book levels node run first (first + 35 * B) (first + 36 * B) room enough is.silent is.drives is.active is.on,
      rested_high laws leaves setup book levels node run first (first + 35 * B) (first + 36 * B) room enough is.silent is.drives is.active is.on,
      rested_fresh laws leaves setup book levels node run first (first + 35 * B) (first + 36 * B) room enough is.silent is.drives is.active is.on,
    )
