-- A node goes on as one that powered up later, quantum by quantum, as long as this one finds no error.
use Rattle.std.proofs.Common.{◌≡◌, ◌∙◌, inl, inr, refl, sym, ap, subst, ℕ, suc, ◌+◌, ◌-◌, ◌<◌, ◌≤◌, ◌||◌, cond, Bool, true, false, List, [], ◌∷◌, ◌++◌, length, Option, Some, None, arith, append-nil}
use Rattle.std.specs.Prelude.{count_by, map, nat_le, take}
use Rattle.std.proofs.lemmas.Bool.{cases_lt, le-leb, lt-leb, le-ltb}
use Rattle.std.proofs.lemmas.List.{map-append, append_assoc}
use Rattle.std.proofs.lemmas.List.Sums.{fold-append}
use Rattle.wl_level.specs.declared.Level.{Level}
use Rattle.wl_level.specs.Levels.{is_dominant}
use Rattle.wl_level.proofs.Callers.{length_more}
use Rattle.wl_confine.specs.declared.Happened.{Happened}
use Rattle.wl_confine.specs.declared.Happened.TheVariants as happens
use Rattle.wl_confine.specs.declared.Mode.TheVariants.{Active, Passive, Off}
use Rattle.wl_confine.specs.Counts.{Counts, counts_after, counts_of, is_error, mode_of, no_counts}
use Rattle.wl_sync.specs.declared.Beat.{Beat}
use Rattle.wl_sync.specs.declared.Beat.TheVariants as beats
use Rattle.wl_sync.specs.declared.Seen.{Seen}
use Rattle.wl_sync.specs.Bits.{beat_of}
use Rattle.wl_sync.specs.Running.{clock_after}
use Rattle.wl_sync.specs.Steps.{running_after, running_beat, running_edge}
use Rattle.wl_machine.specs.Stretch.{Ended, Judgement, Sampled, Sort, Stretch}
use Rattle.wl_machine.specs.Stretch.Ended.{NoFrame, Received, Sent}
use Rattle.wl_machine.specs.Stretch.Sort.{Idle}
use Rattle.wl_machine.specs.Stretch.Input.{Sample}
use Rattle.wl_machine.specs.Judged.{awaits_by, awaits_start, drive_by, drive_of, is_idle_sort, judged, judged_by, or_next, stretch_after, stretch_of}
use Rattle.wl_machine.specs.BetweenFrames.{idle}
use Rattle.wl_machine.proofs.Callers.{stretch_next}
use Rattle.wl_node.specs.declared.setup.NodeSetup.{NodeSetup}
use Rattle.wl_node.specs.History.{History, by_beat, counters_of, error_count, handed, history_after, is_integration, passed_frames, sampled_next, seen_next, switched_off}
use Rattle.wl_node.proofs.Callers.{count_append}
use Rattle.wl_phase.proofs.Callers.{Goes}
use Rattle.wl_silence.specs.Restarts.{DoNotRise, GoesOnAs, GoAlike, IsUnharmed, history_on, passed_since, setup_since}
use Rattle.wl_silence.proofs.Queues.{head_is}

-- machines that go on alike look alike from outside
by_sort : {A : Type 0} (f : Sort → List Level → A) (a : A) → ((own : List Level) → f Idle own ≡ a) → (x y : Stretch) → GoAlike x y → f x.sort x.own ≡ f y.sort y.own
by_sort f a at x y (inl e) = ap (λ s. f s.sort s.own) e
by_sort f a at x y (inr (i, j)) = ap (λ s. f s x.own) i ∙ at x.own ∙ sym (at y.own) ∙ ap (λ s. f s y.own) (sym j)

idle_same : (x y : Stretch) → GoAlike x y → is_idle_sort x.sort ≡ is_idle_sort y.sort
idle_same x y a = by_sort (λ s own. is_idle_sort s) true (λ own. refl) x y a

awaits_same : (x y : Stretch) → GoAlike x y → awaits_start x ≡ awaits_start y
awaits_same x y a = by_sort awaits_by true (λ own. refl) x y a

integrates_same : (x y : Stretch) → GoAlike x y → is_integration x.sort ≡ is_integration y.sort
integrates_same x y a = by_sort (λ s own. is_integration s) false (λ own. refl) x y a

drive_same : (x y : Stretch) → GoAlike x y → drive_of x ≡ drive_of y
drive_same x y a = by_sort drive_by (drive_by Idle []) (λ own. refl) x y a

judged_same : (x y : Stretch) (v : Sampled) → GoAlike x y → judged x v ≡ judged y v
judged_same x y v a = by_sort (λ s own. judged_by s own v) (idle v) (λ own. refl) x y a

next_alike : (o : Option Stretch) (x y : Stretch) → x.sort ≡ Idle → y.sort ≡ Idle → GoAlike (or_next o x) (or_next o y)
next_alike None x y i j = inr (i, j)
next_alike (Some n) x y i j = inl refl

alike_next : (x y : Stretch) (v : Sampled) → GoAlike x y → GoAlike (stretch_after x (Sample v)) (stretch_after y (Sample v))
alike_next x y v (inl e) = inl (ap (λ s. stretch_after s (Sample v)) e)
alike_next x y v (inr (i, j)) =
    subst (λ o. GoAlike (or_next o (record { sort = x.sort; own = x.own ++ v.level ∷ [] })) (stretch_after y (Sample v))) (sym (ap (λ g. g.next) (judged_same x y v (inr (i, j)))))
    (next_alike (judged y v).next (record { sort = x.sort; own = x.own ++ v.level ∷ [] }) (record { sort = y.sort; own = y.own ++ v.level ∷ [] }) i j)

-- what happens to a node that finds no error, and whose counters stay 0
record IsCalm (h : Happened) : Type 0 where
  counts : counts_after no_counts h ≡ no_counts
  error : is_error h ≡ false

record IsLow (c : Counts) : Type 0 where
  tec : c.tec < 128
  rec : c.rec < 128

mode_by : (off passive : Bool) → cond off Off (cond passive Passive Active) ≡ Active → (off ≡ false) × (passive ≡ false)
mode_by true passive e = cc
mode_by false true e = cc
mode_by false false e = (refl, refl)

low_from : (c : Counts) → mode_of c ≡ Active → IsLow c
low_from c e =
    let m = mode_by (nat_le 256 c.tec) (nat_le 128 c.tec || nat_le 128 c.rec) e in
    elim (cases_lt c.tec 128) [
      | inl t ↦ elim (cases_lt c.rec 128) [
        | inl r ↦ record { tec = t; rec = r }
        | inr r ↦ (let h = ap (λ b. b || nat_le 128 c.rec) (lt-leb 128 c.tec t) in let g = le-leb 128 c.rec r in let f = m.1 in cc)
      ]
      | inr t ↦ (let h = ap (λ b. b || nat_le 128 c.rec) (le-leb 128 c.tec t) in let f = m.1 in cc)
    ]

active_from : (c : Counts) → IsLow c → mode_of c ≡ Active
active_from c low =
    let t = low.tec in
    let r = low.rec in
    ap (λ b. cond b Off (cond (nat_le 128 c.tec || nat_le 128 c.rec) Passive Active)) (lt-leb 256 c.tec (omega arith))
    ∙ ap (λ b. cond (b || nat_le 128 c.rec) Passive Active) (lt-leb 128 c.tec t) ∙ ap (λ b. cond b Passive Active) (lt-leb 128 c.rec r)

record NoMore (before now : Counts) : Type 0 where
  tec : now.tec ≤ before.tec
  rec : now.rec ≤ before.rec

none_more : (c : Counts) → NoMore c c
none_more c = record { tec = omega arith; rec = omega arith }

calm_after : (c : Counts) (h : Happened) → IsLow c → IsCalm h → NoMore c (counts_after c h)
calm_after c happens.Nothing low calm = none_more c
calm_after c happens.Sent low calm = record { tec = omega arith; rec = omega arith }
calm_after c happens.Acked low calm = (let r = low.rec in record {
  tec = omega arith;
  rec = subst (λ b. cond b 127 (c.rec - 1) ≤ c.rec) (sym (le-ltb 127 c.rec (omega arith))) (omega arith);
})
calm_after c happens.Recovered low calm = record { tec = omega arith; rec = omega arith }
calm_after c (happens.RxError kind) low calm = (let e = calm.error in cc)
calm_after c happens.RxAfterFlag low calm = (let e = ap (λ n. n.rec) calm.counts in absurd (omega arith))
calm_after c happens.RxFlagBit low calm = (let e = ap (λ n. n.rec) calm.counts in absurd (omega arith))
calm_after c happens.RxLong low calm = (let e = ap (λ n. n.rec) calm.counts in absurd (omega arith))
calm_after c (happens.TxError kind) low calm = (let e = calm.error in cc)
calm_after c happens.TxFree low calm = (let e = calm.error in cc)
calm_after c happens.PassiveAck low calm = (let e = ap (λ n. n.tec) calm.counts in absurd (omega arith))
calm_after c happens.TxFlagBit low calm = (let e = ap (λ n. n.tec) calm.counts in absurd (omega arith))
calm_after c happens.TxLong low calm = (let e = ap (λ n. n.tec) calm.counts in absurd (omega arith))

passed_later : (p n : ℕ) (e : Ended) → passed_frames (p + n) e ≡ map (passed_since p) (passed_frames n e)
passed_later p n NoFrame = refl
passed_later p n (Sent frame) = refl
passed_later p n (Received frame) = refl

module _ (goes : Goes) (setup : NodeSetup) (p : ℕ) (before : History) (fresh now : History) (on : GoesOnAs setup p before fresh now) (clean : IsUnharmed fresh) (v : Level) where
  abbrev setup' : NodeSetup
  setup' = setup_since setup p before

  seen_same : seen_next now v ≡ seen_next fresh v
  seen_same = λ j. record {
    level = v;
    idle = idle_same (stretch_of now.inputs) (stretch_of fresh.inputs) on.machine j;
    awaits = awaits_same (stretch_of now.inputs) (stretch_of fresh.inputs) on.machine j;
    integrates = integrates_same (stretch_of now.inputs) (stretch_of fresh.inputs) on.machine j;
    driving = is_dominant (on.drive j);
  }

  abbrev x : Seen
  x = seen_next fresh v

  beat_same : beat_of setup.segments now.seen (seen_next now v) ≡ beat_of setup.segments fresh.seen x
  beat_same =
      ap (beat_of setup.segments now.seen) seen_same ∙ goes.beat setup.segments now.seen x ∙ ap (λ r. running_beat (running_edge r) x) on.clock
      ∙ sym (goes.beat setup.segments fresh.seen x)

  clock_next : clock_after setup.segments (now.seen ++ seen_next now v ∷ []) ≡ clock_after setup.segments (fresh.seen ++ x ∷ [])
  clock_next =
      ap (λ y. clock_after setup.segments (now.seen ++ y ∷ [])) seen_same ∙ goes.clock setup.segments now.seen x ∙ ap (λ r. running_after r x) on.clock
      ∙ sym (goes.clock setup.segments fresh.seen x)

  longer_same : length (now.seen ++ seen_next now v ∷ []) ≡ p + length (fresh.seen ++ x ∷ [])
  longer_same =
      let a = length_more now.seen (seen_next now v) in
      let b = length_more fresh.seen x in
      let c = on.quanta in
      omega arith

  -- a sample
  abbrev given : Sampled
  given = sampled_next setup now v

  abbrev given' : Sampled
  given' = sampled_next setup' fresh v

  given_same : given ≡ given'
  given_same = λ j. record {
    level = v;
    head = ap (handed v setup.segments.sync) (sym (head_is setup p before fresh now on.frames on.quanta)) j;
    mode = (on.counters.active ∙ sym (ap mode_of clean.counters)) j;
  }

  abbrev judgement : Judgement
  judgement = judged (stretch_of now.inputs) given

  abbrev judgement' : Judgement
  judgement' = judged (stretch_of fresh.inputs) given'

  judgement_same : judgement ≡ judgement'
  judgement_same = ap (judged (stretch_of now.inputs)) given_same ∙ judged_same (stretch_of now.inputs) (stretch_of fresh.inputs) given' on.machine

  -- what is left of both, if nothing was wrong with it
  module _ (then_counts : counts_of (fresh.happened ++ judgement'.happened ∷ []) ≡ no_counts) (then_errors : count_by is_error (fresh.happened ++ judgement'.happened ∷ []) ≡ 0) where
    calm : IsCalm judgement'.happened
    calm = record {
      counts = ap (λ n. counts_after n judgement'.happened) (sym clean.counters) ∙ sym (fold-append counts_after no_counts fresh.happened (judgement'.happened ∷ [])) ∙ then_counts;
      error = no_error (is_error judgement'.happened) (let e = count_append is_error fresh.happened (judgement'.happened ∷ []) in let f = clean.errors in let g = then_errors in omega arith);
    }
      where
        no_error : (b : Bool) → 0 + cond b 1 0 ≡ 0 → b ≡ false
        no_error true e = absurd (omega arith)
        no_error false e = refl

    calm_now : IsCalm judgement.happened
    calm_now = subst (λ g. IsCalm g.happened) (sym judgement_same) calm

    counts_more : counts_of (now.happened ++ judgement.happened ∷ []) ≡ counts_after (counts_of now.happened) judgement.happened
    counts_more = fold-append counts_after no_counts now.happened (judgement.happened ∷ [])

    low : IsLow (counts_of now.happened)
    low = low_from (counts_of now.happened) on.counters.active

    no_more : NoMore (counts_of now.happened) (counts_of (now.happened ++ judgement.happened ∷ []))
    no_more = subst (NoMore (counts_of now.happened)) (sym counts_more) (calm_after (counts_of now.happened) judgement.happened low calm_now)

    counters_then : DoNotRise (counters_of before) (counts_of (now.happened ++ judgement.happened ∷ []))
    counters_then =
        let a = no_more.tec in
        let b = no_more.rec in
        let t = low.tec in
        let r = low.rec in
        let c = on.counters.tec in
        let d = on.counters.rec in
        record {
          tec = omega arith;
          rec = omega arith;
          active = active_from (counts_of (now.happened ++ judgement.happened ∷ [])) (record { tec = omega arith; rec = omega arith });
        }

    none_off : switched_off given.mode (mode_of (counts_of (now.happened ++ judgement.happened ∷ []))) ≡ []
    none_off = ap (λ m. switched_off m (mode_of (counts_of (now.happened ++ judgement.happened ∷ [])))) on.counters.active ∙ ap (switched_off Active) counters_then.active

    none_off' : switched_off given'.mode (mode_of (counts_of (fresh.happened ++ judgement'.happened ∷ []))) ≡ []
    none_off' =
        ap (λ m. switched_off (mode_of m) (mode_of (counts_of (fresh.happened ++ judgement'.happened ∷ [])))) clean.counters ∙ ap (λ n. switched_off (mode_of no_counts) (mode_of n)) then_counts

    stretch_now : stretch_of ((now.inputs ++ Sample given ∷ []) ++ switched_off given.mode (mode_of (counts_of (now.happened ++ judgement.happened ∷ [])))) ≡ stretch_after (stretch_of now.inputs) (Sample given')
    stretch_now =
        ap stretch_of (ap (λ l. (now.inputs ++ Sample given ∷ []) ++ l) none_off ∙ append-nil (now.inputs ++ Sample given ∷ []))
        ∙ stretch_next now.inputs (Sample given) ∙ ap (λ g. stretch_after (stretch_of now.inputs) (Sample g)) given_same

    stretch_fresh : stretch_of ((fresh.inputs ++ Sample given' ∷ []) ++ switched_off given'.mode (mode_of (counts_of (fresh.happened ++ judgement'.happened ∷ [])))) ≡ stretch_after (stretch_of fresh.inputs) (Sample given')
    stretch_fresh =
        ap stretch_of (ap (λ l. (fresh.inputs ++ Sample given' ∷ []) ++ l) none_off' ∙ append-nil (fresh.inputs ++ Sample given' ∷ [])) ∙ stretch_next fresh.inputs (Sample given')

    machine_then : GoAlike (stretch_of ((now.inputs ++ Sample given ∷ []) ++ switched_off given.mode (mode_of (counts_of (now.happened ++ judgement.happened ∷ [])))))
        (stretch_of ((fresh.inputs ++ Sample given' ∷ []) ++ switched_off given'.mode (mode_of (counts_of (fresh.happened ++ judgement'.happened ∷ [])))))
    machine_then =
        subst (λ s. GoAlike s (stretch_of ((fresh.inputs ++ Sample given' ∷ []) ++ switched_off given'.mode (mode_of (counts_of (fresh.happened ++ judgement'.happened ∷ [])))))) (sym stretch_now)
        (subst (GoAlike (stretch_after (stretch_of now.inputs) (Sample given'))) (sym stretch_fresh) (alike_next (stretch_of now.inputs) (stretch_of fresh.inputs) given' on.machine))

    frames_then : now.frames ++ passed_frames (length now.seen) judgement.ended ≡ before.frames ++ map (passed_since p) (fresh.frames ++ passed_frames (length fresh.seen) judgement'.ended)
    frames_then =
        ap (λ g. now.frames ++ passed_frames (length now.seen) g.ended) judgement_same ∙ ap (λ n. now.frames ++ passed_frames n judgement'.ended) on.quanta
        ∙ ap (λ l. now.frames ++ l) (passed_later p (length fresh.seen) judgement'.ended)
        ∙ ap (λ l. l ++ map (passed_since p) (passed_frames (length fresh.seen) judgement'.ended)) on.frames
        ∙ append_assoc before.frames (map (passed_since p) fresh.frames) (map (passed_since p) (passed_frames (length fresh.seen) judgement'.ended))
        ∙ ap (λ l. before.frames ++ l) (sym (map-append (passed_since p) fresh.frames (passed_frames (length fresh.seen) judgement'.ended)))

    errors_then : count_by is_error (now.happened ++ judgement.happened ∷ []) ≡ error_count before
    errors_then = count_append is_error now.happened (judgement.happened ∷ []) ∙ ap (λ b. error_count now + (0 + cond b 1 0)) calm_now.error ∙ omega arith ∙ on.errors

  -- a quantum by its beat
  by_same : (b : Beat) → IsUnharmed (by_beat setup' fresh v b) → let n : History = by_beat setup now v b in let f : History = by_beat setup' fresh v b in
      GoAlike (stretch_of n.inputs) (stretch_of f.inputs) × (n.drive ≡ f.drive) × (n.frames ≡ before.frames ++ map (passed_since p) f.frames) × (error_count n ≡ error_count before)
      × DoNotRise (counters_of before) (counters_of n)
  by_same beats.Plain ok = (on.machine, on.drive, on.frames, on.errors, on.counters)
  by_same beats.Start ok = (on.machine, drive_same (stretch_of now.inputs) (stretch_of fresh.inputs) on.machine, on.frames, on.errors, on.counters)
  by_same (beats.Sample level) ok =
      (machine_then ok.counters ok.errors, on.drive, frames_then ok.counters ok.errors, errors_then ok.counters ok.errors, counters_then ok.counters ok.errors)

  pub goes_on_once : IsUnharmed (history_after setup' fresh v) → GoesOnAs setup p before (history_after setup' fresh v) (history_after setup now v)
  goes_on_once ok =
      let b : Beat = beat_of setup.segments fresh.seen x in
      let r = by_same b (record { counters = ok.counters; errors = ok.errors }) in
      record {
        quanta = longer_same;
        clock = clock_next;
        machine = subst (λ c. GoAlike (stretch_of (by_beat setup now v c).inputs) (stretch_of (by_beat setup' fresh v b).inputs)) (sym beat_same) r.0;
        drive = ap (λ c. (by_beat setup now v c).drive) beat_same ∙ r.1;
        frames = ap (λ c. (by_beat setup now v c).frames) beat_same ∙ r.2;
        errors = ap (λ c. error_count (by_beat setup now v c)) beat_same ∙ r.3;
        counters = subst (λ c. DoNotRise (counters_of before) (counters_of (by_beat setup now v c))) (sym beat_same) r.4;
      }

-- and quantum after quantum
pub goes_on : (goes : Goes) (setup : NodeSetup) (p : ℕ) (before fresh now : History) (levels : List Level) → GoesOnAs setup p before fresh now
    → ((k : ℕ) → IsUnharmed (history_on (setup_since setup p before) fresh (take k levels)))
    → GoesOnAs setup p before (history_on (setup_since setup p before) fresh levels) (history_on setup now levels)
goes_on goes setup p before fresh now [] on clean = on
goes_on goes setup p before fresh now (v ∷ levels) on clean =
    goes_on goes setup p before (history_after (setup_since setup p before) fresh v) (history_after setup now v) levels (goes_on_once goes setup p before fresh now on (clean 0) v (clean 1)) (λ k. clean (suc k))
