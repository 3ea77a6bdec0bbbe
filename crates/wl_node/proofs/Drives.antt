-- A node keeps its drive for as long as it promises, and changes it seldom.
use Rattle.std.proofs.Common.{◌≡◌, ◌∙◌, ℕ, zero, suc, ◌+◌, ◌*◌, ◌<◌, ◌≤◌, Bool, true, false, List, [], ◌∷◌, ◌++◌, length, Option, Some, None, refl, sym, ap, subst, arith, ◌⊎◌, inl, inr, append-nil, append_assoc, add-one, length-append}
use Rattle.std.proofs.Math.Nat.{mul-le-mul_left}
use Rattle.std.proofs.lemmas.Bool.{cases_lt, lt-leb, ltb-false, le-ltb}
use Rattle.wl_level.specs.declared.Level.{Level}
use Rattle.wl_level.specs.declared.Level.TheVariants.{Recessive}
use Rattle.wl_level.specs.Levels.{same}
use Rattle.wl_level.proofs.Callers.{same_self, same_equal}
use Rattle.wl_segments.specs.Lengths.{AreLengths, least_way}
use Rattle.wl_sync.specs.declared.Beat.{Beat}
use Rattle.wl_sync.specs.declared.Beat.TheVariants.{Plain, Sample, Start}
use Rattle.wl_sync.specs.Bits.{beat_of, sync_of}
use Rattle.wl_sync.specs.SampleLaws.{SampleLaws, quanta_to_sample}
use Rattle.wl_confine.specs.declared.Mode.{Mode}
use Rattle.wl_confine.specs.Counts.{counts_of, mode_of}
use Rattle.wl_machine.specs.Stretch.{Sort, Stretch, Sampled, Input}
use Rattle.wl_machine.specs.Stretch.Sort.{Integration, Idle, Framing, Flagging, Waiting, Delimiting, Intermission, Suspension, OffBus}
use Rattle.wl_machine.specs.Stretch.Input.{Sample as Given, SwitchedOff}
use Rattle.wl_machine.specs.Judged.{judged, stretch_of, stretch_after, drive_of, head_of}
use Rattle.wl_machine.specs.Silence.{SilenceLaws, silence_by, silence_of}
use Rattle.wl_machine.specs.Laws.{HeadLaws}
use Rattle.wl_machine.proofs.Callers.{stretch_next}
use Rattle.wl_node.specs.declared.setup.Queued.{Queued}
use Rattle.wl_node.specs.declared.setup.NodeSetup.{NodeSetup}
use Rattle.wl_node.specs.History.{History, staying_history, no_history, seen_next, sampled_next, handed, passed_frames, switched_off, by_beat, syncs_at, unsent_of}
use Rattle.wl_node.specs.Limits.{most_quiet-is}
use Rattle.wl_node.specs.Quiet.{pending_of, is_waiting, floor_by, floor_at, floor_and_silence, promise_by, until_ready, promise_at, quiet_at}
use Rattle.wl_node.proofs.Turns.{history_first, history_next}
use Rattle.wl_node.specs.Queues.{head_by}
use Rattle.wl_node.specs.Unsent.{is_first_ready}
use Rattle.wl_node.proofs.Sends.{off_or_not, handed_none, none_from}
use Rattle.wl_node.proofs.Unsents.{no_head, none_left, unsent_less}

-- what holds of no level, and of one level more where it holds before it, holds of all lists
pub grown : {A : Type 0} (P : List A → Type 0) → P [] → ((xs : List A) (x : A) → P xs → P (xs ++ x ∷ [])) → (xs : List A) → P xs
grown P none more xs = from [] none xs
  where
    from : (front : List _) → P front → (rest : List _) → P (front ++ rest)
    from front p [] = subst P (sym (append-nil front)) p
    from front p (x ∷ rest) = subst P (append_assoc front (x ∷ []) rest) (from (front ++ x ∷ []) (more front x p) rest)

pub same_when : (a b : Level) → a ≡ b → same a b ≡ true
same_when a b e = ap (same a) (sym e) ∙ same_self a

-- the history after a quantum of this beat
abbrev pub behind : NodeSetup → History → Level → Beat → History
behind setup h level beat = record (by_beat setup h level beat) {
  seen = h.seen ++ seen_next h level ∷ [];
  syncs = h.syncs ++ syncs_at (length h.seen) (sync_of setup.segments h.seen (seen_next h level));
}

abbrev pub beat_next : NodeSetup → History → Level → Beat
beat_next setup h level = beat_of setup.segments h.seen (seen_next h level)

-- the quanta up to the sample, where there is a way to it
abbrev pub left : Option ℕ → ℕ
left (Some n) = n
left None = 0

-- a longer promise is no shorter one
longer_least : (f s p : ℕ) → f ≤ floor_and_silence f s p
longer_least zero s p = omega arith
longer_least (suc f) s p = omega arith

-- a promise that is some rests on a floor that is
pub some_floor : (p f s k : ℕ) → suc k ≤ floor_and_silence f s p → 0 < f
some_floor p zero s k q = absurd (omega arith)
some_floor p (suc f) s k q = omega arith

pub longer_is : (p f s : ℕ) → 0 < f → floor_and_silence f s p ≡ f + s * suc p
longer_is p zero s h = absurd (omega arith)
longer_is p (suc f) s h = refl

-- one floor in the place of another that is less by one quantum at most
longer_near : (p f g s k : ℕ) → f ≤ suc g → 0 < g → suc k ≤ floor_and_silence f s p → k ≤ floor_and_silence g s p
longer_near p f g s k n h q = (let a = longer_is p f s (some_floor p f s k q) in let b = longer_is p g s h in omega arith)

abbrev pub place_of : NodeSetup → ℕ
place_of setup = least_way setup.segments

abbrev pub way_at : NodeSetup → History → Option ℕ
way_at setup h = quanta_to_sample setup.segments h.seen

-- between a start and its sample the drive is what the machine wants
abbrev pub IsSettled : NodeSetup → History → Type 0
IsSettled setup h = (n : ℕ) → way_at setup h ≡ Some n → h.drive ≡ pending_of h

module _ (ways : SampleLaws) (setup : NodeSetup) where
  settled_by : (h : History) (level : Level) (b : Beat) → beat_next setup h level ≡ b → IsSettled setup h → IsSettled setup (behind setup h level b)
  settled_by h level Start e s n w = refl
  settled_by h level (Sample v) e s n w = (let g = ways.sample setup.segments h.seen (seen_next h level) v e in cc)
  settled_by h level Plain e s n w = before (way_at setup h) refl
    where
      before : (o : Option ℕ) → way_at setup h ≡ o → h.drive ≡ pending_of h
      before (Some m) f = s m f
      before None f = (let g = ways.after setup.segments h.seen (seen_next h level) e f in cc)

  settled_first : IsSettled setup no_history
  settled_first n w = refl

  pub settled : (levels : List Level) → IsSettled setup (staying_history setup levels)
  settled =
      grown (λ levels. IsSettled setup (staying_history setup levels)) (subst (IsSettled setup) (sym (history_first setup)) settled_first)
      (λ levels x s. subst (IsSettled setup) (sym (history_next setup levels x)) (settled_by (staying_history setup levels) x (beat_next setup (staying_history setup levels) x) refl s))

  floor_few : (h : History) (o : Option ℕ) (t : Bool) → way_at setup h ≡ o → floor_by o t (place_of setup) ≤ suc (place_of setup)
  floor_few h (Some n) t e = (let m = ways.few setup.segments h.seen n e in let f = ways.least setup.segments in omega arith)
  floor_few h None true e = omega arith
  floor_few h None false e = omega arith

  pub floor : (levels : List Level) → AreLengths setup.segments → floor_at setup (staying_history setup levels) ≤ quiet_at setup (staying_history setup levels)
  floor levels l =
      let f = floor_few (staying_history setup levels) (way_at setup (staying_history setup levels)) (same (staying_history setup levels).drive (pending_of (staying_history setup levels))) refl in
      let m = most_quiet-is in
      let a = l.high in
      let b = l.ps2_low in
      let g = longer_least (floor_at setup (staying_history setup levels)) (silence_of (is_waiting setup (staying_history setup levels)) (stretch_of (staying_history setup levels).inputs)) (least_way setup.segments) in
      omega arith

module _ (silences : SilenceLaws) (ways : SampleLaws) (setup : NodeSetup) where
  -- where a quantum leaves a node that is quiet for it and for k quanta more
  record Keeps (heads : Bool) (h next : History) (k : ℕ) : Type 0 where
    drive : next.drive ≡ h.drive
    promise : k ≤ promise_by heads setup next

  abbrev silence_at : Bool → History → ℕ
  silence_at heads h = silence_of heads (stretch_of h.inputs)

  keeps_start : (heads : Bool) (h : History) (level : Level) → beat_next setup h level ≡ Start → IsSettled setup h → (k : ℕ) → suc k ≤ promise_by heads setup h → Keeps heads h (behind setup h level Start) k
  keeps_start heads h level e s k q = record {
    drive = (starts (way_at setup h) refl (same h.drive (pending_of h)) refl some).0;
    promise =
        subst (λ o. k ≤ floor_and_silence (floor_by o (same (pending_of h) (pending_of h)) (place_of setup)) (silence_at heads h) (place_of setup)) (sym after.1.0)
        (longer_near (place_of setup) (floor_at setup h) after.0 (silence_at heads h) k (let f = (starts (way_at setup h) refl (same h.drive (pending_of h)) refl some).1 in let low = after.1.1 in omega arith) (let low = after.1.1 in omega arith) q);
  }
    where
      after : (m : ℕ) × ((quanta_to_sample setup.segments (h.seen ++ seen_next h level ∷ []) ≡ Some m) × (least_way setup.segments ≤ m))
      after = ways.start setup.segments h.seen (seen_next h level) e

      some : 0 < floor_at setup h
      some = some_floor (place_of setup) (floor_at setup h) (silence_at heads h) k q

      starts : (o : Option ℕ) → way_at setup h ≡ o → (t : Bool) → same h.drive (pending_of h) ≡ t → 0 < floor_by o t (place_of setup) → (pending_of h ≡ h.drive) × (floor_by o t (place_of setup) ≤ suc (place_of setup))
      starts (Some n) f t g r = (sym (s n f), (let m = ways.few setup.segments h.seen n f in let low = ways.least setup.segments in omega arith))
      starts None f true g r = (sym (same_equal h.drive (pending_of h) g), omega arith)
      starts None f false g r = absurd (omega arith)

  keeps_plain : (heads : Bool) (h : History) (level : Level) → beat_next setup h level ≡ Plain → (k : ℕ) → suc k ≤ promise_by heads setup h → Keeps heads h (behind setup h level Plain) k
  keeps_plain heads h level e k q = record { drive = refl; promise = plain (way_at setup h) refl q }
    where
      plain : (o : Option ℕ) → way_at setup h ≡ o → suc k ≤ floor_and_silence (floor_by o (same h.drive (pending_of h)) (place_of setup)) (silence_at heads h) (place_of setup) → k ≤ promise_by heads setup (behind setup h level Plain)
      plain None f r =
          subst (λ o. k ≤ floor_and_silence (floor_by o (same h.drive (pending_of h)) (place_of setup)) (silence_at heads h) (place_of setup)) (sym (ways.after setup.segments h.seen (seen_next h level) e f)) (omega arith)
      plain (Some n) f r =
          let near = ways.near setup.segments h.seen (seen_next h level) n e f in
          subst (λ o. k ≤ floor_and_silence (floor_by o (same h.drive (pending_of h)) (place_of setup)) (silence_at heads h) (place_of setup)) (sym near.1.0)
          (longer_near (place_of setup) n near.0 (silence_at heads h) k near.1.1 (ways.some setup.segments (h.seen ++ seen_next h level ∷ []) near.0 near.1.0) r)

  -- after a sample that a silence reaches beyond the machine wants recessive still, and is silent for one sample less at most
  record IsSilentBehind (heads : Bool) (inputs : List Input) (s : ℕ) : Type 0 where
    pending : drive_of (stretch_of inputs) ≡ Recessive
    left : s ≤ silence_of heads (stretch_of inputs)

  silent_behind : (heads : Bool) (inputs off : List Input) (x : Sampled) (s : ℕ) → (off ≡ []) ⊎ (off ≡ SwitchedOff ∷ []) → (heads ≡ false → x.head ≡ None)
      → suc s ≤ silence_of heads (stretch_of inputs) → IsSilentBehind heads ((inputs ++ Given x ∷ []) ++ off) s
  silent_behind heads inputs off x s (inl n) f q =
      let e : stretch_of ((inputs ++ Given x ∷ []) ++ off) ≡ stretch_after (stretch_of inputs) (Given x) =
      ap (λ o. stretch_of ((inputs ++ Given x ∷ []) ++ o)) n ∙ ap stretch_of (append-nil (inputs ++ Given x ∷ [])) ∙ stretch_next inputs (Given x) in
      record {
        pending = ap drive_of e ∙ silences.next heads (stretch_of inputs) x s f q;
        left = subst (λ r. s ≤ silence_of heads r) (sym e) (silences.left heads (stretch_of inputs) x s f q);
      }
  silent_behind heads inputs off x s (inr n) f q =
      let e : stretch_of ((inputs ++ Given x ∷ []) ++ off) ≡ stretch_after (stretch_of (inputs ++ Given x ∷ [])) SwitchedOff =
      ap (λ o. stretch_of ((inputs ++ Given x ∷ []) ++ o)) n ∙ stretch_next (inputs ++ Given x ∷ []) SwitchedOff in
      let on : s ≤ silence_of heads (stretch_of (inputs ++ Given x ∷ [])) =
      subst (λ r. s ≤ silence_of heads r) (sym (stretch_next inputs (Given x))) (silences.left heads (stretch_of inputs) x s f q) in
      record {
        pending = ap drive_of e;
        left = subst (λ r. s ≤ silence_of heads r) (sym e) (let longest = silences.off heads (stretch_of (inputs ++ Given x ∷ [])) in omega arith);
      }

  -- where none waits, none is handed to the machine, then and later
  none_handed : (level : Level) (h : History) → is_waiting setup h ≡ false → (sampled_next setup h level).head ≡ None
  none_handed level h e =
      ap (λ u. handed level setup.segments.sync (head_by setup.order u (length h.seen))) (none_left (unsent_of setup h) e)
      ∙ ap (handed level setup.segments.sync) (no_head setup.order [] (length h.seen) refl) ∙ handed_none level setup.segments.sync

  none_later : (h : History) (level : Level) (b : Beat) → is_waiting setup h ≡ false → is_waiting setup (behind setup h level b) ≡ false
  none_later h level Start e = e
  none_later h level Plain e = e
  none_later h level (Sample v) e =
      let next : History = behind setup h level (Sample v) in
      (let few = unsent_less setup.order setup.queue h.frames (passed_frames (length h.seen) (judged (stretch_of h.inputs) (sampled_next setup h level)).ended) in
      let none = ltb-false 0 (length (unsent_of setup h)) e in
      le-ltb 0 (length (unsent_of setup next)) (omega arith))

  never_less : (heads later : Bool) (r : Stretch) → (heads ≡ false → later ≡ false) → silence_of heads r ≤ silence_of later r
  never_less true true r e = omega arith
  never_less true false r e = silences.none r
  never_less false later r e = subst (λ b. silence_of false r ≤ silence_of b r) (sym (e refl)) (omega arith)

  keeps_sample : (heads : Bool) (h : History) (level v : Level) → beat_next setup h level ≡ Sample v → (heads ≡ false → (sampled_next setup h level).head ≡ None) → IsSettled setup h → (k : ℕ) → suc k ≤ promise_by heads setup h → Keeps heads h (behind setup h level (Sample v)) k
  keeps_sample heads h level v e none s k q = record { drive = refl; promise = by_silence (silence_at heads h) refl }
    where
      one : way_at setup h ≡ Some 1
      one = ways.sampled setup.segments h.seen (seen_next h level) v e

      few : suc k ≤ floor_and_silence 1 (silence_at heads h) (place_of setup)
      few = subst (λ o. suc k ≤ floor_and_silence (floor_by o (same h.drive (pending_of h)) (place_of setup)) (silence_at heads h) (place_of setup)) one q

      by_silence : (n : ℕ) → silence_at heads h ≡ n → k ≤ promise_by heads setup (behind setup h level (Sample v))
      by_silence zero f = (let r = few in let g : floor_and_silence 1 (silence_at heads h) (place_of setup) ≡ 1 + 0 * suc (place_of setup) = ap (λ m. floor_and_silence 1 m (place_of setup)) f in omega arith)
      by_silence (suc n) f =
          let r = few in
          let x : Sampled = sampled_next setup h level in
          let after : Mode = mode_of (counts_of (h.happened ++ (judged (stretch_of h.inputs) x).happened ∷ [])) in
          let next : History = behind setup h level (Sample v) in
          let more : suc n ≤ silence_at heads h = omega arith in
          let b : IsSilentBehind heads next.inputs n =
          silent_behind heads h.inputs (switched_off x.mode after) x n (off_or_not x.mode after) none more in
          let settled_next : same h.drive (pending_of next) ≡ true = same_when h.drive (pending_of next) (s 1 one ∙ silences.now heads (stretch_of h.inputs) n more ∙ sym b.pending) in
          let floor_next : floor_at setup next ≡ suc (place_of setup) =
          ap (λ o. floor_by o (same h.drive (pending_of next)) (place_of setup)) (ways.sample setup.segments h.seen (seen_next h level) v e) ∙ ap (λ t. floor_by None t (place_of setup)) settled_next in
          let promise_next : promise_by heads setup next ≡ suc (place_of setup) + silence_at heads next * suc (place_of setup) = ap (λ m. floor_and_silence m (silence_at heads next) (place_of setup)) floor_next in
          let now : floor_and_silence 1 (silence_at heads h) (place_of setup) ≡ 1 + suc n * suc (place_of setup) = ap (λ m. floor_and_silence 1 m (place_of setup)) f in
          let enough : suc (place_of setup) * n ≤ suc (place_of setup) * silence_at heads next = mul-le-mul_left (suc (place_of setup)) (let l = b.left in omega arith) in
          omega arith

  keeps_by : (heads : Bool) (h : History) (level : Level) (b : Beat) → beat_next setup h level ≡ b → (heads ≡ false → (sampled_next setup h level).head ≡ None) → IsSettled setup h
      → (k : ℕ) → suc k ≤ promise_by heads setup h → Keeps heads h (behind setup h level b) k
  keeps_by heads h level Start e none s k q = keeps_start heads h level e s k q
  keeps_by heads h level (Sample v) e none s k q = keeps_sample heads h level v e none s k q
  keeps_by heads h level Plain e none s k q = keeps_plain heads h level e k q

  -- a longer silence is no shorter promise
  more_silence : (f s t : ℕ) → s ≤ t → floor_and_silence f s (place_of setup) ≤ floor_and_silence f t (place_of setup)
  more_silence zero s t h = omega arith
  more_silence (suc f) s t h = (let m = mul-le-mul_left (suc (place_of setup)) h in omega arith)

  -- where a node leaves the machine without a head, a quantum more leaves it no nearer than by one
  abbrev handed_in : History → ℕ
  handed_in h = until_ready (unsent_of setup h) (length h.seen)

  none_ready : (unsent : List Queued) (quantum k : ℕ) → suc k ≤ until_ready unsent quantum → is_first_ready unsent quantum ≡ false
  none_ready [] quantum k h = refl
  none_ready (q ∷ qs) quantum k h = lt-leb q.ready quantum (omega arith)

  nearer : (unsent : List Queued) (quantum k : ℕ) → suc k ≤ until_ready unsent quantum → k ≤ until_ready unsent (suc quantum)
  nearer [] quantum k h = absurd (omega arith)
  nearer (q ∷ qs) quantum k h = omega arith

  -- heads make a difference only to a machine that is in no frame
  heads_matter : (s : Sort) (own : List Level) → (silence_by false s own ≡ silence_by true s own) ⊎ (head_of s ≡ None)
  heads_matter (Framing head) own = inl refl
  heads_matter Integration own = inr refl
  heads_matter Idle own = inr refl
  heads_matter (Flagging flag role) own = inr refl
  heads_matter (Waiting flag role flagged) own = inr refl
  heads_matter (Delimiting role) own = inr refl
  heads_matter (Intermission role) own = inr refl
  heads_matter Suspension own = inr refl
  heads_matter OffBus own = inr refl

  abbrev Goes : History → History → ℕ → Type 0
  Goes h next k = (next.drive ≡ h.drive) × (k ≤ promise_at setup next)

  -- a node that may be handed a head, or has none to hand
  goes_waiting : (h : History) (level : Level) (b : Beat) → beat_next setup h level ≡ b → IsSettled setup h → (k : ℕ) → suc k ≤ promise_by (is_waiting setup h) setup h → Goes h (behind setup h level b) k
  goes_waiting h level b e s k q =
      let next : History = behind setup h level b in
      let g = keeps_by (is_waiting setup h) h level b e (none_handed level h) s k q in
      let p = g.promise in
      let later : silence_of (is_waiting setup h) (stretch_of next.inputs) ≤ silence_of (is_waiting setup next) (stretch_of next.inputs) =
      never_less (is_waiting setup h) (is_waiting setup next) (stretch_of next.inputs)
      (none_later h level b) in
      let more = more_silence (floor_at setup next) (silence_of (is_waiting setup h) (stretch_of next.inputs)) (silence_of (is_waiting setup next) (stretch_of next.inputs)) later in
      (g.drive, omega arith)

  module _ (heads : HeadLaws) where
    -- a machine in no frame sends none with its next sample
    pub same_sent : (h : History) (level : Level) (b : Beat) → head_of (stretch_of h.inputs).sort ≡ None → unsent_of setup (behind setup h level b) ≡ unsent_of setup h
    same_sent h level Start none = refl
    same_sent h level Plain none = refl
    same_sent h level (Sample v) none = none_from heads (stretch_of h.inputs) (sampled_next setup h level) none setup.order setup.queue h.frames (length h.seen)

    goes_ready : (h : History) (level : Level) (b : Beat) → beat_next setup h level ≡ b → IsSettled setup h → (k : ℕ) → suc k ≤ handed_in h → suc k ≤ promise_by false setup h
        → (silence_of false (stretch_of h.inputs) ≡ silence_of true (stretch_of h.inputs)) ⊎ (head_of (stretch_of h.inputs).sort ≡ None) → Goes h (behind setup h level b) k
    goes_ready h level b e s k r q (inl f) = goes_waiting h level b e s k (any (is_waiting setup h))
      where
        any : (w : Bool) → suc k ≤ promise_by w setup h
        any true = subst (λ n. suc k ≤ floor_and_silence (floor_at setup h) n (place_of setup)) f q
        any false = q
    goes_ready h level b e s k r q (inr f) =
        let next : History = behind setup h level b in
        let g = keeps_by false h level b e (λ t. ap (handed level setup.segments.sync) (no_head setup.order (unsent_of setup h) (length h.seen) (none_ready (unsent_of setup h) (length h.seen) k r)) ∙ handed_none level setup.segments.sync) s k q in
        let p = g.promise in
        let near = nearer (unsent_of setup h) (length h.seen) k r in
        let here : handed_in next ≡ until_ready (unsent_of setup h) (suc (length h.seen)) =
        ap (λ u. until_ready u (length next.seen)) (same_sent h level b f) ∙ ap (until_ready (unsent_of setup h)) (length-append h.seen (seen_next h level ∷ []) ∙ add-one (length h.seen)) in
        (g.drive, omega arith)

    goes : (h : History) (level : Level) → IsSettled setup h → (k : ℕ) → suc k ≤ promise_at setup h → Goes h (behind setup h level (beat_next setup h level)) k
    goes h level s k q = elim (cases_lt k (promise_by (is_waiting setup h) setup h)) [
      | inl few ↦ goes_waiting h level (beat_next setup h level) refl s k few
      | inr many ↦ goes_ready h level (beat_next setup h level) refl s k (omega arith) (omega arith) (heads_matter (stretch_of h.inputs).sort (stretch_of h.inputs).own)
    ]

    keeps : (levels : List Level) (x : Level) (k : ℕ) → suc k ≤ promise_at setup (staying_history setup levels) → Goes (staying_history setup levels) (staying_history setup (levels ++ x ∷ [])) k
    keeps levels x k q =
        subst (λ next. Goes (staying_history setup levels) next k) (sym (history_next setup levels x))
        (goes (staying_history setup levels) x (settled ways setup levels) k q)

    stays : (more levels : List Level) → length more ≤ promise_at setup (staying_history setup levels) → (staying_history setup (levels ++ more)).drive ≡ (staying_history setup levels).drive
    stays [] levels q = ap (λ l. (staying_history setup l).drive) (append-nil levels)
    stays (x ∷ more) levels q =
        let k = keeps levels x (length more) (omega arith) in
        ap (λ l. (staying_history setup l).drive) (sym (append_assoc levels (x ∷ []) more)) ∙ (stays more (levels ++ x ∷ []) k.1 ∙ k.0)

    pub quiet : (levels more : List Level) → length more ≤ quiet_at setup (staying_history setup levels) → (staying_history setup (levels ++ more)).drive ≡ (staying_history setup levels).drive
    quiet levels more q = stays more levels (omega arith)
