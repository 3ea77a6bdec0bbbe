-- What a node keeps from one quantum to the next, and what a sample adds.
use Rattle.std.proofs.Common.{◌≡◌, ◌∙◌, inl, inr, refl, sym, ap, subst, ℕ, zero, suc, ◌+◌, ◌-◌, ◌≤◌, cond, not, Bool, true, false, List, [], ◌∷◌, ◌++◌, length, arith, append-nil}
use Rattle.std.specs.Prelude.{count_by}
use Rattle.std.proofs.lemmas.Bool.{cases_Bool}
use Rattle.std.proofs.lemmas.List.{append_assoc}
use Rattle.std.proofs.lemmas.List.Sums.{fold-append, sum_by-append}
use Rattle.wl_level.specs.declared.Level.{Level}
use Rattle.wl_confine.specs.declared.Happened.{Happened}
use Rattle.wl_confine.specs.declared.Happened.TheVariants as happens
use Rattle.wl_confine.specs.Counts.{counts_after, counts_of, is_error, no_counts}
use Rattle.wl_sync.specs.declared.Beat.{Beat}
use Rattle.wl_sync.specs.declared.Beat.TheVariants.{Plain, Sample, Start}
use Rattle.wl_sync.specs.declared.Seen.{Seen}
use Rattle.wl_sync.specs.Bits.{beat_of}
use Rattle.wl_machine.specs.Judged.{judged, stretch_of}
use Rattle.wl_node.specs.declared.setup.NodeSetup.{NodeSetup}
use Rattle.wl_node.specs.declared.setup.Passed.{Passed}
use Rattle.wl_node.specs.History.{History, by_beat, counters_of, error_count, passed_frames, sampled_next}
use Rattle.wl_wire.specs.InStep.{is_fine}
use Rattle.wl_wire.proofs.Callers.{fine_counts}
use Rattle.wl_buses.specs.OneFrame.Nodes.{IsRun, clock_sees}
use Rattle.wl_buses.specs.FirstFrame.Faults.{fault_count, is_fault}

-- what is fine is no error, and leaves the counters at 0
fine_no_error : (h : Happened) → is_fine h ≡ true → is_error h ≡ false
fine_no_error happens.Nothing e = refl
fine_no_error happens.Sent e = refl
fine_no_error happens.Acked e = refl
fine_no_error (happens.RxError k) e = cc
fine_no_error happens.RxAfterFlag e = refl
fine_no_error happens.RxFlagBit e = refl
fine_no_error happens.RxLong e = refl
fine_no_error (happens.TxError k) e = cc
fine_no_error happens.TxFree e = cc
fine_no_error happens.PassiveAck e = refl
fine_no_error happens.TxFlagBit e = refl
fine_no_error happens.TxLong e = refl
fine_no_error happens.Recovered e = refl

-- what counts neither as an error nor as a fault
abbrev pub IsCalm : (Happened → Bool) → Type 0
IsCalm p = (h : Happened) → is_fine h ≡ true → p h ≡ false

pub calm_error : IsCalm is_error
calm_error = fine_no_error

pub calm_fault : IsCalm is_fault
calm_fault h e = ap not e

counted : (p : Happened → Bool) (a b : List Happened) → count_by p (a ++ b) ≡ count_by p a + count_by p b
counted p a b = sum_by-append (λ h. cond (p h) 1 0) a b

pub calm_one : (p : Happened → Bool) (a : List Happened) (h : Happened) → p h ≡ false → count_by p (a ++ h ∷ []) ≡ count_by p a
calm_one p a h e = counted p a (h ∷ []) ∙ ap (λ b. count_by p a + (0 + cond b 1 0)) e ∙ omega arith

-- if all that has happened is fine, no error was found and the counters are 0
all_fine : (past more : List Happened) → counts_of past ≡ no_counts → count_by is_fault more ≡ 0 → (count_by is_error more ≡ 0) × (counts_of (past ++ more) ≡ no_counts)
all_fine past [] counts none = (refl, ap counts_of (append-nil past) ∙ counts)
all_fine past (h ∷ more) counts none =
    (let split = counted is_fault (h ∷ []) more in
    elim (cases_Bool (is_fine h)) [
      | inl fine ↦
          (let one : count_by is_fault (h ∷ []) ≡ 0 = ap (λ b. 0 + cond b 1 0) (calm_fault h fine) in
          let rest : count_by is_fault more ≡ 0 = omega arith in
          let first : counts_of (past ++ h ∷ []) ≡ no_counts = fold-append counts_after no_counts past (h ∷ []) ∙ ap (λ c. counts_after c h) counts ∙ fine_counts h fine in
          let x = all_fine (past ++ h ∷ []) more first rest in
          let e : count_by is_error (h ∷ []) ≡ 0 = ap (λ b. 0 + cond b 1 0) (fine_no_error h fine) in
          let f = counted is_error (h ∷ []) more in
          let g = x.0 in (omega arith, ap counts_of (sym (append_assoc past (h ∷ []) more)) ∙ x.1))
      | inr faulty ↦
          (let one : count_by is_fault (h ∷ []) ≡ 1 = ap (λ b. 0 + cond (not b) 1 0) faulty in
          absurd (omega arith))
    ])

pub fine_counters : (h : History) → fault_count h ≡ 0 → (error_count h ≡ 0) × (counters_of h ≡ no_counts)
fine_counters h none = all_fine [] h.happened refl none

-- what one quantum adds
happened_more : (setup : NodeSetup) (h : History) (level : Level) (b : Beat) → (more : List Happened) × ((by_beat setup h level b).happened ≡ h.happened ++ more)
happened_more setup h level Plain = ([], sym (append-nil h.happened))
happened_more setup h level Start = ([], sym (append-nil h.happened))
happened_more setup h level (Sample v) = ((judged (stretch_of h.inputs) (sampled_next setup h level)).happened ∷ [], refl)

frames_more : (setup : NodeSetup) (h : History) (level : Level) (b : Beat) → (more : List Passed) × ((by_beat setup h level b).frames ≡ h.frames ++ more)
frames_more setup h level Plain = ([], sym (append-nil h.frames))
frames_more setup h level Start = ([], sym (append-nil h.frames))
frames_more setup h level (Sample v) = (passed_frames (length h.seen) (judged (stretch_of h.inputs) (sampled_next setup h level)).ended, refl)

module _ (setup : NodeSetup) (levels : ℕ → Level) (node : ℕ → History) (run : IsRun setup levels node) where
  abbrev sees : ℕ → Seen
  sees = clock_sees levels node

  abbrev beat_at : ℕ → Beat
  beat_at q = beat_of setup.segments (node q).seen (sees q)

  later_happened : (k d : ℕ) → (more : List Happened) × ((node (k + d)).happened ≡ (node k).happened ++ more)
  later_happened k zero = ([], ap (λ q. (node q).happened) (let e : k + 0 ≡ k = omega arith in e) ∙ sym (append-nil (node k).happened))
  later_happened k (suc d) =
      (let a = later_happened k d in
      let b = happened_more setup (node (k + d)) (levels (k + d)) (beat_at (k + d)) in (
        a.0 ++ b.0,
        ap (λ q. (node q).happened) (let e : k + suc d ≡ suc (k + d) = omega arith in e) ∙ ap (λ h. h.happened) (run.next (k + d)) ∙ b.1 ∙ ap (λ v. v ++ b.0) a.1
            ∙ append_assoc (node k).happened a.0 b.0,
      ))

  later_frames : (k d : ℕ) → (more : List Passed) × ((node (k + d)).frames ≡ (node k).frames ++ more)
  later_frames k zero = ([], ap (λ q. (node q).frames) (let e : k + 0 ≡ k = omega arith in e) ∙ sym (append-nil (node k).frames))
  later_frames k (suc d) =
      (let a = later_frames k d in
      let b = frames_more setup (node (k + d)) (levels (k + d)) (beat_at (k + d)) in (
        a.0 ++ b.0,
        ap (λ q. (node q).frames) (let e : k + suc d ≡ suc (k + d) = omega arith in e) ∙ ap (λ h. h.frames) (run.next (k + d)) ∙ b.1 ∙ ap (λ v. v ++ b.0) a.1
            ∙ append_assoc (node k).frames a.0 b.0,
      ))

  pub frames_stay : (k m : ℕ) → k ≤ m → (more : List Passed) × ((node m).frames ≡ (node k).frames ++ more)
  frames_stay k m less = (let a = later_frames k (m - k) in (a.0, ap (λ q. (node q).frames) (let e : m ≡ k + (m - k) = omega arith in e) ∙ a.1))

  pub count_stays : (p : Happened → Bool) (k m : ℕ) → k ≤ m → count_by p (node k).happened ≤ count_by p (node m).happened
  count_stays p k m less =
      (let a = later_happened k (m - k) in
      let e : k + (m - k) ≡ m = omega arith in
      let f : count_by p (node (k + (m - k))).happened ≡ count_by p (node k).happened + count_by p a.0 = ap (count_by p) a.1 ∙ counted p (node k).happened a.0 in
      subst (λ q. count_by p (node k).happened ≤ count_by p (node q).happened) e (omega arith))

  -- while nothing happens that isn't fine, no error is found and counters of 0 stay so
  pub fine_between : (k q m : ℕ) → k ≤ q → q ≤ m → fault_count (node m) ≡ fault_count (node k) → counters_of (node k) ≡ no_counts
      → (error_count (node q) ≡ error_count (node k)) × (counters_of (node q) ≡ no_counts)
  fine_between k q m low high same counts =
      (let a = later_happened k (q - k) in
      let e : k + (q - k) ≡ q = omega arith in
      let there : (node q).happened ≡ (node k).happened ++ a.0 = ap (λ j. (node j).happened) (sym e) ∙ a.1 in
      let up = count_stays is_fault q m high in
      let faults : fault_count (node q) ≡ fault_count (node k) + count_by is_fault a.0 = ap (count_by is_fault) there ∙ counted is_fault (node k).happened a.0 in
      let errors : error_count (node q) ≡ error_count (node k) + count_by is_error a.0 = ap (count_by is_error) there ∙ counted is_error (node k).happened a.0 in
      let none : count_by is_fault a.0 ≡ 0 = omega arith in
      let fine = all_fine (node k).happened a.0 counts none in
      let f = fine.0 in (omega arith, ap counts_of there ∙ fine.1))
