-- A drive changes few times.
use Rattle.std.proofs.Common.{◌≡◌, ◌∙◌, ℕ, suc, ◌+◌, ◌*◌, ◌/◌, ◌<◌, ◌≤◌, Bool, true, false, cond, not, List, [], ◌∷◌, ◌++◌, length, take, Option, Some, None, ◌⊎◌, inl, inr, refl, sym, ap, subst, arith, add-one}
use Rattle.std.proofs.Math.Nat.{mul-le-mul_left, div-add-mod}
use Rattle.std.proofs.lemmas.Bool.{cases_lt}
use Rattle.std.proofs.lemmas.List.{take-append-le, take_all}
use Rattle.wl_level.specs.declared.Level.{Level}
use Rattle.wl_level.specs.declared.Level.TheVariants.{Recessive}
use Rattle.wl_level.specs.Levels.{same}
use Rattle.wl_level.specs.Places.{count_places}
use Rattle.wl_level.proofs.Callers.{length_more}
use Rattle.wl_segments.specs.Lengths.{AreLengths, least_way, sample_at}
use Rattle.wl_sync.specs.declared.Beat.{Beat}
use Rattle.wl_sync.specs.declared.Beat.TheVariants.{Plain, Sample, Start}
use Rattle.wl_sync.specs.SampleLaws.{SampleLaws, quanta_to_sample}
use Rattle.wl_machine.specs.Judged.{drive_of, stretch_of}
use Rattle.wl_node.specs.declared.setup.NodeSetup.{NodeSetup}
use Rattle.wl_node.specs.History.{History, staying_history, seen_next}
use Rattle.wl_node.specs.Quiet.{pending_of}
use Rattle.wl_node.proofs.Drives.{behind, beat_next, grown, left, same_when, settled}
use Rattle.wl_node.proofs.Turns.{history_first, history_next}

-- what laws of places say of counts
abbrev pub CountsBelow : Type 0
CountsBelow = (test other : ℕ → Bool) (n : ℕ) → ((k : ℕ) → k < n → test k ≡ other k) → count_places test n ≡ count_places other n

-- one more if the test passes
abbrev pub one_if : Bool → ℕ
one_if b = cond b 1 0

-- how often what a list gives changes, level by level
abbrev pub changes_by : (List Level → Level) → List Level → ℕ
changes_by drive levels = count_places (λ k. not (same (drive (take k levels)) (drive (take (suc k) levels)))) (length levels)

module _ (counts : CountsBelow) (drive : List Level → Level) where
  abbrev turns : List Level → ℕ → Bool
  turns levels k = not (same (drive (take k levels)) (drive (take (suc k) levels)))

  front_drive : (levels : List Level) (x : Level) (k : ℕ) → k ≤ length levels → drive (take k (levels ++ x ∷ [])) ≡ drive (take k levels)
  front_drive levels x k h = ap drive (take-append-le k levels (x ∷ []) h)

  whole_drive : (levels : List Level) (k : ℕ) → length levels ≤ k → drive (take k levels) ≡ drive levels
  whole_drive levels k h = ap drive (take_all k levels h)

  -- one level more is one change more where it changes the drive
  pub changes_next : (levels : List Level) (x : Level) → changes_by drive (levels ++ x ∷ []) ≡ changes_by drive levels + one_if (not (same (drive levels) (drive (levels ++ x ∷ []))))
  changes_next levels x =
      ap (count_places (turns (levels ++ x ∷ []))) (length_more levels x ∙ add-one (length levels))
      ∙ ap (λ n. n + one_if (turns (levels ++ x ∷ []) (length levels)))
      (counts (turns (levels ++ x ∷ [])) (turns levels) (length levels)
      (λ k h. ap (λ d. not (same d (drive (take (suc k) (levels ++ x ∷ []))))) (front_drive levels x k (omega arith)) ∙ ap (λ d. not (same (drive (take k levels)) d)) (front_drive levels x (suc k) (omega arith))))
      ∙ ap (λ d. changes_by drive levels + one_if (not (same d (drive (take (suc (length levels)) (levels ++ x ∷ []))))))
      (front_drive levels x (length levels) (omega arith) ∙ whole_drive levels (length levels) (omega arith))
      ∙ ap (λ d. changes_by drive levels + one_if (not (same (drive levels) d))) (whole_drive (levels ++ x ∷ []) (suc (length levels)) (omega (arith, length_more levels x)))

pub none_more : (d e : Level) → d ≡ e → one_if (not (same d e)) ≡ 0
none_more d e h = ap (λ b. one_if (not b)) (same_when d e h)

module _ (counts : CountsBelow) (ways : SampleLaws) (setup : NodeSetup) where
  abbrev pub staying_drive : List Level → Level
  staying_drive levels = (staying_history setup levels).drive

  abbrev pub way_after : List Level → Option ℕ
  way_after levels = quanta_to_sample setup.segments (staying_history setup levels).seen

  abbrev pub part : ℕ
  part = suc (least_way setup.segments)

  stays_few : (c u a b : ℕ) → u ≡ 0 → c * part ≤ a → a ≤ b → (c + u) * part ≤ b
  stays_few c u a b h q r = (let e : (c + u) * part ≡ c * part = ap (λ n. n * part) (let f : c + u ≡ c = omega arith in f) in omega arith)

  one_more : (t : Bool) (c n : ℕ) → c * part ≤ n → (c + one_if t) * part ≤ suc n + least_way setup.segments
  one_more true c n q = omega arith
  one_more false c n q = omega arith

  few_by : (c n : ℕ) (h : History) (level : Level) (b : Beat) → beat_next setup h level ≡ b → ((m : ℕ) → quanta_to_sample setup.segments h.seen ≡ Some m → h.drive ≡ pending_of h)
      → c * part ≤ n + left (quanta_to_sample setup.segments h.seen)
      → (c + one_if (not (same h.drive (behind setup h level b).drive))) * part ≤ suc n + left (quanta_to_sample setup.segments (behind setup h level b).seen)
  few_by c n h level Start e s q =
      subst (λ o. (c + one_if (not (same h.drive (pending_of h)))) * part ≤ suc n + left o) (sym after.1.0)
      (let low = after.1.1 in let r = starts (quanta_to_sample setup.segments h.seen) refl q in omega arith)
    where
      after : (m : ℕ) × ((quanta_to_sample setup.segments (h.seen ++ seen_next h level ∷ []) ≡ Some m) × (least_way setup.segments ≤ m))
      after = ways.start setup.segments h.seen (seen_next h level) e

      starts : (o : Option ℕ) → quanta_to_sample setup.segments h.seen ≡ o → c * part ≤ n + left o → (c + one_if (not (same h.drive (pending_of h)))) * part ≤ suc n + least_way setup.segments
      starts (Some m) f r = stays_few c _ (n + m) _ (none_more h.drive (pending_of h) (s m f)) r (let l = ways.few setup.segments h.seen m f in let low = ways.least setup.segments in omega arith)
      starts None f r = one_more (not (same h.drive (pending_of h))) c n (omega arith)
  few_by c n h level (Sample v) e s q =
      stays_few c _ (n + 1) _ (none_more h.drive h.drive refl) (subst (λ o. c * part ≤ n + left o) (ways.sampled setup.segments h.seen (seen_next h level) v e) q) (omega arith)
  few_by c n h level Plain e s q = plain (quanta_to_sample setup.segments h.seen) refl q
    where
      plain : (o : Option ℕ) → quanta_to_sample setup.segments h.seen ≡ o → c * part ≤ n + left o
          → (c + one_if (not (same h.drive h.drive))) * part ≤ suc n + left (quanta_to_sample setup.segments (h.seen ++ seen_next h level ∷ []))
      plain None f r = stays_few c _ (n + 0) _ (none_more h.drive h.drive refl) r (omega arith)
      plain (Some m) f r =
          let near = ways.near setup.segments h.seen (seen_next h level) m e f in
          subst (λ o. (c + one_if (not (same h.drive h.drive))) * part ≤ suc n + left o) (sym near.1.0)
          (stays_few c _ (n + m) _ (none_more h.drive h.drive refl) r (omega (arith, near.1.1)))

  left_few : (h : History) (o : Option ℕ) → quanta_to_sample setup.segments h.seen ≡ o → left o ≤ sample_at setup.segments
  left_few h (Some m) f = ways.few setup.segments h.seen m f
  left_few h None f = omega arith

  pub left_less : (levels : List Level) → left (way_after levels) ≤ part
  left_less levels = (let r = left_few (staying_history setup levels) (way_after levels) refl in let low = ways.least setup.segments in omega arith)

  -- a bound by parts
  pub by_parts : (n c : ℕ) → c * part ≤ n + part → c ≤ n / part + 1
  by_parts n c q = elim (cases_lt (n / part + 1) c) [
    | inl many ↦ absurd (
        let two : part * (n / part + 2) ≤ part * c = mul-le-mul_left part (omega arith) in
        far n c (least_way setup.segments) q two)
    | inr h ↦ h
  ]
    where
      far : (n c p : ℕ) → c * suc p ≤ n + suc p → suc p * (n / suc p + 2) ≤ suc p * c → ⊥
      far n c p q two = (let d = div-add-mod n (suc p) in omega arith)

  -- the quanta of as many parts of bits from a start to its sample as there were changes
  abbrev IsFew : List Level → Type 0
  IsFew levels = changes_by staying_drive levels * part ≤ length levels + left (way_after levels)

  -- so many changes, and those of one level more
  step : (c : ℕ) (levels : List Level) (x : Level) → c * part ≤ length levels + left (way_after levels)
      → (c + one_if (not (same (staying_drive levels) (staying_drive (levels ++ x ∷ []))))) * part ≤ length (levels ++ x ∷ []) + left (way_after (levels ++ x ∷ []))
  step c levels x q =
      let by = few_by c (length levels) (staying_history setup levels) x (beat_next setup (staying_history setup levels) x) refl (settled ways setup levels) q in
      let at : (c + one_if (not (same (staying_drive levels) (staying_drive (levels ++ x ∷ []))))) * part ≤ suc (length levels) + left (way_after (levels ++ x ∷ [])) =
      subst (λ (next : History). (c + one_if (not (same (staying_drive levels) next.drive))) * part ≤ suc (length levels) + left (quanta_to_sample setup.segments next.seen)) (sym (history_next setup levels x)) by in
      omega (arith, at, length_more levels x)

  few : (levels : List Level) → IsFew levels
  few =
      grown IsFew (omega arith)
      (λ levels x q.
      let at = step (changes_by staying_drive levels) levels x q in
      subst (λ c. c * part ≤ length (levels ++ x ∷ []) + left (way_after (levels ++ x ∷ []))) (sym (changes_next counts staying_drive levels x)) at)

  pub staying_few : (levels : List Level) → changes_by staying_drive levels ≤ length levels / part + 1
  staying_few levels =
      by_parts (length levels) (changes_by staying_drive levels)
      (let q : changes_by staying_drive levels * part ≤ length levels + left (way_after levels) = few levels in let r = left_less levels in omega arith)

  -- In a bit of some segments no change comes before the first sample, and that comes a part after the first quantum.
  module _ (lengths : AreLengths setup.segments) where
    record IsLate (levels : List Level) : Type 0 where
      begun : (m : ℕ) → way_after levels ≡ Some m → part ≤ length levels + m
      sampled : (((staying_history setup levels).inputs ≡ []) × (staying_drive levels ≡ Recessive)) ⊎ (part ≤ length levels)

    -- by the beat
    record IsLateBy (n : ℕ) (h : History) : Type 0 where
      begun : (m : ℕ) → quanta_to_sample setup.segments h.seen ≡ Some m → part ≤ n + m
      sampled : ((h.inputs ≡ []) × (h.drive ≡ Recessive)) ⊎ (part ≤ n)

    later : (n : ℕ) (h : History) → ((h.inputs ≡ []) × (h.drive ≡ Recessive)) ⊎ (part ≤ n) → ((h.inputs ≡ []) × (h.drive ≡ Recessive)) ⊎ (part ≤ suc n)
    later n h (inl p) = inl p
    later n h (inr q) = inr (omega (arith, q))

    late_by : (n : ℕ) (h : History) (level : Level) (b : Beat) → beat_next setup h level ≡ b → IsLateBy n h → IsLateBy (suc n) (behind setup h level b)
    late_by n h level Start e is =
        let after = ways.start setup.segments h.seen (seen_next h level) e in
        record {
          begun = λ m f. (let same_way : Some after.0 ≡ Some m = sym after.1.0 ∙ f in let now : after.0 ≡ m = cc in let low = after.1.1 in omega (arith, now, low));
          sampled = by is.sampled;
        }
      where
        by : ((h.inputs ≡ []) × (h.drive ≡ Recessive)) ⊎ (part ≤ n) → ((h.inputs ≡ []) × (pending_of h ≡ Recessive)) ⊎ (part ≤ suc n)
        by (inl p) = inl (p.0, ap (λ i. drive_of (stretch_of i)) p.0)
        by (inr q) = inr (omega (arith, q))
    late_by n h level (Sample v) e is = record {
      begun = λ m f. (let gone = ways.sample setup.segments h.seen (seen_next h level) v e in cc);
      sampled = inr (let q = is.begun 1 (ways.sampled setup.segments h.seen (seen_next h level) v e) in omega (arith, q));
    }
    late_by n h level Plain e is = record { begun = plain (quanta_to_sample setup.segments h.seen) refl; sampled = later n h is.sampled }
      where
        plain : (o : Option ℕ) → quanta_to_sample setup.segments h.seen ≡ o → (m : ℕ) → quanta_to_sample setup.segments (h.seen ++ seen_next h level ∷ []) ≡ Some m → part ≤ suc n + m
        plain None f m g = (let gone = ways.after setup.segments h.seen (seen_next h level) e f in cc)
        plain (Some k) f m g =
            let near = ways.near setup.segments h.seen (seen_next h level) k e f in
            let same_way : Some near.0 ≡ Some m = sym near.1.0 ∙ g in
            let now : near.0 ≡ m = cc in
            let q = is.begun k f in
            omega (arith, now, q, near.1.1)

    late : (levels : List Level) → IsLateBy (length levels) (staying_history setup levels)
    late =
        grown (λ levels. IsLateBy (length levels) (staying_history setup levels))
        (subst (IsLateBy 0) (sym (history_first setup)) (record { begun = λ m f. (let none = ways.at_first setup.segments lengths in cc); sampled = inl (refl, refl) }))
        (λ levels x is.
        subst (λ n. IsLateBy n (staying_history setup (levels ++ x ∷ []))) (sym (length_more levels x ∙ add-one (length levels)))
        (subst (IsLateBy (suc (length levels))) (sym (history_next setup levels x)) (late_by (length levels) (staying_history setup levels) x (beat_next setup (staying_history setup levels) x) refl is)))

    -- so that there is room for one change more
    abbrev pub Spare : List Level → Type 0
    Spare levels = ((staying_drive levels ≡ Recessive) × (changes_by staying_drive levels ≡ 0)) ⊎ (suc (changes_by staying_drive levels) * part ≤ length levels + left (way_after levels))

    two_parts : (t : Bool) (n m : ℕ) → part ≤ n → least_way setup.segments ≤ m → suc (one_if t) * part ≤ suc n + m
    two_parts true n m q low = omega (arith, q, low)
    two_parts false n m q low = omega (arith, q, low)

    -- at the first change
    spare_first : (n : ℕ) (h : History) (level : Level) (b : Beat) → beat_next setup h level ≡ b → IsLateBy n h → h.drive ≡ Recessive
        → (((behind setup h level b).drive ≡ Recessive) × (one_if (not (same h.drive (behind setup h level b).drive)) ≡ 0))
        ⊎ (suc (one_if (not (same h.drive (behind setup h level b).drive))) * part ≤ suc n + left (quanta_to_sample setup.segments (behind setup h level b).seen))
    spare_first n h level Plain e is d = inl (d, none_more h.drive h.drive refl)
    spare_first n h level (Sample v) e is d = inl (d, none_more h.drive h.drive refl)
    spare_first n h level Start e is d = by is.sampled
      where
        after : (m : ℕ) × ((quanta_to_sample setup.segments (h.seen ++ seen_next h level ∷ []) ≡ Some m) × (least_way setup.segments ≤ m))
        after = ways.start setup.segments h.seen (seen_next h level) e

        by : ((h.inputs ≡ []) × (h.drive ≡ Recessive)) ⊎ (part ≤ n)
            → ((pending_of h ≡ Recessive) × (one_if (not (same h.drive (pending_of h))) ≡ 0))
            ⊎ (suc (one_if (not (same h.drive (pending_of h)))) * part ≤ suc n + left (quanta_to_sample setup.segments (h.seen ++ seen_next h level ∷ [])))
        by (inl p) = (let r : pending_of h ≡ Recessive = ap (λ i. drive_of (stretch_of i)) p.0 in inl (r, none_more h.drive (pending_of h) (d ∙ sym r)))
        by (inr q) = inr (subst (λ o. suc (one_if (not (same h.drive (pending_of h)))) * part ≤ suc n + left o) (sym after.1.0) (two_parts (not (same h.drive (pending_of h))) n after.0 q after.1.1))

    pub spare : (levels : List Level) → Spare levels
    spare = grown Spare (inl (ap (λ h. h.drive) (history_first setup), refl)) (λ levels x is. by levels x is)
      where
        by : (levels : List Level) (x : Level) → Spare levels → Spare (levels ++ x ∷ [])
        by levels x (inr q) =
            let at = step (suc (changes_by staying_drive levels)) levels x q in
            let e = changes_next counts staying_drive levels x in
            inr (subst (λ c. c * part ≤ length (levels ++ x ∷ []) + left (way_after (levels ++ x ∷ []))) (omega (arith, e)) at)
        by levels x (inl (d, none)) =
            let h : History = staying_history setup levels in
            let e : changes_by staying_drive (levels ++ x ∷ []) ≡ one_if (not (same (staying_drive levels) (staying_drive (levels ++ x ∷ [])))) =
            (let next = changes_next counts staying_drive levels x in omega (arith, next, none)) in
            let first = spare_first (length levels) h x (beat_next setup h x) refl (late levels) d in
            let here = subst (λ (next : History). ((next.drive ≡ Recessive) × (one_if (not (same h.drive next.drive)) ≡ 0))
            ⊎ (suc (one_if (not (same h.drive next.drive))) * part ≤ suc (length levels) + left (quanta_to_sample setup.segments next.seen))) (sym (history_next setup levels x)) first in
            elim here [
              | inl now ↦ inl (now.0, e ∙ now.1)
              | inr q ↦ inr (subst (λ c. suc c * part ≤ length (levels ++ x ∷ []) + left (way_after (levels ++ x ∷ []))) (sym e) (omega (arith, q, length_more levels x)))
            ]
