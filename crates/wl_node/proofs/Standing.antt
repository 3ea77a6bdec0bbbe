-- On a recessive line a recessive drive stands: for as long as the machine rests, whatever it is handed, and up to the quantum at which a frame is ready, at that one still.
use Rattle.std.proofs.Common.{◌≡◌, ◌∙◌, ℕ, zero, suc, ◌+◌, ◌-◌, ◌*◌, ◌<◌, ◌≤◌, Bool, true, false, cond, List, [], ◌∷◌, ◌++◌, length, replicate, Option, Some, None, ◌⊎◌, inl, inr, refl, sym, ap, subst, arith, append-nil, append_assoc, length-append, add-one}
use Rattle.std.proofs.Math.Nat.{mul-le-mul_left}
use Rattle.std.proofs.lemmas.Bool.{cases_lt, lt-leb}
use Rattle.wl_level.specs.declared.Level.{Level}
use Rattle.wl_level.specs.declared.Level.TheVariants.{Recessive}
use Rattle.wl_level.specs.Levels.{is_dominant}
use Rattle.wl_level.proofs.Callers.{recessive_from}
use Rattle.wl_sync.specs.declared.Beat.{Beat}
use Rattle.wl_sync.specs.declared.Beat.TheVariants.{Plain, Sample, Start}
use Rattle.wl_segments.specs.Lengths.{bit_quanta}
use Rattle.wl_sync.specs.declared.Seen.{Seen}
use Rattle.wl_sync.specs.SampleLaws.{RecessiveLaws, SampleLaws, recessive_rest, recessive_way}
use Rattle.wl_confine.specs.declared.Mode.{Mode}
use Rattle.wl_confine.specs.Counts.{counts_of, mode_of}
use Rattle.wl_frame.specs.Grammar.{Content}
use Rattle.wl_machine.specs.Stretch.{Stretch, Sampled, Input}
use Rattle.wl_machine.specs.Stretch.Input.{Sample as Given, SwitchedOff}
use Rattle.wl_machine.specs.Judged.{judged, or_next, stretch_of, stretch_after, head_of}
use Rattle.wl_machine.specs.Laws.{HeadLaws}
use Rattle.wl_machine.specs.RecessiveStay.{RestLaws, RestsFor, rest_of}
use Rattle.wl_machine.specs.Silence.{SilenceLaws}
use Rattle.wl_machine.proofs.Callers.{stretch_next}
use Rattle.wl_node.specs.declared.setup.Queued.{Queued}
use Rattle.wl_node.specs.declared.setup.NodeSetup.{NodeSetup}
use Rattle.wl_node.specs.History.{History, staying_history, seen_next, sampled_next, unsent_of, head_at_next, switched_off}
use Rattle.wl_node.specs.Limits.{most_run_quanta}
use Rattle.wl_node.specs.Stays.{until_frame, rest_stay, stay_by, stay_at}
use Rattle.wl_node.proofs.Drives.{behind, beat_next, same_sent}
use Rattle.wl_node.proofs.ReadyHeads.{ready_heads, until_now}
use Rattle.wl_node.specs.Unsent.{is_first_ready}
use Rattle.wl_node.proofs.Sends.{off_or_not}
use Rattle.wl_node.proofs.Unsents.{no_head}
use Rattle.wl_node.proofs.Turns.{history_next}

pub until_frame_most : (unsent : List Queued) (n : ℕ) → until_frame unsent n ≤ most_run_quanta
until_frame_most [] n = omega arith
until_frame_most (q ∷ qs) n = omega arith

-- before the quantum at which a frame is ready none is
none_ready : (unsent : List Queued) (n m : ℕ) → suc (suc m) ≤ until_frame unsent n → is_first_ready unsent n ≡ false
none_ready [] n m few = refl
none_ready (q ∷ qs) n m few = lt-leb q.ready n (omega arith)

until_less : (unsent : List Queued) (n m : ℕ) → suc (suc m) ≤ until_frame unsent n → suc m ≤ until_frame unsent (suc n)
until_less [] n m few = omega arith
until_less (q ∷ qs) n m few = omega arith

-- more bits of the same length are no fewer quanta
more_bits : (bit behind n rest way k : ℕ) → n ≤ rest → k ≤ way + n * bit + behind → k ≤ way + rest * bit + behind
more_bits bit behind n rest way k less few = (let more : bit * n ≤ bit * rest = mul-le-mul_left bit less in omega arith)

-- one of them is the way to the next sample
one_bit : (bit behind n way k : ℕ) → suc k ≤ 1 + suc n * bit + behind → bit ≤ way → k ≤ way + n * bit + behind
one_bit bit behind n way k few whole = omega arith

-- the rest that a history leaves to the machine
abbrev rest_in : History → Option ℕ
rest_in h = rest_of (stretch_of h.inputs)

module _ (rests : RestLaws) (silences : SilenceLaws) (ways : SampleLaws) (bits : RecessiveLaws) (heads : HeadLaws) (setup : NodeSetup) where
  -- a rest behind a sample, also where the node goes off the bus with it
  rest_behind : (h : History) (n : ℕ) → RestsFor n (rest_of (stretch_after (stretch_of h.inputs) (Given (sampled_next setup h Recessive)))) → (v : Level)
      → RestsFor n (rest_in (behind setup h Recessive (Sample v)))
  rest_behind h n is v = by (switched_off x.mode after) (off_or_not x.mode after)
    where
      x : Sampled
      x = sampled_next setup h Recessive

      after : Mode
      after = mode_of (counts_of (h.happened ++ (judged (stretch_of h.inputs) x).happened ∷ []))

      on : RestsFor n (rest_of (stretch_of (h.inputs ++ Given x ∷ [])))
      on = subst (λ s. RestsFor n (rest_of s)) (sym (stretch_next h.inputs (Given x))) is

      by : (off : List Input) → (off ≡ []) ⊎ (off ≡ SwitchedOff ∷ []) → RestsFor n (rest_of (stretch_of ((h.inputs ++ Given x ∷ []) ++ off)))
      by off (inl e) =
          subst (λ s. RestsFor n (rest_of s)) (sym (ap (λ o. stretch_of ((h.inputs ++ Given x ∷ []) ++ o)) e ∙ ap stretch_of (append-nil (h.inputs ++ Given x ∷ [])))) on
      by off (inr e) =
          subst (λ s. RestsFor n (rest_of s)) (sym (ap (λ o. stretch_of ((h.inputs ++ Given x ∷ []) ++ o)) e ∙ stretch_next (h.inputs ++ Given x ∷ []) SwitchedOff))
          (rests.off (stretch_of (h.inputs ++ Given x ∷ [])) n on)

  -- any quantum leaves the drive of a machine at rest recessive
  drive_next : (h : History) (b : Beat) → RestsFor 0 (rest_in h) → h.drive ≡ Recessive → (behind setup h Recessive b).drive ≡ Recessive
  drive_next h Plain is d = d
  drive_next h Start is d = rests.now (stretch_of h.inputs) is
  drive_next h (Sample v) is d = d

  -- whatever is handed

  -- behind the sample of a bit, up to the next start
  abbrev behind_sample : ℕ
  behind_sample = setup.segments.ps2 - 1

  -- a longer way, and more samples, are no shorter stay
  enough : (o : Option ℕ) (n k : ℕ) (g : History) → RestsFor n o → k ≤ recessive_way setup.segments g.seen + n * bit_quanta setup.segments + behind_sample → k ≤ rest_stay o setup g
  enough None n k g is few = absurd is
  enough (Some rest) n k g is few = more_bits (bit_quanta setup.segments) behind_sample n rest (recessive_way setup.segments g.seen) k is few

  -- the machine rests for so long, or the bit that was sampled lasts for so long
  abbrev Lasts : History → ℕ → Type 0
  Lasts h k = (k ≤ rest_stay (rest_in h) setup h) ⊎ (k ≤ recessive_rest setup.segments h.seen)

  module _ (h : History) (k : ℕ) where
    abbrev next : Beat → History
    next b = behind setup h Recessive b

    abbrev now : Seen
    now = seen_next h Recessive

    module _ (rest : ℕ) (is : rest_in h ≡ Some rest) (few : suc k ≤ rest_stay (Some rest) setup h) where
      -- as long as there is no sample
      left_on : (b : Beat) → rest_in (next b) ≡ Some rest → (next b).seen ≡ h.seen ++ now ∷ [] → Lasts (next b) k
      left_on b e f =
          let near = bits.near setup.segments h.seen now.idle now.awaits now.integrates now.driving in
          inl (subst (λ o. k ≤ rest_stay o setup (next b)) (sym e)
          (subst (λ seen. k ≤ recessive_way setup.segments seen + rest * bit_quanta setup.segments + behind_sample) (sym f) (omega (arith, few, near))))

      left_sample : (v : Level) (r : ℕ) → r ≡ rest → beat_next setup h Recessive ≡ Sample v → Lasts (next (Sample v)) k
      left_sample v r same e = by r same
        where
          here : suc k ≤ 1 + rest * bit_quanta setup.segments + behind_sample
          here = subst (λ n. suc k ≤ n + rest * bit_quanta setup.segments + behind_sample) (bits.last setup.segments h.seen now.idle now.awaits now.integrates now.driving v e) few

          by : (r : ℕ) → r ≡ rest → Lasts (next (Sample v)) k
          by zero f =
              let g : suc k ≤ 1 + zero * bit_quanta setup.segments + behind_sample = subst (λ m. suc k ≤ 1 + m * bit_quanta setup.segments + behind_sample) (sym f) here in
              let low = bits.behind setup.segments h.seen now.idle now.awaits now.integrates now.driving v e in
              inr (omega arith)
          by (suc n) f =
              let g : suc k ≤ 1 + suc n * bit_quanta setup.segments + behind_sample = subst (λ m. suc k ≤ 1 + m * bit_quanta setup.segments + behind_sample) (sym f) here in
              let rested : RestsFor (suc n) (rest_in h) = subst (RestsFor (suc n)) (sym (is ∙ ap Some (sym f))) (let l : suc n ≤ suc n = omega arith in l) in
              inl (enough (rest_in (next (Sample v))) n k (next (Sample v))
              (rest_behind h n (rests.left (stretch_of h.inputs) (sampled_next setup h Recessive) n refl rested) v)
              (one_bit (bit_quanta setup.segments) behind_sample n (recessive_way setup.segments (next (Sample v)).seen) k g
              (bits.next setup.segments h.seen now.idle now.awaits now.integrates now.driving v e)))

      left_by : (b : Beat) → beat_next setup h Recessive ≡ b → Lasts (next b) k
      left_by Start e = left_on Start is refl
      left_by Plain e = left_on Plain is refl
      left_by (Sample v) e = left_sample v rest refl e

    -- where a quantum leaves a node that stands for it and for k quanta more
    record Goes (next : History) : Type 0 where
      drive : next.drive ≡ Recessive
      left : Lasts next k

    goes_rest : (o : Option ℕ) → rest_in h ≡ o → h.drive ≡ Recessive → suc k ≤ rest_stay o setup h → Goes (next (beat_next setup h Recessive))
    goes_rest None e d less = absurd (omega arith)
    goes_rest (Some rest) e d less = record {
      drive = drive_next h (beat_next setup h Recessive) (subst (RestsFor 0) (sym e) (let l : 0 ≤ rest = omega arith in l)) d;
      left = left_by rest e less (beat_next setup h Recessive) refl;
    }

    goes_bit : h.drive ≡ Recessive → suc k ≤ recessive_rest setup.segments h.seen → Goes (next (beat_next setup h Recessive))
    goes_bit d less =
        let some : 0 < recessive_rest setup.segments h.seen = omega arith in
        let on = bits.rest setup.segments h.seen now.idle now.awaits now.integrates now.driving some in
        subst (λ b. Goes (next b)) (sym (bits.plain setup.segments h.seen now.idle now.awaits now.integrates now.driving some)) (record {
          drive = d;
          left = inr (omega arith);
        })

    goes : h.drive ≡ Recessive → Lasts h (suc k) → Goes (next (beat_next setup h Recessive))
    goes d (inl less) = goes_rest (rest_in h) refl d less
    goes d (inr less) = goes_bit d less

  abbrev drive_after : List Level → Level
  drive_after levels = (staying_history setup levels).drive

  one_more : (levels : List Level) (m : ℕ) → drive_after (levels ++ replicate (suc m) Recessive) ≡ drive_after ((levels ++ Recessive ∷ []) ++ replicate m Recessive)
  one_more levels m = ap drive_after (sym (append_assoc levels (Recessive ∷ []) (replicate m Recessive)))

  stands_rest : (m : ℕ) (levels : List Level) → drive_after levels ≡ Recessive → Lasts (staying_history setup levels) m → drive_after (levels ++ replicate m Recessive) ≡ Recessive
  stands_rest zero levels d lasts = ap drive_after (append-nil levels) ∙ d
  stands_rest (suc m) levels d lasts =
      let g : Goes (staying_history setup levels) m (staying_history setup (levels ++ Recessive ∷ [])) =
      subst (Goes (staying_history setup levels) m) (sym (history_next setup levels Recessive)) (goes (staying_history setup levels) m d lasts) in
      one_more levels m ∙ stands_rest m (levels ++ Recessive ∷ []) g.drive g.left

  -- as long as none is handed

  record IsUnhanded (h : History) (m : ℕ) : Type 0 where
    drive : h.drive ≡ Recessive
    rest : RestsFor 0 (rest_in h)
    headless : head_of (stretch_of h.inputs).sort ≡ None
    few : m ≤ until_frame (unsent_of setup h) (length h.seen)

  -- a machine in no frame that is handed none is in none after a recessive sample
  headless_after : (s : Stretch) (x : Sampled) → x.head ≡ None → head_of s.sort ≡ None → head_of (stretch_after s (Given x)).sort ≡ None
  headless_after s x none e = by (judged s x).next refl
    where
      by : (next : Option Stretch) → (judged s x).next ≡ next → head_of (stretch_after s (Given x)).sort ≡ None
      by None j = ap head_of (heads.on s x j) ∙ e
      by (Some next) j =
          let here : head_of (stretch_after s (Given x)).sort ≡ head_of next.sort = ap (λ n. head_of (or_next n (record { sort = s.sort; own = s.own ++ x.level ∷ [] })).sort) j in
          elim (heads.head s next x j) [
            | inl f ↦ here ∙ (f ∙ none)
            | inr f ↦ here ∙ f
          ]

  headless_behind : (h : History) (v : Level) → head_at_next setup h ≡ None → head_of (stretch_of h.inputs).sort ≡ None
      → head_of (stretch_of (behind setup h Recessive (Sample v)).inputs).sort ≡ None
  headless_behind h v none e = by (switched_off x.mode after) (off_or_not x.mode after)
    where
      x : Sampled
      x = sampled_next setup h Recessive

      after : Mode
      after = mode_of (counts_of (h.happened ++ (judged (stretch_of h.inputs) x).happened ∷ []))

      by : (off : List Input) → (off ≡ []) ⊎ (off ≡ SwitchedOff ∷ []) → head_of (stretch_of ((h.inputs ++ Given x ∷ []) ++ off)).sort ≡ None
      by off (inl f) =
          ap (λ o. head_of (stretch_of ((h.inputs ++ Given x ∷ []) ++ o)).sort) f
          ∙ ap (λ i. head_of (stretch_of i).sort) (append-nil (h.inputs ++ Given x ∷ []))
          ∙ ap (λ s. head_of s.sort) (stretch_next h.inputs (Given x)) ∙ headless_after (stretch_of h.inputs) x none e
      by off (inr f) =
          ap (λ o. head_of (stretch_of ((h.inputs ++ Given x ∷ []) ++ o)).sort) f
          ∙ ap (λ s. head_of s.sort) (stretch_next (h.inputs ++ Given x ∷ []) SwitchedOff)

  unhanded_next : (h : History) (m : ℕ) (b : Beat) → IsUnhanded h (suc (suc m)) → IsUnhanded (behind setup h Recessive b) (suc m)
  unhanded_next h m b is = record {
    drive = drive_next h b is.rest is.drive;
    rest = rest_by b;
    headless = headless_by b;
    few = subst (λ n. suc m ≤ n) (sym waiting) (until_less (unsent_of setup h) (length h.seen) m is.few);
  }
    where
      none : head_at_next setup h ≡ None
      none = no_head setup.order (unsent_of setup h) (length h.seen) (none_ready (unsent_of setup h) (length h.seen) m is.few)

      rest_by : (b : Beat) → RestsFor 0 (rest_in (behind setup h Recessive b))
      rest_by Start = is.rest
      rest_by Plain = is.rest
      rest_by (Sample v) = rest_behind h 0 (rests.none (stretch_of h.inputs) (sampled_next setup h Recessive) refl none is.rest) v

      headless_by : (b : Beat) → head_of (stretch_of (behind setup h Recessive b).inputs).sort ≡ None
      headless_by Start = is.headless
      headless_by Plain = is.headless
      headless_by (Sample v) = headless_behind h v none is.headless

      waiting : until_frame (unsent_of setup (behind setup h Recessive b)) (length (behind setup h Recessive b).seen) ≡ until_frame (unsent_of setup h) (suc (length h.seen))
      waiting =
          ap (λ u. until_frame u (length (h.seen ++ seen_next h Recessive ∷ []))) (same_sent silences ways setup heads h Recessive b is.headless)
          ∙ ap (until_frame (unsent_of setup h)) (length-append h.seen (seen_next h Recessive ∷ []) ∙ add-one (length h.seen))

  stands_unhanded : (m : ℕ) (levels : List Level) → IsUnhanded (staying_history setup levels) m → drive_after (levels ++ replicate m Recessive) ≡ Recessive
  stands_unhanded zero levels is = ap drive_after (append-nil levels) ∙ is.drive
  stands_unhanded (suc zero) levels is =
      let h : History = staying_history setup levels in
      ap (λ (g : History). g.drive) (history_next setup levels Recessive) ∙ drive_next h (beat_next setup h Recessive) is.rest is.drive
  stands_unhanded (suc (suc m)) levels is =
      let h : History = staying_history setup levels in
      one_more levels (suc m)
      ∙ stands_unhanded (suc m) (levels ++ Recessive ∷ [])
      (subst (λ next. IsUnhanded next (suc m)) (sym (history_next setup levels Recessive)) (unhanded_next h m (beat_next setup h Recessive) is))

  -- both

  pub stands_at : (levels : List Level) (m : ℕ) → m ≤ stay_at setup (staying_history setup levels) → drive_after (levels ++ replicate m Recessive) ≡ drive_after levels
  stands_at levels m few = by_drive (is_dominant h.drive) refl few
    where
      h : History
      h = staying_history setup levels

      by_head : (rest : ℕ) → rest_in h ≡ Some rest → h.drive ≡ Recessive → rest_stay (Some rest) setup h < m → m ≤ until_frame (unsent_of setup h) (length h.seen)
          → (o : Option Content) → head_of (stretch_of h.inputs).sort ≡ o → drive_after (levels ++ replicate m Recessive) ≡ Recessive
      by_head rest e d more less None f =
          stands_unhanded m levels (record { drive = d; rest = subst (RestsFor 0) (sym e) (let l : 0 ≤ rest = omega arith in l); headless = f; few = less })
      by_head rest e d more less (Some frame) f =
          absurd (let now = until_now (unsent_of setup h) (length h.seen) (ready_heads heads setup levels frame f) in
          let some : 1 ≤ rest_stay (Some rest) setup h = omega arith in
          omega arith)

      by_rest : (o : Option ℕ) → rest_in h ≡ o → h.drive ≡ Recessive → m ≤ stay_by o setup h → drive_after (levels ++ replicate m Recessive) ≡ Recessive
      by_rest None e d less = stands_rest m levels d (inl (omega arith))
      by_rest (Some rest) e d less = elim (cases_lt (rest_stay (Some rest) setup h) m) [
        | inl more ↦ by_head rest e d more (omega arith) (head_of (stretch_of h.inputs).sort) refl
        | inr within ↦ stands_rest m levels d (inl (subst (λ o. m ≤ rest_stay o setup h) (sym e) within))
      ]

      by_drive : (b : Bool) → is_dominant h.drive ≡ b → m ≤ cond b 0 (stay_by (rest_in h) setup h) → drive_after (levels ++ replicate m Recessive) ≡ drive_after levels
      by_drive true e less =
          let none : m ≡ 0 = omega arith in
          ap (λ n. drive_after (levels ++ replicate n Recessive)) none ∙ ap drive_after (append-nil levels)
      by_drive false e less = (let d = recessive_from h.drive e in by_rest (rest_in h) refl d less ∙ sym d)
