-- A node that goes to the second bit of the intermission is in its third bit then, and drives nothing since the ACK slot.
use Rattle.std.proofs.Common.{◌≡◌, ◌∙◌, inl, inr, refl, sym, ap, subst, ℕ, zero, suc, ◌+◌, ◌-◌, ◌<◌, ◌≤◌, ◌&&◌, not, Bool, true, false, List, Some, None, arith}
use Rattle.std.specs.Prelude.{◌==◌}
use Rattle.std.proofs.lemmas.Bool.{cases_lt, ne_eqb}
use Rattle.wl_level.specs.declared.Level.{Level}
use Rattle.wl_level.specs.declared.Level.TheVariants.{Recessive}
use Rattle.wl_level.specs.Levels.{level_of}
use Rattle.wl_machine.specs.Frames.{frame_role, stuffed_end}
use Rattle.wl_machine.specs.Judged.{stretch_of}
use Rattle.wl_node.specs.History.{History}
use Rattle.wl_buses.specs.OneFrame.Stations.{AreStations, HaveRoom, Stations}
use Rattle.wl_buses.specs.OneFrame.Starts.{Start}
use Rattle.wl_buses.specs.OneFrame.Clocked.{SamplesBy}
use Rattle.wl_buses.specs.OneFrame.Machines.{HasWon, bus_levels}
use Rattle.wl_buses.specs.OneFrame.Expected.{IsOutset, Outset, expected_bits, expected_sample, past_at, wants}
use Rattle.wl_buses.specs.OneFrame.Nodes.{GoesToNext, IsInBit, clock_sees}
use Rattle.wl_buses.specs.FrameEnd.Asked.{EndAsAsked, begun_frame}
use Rattle.wl_buses.specs.FrameEnd.Third.{RestsInThird}
use Rattle.wl_buses.proofs.FrameEnd.Asked.{as_asked}
use Rattle.wl_buses.proofs.FrameEnd.Below.{MachineLaws}

module _ (m : MachineLaws) (s : Stations) (are : AreStations s) (room : HaveRoom s) (o : Outset) (is : IsOutset s o) (end : ℕ)
    (valid : (n : ℕ) → n < end → stuffed_end (bus_levels s (expected_bits s o) n) ≡ None)
    (over : stuffed_end (bus_levels s (expected_bits s o) end) ≡ Some end) (won : HasWon s (expected_bits s o) o.frames end)
    (i : ℕ) (inside : i < s.count) (levels : ℕ → Level) (node : ℕ → History)
    (next : (place n : ℕ) → place ≤ 11 → end + place ≡ suc n → GoesToNext s o i levels node n) where
  abbrev bits : ℕ → Start
  bits = expected_bits s o

  asked : EndAsAsked s o end won.station won.frame
  asked = as_asked m s are room o is end valid over won

  abbrev S : ℕ → ℕ
  S n = expected_sample s o n i

  abbrev pub since : ℕ
  since = (bits (suc (suc end))).from i

  none : (n place : ℕ) → end + place ≡ n → 2 ≤ place → place ≤ 12 → wants s o n i ≡ false
  none n place e low high =
      ap (λ k. wants s o k i) (sym e) ∙ asked.drives place i high inside ∙ ap (λ b. b && not (i == won.station)) (ne_eqb place 1 (λ f. omega (arith, f)))

  first_quiet : (q : ℕ) → since < q → q ≤ suc (S (suc (suc end))) → (node q).drive ≡ Recessive
  first_quiet q a b = (next 2 (suc end) (omega arith) (omega arith)).after q a b ∙ ap level_of (none (suc (suc end)) 2 (omega arith) (omega arith) (omega arith))

  step_quiet : (n place q : ℕ) → end + place ≡ suc n → 3 ≤ place → place ≤ 11 → S n < q → q ≤ suc (S (suc n)) → (node q).drive ≡ Recessive
  step_quiet n place q e low high a b =
      let x = next place n high e in
      elim (cases_lt ((bits (suc n)).from i) q) [
        | inl later ↦ x.after q later b ∙ ap level_of (none (suc n) place e (omega arith) (omega arith))
        | inr sooner ↦ x.before q a sooner ∙ ap level_of (none n (place - 1) (omega arith) (omega arith) (omega arith))
      ]

  quiet_upto : (p q : ℕ) → p ≤ 9 → since < q → q ≤ suc (S (suc (suc end) + p)) → (node q).drive ≡ Recessive
  quiet_upto zero q small a b = (let e : suc (suc end) + 0 ≡ suc (suc end) = omega arith in let f : S (suc (suc end) + 0) ≡ S (suc (suc end)) = ap S e in first_quiet q a (omega arith))
  quiet_upto (suc p) q small a b =
      (let e : suc (suc end) + suc p ≡ suc (suc (suc end) + p) = omega arith in
      let f : S (suc (suc end) + suc p) ≡ S (suc (suc (suc end) + p)) = ap S e in
      elim (cases_lt (S (suc (suc end) + p)) q) [
        | inl later ↦ step_quiet (suc (suc end) + p) (3 + p) q (omega arith) (omega arith) (omega arith) later (omega arith)
        | inr sooner ↦ quiet_upto p q (omega arith) a (omega arith)
      ])

  pub quiet_second : (q : ℕ) → since < q → q ≤ suc (S (end + 11)) → (node q).drive ≡ Recessive
  quiet_second q a b = (let e : suc (suc end) + 9 ≡ end + 11 = omega arith in let f : S (suc (suc end) + 9) ≡ S (end + 11) = ap S e in quiet_upto 9 q (omega arith) a (omega arith))

  in_second : IsInBit s o i levels node (end + 11)
  in_second = (let e : end + 11 ≡ suc (end + 10) = omega arith in subst (IsInBit s o i levels node) (sym e) (next 11 (end + 10) (omega arith) e).bit)

  pub rests_in_third : RestsInThird s (past_at s o (end + 12) i) i levels node ((bits (end + 11)).place i) since
  rests_in_third =
      let recessive = asked.bus 11 (omega arith) in
      let later : suc (end + 11) ≡ end + 12 = omega arith in
      record {
        sampled = subst (λ b. SamplesBy (s.lengths i) (clock_sees levels node) (S (end + 11)) (level_of b)) recessive in_second.clock.sampled;
        clock = in_second.clock.steady recessive;
        stretch = in_second.stretch ∙ ap (λ k. stretch_of (past_at s o k i)) later;
        two = (frame_role (begun_frame s o end i) (bus_levels s bits end), asked.stretch 12 i (omega arith) inside);
        counts = in_second.counts;
        drive = quiet_second;
      }
