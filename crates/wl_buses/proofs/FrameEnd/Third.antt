-- After a frame machines may begin the next one from the third bit of the intermission on, whoever has sampled that bit.
use Rattle.std.proofs.Common.{◌≡◌, ◌∙◌, inl, inr, refl, sym, ap, subst, cond, ℕ, zero, suc, ◌+◌, ◌<◌, ◌≤◌, Bool, true, false, List, [], ◌∷◌, ◌++◌, Some, None, arith}
use Rattle.std.proofs.lemmas.Bool.{cases_lt}
use Rattle.std.proofs.lemmas.List.Sums.{fold-append}
use Rattle.wl_level.specs.declared.Level.TheVariants.{Recessive}
use Rattle.wl_confine.specs.declared.Mode.TheVariants.{Active}
use Rattle.wl_machine.specs.Stretch.{Input}
use Rattle.wl_machine.specs.Stretch.Input.{Sample}
use Rattle.wl_machine.specs.Frames.{frame_role, stuffed_end}
use Rattle.wl_machine.specs.Judged.{stretch_of}
use Rattle.wl_wire.specs.Wire.{Event, Handed, Wire, idle_wire, may_be_alone, next_wire, sampled, wire_after}
use Rattle.wl_wire.specs.Wire.Event.{Own}
use Rattle.wl_buses.specs.OneFrame.Stations.{AreStations, HaveRoom, Stations}
use Rattle.wl_buses.specs.OneFrame.Machines.{HasTwoBits, HasWon, MayBegin, bus_levels}
use Rattle.wl_buses.specs.OneFrame.Expected.{IsOutset, Outset, expected_bits, past_at}
use Rattle.wl_buses.proofs.OneFrame.Machines.{frames_after}
use Rattle.wl_buses.proofs.OneFrame.Waited.{own_at, own_other}
use Rattle.wl_buses.specs.FrameEnd.Again.{past_end}
use Rattle.wl_buses.specs.FrameEnd.Asked.{begun_frame}
use Rattle.wl_buses.specs.FrameEnd.Third.{MayBeginFromThird, past_third}
use Rattle.wl_buses.proofs.FrameEnd.Again as again
use Rattle.wl_buses.proofs.FrameEnd.Asked.{as_asked, events, reached_after}
use Rattle.wl_buses.proofs.FrameEnd.Below.{MachineLaws}

module _ (m : MachineLaws) (s : Stations) (are : AreStations s) (room : HaveRoom s) (o : Outset) (is : IsOutset s o) (end : ℕ)
    (valid : (n : ℕ) → n < end → stuffed_end (bus_levels s (expected_bits s o) n) ≡ None)
    (over : stuffed_end (bus_levels s (expected_bits s o) end) ≡ Some end) (won : HasWon s (expected_bits s o) o.frames end)
    (handed : ℕ → Handed) (third : ℕ → Bool) where
  abbrev old : ℕ → List Input
  old k = past_at s o (end + 12) k

  abbrev new : ℕ → List Input
  new k = past_third s o end handed third k

  abbrev first : Wire
  first = idle_wire s.count o.frames

  two_bits : (k : ℕ) → k < s.count → HasTwoBits (stretch_of (old k))
  two_bits k lt =
      (frame_role (begun_frame s o end k) (bus_levels s (expected_bits s o) end), (as_asked m s are room o is end valid over won).stretch 12 k (omega arith) lt)

  -- so it may sample a bit by itself
  alone : (k : ℕ) → k < s.count → may_be_alone (stretch_of (old k)) ≡ true
  alone k lt = ap may_be_alone (two_bits k lt).1

  record UpTo (c : ℕ) : Type 0 where
    more : List Event
    mine : (k : ℕ) → k < c → new k ≡ (wire_after first more).past k
    others : (j : ℕ) → c ≤ j → j < s.count → (wire_after first more).past j ≡ old j

  one_more : (c : ℕ) → c < s.count → UpTo c → (b : Bool) → third c ≡ b → UpTo (suc c)
  one_more c inside u true e = record {
    more = u.more;
    mine = λ k less. elim (cases_lt k c) [
      | inl before ↦ u.mine k before
      | inr last ↦
          (let same : c ≡ k = omega arith in
          subst (λ j. new j ≡ (wire_after first u.more).past j) same (ap (λ b. cond b (old c) (past_end s o end handed c)) e ∙ sym (u.others c (omega arith) inside)))
    ];
    others = λ j more less. u.others j (omega arith) less;
  }
  one_more c inside u false e =
      let there = u.others c (omega arith) inside in
      let split : wire_after first (u.more ++ Own c (handed c) ∷ []) ≡ next_wire (wire_after first u.more) (Own c (handed c)) = fold-append next_wire first u.more (Own c (handed c) ∷ []) in
      let own = own_at (wire_after first u.more) c (handed c) (ap (λ p. may_be_alone (stretch_of p)) there ∙ alone c inside) in
      let now : (wire_after first (u.more ++ Own c (handed c) ∷ [])).past c ≡ past_end s o end handed c =
      ap (λ v. v.past c) split ∙ own ∙ ap (λ p. p ++ Sample (sampled Recessive ((wire_after first u.more).frames c) (handed c)) ∷ []) there
      ∙ ap (λ f. old c ++ Sample (sampled Recessive (f c) (handed c)) ∷ []) (frames_after first u.more) in
      record {
        more = u.more ++ Own c (handed c) ∷ [];
        mine = λ k less. elim (cases_lt k c) [
          | inl before ↦ u.mine k before ∙ sym (ap (λ v. v.past k) split ∙ own_other (wire_after first u.more) c k (handed c) (λ f. omega (arith, f)))
          | inr last ↦
              (let same : c ≡ k = omega arith in
              subst (λ j. new j ≡ (wire_after first (u.more ++ Own c (handed c) ∷ [])).past j) same (ap (λ b. cond b (old c) (past_end s o end handed c)) e ∙ sym now))
        ];
        others = λ j more less. ap (λ v. v.past j) split ∙ own_other (wire_after first u.more) c j (handed c) (λ f. omega (arith, f)) ∙ u.others j (omega arith) less;
      }

  up_to : (c : ℕ) → c ≤ s.count → UpTo c
  up_to zero few = record {
    more = events m s are room o is end valid over won (end + 12);
    mine = λ k less. absurd (omega arith);
    others = λ j more less. reached_after m s are room o is end valid over won (end + 12) j less;
  }
  up_to (suc c) few = one_more c (omega arith) (up_to c (omega arith)) (third c) refl

  pub begin_from_third : ((k : ℕ) → k < s.count → (handed k).mode ≡ Active) → MayBeginFromThird s.count o.frames third (past_third s o end handed third)
  begin_from_third active =
      let u = up_to s.count (omega arith) in
      record {
        earlier = u.more;
        reached = u.mine;
        may = λ k inside e.
            subst (λ b. MayBegin o.frames k (stretch_of (cond b (old k) (past_end s o end handed k)))) (sym e)
            ((again.may_begin m s are room o is end valid over won handed active).may k inside);
        two = λ k inside e. subst (λ b. HasTwoBits (stretch_of (cond b (old k) (past_end s o end handed k)))) (sym e) (two_bits k inside);
      }
