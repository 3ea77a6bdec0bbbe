-- A member of a small line, computed: what it may do, what it emits, how it stands afterwards.
use Rattle.std.proofs.Common.{◌≡◌, ℕ, zero, suc, ◌+◌, ◌*◌, Bool, true, false, List, [], ◌∷◌, refl}
use Rattle.wl_level.specs.declared.Level.{Level}
use Rattle.wl_level.specs.declared.Level.TheVariants.{Recessive}
use Rattle.wl_record_core.specs.declared.record.Record.TheVariants.{Edge, Silence}
use Rattle.wl_plan.specs.Line.{Line}
use Rattle.wl_group.specs.Member.{Member, fresh, member_after_quantum, emission}
use Rattle.wl_group.specs.Party.{initial_silences, initial_party, party_after_quantum}

-- node 0 drives dominant after its second and third quantum, node 1 never
drives : ℕ → List Level → Bool
drives zero (a ∷ b ∷ []) = true
drives zero (a ∷ b ∷ c ∷ []) = true
drives i levels = false

-- quanta of two ticks, a tick apart, and a delay of one tick
small : Line
small = record {
  nodes = 2;
  instant = λ i k. i + 2 * k;
  drives = drives;
  quiet = λ i levels. 0;
  delay = λ i j. 1;
  disturbed = λ j t. false;
  stop = 10;
}

first_silences : initial_silences small (λ i. true) 2 ≡ Silence 0 0 0 ∷ Silence 1 0 1 ∷ []
unfolding small
first_silences = refl

-- a first quantum changes nothing, and promises silence up to the next
first_quantum : emission small 0 fresh Recessive ≡ Silence 0 0 2 ∷ []
unfolding small drives
first_quantum = refl

-- a second one changes the drive: an edge at its tick, and then the silence
once : Member
once = record { saw = Recessive ∷ []; changed = 0 }

second_quantum : emission small 0 once Recessive ≡ Edge 0 0 2 ∷ Silence 0 1 4 ∷ []
unfolding small drives once
second_quantum = refl

after_it : member_after_quantum small 0 once Recessive ≡ record { saw = Recessive ∷ Recessive ∷ []; changed = 1 }
unfolding small drives once
after_it = refl

-- a group of node 0 alone takes what it emits itself
its_own_records : (party_after_quantum small 0 Recessive (initial_party small (λ i. elim i [ zero ↦ true | suc j ↦ false ]))).taken ≡ Silence 0 0 2 ∷ Silence 0 0 0 ∷ []
unfolding small drives
its_own_records = refl

and_tells_them : (party_after_quantum small 0 Recessive (initial_party small (λ i. true))).emitted ≡ Silence 0 0 2 ∷ []
unfolding small drives
and_tells_them = refl
