-- The machine with its counters, by computation.
use Rattle.std.proofs.Common.{◌≡◌, ℕ, zero, suc, [], false, Option, Some, None, refl}
use Rattle.wl_level.specs.declared.Level.{Level}
use Rattle.wl_level.specs.declared.Level.TheVariants.{Dominant}
use Rattle.wl_confine.specs.declared.ErrorKind.TheVariants.{Ack}
use Rattle.wl_confine.specs.declared.Mode.{Mode}
use Rattle.wl_confine.specs.declared.Mode.TheVariants.{Off}
use Rattle.wl_confine.specs.declared.Happened.{Happened}
use Rattle.wl_confine.specs.declared.Happened.TheVariants as happens
use Rattle.wl_confine.specs.Counts.{Counts, counts_after, mode_of}
use Rattle.wl_frame.specs.Grammar.{Content, bits_of, number_bits}
use Rattle.wl_machine.specs.Stretch.{Sort, Stretch, Sampled}
use Rattle.wl_machine.specs.Stretch.Sort.{Integration, Idle}
use Rattle.wl_machine.specs.Stretch.Input.{Sample, SwitchedOff}
use Rattle.wl_machine.specs.Judged.{judged, stretch_after, drive_of}

record Confined : Type 0 where
  stretch : Stretch
  counts : Counts
  happened : Happened

abbrev switched : Mode → Stretch → Stretch
switched Off s = stretch_after s SwitchedOff
switched mode s = s

abbrev sampled : Option Content → Level → Confined → Confined
sampled head level c =
    let x : Sampled = record { level = level; head = head; mode = mode_of c.counts } in
    let j = judged c.stretch x in
    let counts = counts_after c.counts j.happened in
    record { stretch = switched (mode_of counts) (stretch_after c.stretch (Sample x)); counts = counts; happened = j.happened }

abbrev begin : Sort → Confined
begin sort = record { stretch = record { sort = sort; own = [] }; counts = record { tec = 0; rec = 0 }; happened = happens.Nothing }

-- from an idle bus, dominant for ever
abbrev stuck : ℕ → Confined
stuck zero = begin Idle
stuck (suc n) = sampled None Dominant (stuck n)

abbrev rec_at : ℕ → ℕ
rec_at n = (stuck n).counts.rec

one : rec_at 6 ≡ 1
unfolding bits_of number_bits
one = refl

nine : rec_at 13 ≡ 9
unfolding bits_of number_bits
nine = refl

seventeen : rec_at 20 ≡ 17
unfolding bits_of number_bits
seventeen = refl

passive : rec_at 132 ≡ 129
unfolding bits_of number_bits
passive = refl

-- alone on the wire, with a frame
abbrev zero_frame : Option Content
zero_frame = Some (record { extended = false; id = 0; remote = false; dlc = 0; bytes = [] })

abbrev alone : ℕ → Confined
alone zero = begin Integration
alone (suc n) = let c = alone n in sampled zero_frame (drive_of c.stretch) c

second : (alone 112).happened ≡ happens.TxError Ack
unfolding bits_of number_bits
second = refl

sixteenth : (alone 938).counts.tec ≡ 128
unfolding bits_of number_bits
sixteenth = refl

free : (alone 1005).happened ≡ happens.TxFree
unfolding bits_of number_bits
free = refl

-- sample 1008 dominant
abbrev met : ℕ → Confined
met zero = alone 1007
met (suc zero) = sampled zero_frame Dominant (alone 1007)
met (suc (suc n)) = let c = met (suc n) in sampled zero_frame (drive_of c.stretch) c

acknowledged : (met 1).happened ≡ happens.PassiveAck
unfolding bits_of number_bits
acknowledged = refl

raised : (met 1).counts.tec ≡ 136
unfolding bits_of number_bits
raised = refl

-- alone, eleven recessive samples, and dominant for ever
abbrev jammed : ℕ → Confined
jammed zero = alone 11
jammed (suc n) = sampled zero_frame Dominant (jammed n)

jam : (jammed 6).happened ≡ happens.TxFree
unfolding bits_of number_bits
jam = refl

jam_long : (jammed 20).counts.tec ≡ 8
unfolding bits_of number_bits
jam_long = refl

jam_passive : (jammed 140).counts.tec ≡ 128
unfolding bits_of number_bits
jam_passive = refl

jam_off : mode_of (jammed 268).counts ≡ Off
unfolding bits_of number_bits
jam_off = refl
