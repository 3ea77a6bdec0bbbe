-- A node's history, one level longer.
use Rattle.std.proofs.Common.{◌≡◌, ◌≢◌, ◌∙◌, Bool, List, [], ◌∷◌, ◌++◌, refl, ap, sym}
use Rattle.std.proofs.lemmas.List.Sums.{fold-append}
use Rattle.wl_level.specs.declared.Level.{Level}
use Rattle.wl_level.specs.Levels.{is_dominant}
use Rattle.wl_sync.specs.declared.Beat.{Beat}
use Rattle.wl_sync.specs.declared.Beat.TheVariants.{Plain, Sample, Start}
use Rattle.wl_sync.specs.declared.Seen.{Seen}
use Rattle.wl_sync.specs.Bits.{beat_of}
use Rattle.wl_machine.specs.Judged.{awaits_start, stretch_of, is_idle_sort}
use Rattle.wl_node.specs.declared.setup.NodeSetup.{NodeSetup}
use Rattle.wl_node.specs.History.{History, staying_history, history_after, is_integration, no_history, seen_next, by_beat}

pub history_first : (setup : NodeSetup) → staying_history setup [] ≡ no_history
unfolding staying_history
history_first setup = refl

pub history_next : (setup : NodeSetup) (levels : List Level) (level : Level) → staying_history setup (levels ++ level ∷ []) ≡ history_after setup (staying_history setup levels) level
unfolding staying_history
history_next setup levels level = fold-append (history_after setup) no_history levels (level ∷ [])

-- what the bit clock is given is what it sees
pub seen_is : (h : History) (level drive : Level) (idle awaits integrates driving : Bool) → idle ≡ is_idle_sort (stretch_of h.inputs).sort
    → awaits ≡ awaits_start (stretch_of h.inputs) → integrates ≡ is_integration (stretch_of h.inputs).sort → driving ≡ is_dominant drive → drive ≡ h.drive
    → ◌≡◌ {A = Seen} (record { level = level; idle = idle; awaits = awaits; integrates = integrates; driving = driving }) (seen_next h level)
seen_is h level drive idle awaits integrates driving e f n g d i =
    record { level = level; idle = e i; awaits = f i; integrates = n i; driving = (g ∙ ap is_dominant d) i }

-- the drive after one more level, by the beat
pub drive_is : (setup : NodeSetup) (levels : List Level) (level : Level) (beat : Beat)
    → beat ≡ beat_of setup.segments (staying_history setup levels).seen (seen_next (staying_history setup levels) level)
    → (by_beat setup (staying_history setup levels) level beat).drive ≡ (staying_history setup (levels ++ level ∷ [])).drive
drive_is setup levels level beat e =
    ap (λ b. (by_beat setup (staying_history setup levels) level b).drive) e ∙ sym (ap (λ h. h.drive) (history_next setup levels level))

-- the drive stays where no bit starts
pub drive_stays : (setup : NodeSetup) (h : History) (level : Level) (beat : Beat) → beat ≢ Start → h.drive ≡ (by_beat setup h level beat).drive
drive_stays setup h level Plain differs = refl
drive_stays setup h level (Sample other) differs = refl
drive_stays setup h level Start differs = absurd (differs refl)
