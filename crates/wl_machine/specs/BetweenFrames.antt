-- What stands between frames: integration, idle, intermission, suspension, and bus off, each by its own list of samples.
use Rattle.std.specs.Prelude.{ℕ, suc, ◌%◌, ◌==◌, ◌&&◌, nat_lt, List, [], ◌∷◌, ◌++◌, length, Option, Some, None, if◌then◌else◌}
use Rattle.wl_level.specs.declared.Level.{Level}
use Rattle.wl_level.specs.declared.Level.TheVariants.{Recessive}
use Rattle.wl_level.specs.Levels.{is_dominant}
use Rattle.wl_level.specs.Places.{count_places, run_before, run_at_end}
use Rattle.wl_confine.specs.declared.Mode.{Mode}
use Rattle.wl_confine.specs.declared.Mode.TheVariants as modes
use Rattle.wl_confine.specs.declared.Happened.TheVariants as happens
use Rattle.wl_frame.specs.Grammar.{Content}
use Rattle.wl_machine.specs.declared.state.Role.{Role}
use Rattle.wl_machine.specs.declared.state.Role.TheVariants.{Tx}
use Rattle.wl_machine.specs.Stretch.{Sort, Sampled, Judgement, continues, begins, free}
use Rattle.wl_machine.specs.Stretch.Flag.{OverloadFlag}
use Rattle.wl_machine.specs.Stretch.Sort.{Framing, Flagging, Suspension}

-- eleven recessive samples in a row end an integration (ISO 11898-1, bus integration; that it begins with the machine is this project's profile)
abbrev pub integration : List Level → Sampled → Judgement
integration own x =
    if run_at_end Recessive (own ++ x.level ∷ []) == 11 then begins happens.Nothing (free x.head) [] else continues happens.Nothing

-- an idle bus without a dominant sample: the head is sent, if there is one
abbrev pub idle_on : Option Content → Judgement
idle_on None = continues happens.Nothing
idle_on (Some head) = begins happens.Nothing (Framing (Some head)) []

-- an idle bus, on which a dominant sample is a start of frame (Bosch CAN 2.0 part B, section 3.2.5, bus idle)
abbrev pub idle : Sampled → Judgement
idle x = if is_dominant x.level then begins happens.Nothing (Framing None) (x.level ∷ []) else idle_on x.head

-- after the intermission an error passive transmitter is suspended (section 3.2.5, suspend transmission)
abbrev pub after_intermission : Role → Mode → Option Content → Sort
after_intermission Tx modes.Passive head = Suspension
after_intermission role mode head = free head

-- A dominant third bit of the intermission is taken for the start of frame of the head, if there is one, of which the bit after that comes next; but not after
-- its own frame by an error passive transmitter, that would be suspended (section 3.2.5, intermission; ISO 11898-1)
abbrev pub begun_head : Role → Mode → Option Content → Option Content
begun_head Tx modes.Passive head = None
begun_head role mode head = head

-- Three recessive bits. A dominant one of the first two is an overload, and the third is a start of frame (sections 3.2.4 and 3.2.5).
abbrev pub intermission : Role → List Level → Sampled → Judgement
intermission role own x =
    if length own == 2
    then (if is_dominant x.level then begins happens.Nothing (Framing (begun_head role x.mode x.head)) (x.level ∷ []) else begins happens.Nothing (after_intermission role x.mode x.head) [])
    else (if is_dominant x.level then begins happens.Nothing (Flagging OverloadFlag role) [] else continues happens.Nothing)

-- eight recessive bits, or a frame that another node begins (section 3.2.5, suspend transmission)
abbrev pub suspension : List Level → Sampled → Judgement
suspension own x =
    if is_dominant x.level then begins happens.Nothing (Framing None) (x.level ∷ [])
    else if length own == 7 then begins happens.Nothing (free x.head) []
    else continues happens.Nothing

-- how many runs of eleven recessive samples there are, each sample in one of them at most
abbrev pub recessive_runs : List Level → ℕ
recessive_runs own = count_places (λ n. (run_before Recessive own (suc n)) % 11 == 0 && nat_lt 0 (run_before Recessive own (suc n))) (length own)

-- 128 runs of eleven recessive samples end bus off (section 8, rule 12)
abbrev pub off_bus : List Level → Sampled → Judgement
off_bus own x =
    if recessive_runs (own ++ x.level ∷ []) == 128 then begins happens.Recovered (free x.head) [] else continues happens.Nothing
