-- What a kind of controllers can be set to (ISO 11898-1, bit timing, in the classical format; the ranges are those of the table of the code).
use Rattle.std.specs.Prelude.{ℕ, Bool, true, not, ◌&&◌, ◌||◌, ◌==◌, ◌%◌, nat_le, nat_lt, List, Option, Some, None, if◌then◌else◌, [], ◌∷◌, map}
use Rattle.std.specs.Str.{bytes_eq}
use Rattle.wl_kinds.specs.declared.kinds.ControllerKind.{ControllerKind}
use Rattle.wl_kinds.specs.declared.kinds.Part.{Part}
use Rattle.wl_kinds.specs.declared.kinds.Part.TheVariants.{Prescaler, Tseg1, Tseg2, Sjw}
use Rattle.wl_kinds.specs.declared.kinds.Range.{Range}
use Rattle.wl_kinds.specs.declared.kinds.TheConstants.{KINDS}
use Rattle.wl_kinds.specs.declared.kinds.Taken.{Taken}

-- a number within a range
abbrev pub is_in : Range → ℕ → Bool
is_in r n = nat_le r.least n && nat_le n r.most

-- the prescaler, which need not be known: within its range, and even where it has to be
abbrev pub takes_prescaler : ControllerKind → Option ℕ → Bool
takes_prescaler k None = true
takes_prescaler k (Some p) = is_in k.prescaler p && (not k.is_even || (p % 2 == 0))

-- PHASE_SEG2: within its range, and up to PROP_SEG and PHASE_SEG1 where it has to be
abbrev pub takes_tseg2 : ControllerKind → (tseg1 tseg2 : ℕ) → Bool
takes_tseg2 k tseg1 tseg2 = is_in k.tseg2 tseg2 && (not k.is_tseg2_within || nat_le tseg2 tseg1)

-- the jump width: up to its greatest and to PHASE_SEG2, and below PHASE_SEG2 where it has to be
abbrev pub takes_jump : ControllerKind → (tseg2 sjw : ℕ) → Bool
takes_jump k tseg2 sjw = is_in k.sjw sjw && nat_le sjw tseg2 && (not k.is_sjw_below || nat_lt sjw tseg2)

-- whether a kind can be set so
abbrev pub allows : ControllerKind → Taken → Bool
allows k t = takes_prescaler k t.prescaler && is_in k.tseg1 t.tseg1 && takes_tseg2 k t.tseg1 t.tseg2 && takes_jump k t.tseg2 t.sjw

-- the first part that it can't be set to
abbrev pub first_wrong : ControllerKind → Taken → Option Part
first_wrong k t =
    if not (takes_prescaler k t.prescaler) then Some Prescaler
    else if not (is_in k.tseg1 t.tseg1) then Some Tseg1
    else if not (takes_tseg2 k t.tseg1 t.tseg2) then Some Tseg2
    else if not (takes_jump k t.tseg2 t.sjw) then Some Sjw
    else None

-- the first of some kinds that has this name
abbrev pub named : List (List ℕ × ControllerKind) → List ℕ → Option ControllerKind
named [] name = None
named (row ∷ rows) name = if bytes_eq name row.0 then Some row.1 else named rows name

-- the known kind of this name
abbrev pub kind_named : List ℕ → Option ControllerKind
kind_named name = named (map (λ k. (k.0.now, k.1)) KINDS) name
