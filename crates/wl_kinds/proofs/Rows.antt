-- Worked values, from the data sheets' own words: the MCP2515 with 16 MHz and 500 kbit/s, and an M_CAN of 160 quanta a bit.
use Rattle.std.specs.Prelude.{◌≡◌, Option, Some, None, codes, refl, List, ℕ}
use Rattle.wl_kinds.specs.declared.kinds.ControllerKind.{ControllerKind}
use Rattle.wl_kinds.specs.declared.kinds.Part.{Part}
use Rattle.wl_kinds.specs.declared.kinds.Part.TheVariants.{Prescaler, Tseg1, Tseg2, Sjw}
use Rattle.wl_kinds.specs.declared.kinds.Taken.{Taken}
use Rattle.wl_kinds.specs.Kinds.{first_wrong, kind_named}

abbrev of_kind : List ℕ → Taken → Option (Option Part)
of_kind name t = of (kind_named name) where
  of : Option ControllerKind → Option (Option Part)
  of None = None
  of (Some k) = Some (first_wrong k t)

abbrev taken : Option ℕ → (tseg1 tseg2 sjw : ℕ) → Taken
taken prescaler tseg1 tseg2 sjw = record { prescaler = prescaler; tseg1 = tseg1; tseg2 = tseg2; sjw = sjw }

-- PS2 of 2 and SJW of 1, and of 2: PS2 has to be above SJW
below : of_kind (codes "mcp2515") (taken (Some 2) 13 2 1) ≡ Some None
below = refl

not_below : of_kind (codes "mcp2515") (taken (Some 2) 13 2 2) ≡ Some (Some Sjw)
not_below = refl

-- a quantum of an odd number of the oscillator's periods, PropSeg and PS1 below PS2, and more than they hold
odd : of_kind (codes "mcp2515") (taken (Some 3) 13 2 1) ≡ Some (Some Prescaler)
odd = refl

crossed : of_kind (codes "mcp2515") (taken None 4 5 1) ≡ Some (Some Tseg2)
crossed = refl

longer : of_kind (codes "mcp2515") (taken None 17 2 1) ≡ Some (Some Tseg1)
longer = refl

-- 160 quanta at 80 MHz
wide : of_kind (codes "m_can") (taken (Some 1) 127 32 16) ≡ Some None
wide = refl

wide_elsewhere : of_kind (codes "sja1000") (taken (Some 1) 127 32 16) ≡ Some (Some Tseg1)
wide_elsewhere = refl

unknown : of_kind (codes "MCP2515") (taken None 13 2 1) ≡ None
unknown = refl
