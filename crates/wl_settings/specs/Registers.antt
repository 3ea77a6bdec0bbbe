-- What the registers of controllers hold whose PROP_SEG and PHASE_SEG1 are one length.
use Rattle.std.specs.Prelude.{ℕ, min, false, Some, None}
use Rattle.wl_kinds.specs.declared.kinds.ControllerKind.{ControllerKind}
use Rattle.wl_settings.specs.declared.asked.Bounds.{Bounds}
use Rattle.wl_settings.specs.declared.parts.Parts.TheVariants.{Joint}

-- as much as a plan allows (ISO 11898-1, bit timing), with the greatest prescaler of all kinds
abbrev pub widest_bounds : Bounds
widest_bounds = record { prescaler = 1024; parts = Joint 256 128; sjw = 128; is_sjw_free = false; kind = None }

-- Controllers of a kind can be set to what the kind allows. The ranges that are searched are those of its registers.
abbrev pub bounds_of_kind : ControllerKind → Bounds
bounds_of_kind k = record {
  prescaler = min k.prescaler.most 4294967295;
  parts = Joint (min k.tseg1.most 65535) (min k.tseg2.most 65535);
  sjw = min k.sjw.most 65535;
  is_sjw_free = false;
  kind = Some k;
}

-- with a jump width of at most this number of quanta
abbrev pub with_jump : Bounds → ℕ → Bounds
with_jump b most = record b { sjw = min b.sjw (min most 65535) }
