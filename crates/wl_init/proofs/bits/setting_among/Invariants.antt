use Rattle.std.proofs.Common.{◌≡◌, drop}
use Rattle.wl_init.specs.Bits.{setting_among}
use Rattle.wl_init.proofs.bits.setting_among.Given as goal

-- the setting is among the shapes that are left
abbrev pub invariant-loop-shape : goal.invariant-loop-shape
invariant-loop-shape l = setting_among l.kind l.periods l.jump (drop l.shape-index l.shapes) ≡ setting_among l.kind l.periods l.jump l.shapes
