-- What happens to a node that isn't fine.
use Rattle.std.specs.Prelude.{ℕ, Bool, count_by, not}
use Rattle.wl_confine.specs.declared.Happened.{Happened}
use Rattle.wl_node.specs.History.{History}
use Rattle.wl_wire.specs.InStep.{is_fine}

-- an error, or what a flag leads to (Bosch CAN 2.0 part B, section 8)
abbrev pub is_fault : Happened → Bool
is_fault happened = not (is_fine happened)

-- and how often that has happened to a node
abbrev pub fault_count : History → ℕ
fault_count h = count_by is_fault h.happened
