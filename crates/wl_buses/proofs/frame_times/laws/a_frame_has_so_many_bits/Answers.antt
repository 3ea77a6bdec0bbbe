use Rattle.std.proofs.Common.{arith}
use Rattle.wl_frame.specs.Grammar.{bits_of}
use Rattle.wl_buses.specs.OneFrame.Expected.{expected_bits}
use Rattle.wl_buses.specs.OneFrame.Machines.{bus_levels}
use Rattle.wl_buses.proofs.OneFrame.Machines.{levels_length}
use Rattle.wl_buses.proofs.FrameTimes.Stuffed.{few_stuff_bits}
use Rattle.wl_buses.proofs.frame_times.laws.a_frame_has_so_many_bits.Goals as goal

pub returns-clause-stuffed : goal.returns-clause-stuffed
returns-clause-stuffed c = λ x y is. few_stuff_bits x y is

pub returns-clause-frame : goal.returns-clause-frame
returns-clause-frame c = λ s f b.
    (let few = few_stuff_bits (bits_of b.won.frame) (bus_levels s (expected_bits s f.outset) f.bits) b.won.stuffs in
    let e = levels_length s (expected_bits s f.outset) f.bits in
    omega arith)
