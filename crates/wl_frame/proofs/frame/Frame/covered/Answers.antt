use Rattle.std.proofs.Common.{◌++◌, ap}
use Rattle.std.specs.List.{flat_map}
use Rattle.wl_frame.specs.Grammar.{number_bits}
use Rattle.wl_frame.proofs.Reading.{header_parts}
use Rattle.wl_frame.proofs.frame.Frame.covered.Goals as goal

pub returns-clause-bits : goal.returns-clause-bits
returns-clause-bits c =
    rw (c.push_bytes.ensures.bits, c.bytes.ensures.value, c.push_control.ensures.bits, c.push_arbitration.ensures.bits, c.push.ensures.items, c.new-bits.ensures)
    (ap (λ ls. ls ++ flat_map (number_bits 8) c.args.self.now.bytes) (header_parts c.args.self.now))
