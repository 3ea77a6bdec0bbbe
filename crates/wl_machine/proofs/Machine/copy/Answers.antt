use Rattle.std.proofs.Math.Logic.{∥∥₁_map}
use Rattle.wl_machine.proofs.Machine.copy.Goals as goal

pub invariant_of-result : goal.invariant_of-result
invariant_of-result c = record { reached = ∥∥₁_map c.args.self.now.reached (λ (past, h). (past, c.copy.ensures past h)) }
