use Rattle.std.proofs.Common.{subst, sym}
use Rattle.wl_phase.specs.InStep.{HaveEdges}
use Rattle.wl_phase.proofs.Fronts.{front_edges}
use Rattle.wl_phase.proofs.laws.a_listener_samples_each_frame.Goals as goal

pub returns : goal.returns
returns c = λ s j seen found sender listener book near listens x y rest stuffs bits b less.
    c.a_listener_stays_in_step.ensures s j seen found sender listener book near
    (front_edges s.bits rest (subst HaveEdges (sym bits) (λ n fits. c.ten_bits_have_an_edge.ensures.ten x y n stuffs fits))) listens b less
