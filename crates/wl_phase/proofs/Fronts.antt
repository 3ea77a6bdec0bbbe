-- A front of bits that have edges has them too.
use Rattle.std.proofs.Common.{◌∙◌, refl, sym, ℕ, zero, suc, ◌+◌, ◌<◌, ◌≤◌, List, ◌++◌, length, arith, length-append}
use Rattle.wl_level.specs.declared.Level.{Level}
use Rattle.wl_level.proofs.Callers.{at_front}
use Rattle.wl_frame.specs.Laws.{IsEdge}
use Rattle.wl_phase.specs.InStep.{HaveEdges}

front_edge : (bits rest : List Level) (k : ℕ) → k < length bits → IsEdge (bits ++ rest) k → IsEdge bits k
front_edge bits rest zero h e = record { was = refl; is = sym (at_front bits rest 0 h) ∙ e.is }
front_edge bits rest (suc k) h e = record { was = sym (at_front bits rest k (omega arith)) ∙ e.was; is = sym (at_front bits rest (suc k) h) ∙ e.is }

pub front_edges : (bits rest : List Level) → HaveEdges (bits ++ rest) → HaveEdges bits
front_edges bits rest h n fits =
    let all = length-append bits rest in
    let e = h n (let g : n + 10 ≤ length (bits ++ rest) = omega arith in g) in
    (e.0, e.1, e.2, front_edge bits rest e.0 (let less = e.2 in omega arith) e.3)
