-- A recessive drive of a machine at rest stands for as long as it rests, and up to the frame that is ready next.
use Rattle.std.proofs.Common.{◌≡◌, suc, ◌+◌, ◌-◌, ◌*◌, ◌∙◌, List, length, Some, cond, sym, ap, arith}
use Rattle.wl_level.specs.declared.Level.{Level}
use Rattle.wl_level.specs.Levels.{is_dominant}
use Rattle.wl_segments.specs.Lengths.{bit_quanta}
use Rattle.wl_sync.specs.SampleLaws.{recessive_way}
use Rattle.wl_sync.specs.Skips.{quanta_before_sample}
use Rattle.wl_machine.specs.Judged.{stretch_of}
use Rattle.wl_machine.specs.RecessiveStay.{rest_of}
use Rattle.wl_node.specs.declared.setup.NodeSetup.{NodeSetup}
use Rattle.wl_node.specs.History.{History, staying_history, unsent_of}
use Rattle.wl_node.specs.Kept.{IsProgress, FitsHistory}
use Rattle.wl_node.specs.Stays.{until_frame, rest_stay, stay_by, stay_at}
use Rattle.wl_node.proofs.progress.NodeProgress.stays.Goals.{After-max}
use Rattle.wl_node.proofs.progress.NodeProgress.stays.Goals as goal

stay_is : (c : After-max) (levels : List Level) → IsProgress c.args.setup.now c.args.self.now levels → c.max.result ≡ stay_at c.args.setup.now (staying_history c.args.setup.now levels)
stay_is c levels old =
    let setup : NodeSetup = c.args.setup.now in
    let h : History = staying_history setup levels in
    let p : FitsHistory setup c.args.self.now h = old.place in
    let first : suc c.free_quanta.result ≡ recessive_way setup.segments h.seen = ap suc c.free_quanta.ensures ∙ ap (λ r. suc (quanta_before_sample r)) p.clock in
    let bits : c.in-Some.rest * c.bit_quanta.result ≡ c.in-Some.rest * bit_quanta setup.segments = ap (λ n. c.in-Some.rest * n) c.bit_quanta.ensures.quanta in
    let behind : c.ps2-behind.result ≡ setup.segments.ps2 = c.ps2-behind.ensures.ps2 in
    let samples : suc c.free_quanta.result + c.in-Some.rest * c.bit_quanta.result + (c.ps2-behind.result - 1) ≡ rest_stay (Some c.in-Some.rest) setup h = omega (arith, first, bits, behind) in
    let frame : c.until_frame.result ≡ until_frame (unsent_of setup h) (length h.seen) =
    c.until_frame.ensures
    ∙ ap (λ u. until_frame u c.args.self.now.quanta) (c.frames.ensures ∙ p.traffic.unsent.left)
    ∙ ap (until_frame (unsent_of setup h)) p.quanta in
    let recessive : is_dominant h.drive ≡ is_dominant c.args.self.now.drive = ap is_dominant (sym p.drive) in
    let rest : rest_of (stretch_of h.inputs) ≡ Some c.in-Some.rest = sym (c.rest.ensures.value h.inputs p.traffic.machine) ∙ c.in-Some.is in
    let by : c.max.result ≡ stay_by (Some c.in-Some.rest) setup h = omega (arith, c.max.ensures, samples, frame) in
    by ∙ sym (ap (λ b. cond b 0 (stay_by (rest_of (stretch_of h.inputs)) setup h)) (recessive ∙ (sym c.is_dominant.ensures ∙ c.if-is_dominant.false))
    ∙ ap (λ o. stay_by o setup h) rest)

pub returns-clause-stands : goal.returns-clause-stands
returns-clause-stands c m less levels old =
    c.staying_laws.ensures.stays c.args.setup.now levels m (let e = stay_is (goal.at.returns-clause-stands c).After-max levels old in omega arith)
