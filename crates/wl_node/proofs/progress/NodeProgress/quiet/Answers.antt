-- A promise, by the quanta up to the next sample and by what the machine is handed.
use Rattle.std.proofs.Common.{◌≡◌, ◌∙◌, List, length, nat_lt, ap, arith}
use Rattle.std.specs.Prelude.{false}
use Rattle.wl_level.specs.declared.Level.{Level}
use Rattle.wl_level.specs.Levels.{same}
use Rattle.wl_segments.specs.Lengths.{least_way}
use Rattle.wl_sync.specs.SampleLaws.{quanta_to_sample as way_at}
use Rattle.wl_machine.specs.Judged.{stretch_of}
use Rattle.wl_machine.specs.Silence.{silence_of}
use Rattle.wl_node.specs.declared.setup.NodeSetup.{NodeSetup}
use Rattle.wl_node.specs.History.{History, staying_history, unsent_of}
use Rattle.wl_node.specs.Kept.{IsProgress, FitsHistory}
use Rattle.wl_node.specs.Limits.{most_quiet}
use Rattle.wl_node.specs.Quiet.{floor_by, floor_at, floor_and_silence, is_waiting, pending_of, promise_by, until_ready}
use Rattle.wl_node.proofs.progress.NodeProgress.quiet.Goals.{After-until_ready-ready_in}
use Rattle.wl_node.proofs.progress.NodeProgress.quiet.Goals as goal

least_is : (c : After-until_ready-ready_in) (levels : List Level) → IsProgress c.args.setup.now c.args.self.now levels → c.floor-least.result ≡ floor_at c.args.setup.now (staying_history c.args.setup.now levels)
least_is c levels old =
    let setup : NodeSetup = c.args.setup.now in
    let h : History = staying_history setup levels in
    let p : FitsHistory setup c.args.self.now h = old.place in
    let way = c.before_sample.ensures setup.segments h.seen p.clock in
    let settled : c.is-settled.result ≡ same h.drive (pending_of h) = c.is-settled.ensures ∙ ap (same c.args.self.now.drive) p.traffic.pending ∙ ap (λ d. same d (pending_of h)) p.drive in
    let place : c.least_way-place.result ≡ least_way setup.segments = c.least_way-place.ensures.way in
    c.floor-least.ensures.value
    ∙ ap (λ o. floor_by o c.is-settled.result c.least_way-place.result) way
    ∙ ap (λ t. floor_by (way_at setup.segments h.seen) t c.least_way-place.result) settled
    ∙ ap (floor_by (way_at setup.segments h.seen) (same h.drive (pending_of h))) place

handed_is : (c : After-until_ready-ready_in) (levels : List Level) → IsProgress c.args.setup.now c.args.self.now levels
    → c.longer-handed.result ≡ promise_by (is_waiting c.args.setup.now (staying_history c.args.setup.now levels)) c.args.setup.now (staying_history c.args.setup.now levels)
handed_is c levels old =
    let setup : NodeSetup = c.args.setup.now in
    let h : History = staying_history setup levels in
    let p : FitsHistory setup c.args.self.now h = old.place in
    let waiting : nat_lt 0 (length c.frames-unsent.result.now) ≡ is_waiting setup h =
    ap (λ u. nat_lt 0 (length u)) (c.frames-unsent.ensures ∙ p.traffic.unsent.left) in
    let silence : c.silence.result ≡ silence_of (is_waiting setup h) (stretch_of h.inputs) = c.silence.ensures h.inputs p.traffic.machine ∙ ap (λ w. silence_of w (stretch_of h.inputs)) waiting in
    c.longer-handed.ensures
    ∙ ap (λ n. floor_and_silence n c.silence.result c.least_way-place.result) (least_is c levels old)
    ∙ ap (λ n. floor_and_silence (floor_at setup h) n c.least_way-place.result) silence
    ∙ ap (floor_and_silence (floor_at setup h) (silence_of (is_waiting setup h) (stretch_of h.inputs))) c.least_way-place.ensures.way

ready_is : (c : After-until_ready-ready_in) (levels : List Level) → IsProgress c.args.setup.now c.args.self.now levels
    → c.until_ready-ready_in.result ≡ until_ready (unsent_of c.args.setup.now (staying_history c.args.setup.now levels)) (length (staying_history c.args.setup.now levels).seen)
ready_is c levels old =
    let setup : NodeSetup = c.args.setup.now in
    let h : History = staying_history setup levels in
    let p : FitsHistory setup c.args.self.now h = old.place in
    c.until_ready-ready_in.ensures
    ∙ ap (λ u. until_ready u c.args.self.now.quanta) (c.frames-unsent.ensures ∙ p.traffic.unsent.left)
    ∙ ap (until_ready (unsent_of setup h)) p.quanta

pub returns-then-ready_in-handed-clause-value : goal.returns-then-ready_in-handed-clause-value
unfolding most_quiet
returns-then-ready_in-handed-clause-value c levels old = (let a = handed_is (goal.at.returns-then-ready_in-handed-clause-value c).After-until_ready-ready_in levels old in let b = ready_is (goal.at.returns-then-ready_in-handed-clause-value c).After-until_ready-ready_in levels old in omega (arith, c.min.ensures, c.if-ready_in-handed.true))

pub returns-then-ready_in-handed-clause-most : goal.returns-then-ready_in-handed-clause-most
unfolding most_quiet
returns-then-ready_in-handed-clause-most c = omega (arith, c.min.ensures)

pub returns-clause-value : goal.returns-clause-value
unfolding most_quiet
returns-clause-value c levels old =
    let setup : NodeSetup = c.args.setup.now in
    let h : History = staying_history setup levels in
    let p : FitsHistory setup c.args.self.now h = old.place in
    let a = handed_is (goal.at.returns-clause-value c).After-until_ready-ready_in levels old in
    let b = ready_is (goal.at.returns-clause-value c).After-until_ready-ready_in levels old in
    let unhanded : c.longer-unhanded.result ≡ promise_by false setup h =
    c.longer-unhanded.ensures
    ∙ ap (λ n. floor_and_silence n c.silence-2.result c.least_way-place.result) (least_is (goal.at.returns-clause-value c).After-until_ready-ready_in levels old)
    ∙ ap (λ n. floor_and_silence (floor_at setup h) n c.least_way-place.result) (c.silence-2.ensures h.inputs p.traffic.machine)
    ∙ ap (floor_and_silence (floor_at setup h) (silence_of false (stretch_of h.inputs))) c.least_way-place.ensures.way in
    omega (arith, c.min-3.ensures, c.max.ensures, c.min-2.ensures)

pub returns-clause-most : goal.returns-clause-most
unfolding most_quiet
returns-clause-most c = omega (arith, c.min-3.ensures)
