use Rattle.std.proofs.Common.{arith}
use Rattle.wl_plan.specs.PlanLine.{setup_at}
use Rattle.wl_proved.proofs.Alone as alone
use Rattle.wl_proved.proofs.Any as any
use Rattle.wl_proved.proofs.Ends.{ends_clean}
use Rattle.wl_proved.proofs.Paced as paced
use Rattle.wl_proved.proofs.Queues.{of_each, stuffed_of, stuffs_of}
use Rattle.wl_frame.specs.Grammar.{IsContent}
use Rattle.wl_buses.specs.OneSender.Clean.{bus_with}
use Rattle.wl_buses.specs.OneSender.Through.{AreFrames}
use Rattle.wl_proved.specs.LateEnds.{most_stuffed_bits}
use Rattle.wl_proved.proofs.laws.plans_of_a_family_run_clean.Goals as goal

pub returns-clause-any : goal.returns-clause-any
returns-clause-any c = λ f plan of sound room.
    (let steady = c.a_covered_plan_is_one_of_these.ensures.steady plan (paced.clocks f plan of) of.covered of.runs.checked (paced.rates f plan of) (paced.book f plan of) in
    let all = c.any_senders_are_clean.ensures.covered f plan (paced.clocks f plan of) steady (paced.of_family f plan of) of.runs.frames of.senders (paced.for_any_senders f plan of sound) of.covered
    room in
    ends_clean c.simulation_laws.ensures c.clean_is_clean.ensures plan (c.checked_is_sound.ensures plan of.runs.checked).causal (any.bus_frames plan _ all) (any.clean_at plan _ all)
    (any.in_order plan _ all))

pub returns-clause-one : goal.returns-clause-one
returns-clause-one c = λ f plan sender of lone sound.
    (let steady = c.a_covered_plan_is_one_of_these.ensures.steady plan (paced.clocks f plan of) of.covered of.runs.checked (paced.rates f plan of) (paced.book f plan of) in
    let node = paced.node f plan of sender lone in
    let waiting = paced.waiting f plan of sender lone in
    let one = c.a_covered_plan_is_one_of_these.ensures.sender plan sender waiting.0 waiting.1 of.covered node waiting.2 (λ j inside other. lone j other) in
    let members = of.members in
    let bus = c.a_covered_plan_is_one_of_these.ensures.sound f sender sound (omega arith) (of.senders sender node (paced.has f plan of sender lone)) in
    let contents = of.runs.frames sender node in
    let frames : AreFrames (bus_with plan (paced.clocks f plan of) sender one stuffed_of) stuffed_of (λ n. most_stuffed_bits) = record {
      content = λ place frame is. of_each IsContent (setup_at plan sender).queue contents place frame is;
      stuffs = λ place frame is. stuffs_of frame;
      short = λ n frame may.
          c.no_frame_has_more_bits.ensures frame (stuffed_of frame) (of_each IsContent (setup_at plan sender).queue contents may.some.0 frame may.some.1) (stuffs_of frame);
    } in
    let through = c.one_sender_is_clean.ensures f plan (paced.clocks f plan of) sender one stuffed_of (λ n. most_stuffed_bits) steady (paced.of_family f plan of) frames bus in
    ends_clean c.simulation_laws.ensures c.clean_is_clean.ensures plan (c.checked_is_sound.ensures plan of.runs.checked).causal
    (alone.bus_frames plan (paced.clocks f plan of) steady.stays sender one lone stuffed_of (λ n. most_stuffed_bits) through)
    (alone.clean_at plan (paced.clocks f plan of) steady.stays sender one lone stuffed_of (λ n. most_stuffed_bits) through)
    (alone.in_order plan (paced.clocks f plan of) steady.stays sender one lone stuffed_of (λ n. most_stuffed_bits) through))
