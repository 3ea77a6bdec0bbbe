use Rattle.wl_plan.specs.PlanLine.{line_of}
use Rattle.wl_plan.specs.Simulation.{level}
use Rattle.wl_onward.proofs.Lines as lines
use Rattle.wl_onward.proofs.laws.plans_are_one_up_to_a_tick.Goals as goal

pub returns-clause-levels : goal.returns-clause-levels
returns-clause-levels c = λ plan other until i t checked can_run is less early.
    (let causal = (c.checked_is_sound.ensures plan checked).causal in
    let goes = (c.checked_is_sound.ensures other can_run).causal in
    let expected = lines.expected c.simulation_laws.ensures plan other until is causal goes in
    lines.level_is c.simulation_laws.ensures plan other until is causal goes (c.what_is_expected_is_driven.ensures.driven (line_of other) (λ i. until) (level (line_of plan)) goes expected)
    (c.what_is_expected_is_driven.ensures.seen (line_of other) (λ i. until) (level (line_of plan)) goes expected) i t less early)

pub returns-clause-nodes : goal.returns-clause-nodes
returns-clause-nodes c = λ plan other until i k checked can_run is less early.
    (let causal = (c.checked_is_sound.ensures plan checked).causal in
    let goes = (c.checked_is_sound.ensures other can_run).causal in
    let expected = lines.expected c.simulation_laws.ensures plan other until is causal goes in
    lines.nodes_are c.simulation_laws.ensures plan other until is causal goes (c.what_is_expected_is_driven.ensures.driven (line_of other) (λ i. until) (level (line_of plan)) goes expected)
    (c.what_is_expected_is_driven.ensures.seen (line_of other) (λ i. until) (level (line_of plan)) goes expected) i k less early)

pub returns-clause-silence : goal.returns-clause-silence
returns-clause-silence c = λ plan other from until first checked can_run is silent.
    (let causal = (c.checked_is_sound.ensures plan checked).causal in
    let goes = (c.checked_is_sound.ensures other can_run).causal in
    let expected = lines.expected c.simulation_laws.ensures plan other until is causal goes in
    lines.silence_is c.simulation_laws.ensures plan other until is causal goes (c.what_is_expected_is_driven.ensures.driven (line_of other) (λ i. until) (level (line_of plan)) goes expected)
    (c.what_is_expected_is_driven.ensures.seen (line_of other) (λ i. until) (level (line_of plan)) goes expected) from first silent)
