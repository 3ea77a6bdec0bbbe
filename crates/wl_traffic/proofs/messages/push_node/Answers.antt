use Rattle.std.proofs.Common.{◌∙◌, ◌++◌, ◌<◌, ◌≤◌, ap, sym, subst, arith, string_bytes, ℕ, List, length}
use Rattle.std.specs.List.{All, enumerate_from, flat_map}
use Rattle.std.proofs.lemmas.List.{take_all}
use Rattle.wl_plan.specs.PlanLine.{setup_at}
use Rattle.wl_report.proofs.Callers.{piece_more}
use Rattle.wl_traffic.specs.declared.entries.Entry.{Entry}
use Rattle.wl_traffic.specs.declared.queues.NodeQueue.{NodeQueue}
use Rattle.wl_traffic.specs.Known.{IsKnown, IsSoon}
use Rattle.wl_traffic.specs.Late.{no_entry}
use Rattle.wl_traffic.specs.Messages.{line_at, lines_of}
use Rattle.wl_traffic.proofs.messages.push_node.Goals as goal

pub push_line_at-requires-clause-last : goal.push_line_at-requires-clause-last
push_line_at-requires-clause-last c = ap (λ (q : NodeQueue). q.last) c.requires.queue

pub push_line_at-requires-clause-known : goal.push_line_at-requires-clause-known
push_line_at-requires-clause-known c =
    subst (All IsKnown) (sym (c.as_slice-entries.ensures ∙ ap (λ (q : NodeQueue). q.entries) c.requires.queue))
    (c.queues_are_known.ensures.each c.args.i c.requires.node).entries

pub push_line_at-requires-clause-soon : goal.push_line_at-requires-clause-soon
push_line_at-requires-clause-soon c =
    subst (All (IsSoon (setup_at c.args.plan.now c.args.i).clock)) (sym (c.as_slice-entries.ensures ∙ ap (λ (q : NodeQueue). q.entries) c.requires.queue))
    (c.queues_are_known.ensures.each c.args.i c.requires.node).soon

pub loop-k-preserved : goal.loop-k-preserved
loop-k-preserved c =
    let entries : List Entry = c.as_slice-entries.result.now in
    let k : ℕ = c.loop-k.k in
    let within : k < length entries = omega (arith, c.loop-k-test.true) in
    c.in_ok-push_line_at.ensures no_entry
    ∙ piece_more (line_at c.args.tick c.args.plan.now c.args.names.now c.args.i entries) (string_bytes c.args.text.now) (string_bytes c.loop-k.text) entries k
    no_entry within c.loop-k.invariant

pub returns : goal.returns
returns c =
    let entries : List Entry = c.as_slice-entries.result.now in
    let k : ℕ = c.loop-k.k in
    let past : length entries ≤ k = omega (arith, c.loop-k-test.false) in
    c.loop-k.invariant
    ∙ ap (λ (xs : List Entry). string_bytes c.args.text.now
    ++ flat_map (line_at c.args.tick c.args.plan.now c.args.names.now c.args.i entries) (enumerate_from 0 xs)) (take_all k entries past)
    ∙ ap (λ (xs : List Entry). string_bytes c.args.text.now ++ lines_of c.args.tick c.args.plan.now c.args.names.now c.args.i xs)
    (c.as_slice-entries.ensures ∙ ap (λ (q : NodeQueue). q.entries) c.requires.queue)
