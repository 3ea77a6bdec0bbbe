use Rattle.std.proofs.Common.{◌∙◌, ◌++◌, string_bytes, ap}
use Rattle.wl_setup.proofs.CheckLemmas.{one_more, all_done}
use Rattle.wl_setup.proofs.check.node_lines.Goals as goal

pub loop-i-preserved : goal.loop-i-preserved
loop-i-preserved c =
    one_more c.args.names.now c.args.nodes.now c.loop-i.i c.index-nodes-i.result (string_bytes c.loop-i.text) (string_bytes c.in_ok-line.line) (string_bytes c.push_str.new.self)
    c.loop-i-test.true c.index-nodes-i.is c.in_ok-line.ensures
    (c.in_ok-push_str.ensures.bytes ∙ ap (λ more. string_bytes c.loop-i.text ++ more) c.as_str.ensures.value) c.loop-i.invariant

pub returns : goal.returns
returns c = all_done c.args.names.now c.args.nodes.now c.loop-i.i (string_bytes c.loop-i.text) c.loop-i-test.false c.loop-i.invariant
