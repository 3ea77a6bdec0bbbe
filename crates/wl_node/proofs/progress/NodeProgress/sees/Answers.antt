use Rattle.wl_node.proofs.Turns.{seen_is}
use Rattle.wl_node.proofs.progress.NodeProgress.sees.Goals as goal

pub returns : goal.returns
returns c setup h p =
    seen_is h c.args.level c.args.self.now.drive c.idle.result c.awaits_start.result c.integrates.result c.is_dominant.result (c.idle.ensures h.inputs p.traffic.machine)
    (c.awaits_start.ensures h.inputs p.traffic.machine) (c.integrates.ensures h.inputs p.traffic.machine) c.is_dominant.ensures p.drive
