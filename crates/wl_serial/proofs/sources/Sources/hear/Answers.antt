-- Of the node that is kept apart something else is kept, or all is as it was.
use Rattle.std.proofs.Common.{◌<◌, ap, refl, sym, subst, get_or, length, nat_lt, arith}
use Rattle.wl_record_core.specs.Truth.{IsIncreasing}
use Rattle.wl_topology.specs.Limits.{most_places}
use Rattle.wl_serial.specs.LineAt.{AreSources}
use Rattle.wl_serial.proofs.Kept.{is_node, sources_asked, told_by, until_ahead}
use Rattle.wl_serial.proofs.sources.Sources.hear.Goals as goal
use Rattle.wl_serial.proofs.sources.Sources.hear.Goals.{then-self-i, else-self-i}

pub take-requires-clause-order : goal.take-requires-clause-order
take-requires-clause-order c =
    let s = c.args.self.now in
    let node = is_node (length c.args.plan.now.nodes) s.one c.args.t s c.requires.kept c.requires.ahead.inside c.requires.early c.if-self-i.true in
    subst IsIncreasing (sym c.as_slice.ensures) (c.requires.somewhere.each s.one c.index-running-i.result (omega (arith, node, c.requires.somewhere.all))).1.order

pub returns-clause-sources : goal.returns-clause-sources
returns-clause-sources c =
    let plan = c.args.plan.now in
    let s = c.args.self.now in
    let i = s.one in
    elim c.if-self-i.branch [
      | then-self-i w ↦
          let node : i < length plan.nodes = is_node (length plan.nodes) i c.args.t s c.requires.kept c.requires.ahead.inside c.requires.early w.if-self-i.true in
          rw (w.self-is)
          (sources_asked plan c.args.running.now c.args.j c.args.t i (get_or c.args.delays.now i 0) w.index-running-i.result _ s w.take.new.self c.requires.sources
          w.take.ensures.nexts w.take.ensures.drives (omega (arith, node, c.requires.somewhere.all)) w.as_slice.ensures (c.requires.delays.1 i 0 node) w.take.ensures.drove)
      | else-self-i w ↦ rw (w.self-is) c.requires.sources
    ]

pub returns-clause-told : goal.returns-clause-told
returns-clause-told c =
    let plan = c.args.plan.now in
    let rs = c.args.running.now in
    let s = c.args.self.now in
    let i = s.one in
    let min = c.min-until.ensures in
    elim c.if-self-i.branch [
      | then-self-i w ↦
          let node : i < length plan.nodes = is_node (length plan.nodes) i c.args.t s c.requires.kept c.requires.ahead.inside c.requires.early w.if-self-i.true in
          let here = ap (λ x. get_or x.nexts i 0) w.self-is in
          let far = ap (λ x. x.others) w.self-is in
          let sources : AreSources plan rs c.args.j c.args.t w.take.new.self =
          sources_asked plan rs c.args.j c.args.t i (get_or c.args.delays.now i 0) w.index-running-i.result _ s w.take.new.self c.requires.sources
          w.take.ensures.nexts w.take.ensures.drives (omega (arith, node, c.requires.somewhere.all)) w.as_slice.ensures (c.requires.delays.1 i 0 node) w.take.ensures.drove in
          told_by plan rs c.args.j most_places w.take.new.self _ c.laws.ensures.checked.few_nodes w.take.ensures.kept sources
          (λ k b. until_ahead i c.min-until.result s w.take.new.self c.requires.ahead refl w.take.ensures.others w.take.ensures.nexts (omega (arith, min, here)) (omega (arith, min, far)) k b)
          (ap (λ x. nat_lt 0 x.driving) w.self-is)
      | else-self-i w ↦
          let here = ap (λ x. get_or x.nexts i 0) w.self-is in
          let far = ap (λ x. x.others) w.self-is in
          told_by plan rs c.args.j most_places s _ c.laws.ensures.checked.few_nodes c.requires.kept c.requires.sources
          (λ k b. until_ahead i c.min-until.result s s c.requires.ahead refl refl (λ m other. refl) (omega (arith, min, here)) (omega (arith, min, far)) k b)
          (ap (λ x. nat_lt 0 x.driving) w.self-is)
    ]
