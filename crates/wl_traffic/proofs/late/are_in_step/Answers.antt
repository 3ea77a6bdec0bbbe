use Rattle.std.proofs.Common.{◌∙◌, ◌&&◌, ap, sym, ℕ, Bool, List}
use Rattle.wl_traffic.specs.declared.entries.Entry.{Entry}
use Rattle.wl_traffic.specs.Late.{is_in_step}
use Rattle.wl_traffic.proofs.Growing.{all_below_more}
use Rattle.wl_traffic.proofs.late.are_in_step.Goals as goal
use Rattle.wl_traffic.proofs.late.are_in_step.Goals.{then-all, else-all}

pub loop-k-preserved : goal.loop-k-preserved
loop-k-preserved c =
    let timely : List Entry = c.args.timely.now in
    let k : ℕ = c.loop-k.k in
    let here : Bool = is_in_step timely k in
    elim c.if-all.branch [
      | then-all w ↦
          w.all-is ∙ w.is_in_step-all.ensures ∙ ap (λ (b : Bool). b && here) (sym w.if-all.true ∙ c.loop-k.invariant) ∙ sym (all_below_more (is_in_step timely) k)
      | else-all w ↦
          w.all-is ∙ w.if-all.false ∙ ap (λ (b : Bool). b && here) (sym w.if-all.false ∙ c.loop-k.invariant)
          ∙ sym (all_below_more (is_in_step timely) k)
    ]
