-- The spans before the sample end where it is, and the last one goes on.
use Rattle.std.proofs.Common.{◌∙◌, ◌++◌, ◌∷◌, [], ap, ap₂, sym, max, ◌||◌, Bool, ℕ}
use Rattle.wl_clock.specs.Timing.{tick_of}
use Rattle.wl_machine.specs.declared.doing.Doing.{Doing}
use Rattle.wl_traffic.specs.Bus.{is_busy_span, is_off_doing}
use Rattle.wl_traffic.specs.Watching.{finds_up_to}
use Rattle.wl_traffic.specs.States.{doing_after}
use Rattle.wl_traffic.proofs.Watching.{any_more}
use Rattle.wl_traffic.proofs.bus.BusyTicks.take.Goals as goal
use Rattle.wl_traffic.proofs.bus.BusyTicks.take.Goals.{then-self, else-self}

pub returns : goal.returns
returns c setup samples sample has at doing =
    let from : ℕ = tick_of setup.clock sample.0 in
    let here : Bool = is_off_doing (doing_after setup (samples ++ sample ∷ [])) in
    let closed = c.in_ok-close.ensures in
    let before = closed.off ∙ has.off from in
    record {
      order = closed.order;
      ticks = λ end t.
          ap₂ (λ (a b : Bool). a || b) (closed.ticks t ∙ ap (λ (u : ℕ). finds_up_to u c.args.self.now t) at ∙ has.ticks from t)
          (ap₂ (λ (d : Doing) (a : ℕ). is_busy_span t (record { doing = d; from = a; until = max a end })) doing at)
          ∙ sym (any_more setup end samples sample (is_busy_span t));
      off = λ end.
          (elim c.if-self.branch [
            | then-self w ↦ w.self-is ∙ w.if-self.true ∙ ap (λ (b : Bool). b || here) (sym w.if-self.true ∙ before)
            | else-self w ↦
                w.self-is ∙ w.is_off-self.ensures ∙ ap is_off_doing doing ∙ ap (λ (b : Bool). b || here) (sym w.if-self.false ∙ before)
          ])
          ∙ sym (any_more setup end samples sample (λ s. is_off_doing s.doing));
    }
