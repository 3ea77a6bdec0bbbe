use Rattle.std.proofs.Common.{◌≡◌, ◌∙◌, ◌+◌, ◌<◌, ap, sym, arith, ℕ, max}
use Rattle.wl_traffic.specs.declared.load.Load.{Load}
use Rattle.wl_traffic.proofs.Loads.{busy_for, in_bounds, pause_for, with_busy, with_pause}
use Rattle.wl_traffic.proofs.load.load_after.Goals as goal

pub returns-then-is_busy : goal.returns-then-is_busy
returns-then-is_busy c busy n e small h =
    let load : Load = c.args.load in
    let ticks : ℕ = c.args.ticks in
    let bounds = in_bounds load busy n e in
    let some : 0 < ticks = omega (arith, c.if-ticks-eq0.false) in
    let more : c.saturating_add.result ≡ load.busy + ticks = omega (arith, bounds.busy, small, c.saturating_add.ensures) in
    let longer : c.saturating_add-then-is_busy.result ≡ load.full + ticks = omega (arith, bounds.full, small, c.saturating_add-then-is_busy.ensures) in
    (λ i. record { busy = more i; pause = 0; gap = load.gap; full = longer i })
    ∙ ap (λ (l : Load). with_busy l ticks) e
    ∙ sym (busy_for busy n ticks some (λ t low high. h t low high ∙ c.if-is_busy.true))

pub returns : goal.returns
returns c busy n e small h =
    let load : Load = c.args.load in
    let ticks : ℕ = c.args.ticks in
    let bounds = in_bounds load busy n e in
    let some : 0 < ticks = omega (arith, c.if-ticks-eq0.false) in
    let more : c.saturating_add-pause.result ≡ load.pause + ticks = omega (arith, bounds.pause, small, c.saturating_add-pause.ensures) in
    let longest : c.max.result ≡ max load.gap (load.pause + ticks) = c.max.ensures ∙ ap (max load.gap) more in
    (λ i. record { busy = load.busy; pause = more i; gap = longest i; full = 0 })
    ∙ ap (λ (l : Load). with_pause l ticks) e
    ∙ sym (pause_for busy n ticks some (λ t low high. h t low high ∙ c.if-is_busy.false))
