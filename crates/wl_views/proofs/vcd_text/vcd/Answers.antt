-- The front and what comes from tick 1 on are the dump.
use Rattle.std.proofs.Common.{◌≡◌, ◌∙◌, ◌+◌, ◌-◌, ◌++◌, List, ℕ, ap, sym, subst, append_assoc, Err}
use Rattle.std.specs.List.{flat_map, range_with_len}
use Rattle.wl_device.specs.Devices.{BrokeOff, WentOut}
use Rattle.wl_plan.specs.declared.plan.Plan.{Plan}
use Rattle.wl_views.specs.declared.tick.Tick.{Tick}
use Rattle.wl_views.specs.declared.window.Span.{Span}
use Rattle.wl_views.specs.declared.window.Window.{Window}
use Rattle.wl_views.specs.Probe.{AllWatched}
use Rattle.wl_views.specs.Signals.{signals}
use Rattle.wl_views.specs.Streams.{Streams}
use Rattle.wl_views.specs.Vcd.{dump_lines, first_lines, header, tick_lines, time_line, vcd_text}
use Rattle.wl_views.specs.Windows.{span_of}
use Rattle.wl_views.proofs.vcd_text.vcd.Goals as goal

-- all but the front
abbrev rest_of : Tick → Plan → Span → List ℕ
rest_of tick plan span = flat_map (tick_lines tick (signals plan)) (range_with_len (span.from + 1) (span.to - (span.from + 1))) ++ time_line tick span.to

whole : (tick : Tick) (window : Window) (plan : Plan) (names : List (List ℕ)) (span : Span) (front : List ℕ) → span ≡ span_of window plan.end
    → front ≡ header tick names ++ first_lines tick span.from (signals plan span.from) → front ++ rest_of tick plan span ≡ vcd_text tick window plan names
whole tick window plan names span front spans is =
    let top : List ℕ = header tick names in
    let first : List ℕ = first_lines tick span.from (signals plan span.from) in
    let lines : List ℕ = flat_map (tick_lines tick (signals plan)) (range_with_len (span.from + 1) (span.to - (span.from + 1))) in
    let last : List ℕ = time_line tick span.to in
    ap (λ ys. ys ++ (lines ++ last)) is ∙ append_assoc top first (lines ++ last) ∙ ap (λ ys. top ++ ys) (sym (append_assoc first lines last))
    ∙ ap (λ (s : Span). header tick names ++ dump_lines tick (signals plan) s) spans

pub returns-in-Ok : goal.returns-in-Ok
returns-in-Ok g c =
    let span = c.span-span.result in
    let ends : c.deref.result.now.end ≡ c.args.plan.now.end = ap (λ (p : Plan). p.end) c.deref.ensures.0 in
    let spans : span ≡ span_of c.args.window c.args.plan.now.end = c.span-span.ensures ∙ ap (λ (n : ℕ). span_of c.args.window n) ends in
    let front : c.as_bytes.result.now ≡ header c.args.tick c.args.names.now ++ first_lines c.args.tick span.from (signals c.args.plan.now span.from) =
    c.as_bytes.ensures.value ∙ c.in_ok-front.ensures
    ∙ ap (λ now. header c.args.tick c.args.names.now ++ first_lines c.args.tick span.from now) (c.deref-3.ensures.value ∙ c.in_ok-now.ensures span.from (subst (AllWatched c.args.plan.now span.from) (sym c.deref-2.ensures.value) c.in_ok-probes.ensures))
    in
    let wrote = c.in-Ok.ensures in (
      wrote.0,
      subst (λ ys. WentOut g.W.Sink.takes c.args.writer.now ys c.write_from-written.new.writer wrote.0)
          (whole c.args.tick c.args.window c.args.plan.now c.args.names.now span c.as_bytes.result.now spans front) wrote.1,
      wrote.2,
    )

pub returns : goal.returns
returns g c =
    let span = c.span-span.result in
    let ends : c.deref.result.now.end ≡ c.args.plan.now.end = ap (λ (p : Plan). p.end) c.deref.ensures.0 in
    let spans : span ≡ span_of c.args.window c.args.plan.now.end = c.span-span.ensures ∙ ap (λ (n : ℕ). span_of c.args.window n) ends in
    let front : c.as_bytes.result.now ≡ header c.args.tick c.args.names.now ++ first_lines c.args.tick span.from (signals c.args.plan.now span.from) =
    c.as_bytes.ensures.value ∙ c.in_ok-front.ensures
    ∙ ap (λ now. header c.args.tick c.args.names.now ++ first_lines c.args.tick span.from now) (c.deref-3.ensures.value ∙ c.in_ok-now.ensures span.from (subst (AllWatched c.args.plan.now span.from) (sym c.deref-2.ensures.value) c.in_ok-probes.ensures))
    in
    let takes = g.W.Sink.takes in
    let wrote = c.in-Err.ensures in
    subst (λ fault. Streams takes c.args.writer.now (vcd_text c.args.tick c.args.window c.args.plan.now c.args.names.now) c.write_from-written.new.writer (Err fault)) (sym c.from.ensures) (
      c.in-Err.fault,
      (
        wrote.0,
        subst (λ ys. BrokeOff takes c.args.writer.now ys 0 c.write_from-written.new.writer wrote.0)
            (whole c.args.tick c.args.window c.args.plan.now c.args.names.now span c.as_bytes.result.now spans front) wrote.1,
      ),
    )
