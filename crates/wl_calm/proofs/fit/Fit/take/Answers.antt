-- One sample more.
use Rattle.std.proofs.Common.{◌≡◌, ◌∙◌, sym, ap, subst, ℕ, Bool, ◌&&◌, [], ◌∷◌, ◌++◌, Some}
use Rattle.std.proofs.lemmas.List.Sums.{fold-append}
use Rattle.wl_level.specs.declared.Level.{Level}
use Rattle.wl_clock.specs.Timing.{tick_of}
use Rattle.wl_confine.specs.Counts.{counts_of, mode_of}
use Rattle.wl_machine.specs.Doing.{doing_of}
use Rattle.wl_machine.specs.Judged.{stretch_of}
use Rattle.wl_node.specs.declared.setup.NodeSetup.{NodeSetup}
use Rattle.wl_trace.specs.Replay.{IsWatchedNode, SampledPast, no_past, past_after}
use Rattle.wl_onward.specs.Fits.{fit_by, fit_with, is_active, is_fit, is_on, since_with}
use Rattle.wl_calm.specs.Modes.{active_after}
use Rattle.wl_calm.proofs.Modes.{active_next}
use Rattle.wl_calm.proofs.fit.Fit.take.Goals as goal
use Rattle.wl_calm.proofs.fit.Fit.take.Goals.{then-self, else-self}

pub returns : goal.returns
returns c samples is =
    let setup : NodeSetup = c.args.setup.now in
    let s : ℕ × Level = c.args.sample in
    let p : SampledPast = (fit_by setup samples).0 in
    let P : SampledPast = past_after setup p s in
    let next : fit_by setup (samples ++ s ∷ []) ≡ fit_with setup (fit_by setup samples) s = fold-append (fit_with setup) (no_past, Some (tick_of setup.clock 0)) samples (s ∷ []) in
    let past : IsWatchedNode setup c.take.new.self P = c.in_ok-events.ensures.past p is.node in
    let active : c.active_after-self.result ≡ is_active (mode_of (counts_of P.happened)) =
    c.active_after-self.ensures ∙ ap (λ a. active_after a c.deref.result.now) is.active
    ∙ ap (active_after (is_active (mode_of (counts_of p.happened)))) (c.deref.ensures.value ∙ c.in_ok-events.ensures.events p is.node)
    ∙ active_next setup p s.0 s.1 in
    let on : Bool = is_on (doing_of (stretch_of P.inputs)) in
    let fit : c.if-self.fit ≡ is_fit P = elim c.if-self.branch [
      | then-self w ↦
          w.fit-is ∙ w.is_on-fit.ensures ∙ ap is_on (w.doing.ensures setup P past) ∙ sym (ap (λ b. b && on) (sym active ∙ w.if-self.true))
      | else-self w ↦ w.fit-is ∙ w.if-self.false ∙ sym (ap (λ b. b && on) (sym active ∙ w.if-self.false))
    ] in
    let since : c.since_with-self.result ≡ (fit_by setup (samples ++ s ∷ [])).1 =
    c.since_with-self.ensures ∙ ap (λ b. since_with b c.args.self.now.since c.at.result) fit ∙ ap (λ o. since_with (is_fit P) o c.at.result) is.since
    ∙ ap (since_with (is_fit P) (fit_by setup samples).1) c.at.ensures.tick ∙ sym (ap (λ r. r.1) next) in
    record {
      node = subst (λ r. IsWatchedNode setup c.take.new.self r.0) (sym next) past;
      active = active ∙ sym (ap (λ r. is_active (mode_of (counts_of r.0.happened))) next);
      since = since;
    }
