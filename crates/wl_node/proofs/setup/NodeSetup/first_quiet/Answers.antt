use Rattle.std.proofs.Common.{◌≡◌, ◌∙◌, suc, ◌+◌, ap, sym, refl, arith, min, cond, [], ℕ, Option, None, Some, false, true}
use Rattle.std.proofs.lemmas.Bool.{le-ltb}
use Rattle.wl_segments.specs.Lengths.{least_way}
use Rattle.wl_node.specs.declared.setup.NodeSetup.{NodeSetup}
use Rattle.wl_node.specs.History.{staying_history, no_history}
use Rattle.wl_node.specs.Limits.{most_quiet}
use Rattle.wl_node.specs.Quiet.{floor_by, floor_and_silence, is_waiting, promise_by, quiet_at, quiet_of, quiet_until}
use Rattle.wl_node.proofs.setup.NodeSetup.first_quiet.Goals as goal

-- A node that has run nothing drives recessive, and promises the same whether it may be handed a head or not.
both : (setup : NodeSetup) (longer least : ℕ) → longer ≡ promise_by false setup no_history → least ≡ min longer most_quiet → least ≡ quiet_of setup []
unfolding quiet_of staying_history
both setup longer least e f = by setup.until
  where
    here : least ≡ quiet_at setup no_history
    here = (let g : promise_by (is_waiting setup no_history) setup no_history ≡ promise_by false setup no_history = refl in omega arith)

    by : (until : Option ℕ) → least ≡ quiet_until until setup []
    by None = here
    by (Some n) = here ∙ sym (ap (λ b. cond b most_quiet (quiet_at setup no_history)) (le-ltb n 0 (omega arith)))

pub returns-clause-value : goal.returns-clause-value
unfolding most_quiet
returns-clause-value c =
    let place : c.least_way-place.result ≡ least_way c.args.self.now.segments = c.least_way-place.ensures.way in
    let start : c.least_way-place.result + 1 ≡ suc (least_way c.args.self.now.segments) = omega arith in
    let silence : c.silence-silence.result ≡ 10 = c.silence-silence.ensures [] c.new.ensures in
    let promise : c.longer.result ≡ promise_by false c.args.self.now no_history =
    c.longer.ensures ∙ ap (λ n. floor_and_silence n c.silence-silence.result c.least_way-place.result) start
    ∙ ap (λ n. floor_and_silence (suc (least_way c.args.self.now.segments)) n c.least_way-place.result) silence
    ∙ ap (floor_and_silence (suc (least_way c.args.self.now.segments)) 10) place
    ∙ ap (λ o. floor_and_silence (floor_by o true (least_way c.args.self.now.segments)) 10 (least_way c.args.self.now.segments))
    (sym (c.the_sample_comes_near.ensures.at_first c.args.self.now.segments c.least_way-place.ensures.lengths)) in
    both c.args.self.now c.longer.result c.min.result promise c.min.ensures

pub returns-clause-most : goal.returns-clause-most
unfolding most_quiet
returns-clause-most c = omega (arith, c.min.ensures)
