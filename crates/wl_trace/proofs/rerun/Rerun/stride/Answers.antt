use Rattle.std.proofs.Common.{◌∙◌, ◌≤◌, ◌+◌, ◌-◌, ◌++◌, [], ℕ, replicate, sym, ap, subst, arith}
use Rattle.wl_node.specs.declared.setup.NodeSetup.{NodeSetup}
use Rattle.wl_node.specs.History.{is_after, quanta_before}
use Rattle.wl_trace.specs.StayingRerun.{RunsStaying, sample_if}
use Rattle.wl_trace.specs.Synced.{staying_syncs, syncs_of}
use Rattle.wl_trace.proofs.Leaving.{before_it, fewer_there, left_on, samples_away, samples_there, some_there, there_left}
use Rattle.wl_trace.proofs.rerun.Rerun.stride.Goals as goal

pub returns-then-is_away-clause-run : goal.returns-then-is_away-clause-run
returns-then-is_away-clause-run c levels long is =
    (let setup : NodeSetup = c.args.setup.now in
    let left = left_on setup.until levels c.args.level c.args.most (ap (is_after setup.until) long ∙ sym c.is_away.ensures ∙ c.if-is_away.true) c.requires.some in
    record { stayed = subst (λ ls. RunsStaying setup ls c.args.self.now.staying) (sym left.0.there) is.stayed; left = sym left.1 })

pub returns-then-is_away-clause-samples : goal.returns-then-is_away-clause-samples
returns-then-is_away-clause-samples c levels long is =
    (let setup : NodeSetup = c.args.setup.now in
    let left = left_on setup.until levels c.args.level c.args.most (ap (is_after setup.until) long ∙ sym c.is_away.ensures ∙ c.if-is_away.true) c.requires.some in
    samples_away setup levels (levels ++ replicate c.args.most c.args.level) left.0.there)

pub returns-then-is_away-clause-syncs : goal.returns-then-is_away-clause-syncs
returns-then-is_away-clause-syncs c levels long is =
    (let setup : NodeSetup = c.args.setup.now in
    let left = left_on setup.until levels c.args.level c.args.most (ap (is_after setup.until) long ∙ sym c.is_away.ensures ∙ c.if-is_away.true) c.requires.some in
    ap (staying_syncs setup) left.0.there)

pub stride-requires-clause-some : goal.stride-requires-clause-some
stride-requires-clause-some c =
    (let v = c.quanta_there-there.ensures.value in
    let some = some_there c.args.setup.now.until c.args.quantum c.args.most (sym c.is_away.ensures ∙ c.if-is_away.false) c.requires.some in
    omega (arith, v, some))

pub returns-clause-run : goal.returns-clause-run
returns-clause-run c levels long is =
    (let setup : NodeSetup = c.args.setup.now in
    let n : ℕ = c.stride.result.quanta in
    let few : n ≤ quanta_before setup.until c.args.quantum c.args.most = (let v = c.quanta_there-there.ensures.value in let m = c.stride.ensures.few in omega (arith, v, m)) in
    let at = before_it setup.until levels c.args.level n (subst (λ q. n ≤ quanta_before setup.until q n) (sym long) (fewer_there setup.until c.args.quantum c.args.most n few)) c.stride.ensures.some in
    record {
      stayed = subst (λ ls. RunsStaying setup ls c.stride.new.self) (sym at.1.there)
          ((c.stride.ensures.ran []).run levels long (subst (λ ls. RunsStaying setup ls c.args.self.now.staying) at.0.there is.stayed));
      left = is.left ∙ (there_left setup.until levels at.0 ∙ sym (there_left setup.until (levels ++ replicate n c.args.level) at.1));
    })

pub returns-clause-samples : goal.returns-clause-samples
returns-clause-samples c levels long is =
    (let setup : NodeSetup = c.args.setup.now in
    let n : ℕ = c.stride.result.quanta in
    let few : n ≤ quanta_before setup.until c.args.quantum c.args.most = (let v = c.quanta_there-there.ensures.value in let m = c.stride.ensures.few in omega (arith, v, m)) in
    let at = before_it setup.until levels c.args.level n (subst (λ q. n ≤ quanta_before setup.until q n) (sym long) (fewer_there setup.until c.args.quantum c.args.most n few)) c.stride.ensures.some in
    samples_there setup levels (levels ++ replicate n c.args.level) (sample_if c.stride.result.sampled (c.args.quantum + n - 1) c.args.level) at.0.there at.1.there
    (c.stride.ensures.samples levels long (subst (λ ls. RunsStaying setup ls c.args.self.now.staying) at.0.there is.stayed)))

pub returns-clause-syncs : goal.returns-clause-syncs
returns-clause-syncs c levels long is =
    (let setup : NodeSetup = c.args.setup.now in
    let n : ℕ = c.stride.result.quanta in
    let few : n ≤ quanta_before setup.until c.args.quantum c.args.most = (let v = c.quanta_there-there.ensures.value in let m = c.stride.ensures.few in omega (arith, v, m)) in
    let at = before_it setup.until levels c.args.level n (subst (λ q. n ≤ quanta_before setup.until q n) (sym long) (fewer_there setup.until c.args.quantum c.args.most n few)) c.stride.ensures.some in
    sym ((c.stride.ensures.ran (syncs_of setup levels)).syncs levels long (subst (λ ls. RunsStaying setup ls c.args.self.now.staying) at.0.there is.stayed) (ap (staying_syncs setup) at.0.there)
    ∙ ap (staying_syncs setup) (sym at.1.there)))
