-- By the first pause that is long enough.
use Rattle.std.proofs.Common.{◌≡◌, sym, subst, arith}
use Rattle.wl_onward.specs.Silences.{IsPause, settled_at}
use Rattle.wl_calm.specs.Settled.{IsSettled}
use Rattle.wl_calm.proofs.calm.calm_of.Goals as goal

pub returns-in-Some : goal.returns-in-Some
returns-in-Some c =
    let st = subst (IsSettled c.args.plan.now) c.in-At.is c.in_ok-settled.ensures in
    let e : c.in-At.settled ≡ settled_at c.args.plan.now = st.1 in
    let long = c.silence_ticks-long.ensures.value in (
      st.0,
      record {
        settled = (let h = c.in-Some.ensures.later in omega arith);
        pause = subst (λ n. IsPause c.args.plan.now n c.in-Some.from) long c.in-Some.ensures.pause;
      },
      λ t shows. c.in-Some.ensures.first t (let h = shows.settled in omega arith) (subst (λ n. IsPause c.args.plan.now n t) (sym long) shows.pause),
    )

pub returns-in-None : goal.returns-in-None
returns-in-None c =
    let st = subst (IsSettled c.args.plan.now) c.in-At.is c.in_ok-settled.ensures in
    let e : c.in-At.settled ≡ settled_at c.args.plan.now = st.1 in
    let long = c.silence_ticks-long.ensures.value in
    (st.0, λ t shows. c.in-None.ensures.none t (let h = shows.settled in omega arith) (subst (λ n. IsPause c.args.plan.now n t) (sym long) shows.pause))
