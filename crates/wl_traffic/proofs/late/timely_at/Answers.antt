use Rattle.std.proofs.Common.{◌≡◌, ◌∙◌, ◌≤◌, sym, subst, arith, ℕ, true, List, [], ◌∷◌, Option, Some, None}
use Rattle.std.specs.List.{All}
use Rattle.std.proofs.lemmas.Bool.{cond_both, leb-true}
use Rattle.std.proofs.lemmas.List.Elements.{All-cons, All-filter, All-nil}
use Rattle.std.proofs.lemmas.Result.{IfOk-weaker}
use Rattle.wl_node.specs.Limits.{most_run_quanta}
use Rattle.wl_traffic.specs.declared.entries.Entry.{Entry}
use Rattle.wl_traffic.specs.Known.{IsKnown, IsKnownQuantum}
use Rattle.wl_traffic.specs.Late.{in_time}
use Rattle.wl_traffic.specs.Waits.{is_in_time}
use Rattle.wl_traffic.proofs.late.timely_at.Goals as goal

-- what is ready in time is ready at a quantum that a clock knows
abbrev IsReady : Entry → Type 0
IsReady e = e.ready ≤ most_run_quanta

low : (last : Option ℕ) → IsKnownQuantum last → (ready : ℕ) → is_in_time last ready ≡ true → ready ≤ most_run_quanta
low None k ready h = cc
low (Some last) k ready h = let le : ready ≤ last = leb-true ready last h in omega (arith, k)

ready : (last : Option ℕ) → IsKnownQuantum last → (mine : List Entry) → All IsReady (in_time last mine)
ready last k [] = All-nil IsReady
ready last k (e ∷ mine) =
    cond_both (is_in_time last e.ready) _ _ (All IsReady)
    (λ yes. All-cons IsReady e (in_time last mine) (low last k e.ready yes) (ready last k mine))
    (λ no. ready last k mine)

pub returns-clause-ready : goal.returns-clause-ready
returns-clause-ready c =
    IfOk-weaker c.in_time.result _ _ (λ timely is. subst (All IsReady) (sym is) (ready c.args.queue.now.last c.requires.queue.last c.deref.result.now))
    c.in_time.ensures

pub returns-clause-sent : goal.returns-clause-sent
returns-clause-sent c =
    let entries : List Entry = c.as_slice-entries.result.now in
    let all : All IsKnown entries = subst (All IsKnown) (sym c.as_slice-entries.ensures) c.requires.queue.entries in
    let mine : All IsKnown c.deref.result.now =
    subst (All IsKnown) (sym (c.deref.ensures.value ∙ c.in_ok-mine.ensures)) (All-filter _ IsKnown entries all) in
    IfOk-weaker c.in_time.result _ _
    (λ timely is. subst (All IsKnown) (sym is) (All-filter (λ (x : Entry). is_in_time c.args.queue.now.last x.ready) IsKnown c.deref.result.now mine))
    c.in_time.ensures
