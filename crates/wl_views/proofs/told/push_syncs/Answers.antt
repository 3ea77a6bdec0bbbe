use Rattle.std.proofs.Common.{◌≡◌, ◌∙◌, ◌<◌, ◌≤◌, ◌++◌, [], ◌∷◌, ap, arith, get_or, length, sym, subst, append-nil, List, ℕ}
use Rattle.std.specs.List.{All, filter}
use Rattle.std.proofs.Math.Seq.{get_or-append_seam}
use Rattle.std.proofs.lemmas.List.{length-append}
use Rattle.std.proofs.lemmas.List.Elements.{All-cons, All-nil}
use Rattle.wl_level.specs.declared.Level.{Level}
use Rattle.wl_node.specs.declared.setup.NodeSetup.{NodeSetup}
use Rattle.wl_node.specs.Limits.{most_run_quanta}
use Rattle.wl_plan.specs.declared.plan.Plan.{Plan}
use Rattle.wl_plan.specs.PlanLine.{line_of, setup_at}
use Rattle.wl_plan.specs.Simulation.{history, seen}
use Rattle.wl_trace.specs.declared.event.Noted.{Noted}
use Rattle.wl_views.specs.Picks.{is_picked}
use Rattle.wl_views.specs.Sampling.{synced_by}
use Rattle.wl_views.specs.TraceText.{syncs_at_end, told_by}
use Rattle.wl_views.proofs.Going.{setup_is}
use Rattle.wl_views.proofs.Replaying.{told_on}
use Rattle.wl_views.proofs.Syncless.{no_sync_picked, syncs_are}
use Rattle.wl_views.proofs.told.push_syncs.Goals as goal

last_of : (P : Noted → Type 0) (es : List Noted) (n : Noted) → All P (es ++ n ∷ []) → P n
last_of P es n h = subst P (get_or-append_seam es n [] n) (h (length es) n (let l = length-append es (n ∷ []) in omega (arith, l)))

pub push_told-requires : goal.push_told-requires
push_told-requires c =
    let plan : Plan = c.args.plan.now in
    let i : ℕ = c.args.i in
    let sync : Noted = c.in-Some.sync in
    let saw : List Level = seen (line_of plan) i c.next_sync.new.self.quanta in
    let more = c.next_sync.ensures.more sync c.in-Some.is in
    let all = subst (All (λ (n : Noted). n.quantum < length saw)) more (c.trace_laws.ensures.sync_quanta (setup_at plan i) saw) in
    let below = last_of (λ (n : Noted). n.quantum < length saw) (synced_by plan i c.loop-sync.node) sync all in
    let few = c.next_sync.ensures.few sync c.in-Some.is in
    let long = c.simulation_laws.ensures.length_seen (line_of plan) i c.next_sync.new.self.quanta in
    All-cons (λ (n : Noted). n.quantum ≤ most_run_quanta) sync [] (omega (arith, below, few, long)) (All-nil (λ (n : Noted). n.quantum ≤ most_run_quanta))

pub loop-sync-preserved : goal.loop-sync-preserved
loop-sync-preserved c =
    let plan : Plan = c.args.plan.now in
    let i : ℕ = c.args.i in
    let picked = is_picked c.args.pick.now in
    let old = c.args.told.now.items in
    let there : NodeSetup = setup_at plan i in
    let sync : Noted = c.in-Some.sync in
    let before : List Noted = synced_by plan i c.loop-sync.node in
    let setup : get_or c.as_slice.result.now i c.index-as_slice-i.result ≡ there =
    setup_is plan c.as_slice.result.now i c.index-as_slice-i.result (c.as_slice.ensures ∙ ap (λ (p : Plan). p.nodes) c.deref.ensures.0) c.requires.node
    in
    let told : c.push_told.new.told.items ≡ c.loop-sync.told.items ++ filter picked (told_by there.clock i (sync ∷ [])) =
    c.in_ok-push_told.ensures ∙ ap (λ (s : NodeSetup). c.loop-sync.told.items ++ filter picked (told_by s.clock i (sync ∷ []))) setup
    in
    record {
      is = c.next_sync.ensures.is;
      told = told_on picked there.clock i old c.loop-sync.told.items c.push_told.new.told.items before (sync ∷ []) c.loop-sync.invariant.told told
          ∙ ap (λ (es : List Noted). old ++ filter picked (told_by there.clock i es)) (sym (c.next_sync.ensures.more sync c.in-Some.is));
    }

-- no synchronisation is picked if none is asked for
pub returns-then-not-asks_for_syncs : goal.returns-then-not-asks_for_syncs
returns-then-not-asks_for_syncs c =
    let plan : Plan = c.args.plan.now in
    let i : ℕ = c.args.i in
    let none = sym c.asks_for_syncs.ensures ∙ c.if-not-asks_for_syncs.true in
    sym (append-nil c.args.told.now.items)
    ∙ ap (λ xs. c.args.told.now.items ++ xs)
    (sym (no_sync_picked c.args.pick.now (setup_at plan i).clock i (syncs_at_end plan i) none (syncs_are (setup_at plan i) ((history (line_of plan) plan.end).seen i))))
