-- The text grows by its parts, each by what was found.
use Rattle.std.proofs.Common.{◌≡◌, ◌∙◌, ◌++◌, ap, ap₂, string_bytes, ℕ, List}
use Rattle.wl_plan.specs.declared.plan.Plan.{Plan}
use Rattle.wl_serial.specs.declared.outcome.Counted.{Counted}
use Rattle.wl_serial.specs.declared.outcome.NodeTotals.{NodeTotals}
use Rattle.wl_serial.specs.Outcome.{outcome_of, totals_of}
use Rattle.wl_traffic.specs.declared.found.Found.{Found}
use Rattle.wl_traffic.specs.declared.load.Load.{Load}
use Rattle.wl_traffic.specs.declared.queues.NodeQueue.{NodeQueue}
use Rattle.wl_traffic.specs.declared.reason.Reason.{Reason}
use Rattle.wl_traffic.specs.declared.unequal.Unequal.{Unequal}
use Rattle.wl_traffic.specs.Causes.{cause_lines, found_of}
use Rattle.wl_traffic.specs.Entries.{node_queues}
use Rattle.wl_traffic.specs.Healing.{healed_line}
use Rattle.wl_traffic.specs.Traffic.{bus_line, verdict_words}
use Rattle.wl_traffic.specs.Unequal.{unequal_lines}
use Rattle.wl_traffic.proofs.text.traffic_with.Goals as goal

-- eight parts, one after another
eight : (a b c d e f g h t1 t2 t3 t4 t5 t6 t7 t8 : List ℕ) → t1 ≡ a → t2 ≡ t1 ++ b → t3 ≡ t2 ++ c → t4 ≡ t3 ++ d → t5 ≡ t4 ++ e → t6 ≡ t5 ++ f → t7 ≡ t6 ++ g
    → t8 ≡ t7 ++ h → t8 ≡ a ++ b ++ c ++ d ++ e ++ f ++ g ++ h
eight a b c d e f g h t1 t2 t3 t4 t5 t6 t7 t8 h1 h2 h3 h4 h5 h6 h7 h8 =
    h8
    ∙ ap (λ (x : List ℕ). x ++ h)
    (h7
    ∙ ap (λ (x : List ℕ). x ++ g)
    (h6
    ∙ ap (λ (x : List ℕ). x ++ f)
    (h5
    ∙ ap (λ (x : List ℕ). x ++ e) (h4 ∙ ap (λ (x : List ℕ). x ++ d) (h3 ∙ ap (λ (x : List ℕ). x ++ c) (h2 ∙ ap (λ (x : List ℕ). x ++ b) h1))))))

pub returns-clause-text : goal.returns-clause-text
returns-clause-text c =
    let plan : Plan = c.args.plan.now in
    let names : List (List ℕ) = c.args.names.now in
    let queues : c.as_slice.result.now ≡ node_queues plan = c.as_slice.ensures ∙ c.in_ok-seen.ensures.queues in
    let totals : c.args.counted.now.totals ≡ totals_of (outcome_of plan) = ap (λ (n : Counted). n.totals) c.requires.counted in
    let found : c.in_ok-found.found ≡ found_of plan = c.in_ok-found.ensures plan c.in_ok-seen.ensures.bus queues totals in
    let reason = ap (λ (f : Found). f.reason) found in
    eight _ _ _ _ _ _ _ _ _ _ _ _ _ _ _ _
    (c.in_ok-push_bus.ensures
    ∙ ap (λ (p : Plan). string_bytes c.new-text.result ++ bus_line c.args.tick p.end c.in_ok-found.found.load) c.deref.ensures.0
    ∙ ap₂ (λ (old : List ℕ) (load : Load). old ++ bus_line c.args.tick plan.end load) c.new-text.ensures.bytes (ap (λ (f : Found). f.load) found))
    c.in_ok-push_messages.ensures c.in_ok-push_bounds.ensures
    (c.in_ok-push_unequal.ensures
    ∙ ap (λ (all : List Unequal). string_bytes c.push_bounds.new.text ++ unequal_lines names all) (c.as_slice-3.ensures ∙ ap (λ (f : Found). f.unequal) found))
    (c.in_ok-push_healed.ensures
    ∙ ap₂ (λ (qs : List NodeQueue) (r : Reason). string_bytes c.push_unequal.new.text ++ healed_line c.args.tick plan qs r)
    (c.as_slice-4.ensures ∙ c.in_ok-seen.ensures.queues) reason)
    (c.in_ok-push_str.ensures.bytes ∙ ap (λ (x : List ℕ). string_bytes c.push_healed.new.text ++ x) c.as_str.ensures.value)
    (c.in_ok-push_causes.ensures
    ∙ ap₂ (λ (f : Found) (nodes : List NodeTotals). string_bytes c.push_str.new.self ++ cause_lines c.args.tick names f nodes) found
    (c.as_slice-5.ensures ∙ totals))
    (c.in_ok-push_reason.ensures ∙ ap (λ (r : Reason). string_bytes c.push_causes.new.text ++ verdict_words r) reason)

pub returns-clause-reason : goal.returns-clause-reason
returns-clause-reason c =
    let plan : Plan = c.args.plan.now in
    ap (λ (f : Found). f.reason)
    (c.in_ok-found.ensures plan c.in_ok-seen.ensures.bus (c.as_slice.ensures ∙ c.in_ok-seen.ensures.queues)
    (ap (λ (n : Counted). n.totals) c.requires.counted))
