use Rattle.std.proofs.Common.{◌≡◌, ◌∙◌, ◌+◌, ◌*◌, ℕ, List, ◌++◌, ◌∷◌, [], ap, sym, arith, append-nil, append_assoc}
use Rattle.wl_level.specs.declared.Level.{Level}
use Rattle.wl_node.specs.declared.samples.Run.{Run}
use Rattle.wl_node.specs.Runs.{samples_from}
use Rattle.wl_node.proofs.RunsOfSamples.{from_more, from_none, run_is}
use Rattle.wl_node.proofs.samples.unroll.Goals as goal

pub loop-k-init : goal.loop-k-init
loop-k-init c = sym (ap (λ xs. c.args.list.now.items ++ xs) (from_none c.args.run.from c.args.run.step c.args.run.level) ∙ append-nil c.args.list.now.items)

pub loop-k-preserved : goal.loop-k-preserved
loop-k-preserved c =
    let run : Run = c.args.run in
    let one : ℕ × Level = (run.from + c.loop-k.k * run.step, run.level) in
    c.in_ok-push.ensures.items
    ∙ ap (λ (xs : List (ℕ × Level)). xs ++ one ∷ []) c.loop-k.invariant
    ∙ append_assoc c.args.list.now.items (samples_from run.from run.step run.level c.loop-k.k) (one ∷ [])
    ∙ ap (λ xs. c.args.list.now.items ++ xs) (sym (from_more run.from run.step run.level c.loop-k.k))

pub returns : goal.returns
returns c =
    let run : Run = c.args.run in
    let e : c.loop-k.k ≡ run.count = omega arith in
    c.loop-k.invariant ∙ ap (λ xs. c.args.list.now.items ++ xs) (ap (samples_from run.from run.step run.level) e ∙ sym (run_is run))
