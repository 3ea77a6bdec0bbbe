use Rattle.std.proofs.Common.{◌≡◌, ◌||◌, ◌∙◌, ap, sym, true, false}
use Rattle.wl_replica.specs.Dense.{says_something}
use Rattle.wl_engines.proofs.NamedNodes.{named_by_rows}
use Rattle.wl_engines.proofs.horizon.is_named.Goals as goal

pub returns-then-edges : goal.returns-then-edges
returns-then-edges c =
    let edges : says_something c.edge_numbers.result.now ≡ true = sym c.says_something-edges.ensures ∙ c.if-edges.true in
    c.if-edges.true ∙ (sym (ap (λ b. b || says_something c.silence_numbers.result.now) edges)
    ∙ named_by_rows c.args.rows.now c.args.node c.edge_numbers.result.now c.silence_numbers.result.now c.requires c.edge_numbers.ensures.records c.silence_numbers.ensures.records)

pub returns-else-edges : goal.returns-else-edges
returns-else-edges c =
    let edges : says_something c.edge_numbers.result.now ≡ false = sym c.says_something-edges.ensures ∙ c.if-edges.false in
    c.says_something-silences.ensures ∙ (sym (ap (λ b. b || says_something c.silence_numbers.result.now) edges)
    ∙ named_by_rows c.args.rows.now c.args.node c.edge_numbers.result.now c.silence_numbers.result.now c.requires c.edge_numbers.ensures.records c.silence_numbers.ensures.records)
