use Rattle.std.proofs.Common.{◌∙◌, ◌++◌, Some, take, drop, ap, sym, arith, add-one}
use Rattle.std.proofs.lemmas.List.{length-drop, get_or-drop}
use Rattle.std.proofs.lemmas.Option.{get_or_from_slice_get}
use Rattle.wl_node.proofs.Unsents.{IsTakenAt, taken_at}
use Rattle.wl_node.proofs.unsent.Unsent.send_at.Goals.{then-all-self-via-then-all-self, then-all-self-via-else-all-self+then-all-self-2}
use Rattle.wl_node.proofs.unsent.Unsent.send_at.Goals as goal

pub returns-then-all-self-clause-sent : goal.returns-then-all-self-clause-sent
returns-then-all-self-clause-sent c frame e =
    let at : IsTakenAt frame (drop c.args.self.now.sent c.args.self.now.line.items) c.args.place = taken_at frame (drop c.args.self.now.sent c.args.self.now.line.items) c.args.place e in
    let long = length-drop c.args.self.now.sent c.args.self.now.line.items in
    absurd (elim c.then-all-self.branch [
      | then-all-self-via-then-all-self w ↦ omega (arith, at.inside, long, w.if-all-self, c.len-all.ensures)
      | then-all-self-via-else-all-self+then-all-self-2 w ↦ omega (arith, at.inside, long, w.if-all-self, w.if-all-self-2, c.len-all.ensures)
    ])

pub returns-clause-sent : goal.returns-clause-sent
returns-clause-sent c frame e =
    let line = c.args.self.now.line.items in
    let at : IsTakenAt frame (drop c.args.self.now.sent line) c.args.place = taken_at frame (drop c.args.self.now.sent line) c.args.place e in
    let entry = get_or_from_slice_get (drop c.args.self.now.sent line) c.args.place at.entry c.index.result.now at.there in
    let is = c.index.ensures ∙ (sym (get_or-drop c.args.self.now.sent line c.args.place c.index.result.now) ∙ entry) in (
      ap (λ q. Some q.frame) is ∙ ap Some at.is,
      c.take_out.ensures.left ∙ (ap (λ n. take c.args.place (drop c.args.self.now.sent line) ++ drop n (drop c.args.self.now.sent line)) (add-one c.args.place) ∙ sym at.left),
    )
