use Rattle.std.proofs.Common.{rules, ◌∙◌, ap, sym, add-one, append_assoc, take, List, ℕ, ◌++◌, ◌∷◌, []}
use Rattle.std.specs.Mem.Slots.{slots_items}
use Rattle.wl_hub.proofs.Kept.{take_at}
use Rattle.wl_hub.proofs.board.copied.Goals as goal

pub loop-i-preserved : goal.loop-i-preserved
loop-i-preserved c =
    let before = c.args.words.items in
    let row = slots_items c.args.closed.now.words in record {
      same = rw add-one (c.push_reserved.ensures.items ∙ ap (λ (l : List ℕ). l ++ c.word.result ∷ []) c.loop-i.invariant.same ∙ append_assoc before (take c.loop-i.i row) (c.word.result ∷ [])
          ∙ ap (λ (l : List ℕ). before ++ l) (sym (take_at row c.loop-i.i c.word.result c.word.ensures)));
      room = search rules;
      more = search rules;
    }
