use Rattle.std.proofs.Common.{◌≡◌, ◌∙◌, ap, ap₂, sym, ℕ, List, get_or, set, length, ◌<◌, arith, true}
use Rattle.std.proofs.lemmas.List.{get_or_default}
use Rattle.wl_traffic.specs.declared.entries.Entry.{Entry}
use Rattle.wl_traffic.specs.Entries.{entry_with, is_pending}
use Rattle.wl_traffic.proofs.Marking.{found}
use Rattle.wl_traffic.proofs.entries.note.Goals as goal

pub returns-then-is_pending : goal.returns-then-is_pending
returns-then-is_pending c =
    let xs : List Entry = c.args.entries.now.items in
    let k : ℕ = c.loop-k.k in
    let d : Entry = c.index.result.now in
    let e : Entry = c.index-then-is_pending.result.now in
    let same : c.loop-k.entries.items ≡ xs = c.loop-k.invariant.same in
    let within : k < length xs = omega (arith, c.loop-k-test.true, ap length same) in
    let read : d ≡ get_or xs k d = c.index.ensures ∙ ap (λ (es : List Entry). get_or es k d) same in
    let again : e ≡ get_or xs k d = c.index-then-is_pending.ensures ∙ ap (λ (es : List Entry). get_or es k e) same ∙ get_or_default xs k e d within in
    let pending : is_pending c.args.frame.now (get_or xs k d) ≡ true =
    ap (is_pending c.args.frame.now) (sym read) ∙ sym c.is_pending.ensures ∙ c.if-is_pending.true in
    ap₂ (λ (es : List Entry) (x : Entry). set es k x) same (c.entry_with.ensures ∙ ap (entry_with c.args.fate) again)
    ∙ found c.args.fate c.args.frame.now xs k d within pending c.loop-k.invariant.later
