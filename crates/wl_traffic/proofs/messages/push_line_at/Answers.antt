use Rattle.std.proofs.Common.{◌≡◌, ◌∙◌, ◌++◌, ap, sym, subst, append-nil, string_bytes, ℕ, true, false, List, get_or, take}
use Rattle.std.specs.List.{All, list_any}
use Rattle.std.proofs.lemmas.List.{get_or_default}
use Rattle.std.proofs.lemmas.List.Elements.{All-filter}
use Rattle.std.proofs.lemmas.Result.{on_ok_weaker}
use Rattle.wl_clock.specs.Timing.{Timing}
use Rattle.wl_plan.specs.PlanLine.{setup_at}
use Rattle.wl_traffic.specs.declared.entries.Entry.{Entry}
use Rattle.wl_traffic.specs.Known.{IsKnown, IsSoon}
use Rattle.wl_traffic.specs.Messages.{has_id_of, line_at, message_line, with_id_of}
use Rattle.wl_traffic.proofs.Lines.{line_first, line_later}
use Rattle.wl_traffic.proofs.messages.push_line_at.Goals as goal

pub returns-then-is_among : goal.returns-then-is_among
returns-then-is_among c d =
    let entries : List Entry = c.args.entries.now in
    let k : ℕ = c.args.k in
    let e : Entry = c.index-entries-k.result in
    let later : list_any (has_id_of (get_or entries k d).frame) (take k entries) ≡ true =
    ap (λ (x : Entry). list_any (has_id_of x.frame) (take k entries)) (get_or_default entries k d e c.requires.entry)
    ∙ sym c.is_among.ensures ∙ c.if-is_among.true in
    sym (ap (λ ys. string_bytes c.args.text.now ++ ys) (line_later c.args.tick c.args.plan.now c.args.names.now c.args.i entries k (get_or entries k d) later)
    ∙ append-nil (string_bytes c.args.text.now))

pub push_message-requires-clause-known : goal.push_message-requires-clause-known
push_message-requires-clause-known c =
    let entries : List Entry = c.args.entries.now in
    let e : Entry = get_or entries c.args.k c.index-entries-k.result in
    subst (All IsKnown) (sym (c.deref.ensures.value ∙ c.in_ok-mine.ensures)) (All-filter (has_id_of e.frame) IsKnown entries c.requires.known)

pub push_message-requires-clause-soon : goal.push_message-requires-clause-soon
push_message-requires-clause-soon c =
    let entries : List Entry = c.args.entries.now in
    let e : Entry = get_or entries c.args.k c.index-entries-k.result in
    let clock : Timing = (setup_at c.args.plan.now c.args.i).clock in
    subst (All (IsSoon clock)) (sym (c.deref.ensures.value ∙ c.in_ok-mine.ensures)) (All-filter (has_id_of e.frame) (IsSoon clock) entries c.requires.soon)

pub returns : goal.returns
returns c d =
    let entries : List Entry = c.args.entries.now in
    let k : ℕ = c.args.k in
    let e : Entry = c.index-entries-k.result in
    let here : Entry = get_or entries k e in
    let first : list_any (has_id_of (get_or entries k d).frame) (take k entries) ≡ false =
    ap (λ (x : Entry). list_any (has_id_of x.frame) (take k entries)) (get_or_default entries k d e c.requires.entry)
    ∙ sym c.is_among.ensures ∙ c.if-is_among.false in
    let line : message_line c.args.tick c.args.plan.now c.args.names.now c.args.i here.frame c.deref.result.now
    ≡ line_at c.args.tick c.args.plan.now c.args.names.now c.args.i entries (k, get_or entries k d) =
    ap (message_line c.args.tick c.args.plan.now c.args.names.now c.args.i here.frame) (c.deref.ensures.value ∙ c.in_ok-mine.ensures)
    ∙ ap (λ (x : Entry). message_line c.args.tick c.args.plan.now c.args.names.now c.args.i x.frame (with_id_of x.frame entries))
    (get_or_default entries k e d c.requires.entry)
    ∙ sym (line_first c.args.tick c.args.plan.now c.args.names.now c.args.i entries k (get_or entries k d) first) in
    on_ok_weaker c.push_message.result (λ grows. grows ∙ ap (λ ys. string_bytes c.args.text.now ++ ys) line) c.push_message.ensures
