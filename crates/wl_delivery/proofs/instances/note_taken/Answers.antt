use Rattle.std.proofs.Common.{◌≡◌, ◌∙◌, ◌+◌, ◌≤◌, ◌<◌, ap, ap₂, min, sym, subst, arith, ℕ, List, length, get_or, set, take}
use Rattle.std.proofs.lemmas.List.{get_or_default, take_all}
use Rattle.std.proofs.lemmas.List.Elements.{All-more}
use Rattle.wl_delivery.specs.declared.instances.Instance.{Instance}
use Rattle.wl_delivery.proofs.Finding.{AreEarly, found, none_found}
use Rattle.wl_delivery.proofs.instances.note_taken.Goals as goal

pub returns-then-tick-index-clause-noted : goal.returns-then-tick-index-clause-noted
returns-then-tick-index-clause-noted c =
    let xs : List Instance = c.args.instances.now.items in
    let k : ℕ = c.loop-k.k in
    let d : Instance = c.index.result.now in
    let e : Instance = c.index-then-tick-index.result.now in
    let m : Instance = c.index_mut.result.now in
    let same : c.loop-k.instances.items ≡ xs = c.loop-k.invariant.same in
    let within : k < length xs = omega (arith, c.loop-k-test.true, c.len-k-end.ensures) in
    let read : d ≡ get_or xs k d = c.index.ensures ∙ ap (λ (is : List Instance). get_or is k d) same in
    let again : e ≡ get_or xs k d = c.index-then-tick-index.ensures ∙ ap (λ (is : List Instance). get_or is k e) same ∙ get_or_default xs k e d within in
    let once : m ≡ get_or xs k d = c.index_mut.ensures.value ∙ ap (λ (is : List Instance). get_or is k m) same ∙ get_or_default xs k m d within in
    let late : c.args.tick ≤ (get_or xs k d).sent = subst (λ (i : Instance). c.args.tick ≤ i.sent) read c.if-tick-index.true in
    ap₂ (λ (is : List Instance) (i : Instance). set is k i) same
    (ap₂ (λ (s t : ℕ). record { sent = s; taken = t }) (ap (λ (i : Instance). i.sent) once)
    (c.saturating_add-taken.ensures ∙ ap (λ (i : Instance). min (i.taken + 1) 18446744073709551615) again))
    ∙ found c.args.tick xs k d within c.loop-k.invariant.early late

pub loop-k-preserved : goal.loop-k-preserved
loop-k-preserved c =
    let xs : List Instance = c.args.instances.now.items in
    let k : ℕ = c.loop-k.k in
    let d : Instance = c.index.result.now in
    let within : k < length xs = omega (arith, c.loop-k-test.true, c.len-k-end.ensures) in
    let read : d ≡ get_or xs k d = c.index.ensures ∙ ap (λ (is : List Instance). get_or is k d) c.loop-k.invariant.same in
    record {
      same = c.loop-k.invariant.same;
      early = All-more (λ (i : Instance). i.sent < c.args.tick) xs k d within c.loop-k.invariant.early
          (subst (λ (i : Instance). i.sent < c.args.tick) read c.if-tick-index.false);
    }

pub returns-clause-noted : goal.returns-clause-noted
returns-clause-noted c =
    c.loop-k.invariant.same
    ∙ sym (none_found c.args.tick c.args.instances.now.items c.loop-k.k (omega (arith, c.loop-k-test.false, c.len-k-end.ensures)) c.loop-k.invariant.early)

pub returns-clause-early : goal.returns-clause-early
returns-clause-early c =
    let xs : List Instance = c.args.instances.now.items in
    let long : length xs ≤ c.loop-k.k = omega (arith, c.loop-k-test.false, c.len-k-end.ensures) in
    let all : AreEarly c.args.tick xs = subst (AreEarly c.args.tick) (take_all c.loop-k.k xs long) c.loop-k.invariant.early in
    let whole : take c.len.result c.loop-k.instances.items ≡ xs =
    take_all c.len.result c.loop-k.instances.items (omega (arith, c.len.ensures)) ∙ c.loop-k.invariant.same in
    subst (AreEarly c.args.tick) (sym whole) all
