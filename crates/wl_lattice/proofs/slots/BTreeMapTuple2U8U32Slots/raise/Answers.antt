use Rattle.std.proofs.Common.{rules, ap, ◌∙◌}
use Rattle.std.specs.Prelude.{unwrap_or}
use Rattle.std.specs.BTreeMap.{get}
use Rattle.wl_lattice.proofs.MapSlots.{map_raised, pair_cmp}
use Rattle.wl_lattice.proofs.slots.BTreeMapTuple2U8U32Slots.raise.Goals as goal

pub returns-clause-ok : goal.returns-clause-ok
returns-clause-ok g c =
    let e = c.join.ensures ∙ ap (λ x. g.W.Join.joined x c.args.word.now) (c.or_insert.ensures.value ∙ (λ i. unwrap_or (c.in_ok-self.ensures.value i) (c.bottom.ensures i))) in
    let is = c.self-3-1.given.1 (search rules) in
    map_raised g.W.Join.least g.W.Join.joined c.args.self.now c.self-3-1.given.0 c.args.key c.args.word.now c.join.new.self
    (λ p. ap (λ m. get pair_cmp m p) is ∙ (c.in_ok-self.ensures.update.0 c.join.new.self).0 p) e
