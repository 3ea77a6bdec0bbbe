-- Each group by itself.
use Rattle.std.proofs.Common.{◌≡◌, true, inl, inr, refl, sym, ◌∙◌, ap, subst, length, Some, slice_get, arith}
use Rattle.std.proofs.lemmas.Bool.{cases_eq, false≢true}
use Rattle.std.proofs.lemmas.Option.{slice_get_read, slice_get_within}
use Rattle.wl_group.specs.GroupValue.{GroupValue, has_ended, belongs as has}
use Rattle.wl_world.specs.WorldValue.{WorldValue, IsStaffed}
use Rattle.wl_world.proofs.EndProofs.{ended_by, ended_at}
use Rattle.wl_world.proofs.world.World.at_end.Goals as goal
use Rattle.wl_world.proofs.world.World.at_end.Goals.{After-is_at_end}

-- the group that is looked at
there : (c : After-is_at_end) → slice_get c.deref-group-items.result.now c.loop-group.group-index ≡ Some c.group-item.result
there c = slice_get_read c.deref-group-items.result.now (length c.deref-group-items.result.now) c.loop-group.group-index c.group-item.result refl c.loop-group-test.true c.group-item.is

pub returns-then-not-is_at_end : goal.returns-then-not-is_at_end
returns-then-not-is_at_end c = (
  λ t. absurd (false≢true t),
  λ e.
      let a = (goal.at.returns-then-not-is_at_end c).After-is_at_end in
      let staffed : IsStaffed c.args.self.now = subst IsStaffed c.self.view_is c.self.invariant.staffed in
      let here = ap (λ gs. slice_get gs c.loop-group.group-index) (sym (c.deref-group-items.ensures.value ∙ ap (λ (u : WorldValue). u.groups) c.self.view_is)) ∙ there a in
      c.if-not-is_at_end.ensures.1 (λ i m. ended_at c.args.self.now staffed e c.loop-group.group-index i c.group-item.result here m),
)

pub loop-group-preserved : goal.loop-group-preserved
loop-group-preserved c h i g b e m =
    let a = (goal.at.loop-group-preserved c).After-is_at_end in
    elim (cases_eq h c.loop-group.group-index) [
      | inl same ↦
          let is : c.group-item.result ≡ g = (let p : Some c.group-item.result ≡ Some g = sym (there a) ∙ (ap (slice_get c.deref-group-items.result.now) (sym same) ∙ e) in cc) in
          subst (λ (x : GroupValue). has_ended x i ≡ true) is (c.if-not-is_at_end.ensures.0 refl i (subst (λ (x : GroupValue). has x i ≡ true) (sym is) m))
      | inr other ↦ c.loop-group.invariant h i g (omega arith) e m
    ]

pub returns : goal.returns
returns c = (
  λ t.
      let staffed : IsStaffed c.args.self.now = subst IsStaffed c.self.view_is c.self.invariant.staffed in
      let same = c.deref-group-items.ensures.value ∙ ap (λ (u : WorldValue). u.groups) c.self.view_is in
      ended_by c.args.self.now staffed (λ h i g e m.
      let here : slice_get c.deref-group-items.result.now h ≡ Some g = ap (λ gs. slice_get gs h) same ∙ e in
      let within = slice_get_within c.deref-group-items.result.now h g here in
      c.loop-group.invariant h i g (omega arith) here m),
  λ e. refl,
)
