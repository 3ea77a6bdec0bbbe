use Rattle.std.proofs.Common.{◌≡◌, ◌∙◌, ◌+◌, ◌-◌, ap, sym, arith, refl, ℕ, Bool, true, false, List}
use Rattle.wl_level.specs.Levels.{is_dominant, level_of}
use Rattle.wl_intervals.specs.Pairs.{covers}
use Rattle.wl_traffic.specs.Bus.{load_below}
use Rattle.wl_traffic.proofs.load.load_below.Goals as goal

dominant : (b : Bool) → b ≡ is_dominant (level_of b)
dominant true = refl
dominant false = refl

pub loop-at-preserved : goal.loop-at-preserved
loop-at-preserved c =
    let busy : List (ℕ × ℕ) = c.args.busy.now in
    let at : ℕ = c.loop-at.at in
    let next : ℕ = c.next_after-next.result in
    let whole : at + (next - at) ≡ next = omega (arith, c.next_after-next.ensures.later) in
    let level : covers busy at ≡ c.is_dominant.result = dominant (covers busy at) ∙ ap is_dominant (sym c.at.ensures.level) ∙ sym c.is_dominant.ensures in
    record {
      load =
          c.load_after-load.ensures (covers busy) at c.loop-at.invariant.load (omega (arith, c.next_after-next.ensures.within))
          (λ t low high. c.next_after-next.ensures.stays t low (omega (arith, whole)) ∙ level)
          ∙ ap (load_below (covers busy)) whole;
      within = c.next_after-next.ensures.within;
    }

pub returns : goal.returns
returns c =
    c.loop-at.invariant.load ∙ ap (load_below (covers c.args.busy.now)) (let e : c.loop-at.at ≡ c.args.end = omega (arith, c.loop-at.invariant.within) in e)
