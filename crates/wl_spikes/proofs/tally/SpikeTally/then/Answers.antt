use Rattle.std.proofs.Common.{◌∙◌, ◌+◌, ap, max}
use Rattle.wl_sweep.specs.Family.{capped}
use Rattle.wl_spikes.specs.declared.aftermath.Class.TheVariants.{Clean, Healed, Late, Unhealed, Twice, Missed, Off, Refused}
use Rattle.wl_spikes.specs.declared.tally.SpikeTally.{SpikeTally}
use Rattle.wl_spikes.proofs.Joined.{tally-joined}
use Rattle.wl_spikes.proofs.tally.SpikeTally.then.Goals as goal

pub returns : goal.returns
returns c xs ys one other small =
    let runs = ap (λ (t : SpikeTally). t.runs) one in
    tally-joined xs ys _
    (c.saturating_add.ensures ∙ (λ i. capped ((one i).runs + (other i).runs)))
    (c.saturating_add-2.ensures ∙ (λ i. capped ((one i).sound + (other i).sound)))
    (c.then.ensures Clean xs ys (ap (λ (t : SpikeTally). t.clean) one) (ap (λ (t : SpikeTally). t.clean) other) runs small)
    (c.then-2.ensures Healed xs ys (ap (λ (t : SpikeTally). t.healed) one) (ap (λ (t : SpikeTally). t.healed) other) runs small)
    (c.then-3.ensures Late xs ys (ap (λ (t : SpikeTally). t.late) one) (ap (λ (t : SpikeTally). t.late) other) runs small)
    (c.then-4.ensures Unhealed xs ys (ap (λ (t : SpikeTally). t.unhealed) one) (ap (λ (t : SpikeTally). t.unhealed) other) runs small)
    (c.then-5.ensures Twice xs ys (ap (λ (t : SpikeTally). t.twice) one) (ap (λ (t : SpikeTally). t.twice) other) runs small)
    (c.then-6.ensures Missed xs ys (ap (λ (t : SpikeTally). t.missed) one) (ap (λ (t : SpikeTally). t.missed) other) runs small)
    (c.then-7.ensures Off xs ys (ap (λ (t : SpikeTally). t.off) one) (ap (λ (t : SpikeTally). t.off) other) runs small)
    (c.then-8.ensures Refused xs ys (ap (λ (t : SpikeTally). t.refused) one) (ap (λ (t : SpikeTally). t.refused) other) runs small)
    (c.max.ensures ∙ (λ i. max (one i).longest (other i).longest))
    (c.max-2.ensures ∙ (λ i. max (one i).tec (other i).tec))
    (c.max-3.ensures ∙ (λ i. max (one i).rec (other i).rec))
    small
