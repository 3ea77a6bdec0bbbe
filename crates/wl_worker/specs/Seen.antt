-- What a group has of what a pass of a hub has seen. This project's profile; for a reader who knows simulation: each message that has arrived is
-- read before the next event (Chandy and Misra 1979).
use Rattle.std.specs.Prelude.{◌≡◌, ◌≢◌, ℕ, ◌<◌, ◌≤◌, List, false, slice_index}
use Rattle.wl_lattice.specs.declared.FlatWord.TheVariants.{Nothing}
use Rattle.wl_record_core.specs.declared.record.Slot.{Slot}
use Rattle.wl_record_core.specs.declared.record.Slot.TheVariants.{EdgeAt, SilenceAt}
use Rattle.wl_record_core.specs.Limits.{most_nodes}
use Rattle.wl_replica.specs.State.{edge_at, silence_at}
use Rattle.wl_group.specs.GroupValue.{GroupValue, belongs}
use Rattle.wl_hub.specs.declared.hub.Hub.{Hub}
use Rattle.wl_hub.specs.declared.hub.Pass.{Pass}
use Rattle.wl_hub.specs.Words.{HasWord}
use Rattle.wl_hub.specs.Passes.{shape_of, seen}
use Rattle.wl_worker.specs.declared.plan_name.PlanName.{PlanName}

-- the hub has no word for a slot, or the pass has seen nothing of it
abbrev pub IsUnseen : Hub PlanName → Pass PlanName → Slot → Type 0
IsUnseen hub pass slot = HasWord (shape_of hub) slot → seen pass slot ≡ 0

-- of the slots of other nodes a pass has seen what it had
abbrev pub SawOnlyOf : ℕ → Pass PlanName → Pass PlanName → Type 0
SawOnlyOf i before after =
    (j s : ℕ) → j ≢ i → (seen after (EdgeAt j s) ≡ seen before (EdgeAt j s)) × (seen after (SilenceAt j s) ≡ seen before (SilenceAt j s))

-- a group has the first n changes of node i
abbrev pub HasChanges : GroupValue → ℕ → ℕ → Type 0
HasChanges g i n = (s : ℕ) → s < n → edge_at g.replica (i, s) ≢ Nothing

-- It has what the pass has seen of node i: the first n changes, of which the pass has seen no next one, and the silence after them, as far as that.
pub record HasSeenOf (hub : Hub PlanName) (pass : Pass PlanName) (g : GroupValue) (i n : ℕ) : Type 0 where
  pub changes : HasChanges g i n
  pub no_more : IsUnseen hub pass (EdgeAt i n)
  pub silence : HasWord (shape_of hub) (SilenceAt i n) → seen pass (SilenceAt i n) ≤ (silence_at g.replica (i, n)).word

-- A group is handed what a pass has seen of each node that is no member. Of those of which it had as many first changes as had been handed over,
-- none where the link was rewound, it then has all that the pass has seen.
abbrev pub HandsSeen : Hub PlanName → Pass PlanName → List ℕ → List ℕ → GroupValue → GroupValue → Type 0
HandsSeen hub pass handed now_handed before after =
    (i : ℕ) → i < most_nodes → belongs before i ≡ false → HasChanges before i (slice_index handed i)
    → HasSeenOf hub pass after i (slice_index now_handed i)
