use Rattle.std.proofs.Common.{drop, ℕ, List}
use Rattle.std.specs.List.{AllByRecursion}
use Rattle.wl_replica.specs.Dense.{IsGrown, HasRoomAt}
use Rattle.wl_replica.proofs.dense.make_slots.Given as goal

-- rows that have grown from these, with room for what is left, have room for all
abbrev pub invariant-loop-slot : goal.invariant-loop-slot
invariant-loop-slot l = record {
  edges : IsGrown l.fn.edges.rows.items l.edges.rows.items;
  silences : IsGrown l.fn.silences.rows.items l.silences.rows.items;
  room : (edges silences : List (List ℕ)) → IsGrown l.edges.rows.items edges → IsGrown l.silences.rows.items silences
      → AllByRecursion (HasRoomAt edges silences) (drop l.slot-index l.slots) → AllByRecursion (HasRoomAt edges silences) l.slots;
}
