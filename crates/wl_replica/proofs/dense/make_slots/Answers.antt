use Rattle.std.proofs.Common.{◌≡◌, ℕ, List, ◌∷◌, length, drop, get_or, sym, subst, ap, ◌∙◌, ◌+◌, ◌<◌, suc, arith}
use Rattle.std.specs.List.{AllByRecursion}
use Rattle.std.proofs.Math.Seq.{drop-cons}
use Rattle.wl_record_core.specs.declared.record.Slot.TheVariants.{EdgeAt}
use Rattle.wl_replica.specs.Dense.{HasRoomAt}
use Rattle.wl_replica.proofs.DenseShown.{slot_room}
use Rattle.wl_replica.proofs.RowSteps.{grown_more}
use Rattle.wl_replica.proofs.dense.make_slots.Goals as goal

-- one place of a list and those after it
next_one : {X : Type 0} (xs : List X) (i : ℕ) (d : X) → i < length xs → drop i xs ≡ get_or xs i d ∷ drop (i + 1) xs
next_one xs i d lt = drop-cons xs i d lt ∙ ap (λ k. get_or xs i d ∷ drop k xs) (let next : suc i ≡ i + 1 = omega arith in next)

pub loop-slot-preserved : goal.loop-slot-preserved
loop-slot-preserved c =
    let slots = c.args.slots.now in
    let i = c.loop-slot.slot-index in
    let inv = c.loop-slot.invariant in
    let made = c.make_slot.ensures in
    record {
      edges = grown_more c.args.edges.now.rows.items c.loop-slot.edges.rows.items c.make_slot.new.edges.rows.items inv.edges made.edges;
      silences = grown_more c.args.silences.now.rows.items c.loop-slot.silences.rows.items c.make_slot.new.silences.rows.items inv.silences made.silences;
      room = λ edges silences f g rest. inv.room edges silences
          (grown_more c.loop-slot.edges.rows.items c.make_slot.new.edges.rows.items edges made.edges f)
          (grown_more c.loop-slot.silences.rows.items c.make_slot.new.silences.rows.items silences made.silences g)
          (subst (AllByRecursion (HasRoomAt edges silences)) (sym (next_one slots i (EdgeAt 0 0) c.loop-slot-test.true))
          (slot_room c.make_slot.new.edges.rows.items edges c.make_slot.new.silences.rows.items silences f.count g.count f.longer g.longer (get_or slots i (EdgeAt 0 0)) c.in_ok-make_slot.ensures.room, rest));
    }
