-- The line of a message is there if its frame is the first with its identifier.
use Rattle.std.proofs.Common.{◌≡◌, ap, ℕ, Bool, true, false, cond, List, [], take}
use Rattle.std.specs.List.{list_any}
use Rattle.wl_plan.specs.declared.plan.Plan.{Plan}
use Rattle.wl_views.specs.declared.tick.Tick.{Tick}
use Rattle.wl_traffic.specs.declared.entries.Entry.{Entry}
use Rattle.wl_traffic.specs.Messages.{has_id_of, line_at, message_line, with_id_of}

module _ (tick : Tick) (plan : Plan) (names : List (List ℕ)) (i : ℕ) (entries : List Entry) (k : ℕ) (e : Entry) where
  pub line_later : list_any (has_id_of e.frame) (take k entries) ≡ true → line_at tick plan names i entries (k, e) ≡ []
  line_later h = ap (λ (b : Bool). cond b [] (message_line tick plan names i e.frame (with_id_of e.frame entries))) h

  pub line_first : list_any (has_id_of e.frame) (take k entries) ≡ false
      → line_at tick plan names i entries (k, e) ≡ message_line tick plan names i e.frame (with_id_of e.frame entries)
  line_first h = ap (λ (b : Bool). cond b [] (message_line tick plan names i e.frame (with_id_of e.frame entries))) h
