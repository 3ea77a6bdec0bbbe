-- What a group takes, record by record, and whether that changed what it knows.
use Rattle.std.proofs.Common.{◌≡◌, ◌≢◌, ◌<◌, ◌+◌, ℕ, zero, suc, Bool, true, false, ◌||◌, List, [], ◌∷◌, ◌++◌, length, take, get_or, add-one, refl, sym, subst, ap, ◌∙◌}
use Rattle.std.proofs.Math.Seq.{take-suc}
use Rattle.wl_record_core.specs.declared.record.Record.{Record}
use Rattle.wl_replica.specs.State.{State, state_of, states_joined}
use Rattle.wl_replica.specs.Laws.{TakingIsJoining, IsJoining}
use Rattle.wl_plan.specs.declared.plan.Plan.{Plan}
use Rattle.wl_group.specs.GroupValue.{GroupValue, with_records}
use Rattle.wl_mail.specs.Truth.{AreTrueOfPlan}
use Rattle.wl_mail.specs.Handed.{Took, TellsNews, IsNews}
use Rattle.wl_mail.specs.Laws.{TakingLaws}

-- ---- nothing, and more of them

with_nothing : IsJoining → (g : GroupValue) → g ≡ with_records [] g
with_nothing laws g = ap (λ (s : State). record { plan = g.plan; lists = g.lists; ran = g.ran; replica = s; emitted = g.emitted }) (sym (laws.neutral g.replica))

pub with_both : TakingIsJoining → (a b c : GroupValue) (xs ys : List Record) → b ≡ with_records xs a → c ≡ with_records ys b → c ≡ with_records (xs ++ ys) a
with_both laws a b c xs ys d e =
    e ∙ ap (with_records ys) d
    ∙ ap (λ (s : State). record { plan = a.plan; lists = a.lists; ran = a.ran; replica = s; emitted = a.emitted }) (laws.in_parts a.replica xs ys)

both_true : (plan : Plan) (xs ys : List Record) → AreTrueOfPlan plan xs → AreTrueOfPlan plan ys → AreTrueOfPlan plan (xs ++ ys)
both_true plan [] ys h g = g
both_true plan (x ∷ xs) ys h g = (h.0, both_true plan xs ys h.1 g)

took_both : TakingIsJoining → (a b c : GroupValue) → Took a b → Took b c → Took a c
took_both laws a b c t u = record {
  more = t.more ++ u.more;
  are_true = both_true a.plan t.more u.more t.are_true (subst (λ p. AreTrueOfPlan p u.more) (ap (λ (g : GroupValue). g.plan) t.taken) u.are_true);
  taken = with_both laws a b c t.more u.more t.taken u.taken;
}

pub first_true : (plan : Plan) (rs : List Record) (k : ℕ) → AreTrueOfPlan plan rs → AreTrueOfPlan plan (take k rs)
first_true plan rs zero h = tt
first_true plan [] (suc k) h = tt
first_true plan (r ∷ rs) (suc k) h = (h.0, first_true plan rs k h.1)

pub took_first : (old new : GroupValue) (rs : List Record) → AreTrueOfPlan old.plan rs → (k : ℕ) × (new ≡ with_records (take k rs) old) → Took old new
took_first old new rs h first = record { more = take first.0 rs; are_true = first_true old.plan rs first.0 h; taken = first.1 }

pub one_longer : (rs : List Record) (i : ℕ) (d : Record) → i < length rs → take (i + 1) rs ≡ take i rs ++ get_or rs i d ∷ []
one_longer rs i d b = rw add-one (take-suc rs i d b)

-- ---- whether it changed

pub changed_one : (old new : GroupValue) (r : Record) (answer : Bool) → new ≡ with_records (r ∷ []) old → IsNews old.replica r answer → TellsNews old new answer
changed_one old new r true e h = λ same. h (sym (ap (λ (g : GroupValue). g.replica) e) ∙ same)
changed_one old new r false e h = e ∙ ap (λ (s : State). record { plan = old.plan; lists = old.lists; ran = old.ran; replica = s; emitted = old.emitted }) h

-- what was joined in can't be lost by joining more
stays_joined : IsJoining → (s a b : State) → b.nodes ≡ a.nodes → states_joined (states_joined s a) b ≡ s → states_joined s a ≡ s
stays_joined laws s a b n e =
    ap (λ x. states_joined x a) (sym e)
    ∙ (laws.associates (states_joined s a) b a
    ∙ (ap (states_joined (states_joined s a)) (laws.commutes b a n)
    ∙ (sym (laws.associates (states_joined s a) a b)
    ∙ (ap (λ x. states_joined x b) (laws.associates s a a ∙ ap (states_joined s) (laws.idempotent a))
    ∙ e))))

changed_before : IsJoining → (a b c : GroupValue) (xs ys : List Record) → b ≡ with_records xs a → c ≡ with_records ys b → b.replica ≢ a.replica → c.replica ≢ a.replica
changed_before laws a b c xs ys d e h same =
    let x : b.replica ≡ states_joined a.replica (state_of a.replica.nodes xs) = ap (λ (g : GroupValue). g.replica) d in
    let y : c.replica ≡ states_joined b.replica (state_of b.replica.nodes ys) = ap (λ (g : GroupValue). g.replica) e in
    let both : states_joined (states_joined a.replica (state_of a.replica.nodes xs)) (state_of b.replica.nodes ys) ≡ a.replica
    = ap (λ z. states_joined z (state_of b.replica.nodes ys)) (sym x) ∙ (sym y ∙ same) in
    h (x ∙ stays_joined laws a.replica (state_of a.replica.nodes xs) (state_of b.replica.nodes ys) (ap (λ (z : State). z.nodes) x) both)

pub changed_more : IsJoining → (a b c : GroupValue) (xs ys : List Record) → b ≡ with_records xs a → c ≡ with_records ys b
    → (x y : Bool) → TellsNews a b x → TellsNews b c y → TellsNews a c (x || y)
changed_more laws a b c xs ys d e true y h g = changed_before laws a b c xs ys d e h
changed_more laws a b c xs ys d e false true h g = subst (λ (z : GroupValue). c.replica ≢ z.replica) h g
changed_more laws a b c xs ys d e false false h g = g ∙ h

pub taking_laws : IsJoining → TakingIsJoining → TakingLaws
taking_laws joins takes = record {
  nothing = with_nothing joins;
  in_parts = λ g rs others. with_both takes g (with_records rs g) (with_records others (with_records rs g)) rs others refl refl;
  further = took_both takes;
  news = λ a b c t u. changed_more joins a b c t.more u.more t.taken u.taken;
}
