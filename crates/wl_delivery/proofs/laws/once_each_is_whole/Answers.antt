use Rattle.std.proofs.Common.{◌≡◌, ◌∙◌, ap, ap₂, arith, refl, ℕ, suc, ◌+◌, ◌<◌, ◌≤◌, Bool, cond, count_by, fold, List, [], ◌∷◌, map}
use Rattle.std.specs.List.{All}
use Rattle.std.proofs.lemmas.Bool.{le-leb, lt-leb}
use Rattle.wl_delivery.specs.declared.delivery.Presence.{Presence}
use Rattle.wl_delivery.specs.declared.instances.Instance.{Instance}
use Rattle.wl_delivery.specs.Deliveries.{is_twice, misses_instance}
use Rattle.wl_delivery.specs.Instances.{new_instance, taken_again, taken_instances, with_taken}
use Rattle.wl_delivery.specs.Laws.{AreTakenOnce}
use Rattle.wl_delivery.proofs.laws.once_each_is_whole.Goals as goal

-- what is taken after the first was sent is none of the first
passes : (x : Instance) (is : List Instance) (taken : List ℕ) → All (λ later. x.sent < later) taken
    → fold (λ ys tick. with_taken tick ys) (x ∷ is) taken ≡ x ∷ fold (λ ys tick. with_taken tick ys) is taken
passes x is [] h = refl
passes x is (t ∷ taken) h =
    ap (λ (ys : List Instance). fold (λ ys tick. with_taken tick ys) ys taken)
    (ap (λ (b : Bool). cond b (taken_again x ∷ is) (x ∷ with_taken t is)) (lt-leb t x.sent (h 0 t (omega arith))))
    ∙ passes x (with_taken t is) taken (λ i d b. h (suc i) d (omega arith))

-- a frame that was taken once
abbrev once : ℕ → Instance
once tick = taken_again (new_instance tick)

each_once : (sent taken : List ℕ) → AreTakenOnce sent taken → taken_instances sent taken ≡ map once sent
each_once [] [] h = refl
each_once [] (t ∷ taken) h = absurd h
each_once (s ∷ sent) [] h = absurd h
each_once (s ∷ sent) (t ∷ taken) (le, later, rest) =
    ap (λ (ys : List Instance). fold (λ ys tick. with_taken tick ys) ys taken)
    (ap (λ (b : Bool). cond b (once s ∷ map new_instance sent) (new_instance s ∷ with_taken t (map new_instance sent))) (le-leb t s le))
    ∙ passes (once s) (map new_instance sent) taken later ∙ ap (λ (ys : List Instance). once s ∷ ys) (each_once sent taken rest)

none_missed : (p : Presence) (sent : List ℕ) → count_by (misses_instance p) (map once sent) ≡ 0
none_missed p [] = refl
none_missed p (s ∷ sent) = none_missed p sent

none_twice : (sent : List ℕ) → count_by is_twice (map once sent) ≡ 0
none_twice [] = refl
none_twice (s ∷ sent) = none_twice sent

pub returns : goal.returns
returns c p sent taken h =
    let all = each_once sent taken h in
    ap₂ (λ (missed twice : ℕ). record { missed = missed; twice = twice }) (ap (count_by (misses_instance p)) all ∙ none_missed p sent)
    (ap (count_by is_twice) all ∙ none_twice sent)
