-- Going over a list and keeping what none of it beats.
use Rattle.std.proofs.Common.{◌≡◌, refl, ap, sym, subst, ◌∙◌, arith, zero, suc, ◌<◌, ℤ, ◌≤ℤ◌, List, [], ◌∷◌, ◌++◌, Bool, true, false, Option, Some, None, append_assoc}
use Rattle.std.specs.Prelude.{int_lt, not}
use Rattle.std.specs.Option.{MatchOption}
use Rattle.std.specs.List.{find, list_all, All, Contains}
use Rattle.std.proofs.lemmas.List.{append-nil}
use Rattle.std.proofs.lemmas.List.Elements.{All-head, All-tail, All-nil, All-push, All-same, All-weaker, All-contains, All-contains_itself, Contains-push, Contains-append_left}
use Rattle.std.proofs.lemmas.Int.{ints}
use Rattle.std.proofs.lemmas.Bool.{not-true}
use Rattle.wl_node.proofs.Passing.{all_pass, passes_each}
use Rattle.wl_node.specs.Extremes.{first_unbeaten, least_phase_error, greatest_phase_error, IsLeastError, IsGreatestError, ExtremesAreExtreme}

-- one of them that none beats
pub record Unbeaten (beats : ℤ → ℤ → Bool) (errors : List ℤ) (e : ℤ) : Type 0 where
  pub among : Contains errors e
  pub best : All (λ x. beats x e ≡ false) errors

-- what is kept of a list: nothing of an empty one, else one that none beats
abbrev pub Kept : (ℤ → ℤ → Bool) → List ℤ → Option ℤ → Type 0
Kept beats errors o = MatchOption o (errors ≡ []) (Unbeaten beats errors)

-- the test is an order in which two that don't beat each other are one
pub record Ranks (beats : ℤ → ℤ → Bool) : Type 0 where
  pub itself : (x : ℤ) → beats x x ≡ false
  pub chain : (x y z : ℤ) → beats x y ≡ false → beats y z ≡ false → beats x z ≡ false
  pub one_way : (x y : ℤ) → beats x y ≡ true → beats y x ≡ false
  pub same : (x y : ℤ) → beats x y ≡ false → beats y x ≡ false → x ≡ y

tail_contains : (x e : ℤ) (xs : List ℤ) → Contains (x ∷ xs) e → (x ≡ e → ⊥) → Contains xs e
tail_contains x e xs (zero, within, is) other = absurd (other is)
tail_contains x e xs (suc k, within, is) other = (k, omega arith, is)

find_step : (p : ℤ → Bool) (x e : ℤ) (xs : List ℤ) (b : Bool) → p x ≡ b → (p x ≡ true → x ≡ e) → (p x ≡ false → find p xs ≡ Some e)
    → find p (x ∷ xs) ≡ Some e
find_step p x e xs true is hit miss = rw is (ap Some (hit is))
find_step p x e xs false is hit miss = rw is (miss is)

find_only : (p : ℤ → Bool) (xs : List ℤ) (e : ℤ) → Contains xs e → p e ≡ true → All (λ y. p y ≡ true → y ≡ e) xs → find p xs ≡ Some e
find_only p [] e among passes only = absurd (let h : among.0 < 0 = among.1 in omega arith)
find_only p (x ∷ xs) e among passes only =
    find_step p x e xs (p x) refl (All-head (λ y. p y ≡ true → y ≡ e) x xs only)
    (λ fails. find_only p xs e
    (tail_contains x e xs among (λ same. let bad : p e ≡ false = (ap p (sym same) ∙ fails) in let no : true ≡ false = sym passes ∙ bad in cc))
    passes (All-tail (λ y. p y ≡ true → y ≡ e) x xs only))

module _ (beats : ℤ → ℤ → Bool) (ranks : Ranks beats) where
  unbeaten_test : (errors : List ℤ) (e : ℤ) → All (λ x. beats x e ≡ false) errors → list_all (λ x. not (beats x e)) errors ≡ true
  unbeaten_test errors e best = all_pass (λ x. not (beats x e)) errors
      (All-weaker (λ x. beats x e ≡ false) (λ x. not (beats x e) ≡ true) (λ x h. ap not h) errors best)

  one_only : (errors : List ℤ) (e y : ℤ) → Unbeaten beats errors e → Contains errors y → list_all (λ x. not (beats x y)) errors ≡ true → y ≡ e
  one_only errors e y u among passes =
      ranks.same y e (All-contains (λ x. beats x e ≡ false) errors y u.best among)
      (not-true (beats e y) (All-contains (λ x. not (beats x y) ≡ true) errors e (passes_each (λ x. not (beats x y)) errors passes) u.among))

  -- what is kept is what the definition says
  pub settled : (errors : List ℤ) (o : Option ℤ) → Kept beats errors o → o ≡ first_unbeaten beats errors
  settled errors None none = rw none refl
  settled errors (Some e) u =
      sym (find_only (λ y. list_all (λ x. not (beats x y)) errors) errors e u.among (unbeaten_test errors e u.best)
      (All-weaker (Contains errors) (λ y. list_all (λ x. not (beats x y)) errors ≡ true → y ≡ e) (λ y among. one_only errors e y u among) errors
      (All-contains_itself errors)))

  pub begins : (errors : List ℤ) (x : ℤ) → errors ≡ [] → Unbeaten beats (errors ++ x ∷ []) x
  begins errors x none = record {
    among = Contains-push errors x;
    best = All-push (λ y. beats y x ≡ false) errors x (All-same (λ y. beats y x ≡ false) errors [] none (All-nil (λ y. beats y x ≡ false))) (ranks.itself x);
  }

  pub keeps : (errors : List ℤ) (x e : ℤ) → Unbeaten beats errors e → beats x e ≡ false → Unbeaten beats (errors ++ x ∷ []) e
  keeps errors x e u loses = record {
    among = Contains-append_left errors (x ∷ []) e u.among;
    best = All-push (λ y. beats y e ≡ false) errors x u.best loses;
  }

  pub takes : (errors : List ℤ) (x e : ℤ) → Unbeaten beats errors e → beats e x ≡ false → Unbeaten beats (errors ++ x ∷ []) x
  takes errors x e u wins = record {
    among = Contains-push errors x;
    best = All-push (λ y. beats y x ≡ false) errors x
        (All-weaker (λ y. beats y e ≡ false) (λ y. beats y x ≡ false) (λ y h. ranks.chain y e x h wins) errors u.best) (ranks.itself x);
  }

  by_test : (errors : List ℤ) (x e : ℤ) (b : Bool) → beats x e ≡ b → Unbeaten beats errors e → (o : Option ℤ) × Kept beats (errors ++ x ∷ []) o
  by_test errors x e true is u = (Some x, takes errors x e u (ranks.one_way x e is))
  by_test errors x e false is u = (Some e, keeps errors x e u is)

  next_kept : (errors : List ℤ) (x : ℤ) (o : Option ℤ) → Kept beats errors o → (p : Option ℤ) × Kept beats (errors ++ x ∷ []) p
  next_kept errors x None none = (Some x, begins errors x none)
  next_kept errors x (Some e) u = by_test errors x e (beats x e) refl u

  all_kept : (past more : List ℤ) (o : Option ℤ) → Kept beats past o → (p : Option ℤ) × Kept beats (past ++ more) p
  all_kept past [] o kept = (o, rw (append-nil past) kept)
  all_kept past (x ∷ more) o kept =
      let next = next_kept past x o kept in
      let rest = all_kept (past ++ x ∷ []) more next.0 next.1 in
      (rest.0, rw (append_assoc past (x ∷ []) more) at rest.1)

  -- the definition keeps what none beats, wherever there is an error
  pub kept_of : (errors : List ℤ) → Kept beats errors (first_unbeaten beats errors)
  kept_of errors =
      let some = all_kept [] errors None refl in
      let P : Option ℤ → Type 0 = λ o. Kept beats errors o in subst P (settled errors some.0 some.1) some.1

  kept_is : (errors : List ℤ) (o : Option ℤ) → o ≡ first_unbeaten beats errors → Kept beats errors o
  kept_is errors o is = let P : Option ℤ → Type 0 = λ q. Kept beats errors q in subst P (sym is) (kept_of errors)

  kept_one : (errors : List ℤ) (o : Option ℤ) (e : ℤ) → o ≡ Some e → Kept beats errors o → Unbeaten beats errors e
  kept_one errors o e is kept = let P : Option ℤ → Type 0 = λ q. Kept beats errors q in subst P is kept

  kept_none : (errors : List ℤ) (o : Option ℤ) → o ≡ None → Kept beats errors o → errors ≡ []
  kept_none errors o is kept = let P : Option ℤ → Type 0 = λ q. Kept beats errors q in subst P is kept

  -- one more error: where nothing was kept, where what was kept stays, and where it goes
  pub picks_first : (errors : List ℤ) (x : ℤ) (o p : Option ℤ) → o ≡ first_unbeaten beats errors → o ≡ None → p ≡ Some x
      → p ≡ first_unbeaten beats (errors ++ x ∷ [])
  picks_first errors x o p is none p_is =
      p_is ∙ settled (errors ++ x ∷ []) (Some x) (begins errors x (kept_none errors o none (kept_is errors o is)))

  pub picks_kept : (errors : List ℤ) (x e : ℤ) (o p : Option ℤ) → o ≡ first_unbeaten beats errors → o ≡ Some e → p ≡ Some e → beats x e ≡ false
      → p ≡ first_unbeaten beats (errors ++ x ∷ [])
  picks_kept errors x e o p is one p_is loses =
      p_is ∙ settled (errors ++ x ∷ []) (Some e) (keeps errors x e (kept_one errors o e one (kept_is errors o is)) loses)

  pub picks_new : (errors : List ℤ) (x e : ℤ) (o p : Option ℤ) → o ≡ first_unbeaten beats errors → o ≡ Some e → p ≡ Some x → beats e x ≡ false
      → p ≡ first_unbeaten beats (errors ++ x ∷ [])
  picks_new errors x e o p is one p_is wins =
      p_is ∙ settled (errors ++ x ∷ []) (Some x) (takes errors x e (kept_one errors o e one (kept_is errors o is)) wins)

-- the less one wins, or the greater one
abbrev pub less : ℤ → ℤ → Bool
less x e = int_lt x e

abbrev pub greater : ℤ → ℤ → Bool
greater x e = int_lt e x

pub less_ranks : Ranks less
less_ranks = record {
  itself = λ x. grind (arith, ints);
  chain = λ x y z h k. grind (arith, ints);
  one_way = λ x y h. grind (arith, ints);
  same = λ x y h k. omega (arith, ints);
}

pub greater_ranks : Ranks greater
greater_ranks = record {
  itself = λ x. grind (arith, ints);
  chain = λ x y z h k. less_ranks.chain z y x k h;
  one_way = λ x y h. less_ranks.one_way y x h;
  same = λ x y h k. less_ranks.same x y k h;
}

not_less : (x e : ℤ) → int_lt x e ≡ false → e ≤ℤ x
not_less x e h = grind (arith, ints)

least_named : (errors : List ℤ) (o : Option ℤ) → Kept less errors o → MatchOption o (errors ≡ []) (IsLeastError errors)
least_named errors None h = h
least_named errors (Some e) u = record { among = u.among; least = All-weaker (λ x. less x e ≡ false) (λ x. e ≤ℤ x) (λ x h. not_less x e h) errors u.best }

greatest_named : (errors : List ℤ) (o : Option ℤ) → Kept greater errors o → MatchOption o (errors ≡ []) (IsGreatestError errors)
greatest_named errors None h = h
greatest_named errors (Some e) u =
    record { among = u.among; greatest = All-weaker (λ x. greater x e ≡ false) (λ x. x ≤ℤ e) (λ x h. not_less e x h) errors u.best }

pub extremes : ExtremesAreExtreme
extremes errors = (
  least_named errors (least_phase_error errors) (kept_of less less_ranks errors),
  greatest_named errors (greatest_phase_error errors) (kept_of greater greater_ranks errors),
)
