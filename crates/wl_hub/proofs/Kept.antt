-- Each step keeps the rule.
use Rattle.std.proofs.Common.{◌≡◌, ℕ, ◌<◌, ◌≤◌, ◌+◌, ◌≢◌, suc, zero, true, List, [], ◌∷◌, ◌++◌, length, set, get_or, sym, ap, ◌∙◌, refl, subst, ⊎_elim, arith, length-set, get_or-set_same, get_or-set_other, append_assoc, append-nil, Option, take}
use Rattle.std.specs.Prelude.{filter, All, Some, None}
use Rattle.std.proofs.lemmas.List.Elements.{All-append, All-filter, filter_passes, All-nil, All-cons}
use mathlib.Core.Option.{none, some, some-injective, some-ne-none}
use mathlib.Core.Logic.{dite}
use native.Mathlib.Decide.{ℕ_discrete}
use lib.ListN.{get_elem?}
use Rattle.wl_record_core.specs.declared.record.Record.{Record}
use Rattle.wl_hub.specs.declared.view.View.{View}
use Rattle.atomic_table.specs.Table.{State, Me, step, keeps, stepped, Allows, Splits, Joins, opening, Final, Seen}
use Rattle.atomic_table.proofs.Lists.{at_set, set_here, set_else, set_again, at_snoc}
use Rattle.wl_hub.specs.Rule.{Kind, joined, Below, gifts, ViewHolds, Holds, learned, Learns, AllTrue, greatest_seen, looked, gave, newcomer, both, spent, fresh, Closes}
use Rattle.wl_hub.proofs.Joined.{IsJoin, neutral_right, joined-append, below_trans, below_left, below_right, below_join, filter_below, filter_here, joined_one, joined_none, swap_last, gifts_more, own_below}

-- each pass's gifts are true, so all are
pub gifts_true : {T : Type 0} (P : Record → Type 0) (views : List (View T)) → ((id : ℕ) (v : View T) → get_elem? views id ≡ some v → All P v.given) → All P (gifts views)
gifts_true P [] each = All-nil P
gifts_true P (x ∷ xs) each = All-append P x.given (gifts xs) (each 0 x refl) (gifts_true P xs (λ id v at. each (suc id) v at))

module _ {T J : Type 0} (k : Kind J) (laws : IsJoin k) (tr : T → Record → Type 0) (name : T) (shape : List (ℕ × ℕ)) (count : ℕ) where
  abbrev St : Type 0
  St = State (Unit {0}) (View T)

  abbrev Ok : St → Type 0
  Ok s = Holds k (tr name) name shape count s

  -- what a pass has seen after a step on word i
  pub seen_after : (s : St) → Ok s → (i id : ℕ) (v : View T) → get_elem? s.views id ≡ some v → (extra : List Record)
      → greatest_seen k i (learned k.at i extra (gifts s.views) v) ≡ k.join (joined k i (gifts s.views)) (joined k i extra)
  seen_after s h i id v at extra = let all : J = joined k i (gifts s.views) in let fits = h.fits id v at in
      joined-append k laws i (v.given ++ extra) (v.told ++ filter (k.at i) (gifts s.views))
      ∙ ap (k.join (joined k i (v.given ++ extra))) (joined-append k laws i v.told (filter (k.at i) (gifts s.views)) ∙ ap (k.join (joined k i v.told)) (filter_here k laws i (gifts s.views)) ∙ fits.below i)
      ∙ ap (λ (u : J). k.join u all) (joined-append k laws i v.given extra)
      ∙ swap_last k laws (joined k i v.given) (joined k i extra) all
      ∙ ap (λ (u : J). k.join u (joined k i extra)) (own_below k laws i s.views id v at)

  module _ (s : St) (h : Ok s) (i id : ℕ) (v : View T) (at : get_elem? s.views id ≡ some v) (extra : List Record) (extra_true : All (tr name) extra) where
    abbrev w : View T
    w = learned k.at i extra (gifts s.views) v

    abbrev after : List Record
    after = gifts (set s.views id w)

    more : (j : ℕ) → joined k j after ≡ k.join (joined k j (gifts s.views)) (joined k j extra)
    more j = gifts_more k laws j s.views id v w extra at refl

    grow : (j : ℕ) → Below k (joined k j (gifts s.views)) (joined k j after)
    grow j = rw (more j) (below_left k laws (joined k j (gifts s.views)) (joined k j extra))

    fits_here : ViewHolds k (tr name) name shape after w
    fits_here = let f = h.fits id v at in record {
      named = f.named;
      given_true = All-append (tr name) v.given extra f.given_true extra_true;
      told_true = All-append (tr name) v.told (filter (k.at i) (gifts s.views)) f.told_true
          (All-filter (k.at i) (tr name) (gifts s.views) (gifts_true (tr name) s.views (λ id' v' at'. (h.fits id' v' at').given_true)));
      below = λ j. rw (joined-append k laws j v.told (filter (k.at i) (gifts s.views)))
          (below_join k laws (joined k j v.told) (joined k j (filter (k.at i) (gifts s.views))) (joined k j after)
          (below_trans k laws (joined k j v.told) (joined k j (gifts s.views)) (joined k j after) (f.below j) (grow j))
          (below_trans k laws (joined k j (filter (k.at i) (gifts s.views))) (joined k j (gifts s.views)) (joined k j after) (filter_below k laws i j (gifts s.views)) (grow j)));
    }

    fits_else : (u : View T) → ViewHolds k (tr name) name shape (gifts s.views) u → ViewHolds k (tr name) name shape after u
    fits_else u f = record {
      named = f.named;
      given_true = f.given_true;
      told_true = f.told_true;
      below = λ j. below_trans k laws (joined k j u.told) (joined k j (gifts s.views)) (joined k j after) (f.below j) (grow j);
    }

    -- a step on word i that gives these records, all of that word, keeps the rule
    pub steps : i < count → ((j : ℕ) → j ≢ i → joined k j extra ≡ k.bottom) → (n : ℕ) → n ≡ k.word (k.join (joined k i (gifts s.views)) (joined k i extra)) → Ok (stepped s i n id [] w keeps)
    steps inside apart n is = record {
      counts = length-set s.words i n ∙ h.counts;
      words = λ j lt. dite (ℕ_discrete j i)
          (λ e. let P : ℕ → Type 0 = λ m. get_or (set s.words i n) m 0 ≡ k.word (joined k m after) in
          let wide = h.counts in
          subst P (sym e) (get_or-set_same s.words i n 0 (omega arith) ∙ is ∙ ap k.word (sym (more i))))
          (λ ne. get_or-set_other s.words i j n 0 ne ∙ h.words j lt ∙ ap k.word (sym (more j ∙ ap (k.join (joined k j (gifts s.views))) (apart j ne) ∙ neutral_right k laws (joined k j (gifts s.views)))));
      fits = λ id' v' at'. ⊎_elim (λ t. subst (λ (u : View T). ViewHolds k (tr name) name shape after u) t.1 fits_here) (λ t. fits_else v' (h.fits id' v' t.1)) (at_set s.views id id' w v' at');
    }

  pub seen_below : (s : St) → Ok s → (i id : ℕ) (v : View T) → get_elem? s.views id ≡ some v → Below k (greatest_seen k i v) (joined k i (gifts s.views))
  seen_below s h i id v at = rw (joined-append k laws i v.given v.told) (below_join k laws (joined k i v.given) (joined k i v.told) (joined k i (gifts s.views)) (own_below k laws i s.views id v at) ((h.fits id v at).below i))

module _ {T J : Type 0} (kind_of : List (ℕ × ℕ) → Kind J) (laws : (shape : List (ℕ × ℕ)) → IsJoin (kind_of shape)) (tr : T → Record → Type 0) (name : T) (shape : List (ℕ × ℕ)) (count : ℕ) where
  abbrev pub Rule : State (Unit {0}) (View T) → Type 0
  Rule s = Holds (kind_of shape) (tr name) name shape count s

  -- what a pass gave and learned of is true of the name that it has
  all_true : (v : View T) → ((n : T) → v.name ≡ Some n → (n ≡ name) × (v.shape ≡ shape)) → All (tr name) v.given → All (tr name) v.told → AllTrue tr v
  all_true v named given told n is = subst (λ (m : T). All (tr m) (v.given ++ v.told)) (sym (named n is).0) (All-append (tr name) v.given v.told given told)

  module _ (i id : ℕ) (me : Me (Unit {0}) (View T)) (mine : T) (called : me.0.name ≡ Some mine) (inside : i < count) (s : State (Unit {0}) (View T)) (h : Rule s) (at : get_elem? s.views id ≡ some me.0) where
    abbrev pub every : List Record
    every = gifts s.views

    -- the view after a gift of some records
    abbrev pub then_ : List Record → View T
    then_ extra = learned (kind_of shape).at i extra every me.0

    pub same_shape : me.0.shape ≡ shape
    same_shape = ((h.fits id me.0 at).named mine called).1

    pub learns : (extra : List Record) → Learns (kind_of me.0.shape).at i extra me.0 (then_ extra)
    learns extra = subst (λ (sh : List (ℕ × ℕ)). Learns (kind_of sh).at i extra me.0 (then_ extra)) (sym same_shape) (filter (λ r. (kind_of shape).at i r) every, filter_passes (λ r. (kind_of shape).at i r) every, refl)

    pub knows_true : (extra : List Record) → All (tr name) extra → AllTrue tr (then_ extra)
    knows_true extra extra_true = let f = fits_here (kind_of shape) (laws shape) tr name shape count s h i id me.0 at extra extra_true in all_true (then_ extra) f.named f.given_true f.told_true

    pub looks_at : (get_or s.words i 0 ≡ (kind_of me.0.shape).word (greatest_seen (kind_of me.0.shape) i (then_ []))) × Rule (stepped s i (get_or s.words i 0) id [] (then_ []) keeps)
    looks_at =
        let same : joined (kind_of shape) i every ≡ (kind_of shape).join (joined (kind_of shape) i every) (kind_of shape).bottom = sym (neutral_right (kind_of shape) (laws shape) (joined (kind_of shape) i every)) in
        let is : get_or s.words i 0 ≡ (kind_of shape).word ((kind_of shape).join (joined (kind_of shape) i every) (kind_of shape).bottom) = h.words i inside ∙ ap (kind_of shape).word same in (
          subst (λ (sh : List (ℕ × ℕ)). get_or s.words i 0 ≡ (kind_of sh).word (greatest_seen (kind_of sh) i (then_ []))) (sym same_shape)
              (is ∙ ap (kind_of shape).word (sym (seen_after (kind_of shape) (laws shape) tr name shape count s h i id me.0 at []))),
          steps (kind_of shape) (laws shape) tr name shape count s h i id me.0 at [] (All-nil (tr name)) inside (λ j ne. refl) (get_or s.words i 0) is,
        )

    -- a step that leaves the word joined with the record's value
    pub gives_at : (r : Record) → tr mine r → ((sh : List (ℕ × ℕ)) (i j : ℕ) (r : Record) → (kind_of sh).at i r ≡ true → (kind_of sh).at j r ≡ true → i ≡ j) → (kind_of me.0.shape).at i r ≡ true
        → (n : ℕ) → n ≡ (kind_of shape).word ((kind_of shape).join (joined (kind_of shape) i every) ((kind_of shape).value r))
        → Rule (stepped s i n id [] (then_ (r ∷ [])) keeps) × AllTrue tr (then_ (r ∷ []))
    gives_at r r_true apart here n is =
        let mine_is : mine ≡ name = ((h.fits id me.0 at).named mine called).0 in
        let true_here : All (tr name) (r ∷ []) = All-cons (tr name) r [] (subst (λ (m : T). tr m r) mine_is r_true) (All-nil (tr name)) in
        let here' : (kind_of shape).at i r ≡ true = subst (λ (u : List (ℕ × ℕ)). (kind_of u).at i r ≡ true) same_shape here in
        let value : joined (kind_of shape) i (r ∷ []) ≡ (kind_of shape).value r = joined_one (kind_of shape) (laws shape) i r here' in (
          steps (kind_of shape) (laws shape) tr name shape count s h i id me.0 at (r ∷ []) true_here inside
              (λ j ne. joined_none (kind_of shape) (laws shape) j r (λ there. ne (sym (apart shape i j r here' there)))) n
              (is ∙ ap (λ (x : J). (kind_of shape).word ((kind_of shape).join (joined (kind_of shape) i every) x)) (sym value)),
          knows_true (r ∷ []) true_here,
        )

  pub looks : (slots id : ℕ) (me : Me (Unit {0}) (View T)) (i : ℕ) (mine : T) → me.0.name ≡ Some mine → i < count → Allows Rule slots id me i (λ n. n) (looked kind_of tr (step slots i 0 0 none) me)
  looks slots id me i mine called inside s h wide at small =
      let here = looks_at i id me mine called inside s h at in (
        then_ i id me mine called inside s h at [],
        keeps,
        tt,
        here.1,
        (here.0, learns i id me mine called inside s h at [], knows_true i id me mine called inside s h at [] (All-nil (tr name)), refl),
      )

  -- a step that joins the record's value to its word
  pub gives : (f : ℕ → ℕ) (slots id : ℕ) (me : Me (Unit {0}) (View T)) (i a b : ℕ) (mine : T) (r : Record) → me.0.name ≡ Some mine → i < count → tr mine r
      → ((sh : List (ℕ × ℕ)) (i j : ℕ) (r : Record) → (kind_of sh).at i r ≡ true → (kind_of sh).at j r ≡ true → i ≡ j)
      → (kind_of me.0.shape).at i r ≡ true
      → ((x : J) → Below (kind_of me.0.shape) (greatest_seen (kind_of me.0.shape) i me.0) x → (kind_of me.0.shape).word x < 18446744073709551616
      → f ((kind_of me.0.shape).word x) ≡ (kind_of me.0.shape).word ((kind_of me.0.shape).join x ((kind_of me.0.shape).value r)))
      → Allows Rule slots id me i f (gave kind_of tr r (step slots i a b none) me)
  gives f slots id me i a b mine r called inside r_true apart here becomes s h wide at small =
      let mine_is : mine ≡ name = ((h.fits id me.0 at).named mine called).0 in
      let sh : me.0.shape ≡ shape = same_shape i id me mine called inside s h at in
      let true_here : All (tr name) (r ∷ []) = All-cons (tr name) r [] (subst (λ (m : T). tr m r) mine_is r_true) (All-nil (tr name)) in
      let total : J = joined (kind_of shape) i (gifts s.views) in
      let here' : (kind_of shape).at i r ≡ true = subst (λ (u : List (ℕ × ℕ)). (kind_of u).at i r ≡ true) sh here in
      let value : joined (kind_of shape) i (r ∷ []) ≡ (kind_of shape).value r = joined_one (kind_of shape) (laws shape) i r here' in
      let is : f (get_or s.words i 0) ≡ (kind_of shape).word ((kind_of shape).join total (joined (kind_of shape) i (r ∷ []))) =
      ap f (h.words i inside)
      ∙ subst (λ (u : List (ℕ × ℕ)). (x : J) → Below (kind_of u) (greatest_seen (kind_of u) i me.0) x → (kind_of u).word x < 18446744073709551616 → f ((kind_of u).word x) ≡ (kind_of u).word ((kind_of u).join x ((kind_of u).value r))) sh becomes
      total (seen_below (kind_of shape) (laws shape) tr name shape count s h i id me.0 at) (subst (λ (m : ℕ). m < 18446744073709551616) (h.words i inside) small)
      ∙ ap (λ (x : J). (kind_of shape).word ((kind_of shape).join total x)) (sym value) in (
        then_ i id me mine called inside s h at (r ∷ []),
        keeps,
        tt,
        steps (kind_of shape) (laws shape) tr name shape count s h i id me.0 at (r ∷ []) true_here inside
            (λ j ne. joined_none (kind_of shape) (laws shape) j r (λ there. ne (sym (apart shape i j r here' there)))) (f (get_or s.words i 0)) is,
        (learns i id me mine called inside s h at (r ∷ []), knows_true i id me mine called inside s h at (r ∷ []) true_here, refl),
      )

module _ {A : Type 0} where
  pub some_of : (o : Option A) → ¬ (o ≡ None) → (a : A) × (o ≡ Some a)
  some_of None never = absurd (never refl)
  some_of (Some a) never = (a, refl)

  at_length : (l : List A) (i : ℕ) (a : A) → get_elem? l i ≡ some a → i < length l
  at_length [] i a e = absurd (some-ne-none a (sym e))
  at_length (x ∷ xs) zero a e = omega arith
  at_length (x ∷ xs) (suc i) a e = let h = at_length xs i a e in omega arith

  set_twice : (l : List A) (i : ℕ) (a b : A) → set (set l i a) i b ≡ set l i b
  set_twice [] i a b = refl
  set_twice (x ∷ xs) zero a b = refl
  set_twice (x ∷ xs) (suc i) a b = ap (λ (l : List A). x ∷ l) (set_twice xs i a b)

module _ {T : Type 0} where
  gifts-append : (xs ys : List (View T)) → gifts (xs ++ ys) ≡ gifts xs ++ gifts ys
  gifts-append [] ys = refl
  gifts-append (x ∷ xs) ys = ap (λ (l : List Record). x.given ++ l) (gifts-append xs ys) ∙ sym (append_assoc x.given (gifts xs) (gifts ys))

module _ {T J : Type 0} (k : Kind J) (laws : IsJoin k) (tr : T → Record → Type 0) (name : T) (shape : List (ℕ × ℕ)) (count : ℕ) where
  no_name : (n : T) → ◌≡◌ {A = Option T} None (Some n) → ⊥
  no_name n e = cc

  -- the rule of a pass asks for no more than the join of all that was given
  fits_same : (old new : List Record) → ((j : ℕ) → joined k j old ≡ joined k j new) → (u : View T) → ViewHolds k (tr name) name shape old u → ViewHolds k (tr name) name shape new u
  fits_same old new same u f = record { named = f.named; given_true = f.given_true; told_true = f.told_true; below = λ j. subst (λ (x : J). Below k (joined k j u.told) x) (same j) (f.below j) }

  pub splits : (id : ℕ) (v : View T) → Splits (λ s. Holds k (tr name) name shape count s) id v v (newcomer v)
  splits id v s h at =
      let again : set s.views id v ≡ s.views = set_again s.views id v at in
      let same : gifts (s.views ++ newcomer v ∷ []) ≡ gifts s.views = gifts-append s.views (newcomer v ∷ []) ∙ append-nil (gifts s.views) in
      let P : List (View T) → Type 0 = λ views. Holds k (tr name) name shape count record { words = s.words; homes = s.homes; views = views ++ newcomer v ∷ [] } in
      subst P (sym again) record {
        counts = h.counts;
        words = λ i lt. h.words i lt ∙ ap (λ (l : List Record). k.word (joined k i l)) (sym same);
        fits = λ id' v' at'. ⊎_elim
            (λ old. fits_same (gifts s.views) (gifts (s.views ++ newcomer v ∷ [])) (λ j. ap (joined k j) (sym same)) v' (h.fits id' v' old))
            (λ new. subst (λ (u : View T). ViewHolds k (tr name) name shape (gifts (s.views ++ newcomer v ∷ [])) u) new
            record { named = (h.fits id v at).named; given_true = All-nil (tr name); told_true = All-nil (tr name); below = λ j. laws.neutral (joined k j (gifts (s.views ++ newcomer v ∷ []))) })
            (at_snoc s.views (newcomer v) v' id' at');
      }

  module _ (s : State (Unit {0}) (View T)) (h : Holds k (tr name) name shape count s) (id other : ℕ) (v w : View T) (at : get_elem? s.views id ≡ some v) (apart : ¬ (other ≡ id)) (there : get_elem? (set s.views id (both v w)) other ≡ some w) where
    abbrev one : List (View T)
    one = set s.views id (both v w)

    abbrev two : List (View T)
    two = set one other spent

    there_before : get_elem? s.views other ≡ some w
    there_before = sym (set_else s.views id other (both v w) apart) ∙ there

    total_one : (j : ℕ) → joined k j (gifts one) ≡ joined k j (gifts s.views)
    total_one j = gifts_more k laws j s.views id v (both v w) w.given at refl ∙ laws.commutative (joined k j (gifts s.views)) (joined k j w.given) ∙ own_below k laws j s.views other w there_before

    here_two : get_elem? two id ≡ some (both v w)
    here_two = set_else one other id spent (λ e. apart (sym e)) ∙ set_here s.views id (both v w) (at_length s.views id v at)

    back : set two other w ≡ one
    back = set_twice one other spent w ∙ set_again one other w there

    spent_there : get_elem? two other ≡ some spent
    spent_there = set_here one other spent (at_length one other w there)

    total_two : (j : ℕ) → joined k j (gifts two) ≡ joined k j (gifts s.views)
    total_two j =
        let put : joined k j (gifts (set two other w)) ≡ k.join (joined k j (gifts two)) (joined k j w.given) = gifts_more k laws j two other spent w w.given spent_there refl in
        let mine : Below k (joined k j w.given) (joined k j (gifts two)) =
        below_trans k laws (joined k j w.given) (joined k j (v.given ++ w.given)) (joined k j (gifts two))
        (rw (joined-append k laws j v.given w.given) (below_right k laws (joined k j v.given) (joined k j w.given)))
        (own_below k laws j two id (both v w) here_two) in
        sym (laws.commutative (joined k j (gifts two)) (joined k j w.given) ∙ mine) ∙ sym put ∙ ap (λ (l : List (View T)). joined k j (gifts l)) back ∙ total_one j

    kept : (u : View T) → ViewHolds k (tr name) name shape (gifts s.views) u → ViewHolds k (tr name) name shape (gifts two) u
    kept = fits_same (gifts s.views) (gifts two) (λ j. sym (total_two j))

    fits_spent : ViewHolds k (tr name) name shape (gifts two) spent
    fits_spent = record { named = λ n e. absurd (no_name n e); given_true = All-nil (tr name); told_true = All-nil (tr name); below = λ j. laws.neutral (joined k j (gifts two)) }

    fits_both : ViewHolds k (tr name) name shape (gifts two) (both v w)
    fits_both = let f = h.fits id v at in let g = h.fits other w there_before in kept (both v w) record {
      named = f.named;
      given_true = All-append (tr name) v.given w.given f.given_true g.given_true;
      told_true = All-append (tr name) v.told w.told f.told_true g.told_true;
      below = λ j. rw (joined-append k laws j v.told w.told) (below_join k laws (joined k j v.told) (joined k j w.told) (joined k j (gifts s.views)) (f.below j) (g.below j));
    }

    pub joins_here : Holds k (tr name) name shape count record { words = s.words; homes = s.homes; views = two }
    joins_here = record {
      counts = h.counts;
      words = λ i lt. h.words i lt ∙ ap k.word (sym (total_two i));
      fits = λ id' v' at'. ⊎_elim (λ t. subst (λ (u : View T). ViewHolds k (tr name) name shape (gifts two) u) t.1 fits_spent)
          (λ t. ⊎_elim (λ u. subst (λ (x : View T). ViewHolds k (tr name) name shape (gifts two) x) u.1 fits_both) (λ u. kept v' (h.fits id' v' u.1)) (at_set s.views id id' (both v w) v' t.1))
          (at_set one other id' spent v' at');
    }

  pub joins : (id : ℕ) (v : View T) (other : ℕ) (w : View T) → Joins (λ s. Holds k (tr name) name shape count s) id v other w (both v w) spent
  joins id v other w s h at apart there = joins_here s h id other v w at apart there

  named_once : (n : T) → ◌≡◌ {A = Option T} (Some name) (Some n) → n ≡ name
  named_once n e = cc

  -- a table whose words are all 0
  pub opens : (ws : List ℕ) → length ws ≡ count → ((i : ℕ) → get_or ws i 0 ≡ 0) → k.word k.bottom ≡ 0 → Holds k (tr name) name shape count (opening ws [] (fresh name shape))
  opens ws wide zeros starts = record {
    counts = wide;
    words = λ i lt. zeros i ∙ sym starts;
    fits = λ id v at. ⊎_elim (λ none_there. absurd (some-ne-none v (sym none_there)))
        (λ is. subst (λ (u : View T). ViewHolds k (tr name) name shape [] u) is
        record { named = λ n e. (named_once n e, refl); given_true = All-nil (tr name); told_true = All-nil (tr name); below = λ j. laws.neutral k.bottom })
        (at_snoc [] (fresh name shape) v id at);
  }

module _ {T J : Type 0} (kind_of : List (ℕ × ℕ) → Kind J) (laws : (shape : List (ℕ × ℕ)) → IsJoin (kind_of shape)) (tr : T → Record → Type 0) (name : T) (shape : List (ℕ × ℕ)) (count : ℕ) where
  -- what the end tells: each word is the join of true records, and of those that this pass gave
  pub closes : (id : ℕ) (v : View T) (ws : List ℕ) (xs : List (Unit {0})) → Final (Seen (λ s. Holds (kind_of shape) (tr name) name shape count s) id v) ws xs → Closes kind_of tr (λ _. count) ws v
  closes id v ws xs f n called i lt =
      let s = f.0 in let h : Holds (kind_of shape) (tr name) name shape count s = f.1.0 in let at : get_elem? s.views id ≡ some v = f.1.1 in
      let named = (h.fits id v at).named n called in
      let all : List Record = gifts s.views in (
        all,
        subst (λ (m : T). All (tr m) all) (sym named.0) (gifts_true (tr name) s.views (λ id' v' at'. (h.fits id' v' at').given_true)),
        subst (λ (m : T). All (tr m) v.given) (sym named.0) (h.fits id v at).given_true,
        subst (λ (sh : List (ℕ × ℕ)). get_or ws i 0 ≡ (kind_of sh).word (joined (kind_of sh) i (v.given ++ all))) (sym named.1)
            (ap (λ (l : List ℕ). get_or l i 0) (sym f.2) ∙ h.words i lt ∙ ap (kind_of shape).word (sym (joined-append (kind_of shape) (laws shape) i v.given all ∙ own_below (kind_of shape) (laws shape) i s.views id v at))),
      )

pub take_at : {A : Type 0} (l : List A) (i : ℕ) (a : A) → get_elem? l i ≡ some a → take (suc i) l ≡ take i l ++ a ∷ []
take_at [] i a e = absurd (some-ne-none a (sym e))
take_at (x ∷ xs) zero a e = ap (λ (u : _). u ∷ []) (some-injective x a e)
take_at {A} (x ∷ xs) (suc i) a e = ap (λ (l : List A). x ∷ l) (take_at xs i a e)

get_take : (n i : ℕ) (ws : List ℕ) → i < n → get_or (take n ws) i 0 ≡ get_or ws i 0
get_take zero i ws h = absurd (omega arith)
get_take (suc n) i [] h = refl
get_take (suc n) zero (w ∷ ws) h = refl
get_take (suc n) (suc i) (w ∷ ws) h = get_take n i ws (omega arith)

-- the first words alone
pub closes_first : {T J : Type 0} (kind_of : List (ℕ × ℕ) → Kind J) (tr : T → Record → Type 0) (count few : ℕ) (ws : List ℕ) (v : View T)
    → few ≤ count → Closes kind_of tr (λ _. count) ws v → Closes kind_of tr (λ _. few) (take few ws) v
closes_first kind_of tr count few ws v le h n called i lt =
    let c = h n called i (omega (arith, le, lt)) in (c.0, c.1, c.2, get_take few i ws lt ∙ c.3)

pub length_behind : (xs ys : List ℕ) (n m : ℕ) → length (xs ++ ys) ≡ n → length xs + m ≡ n → length ys ≡ m
length_behind [] ys n m h g = omega (arith, h, g)
length_behind (x ∷ xs) ys zero m h g = absurd (omega (arith, h))
length_behind (x ∷ xs) ys (suc n) m h g = length_behind xs ys n m (omega (arith, h)) (omega (arith, g))
