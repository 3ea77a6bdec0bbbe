-- The steps on the table of edges.
use Rattle.std.proofs.Common.{◌≡◌, ◌<◌, ◌+◌, ◌==◌, eqb, ℕ, suc, List, [], ◌∷◌, Bool, true, false, ap, max, sym, ◌∙◌, subst, refl, arith, get_or, ◌++◌, add-one, append-nil, append_assoc, eq-eqb, ne_eqb}
use Rattle.std.specs.Prelude.{Some}
use Rattle.std.proofs.lemmas.Bool.Decides.{nat_tests}
use Rattle.std.proofs.lemmas.List.Elements.{All-nil, All-append}
use mathlib.Core.Option.{none, some}
use mathlib.Core.Logic.{dite}
use native.Mathlib.Decide.{ℕ_discrete}
use prog.Atomic.{either}
use lib.ListN.{get_elem?}
use Rattle.wl_record_core.specs.declared.record.Record.{Record}
use Rattle.wl_lattice.specs.declared.FlatWord.{FlatWord}
use Rattle.wl_lattice.specs.declared.FlatWord.TheVariants.{Nothing, Value, Clash}
use Rattle.wl_lattice.specs.Words.{joined_flat}
use Rattle.wl_lattice.specs.WordLaws.{flat_laws}
use Rattle.atomic_table.specs.Table.{State, Me, Act, step, keeps, stepped, Allows, Valid, carried_after}
use Rattle.wl_hub.specs.declared.view.View.{View}
use Rattle.wl_hub.specs.Rule.{Kind, Holds, kind, joined, gifts, greatest_seen, Learns, is_settled, claimed, gave}
use Rattle.wl_hub.specs.Places.{edge_value, is_edge_at, edge_apart}
use Rattle.wl_lattice.specs.declared.numbers.TheConstants.{CLASH}
use Rattle.wl_lattice.specs.Numbers.{word_number}
use Rattle.wl_hub.proofs.Joined.{IsJoin, laws_of}
use Rattle.wl_hub.proofs.Kept.{looks_at, learns, knows_true, gives_at, then_, gives}

abbrev pub edge_kind : List (ℕ × ℕ) → Kind FlatWord
edge_kind shape = kind Nothing joined_flat word_number edge_value (is_edge_at shape)

pub edge_laws : (shape : List (ℕ × ℕ)) → IsJoin (edge_kind shape)
edge_laws = laws_of Nothing joined_flat word_number edge_value is_edge_at flat_laws (λ x. tt)

clash_word : (u t : ℕ) → ¬ (suc u ≡ t + 1) → is_settled (suc u) (t + 1) ≡ true → suc u ≡ CLASH
clash_word u t far h = grind (arith, nat_tests)

never_open : (t : ℕ) → is_settled CLASH (suc t) ≡ false → ⊥
never_open t h = grind (arith, nat_tests)

not_same : (t : ℕ) → is_settled (suc t) (suc t) ≡ false → ⊥
not_same t h = grind (arith, nat_tests)

other_value : (u v : ℕ) → (u == v) ≡ false → joined_flat (Value u) (Value v) ≡ Value v → ⊥
other_value u v e h = let clash = rw e at h in cc

-- a word above which a clash belongs
pub clash_above : (y x : FlatWord) (t : ℕ) → is_settled (word_number y) (suc t) ≡ false → joined_flat y x ≡ x → word_number x < 18446744073709551616
    → max (word_number x) CLASH ≡ word_number (joined_flat x (Value t))
clash_above Nothing x t open_ below small = cc
clash_above Clash x t open_ below small = absurd (never_open t open_)
clash_above (Value u) Nothing t open_ below small = cc
clash_above (Value u) (Value v) t open_ below small = dite (ℕ_discrete u v)
    (λ same. dite (ℕ_discrete v t) (λ e. absurd (not_same t (subst (λ (k : ℕ). is_settled (suc k) (suc t) ≡ false) (same ∙ e) open_)))
    (λ ne. let other : (v == t) ≡ false = ne_eqb v t ne in rw other (omega arith)))
    (λ apart. absurd (other_value u v (ne_eqb u v apart) below))
clash_above (Value u) Clash t open_ below small = refl

nonzero : (n m : ℕ) → is_settled n m ≡ false → eqb n 0 ≡ false
nonzero n m h = grind (arith, nat_tests)

claim_word : (x : FlatWord) (t : ℕ) → is_settled (word_number x) (t + 1) ≡ true → either (eqb (word_number x) 0) (t + 1) (word_number x) ≡ word_number (joined_flat x (Value t))
claim_word Nothing t h = omega arith
claim_word (Value u) t h = let up : ¬ (suc u ≡ 0) = λ e. omega arith in dite (ℕ_discrete u t) (λ e. rw (ne_eqb (suc u) 0 up, eq-eqb u t e) refl) (λ ne. rw (ne_eqb (suc u) 0 up, ne_eqb u t ne) (let far : ¬ (suc u ≡ t + 1) = λ e. ne (omega arith) in clash_word u t far h))
claim_word Clash t h = refl

module _ {T : Type 0} (tr : T → Record → Type 0) (name : T) (shape : List (ℕ × ℕ)) (count : ℕ) where
  abbrev All_ok : State (Unit {0}) (View T) → Type 0
  All_ok s = Holds (edge_kind shape) (tr name) name shape count s

  -- after another tick was seen, the word becomes a clash
  pub clashes : (slots id : ℕ) (me : Me (Unit {0}) (View T)) (i : ℕ) (mine : T) (r : Record) (t : ℕ) → me.0.name ≡ Some mine → i < count → tr mine r → is_edge_at me.0.shape i r ≡ true → edge_value r ≡ Value t
      → is_settled (word_number (greatest_seen (edge_kind me.0.shape) i me.0)) (suc t) ≡ false
      → Allows All_ok slots id me i (λ n. max n CLASH) (gave edge_kind tr r (step slots i CLASH 0 none) me)
  clashes slots id me i mine r t called inside r_true here value open_ =
      gives edge_kind edge_laws tr name shape count (λ n. max n CLASH) slots id me i CLASH 0 mine r called inside r_true edge_apart here
      (λ x below small. rw value (clash_above (greatest_seen (edge_kind me.0.shape) i me.0) x t open_ below small))

  module _ (slots id : ℕ) (me : Me (Unit {0}) (View T)) (i : ℕ) (mine : T) (r : Record) (t : ℕ) (called : me.0.name ≡ Some mine) (inside : i < count) (r_true : tr mine r) (here : is_edge_at me.0.shape i r ≡ true) (value : edge_value r ≡ Value t)
      (s : State (Unit {0}) (View T)) (h : All_ok s) (at : get_elem? s.views id ≡ some me.0) where
    abbrev Goal : ℕ → Type 0
    Goal n = (w : View T) × (a : Act (Unit {0})) × Valid s.homes me.1 a × All_ok (stepped s i (either (eqb n 0) (t + 1) n) id me.1 w a) × claimed edge_kind tr r (step slots i 0 (t + 1) none) me n (w, carried_after me.1 a)

    -- the word is the join with the record's value afterwards, and the step tells that the record is given
    gets : (n : ℕ) → is_settled n (t + 1) ≡ true → either (eqb n 0) (t + 1) n ≡ word_number (joined_flat (joined (edge_kind shape) i (gifts s.views)) (Value t)) → Goal n
    gets n settled_so is =
        let g = gives_at edge_kind edge_laws tr name shape count i id me mine called inside s h at r r_true edge_apart here (either (eqb n 0) (t + 1) n) (rw value is) in
        let w : View T = then_ edge_kind edge_laws tr name shape count i id me mine called inside s h at (r ∷ []) in
        (w, keeps, tt, g.0, rw settled_so (learns edge_kind edge_laws tr name shape count i id me mine called inside s h at (r ∷ []), g.1, refl))

    sees : is_settled (get_or s.words i 0) (t + 1) ≡ false → Goal (get_or s.words i 0)
    sees other =
        let l = looks_at edge_kind edge_laws tr name shape count i id me mine called inside s h at in
        let w : View T = then_ edge_kind edge_laws tr name shape count i id me mine called inside s h at [] in
        let not_zero : eqb (get_or s.words i 0) 0 ≡ false = nonzero (get_or s.words i 0) (t + 1) other in
        (w, keeps, tt, rw not_zero l.1, rw other (l.0, learns edge_kind edge_laws tr name shape count i id me mine called inside s h at [], knows_true edge_kind edge_laws tr name shape count i id me mine called inside s h at [] (All-nil (tr name)), refl))

    claims_at : (x : FlatWord) → joined (edge_kind shape) i (gifts s.views) ≡ x → get_or s.words i 0 ≡ word_number x → (b : Bool) → is_settled (get_or s.words i 0) (t + 1) ≡ b → Goal (get_or s.words i 0)
    claims_at x is n true e = gets (get_or s.words i 0) e (rw (n, is) (claim_word x t (rw n at e)))
    claims_at x is n false e = sees e

  -- a compare-exchange from 0 gives the edge, or sees another tick
  pub claims : (slots id : ℕ) (me : Me (Unit {0}) (View T)) (i : ℕ) (mine : T) (r : Record) (t : ℕ) → me.0.name ≡ Some mine → i < count → tr mine r → is_edge_at me.0.shape i r ≡ true → edge_value r ≡ Value t
      → Allows All_ok slots id me i (λ n. either (eqb n 0) (t + 1) n) (claimed edge_kind tr r (step slots i 0 (t + 1) none) me)
  claims slots id me i mine r t called inside r_true here value s h wide at small =
      claims_at slots id me i mine r t called inside r_true here value s h at (joined (edge_kind shape) i (gifts s.views)) refl (h.words i inside) (is_settled (get_or s.words i 0) (t + 1)) refl

-- which tests a word that is not settled fails
pub unsettled : (n new : ℕ) → ¬ (n ≡ 0) → ¬ (n ≡ new) → ¬ (n ≡ CLASH) → is_settled n new ≡ false
unsettled n new a b c = rw (ne_eqb n 0 a, ne_eqb n new b, ne_eqb n CLASH c) refl

pub settled_zero : (n new : ℕ) → n ≡ 0 → is_settled n new ≡ true
settled_zero n new e = grind (arith, nat_tests)

pub settled_new : (n new : ℕ) → n ≡ new → is_settled n new ≡ true
settled_new n new e = grind (arith, nat_tests)

pub settled_clash : (n new : ℕ) → n ≡ CLASH → is_settled n new ≡ true
settled_clash n new e = grind (arith, nat_tests)

module _ {T : Type 0} (is_at : ℕ → Record → Bool) (i : ℕ) (extra : List Record) where
  -- a look, and then a gift
  pub learns_both : (v w u : View T) → Learns is_at i [] v w → Learns is_at i extra w u → Learns is_at i extra v u
  learns_both v w u a b = (
    a.0 ++ b.0,
    All-append (λ r. is_at i r ≡ true) a.0 b.0 a.1 b.1,
    b.2 ∙ ap (λ (x : View T). record x { given = x.given ++ extra; told = x.told ++ b.0 }) a.2
        ∙ ap (λ (l : List Record × List Record). record v { given = l.0 ++ extra; told = l.1 }) (λ k. (append-nil v.given k, append_assoc v.told a.0 b.0 k)),
  )

module _ {T : Type 0} (tr : T → Record → Type 0) (name : T) (shape : List (ℕ × ℕ)) (count : ℕ) where
  -- the second step, after a first that saw another tick
  pub clashes_after : (slots id : ℕ) (me me' : Me (Unit {0}) (View T)) (i n : ℕ) (mine : T) (r : Record) (t : ℕ) → me.0.name ≡ Some mine → i < count → tr mine r → is_edge_at me.0.shape i r ≡ true → edge_value r ≡ Value t
      → Learns (is_edge_at me.0.shape) i [] me.0 me'.0 → n ≡ word_number (greatest_seen (edge_kind me.0.shape) i me'.0) → is_settled n (t + 1) ≡ false
      → Allows (λ s. Holds (edge_kind shape) (tr name) name shape count s) slots id me' i (λ n. max n CLASH) (gave edge_kind tr r (step slots i CLASH 0 none) me')
  clashes_after slots id me me' i n mine r t called inside r_true here value learnt seen other =
      let same_name : me'.0.name ≡ me.0.name = ap (λ (v : View T). v.name) learnt.2 in
      let same_shape : me'.0.shape ≡ me.0.shape = ap (λ (v : View T). v.shape) learnt.2 in
      clashes tr name shape count slots id me' i mine r t (same_name ∙ called) inside r_true (subst (λ (sh : List (ℕ × ℕ)). is_edge_at sh i r ≡ true) (sym same_shape) here) value
      (subst (λ (sh : List (ℕ × ℕ)). is_settled (word_number (greatest_seen (edge_kind sh) i me'.0)) (suc t) ≡ false) (sym same_shape) (rw (add-one, seen) at other))

-- the greatest word is a clash's, and joining a clash makes one
pub clash_top : (x : FlatWord) → word_number x < 18446744073709551616 → max (word_number x) CLASH ≡ word_number (joined_flat x Clash)
clash_top Nothing small = refl
clash_top (Value t) small = omega arith
clash_top Clash small = refl
