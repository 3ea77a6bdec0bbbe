-- What is picked of events in order is what is picked of them, in order.
use Rattle.std.proofs.Common.{◌≡◌, ◌∙◌, refl, ap, ap₂, sym, ℕ, ◌+◌, ◌<◌, ◌==◌, ◌&&◌, Bool, true, false, List, [], ◌∷◌, ◌++◌, length, get_or, take, append-nil}
use Rattle.std.specs.List.{filter, flat_map, range_with_len}
use Rattle.std.proofs.Math.Dec.{leb-zero}
use Rattle.std.proofs.lemmas.List.{map_more}
use Rattle.std.proofs.lemmas.List.Elements.{filter-append}
use Rattle.wl_clock.specs.Timing.{Timing, tick_of}
use Rattle.wl_level.specs.ByTick.{by_tick}
use Rattle.wl_trace.specs.declared.event.NodeEvent.{NodeEvent}
use Rattle.wl_trace.specs.declared.event.NodeEvent.TheVariants as events
use Rattle.wl_trace.specs.declared.event.Noted.{Noted}
use Rattle.wl_views.specs.declared.pick.EventKind.TheVariants as kinds
use Rattle.wl_views.specs.Picks.{all_errors, is_event_of, is_picked}
use Rattle.wl_views.specs.TraceText.{first_error_at, first_error_in, is_error, told_by}

module _ {X : Type 0} (p : X → Bool) where
  -- two tests, in either order
  here : (q : X → Bool) (x : X) (xs : List X) (b c : Bool) → p x ≡ b → q x ≡ c → filter p (filter q xs) ≡ filter q (filter p xs)
      → filter p (filter q (x ∷ xs)) ≡ filter q (filter p (x ∷ xs))
  here q x xs true true is also same = rw also rw is rw also (ap (λ ys. x ∷ ys) same)
  here q x xs true false is also same = rw also rw is rw also same
  here q x xs false true is also same = rw also rw is same
  here q x xs false false is also same = rw also rw is same

  pub both_ways : (q : X → Bool) (xs : List X) → filter p (filter q xs) ≡ filter q (filter p xs)
  both_ways q [] = refl
  both_ways q (x ∷ xs) = here q x xs (p x) (q x) refl refl (both_ways q xs)

  -- of each piece of a list
  pub piece_by_piece : {A : Type 0} (f : A → List X) (all : List A) → filter p (flat_map f all) ≡ flat_map (λ a. filter p (f a)) all
  piece_by_piece f [] = refl
  piece_by_piece f (a ∷ all) = filter-append p (f a) (flat_map f all) ∙ ap (λ ys. filter p (f a) ++ ys) (piece_by_piece f all)

same_pieces : {A X : Type 0} (f g : A → List X) (all : List A) → ((a : A) → f a ≡ g a) → flat_map f all ≡ flat_map g all
same_pieces f g [] same = refl
same_pieces f g (a ∷ all) same = ap₂ (λ x y. x ++ y) (same a) (same_pieces f g all same)

pub picked_by_tick : {X : Type 0} (p : ℕ × X → Bool) (end : ℕ) (xs : List (ℕ × X)) → filter p (by_tick end xs) ≡ by_tick end (filter p xs)
picked_by_tick p end xs =
    piece_by_piece p (λ (t : ℕ). filter (λ x. x.0 == t) xs) (range_with_len 0 end)
    ∙ same_pieces (λ (t : ℕ). filter p (filter (λ x. x.0 == t) xs)) (λ (t : ℕ). filter (λ x. x.0 == t) (filter p xs)) (range_with_len 0 end) (λ t. both_ways p (λ x. x.0 == t) xs)

-- an event more that is picked, and one that isn't
told_one_more : (p : ℕ × (ℕ × Noted) → Bool) (clock : Timing) (i : ℕ) (es : List Noted) (k : ℕ) (d : Noted) → k < length es
    → filter p (told_by clock i (take (k + 1) es)) ≡ filter p (told_by clock i (take k es)) ++ filter p ((tick_of clock (get_or es k d).quantum, (i, get_or es k d)) ∷ [])
told_one_more p clock i es k d within =
    ap (filter p) (map_more (λ (n : Noted). (tick_of clock n.quantum, (i, n))) es k d within)
    ∙ filter-append p (told_by clock i (take k es)) ((tick_of clock (get_or es k d).quantum, (i, get_or es k d)) ∷ [])

pub one_picked : (p : ℕ × (ℕ × Noted) → Bool) (clock : Timing) (i : ℕ) (es : List Noted) (k : ℕ) (d : Noted) → k < length es
    → p (tick_of clock (get_or es k d).quantum, (i, get_or es k d)) ≡ true
    → filter p (told_by clock i (take (k + 1) es)) ≡ filter p (told_by clock i (take k es)) ++ (tick_of clock (get_or es k d).quantum, (i, get_or es k d)) ∷ []
one_picked p clock i es k d within is = told_one_more p clock i es k d within ∙ rw is refl

pub none_picked : (p : ℕ × (ℕ × Noted) → Bool) (clock : Timing) (i : ℕ) (es : List Noted) (k : ℕ) (d : Noted) → k < length es
    → p (tick_of clock (get_or es k d).quantum, (i, get_or es k d)) ≡ false
    → filter p (told_by clock i (take (k + 1) es)) ≡ filter p (told_by clock i (take k es))
none_picked p clock i es k d within is = told_one_more p clock i es k d within ∙ rw is (append-nil (filter p (told_by clock i (take k es))))

-- errors are what the kind names
error_kind : (event : NodeEvent) → is_event_of kinds.Error event ≡ is_error event
error_kind (events.ArbitrationLost place) = refl
error_kind (events.Error kind sends stuff place) = refl
error_kind (events.Flag form) = refl
error_kind (events.Sent frame) = refl
error_kind (events.Received frame) = refl
error_kind (events.ModeChanged counts) = refl
error_kind events.HardSynchronised = refl
error_kind (events.Resynchronised error) = refl

picked_is : (x : ℕ × (ℕ × Noted)) → is_error x.1.1.event ≡ is_picked all_errors x
picked_is x = sym (ap (λ b. (b && true) && is_event_of kinds.Error x.1.1.event) (leb-zero x.0) ∙ error_kind x.1.1.event)

-- the first error is the first of the errors
first_in : (names : List (List ℕ)) (x : ℕ × (ℕ × Noted)) (told : List (ℕ × (ℕ × Noted))) (b : Bool) → is_picked all_errors x ≡ b → is_error x.1.1.event ≡ b
    → first_error_in names (filter (is_picked all_errors) told) ≡ first_error_in names told
    → first_error_in names (filter (is_picked all_errors) (x ∷ told)) ≡ first_error_in names (x ∷ told)
first_in names x told true picked is same = rw picked rw is refl
first_in names x told false picked is same = rw picked rw is same

pub first_of_errors : (names : List (List ℕ)) (told : List (ℕ × (ℕ × Noted))) → first_error_in names (filter (is_picked all_errors) told) ≡ first_error_in names told
first_of_errors names [] = refl
first_of_errors names (x ∷ told) = first_in names x told (is_picked all_errors x) refl (picked_is x) (first_of_errors names told)

first_at : (x : ℕ × (ℕ × Noted)) (told : List (ℕ × (ℕ × Noted))) (b : Bool) → is_picked all_errors x ≡ b → is_error x.1.1.event ≡ b
    → first_error_at (filter (is_picked all_errors) told) ≡ first_error_at told
    → first_error_at (filter (is_picked all_errors) (x ∷ told)) ≡ first_error_at (x ∷ told)
first_at x told true picked is same = rw picked rw is refl
first_at x told false picked is same = rw picked rw is same

pub first_tick_of_errors : (told : List (ℕ × (ℕ × Noted))) → first_error_at (filter (is_picked all_errors) told) ≡ first_error_at told
first_tick_of_errors [] = refl
first_tick_of_errors (x ∷ told) = first_at x told (is_picked all_errors x) refl (picked_is x) (first_tick_of_errors told)
