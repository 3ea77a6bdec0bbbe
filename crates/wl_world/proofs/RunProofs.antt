-- Lists of events, in parts.
use Rattle.std.proofs.lemmas.List.{take_more}
use Rattle.std.proofs.Common.{◌≡◌, ℕ, ◌+◌, ◌<◌, length, take, get_or, List, [], ◌∷◌, ◌++◌, refl, sym, ◌∙◌, ap, subst, Result, Ok, Err, OnOk, OnErr, IfErr}
use Rattle.wl_plan.specs.Line.{Line}
use Rattle.wl_world.specs.declared.events.Event.{Event}
use Rattle.wl_world.specs.declared.events.Answer.{Answer}
use Rattle.wl_world.specs.Scene.{Cast, Scene, run, answers, answer, happens, start}
use Rattle.wl_world.specs.Steps.{HasStepped}
use Rattle.wl_world.proofs.RoundProofs.{run_append}

answers_append : (l : Line) (c : Cast) (es fs : List Event) (w : Scene) → answers l c (es ++ fs) w ≡ answers l c es w ++ answers l c fs (run l c es w)
answers_append l c [] fs w = refl
answers_append l c (e ∷ es) fs w = ap (λ v. answer l c w e ∷ v) (answers_append l c es fs (happens l c w e))

-- one event more
at_more : {A : Type 0} (at : Scene → A → Type 0) (l : Line) (c : Cast) (es : List Event) (e : Event) (w : Scene) (new : A) → at (happens l c (run l c es w) e) new → at (run l c (es ++ e ∷ []) w) new
at_more at l c es e w new h = subst (λ v. at v new) (sym (run_append l c es (e ∷ []) w)) h

told_more : (l : Line) (c : Cast) (es : List Event) (e : Event) (w : Scene) (told : List Answer) (a : Answer) → told ≡ answers l c es w → a ≡ answer l c (run l c es w) e → told ++ a ∷ [] ≡ answers l c (es ++ e ∷ []) w
told_more l c es e w told a p q =
    ap (λ v. v ++ a ∷ []) p ∙ (ap (λ v. answers l c es w ++ v ∷ []) q ∙ sym (answers_append l c es (e ∷ []) w))

-- from the start
pub at_start : {A : Type 0} (at : Scene → A → Type 0) (l : Line) (c : Cast) (before es : List Event) (new : A) → at (run l c es (run l c before (start l c))) new → at (run l c (before ++ es) (start l c)) new
at_start at l c before es new h = subst (λ v. at v new) (sym (run_append l c before es (start l c))) h

-- a step for the line and the cast that stayed
pub stepped_on : {A : Type 0} (at : Scene → A → Type 0) (l l' : Line) (c c' : Cast) (e : Event) (old new : A) (a : Answer) → l' ≡ l → c' ≡ c → HasStepped at l' c' e old new a → HasStepped at l c e old new a
stepped_on at l l' c c' e old new a p q h = subst (λ k. HasStepped at k c e old new a) p (subst (λ k. HasStepped at l' k e old new a) q h)

pub reached_more : {A : Type 0} (at : Scene → A → Type 0) (l : Line) (c : Cast) (es : List Event) (i : ℕ) (d : Event) (w : Scene) (mid new : A) (a : Answer) → i < length es → at (run l c (take i es) w) mid → HasStepped at l c (get_or es i d) mid new a → at (run l c (take (i + 1) es) w) new
reached_more at l c es i d w mid new a b h s = subst (λ v. at (run l c v w) new) (sym (take_more es i d b)) (at_more at l c (take i es) (get_or es i d) w new (s (run l c (take i es) w) h).1)

pub answered_more : {A : Type 0} (at : Scene → A → Type 0) (l : Line) (c : Cast) (es : List Event) (i : ℕ) (d : Event) (w : Scene) (mid new : A) (a : Answer) (told : List Answer) → i < length es → at (run l c (take i es) w) mid → HasStepped at l c (get_or es i d) mid new a → told ≡ answers l c (take i es) w → told ++ a ∷ [] ≡ answers l c (take (i + 1) es) w
answered_more at l c es i d w mid new a told b h s t =
    told_more l c (take i es) (get_or es i d) w told a t (s (run l c (take i es) w) h).0 ∙ ap (λ v. answers l c v w) (sym (take_more es i d b))

-- a fact that holds anyway holds where there is an answer, and where there is none
pub on_ok : {T E P : Type 0} (r : Result T E) → P → OnOk r P
on_ok (Ok x) p = p
on_ok (Err e) p = tt

pub on_err : {T E P : Type 0} (r : Result T E) → P → OnErr r P
on_err (Ok x) p = tt
on_err (Err e) p = p

pub if_err : {T E : Type 0} (P : E → Type 0) (r : Result T E) → ((e : E) → P e) → IfErr r P
if_err P (Ok x) p = tt
if_err P (Err e) p = p e
