-- Nodes that list their samples, or only count them, go on so.
use Rattle.std.proofs.Common.{◌≡◌, ℕ, ◌<◌, inl, inr, Bool, List, [], ◌∷◌, ◌++◌, length, get_or, sym, ◌∙◌, ap, subst, arith, length-append}
use Rattle.std.proofs.Math.ListN.{set, length-set}
use Rattle.std.proofs.Math.Seq.{get_or-append_seam}
use Rattle.std.proofs.lemmas.Bool.{cases_eq}
use Rattle.std.proofs.lemmas.List.{get_or_append_left, get_or-set_other, get_or-set_same}
use Rattle.wl_node.specs.Reached.{keeps_lists}
use Rattle.wl_serial.specs.declared.running_node.Running.{Running}
use Rattle.wl_serial.specs.Guess.{AreBack, AreLater}
use Rattle.wl_serial.specs.Running.{AllKeep}

-- one of them in its place
pub keep_on : (keeps : Bool) (rs : List Running) (j : ℕ) (r : Running) → j < length rs → AllKeep keeps rs
    → ((d : Running) → keeps_lists r.node ≡ keeps_lists (get_or rs j d).node) → AllKeep keeps (set rs j r)
keep_on keeps rs j r b all same i d c = elim (cases_eq i j) [
  | inl here ↦
      subst (λ n. keeps_lists (get_or (set rs j r) n d).node ≡ keeps) (sym here)
      (ap (λ x. keeps_lists x.node) (get_or-set_same rs j r d b) ∙ same d ∙ all j d b)
  | inr other ↦ ap (λ x. keeps_lists x.node) (get_or-set_other rs j i r d other) ∙ all i d (subst (λ n. i < n) (length-set rs j r) c)
]

-- one more of them, after the others
pub keep_more : (keeps : Bool) (xs ys : List Running) (x : Running) → ys ≡ xs ++ x ∷ [] → AllKeep keeps xs → keeps_lists x.node ≡ keeps → AllKeep keeps ys
keep_more keeps xs ys x e all one i d b = elim (cases_eq i (length xs)) [
  | inl here ↦ ap (λ zs. keeps_lists (get_or zs i d).node) e ∙ ap (λ n. keeps_lists (get_or (xs ++ x ∷ []) n d).node) here
      ∙ ap (λ r. keeps_lists r.node) (get_or-append_seam xs x [] d) ∙ one
  | inr other ↦
      (let long = ap length e ∙ length-append xs (x ∷ []) in
      let before : i < length xs = omega (arith, b, long, other) in
      ap (λ zs. keeps_lists (get_or zs i d).node) e ∙ ap (λ r. keeps_lists r.node) (get_or_append_left xs (x ∷ []) d i before) ∙ all i d before)
]

-- all of them later, and all of them back
pub keep_later : (keeps : Bool) (old new : List Running) → AreLater old new → AllKeep keeps old → AllKeep keeps new
keep_later keeps old new later all i d b =
    let c : i < length old = (let e = later.all in omega (arith, b, e)) in
    (later.each i d c).keeps ∙ all i d c

pub keep_back : (keeps : Bool) (old new : List Running) → AreBack old new → AllKeep keeps old → AllKeep keeps new
keep_back keeps old new back all i d b =
    let c : i < length old = (let e = back.all in omega (arith, b, e)) in
    (back.each i d c).keeps ∙ all i d c
