-- The oscillators of the first nodes, and those of all.
use Rattle.std.proofs.Common.{◌≡◌, ◌∙◌, ℕ, ◌+◌, ◌<◌, ◌≤◌, List, [], ◌∷◌, ◌++◌, length, get_or, drop, Option, Some, None, option_map, option_and_then, refl, sym, ap, append_assoc, add-one, arith, suc}
use Rattle.std.proofs.Math.Seq.{drop-cons}
use Rattle.std.proofs.lemmas.List.{append-nil, drop_all}
use Rattle.wl_node.specs.declared.setup.NodeSetup.{NodeSetup}
use Rattle.wl_setup.specs.declared.bus.Deviation.{Deviation}
use Rattle.wl_bound.specs.Families.{members_of}
use Rattle.wl_bound.specs.Oscillators.{Pace, oscillator_of}
use Rattle.wl_margin.specs.Margins.{paces_of}

-- a node, and those that are left after it
left_from : (ds : List Deviation) (n : ℕ) (d : Deviation) → n < length ds → d ≡ get_or ds n d → drop n ds ≡ d ∷ drop (n + 1) ds
left_from ds n d within is = rw add-one (drop-cons ds n d within ∙ ap (λ x. x ∷ drop (suc n) ds) (sym is))

-- these, and the ones of the nodes that are left after them
abbrev pub IsSoFar : List Pace → ℕ → List Deviation → Type 0
IsSoFar front n ds = option_map (λ ps. front ++ ps) (paces_of (drop n ds)) ≡ paces_of ds

pub at_first : (ds : List Deviation) → IsSoFar [] 0 ds
at_first ds = same (paces_of ds) where
  same : (o : Option (List Pace)) → option_map (λ ps. [] ++ ps) o ≡ o
  same None = refl
  same (Some ps) = refl

more : (front : List Pace) (p : Pace) (o : Option (List Pace))
    → option_map (λ ps. (front ++ p ∷ []) ++ ps) o ≡ option_map (λ ps. front ++ ps) (option_map (λ ps. p ∷ ps) o)
more front p None = refl
more front p (Some ps) = ap Some (append_assoc front (p ∷ []) ps)

-- one more
pub one_more : (front new : List Pace) (n : ℕ) (ds : List Deviation) (d : Deviation) (p : Pace) → n < length ds → d ≡ get_or ds n d
    → oscillator_of d.rates d.tolerance ≡ Some p → new ≡ front ++ p ∷ [] → IsSoFar front n ds → IsSoFar new (n + 1) ds
one_more front new n ds d p within is made grown part =
    let before = rw (left_from ds n d within is, made) at part in rw grown (more front p (paces_of (drop (n + 1) ds)) ∙ before)

-- one is none
pub none_there : (front : List Pace) (n : ℕ) (ds : List Deviation) (d : Deviation) → n < length ds → d ≡ get_or ds n d
    → oscillator_of d.rates d.tolerance ≡ None → IsSoFar front n ds → None ≡ paces_of ds
none_there front n ds d within is none part = rw (left_from ds n d within is, none) at part

-- all are there
pub all_there : (front : List Pace) (n : ℕ) (ds : List Deviation) → length ds ≤ n → IsSoFar front n ds → Some front ≡ paces_of ds
all_there front n ds past part = rw (drop_all n ds past, append-nil front) at part

-- as many as there are nodes
pub paces-length : (ds : List Deviation) (ps : List Pace) → paces_of ds ≡ Some ps → length ps ≡ length ds
paces-length [] ps is = let none : ps ≡ [] = cc in rw none refl
paces-length (d ∷ ds) ps is = counted (oscillator_of d.rates d.tolerance) (paces_of ds) is (paces-length ds) where
  counted : (o : Option Pace) (q : Option (List Pace)) → option_and_then (λ p. option_map (λ rest. p ∷ rest) q) o ≡ Some ps
      → ((rest : List Pace) → q ≡ Some rest → length rest ≡ length ds) → length ps ≡ length (d ∷ ds)
  counted None q made same = cc
  counted (Some p) None made same = cc
  counted (Some p) (Some rest) made same = let are : ps ≡ p ∷ rest = cc in rw (are, same rest refl) refl

-- as many members of a family
pub members-length : (nodes : List NodeSetup) (ps : List Pace) → length ps ≡ length nodes → length (members_of nodes ps) ≡ length nodes
members-length [] ps e = refl
members-length (node ∷ nodes) [] e = absurd (omega arith)
members-length (node ∷ nodes) (p ∷ ps) e = (let rest = members-length nodes ps (omega arith) in rw rest refl)
