-- What the reading of a text answers.
use Rattle.std.proofs.Common.{◌≡◌, ◌∙◌, ◌+◌, ◌<◌, ℕ, List, [], ◌∷◌, ◌++◌, length, Some, None, Result, Ok, Err, Bor, sym, ap, subst, arith}
use Rattle.std.specs.Prelude.{IsErrAnd}
use Rattle.std.specs.List.{AllByRecursion}
use Rattle.std.proofs.lemmas.List.{append_assoc}
use Rattle.wl_parts.specs.declared.fault.PartsFault.{PartsFault}
use Rattle.wl_parts.specs.declared.fault.PartsFault.TheVariants as fault
use Rattle.wl_parts.specs.declared.part.SweepPart.{SweepPart}
use Rattle.wl_parts.specs.declared.read.Unread.{Unread}
use Rattle.wl_parts.specs.Reading.{GivesValue, Leaves, OnlyMemory, ReadsParts, Sets}
use Rattle.wl_parts.specs.Text.{each_words}

pub same_some : {T : Type 0} (x y : T) → Some x ≡ Some y → x ≡ y
same_some x y e = cc

pub same_ok : {E : Type 0} (m n : ℕ) → ◌≡◌ {A = Result ℕ E} (Ok m) (Ok n) → m ≡ n
same_ok m n e = cc

pub no_ok : {T E : Type 0} (e : E) (x : T) → ◌≡◌ {A = Result T E} (Err e) (Ok x) → ⊥
no_ok e x is = absurd (cc)

pub no_some : {T : Type 0} (x : T) → None ≡ Some x → ⊥
no_some x is = absurd (cc)

-- of what fits always
abbrev pub Always : List ℕ → Type 0
Always word = Unit {0}

pub all_always : (ws : List (List ℕ)) → AllByRecursion Always ws
all_always [] = tt
all_always (w ∷ ws) = (tt, all_always ws)

-- items that are left of some, one after another
module _ {T : Type 0} (words : T → List ℕ → List ℕ) (Fits : T → Type 0) (cs : List T) (end : List ℕ) where
  abbrev pub Left : List T → ℕ → ℕ → List ℕ → Type 0
  Left all counter count rest =
      (left : List T) × (all ++ left ≡ cs) × (counter + length left ≡ count) × AllByRecursion Fits left × (rest ≡ each_words words left end)

  step_by : (all : List T) (counter count : ℕ) (rest more : List ℕ) (x : T) → counter < count
      → ((c : T) (r : List ℕ) → Fits c → rest ≡ words c r → (x ≡ c) × (more ≡ r))
      → (left : List T) → all ++ left ≡ cs → counter + length left ≡ count → AllByRecursion Fits left → rest ≡ each_words words left end
      → Left (all ++ x ∷ []) (counter + 1) count more
  step_by all counter count rest more x few reads [] e n fits is = absurd (omega (arith, n))
  step_by all counter count rest more x few reads (c ∷ left) e n fits is =
      let got = reads c (each_words words left end) fits.0 is in
      (left, append_assoc all (x ∷ []) left ∙ ap (λ (y : T). all ++ y ∷ left) got.0 ∙ e, omega (arith, n), fits.1, got.1)

  -- one item more is read
  pub step : (all : List T) (counter count : ℕ) (rest more : List ℕ) (x : T) → counter < count
      → ((c : T) (r : List ℕ) → Fits c → rest ≡ words c r → (x ≡ c) × (more ≡ r)) → Left all counter count rest → Left (all ++ x ∷ []) (counter + 1) count more
  step all counter count rest more x few reads h = step_by all counter count rest more x few reads h.0 h.1 h.2 h.3 h.4

  fail_by : (P : Type 0) (counter count : ℕ) (rest : List ℕ) → counter < count → ((c : T) (r : List ℕ) → Fits c → rest ≡ words c r → P)
      → (left : List T) → counter + length left ≡ count → AllByRecursion Fits left → rest ≡ each_words words left end → P
  fail_by P counter count rest few reads [] n fits is = absurd (omega (arith, n))
  fail_by P counter count rest few reads (c ∷ left) n fits is = reads c (each_words words left end) fits.0 is

  -- or it isn't, for what its reading answers
  pub fail : (P : Type 0) (all : List T) (counter count : ℕ) (rest : List ℕ) → counter < count → ((c : T) (r : List ℕ) → Fits c → rest ≡ words c r → P)
      → Left all counter count rest → P
  fail P all counter count rest few reads h = fail_by P counter count rest few reads h.0 h.2 h.3 h.4

-- what was refused is refused on
pub gives_err : {T : Type 0} (r : Result (T × Bor (List ℕ)) Unread) (e : Unread) (x : T) (rest : List ℕ) → IsErrAnd r (λ other. other ≡ e) → OnlyMemory e → GivesValue r x rest
gives_err (Ok y) e x rest is only = absurd is
gives_err (Err f) e x rest is only = subst OnlyMemory (sym is) only

pub sets_err : {T : Type 0} (r : Result (Bor (List ℕ)) Unread) (e : Unread) (new x : T) (rest : List ℕ) → IsErrAnd r (λ other. other ≡ e) → OnlyMemory e → Sets r new x rest
sets_err (Ok y) e new x rest is only = absurd is
sets_err (Err f) e new x rest is only = subst OnlyMemory (sym is) only

pub sets_left : {T : Type 0} (r : Result (Bor (List ℕ)) Unread) (new x : T) (rest : List ℕ) → new ≡ x → Leaves r rest → Sets r new x rest
sets_left (Ok left) new x rest e h = (e, h)
sets_left (Err f) new x rest e h = h

-- what has this place has it within more
pub sets_within : {T U : Type 0} (r : Result (Bor (List ℕ)) Unread) (new x : T) (more y : U) (rest : List ℕ) → (new ≡ x → more ≡ y) → Sets r new x rest → Sets r more y rest
sets_within (Ok left) new x more y rest f h = (f h.0, h.1)
sets_within (Err e) new x more y rest f h = h

pub reads_err : (r : Result (List SweepPart) PartsFault) (e : PartsFault) (ps : List SweepPart) → IsErrAnd r (λ other. other ≡ e) → e ≡ fault.Memory → ReadsParts r ps
reads_err (Ok read) e ps is memory = absurd is
reads_err (Err f) e ps is memory = is ∙ memory
