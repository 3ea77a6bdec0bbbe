-- A node that leaves the bus: what comes before and after it does.
use Rattle.std.proofs.Common.{◌≡◌, ◌∙◌, ℕ, ◌+◌, ◌-◌, ◌<◌, ◌≤◌, Bool, true, false, nat_lt, List, [], ◌∷◌, ◌++◌, length, take, drop, Option, Some, None, inl, inr, refl, sym, ap, arith, append-nil, length-append}
use Rattle.std.proofs.Math.Seq.{take-append-add}
use Rattle.std.proofs.lemmas.Bool.{cases_lt, leb-true, leb-false, le-ltb, ltb-false, ltb-true, lt-ltb}
use Rattle.std.proofs.lemmas.List.{drop_all, drop-append-le, length-drop, length-take, take_all, take-append-le}
use Rattle.wl_level.specs.declared.Level.{Level}
use Rattle.wl_level.specs.declared.Level.TheVariants.{Recessive}
use Rattle.wl_node.specs.declared.setup.NodeSetup.{NodeSetup}
use Rattle.wl_node.specs.History.{History, no_history, staying_history, left_history, levels_there, levels_away, history_of, is_after, quanta_before, has_left}
use Rattle.wl_node.proofs.Turns.{history_first}

-- what a node that has left keeps of its history
pub record IsSamePast (h past : History) : Type 0 where
  pub inputs : h.inputs ≡ past.inputs
  pub happened : h.happened ≡ past.happened
  pub samples : h.samples ≡ past.samples
  pub frames : h.frames ≡ past.frames
  pub syncs : h.syncs ≡ past.syncs

left_same : (h : History) (levels : List Level) → IsSamePast (left_history h levels) h
left_same h [] = record { inputs = refl; happened = refl; samples = refl; frames = refl; syncs = refl }
left_same h (level ∷ levels) = record { inputs = refl; happened = refl; samples = refl; frames = refl; syncs = refl }

pub same_past : (setup : NodeSetup) (levels : List Level) → IsSamePast (history_of setup levels) (staying_history setup (levels_there setup.until levels))
unfolding history_of
same_past setup levels = left_same (staying_history setup (levels_there setup.until levels)) (levels_away setup.until levels)

-- A node that doesn't leave is one that stays.
pub history_there : (setup : NodeSetup) (levels : List Level) → levels_there setup.until levels ≡ levels → levels_away setup.until levels ≡ [] → history_of setup levels ≡ staying_history setup levels
unfolding history_of
history_there setup levels there away = ap (λ ls. left_history (staying_history setup ls) (levels_away setup.until levels)) there ∙ ap (left_history (staying_history setup levels)) away

pub stays_on : (setup : NodeSetup) (levels : List Level) → setup.until ≡ None → history_of setup levels ≡ staying_history setup levels
stays_on setup levels e = history_there setup levels (ap (λ u. levels_there u levels) e) (ap (λ u. levels_away u levels) e)

-- one that has left drives recessive
left_drive : (h : History) (levels : List Level) → 0 < length levels → (left_history h levels).drive ≡ Recessive
left_drive h [] some = absurd (omega arith)
left_drive h (level ∷ levels) some = refl

pub away_drive : (setup : NodeSetup) (levels : List Level) → 0 < length (levels_away setup.until levels) → (history_of setup levels).drive ≡ Recessive
unfolding history_of
away_drive setup levels some = left_drive (staying_history setup (levels_there setup.until levels)) (levels_away setup.until levels) some

-- all levels come before it leaves
pub record AreThere (until : Option ℕ) (levels : List Level) : Type 0 where
  pub there : levels_there until levels ≡ levels
  pub away : levels_away until levels ≡ []

pub all_of : (n : ℕ) (levels : List Level) → length levels ≤ n → AreThere (Some n) levels
all_of n levels few = record { there = take_all n levels few; away = drop_all n levels few }

-- as many as come before it leaves
pub are_there : (until : Option ℕ) (levels more : List Level) (quantum most : ℕ) → quantum ≡ length (levels_there until levels) → 0 < most → most ≤ quanta_before until quantum most
    → length more ≤ most → AreThere until (levels ++ more)
are_there None levels more quantum most e some few less = record { there = refl; away = refl }
are_there (Some n) levels more quantum most e some few less =
    let taken = length-take n levels in
    let long = length-append levels more in
    all_of n (levels ++ more) (omega (arith, e, taken, long, few, some, less))

pub are_there_now : (until : Option ℕ) (levels : List Level) (quantum most : ℕ) → quantum ≡ length (levels_there until levels) → 0 < most → most ≤ quanta_before until quantum most → AreThere until levels
are_there_now None levels quantum most e some few = record { there = refl; away = refl }
are_there_now (Some n) levels quantum most e some few =
    (let taken = length-take n levels in all_of n levels (omega (arith, e, taken, few, some)))

-- it leaves with the next quantum, or has left
pub record HaveLeft (until : Option ℕ) (levels more : List Level) : Type 0 where
  pub there : levels_there until (levels ++ more) ≡ levels_there until levels
  pub away : length (levels_away until (levels ++ more)) ≡ length (levels_away until levels) + length more

pub have_left : (until : Option ℕ) (levels more : List Level) (quantum : ℕ) → quantum ≡ length (levels_there until levels) → is_after until quantum ≡ true → HaveLeft until levels more
have_left None levels more quantum e after = cc
have_left (Some n) levels more quantum e after =
    let taken = length-take n levels in
    let less = leb-true n quantum after in
    let few : n ≤ length levels = omega (arith, taken, less, e) in
    record {
      there = take-append-le n levels more few;
      away = ap length (drop-append-le n levels more few) ∙ length-append (drop n levels) more;
    }

-- and one more quantum comes before it
pub next_there : (until : Option ℕ) (levels : List Level) (level : Level) (quantum : ℕ) → quantum ≡ length (levels_there until levels) → is_after until quantum ≡ false
    → AreThere until levels × AreThere until (levels ++ level ∷ [])
next_there None levels level quantum e after = (record { there = refl; away = refl }, record { there = refl; away = refl })
next_there (Some n) levels level quantum e after =
    let taken = length-take n levels in
    let more = leb-false n quantum after in
    let long = length-append levels (level ∷ []) in
    (all_of n levels (omega (arith, e, taken, more)), all_of n (levels ++ level ∷ []) (omega (arith, e, taken, more, long)))

-- a level has come at which it wasn't there any more
pub left_is : (until : Option ℕ) (levels : List Level) → has_left until levels ≡ nat_lt 0 (length (levels_away until levels))
left_is None levels = refl
left_is (Some n) levels = by (nat_lt n (length levels)) refl
  where
    by : (b : Bool) → nat_lt n (length levels) ≡ b → nat_lt n (length levels) ≡ nat_lt 0 (length (drop n levels))
    by true e = e ∙ sym (lt-ltb 0 (length (drop n levels)) (let l = length-drop n levels in let m = ltb-true n (length levels) e in omega (arith, l, m)))
    by false e = e ∙ sym (le-ltb 0 (length (drop n levels)) (let l = length-drop n levels in let m = ltb-false n (length levels) e in omega (arith, l, m)))

-- one that hasn't is there
pub not_left : (until : Option ℕ) (levels : List Level) → length (levels_away until levels) ≡ 0 → AreThere until levels
not_left None levels e = record { there = refl; away = refl }
not_left (Some n) levels e = (let l = length-drop n levels in all_of n levels (omega (arith, e, l)))

-- before any level it is there
pub none_yet : (until : Option ℕ) → AreThere until []
none_yet None = record { there = refl; away = refl }
none_yet (Some n) = all_of n [] (omega arith)

-- with more levels those before it leaves are the same and some more
pub there_more : (until : Option ℕ) (levels more : List Level) → (rest : List Level) × (levels_there until (levels ++ more) ≡ levels_there until levels ++ rest)
there_more None levels more = (more, refl)
there_more (Some n) levels more = elim (cases_lt n (length levels)) [
  | inl past ↦ ([], take-append-le n levels more (omega (arith, past)) ∙ sym (append-nil (take n levels)))
  | inr within ↦ (
    take (n - length levels) more,
    (let e : n ≡ length levels + (n - length levels) = omega (arith, within) in
        ap (λ k. take k (levels ++ more)) e ∙ (take-append-add levels more (n - length levels) ∙ ap (λ ls. ls ++ take (n - length levels) more) (sym (take_all n levels within)))),
  )
]

-- each level is one of those before it leaves, or one of those after that
pub there_and_away : (until : Option ℕ) (levels : List Level) → length (levels_there until levels) + length (levels_away until levels) ≡ length levels
there_and_away None levels = omega arith
there_and_away (Some n) levels = (let t = length-take n levels in let d = length-drop n levels in omega (arith, t, d))

-- what a node that hasn't left promises
pub not_left_is : (until : Option ℕ) (levels : List Level) → length (levels_away until levels) ≡ 0 → has_left until levels ≡ false
not_left_is until levels e = left_is until levels ∙ le-ltb 0 (length (levels_away until levels)) (omega (arith, e))

-- before any level a node of any setup is as it was at first
pub history_begins : (setup : NodeSetup) → history_of setup [] ≡ no_history
history_begins setup = (let yet = none_yet setup.until in history_there setup [] yet.there yet.away ∙ history_first setup)
