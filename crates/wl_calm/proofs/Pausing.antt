-- One pulse more of a run, in the search for a pause.
use Rattle.std.proofs.Common.{◌≡◌, inl, inr, sym, subst, arith, ℕ, ◌+◌, ◌<◌, ◌≤◌, min, Bool, true, false, cond}
use Rattle.std.proofs.lemmas.Bool.{cases_lt}
use Rattle.wl_plan.specs.declared.plan.Plan.{Plan}
use Rattle.wl_onward.specs.Silences.{IsPause, is_driven}

-- no pause begins before `from`, and since then nobody has driven dominant up to `at`
pub record Searched (plan : Plan) (settled long from at : ℕ) : Type 0 where
  pub later : settled ≤ from
  pub order : from ≤ at
  pub within : at ≤ plan.end
  pub quiet : (t : ℕ) → from ≤ t → t < at → is_driven plan t ≡ false
  pub none : (t : ℕ) → settled ≤ t → t < from → IsPause plan long t → ⊥

module _ (plan : Plan) (settled long from at until next : ℕ) (was : Searched plan settled long from at) (short : at ≤ from + long) (below : at < plan.end) (more : at < until) (is : next ≡ min until plan.end) where
  by_pulse : (b : Bool) → ((t : ℕ) → at ≤ t → t < until → is_driven plan t ≡ b) → Searched plan settled long (cond b next from) next
  by_pulse true pulse = record {
    later = (let a = was.later in let o = was.order in omega arith);
    order = omega arith;
    within = omega arith;
    quiet = λ t low high. absurd (omega arith);
    none = λ t low high pause. elim (cases_lt t from) [
      | inl before ↦ was.none t low before pause
      | inr there ↦ elim (cases_lt at t) [
        | inl past ↦ (let dominant = pulse t (omega arith) (omega arith) in let recessive = pause.quiet t (omega arith) (omega arith) in cc)
        | inr early ↦ (let dominant = pulse at (omega arith) (omega arith) in let recessive = pause.quiet at (omega arith) (omega arith) in cc)
      ]
    ];
  }
  by_pulse false pulse = record {
    later = was.later;
    order = (let o = was.order in omega arith);
    within = omega arith;
    quiet = λ t low high. elim (cases_lt t at) [
      | inl before ↦ was.quiet t low before
      | inr there ↦ pulse t there (omega arith)
    ];
    none = was.none;
  }

  pub searched_more : (b : Bool) (start : ℕ) → start ≡ cond b next from → ((t : ℕ) → at ≤ t → t < until → is_driven plan t ≡ b) → Searched plan settled long start next
  searched_more b start e pulse = subst (λ s. Searched plan settled long s next) (sym e) (by_pulse b pulse)

-- so a pause begins no earlier
pub none_before : (plan : Plan) (settled long from at t : ℕ) → Searched plan settled long from at → settled ≤ t → IsPause plan long t → from ≤ t
none_before plan settled long from at t was low pause = elim (cases_lt t from) [
  | inl before ↦ absurd (was.none t low before pause)
  | inr there ↦ there
]
