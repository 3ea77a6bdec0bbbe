-- What the words of a plan's hub tell: never a clash, and else records that are true of the plan.
use Rattle.std.proofs.Common.{◌≡◌, ℕ, suc, ◌-◌, ◌⊎◌, inl, inr, Some, sym, subst, ◌∙◌, arith}
use Rattle.wl_record_core.specs.declared.record.Record.TheVariants.{Edge, Silence}
use Rattle.wl_record_core.specs.declared.record.Slot.TheVariants.{EdgeAt, SilenceAt}
use Rattle.wl_plan.specs.declared.plan.Plan.{Plan}
use Rattle.wl_plan.specs.PlanLine.{IsTrueOfPlan}
use Rattle.wl_lattice.specs.declared.numbers.TheConstants.{CLASH}
use Rattle.wl_hub.specs.Words.{Tells, TellsClash}

-- one change has one tick
no_clash : (plan : Plan) (n s : ℕ) → TellsClash (IsTrueOfPlan plan) n s → ⊥
no_clash plan n s (inl c) = c
no_clash plan n s (inr p) = let same : Some p.0 ≡ Some p.1 = sym p.3.1 ∙ p.4.1 in p.2 cc

clashless : (plan : Plan) (n s word : ℕ)
    → ((t : ℕ) × (word ≡ suc t) × IsTrueOfPlan plan (Edge n s t)) ⊎ ((word ≡ CLASH) × TellsClash (IsTrueOfPlan plan) n s)
    → IsTrueOfPlan plan (Edge n s (word - 1))
clashless plan n s word (inl p) = subst (λ k. IsTrueOfPlan plan (Edge n s k)) (let e = p.1 in omega arith) p.2
clashless plan n s word (inr p) = absurd (no_clash plan n s p.1)

pub edge_told : (plan : Plan) (n s word : ℕ) → Tells (IsTrueOfPlan plan) (EdgeAt n s) word → ¬ (word ≡ 0) → IsTrueOfPlan plan (Edge n s (word - 1))
edge_told plan n s word (inl none) some = absurd (some none)
edge_told plan n s word (inr h) some = clashless plan n s word h

pub silence_told : (plan : Plan) (n c word : ℕ) → Tells (IsTrueOfPlan plan) (SilenceAt n c) word → ¬ (word ≡ 0) → IsTrueOfPlan plan (Silence n c word)
silence_told plan n c word (inl none) some = absurd (some none)
silence_told plan n c word (inr h) some = h
