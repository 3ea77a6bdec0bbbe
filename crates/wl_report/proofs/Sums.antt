-- Sums over all nodes, and the verdict.
use Rattle.std.proofs.Common.{◌≡◌, refl, ap, sym, ◌∙◌, arith, ℕ, List, [], ◌∷◌, get_or, Bool, true, false}
use Rattle.std.specs.Prelude.{◌==◌, ◌&&◌, cond, codes}
use Rattle.std.specs.List.{list_all, sum_by, All}
use Rattle.std.proofs.lemmas.List.Folds.{sum_by-zero}
use Rattle.std.proofs.lemmas.List.Elements.{All-weaker}
use Rattle.std.proofs.lemmas.Bool.{eqb-true}
use Rattle.wl_serial.specs.declared.outcome.NodeTotals.{NodeTotals}
use Rattle.wl_report.specs.Lines.{line}
use Rattle.wl_report.specs.Report.{is_clean, faulty_line, verdict_line}
use Rattle.wl_node.proofs.Callers.{all_pass, passes_each}
use Rattle.wl_report.specs.Verdict.{CleanIsClean}

abbrev pub no_errors : NodeTotals → Bool
no_errors n = n.errors == 0

abbrev pub none_unsent : NodeTotals → Bool
none_unsent n = n.unsent == 0

both : (a b c d : Bool) → ((a && b) && (c && d)) ≡ ((a && c) && (b && d))
both true true c d = refl
both true false true d = refl
both true false false d = refl
both false b c d = refl

split_clean : (nodes : List NodeTotals) → list_all is_clean nodes ≡ (list_all no_errors nodes && list_all none_unsent nodes)
split_clean [] = refl
split_clean (n ∷ nodes) =
    ap (λ t. (no_errors n && none_unsent n) && t) (split_clean nodes)
    ∙ both (no_errors n) (none_unsent n) (list_all no_errors nodes) (list_all none_unsent nodes)

-- no node has an error and none has a frame left where both sums are zero
pub clean_by_sums : (nodes : List NodeTotals)
    → list_all is_clean nodes ≡ ((sum_by (λ n. n.errors) nodes == 0) && (sum_by (λ n. n.unsent) nodes == 0))
clean_by_sums nodes =
    split_clean nodes
    ∙ (λ i. sym (sum_by-zero (λ n. n.errors) nodes) i && sym (sum_by-zero (λ n. n.unsent) nodes) i)

-- the verdict where the test came out so
verdict_by : (nodes : List NodeTotals) (b : Bool) → list_all is_clean nodes ≡ b
    → verdict_line nodes ≡ cond b (line (codes "verdict") (codes "clean" ∷ [])) (faulty_line nodes)
verdict_by nodes b is = ap (λ (t : Bool). cond t (line (codes "verdict") (codes "clean" ∷ [])) (faulty_line nodes)) is

pub verdict_clean : (nodes : List NodeTotals) → sum_by (λ n. n.errors) nodes ≡ 0 → sum_by (λ n. n.unsent) nodes ≡ 0
    → verdict_line nodes ≡ line (codes "verdict") (codes "clean" ∷ [])
verdict_clean nodes errors unsent =
    verdict_by nodes true (clean_by_sums nodes ∙ (λ i. (errors i == 0) && (unsent i == 0)))

some_left : (m n : ℕ) → (m ≡ 0 → n ≡ 0 → ⊥) → ((m == 0) && (n == 0)) ≡ false
some_left m n some = by_tests (m == 0) (n == 0) refl refl
  where
    by_tests : (a b : Bool) → (m == 0) ≡ a → (n == 0) ≡ b → (a && b) ≡ false
    by_tests true true x y = absurd (some (eqb-true m 0 x) (eqb-true n 0 y))
    by_tests true false x y = refl
    by_tests false b x y = refl

pub verdict_faulty : (nodes : List NodeTotals)
    → (sum_by (λ n. n.errors) nodes ≡ 0 → sum_by (λ n. n.unsent) nodes ≡ 0 → ⊥) → verdict_line nodes ≡ faulty_line nodes
verdict_faulty nodes some =
    verdict_by nodes false (clean_by_sums nodes ∙ some_left (sum_by (λ n. n.errors) nodes) (sum_by (λ n. n.unsent) nodes) some)

-- a node passes the test where it has no error and no frame left
passes_clean : (n : NodeTotals) → is_clean n ≡ true → (n.errors ≡ 0) × (n.unsent ≡ 0)
passes_clean n h = by_tests (n.errors == 0) (n.unsent == 0) refl refl h
  where
    by_tests : (a b : Bool) → (n.errors == 0) ≡ a → (n.unsent == 0) ≡ b → (a && b) ≡ true → (n.errors ≡ 0) × (n.unsent ≡ 0)
    by_tests true true x y k = (eqb-true n.errors 0 x, eqb-true n.unsent 0 y)
    by_tests true false x y k = absurd (cc)
    by_tests false b x y k = absurd (cc)

clean_passes : (n : NodeTotals) → (n.errors ≡ 0) × (n.unsent ≡ 0) → is_clean n ≡ true
clean_passes n h = λ i. (h.0 i == 0) && (h.1 i == 0)

differ : (m n : ℕ) → m ≡ n → m ≡ 102 → n ≡ 99 → ⊥
differ m n h f c = omega arith

-- the verdicts differ
not_both : (nodes : List NodeTotals) → faulty_line nodes ≡ line (codes "verdict") (codes "clean" ∷ []) → ⊥
not_both nodes h = differ 102 99 (ap (λ text. get_or text 8 0) h) refl refl

all_clean : (nodes : List NodeTotals) (b : Bool) → list_all is_clean nodes ≡ b
    → verdict_line nodes ≡ line (codes "verdict") (codes "clean" ∷ []) → All (λ n. is_clean n ≡ true) nodes
all_clean nodes true is h = passes_each is_clean nodes is
all_clean nodes false is h = absurd (not_both nodes (sym (verdict_by nodes false is) ∙ h))

pub clean : CleanIsClean
clean nodes = (
  λ h. All-weaker (λ n. is_clean n ≡ true) (λ n. (n.errors ≡ 0) × (n.unsent ≡ 0)) passes_clean nodes (all_clean nodes (list_all is_clean nodes) refl h),
  λ h. verdict_by nodes true (all_pass is_clean nodes
      (All-weaker (λ n. (n.errors ≡ 0) × (n.unsent ≡ 0)) (λ n. is_clean n ≡ true) clean_passes nodes h)),
)
