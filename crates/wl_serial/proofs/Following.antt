-- Each listener in turn runs on beside what the sender told.
use Rattle.std.proofs.Common.{◌≡◌, ℕ, ◌+◌, ◌≤◌, ◌≢◌, Bool, inl, inr, List, get_or, refl, sym, ◌∙◌, ap, subst, arith}
use Rattle.std.proofs.lemmas.Bool.{cases_eq, cases_lt}
use Rattle.wl_record_core.specs.Truth.{count_below, odd}
use Rattle.wl_plan.specs.declared.plan.Plan.{Plan}
use Rattle.wl_plan.specs.SimulationLaws.{SimulationLaws}
use Rattle.wl_serial.specs.declared.running_node.Running.{Running}
use Rattle.wl_serial.specs.Guess.{AreLater, HasListened, HasRunBeside, HaveListened, RanAlone}
use Rattle.wl_serial.specs.LineAt.{tells}
use Rattle.wl_serial.specs.Running.{AreSomewhere, IsLater, IsSomewhere}
use Rattle.wl_serial.proofs.Beside.{goes_as, later_none, later_then}

-- the same beside others that drove the same
pub ran_as : (plan : Plan) (i until : ℕ) (drove other : ℕ → ℕ → Bool) (a b : Running) → SimulationLaws → ((m u : ℕ) → m ≢ i → other m u ≡ drove m u)
    → HasRunBeside plan i until drove a b → HasRunBeside plan i until other a b
ran_as plan i until drove other a b laws same ran = record {
  somewhere = ran.somewhere;
  goes = goes_as plan i drove other a b laws same ran.goes;
  below = ran.below;
  known = ran.known;
  further = ran.further;
}

module _ (plan : Plan) (j until : ℕ) (old : List Running) where
  pub listened_none : HaveListened plan j until 0 old old
  listened_none = record { all = refl; each = λ i d b ne. absurd (omega (arith, b)); others = λ i d h. refl }

  -- what each of them tells is what it told
  same_told : (n : ℕ) (rs : List Running) → HaveListened plan j until n old rs → (i : ℕ) (d : Running) → (get_or rs i d).changes ≡ (get_or old i d).changes
  same_told n rs were i d = elim (cases_eq i j) [
    | inl own ↦ ap (λ r. r.changes) (were.others i d (inr own))
    | inr other ↦ elim (cases_lt i n) [
      | inl done ↦ (were.each i d done other).same
      | inr left ↦ ap (λ r. r.changes) (were.others i d (inl left))
    ]
  ]

  pub tell_alike : (n : ℕ) (rs : List Running) → HaveListened plan j until n old rs → (d : Running) (m u : ℕ) → tells rs d m u ≡ tells old d m u
  tell_alike n rs were d m u = ap (λ xs. odd (count_below (u + 1) xs)) (same_told n rs were m d)

  pub listened_somewhere : (n : ℕ) (rs : List Running) → AreSomewhere plan old → HaveListened plan j until n old rs → AreSomewhere plan rs
  listened_somewhere n rs somewhere were = record {
    all = were.all ∙ somewhere.all;
    each = λ i d b. elim (cases_eq i j) [
      | inl own ↦ subst (IsSomewhere plan i) (sym (were.others i d (inr own))) (somewhere.each i d (let e = were.all in omega (arith, b, e)))
      | inr other ↦ elim (cases_lt i n) [
        | inl done ↦ (were.each i d done other).ran.somewhere
        | inr left ↦ subst (IsSomewhere plan i) (sym (were.others i d (inl left))) (somewhere.each i d (let e = were.all in omega (arith, b, e)))
      ]
    ];
  }

  pub listened_later : (n : ℕ) (rs : List Running) → HaveListened plan j until n old rs → AreLater old rs
  listened_later n rs were = record { all = were.all; each = λ i d b. each i d }
    where
      each : (i : ℕ) (d : Running) → IsLater (get_or old i d) (get_or rs i d)
      each i d = elim (cases_eq i j) [
        | inl own ↦ subst (IsLater (get_or old i d)) (sym (were.others i d (inr own))) (later_none (get_or old i d))
        | inr other ↦ elim (cases_lt i n) [
          | inl done ↦ (were.each i d done other).ran.further
          | inr left ↦ subst (IsLater (get_or old i d)) (sym (were.others i d (inl left))) (later_none (get_or old i d))
        ]
      ]

  -- the sender is passed over
  pub listened_own : (n : ℕ) (rs : List Running) → n ≡ j → HaveListened plan j until n old rs → HaveListened plan j until (n + 1) old rs
  listened_own n rs own were = record {
    all = were.all;
    each = λ i d b ne. were.each i d (elim (cases_lt i n) [
      | inl done ↦ done
      | inr here ↦ absurd (ne (let e : i ≡ j = omega (arith, here, b, own) in e))
    ]) ne;
    others = λ i d h. elim h [
      | inl left ↦ were.others i d (inl (omega (arith, left)))
      | inr same ↦ were.others i d (inr same)
    ];
  }

  -- one listener more
  pub listened_more : (n : ℕ) (rs new : List Running) → SimulationLaws → n ≢ j → HaveListened plan j until n old rs → RanAlone plan n until rs new
      → ((d : Running) → (get_or new n d).changes ≡ (get_or rs n d).changes) → ((d : Running) → until ≤ (get_or new n d).next) → HaveListened plan j until (n + 1) old new
  listened_more n rs new laws ne were ran same reached = record {
    all = ran.all ∙ were.all;
    each = λ i d b other. elim (cases_eq i n) [
      | inl here ↦ subst (λ m. HasListened plan m until (tells old d) (get_or old m d) (get_or new m d)) (sym here) (record {
        ran = subst (λ r. HasRunBeside plan n until (tells old d) r (get_or new n d)) (were.others n d (inl (omega arith)))
            (ran_as plan n until (tells rs d) (tells old d) (get_or rs n d) (get_or new n d) laws (λ m u differs. sym (tell_alike n rs were d m u)) (ran.ran d));
        reached = reached d;
        same = same d ∙ ap (λ r. r.changes) (were.others n d (inl (omega arith)));
      })
      | inr before ↦
          subst (HasListened plan i until (tells old d) (get_or old i d)) (sym (ran.others i d before)) (were.each i d (omega (arith, b, before)) other)
    ];
    others = λ i d h. elim h [
      | inl left ↦ ran.others i d (omega (arith, left)) ∙ were.others i d (inl (omega (arith, left)))
      | inr own ↦ ran.others i d (λ e. ne (sym e ∙ own)) ∙ were.others i d (inr own)
    ];
  }

  -- one that failed
  pub failed_later : (n : ℕ) (rs new : List Running) → HaveListened plan j until n old rs → RanAlone plan n until rs new → AreLater old new
  failed_later n rs new were ran = record {
    all = ran.all ∙ were.all;
    each = λ i d b.
        let so_far = (listened_later n rs were).each i d b in
        elim (cases_eq i n) [
          | inl here ↦
              later_then (get_or old i d) (get_or rs i d) (get_or new i d) so_far (subst (λ m. IsLater (get_or rs m d) (get_or new m d)) (sym here) (ran.ran d).further)
          | inr other ↦ subst (IsLater (get_or old i d)) (sym (ran.others i d other)) so_far
        ];
  }

-- one that ran alone is later, and the others are where they were
pub ran_later : (plan : Plan) (i until : ℕ) (old new : List Running) → RanAlone plan i until old new → AreLater old new
ran_later plan i until old new ran = record {
  all = ran.all;
  each = λ k d b. elim (cases_eq k i) [
    | inl own ↦ subst (λ n. IsLater (get_or old n d) (get_or new n d)) (sym own) (ran.ran d).further
    | inr other ↦ subst (IsLater (get_or old k d)) (sym (ran.others k d other)) (later_none (get_or old k d))
  ];
}

pub all_later : (a b c : List Running) → AreLater a b → AreLater b c → AreLater a c
all_later a b c g h = record {
  all = h.all ∙ g.all;
  each = λ i d in_it. later_then (get_or a i d) (get_or b i d) (get_or c i d) (g.each i d in_it) (h.each i d (let e = g.all in omega (arith, in_it, e)));
}
