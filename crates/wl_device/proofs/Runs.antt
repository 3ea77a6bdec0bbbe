-- A run of calls, one call at a time.
use Rattle.std.specs.Prelude.{Bool, true, false, nat_eq, ◌≡◌, ◌≢◌, ◌-◌, take, drop, ℕ, ◌+◌, ◌<◌, List, [], ◌∷◌, ◌++◌, length, refl}
use Rattle.std.specs.List.{AllByRecursion}
use Rattle.std.proofs.lemmas.Bool.{eqb-true}
use Rattle.std.proofs.Common.{sym, ap, ◌∙◌, subst, arith, inl, inr, length-append, length-drop, append_assoc}
use Rattle.wl_device.specs.declared.device.Put.TheVariants as put
use Prim.Native.Nat.{zero, suc}
use Rattle.std.proofs.lemmas.List.{append-nil, nil_from_length, take_all}
use Rattle.wl_device.specs.Limits.{most_calls}
use Rattle.wl_device.specs.Readings.{Reads, going_on}
use Rattle.wl_device.specs.Devices.{write_answer, Answer, moved, ended, again, failed, Run, moved_bytes, GoesOn, AllGoOn, WentOut, BrokeOff}

-- before the first call nothing has been given
pub nothing_given : {S : Type 0} (gives : S → Answer → S → Type 0) (s : S) → Reads gives s [] going_on s
nothing_given gives s = ([], record { run = refl; bytes_are = refl; ends = tt; few = omega arith })

-- n calls so far, all of which went on, moved these bytes
pub record SoFar {S : Type 0} (gives : S → Answer → S → Type 0) (s : S) (bytes : List ℕ) (n : ℕ) (t : S) (answers : List Answer) : Type 0 where
  pub run : Run gives s answers t
  pub bytes_are : moved_bytes answers ≡ bytes
  pub goes : AllGoOn answers
  pub calls : length answers ≡ n

pub run_more : {S : Type 0} (gives : S → Answer → S → Type 0) (s : S) (answers : List Answer) (t : S) (a : Answer) (u : S) → Run gives s answers t → gives t a u → Run gives s (answers ++ a ∷ []) u
run_more gives s [] t a u h g = (u, subst (λ x. gives x a u) (sym h) g, refl)
run_more gives s (b ∷ answers) t a u h g = (h.0, h.1, run_more gives h.0 answers t a u h.2 g)

pub run_on : {S : Type 0} (gives : S → Answer → S → Type 0) (s : S) (answers : List Answer) (t : S) (more : List Answer) (u : S) → Run gives s answers t → Run gives t more u → Run gives s (answers ++ more) u
run_on gives s [] t more u h g = subst (λ x. Run gives x more u) (sym h) g
run_on gives s (b ∷ answers) t more u h g = (h.0, h.1, run_on gives h.0 answers t more u h.2 g)

pub moved_bytes-append : (xs ys : List Answer) → moved_bytes (xs ++ ys) ≡ moved_bytes xs ++ moved_bytes ys
moved_bytes-append [] ys = refl
moved_bytes-append (moved bytes ∷ xs) ys = ap (λ z. bytes ++ z) (moved_bytes-append xs ys) ∙ sym (append_assoc bytes (moved_bytes xs) (moved_bytes ys))
moved_bytes-append (ended ∷ xs) ys = moved_bytes-append xs ys
moved_bytes-append (again ∷ xs) ys = moved_bytes-append xs ys
moved_bytes-append (failed ∷ xs) ys = moved_bytes-append xs ys

pub all_append : {A : Type 0} (P : A → Type 0) (xs ys : List A) → AllByRecursion P xs → AllByRecursion P ys → AllByRecursion P (xs ++ ys)
all_append P [] ys h g = g
all_append P (x ∷ xs) ys h g = (h.0, all_append P xs ys h.1 g)

pub goes_more : (answers : List Answer) (a : Answer) → AllGoOn answers → GoesOn a → AllGoOn (answers ++ a ∷ [])
goes_more answers a h g = all_append GoesOn answers (a ∷ []) h (g, tt)

module _ {S : Type 0} (gives : S → Answer → S → Type 0) where
  pub nothing_so_far : (s : S) → SoFar gives s [] 0 s []
  nothing_so_far s = record { run = refl; bytes_are = refl; goes = tt; calls = refl }

  pub more_moved : {s : S} {bytes : List ℕ} {n : ℕ} {t : S} {answers : List Answer} → SoFar gives s bytes n t answers → (more : List ℕ) (u : S) → gives t (moved more) u → SoFar gives s (bytes ++ more) (n + 1) u (answers ++ moved more ∷ [])
  more_moved {s} {bytes} {n} {t} {answers} h more u g = record {
    run = run_more gives s answers t (moved more) u h.run g;
    bytes_are = moved_bytes-append answers (moved more ∷ []) ∙ (λ i. h.bytes_are i ++ append-nil more i);
    goes = goes_more answers (moved more) h.goes tt;
    calls = omega (arith, length-append answers (moved more ∷ []), h.calls);
  }

  pub more_again : {s : S} {bytes : List ℕ} {n : ℕ} {t : S} {answers : List Answer} → SoFar gives s bytes n t answers → (u : S) → gives t again u → SoFar gives s bytes (n + 1) u (answers ++ again ∷ [])
  more_again {s} {bytes} {n} {t} {answers} h u g = record {
    run = run_more gives s answers t again u h.run g;
    bytes_are = moved_bytes-append answers (again ∷ []) ∙ (append-nil (moved_bytes answers) ∙ h.bytes_are);
    goes = goes_more answers again h.goes tt;
    calls = omega (arith, length-append answers (again ∷ []), h.calls);
  }

  -- ---- writing: what went so far, and the rest
  pub wrote_all : {s : S} {sent : List ℕ} {n : ℕ} {t : S} {answers : List Answer} → SoFar gives s sent n t answers → (bytes rest : List ℕ) → sent ++ rest ≡ bytes → rest ≡ [] → WentOut gives s bytes t answers
  wrote_all {s} {sent} {n} {t} {answers} h bytes rest e none = record {
    run = h.run;
    bytes_are = h.bytes_are ∙ (sym (append-nil sent) ∙ (sym (ap (λ z. sent ++ z) none) ∙ e));
    goes = h.goes;
  }

  pub write_failed : {s : S} {sent : List ℕ} {n : ℕ} {t : S} {answers : List Answer} → SoFar gives s sent n t answers → (calls : ℕ) → calls + n < most_calls → (bytes rest : List ℕ) → sent ++ rest ≡ bytes → rest ≢ [] → (u : S) → gives t failed u → BrokeOff gives s bytes calls u (answers ++ failed ∷ [])
  write_failed {s} {sent} {n} {t} {answers} h calls few bytes rest e some u g = record {
    run = run_more gives s answers t failed u h.run g;
    left = (rest, (λ i. (moved_bytes-append answers (failed ∷ []) ∙ (append-nil (moved_bytes answers) ∙ h.bytes_are)) i ++ rest) ∙ e, some);
    ends = inl (answers, refl, h.goes);
    few = omega (arith, length-append answers (failed ∷ []), h.calls);
  }

  pub writes_ran_out : {s : S} {sent : List ℕ} {n : ℕ} {t : S} {answers : List Answer} → SoFar gives s sent n t answers → (calls : ℕ) → calls + n ≡ most_calls → (bytes rest : List ℕ) → sent ++ rest ≡ bytes → rest ≢ [] → BrokeOff gives s bytes calls t answers
  writes_ran_out {s} {sent} {n} {t} {answers} h calls is bytes rest e some = record {
    run = h.run;
    left = (rest, (λ i. h.bytes_are i ++ rest) ∙ e, some);
    ends = inr (omega (arith, h.calls), h.goes);
    few = omega (arith, h.calls);
  }

-- ---- one piece after another
pub sent_more : {S : Type 0} (takes : S → Answer → S → Type 0) (s : S) (sent : List ℕ) (n : ℕ) (t : S) (answers : List Answer) (bytes : List ℕ) (u : S) (more : List Answer) (made : ℕ)
    → SoFar takes s sent n t answers → WentOut takes t bytes u more → made ≡ n + length more → SoFar takes s (sent ++ bytes) made u (answers ++ more)
sent_more takes s sent n t answers bytes u more made h w e = record {
  run = run_on takes s answers t more u h.run w.run;
  bytes_are = moved_bytes-append answers more ∙ (λ i. h.bytes_are i ++ w.bytes_are i);
  goes = all_append GoesOn answers more h.goes w.goes;
  calls = omega (arith, length-append answers more, h.calls, e);
}

not_empty : (rest later : List ℕ) → rest ≢ [] → rest ++ later ≢ []
not_empty [] later some = λ e. some refl
not_empty (b ∷ rest) later some = λ e. cc

pub broke_off_after : {S : Type 0} (takes : S → Answer → S → Type 0) (s : S) (sent : List ℕ) (n : ℕ) (t : S) (answers : List Answer) (bytes later whole : List ℕ) (u : S) (more : List Answer)
    → SoFar takes s sent n t answers → BrokeOff takes t bytes n u more → sent ++ (bytes ++ later) ≡ whole → BrokeOff takes s whole 0 u (answers ++ more)
broke_off_after takes s sent n t answers bytes later whole u more h b e = record {
  run = run_on takes s answers t more u h.run b.run;
  left = (
    b.left.0 ++ later,
    ap (λ z. z ++ (b.left.0 ++ later)) (moved_bytes-append answers more)
        ∙ (append_assoc (moved_bytes answers) (moved_bytes more) (b.left.0 ++ later)
        ∙ (ap (λ z. moved_bytes answers ++ z) (sym (append_assoc (moved_bytes more) b.left.0 later))
        ∙ ((λ i. h.bytes_are i ++ (b.left.1 i ++ later)) ∙ e))),
    not_empty b.left.0 later b.left.2,
  );
  ends = elim b.ends [
    | inl f ↦ inl (answers ++ f.0, ap (λ z. answers ++ z) f.1 ∙ sym (append_assoc answers f.0 (failed ∷ [])), all_append GoesOn answers f.0 h.goes f.2)
    | inr f ↦ inr (omega (arith, length-append answers more, h.calls, f.0), all_append GoesOn answers more h.goes f.1)
  ];
  few = omega (arith, length-append answers more, h.calls, b.few);
}

pub went_out_after : {S : Type 0} (takes : S → Answer → S → Type 0) (s : S) (sent : List ℕ) (n : ℕ) (t : S) (answers : List Answer) (bytes whole : List ℕ) (u : S) (more : List Answer)
    → SoFar takes s sent n t answers → WentOut takes t bytes u more → sent ++ bytes ≡ whole → WentOut takes s whole u (answers ++ more)
went_out_after takes s sent n t answers bytes whole u more h w e = record {
  run = run_on takes s answers t more u h.run w.run;
  bytes_are = moved_bytes-append answers more ∙ ((λ i. h.bytes_are i ++ w.bytes_are i) ∙ e);
  goes = all_append GoesOn answers more h.goes w.goes;
}

pub took_some : (n : ℕ) (piece : List ℕ) → n ≢ 0 → write_answer (put.Bytes n) piece ≡ moved (take n piece)
took_some zero piece h = absurd (h refl)
took_some (suc n) piece h = refl

pub took_none : (n : ℕ) (piece : List ℕ) → n ≡ 0 → write_answer (put.Bytes n) piece ≡ failed
took_none n piece h = ap (λ m. write_answer (put.Bytes m) piece) h

-- the slice from a place on
pub slice_from : {A : Type 0} (n : ℕ) (xs : List A) → take (length xs - n) (drop n xs) ≡ drop n xs
slice_from n xs = take_all (length xs - n) (drop n xs) (omega (arith, length-drop n xs))

pub is_empty_test : (xs : List ℕ) (b : Bool) → b ≡ nat_eq (length xs) 0 → b ≡ true → xs ≡ []
is_empty_test xs b is set = nil_from_length xs (eqb-true (length xs) 0 (sym is ∙ set))

pub some_left : (xs : List ℕ) (b : Bool) → b ≡ nat_eq (length xs) 0 → b ≡ false → xs ≢ []
some_left [] b is unset = λ e. cc
some_left (x ∷ xs) b is unset = λ e. cc
