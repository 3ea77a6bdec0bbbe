-- Runs of a writer into memory.
use Rattle.std.proofs.Common.{◌≡◌, ℕ, List, [], ◌∷◌, ◌++◌, sym, ap, ◌∙◌, append_assoc, Ok, Err, Result}
use Rattle.std.proofs.lemmas.List.{append-nil}
use Rattle.wl_device.specs.Devices.{Answer, moved, ended, again, failed, Run, moved_bytes, Writes}
use Rattle.wl_device.specs.declared.device.WriteFault.{WriteFault}
use Rattle.wl_engines.specs.Keeping.{KeepsMore}

module _ {T : Type 0} (bytes : T → List ℕ) where
  abbrev pub takes : T → Answer → T → Type 0
  takes s a t = KeepsMore (bytes s) a (bytes t)

  -- what went is after what was there
  pub kept_all : (answers : List Answer) (s t : T) → Run takes s answers t → bytes t ≡ bytes s ++ moved_bytes answers
  kept_all [] s t e = ap bytes (sym e) ∙ sym (append-nil (bytes s))
  kept_all (moved b ∷ answers) s t (m, g, r) =
      kept_all answers m t r ∙ ap (λ l. l ++ moved_bytes answers) g ∙ append_assoc (bytes s) b (moved_bytes answers)
  kept_all (ended ∷ answers) s t (m, g, r) = absurd g
  kept_all (again ∷ answers) s t (m, g, r) = absurd g
  kept_all (failed ∷ answers) s t (m, g, r) = kept_all answers m t r ∙ ap (λ l. l ++ moved_bytes answers) g

  -- a text that went out whole is what there is
  pub wrote : (said : List ℕ) (s t : T) → bytes s ≡ [] → Writes takes s said (Ok tt) t → bytes t ≡ said
  wrote said s t none (answers, went, few) = kept_all answers s t went.run ∙ ap (λ l. l ++ moved_bytes answers) none ∙ went.bytes_are

  -- a text of which as much went out as could begins with what there is
  pub wrote_front : (said : List ℕ) (s t : T) (r : Result (Unit {0}) WriteFault) → bytes s ≡ [] → Writes takes s said r t → (rest : List ℕ) × (bytes t ++ rest ≡ said)
  wrote_front said s t (Ok u) none w = ([], append-nil (bytes t) ∙ wrote said s t none w)
  wrote_front said s t (Err fault) none (answers, broke) =
      (broke.left.0, ap (λ l. l ++ broke.left.0) (kept_all answers s t broke.run ∙ ap (λ l. l ++ moved_bytes answers) none) ∙ broke.left.1)
