-- Runs of devices of the system, whose bytes are known.
use Rattle.std.proofs.Common.{◌≡◌, ℕ, List, [], ◌∷◌, ◌++◌, Option, None, Some, sym, ap, ◌∙◌, subst, append_assoc}
use Rattle.std.proofs.lemmas.List.{append-nil}
use Rattle.wl_device.specs.Devices.{Answer, moved, ended, again, failed, Run, moved_bytes, AllGoOn, ReadCall, WriteCall}
use Rattle.wl_device.specs.HostLaws.{HostLaws}

came : (front : List Answer) (bytes : List ℕ) (left : Option (List ℕ)) → AllGoOn front → Run ReadCall (Some bytes) (front ++ ended ∷ []) left
    → moved_bytes (front ++ ended ∷ []) ≡ bytes
came [] bytes left goes (None, g, e) = absurd g.0
came [] bytes left goes (Some ys, g, e) = sym (g.0 ∙ g.1)
came (moved b ∷ front) bytes left goes (None, g, r) = absurd g
came (moved b ∷ front) bytes left goes (Some ys, g, r) = ap (λ l. b ++ l) (came front ys left goes.1 r) ∙ sym g
came (again ∷ front) bytes left goes (None, g, r) = absurd g
came (again ∷ front) bytes left goes (Some ys, g, r) = came front ys left goes.1 r ∙ g
came (ended ∷ front) bytes left goes h = absurd goes.0
came (failed ∷ front) bytes left goes h = absurd goes.0

holds : (answers : List Answer) (before : List ℕ) (held : Option (List ℕ)) → Run WriteCall (Some before) answers held → held ≡ Some (before ++ moved_bytes answers)
holds [] before held e = sym e ∙ ap (λ l. Some l) (sym (append-nil before))
holds (moved b ∷ answers) before held (None, g, r) = absurd g
holds (moved b ∷ answers) before held (Some ys, g, r) = holds answers ys held r ∙ ap (λ l. Some l) (ap (λ l. l ++ moved_bytes answers) g ∙ append_assoc before b (moved_bytes answers))
holds (ended ∷ answers) before held (None, g, r) = absurd g
holds (ended ∷ answers) before held (Some ys, g, r) = holds answers ys held r ∙ ap (λ l. Some (l ++ moved_bytes answers)) (g ∙ append-nil before)
holds (again ∷ answers) before held (None, g, r) = absurd g
holds (again ∷ answers) before held (Some ys, g, r) = holds answers ys held r ∙ ap (λ l. Some (l ++ moved_bytes answers)) g
holds (failed ∷ answers) before held (None, g, r) = absurd g
holds (failed ∷ answers) before held (Some ys, g, r) = holds answers ys held r ∙ ap (λ l. Some (l ++ moved_bytes answers)) g

pub host_laws : HostLaws
host_laws = record {
  all_came = λ bytes left answers run last. subst (λ all. moved_bytes all ≡ bytes) (sym last.1) (came last.0 bytes left last.2 (subst (λ all. Run ReadCall (Some bytes) all left) last.1 run));
  all_held = λ before held answers run. holds answers before held run;
}
