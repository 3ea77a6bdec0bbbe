-- What a writer into memory holds after a run of calls, and a page that goes out.
use Rattle.std.proofs.Common.{◌≡◌, ◌++◌, ◌∷◌, [], List, ℕ, Result, Ok, Err, Option, sym, subst, ap, ◌∙◌, append_assoc}
use Rattle.std.specs.Prelude.{IfOk, MatchResult, Vec}
use Rattle.std.proofs.lemmas.List.{append-nil}
use Rattle.wl_device.specs.Bounded.{ReadsUpTo}
use Rattle.wl_device.specs.Devices.{Answer, moved, ended, again, failed, Run, moved_bytes}
use Rattle.wl_device.specs.declared.bounded.Ended.TheVariants as reading
use Rattle.wl_page.specs.Page.{page_of}
use Rattle.wl_setup.specs.Limits.{most_bytes}
use Rattle.wl_setup.specs.declared.bus.Bus.{Bus}
use Rattle.wl_views.specs.declared.tick.Tick.{Tick}
use Rattle.wl_views.specs.declared.window.Window.{Window}
use Rattle.wl_engines.specs.declared.fault.RunFault.{RunFault}
use Rattle.wl_engines.specs.declared.fault.RunFault.TheVariants.{Text, Setup, Work, Write, Memory}
use Rattle.wl_engines.specs.declared.kept.Kept.{Kept}
use Rattle.wl_engines.specs.Explained.{bus_answer}
use Rattle.wl_engines.specs.Keeping.{KeepsMore}
use Rattle.wl_engines.specs.Output.{WritesText}
use Rattle.wl_engines.specs.Paged.{IsPage, PagesAsked, PagesText}

abbrev pub keeps : Kept → Answer → Kept → Type 0
keeps s a t = KeepsMore s.bytes.items a t.bytes.items

-- all bytes that went, after what it held
pub all_kept : (s : Kept) (answers : List Answer) (t : Kept) → Run keeps s answers t → t.bytes.items ≡ s.bytes.items ++ moved_bytes answers
all_kept s [] t h = ap (λ k. k.bytes.items) (sym h) ∙ sym (append-nil s.bytes.items)
all_kept s (moved bytes ∷ answers) t h =
    all_kept h.0 answers t h.2 ∙ ap (λ held. held ++ moved_bytes answers) h.1 ∙ append_assoc s.bytes.items bytes (moved_bytes answers)
all_kept s (ended ∷ answers) t h = absurd h.1
all_kept s (again ∷ answers) t h = absurd h.1
all_kept s (failed ∷ answers) t h = all_kept h.0 answers t h.2 ∙ ap (λ held. held ++ moved_bytes answers) h.1

-- what follows of each answer follows of the answer that came
pub ok_so : {A E : Type 0} {P Q : A → Type 0} (r : Result A E) → ((x : A) → P x → Q x) → IfOk r P → IfOk r Q
ok_so (Ok x) so h = so x h
ok_so (Err e) so h = h

-- what was done with a whole text was done with what was read
pub pages_whole : {S T : Type 0} (gives : S → Answer → S → Type 0) (takes : T → Answer → T → Type 0) (tick : Tick) (asked : Option Window) (s s' : S) (t t' : T) (text : List ℕ)
    → ReadsUpTo gives s most_bytes text reading.End s' → (r : Result (Unit {0}) RunFault) → PagesText takes tick asked text t t' r → PagesAsked gives takes tick asked s s' t t' r
pages_whole gives takes tick asked s s' t t' text reads (Ok u) h = (text, reading.End, reads, h)
pages_whole gives takes tick asked s s' t t' text reads (Err Memory) h = h
pages_whole gives takes tick asked s s' t t' text reads (Err (Text fault)) h = (text, reading.End, reads, h)
pages_whole gives takes tick asked s s' t t' text reads (Err (Setup fault)) h = (text, reading.End, reads, h)
pages_whole gives takes tick asked s s' t t' text reads (Err (Work fault)) h = (text, reading.End, reads, h)
pages_whole gives takes tick asked s s' t t' text reads (Err Write) h = (text, reading.End, reads, h)

-- the page of a text's bus was made and went out, or memory ran out
module _ {T : Type 0} (takes : T → Answer → T → Type 0) (tick : Tick) (asked : Option Window) (text : List ℕ) (t t' : T) where
  pub pages_bus : {Z E : Type 0} (bus : Bus) → bus_answer text ≡ Ok bus → (made : Result (Vec ℕ Z) E) (r : Result (Unit {0}) RunFault)
      → MatchResult made (λ whole. WritesText takes whole.items t t' r) (λ e. (r ≡ Err Memory) × (t' ≡ t))
      → IfOk made (λ whole. IsPage tick asked text bus whole.items) → PagesText takes tick asked text t t' r
  pages_bus bus answer (Ok whole) (Ok u) wrote is = (bus, whole.items, answer, is, wrote)
  pages_bus bus answer (Ok whole) (Err Write) wrote is = (wrote.0, (bus, whole.items, answer, is, wrote.1))
  pages_bus bus answer (Ok whole) (Err Memory) wrote is = absurd wrote
  pages_bus bus answer (Ok whole) (Err (Text fault)) wrote is = absurd wrote
  pages_bus bus answer (Ok whole) (Err (Setup fault)) wrote is = absurd wrote
  pages_bus bus answer (Ok whole) (Err (Work fault)) wrote is = absurd wrote
  pages_bus bus answer (Err e) r none is = subst (λ (r : Result (Unit {0}) RunFault). PagesText takes tick asked text t t' r) (sym none.0) none.1

-- pages of equal texts are equal
pub same_page : {figures figures' settings settings' margin margin' traffic traffic' report report' part part' trace trace' wave wave' : List ℕ}
    (plan : List ℕ) → figures ≡ figures' → settings ≡ settings' → margin ≡ margin' → traffic ≡ traffic' → report ≡ report' → part ≡ part'
    → trace ≡ trace' → wave ≡ wave'
    → page_of (record {
      figures = figures;
      settings = settings;
      margin = margin;
      traffic = traffic;
      report = report;
      plan = plan;
      part = part;
      trace = trace;
      wave = wave;
    })
    ≡ page_of (record {
      figures = figures';
      settings = settings';
      margin = margin';
      traffic = traffic';
      report = report';
      plan = plan;
      part = part';
      trace = trace';
      wave = wave';
    })
same_page plan f s m b r p t w =
    λ i. page_of (record {
      figures = f i;
      settings = s i;
      margin = m i;
      traffic = b i;
      report = r i;
      plan = plan;
      part = p i;
      trace = t i;
      wave = w i;
    })
