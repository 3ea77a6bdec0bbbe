-- Which node's signals change first, by the calendar of what is known of each.
use Rattle.std.proofs.Common.{◌≡◌, ◌∙◌, sym, ap, arith, inl, inr, ℕ, ◌+◌, ◌*◌, ◌<◌, ◌≤◌, ◌≢◌, List, length, length-set, get_or, set, get_or-set_other, get_or-set_same}
use Rattle.std.specs.Prelude.{min}
use Rattle.std.proofs.lemmas.Bool.{cases_eq, cases_lt}
use Rattle.wl_plan.specs.declared.plan.Plan.{Plan}
use Rattle.wl_views.specs.declared.calendar.Calendar.{Calendar}
use Rattle.wl_views.specs.declared.probe.Probe.{Probe}
use Rattle.wl_views.specs.Calendar.{IsFirst, date_at}
use Rattle.wl_views.specs.Probe.{IsCalendarOf, Watches}

-- what is known holds beyond its tick
pub lasts_on : (plan : Plan) (i t : ℕ) (w : Probe) → Watches plan i t w → t < w.until
lasts_on plan i t w h =
    let p = h.hears.cable.later in
    let r = h.hears.disturbance.later in
    let q = h.later in
    let e = h.until in
    omega arith

-- a date is put where what is known of a node is
pub put_date : (end i : ℕ) (all : List Probe) (old new : Calendar) (w : Probe) → i < length all → IsCalendarOf end all old → new.nodes ≡ old.nodes
    → date_at new.tree (old.nodes + i) ≡ min w.until end * 64 + i
    → ((k : ℕ) → k < old.nodes → k ≢ i → date_at new.tree (old.nodes + k) ≡ date_at old.tree (old.nodes + k))
    → IsCalendarOf end (set all i w) new
put_date end i all old new w room is same here others =
    let long = length-set all i w in
    let count = is.nodes in
    record {
      nodes = same ∙ count ∙ sym long;
      each = λ k d b.
          let moved : date_at new.tree (new.nodes + k) ≡ date_at new.tree (old.nodes + k) = ap (λ (n : ℕ). date_at new.tree (n + k)) same in
          elim (cases_eq k i) [
            | inl this ↦
                (let put : get_or (set all i w) i d ≡ w = get_or-set_same all i w d room in
                let e = ap (λ (v : Probe). v.until) put in
                let f = ap (λ (m : ℕ). (get_or (set all i w) m d).until) this in
                let g = ap (λ (m : ℕ). date_at new.tree (old.nodes + m)) this in
                omega arith)
            | inr apart ↦
                (let put : get_or (set all i w) k d ≡ get_or all k d = get_or-set_other all i k w d apart in
                let e = ap (λ (v : Probe). v.until) put in
                let f = is.each k d (omega arith) in
                let g = others k (omega arith) apart in
                omega arith)
          ];
    }

module _ (end t : ℕ) (all : List Probe) (calendar : Calendar) (is : IsCalendarOf end all calendar) (first : ℕ × ℕ)
    (dated : IsFirst calendar.nodes calendar.tree first) (early : t < end) (few : length all ≤ 64) where
  -- the first date is that of a node, if it has come
  pub first_known : (d : Probe) → first.0 ≤ t → (first.1 < length all) × ((get_or all first.1 d).until ≡ first.0)
  first_known d come =
      let k : ℕ = dated.some.0 in
      let below : k < calendar.nodes = dated.some.1 in
      let count = is.nodes in
      let inside = dated.inside in
      let at = dated.some.2 in
      let node : k < length all = omega arith in
      let e = is.each k d node in
      let same : k ≡ first.1 = omega arith in
      let f : (get_or all k d).until ≡ first.0 = omega arith in
      (omega arith, ap (λ (m : ℕ). (get_or all m d).until) (sym same) ∙ f)

  -- no node's is before it
  pub none_before : (k : ℕ) (d : Probe) → k < length all → first.0 * 64 + first.1 ≤ min (get_or all k d).until end * 64 + k
  none_before k d b =
      let count = is.nodes in
      let e = is.each k d b in
      let less = dated.least k (omega arith) in
      omega arith

  -- and it is later than a tick, if all are
  pub later_first : (d : Probe) → ((k : ℕ) → k < length all → t < (get_or all k d).until) → t < first.0
  later_first d each = elim (cases_lt t first.0) [
    | inl later ↦ later
    | inr come ↦
        absurd (let known = first_known d (omega arith) in
        let more = each first.1 known.0 in
        let e = known.1 in
        omega arith)
  ]
